pub mod Numbered
pub mod Rooms
pub mod Arms
pub mod Sized
