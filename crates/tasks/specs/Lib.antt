pub mod Rooms
pub mod Views
pub mod Moves
pub mod Steps
