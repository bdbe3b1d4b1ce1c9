pub mod Sections
pub mod Readers
pub mod Literals
pub mod Fits
pub mod Bodies
