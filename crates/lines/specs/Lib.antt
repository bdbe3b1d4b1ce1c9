pub mod States
pub mod Rows
pub mod Stored
pub mod Same
pub mod Clears
pub mod Changes
pub mod Offers
pub mod Lines
