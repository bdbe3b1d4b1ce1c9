pub mod Code
pub mod Levels
pub mod Bounds
pub mod Literals
pub mod Sections
pub mod Trees
pub mod Measures
pub mod Cards
