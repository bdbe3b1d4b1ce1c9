pub mod Fine
pub mod Serials
pub mod Stacks
pub mod Sections
pub mod Effects
pub mod Steps
pub mod Piles
pub mod Begins
