pub mod Refusals
pub mod Lines
pub mod Texts
pub mod Blocks
pub mod Headers
pub mod Loading
