pub mod Cuts
pub mod Tokens
pub mod Numbers
pub mod Names
pub mod Reading
