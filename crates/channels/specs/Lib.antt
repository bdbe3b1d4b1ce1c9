pub mod Outs
pub mod Runs
