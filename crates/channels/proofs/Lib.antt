mod Turns
mod Outs
mod Runs
