pub mod Sheets
pub mod Appends
