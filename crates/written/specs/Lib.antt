pub mod Written
pub mod Formed
pub mod Offences
pub mod First
pub mod Laws
