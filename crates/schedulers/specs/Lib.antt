pub mod CardOrders
pub mod Schedulers
pub mod Fronts
pub mod Rounds
