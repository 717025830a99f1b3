mod Slots
mod Numbered
mod Added
pub mod Lent
pub mod Order
