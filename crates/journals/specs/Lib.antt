pub mod Handing
pub mod Stops
