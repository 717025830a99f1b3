pub mod Faults
pub mod Queues
pub mod Held
pub mod Laws
