pub mod Number
pub mod Words
pub mod Name
pub mod Laws
