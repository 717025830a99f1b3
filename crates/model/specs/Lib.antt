pub mod Graph
pub mod Address
