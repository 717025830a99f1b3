pub mod Lowest
pub mod Sound
pub mod Back
pub mod Least
pub mod Verdicts
pub mod Exact
pub mod Named
