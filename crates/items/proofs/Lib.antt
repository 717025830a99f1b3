pub mod Coding
pub mod Growing
pub mod Written
pub mod Skipping
