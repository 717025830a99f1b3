pub mod Parts
pub mod Characters
pub mod Numbers
pub mod Joins
pub mod Tables
pub mod Spelling
