pub mod Texts
pub mod Exact
