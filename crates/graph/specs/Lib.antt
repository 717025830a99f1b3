pub mod Line
pub mod Rows
pub mod Draft
pub mod Faults
pub mod Verdict
pub mod Write
pub mod Applies
