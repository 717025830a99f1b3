pub mod Handing
pub mod Files
