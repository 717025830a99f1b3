pub mod Command
pub mod Fresh
pub mod Show
pub mod Write
