pub mod Shape
pub mod Stored
pub mod Inside
pub mod Making
