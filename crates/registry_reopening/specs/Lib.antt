pub mod Runs
pub mod Recovery
pub mod Applied
pub mod Served
pub mod Opening
pub mod Chained
