pub mod Cursors
pub mod Follows
pub mod Lines
pub mod Records
pub mod Asks
pub mod Founded
