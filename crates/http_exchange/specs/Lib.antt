pub mod Answers
pub mod Bodies
pub mod Exchanges
pub mod Heads
