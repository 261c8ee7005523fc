pub mod RepliesLemmas
pub mod RunThroughLemmas
pub mod RecoveryLemmas
pub mod AppliedLemmas
pub mod ClosingLemmas
pub mod ServedLemmas
