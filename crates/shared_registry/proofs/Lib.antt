pub mod FollowLemmas
pub mod FoundedLemmas
pub mod AppendLemmas
pub mod ActLemmas
pub mod AskLemmas
pub mod JoinLemmas
pub mod LineLemmas
