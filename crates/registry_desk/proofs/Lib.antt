pub mod AnsweredLemmas
pub mod AskLemmas
pub mod CacheLemmas
pub mod LawLemmas
pub mod QueryLemmas
pub mod ServeLemmas
pub mod ServerLemmas
