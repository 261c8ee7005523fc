pub mod AnswerLemmas
pub mod LawLemmas
pub mod ServeLemmas
pub mod ServerLemmas
pub mod TurnLemmas
