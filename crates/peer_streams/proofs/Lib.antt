pub mod DiscardLemmas
