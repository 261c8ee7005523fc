pub mod GetsLemmas
pub mod LogLemmas
pub mod ResultLemmas
pub mod SessionLemmas
