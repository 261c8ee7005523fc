pub mod ReportLemmas
pub mod ViewLemmas
pub mod RecordLemmas
pub mod PieceLemmas
pub mod OnceLemmas
