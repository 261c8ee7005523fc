pub mod PageLemmas
pub mod RequestLemmas
pub mod StatedLemmas
pub mod TreeLemmas
