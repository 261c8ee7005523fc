pub mod BodyLemmas
pub mod CallLemmas
pub mod EndLemmas
pub mod HeadLemmas
