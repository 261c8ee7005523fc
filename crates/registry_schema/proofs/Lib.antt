pub mod TextLemmas
pub mod GrowLemmas
pub mod VersionLemmas
pub mod NameLemmas
pub mod StepLemmas
