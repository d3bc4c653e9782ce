pub mod DirectoryLemmas
pub mod DummyLemmas
pub mod HomeLemmas
pub mod LinkLemmas
pub mod NearestLemmas
pub mod SegmentLemmas
