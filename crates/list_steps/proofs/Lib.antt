pub mod NodeLemmas
pub mod SeekLemmas
pub mod ContentLemmas
pub mod OrderLemmas
pub mod CursorLemmas
pub mod SweepLemmas
pub mod StepLemmas
