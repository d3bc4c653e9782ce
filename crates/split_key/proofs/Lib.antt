pub mod SplitLemmas
pub mod AncestorLemmas
mod SwapLemmas
pub mod PackedLemmas
pub mod SortLemmas
