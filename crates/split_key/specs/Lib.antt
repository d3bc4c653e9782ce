pub mod Sort
pub mod SortAt
pub mod Split
pub mod Swap
pub mod Text
