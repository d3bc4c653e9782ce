pub mod Vocabulary
pub mod OwnedTransfers
pub mod StripedTransfers
pub mod Transfers
pub mod Visits
