-- Lemmas of lower crates that several proofs cite. Declares nothing.
pub use Rattle.owned_map.proofs.Only.{after}
pub use Rattle.std.proofs.lemmas.Bool.{false≢true}
pub use Rattle.std.proofs.lemmas.Option.{get_or_from_slice_get, slice_get_within}
pub use Rattle.striped_map.proofs.AdditionLemmas.{own-append}
pub use Rattle.striped_map.proofs.Hands.{own_extends}
pub use Rattle.txn_trace.proofs.Now.{same_option}
pub use Rattle.txn_words.proofs.Maps.{get-insert-here}
