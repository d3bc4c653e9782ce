-- Lemmas of lower crates that several proofs cite. Declares nothing.
pub use Rattle.node_list.proofs.NodesLemmas.{found_linked, place-found}
pub use Rattle.node_list.proofs.OrderLemmas.{each_found, each_linked, some-injective, some-none}
pub use Rattle.split_key.proofs.SplitLemmas.{reversed_even}
pub use Rattle.std.proofs.lemmas.Bool.{cases_eq, eq-eqb, false≢true, ne_eqb}
pub use Rattle.std.proofs.lemmas.Option.{slice_get-map}
pub use Rattle.std.proofs.lemmas.Result.{err_from_is_err_and}
pub use Rattle.txn_words.proofs.Maps.{get-insert, get-remove, get-set_at, same_map}
pub use Rattle.txn_words.proofs.Order.{Rises}
