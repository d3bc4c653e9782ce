-- The turns of the judge's loops.
use Rattle.std.proofs.Common.{ℕ, zero, suc, ◌+◌, ◌<◌, ◌≤◌, List, [], ◌∷◌, length, take, get_or, refl, sym, subst, arith}
use Rattle.std.specs.HashMap.{HashMap}
use Rattle.std.specs.List.{All}
use Rattle.std.proofs.lemmas.List.{take_more, take_all}
use Rattle.std.proofs.lemmas.List.Elements.{All-more}
use mathlib.Core.Logic.{inl, inr}
use Rattle.order_check.specs.declared.access.Access.{Access}
use Rattle.order_check.specs.declared.link.Link.{Link}
use Rattle.order_check.specs.declared.replacers.Replacers.{Replacers}
use Rattle.order_check.specs.declared.table.Doer.{Doer}
use Rattle.order_check.specs.Graphs.{Graph}
use Rattle.order_check.specs.Tables.{Version, IsAmong}
use Rattle.order_check.specs.Joined.{IsJoined, Keeps, EdgesOne}
use Rattle.order_check.specs.Outcomes.{IsOnce}
use Rattle.order_check.proofs.Noting.{among_cases, no_access}
use Rattle.order_check.proofs.AccessEdges.{more_edge}

pub among_at : (xs : List Access) (i : ℕ) (d : Access) → i < length xs → IsAmong (get_or xs i d) xs
among_at [] i d below = absurd (omega arith)
among_at (x ∷ xs) zero d below = inl refl
among_at (x ∷ xs) (suc i) d below = inr (among_at xs i d (omega arith))

pub joined_more : (accesses : List Access) (replacers : Replacers) (old new : Graph) (a : Access) → Keeps old new → IsJoined accesses replacers old a → IsJoined accesses replacers new a
joined_more accesses replacers old new a keeps was = record {
  reads = λ t is. more_edge old new t a.txn keeps (was.reads t is);
  replaces = λ f is apart. more_edge old new a.txn f keeps (was.replaces f is apart);
  twice = λ f is apart changed. more_edge old new f a.txn keeps (was.twice f is apart changed);
}

pub all_joined : (replacers : Replacers) (accesses xs : List Access) (i : ℕ) (old new : Graph) → i < length xs → EdgesOne accesses replacers (get_or xs i no_access) old new
    → ((a : Access) → IsAmong a (take i xs) → IsJoined accesses replacers old a) → (a : Access) → IsAmong a (take (i + 1) xs) → IsJoined accesses replacers new a
all_joined replacers accesses xs i old new below one before a is_in =
    elim (among_cases a (get_or xs i no_access) (take i xs) (subst (IsAmong a) (take_more xs i no_access below) is_in)) [
      | inl early ↦ joined_more accesses replacers old new a one.keeps (before a early)
      | inr last ↦ subst (IsJoined accesses replacers new) last one.joined
    ]

pub at_end : (accesses : List Access) (replacers : Replacers) (xs : List Access) (i : ℕ) (graph : Graph) → length xs ≤ i → ((a : Access) → IsAmong a (take i xs) → IsJoined accesses replacers graph a) → (a : Access) → IsAmong a xs → IsJoined accesses replacers graph a
at_end accesses replacers xs i graph end all a is_in = all a (subst (IsAmong a) (sym (take_all i xs end)) is_in)

pub once_more : {S : Type 0} (accesses : List Access) (writers : HashMap Version Doer S) (edges : List Link) (i : ℕ) (d : Link) → i < length edges → All (IsOnce accesses writers) (take i edges) → IsOnce accesses writers (get_or edges i d) → All (IsOnce accesses writers) (take (i + 1) edges)
once_more accesses writers edges i d below all here = All-more (IsOnce accesses writers) edges i d below all here

pub once_all : {S : Type 0} (accesses : List Access) (writers : HashMap Version Doer S) (edges : List Link) (i : ℕ) → length edges ≤ i → All (IsOnce accesses writers) (take i edges) → All (IsOnce accesses writers) edges
once_all accesses writers edges i end all = subst (All (IsOnce accesses writers)) (take_all i edges end) all
