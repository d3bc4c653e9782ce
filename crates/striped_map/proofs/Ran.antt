-- A transaction that is run operation by operation.
use Rattle.std.proofs.Common.{rules, true, false, ◌≡◌, Bool, ℕ, ◌+◌, ◌<◌, List, [], ◌∷◌, ◌++◌, Option, Some, length, map, slice_get, slice_set, take, drop, sym, subst, refl, ap}
use Rattle.std.proofs.lemmas.List.{length-append, take_more}
use Rattle.std.proofs.lemmas.Option.{get_or_from_slice_get, slice_get_within}
use Rattle.txn_words.specs.declared.entry.Entry.TheVariants.{Began, Committed}
use Rattle.txn_words.specs.declared.op.Op.{Op}
use Rattle.txn_words.specs.declared.stop.Stop.{Stop}
use Rattle.striped_map.specs.declared.caller.Caller.{Caller}
use Rattle.striped_map.specs.Callers.{IsStep, IsStopped, keeps, number, seen}
use Rattle.striped_map.specs.Calls.{HasDone}
use Rattle.striped_map.specs.Lone.{RunsAlone}
use Rattle.striped_map.specs.Runs.{DoesAll, DoesToMiss, DoesUntil, LieIn, RunsAll, is_miss}
use Rattle.striped_map.specs.Steps.{told_of}

does_then : (strict : Bool) (ops : List Op) (replies : List (Option ℕ)) (op : Op) (reply : Option ℕ) (a b c : Caller) → DoesAll strict ops replies a b → HasDone op reply b c → is_miss strict op reply ≡ false
    → DoesAll strict (ops ++ op ∷ []) (replies ++ reply ∷ []) a c
does_then strict [] [] op reply a b c same step goes_on = (c, subst (λ (k : Caller). HasDone op reply k c) same step, goes_on, refl)
does_then strict (o ∷ ops) (r ∷ replies) op reply a b c does step goes_on = (does.0, does.1, does.2, does_then strict ops replies op reply does.0 b c does.3 step goes_on)
does_then strict _ _ op reply a b c does step goes_on = absurd does

-- The first operations, with the next one.
take_one_more : (ops : List Op) (i : ℕ) (op : Op) → slice_get ops i ≡ Some op → take (i + 1) ops ≡ take i ops ++ op ∷ []
take_one_more ops i op at = subst (λ (o : Op). take (i + 1) ops ≡ take i ops ++ o ∷ []) (get_or_from_slice_get ops i op op at) (take_more ops i op (slice_get_within ops i op at))

-- One more operation is done.
pub does_next : (strict : Bool) (ops : List Op) (i : ℕ) (op : Op) (replies : List (Option ℕ)) (reply : Option ℕ) (a b c : Caller) → slice_get ops i ≡ Some op → DoesAll strict (take i ops) replies a b
    → HasDone op reply b c → is_miss strict op reply ≡ false → DoesAll strict (take (i + 1) ops) (replies ++ reply ∷ []) a c
does_next strict ops i op replies reply a b c at does step goes_on = rw (take_one_more ops i op at) (does_then strict (take i ops) replies op reply a b c does step goes_on)

-- One more operation is done, and ends the run.
pub does_to_miss : (strict : Bool) (ops : List Op) (i : ℕ) (op : Op) (before replies : List (Option ℕ)) (reply : Option ℕ) (a b c : Caller) → slice_get ops i ≡ Some op → length before ≡ i → replies ≡ before ++ reply ∷ []
    → DoesAll strict (take i ops) before a b → HasDone op reply b c → is_miss strict op reply ≡ true → DoesToMiss strict ops replies a c
does_to_miss strict ops i op before replies reply a b c at len are does step miss = (before, reply, are, b, op, subst (λ (j : ℕ). DoesAll strict (take j ops) before a b) (sym len) does, subst (λ (j : ℕ). slice_get ops j ≡ Some op) (sym len) at, miss, step)

-- The next operation fails.
pub does_until : (strict : Bool) (ops : List Op) (i : ℕ) (op : Op) (replies : List (Option ℕ)) (a b c : Caller) (stop : Stop) → slice_get ops i ≡ Some op → length replies ≡ i → DoesAll strict (take i ops) replies a b
    → IsStopped b op c stop → DoesUntil strict ops replies a c stop
does_until strict ops i op replies a b c stop at len does stopped = rw len (b, op, does, at, stopped)

-- All operations were done, and the transaction commits.
pub runs_all : (strict : Bool) (a b c d : Caller) (ops : List Op) (replies : List (Option ℕ)) (txn : ℕ) (found : Option ℕ) → IsStep a (Began (number a) txn ∷ []) b → DoesAll strict ops replies b c
    → (c.is_open ≡ true) × (place : ℕ) × (found ≡ told_of (keeps c) place) × IsStep c (Committed (number c) place ∷ []) d × RunsAlone (number c) place (seen d) → RunsAll strict a d ops replies found
runs_all strict a b c d ops replies txn found began does done = record {
  txn = txn;
  b = b;
  began = began;
  c = c;
  does = does;
  place = done.1;
  found_is = done.2;
  committed = done.3;
  alone = done.4;
}

lies_then : {R : Type 0} (form : Option ℕ → R) (told : List (Option ℕ)) (reply : Option ℕ) (before : List R) → length told < length before → slice_set (map form told ++ drop (length told) before) (length told) (form reply) ≡ map form (told ++ reply ∷ []) ++ drop (length (told ++ reply ∷ [])) before
lies_then form [] reply [] below = search rules
lies_then form [] reply (x ∷ before) below = refl
lies_then form (t ∷ told) reply [] below = search rules
lies_then form (t ∷ told) reply (x ∷ before) below = ap (λ l. form t ∷ l) (lies_then form told reply before (search rules))

-- One more reply is written behind the others.
pub lies_next : {R : Type 0} (form : Option ℕ → R) (told : List (Option ℕ)) (reply : Option ℕ) (before after : List R) (place : ℕ) → place < length before → LieIn form told before after place → LieIn form (told ++ reply ∷ []) before (slice_set after place (form reply)) (place + 1)
lies_next form told reply before after place below lie = record {
  count = rw lie.count (sym (length-append told (reply ∷ [])));
  all = rw (lie.all, lie.count) (lies_then form told reply before (rw (← lie.count) below));
}
