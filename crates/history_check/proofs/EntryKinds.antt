-- Shows the stance, log, maps and holders after an entry that breaks no rule, because such an entry
-- has the shape, the reply and the holder that the law of its kind asks for.
use Rattle.std.proofs.Common.{◌≡◌, ℕ, ◌+◌, ◌-◌, ◌<◌, ◌==◌, ◌&&◌, Bool, true, false, cond, not, List, [], ◌∷◌, ◌++◌, take, length, slice_index, refl, ap, sym, ◌∙◌, Some, None, Option, is_some, arith}
use Rattle.std.specs.Prelude.{nat_eq, nat_lt}
use Rattle.std.specs.Option.{option_eq}
use Rattle.std.proofs.lemmas.Bool.{false≢true, and_parts, eqb-true, ltb-true}
use mathlib.Core.Logic.{◌⊎◌, inl, inr}
use Rattle.txn_words.specs.declared.op.Op.{Op}
use Rattle.txn_words.specs.declared.entry.Entry.{Entry}
use Rattle.txn_words.specs.declared.holder.Holder.{Holder}
use Rattle.txn_words.specs.declared.entry.Entry.TheVariants.{Began, Asked, Did, Saved, Leave, Undone, Returned, Committed, Busy, Aborted}
use Rattle.txn_words.specs.Map.{key_of, reply_of, after, set_at}
use Rattle.txn_words.specs.Kinds.{caller_of, is_began, is_commit}
use Rattle.txn_trace.specs.Serial.{serial}
use Rattle.txn_trace.specs.Now.{now}
use Rattle.txn_trace.specs.Locks.{stripe_of, holder_of, is_locked}
use Rattle.txn_words.specs.declared.stance.Phase.{Phase}
use Rattle.txn_words.specs.declared.stance.Phase.TheVariants.{Closed, Opened, Waiting, LeavingTo, LeavingToEnd}
use Rattle.txn_words.specs.Shape.{Stance, closed_stance, changes, row, stance_after, own, how_many, is_numbered, is_shaped}
use Rattle.txn_trace.specs.Log.{log_of}
use Rattle.txn_trace.specs.Legal.{IsLegal, replies_hold, broken}
use Rattle.txn_trace.proofs.RuleBreaks.{is_right_in, replies_hold-push}
use Rattle.txn_trace.proofs.Now.{same_option}
use Rattle.txn_trace.proofs.EntrySteps.{Next, is_shaped_is}
use Rattle.txn_trace.proofs.Entries as entries
use Rattle.txn_trace.proofs.Settled.{settled}
use Rattle.history_check.specs.Callers.{goal_of}

-- If an entry breaks no rule, it has the right shape and the right reply, and it keeps the rule of
-- locks.
pub breaks_none : (holder : Holder) (stripes : ℕ) (g : List Entry) (e : Entry) → broken holder stripes g e ≡ None → (is_shaped g e ≡ true) × (replies_hold (g ++ e ∷ []) ≡ true) × (is_locked holder stripes g e ≡ true)
breaks_none holder stripes g e is = at (is_shaped g e) (replies_hold (g ++ e ∷ [])) (is_locked holder stripes g e) is
  where
    at : (a b c : Bool) → cond {A = Option ℕ} (not a) (Some 3) (cond (not b) (Some 1) (cond (not c) (Some 2) None)) ≡ None → (a ≡ true) × (b ≡ true) × (c ≡ true)
    at false b c h = absurd (cc (h))
    at true false c h = absurd (cc (h))
    at true true false h = absurd (cc (h))
    at true true true h = (refl, refl, refl)

-- The results `a`, `b` and `c` of an entry's three tests determine which rule the entry breaks.
pub broken_by : (holder : Holder) (stripes : ℕ) (g : List Entry) (e : Entry) (a b c : Bool) → is_shaped g e ≡ a → replies_hold (g ++ e ∷ []) ≡ b → is_locked holder stripes g e ≡ c
    → broken holder stripes g e ≡ cond {A = Option ℕ} (not a) (Some 3) (cond {A = Option ℕ} (not b) (Some 1) (cond {A = Option ℕ} (not c) (Some 2) None))
broken_by holder stripes g e a b c shaped right locked = λ i. cond {A = Option ℕ} (not (shaped i)) (Some 3) (cond {A = Option ℕ} (not (right i)) (Some 1) (cond {A = Option ℕ} (not (locked i)) (Some 2) None))

-- The next lemmas say for each kind of entry in which phases it is allowed.
only_closed : (s : Stance) (q : Phase) (c t : ℕ) → is_some (row s q (Began c t)) ≡ true → q ≡ Closed
only_closed s Closed c t h = refl
only_closed s _ c t h = absurd (false≢true h)

asked_opened : (s : Stance) (q : Phase) (c : ℕ) (op : Op) → is_some (row s q (Asked c op)) ≡ true → q ≡ Opened
asked_opened s Opened c op h = refl
asked_opened s _ c op h = absurd (false≢true h)

busy_opened : (s : Stance) (q : Phase) (c : ℕ) (op : Op) (x : ℕ) → is_some (row s q (Busy c op x)) ≡ true → q ≡ Opened
busy_opened s Opened c op x h = refl
busy_opened s _ c op x h = absurd (false≢true h)

saved_opened : (s : Stance) (q : Phase) (c : ℕ) → is_some (row s q (Saved c)) ≡ true → q ≡ Opened
saved_opened s Opened c h = refl
saved_opened s _ c h = absurd (false≢true h)

committed_opened : (s : Stance) (q : Phase) (c p : ℕ) → is_some (row s q (Committed c p)) ≡ true → q ≡ Opened
committed_opened s Opened c p h = refl
committed_opened s _ c p h = absurd (false≢true h)

pub did_waits : (s : Stance) (q : Phase) (c : ℕ) (x : Option ℕ) → is_some (row s q (Did c x)) ≡ true → (op : Op) × (q ≡ Waiting op)
did_waits s (Waiting op) c x h = (op, refl)
did_waits s _ c x h = absurd (false≢true h)

leave_end_from : (s : Stance) (q : Phase) (c : ℕ) → is_some (row s q (Leave c None)) ≡ true → (q ≡ Opened) ⊎ ((op : Op) × (q ≡ Waiting op))
leave_end_from s Opened c h = inl refl
leave_end_from s (Waiting op) c h = inr (op, refl)
leave_end_from s _ c h = absurd (false≢true h)

some_if : {A : Type 0} (b : Bool) (x : A) → is_some (cond b (Some x) None) ≡ true → b ≡ true
some_if true x h = refl
some_if false x h = absurd (false≢true h)

leave_to_from : (s : Stance) (q : Phase) (c n : ℕ) → is_some (row s q (Leave c (Some n))) ≡ true → (q ≡ Opened) × (n < length s.kept)
leave_to_from s Opened c n h = (refl, ltb-true n (length s.kept) (some_if (nat_lt n (length s.kept)) _ h))
leave_to_from s _ c n h = absurd (false≢true h)

undone_from : (s : Stance) (q : Phase) (c : ℕ) → is_some (row s q (Undone c)) ≡ true → ((n : ℕ) × (q ≡ LeavingTo n) × (slice_index s.kept n < s.standing)) ⊎ ((q ≡ LeavingToEnd) × (0 < s.standing))
undone_from s (LeavingTo n) c h = inl (n, refl, ltb-true _ _ (some_if (nat_lt (slice_index s.kept n) s.standing) _ h))
undone_from s LeavingToEnd c h = inr (refl, ltb-true _ _ (some_if (nat_lt 0 s.standing) _ h))
undone_from s _ c h = absurd (false≢true h)

-- If an Undone entry is allowed, the caller has at least one standing change.
pub undone_some : (s : Stance) (q : Phase) (c : ℕ) → is_some (row s q (Undone c)) ≡ true → 0 < s.standing
undone_some s q c h = elim (undone_from s q c h) [
  | inl to ↦ (let more = to.2 in omega arith)
  | inr end ↦ end.1
]

returned_from : (s : Stance) (q : Phase) (c m : ℕ) → is_some (row s q (Returned c m)) ≡ true → (q ≡ LeavingTo m) × (slice_index s.kept m ≡ s.standing)
returned_from s (LeavingTo n) c m h =
    let parts = and_parts (n == m) (slice_index s.kept n == s.standing) (some_if ((n == m) && (slice_index s.kept n == s.standing)) _ h) in
    let same : n ≡ m = eqb-true n m parts.0 in
    (ap LeavingTo same, ap (slice_index s.kept) (sym same) ∙ eqb-true _ _ parts.1)
returned_from s _ c m h = absurd (false≢true h)

aborted_from : (s : Stance) (q : Phase) (c : ℕ) → is_some (row s q (Aborted c)) ≡ true → (q ≡ LeavingToEnd) × (s.standing ≡ 0)
aborted_from s LeavingToEnd c h = (refl, eqb-true s.standing 0 (some_if (s.standing == 0) _ h))
aborted_from s _ c h = absurd (false≢true h)

module _ {holder : Holder} (stripes : ℕ) (g : List Entry) (legal : IsLegal holder stripes g) (c : ℕ) (stance : Stance) (stance_is : stance_after (own c g) ≡ Some stance) where
  -- If an entry of the caller has the right shape, `row` allows it for the caller's stance, and the
  -- number in it is right.
  pub in_row : (e : Entry) → caller_of e ≡ c → is_shaped g e ≡ true → (is_some (row stance stance.phase e) ≡ true) × (is_numbered g e ≡ true)
  in_row e mine shaped = and_parts (is_some (row stance stance.phase e)) (is_numbered g e) (sym (is_shaped_is g e stance (ap (λ d. stance_after (own d g)) mine ∙ stance_is)) ∙ shaped)

  pub next-began : (t : ℕ) → broken holder stripes g (Began c t) ≡ None → Next holder stripes g (Began c t) (record closed_stance { phase = Opened }) [] (serial g) (now g) (λ s. holder_of stripes s g)
  next-began t fine =
      let shape = in_row (Began c t) refl (breaks_none holder stripes g (Began c t) fine).0 in
      entries.began stripes g legal c t stance stance_is (only_closed stance stance.phase c t shape.0) (eqb-true t _ shape.1)

  -- If a Began entry breaks no rule, its number is one more than the number of Began entries before
  -- it.
  pub number-began : (t : ℕ) → broken holder stripes g (Began c t) ≡ None → t ≡ how_many is_began g + 1
  number-began t fine = eqb-true t _ (in_row (Began c t) refl (breaks_none holder stripes g (Began c t) fine).0).1

  pub number-committed : (p : ℕ) → broken holder stripes g (Committed c p) ≡ None → p ≡ how_many is_commit g + 1
  number-committed p fine = eqb-true p _ (in_row (Committed c p) refl (breaks_none holder stripes g (Committed c p) fine).0).1

  pub next-asked : (op : Op) → broken holder stripes g (Asked c op) ≡ None
      → Next holder stripes g (Asked c op) (record stance { phase = Waiting op }) (log_of c g) (serial g) (now g) (λ s. cond (stripe_of stripes (key_of op) == s) (Some c) (holder_of stripes s g))
  next-asked op fine =
      let tests = breaks_none holder stripes g (Asked c op) fine in
      entries.asked stripes g legal c op stance stance_is (asked_opened stance stance.phase c op (in_row (Asked c op) refl tests.0).0) tests.2

  pub next-busy : (op : Op) (x : ℕ) → broken holder stripes g (Busy c op x) ≡ None
      → Next holder stripes g (Busy c op x) (record stance { phase = LeavingToEnd }) (log_of c g) (serial g) (now g) (λ s. holder_of stripes s g)
  next-busy op x fine =
      let tests = breaks_none holder stripes g (Busy c op x) fine in
      entries.busy stripes g legal c op x stance stance_is (busy_opened stance stance.phase c op x (in_row (Busy c op x) refl tests.0).0) tests.2

  pub next-saved : broken holder stripes g (Saved c) ≡ None
      → Next holder stripes g (Saved c) (record stance { kept = stance.kept ++ stance.standing ∷ [] }) (log_of c g) (serial g) (now g) (λ s. holder_of stripes s g)
  next-saved fine = entries.saved stripes g legal c stance stance_is (saved_opened stance stance.phase c (in_row (Saved c) refl (breaks_none holder stripes g (Saved c) fine).0).0)

  pub next-leave : (n : Option ℕ) → broken holder stripes g (Leave c n) ≡ None
      → Next holder stripes g (Leave c n) (record stance { phase = goal_of n }) (log_of c g) (serial g) (now g) (λ s. holder_of stripes s g)
  next-leave None fine = elim (leave_end_from stance stance.phase c (in_row (Leave c None) refl (breaks_none holder stripes g (Leave c None) fine).0).0) [
    | inl opened ↦ entries.left_to_end stripes g legal c stance stance_is opened
    | inr waits ↦ entries.withdrawn stripes g legal c waits.0 stance stance_is waits.1
  ]
  next-leave (Some n) fine =
      let from = leave_to_from stance stance.phase c n (in_row (Leave c (Some n)) refl (breaks_none holder stripes g (Leave c (Some n)) fine).0).0 in
      entries.left_to stripes g legal c n stance stance_is from.0 from.1

  pub next-undone : (job : ℕ × Option ℕ) (jobs : List (ℕ × Option ℕ)) → log_of c g ≡ job ∷ jobs → broken holder stripes g (Undone c) ≡ None
      → Next holder stripes g (Undone c) (record stance { standing = stance.standing - 1 }) jobs (serial g) (set_at (now g) job.0 job.1) (λ s. holder_of stripes s g)
  next-undone job jobs log_is fine = elim (undone_from stance stance.phase c (in_row (Undone c) refl (breaks_none holder stripes g (Undone c) fine).0).0) [
    | inl to ↦ entries.undone_to stripes g legal c to.0 stance stance_is to.1 to.2 job jobs log_is
    | inr end ↦ entries.undone_to_end stripes g legal c stance stance_is end.0 end.1 job jobs log_is
  ]

  pub next-returned : (n : ℕ) → broken holder stripes g (Returned c n) ≡ None
      → Next holder stripes g (Returned c n) (record stance { phase = Opened; kept = take (n + 1) stance.kept }) (log_of c g) (serial g) (now g) (λ s. holder_of stripes s g)
  next-returned n fine =
      let from = returned_from stance stance.phase c n (in_row (Returned c n) refl (breaks_none holder stripes g (Returned c n) fine).0).0 in
      entries.returned stripes g legal c n stance stance_is from.0 from.1

  pub next-committed : (p : ℕ) → broken holder stripes g (Committed c p) ≡ None
      → Next holder stripes g (Committed c p) closed_stance [] (settled (serial g) (now g) (log_of c g)) (now g) (λ s. cond (option_eq nat_eq (holder_of stripes s g) (Some c)) None (holder_of stripes s g))
  next-committed p fine =
      let shape = in_row (Committed c p) refl (breaks_none holder stripes g (Committed c p) fine).0 in
      entries.committed stripes g legal c p stance stance_is (committed_opened stance stance.phase c p shape.0) (eqb-true p _ shape.1)

  pub next-aborted : broken holder stripes g (Aborted c) ≡ None
      → Next holder stripes g (Aborted c) closed_stance [] (serial g) (now g) (λ s. cond (option_eq nat_eq (holder_of stripes s g) (Some c)) None (holder_of stripes s g))
  next-aborted fine =
      let from = aborted_from stance stance.phase c (in_row (Aborted c) refl (breaks_none holder stripes g (Aborted c) fine).0).0 in
      entries.aborted stripes g legal c stance stance_is from.0 from.1

  -- Suppose that the caller waits for an operation, and that a Did entry has the right shape. The
  -- entry's reply is right exactly if the map as it is now gives this reply to the operation.
  pub did_right : (op : Op) (x : Option ℕ) → stance.phase ≡ Waiting op → is_shaped g (Did c x) ≡ true → replies_hold (g ++ Did c x ∷ []) ≡ option_eq nat_eq x (reply_of (now g) op)
  did_right op x waits shaped =
      replies_hold-push stripes g legal (Did c x) shaped
      ∙ ap (λ (o : Option Stance). elim o as (λ o. Bool) [ None ↦ true | Some s ↦ is_right_in g s.phase x ]) stance_is ∙ ap (λ q. is_right_in g q x) waits

  pub next-did : (op : Op) (x : Option ℕ) → stance.phase ≡ Waiting op → broken holder stripes g (Did c x) ≡ None
      → Next holder stripes g (Did c x) (record stance { phase = Opened; standing = cond (changes op x) (stance.standing + 1) stance.standing })
      (cond (changes op x) ((key_of op, x) ∷ log_of c g) (log_of c g)) (serial g) (after (now g) op) (λ s. holder_of stripes s g)
  next-did op x waits fine =
      let tests = breaks_none holder stripes g (Did c x) fine in
      entries.did stripes g legal c op x stance stance_is waits (same_option x (reply_of (now g) op) (sym (did_right op x waits tests.0) ∙ tests.1))
