-- The facts about the outcomes and about each worker's `Way` still hold after one more entry.
use Rattle.std.proofs.Common.{◌≡◌, ◌≢◌, ℕ, zero, suc, ◌+◌, ◌%◌, ◌<◌, ◌≤◌, ◌⊎◌, ◌==◌, Bool, true, false, List, [], ◌∷◌, ◌++◌, length, take, drop, set, Some, None, Option, refl, sym, ap, subst, ◌∙◌, inl, inr, arith, length-set}
use Rattle.std.specs.Prelude.{slice_get}
use Rattle.std.proofs.lemmas.Bool.{cases_order, eqb-true, cases_Bool}
use Rattle.std.proofs.lemmas.List.{take_all, drop_all, append-nil}
use Rattle.std.proofs.lemmas.Option.{slice_get_within}
use Rattle.txn_words.specs.declared.action.Action.{Action}
use Rattle.txn_words.specs.declared.entry.Entry.{Entry}
use Rattle.txn_words.specs.declared.entry.Entry.TheVariants as entries
use Rattle.txn_words.specs.Kinds.{caller_of}
use Rattle.script_worker.specs.declared.outcome.Outcome.{Outcome}
use Rattle.script_worker.specs.declared.way.Way.{Way}
use Rattle.script_worker.specs.Ways.{CountsAt, IsCountedFor, TakesEntry, MayCount}
use Rattle.script_worker.proofs.OutcomeSteps.{Follows, AllFollow, own_follows, other_follows, get-set_same, get-set_other, the_one}

apart : (n m : ℕ) → n ≢ m → (n == m) ≡ false
apart n m not = elim (cases_Bool (n == m)) [ inl is ↦ absurd (not (eqb-true n m is)) | inr is ↦ is ]

-- Either no outcome is written, or one outcome is written, for a script of the entry's caller.
abbrev pub WritesOwn : ℕ → List (List Action) → Entry → List Outcome → List Outcome → Type 0
WritesOwn w scripts e os os' = (os' ≡ os) ⊎ ((number : ℕ) × (o : Outcome) × (number % w ≡ caller_of e) × (os' ≡ set os number o))

pub writes_own : (w : ℕ) (scripts : List (List Action)) (e : Entry) (entry : ℕ) (part : List Entry) (old new : Way) (os os' : List Outcome) → old.next % w ≡ caller_of e → old.turn % w ≡ caller_of e
    → CountsAt w scripts e entry part old new os os' → WritesOwn w scripts e os os'
writes_own w scripts (entries.Committed c place) entry part old new os os' next turn counts =
    let (number, first, cases) = counts in
    elim cases [ inl hit ↦ inr (number, _, first.mine ∙ next, hit.0.counted) | inr lost ↦ inl lost.1 ]
writes_own w scripts (entries.Aborted c) entry part old new os os' next turn counts =
    elim counts.1 [ inl hit ↦ inr (hit.0, _, hit.2 ∙ turn, hit.3.counted) | inr same ↦ inl same ]
writes_own w scripts e entry part old new os os' next turn counts = inl counts.1

module _ (w : ℕ) (scripts : List (List Action)) (h : List Entry) (fed : ℕ) (e : Entry) (at : slice_get h fed ≡ Some e) (os : List Outcome) (ways : List Way) (all : AllFollow w scripts h fed os ways) where
  pub may_count : (way : Way) → slice_get ways (caller_of e) ≡ Some way → MayCount w scripts way os
  may_count way there =
      let f = all.each (caller_of e) way there in
      let inside = slice_get_within ways (caller_of e) way there in
      let size = all.size in
      record { some = omega arith; one_each = all.one_each; order = f.order; mine = f.next ∙ sym f.turn }

  -- If the entry's caller has no worker, `AllFollow` still holds after the entry.
  pub all_skip : length ways ≤ caller_of e → AllFollow w scripts h (fed + 1) os ways
  all_skip past = record {
    size = all.size;
    one_each = all.one_each;
    each = λ c way there.
        let inside = slice_get_within ways c way there in
        other_follows w scripts h c fed e at os os way (apart (caller_of e) c (λ same. omega (arith, same, past, inside))) (λ n mine. refl) (all.each c way there);
  }

  -- After a worker has processed an entry of its caller, `AllFollow` still holds.
  pub all_step : (os' : List Outcome) (old new : Way) (ways' : List Way) → slice_get ways (caller_of e) ≡ Some old → TakesEntry w scripts e fed old new os os' → ways' ≡ set ways (caller_of e) new
      → AllFollow w scripts h (fed + 1) os' ways'
  all_step os' old new ways' there goes is = record {
    size = ap length is ∙ length-set ways (caller_of e) new ∙ all.size;
    one_each = elim own [ inl same ↦ ap length same ∙ all.one_each | inr wrote ↦ ap length wrote.3 ∙ length-set os wrote.0 wrote.1 ∙ all.one_each ];
    each = λ c way got. elim (cases_order c (caller_of e)) [
      | inl here ↦
          subst (λ k. Follows w scripts h k (fed + 1) os' way) (sym here)
          (subst (Follows w scripts h (caller_of e) (fed + 1) os') (at_it way (ap (λ k. slice_get ways' k) (sym here) ∙ got))
          (own_follows w scripts h (caller_of e) fed e os os' old new at refl all.one_each goes f))
      | inr (inl less) ↦ beside c way (λ same. omega (arith, same, less)) got
      | inr (inr more) ↦ beside c way (λ same. omega (arith, same, more)) got
    ];
  }
    where
      f : Follows w scripts h (caller_of e) fed os old
      f = all.each (caller_of e) old there

      own : WritesOwn w scripts e os os'
      own = writes_own w scripts e fed new.part.items old new os os' f.next f.turn goes.counts

      at_it : (way : Way) → slice_get ways' (caller_of e) ≡ Some way → new ≡ way
      at_it way got =
          ap (the_one new) (sym (get-set_same ways (caller_of e) new (slice_get_within ways (caller_of e) old there)) ∙ ap (λ ws. slice_get ws (caller_of e)) (sym is) ∙ got)

      beside : (c : ℕ) (way : Way) → c ≢ caller_of e → slice_get ways' c ≡ Some way → Follows w scripts h c (fed + 1) os' way
      beside c way not got =
          let before : slice_get ways c ≡ Some way = sym (get-set_other ways (caller_of e) c new not) ∙ ap (λ ws. slice_get ws c) (sym is) ∙ got in
          other_follows w scripts h c fed e at os os' way (apart (caller_of e) c (λ same. not (sym same))) (agree c not) (all.each c way before)
        where
          agree : (c : ℕ) → c ≢ caller_of e → (n : ℕ) → n % w ≡ c → slice_get os' n ≡ slice_get os n
          agree c not n mine = elim own [
            | inl same ↦ ap (λ ys. slice_get ys n) same
            | inr wrote ↦ ap (λ ys. slice_get ys n) wrote.3 ∙ get-set_other os wrote.0 n wrote.1 (λ same. not (sym mine ∙ ap (λ k. k % w) same ∙ wrote.2))
          ]

pub may_same : (w w' : ℕ) (ss ss' : List (List Action)) (way : Way) (os os' : List Outcome) → w' ≡ w → ss' ≡ ss → os' ≡ os → MayCount w ss way os → MayCount w' ss' way os'
may_same w w' ss ss' way os os' a b d may =
    subst (λ k. MayCount k ss' way os') (sym a) (subst (λ k. MayCount w k way os') (sym b) (subst (MayCount w ss way) (sym d) may))

pub goes_same : (w w' : ℕ) (ss ss' : List (List Action)) (e : Entry) (k : ℕ) (old new : Way) (os os' now : List Outcome) → w' ≡ w → ss' ≡ ss → os' ≡ os → TakesEntry w' ss' e k old new os' now → TakesEntry w ss e k old new os now
goes_same w w' ss ss' e k old new os os' now a b d goes =
    subst (λ x. TakesEntry x ss e k old new os now) a (subst (λ x. TakesEntry w' x e k old new os now) b (subst (λ x. TakesEntry w' ss' e k old new x now) d goes))

-- If a list is overwritten by a list of the same length, the result is the second list.
pub whole_written : (os now : List Outcome) (len : ℕ) → length now ≡ length os → len ≡ length os → take len (now ++ drop (length now) os) ≡ now
whole_written os now len same is =
    ap (λ more. take len (now ++ more)) (drop_all (length now) os (omega (arith, same))) ∙ ap (take len) (append-nil now) ∙ take_all len now (omega (arith, same, is))
