-- Shows that the outcomes are true of the entries so far, because each entry keeps what is known of
-- its caller's outcomes and of the worker's `Way` (`Follows`).
use Rattle.std.proofs.Common.{◌≡◌, ◌≢◌, ℕ, Option, zero, suc, ◌+◌, ◌%◌, ◌<◌, ◌≤◌, ◌⊎◌, ◌==◌, ◌&&◌, Bool, true, false, cond, List, [], ◌∷◌, ◌++◌, length, take, drop, get_or, set, Some, None, refl, sym, ap, subst, ◌∙◌, inl, inr, arith}
use Rattle.std.specs.Prelude.{slice_get}
use Rattle.std.specs.List.{fold}
use Rattle.std.proofs.lemmas.Bool.{cases_lt, cases_order, cases_Bool, eqb-true, eq-eqb, false≢true}
use Rattle.std.proofs.lemmas.List.{drop_more, drop_all, take_more, take_all}
use Rattle.std.proofs.lemmas.List.Sums.{fold-append}
use Rattle.std.proofs.lemmas.Option.{slice_get_within, slice_get-get_or, get_or_from_slice_get, slice_get_past}
use Rattle.txn_words.specs.declared.action.Action.{Action}
use Rattle.txn_words.specs.declared.entry.Entry.{Entry}
use Rattle.txn_words.specs.declared.entry.Entry.TheVariants as entries
use Rattle.txn_words.specs.Kinds.{caller_of, is_commit}
use Rattle.txn_words.specs.Shape.{own}
use Rattle.txn_trace.specs.Plays.{IsPlayed, IsScriptOf}
use Rattle.txn_trace.proofs.Pushes.{own-push_in, own-push_out}
use Rattle.script_worker.specs.declared.outcome.Outcome.{Outcome}
use Rattle.script_worker.specs.declared.outcome.Outcome.TheVariants.{Committed, Aborted, GivenUp}
use Rattle.script_worker.specs.declared.way.Way.{Way}
use Rattle.script_worker.specs.Matches.{AbortsItself}
use Rattle.script_worker.specs.Outcomes.{grown, latest_entries, CommitsScript, AbortsScript, HasCome, AreInOrder, committed_from, committed_by, PlayInOrder, CommitsCounted, AreOutcomesOf}
use Rattle.script_worker.specs.Ways.{IsFirstPlayed, Advances, IsCountedFor, CountsAt, TakesEntry}
use Rattle.script_worker.proofs.Strides.{stride}

-- If an element of a list is written, a read gives its new value, and the other elements are
-- unchanged.
pub get-set_same : {X : Type 0} (xs : List X) (i : ℕ) (x : X) → i < length xs → slice_get (set xs i x) i ≡ Some x
get-set_same [] i x within = absurd (omega arith)
get-set_same (y ∷ ys) zero x within = refl
get-set_same (y ∷ ys) (suc i) x within = get-set_same ys i x (omega arith)

pub get-set_other : {X : Type 0} (xs : List X) (i j : ℕ) (x : X) → j ≢ i → slice_get (set xs i x) j ≡ slice_get xs j
get-set_other [] i j x apart = refl
get-set_other (y ∷ ys) zero zero x apart = absurd (apart refl)
get-set_other (y ∷ ys) zero (suc j) x apart = refl
get-set_other (y ∷ ys) (suc i) zero x apart = refl
get-set_other (y ∷ ys) (suc i) (suc j) x apart = get-set_other ys i j x (λ e. apart (ap suc e))

-- If the outcome of script `n` is a commit, the script is before the worker's position `next`. If
-- the outcome is an abort, the script is before the position `turn`. In both cases the outcome's
-- entry is among the first `fed` entries.
abbrev pub IsPast : ℕ → ℕ → ℕ → ℕ → Outcome → Type 0
IsPast next turn fed n (Committed place entry) = (n < next) × (entry < fed)
IsPast next turn fed n (Aborted entry) = (n < turn) × (entry < fed)
IsPast next turn fed n GivenUp = Unit {0}

pub past_later : (next turn fed next' turn' fed' n : ℕ) (o : Outcome) → next ≤ next' → turn ≤ turn' → fed ≤ fed' → IsPast next turn fed n o → IsPast next' turn' fed' n o
past_later next turn fed next' turn' fed' n (Committed place entry) a b d past = let x = past.0 in let y = past.1 in (omega arith, omega arith)
past_later next turn fed next' turn' fed' n (Aborted entry) a b d past = let x = past.0 in let y = past.1 in (omega arith, omega arith)
past_later next turn fed next' turn' fed' n GivenUp a b d past = tt

pub play_lower : (w : ℕ) (scripts : List (List Action)) (c low low' : ℕ) (parts : List (List Entry)) → ((n : ℕ) → low ≤ n → n % w ≡ c → low' ≤ n)
    → PlayInOrder w scripts c low parts → PlayInOrder w scripts c low' parts
play_lower w scripts c low low' [] less play = tt
play_lower w scripts c low low' (part ∷ parts) less play = (play.0, play.1, less play.0 play.2 play.3.mine, play.3, play.4, play.5)

-- The facts about the outcomes of a caller's scripts after the first `fed` entries.
pub record Known (w : ℕ) (scripts : List (List Action)) (h : List Entry) (c next turn fed : ℕ) (os : List Outcome) : Type 0 where
  pub each : (n : ℕ) (script : List Action) (o : Outcome) → IsScriptOf w scripts c n script → slice_get os n ≡ Some o → HasCome c script h o
  pub past : (n : ℕ) (o : Outcome) → n % w ≡ c → slice_get os n ≡ Some o → IsPast next turn fed n o
  pub ordered : (n m : ℕ) (o later : Outcome) → n < m → n % w ≡ c → m % w ≡ c → slice_get os n ≡ Some o → slice_get os m ≡ Some later → AreInOrder o later

-- If the outcomes of the caller's scripts are unchanged, and the positions have not fallen, `Known`
-- still holds.
pub known_on : (w : ℕ) (scripts : List (List Action)) (h : List Entry) (c next turn fed next' turn' fed' : ℕ) (os os' : List Outcome)
    → ((n : ℕ) → n % w ≡ c → slice_get os' n ≡ slice_get os n) → next ≤ next' → turn ≤ turn' → fed ≤ fed'
    → Known w scripts h c next turn fed os → Known w scripts h c next' turn' fed' os'
known_on w scripts h c next turn fed next' turn' fed' os os' agree a b d known = record {
  each = λ n script o is there. known.each n script o is (sym (agree n is.mine) ∙ there);
  past = λ n o mine there. past_later next turn fed next' turn' fed' n o a b d (known.past n o mine (sym (agree n mine) ∙ there));
  ordered = λ n m o later less mn mm tn tm. known.ordered n m o later less mn mm (sym (agree n mn) ∙ tn) (sym (agree m mm) ∙ tm);
}

-- The element of an option, or a default.
abbrev pub the_one : {X : Type 0} → X → Option X → X
the_one d None = d
the_one d (Some x) = x

read_written : (os : List Outcome) (number : ℕ) (x : Outcome) (n : ℕ) (o : Outcome) → number < length os → slice_get (set os number x) n ≡ Some o
    → ((n ≡ number) × (o ≡ x)) ⊎ (slice_get os n ≡ Some o)
read_written os number x n o within there = elim (cases_order n number) [
  | inl same ↦ inl (same, ap (the_one x) (sym there ∙ ap (slice_get (set os number x)) same ∙ get-set_same os number x within))
  | inr (inl less) ↦ inr (sym (get-set_other os number n x (λ same. omega (arith, same, less))) ∙ there)
  | inr (inr more) ↦ inr (sym (get-set_other os number n x (λ same. omega (arith, same, more))) ∙ there)
]

-- The new outcome of script `number` names the entry with index `fed`. There are two cases:
-- - The outcome is a commit, and `number` is at least the worker's position `next`.
-- - The outcome is an abort, and `number` is at least the worker's position `turn`.
abbrev pub IsNew : ℕ → ℕ → ℕ → ℕ → Outcome → Type 0
IsNew next turn fed number (Committed place entry) = (next ≤ number) × (entry ≡ fed)
IsNew next turn fed number (Aborted entry) = (turn ≤ number) × (entry ≡ fed)
IsNew next turn fed number GivenUp = ⊥

new_before : (next turn fed number m : ℕ) (x later : Outcome) → IsNew next turn fed number x → number < m → IsPast next turn fed m later → AreInOrder x later
new_before next turn fed number m (Committed place entry) (Committed p later) new less past = let a = new.0 in let b = past.0 in absurd (omega arith)
new_before next turn fed number m (Committed place entry) (Aborted later) new less past = tt
new_before next turn fed number m (Committed place entry) GivenUp new less past = tt
new_before next turn fed number m (Aborted entry) (Committed p later) new less past = tt
new_before next turn fed number m (Aborted entry) (Aborted later) new less past = let a = new.0 in let b = past.0 in absurd (omega arith)
new_before next turn fed number m (Aborted entry) GivenUp new less past = tt
new_before next turn fed number m GivenUp later new less past = absurd new

new_after : (next turn fed number n : ℕ) (o x : Outcome) → IsNew next turn fed number x → IsPast next turn fed n o → AreInOrder o x
new_after next turn fed number n (Committed p before) (Committed place entry) new past = let a = new.1 in let b = past.1 in omega arith
new_after next turn fed number n (Aborted before) (Aborted entry) new past = let a = new.1 in let b = past.1 in omega arith
new_after next turn fed number n (Committed p before) (Aborted entry) new past = tt
new_after next turn fed number n (Aborted before) (Committed place entry) new past = tt
new_after next turn fed number n GivenUp (Committed place entry) new past = tt
new_after next turn fed number n GivenUp (Aborted entry) new past = tt
new_after next turn fed number n o GivenUp new past = absurd new

pub known_written : (w : ℕ) (scripts : List (List Action)) (h : List Entry) (c next turn fed next' turn' : ℕ) (os os' : List Outcome) (number : ℕ) (x : Outcome)
    → os' ≡ set os number x → number < length os → next ≤ next' → turn ≤ turn' → IsNew next turn fed number x
    → ((script : List Action) → IsScriptOf w scripts c number script → HasCome c script h x) → IsPast next' turn' (fed + 1) number x
    → Known w scripts h c next turn fed os → Known w scripts h c next' turn' (fed + 1) os'
known_written w scripts h c next turn fed next' turn' os os' number x is within a b new came here known = record {
  each = λ n script o mine there. elim (read n o there) [
    | inl hit ↦ subst (HasCome c script h) (sym hit.1) (came script (subst (λ k. IsScriptOf w scripts c k script) hit.0 mine))
    | inr old ↦ known.each n script o mine old
  ];
  past = λ n o mine there. elim (read n o there) [
    | inl hit ↦ subst (λ k. IsPast next' turn' (fed + 1) k o) (sym hit.0) (subst (IsPast next' turn' (fed + 1) number) (sym hit.1) here)
    | inr old ↦ past_later next turn fed next' turn' (fed + 1) n o a b (omega arith) (known.past n o mine old)
  ];
  ordered = λ n m o later less mn mm tn tm. elim (read n o tn) [
    | inl hit ↦ elim (read m later tm) [
      | inl also ↦ let p = hit.0 in let q = also.0 in absurd (omega arith)
      | inr old ↦ subst (λ y. AreInOrder y later) (sym hit.1) (new_before next turn fed number m x later new (let p = hit.0 in omega arith) (known.past m later mm old))
    ]
    | inr before ↦ elim (read m later tm) [
      | inl hit ↦ subst (AreInOrder o) (sym hit.1) (new_after next turn fed number n o x new (known.past n o mn before))
      | inr old ↦ known.ordered n m o later less mn mm before old
    ]
  ];
}
  where
    read : (n : ℕ) (o : Outcome) → slice_get os' n ≡ Some o → ((n ≡ number) × (o ≡ x)) ⊎ (slice_get os n ≡ Some o)
    read n o there = read_written os number x n o within (ap (λ ys. slice_get ys n) (sym is) ∙ there)

-- The facts about a caller's outcomes and its `Way` after the first `fed` entries.
pub record Follows (w : ℕ) (scripts : List (List Action)) (h : List Entry) (c fed : ℕ) (os : List Outcome) (way : Way) : Type 0 where
  pub part : way.part.items ≡ latest_entries c (take fed h)
  pub next : way.next % w ≡ c
  pub turn : way.turn % w ≡ c
  pub order : way.next ≤ way.turn
  pub known : Known w scripts h c way.next way.turn fed os
  pub counted : PlayInOrder w scripts c 0 (committed_by c h)
      → PlayInOrder w scripts c way.next (committed_from c way.part.items (drop fed h)) × CommitsCounted w c fed h os

module _ (w : ℕ) (scripts : List (List Action)) (h : List Entry) (c fed : ℕ) (e : Entry) (at : slice_get h fed ≡ Some e) where
  next_entries : take (fed + 1) h ≡ take fed h ++ e ∷ []
  next_entries = take_more h fed e (slice_get_within h fed e at) ∙ ap (λ x. take fed h ++ x ∷ []) (get_or_from_slice_get h fed e e at)

  left_entries : drop fed h ≡ e ∷ drop (fed + 1) h
  left_entries = drop_more h fed e (slice_get_within h fed e at) ∙ ap (λ x. x ∷ drop (fed + 1) h) (get_or_from_slice_get h fed e e at)

  grown_part : caller_of e ≡ c → latest_entries c (take (fed + 1) h) ≡ grown (latest_entries c (take fed h)) e
  grown_part mine = ap (latest_entries c) next_entries ∙ ap (fold grown []) (own-push_in c (take fed h) e mine) ∙ fold-append grown [] (own c (take fed h)) (e ∷ [])

  same_part : (caller_of e == c) ≡ false → latest_entries c (take (fed + 1) h) ≡ latest_entries c (take fed h)
  same_part other = ap (latest_entries c) next_entries ∙ ap (fold grown []) (own-push_out c (take fed h) e other)

  passed_over : (part : List Entry) → (caller_of e == c) ≡ false → committed_from c part (drop fed h) ≡ committed_from c part (drop (fed + 1) h)
  passed_over part other =
      ap (committed_from c part) left_entries
      ∙ ap (λ b. cond b (cond (is_commit e) (grown part e ∷ committed_from c (grown part e) (drop (fed + 1) h)) (committed_from c (grown part e) (drop (fed + 1) h))) (committed_from c part (drop (fed + 1) h))) other

  taken_in : (part : List Entry) → caller_of e ≡ c
      → committed_from c part (drop fed h) ≡ cond (is_commit e) (grown part e ∷ committed_from c (grown part e) (drop (fed + 1) h)) (committed_from c (grown part e) (drop (fed + 1) h))
  taken_in part mine =
      ap (committed_from c part) left_entries
      ∙ ap (λ b. cond b (cond (is_commit e) (grown part e ∷ committed_from c (grown part e) (drop (fed + 1) h)) (committed_from c (grown part e) (drop (fed + 1) h))) (committed_from c part (drop (fed + 1) h))) (eq-eqb (caller_of e) c mine)

  counted_on : (os os' : List Outcome) → CommitsCounted w c fed h os
      → ((n place entry : ℕ) → n % w ≡ c → slice_get os n ≡ Some (Committed place entry) → slice_get os' n ≡ Some (Committed place entry))
      → ((place : ℕ) → e ≡ entries.Committed c place → (n : ℕ) × (n % w ≡ c) × (slice_get os' n ≡ Some (Committed place fed)))
      → CommitsCounted w c (fed + 1) h os'
  counted_on os os' counted keep here entry place less there = elim (cases_lt entry fed) [
    | inl before ↦ let (n, mine, is) = counted entry place before there in (n, mine, keep n place entry mine is)
    | inr past ↦
        let now : entry ≡ fed = omega arith in
        let (n, mine, is) = here place (ap (the_one e) (sym at ∙ ap (slice_get h) (sym now) ∙ there)) in
        (n, mine, is ∙ ap (λ k. Some (Committed place k)) (sym now))
  ]

  -- After an entry of another caller, `Follows` still holds.
  pub other_follows : (os os' : List Outcome) (way : Way) → (caller_of e == c) ≡ false → ((n : ℕ) → n % w ≡ c → slice_get os' n ≡ slice_get os n)
      → Follows w scripts h c fed os way → Follows w scripts h c (fed + 1) os' way
  other_follows os os' way other agree f = record {
    part = f.part ∙ sym (same_part other);
    next = f.next;
    turn = f.turn;
    order = f.order;
    known = known_on w scripts h c way.next way.turn fed way.next way.turn (fed + 1) os os' agree (omega arith) (omega arith) (omega arith) f.known;
    counted = λ play. let old = f.counted play in (
      subst (PlayInOrder w scripts c way.next) (passed_over way.part.items other) old.0,
      counted_on os os' old.1 (λ n place entry mine is. agree n mine ∙ is)
          (λ place is. absurd (false≢true (sym other ∙ eq-eqb (caller_of e) c (ap caller_of is)))),
    );
  }

  module _ (os os' : List Outcome) (old new : Way) (mine : caller_of e ≡ c) (sized : length os ≡ length scripts) (f : Follows w scripts h c fed os old) (grows : new.part.items ≡ grown old.part.items e) (on : Advances w old new) where
    part_is : new.part.items ≡ latest_entries c (take (fed + 1) h)
    part_is = grows ∙ ap (λ p. grown p e) f.part ∙ sym (grown_part mine)

    quiet_play : is_commit e ≡ false → new.next ≡ old.next → PlayInOrder w scripts c old.next (committed_from c old.part.items (drop fed h)) → PlayInOrder w scripts c new.next (committed_from c new.part.items (drop (fed + 1) h))
    quiet_play quiet same play =
        subst (λ k. PlayInOrder w scripts c k (committed_from c new.part.items (drop (fed + 1) h))) (sym same)
        (subst (λ p. PlayInOrder w scripts c old.next (committed_from c p (drop (fed + 1) h))) (sym grows)
        (subst (PlayInOrder w scripts c old.next) (taken_in old.part.items mine ∙ ap (λ b. cond b (grown old.part.items e ∷ committed_from c (grown old.part.items e) (drop (fed + 1) h)) (committed_from c (grown old.part.items e) (drop (fed + 1) h))) quiet) play))

    no_commit : is_commit e ≡ false → (place : ℕ) → e ≡ entries.Committed c place → ⊥
    no_commit quiet place is = false≢true (sym quiet ∙ ap is_commit is)

    -- If the entry is no commit and nothing is counted, `Follows` still holds.
    quiet_follows : is_commit e ≡ false → new.next ≡ old.next → os' ≡ os → Follows w scripts h c (fed + 1) os' new
    quiet_follows quiet same outcomes = record {
      part = part_is;
      next = on.next_mine ∙ f.next;
      turn = on.turn_mine ∙ f.turn;
      order = on.order;
      known = known_on w scripts h c old.next old.turn fed new.next new.turn (fed + 1) os os' (λ n m. ap (λ ys. slice_get ys n) outcomes) on.next on.turn (omega arith) f.known;
      counted = λ play. let before = f.counted play in (
        quiet_play quiet same before.0,
        counted_on os os' before.1 (λ n place entry m is. ap (λ ys. slice_get ys n) outcomes ∙ is) (λ place is. absurd (no_commit quiet place is)),
      );
    }

    -- If an outcome is written for a later script, a commit that was counted stays counted.
    kept : (number : ℕ) (x : Outcome) → os' ≡ set os number x → old.next ≤ number → (n place entry : ℕ) → n % w ≡ c → slice_get os n ≡ Some (Committed place entry) → slice_get os' n ≡ Some (Committed place entry)
    kept number x is low n place entry m there =
        let before = (f.known.past n (Committed place entry) m there).0 in
        ap (λ ys. slice_get ys n) is ∙ get-set_other os number n x (λ same. omega (arith, same, before, low)) ∙ there

    -- If an abort is counted, `Follows` still holds.
    abort_follows : e ≡ entries.Aborted c → new.next ≡ old.next → (number : ℕ) → old.turn ≤ number → number % w ≡ old.turn % w → IsCountedFor scripts (Aborted fed) number new.turn os os'
        → ((script : List Action) → slice_get scripts number ≡ Some script → AbortsItself script new.part.items) → Follows w scripts h c (fed + 1) os' new
    abort_follows ends same number from its counts did =
        let low : old.next ≤ number = let a = f.order in omega arith in
        let within : number < length os = let a = counts.within in omega arith in
        let quiet : is_commit e ≡ false = ap is_commit ends in
        record {
          part = part_is;
          next = on.next_mine ∙ f.next;
          turn = on.turn_mine ∙ f.turn;
          order = on.order;
          known = known_written w scripts h c old.next old.turn fed new.next new.turn os os' number (Aborted fed) counts.counted within on.next on.turn (from, refl)
              (λ script is. record { at = at ∙ ap (λ x. Some x) ends; did = subst (AbortsItself script) part_is (did script is.there) }) (counts.passed, omega arith) f.known;
          counted = λ play. let before = f.counted play in (
            quiet_play quiet same before.0,
            counted_on os os' before.1 (kept number (Aborted fed) counts.counted low) (λ place is. absurd (no_commit quiet place is)),
          );
        }

    commit_play : (place : ℕ) → e ≡ entries.Committed c place → PlayInOrder w scripts c old.next (committed_from c old.part.items (drop fed h))
        → PlayInOrder w scripts c old.next (grown old.part.items e ∷ committed_from c (grown old.part.items e) (drop (fed + 1) h))
    commit_play place ends play =
        subst (PlayInOrder w scripts c old.next) (taken_in old.part.items mine ∙ ap (λ b. cond b (grown old.part.items e ∷ committed_from c (grown old.part.items e) (drop (fed + 1) h)) (committed_from c (grown old.part.items e) (drop (fed + 1) h))) (ap is_commit ends)) play

    no_later : (number : ℕ) → IsFirstPlayed w scripts new.part.items old.next number → (parts : List (List Entry)) → (play : PlayInOrder w scripts c old.next (grown old.part.items e ∷ parts)) → number ≤ play.0
    no_later number first parts play = elim (cases_lt play.0 number) [
      | inl early ↦ absurd (first.passed play.0 play.1 play.2 early (play.3.mine ∙ sym f.next) play.3.there (subst (IsPlayed play.1) (sym grows) play.4))
      | inr late ↦ late
    ]

    -- If a commit is counted, `Follows` still holds.
    commit_follows : (place : ℕ) → e ≡ entries.Committed c place → (number : ℕ) → IsFirstPlayed w scripts new.part.items old.next number → IsCountedFor scripts (Committed place fed) number new.next os os'
        → new.next ≡ number + w → Follows w scripts h c (fed + 1) os' new
    commit_follows place ends number first counts then =
        let within : number < length os = let a = counts.within in omega arith in
        let mine_too : number % w ≡ c = first.mine ∙ f.next in
        record {
          part = part_is;
          next = on.next_mine ∙ f.next;
          turn = on.turn_mine ∙ f.turn;
          order = on.order;
          known = known_written w scripts h c old.next old.turn fed new.next new.turn os os' number (Committed place fed) counts.counted within on.next on.turn (first.from, refl)
              (λ script is. record { at = at ∙ ap (λ x. Some x) ends; plays = subst (IsPlayed script) part_is (first.plays script is.there) }) (counts.passed, omega arith) f.known;
          counted = λ play.
              let before = f.counted play in
              let here = commit_play place ends before.0 in
              let late = no_later number first (committed_from c (grown old.part.items e) (drop (fed + 1) h)) here in
              let rest : PlayInOrder w scripts c (suc here.0) (committed_from c new.part.items (drop (fed + 1) h)) =
              subst (λ p. PlayInOrder w scripts c (suc here.0) (committed_from c p (drop (fed + 1) h))) (sym grows) here.5 in (
                play_lower w scripts c (suc here.0) new.next (committed_from c new.part.items (drop (fed + 1) h))
                    (λ n low own_one. let far = stride w number n (mine_too ∙ sym own_one) (omega arith) in omega arith) rest,
                counted_on os os' before.1 (kept number (Committed place fed) counts.counted first.from)
                    (λ p is. (number, mine_too, ap (λ ys. slice_get ys number) counts.counted ∙ get-set_same os number (Committed place fed) within ∙ ap (λ k. Some (Committed k fed)) (place_of place p (sym ends ∙ is)))),
              );
        }
      where
        place_in : Entry → ℕ
        place_in (entries.Committed d p) = p
        place_in _ = 0

        place_of : (p q : ℕ) → entries.Committed c p ≡ entries.Committed c q → p ≡ q
        place_of p q is = ap place_in is

    -- If the transaction commits but plays none of the caller's scripts from the position `next`
    -- on, `Follows` still holds.
    lost_follows : (place : ℕ) → e ≡ entries.Committed c place → (number : ℕ) → IsFirstPlayed w scripts new.part.items old.next number → length scripts ≤ number → os' ≡ os → Follows w scripts h c (fed + 1) os' new
    lost_follows place ends number first past same = record {
      part = part_is;
      next = on.next_mine ∙ f.next;
      turn = on.turn_mine ∙ f.turn;
      order = on.order;
      known = known_on w scripts h c old.next old.turn fed new.next new.turn (fed + 1) os os' (λ n m. ap (λ ys. slice_get ys n) same) on.next on.turn (omega arith) f.known;
      counted = λ play.
          let here = commit_play place ends (f.counted play).0 in
          let late = no_later number first (committed_from c (grown old.part.items e) (drop (fed + 1) h)) here in
          let there = slice_get_within scripts here.0 here.1 here.3.there in
          absurd (omega arith);
    }

-- `Follows` still holds after the caller's next entry.
pub own_follows : (w : ℕ) (scripts : List (List Action)) (h : List Entry) (c fed : ℕ) (e : Entry) (os os' : List Outcome) (old new : Way) → slice_get h fed ≡ Some e → caller_of e ≡ c
    → length os ≡ length scripts → TakesEntry w scripts e fed old new os os' → Follows w scripts h c fed os old → Follows w scripts h c (fed + 1) os' new
own_follows w scripts h c fed (entries.Committed d place) os os' old new at mine sized goes f =
    let ends : entries.Committed d place ≡ entries.Committed c place = ap (λ k. entries.Committed k place) mine in
    let (number, first, cases) = goes.counts in
    elim cases [
      | inl hit ↦ commit_follows w scripts h c fed (entries.Committed d place) at os os' old new mine sized f goes.part goes.on place ends number first hit.0 hit.1
      | inr lost ↦ lost_follows w scripts h c fed (entries.Committed d place) at os os' old new mine sized f goes.part goes.on place ends number first lost.0 lost.1
    ]
own_follows w scripts h c fed (entries.Aborted d) os os' old new at mine sized goes f =
    elim goes.counts.1 [
      | inl hit ↦ abort_follows w scripts h c fed (entries.Aborted d) at os os' old new mine sized f goes.part goes.on (ap entries.Aborted mine) goes.counts.0 hit.0 hit.1 hit.2 hit.3 hit.4
      | inr same ↦ quiet_follows w scripts h c fed (entries.Aborted d) at os os' old new mine sized f goes.part goes.on refl goes.counts.0 same
    ]
own_follows w scripts h c fed e os os' old new at mine sized goes f =
    quiet_follows w scripts h c fed e at os os' old new mine sized f goes.part goes.on refl goes.counts.0 goes.counts.1

-- There is a `Way` for each worker and an outcome for each script, and `Follows` holds for each
-- worker after the first `fed` entries.
pub record AllFollow (w : ℕ) (scripts : List (List Action)) (h : List Entry) (fed : ℕ) (os : List Outcome) (ways : List Way) : Type 0 where
  pub size : length ways ≡ w
  pub one_each : length os ≡ length scripts
  pub each : (c : ℕ) (way : Way) → slice_get ways c ≡ Some way → Follows w scripts h c fed os way
