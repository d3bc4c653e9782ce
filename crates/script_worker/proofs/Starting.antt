-- The facts about each worker hold before the first entry; after the last entry they give the
-- outcomes.
use Rattle.std.proofs.Common.{◌≡◌, ◌≢◌, ℕ, zero, suc, ◌+◌, ◌%◌, ◌<◌, ◌≤◌, ◌⊎◌, List, [], ◌∷◌, ◌++◌, length, take, drop, Some, None, Option, refl, sym, ap, subst, ◌∙◌, inl, inr, arith}
use Rattle.std.specs.Prelude.{slice_get}
use Rattle.std.proofs.Math.Nat.{mod-eq_of_lt, mod-le}
use Rattle.std.proofs.lemmas.List.{length_push, take_all, drop_all}
use Rattle.std.proofs.lemmas.Option.{slice_get_within}
use Rattle.txn_words.specs.declared.action.Action.{Action}
use Rattle.txn_words.specs.declared.entry.Entry.{Entry}
use Rattle.script_worker.specs.declared.outcome.Outcome.{Outcome}
use Rattle.script_worker.specs.declared.outcome.Outcome.TheVariants.{Committed, Aborted, GivenUp}
use Rattle.script_worker.specs.declared.way.Way.{Way}
use Rattle.script_worker.specs.Outcomes.{HasCome, AreInOrder, PlayInOrder, CommitsCounted, AreOutcomesOf, AreOutcomes, committed_by, committed_from}
use Rattle.script_worker.specs.Ways.{AreFresh, AreNone}
use Rattle.script_worker.proofs.OutcomeSteps.{IsPast, Known, Follows, AllFollow, the_one}

pub read_push : {X : Type 0} (xs : List X) (x y : X) (n : ℕ) → slice_get (xs ++ x ∷ []) n ≡ Some y → ((n ≡ length xs) × (y ≡ x)) ⊎ (slice_get xs n ≡ Some y)
read_push [] x y zero there = inl (refl, sym (ap (the_one x) there))
read_push [] x y (suc n) there = absurd (cc (there))
read_push (z ∷ xs) x y zero there = inr there
read_push (z ∷ xs) x y (suc n) there = elim (read_push xs x y n there) [ inl hit ↦ inl (ap suc hit.0, hit.1) | inr old ↦ inr old ]

pub fresh_push : (w : ℕ) (ways : List Way) (way : Way) → way.part.items ≡ [] → way.next ≡ w → way.turn ≡ w → AreFresh w ways → AreFresh (w + 1) (ways ++ way ∷ [])
fresh_push w ways way part next turn fresh = record {
  size = length_push ways way ∙ ap (λ (n : ℕ). n + 1) fresh.size;
  each = λ c other there. elim (read_push ways way other c there) [
    | inl hit ↦
        let number : w ≡ c = sym fresh.size ∙ sym hit.0 in
        (ap (λ (x : Way). x.part.items) hit.1 ∙ part, ap (λ (x : Way). x.next) hit.1 ∙ next ∙ number, ap (λ (x : Way). x.turn) hit.1 ∙ turn ∙ number)
    | inr old ↦ fresh.each c other old
  ];
}

pub none_push : (n : ℕ) (os : List Outcome) → AreNone n os → AreNone (n + 1) (os ++ GivenUp ∷ [])
none_push n os none = record {
  size = length_push os GivenUp ∙ ap (λ (k : ℕ). k + 1) none.size;
  each = λ k o there. elim (read_push os GivenUp o k there) [ inl hit ↦ hit.1 | inr old ↦ none.each k o old ];
}

pub all_start : (w : ℕ) (scripts : List (List Action)) (h : List Entry) (os : List Outcome) (ways : List Way) → AreFresh w ways → AreNone (length scripts) os → AllFollow w scripts h 0 os ways
all_start w scripts h os ways fresh none = record {
  size = fresh.size;
  one_each = none.size;
  each = λ c way there.
      let (part, next, turn) = fresh.each c way there in
      let inside = slice_get_within ways c way there in
      let size = fresh.size in
      let small : c % w ≡ c = mod-eq_of_lt (omega arith) in
      record {
        part = part;
        next = ap (λ k. k % w) next ∙ small;
        turn = ap (λ k. k % w) turn ∙ small;
        order = omega arith;
        known = record {
          each = λ n script o is got. subst (HasCome c script h) (sym (none.each n o got)) tt;
          past = λ n o mine got. subst (IsPast way.next way.turn 0 n) (sym (none.each n o got)) tt;
          ordered = λ n m o later less mn mm tn tm. subst (λ x. AreInOrder x later) (sym (none.each n o tn)) tt;
        };
        counted = λ play. (
          begins c way.next way.part.items next part play,
          λ entry place less at. absurd (omega arith),
        );
      };
}
  where
    lower : (c low : ℕ) (parts : List (List Entry)) → c ≡ low → PlayInOrder w scripts c 0 parts → PlayInOrder w scripts c low parts
    lower c low [] same play = tt
    lower c low (part ∷ parts) same play = (play.0, play.1, at_least play.0 play.3.mine, play.3, play.4, play.5)
      where
        at_least : (n : ℕ) → n % w ≡ c → low ≤ n
        at_least n mine = let small : n % w ≤ n = mod-le n w in omega arith

    begins : (c low : ℕ) (part : List Entry) → low ≡ c → part ≡ [] → PlayInOrder w scripts c 0 (committed_by c h) → PlayInOrder w scripts c low (committed_from c part h)
    begins c low part next is play = subst (λ p. PlayInOrder w scripts c low (committed_from c p h)) (sym is) (lower c low (committed_by c h) (sym next) play)

pub all_end : (w : ℕ) (scripts : List (List Action)) (h : List Entry) (os : List Outcome) (ways : List Way) (fed : ℕ) → length h ≤ fed → fed ≤ length h → AllFollow w scripts h fed os ways → AreOutcomes w scripts h os
all_end w scripts h os ways fed past within all = record {
  one_each = all.one_each;
  of = λ c less.
      let size = all.size in
      let (way, there) = some_way ways c (omega arith) in
      let f = all.each c way there in
      let same : fed ≡ length h = omega arith in
      record {
        each = f.known.each;
        ordered = λ n m script other o later below mine also tn tm. f.known.ordered n m o later below mine.mine also.mine tn tm;
        all = λ play. subst (λ k. CommitsCounted w c k h os) same (f.counted play).1;
      };
}
  where
    some_way : (ways : List Way) (c : ℕ) → c < length ways → (way : Way) × (slice_get ways c ≡ Some way)
    some_way [] c less = absurd (omega arith)
    some_way (way ∷ ways) zero less = (way, refl)
    some_way (way ∷ ways) (suc c) less = some_way ways c (omega arith)
