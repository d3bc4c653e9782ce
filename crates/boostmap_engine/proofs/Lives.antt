-- The workers that have a step to take, and the list of their numbers.
use Rattle.std.proofs.Common.{◌≡◌, ℕ, zero, suc, ◌+◌, ◌<◌, ◌≤◌, Bool, true, false, cond, List, [], ◌∷◌, ◌++◌, length, take, drop, get_or}
use Rattle.std.proofs.Common.{set, remove, count_by, Option, Some, None, is_some, inl, inr, subst, refl, sym, ap, ◌∙◌, arith, add-one}
use Rattle.std.proofs.Common.{one-add, drop-cons, append_assoc, append-nil}
use Rattle.boostmap_engine.proofs.Vocabulary.{AreFinished, IsAtPlace, live, live_from, Task, Worker}
use Rattle.script_worker.proofs.Vocabulary.{All-cons, All-nil, cases_Bool, count_by_more_no, drop_all, is_count_by, IsReady, step_by}

abbrev lives : Worker → Bool
lives w = is_some (step_by w)

-- `live_from` lists as many numbers as there are live workers.
pub length-live : (n : ℕ) (ws : List Worker) → length (live_from n ws) ≡ live ws
length-live n [] = refl
length-live n (w ∷ ws) = elim (cases_Bool (lives w)) [
  | inl on ↦ rw (on, length-live (suc n) ws)
  | inr idle ↦ rw (idle, length-live (suc n) ws)
]

-- At `place`, the list has the number of a live worker. Exactly `place` live workers precede this
-- worker.
abbrev Stands : List Worker → ℕ → List ℕ → ℕ → ℕ → Type 0
Stands ws n numbers place d =
    (i : ℕ) × (get_or numbers place d ≡ n + i) × (i < length ws) × (live (take i ws) ≡ place) × (live (take (suc i) ws) ≡ suc place)

stands : (n : ℕ) (ws : List Worker) (place d : ℕ) → place < length (live_from n ws) → Stands ws n (live_from n ws) place d
stands n [] place d less = absurd (omega (arith, less))
stands n (w ∷ ws) place d less = by (lives w) refl place (λ p. stands (suc n) ws p d) less
  where
    later : List ℕ
    later = live_from (suc n) ws

    by : (b : Bool) → lives w ≡ b → (place : ℕ) → ((p : ℕ) → p < length later → Stands ws (suc n) later p d)
        → place < length (cond b (n ∷ later) later) → Stands (w ∷ ws) n (cond b (n ∷ later) later) place d
    by true is zero others less = (0, omega arith, omega arith, refl, rw is)
    by true is (suc place) others less =
        let (i, at, within, before, on) = others place (omega (arith, less)) in
        (suc i, omega (arith, at), omega (arith, within), rw (is, before), rw (is, on))
    by false is place others less =
        let (i, at, within, before, on) = others place less in
        (suc i, omega (arith, at), omega (arith, within), rw is before, rw is on)

pub drawn : (ws : List Worker) (numbers : List ℕ) (place number : ℕ) → numbers ≡ live_from 0 ws → place < length numbers → number ≡ get_or numbers place number → IsAtPlace ws place number
drawn ws numbers place number is less at =
    let (i, here, within, before, on) = stands 0 ws place number (rw is at less) in
    let zero_on : 0 + i ≡ i = omega arith in
    subst (IsAtPlace ws place) (sym (at ∙ ap (λ ns. get_or ns place number) is ∙ here ∙ zero_on))
    (record { within = within; before = before; lives = ap (λ k. live (take k ws)) (add-one i) ∙ on ∙ sym (add-one place) })

live-count : (ws : List Worker) → live ws ≡ count_by lives ws
live-count ws = is_count_by live lives refl (λ w ws. ap (λ n. cond (lives w) n (live ws)) (sym (one-add (live ws)))) ws

-- A worker that was drawn has a step to take.
pub lives_at : (ws : List Worker) (place i : ℕ) (d : Worker) → IsAtPlace ws place i → lives (get_or ws i d) ≡ true
lives_at ws place i d at = elim (cases_Bool (lives (get_or ws i d))) [
  | inl on ↦ on
  | inr idle ↦
      let same = live-count (take (i + 1) ws) ∙ count_by_more_no lives ws i d at.within idle ∙ sym (live-count (take i ws)) in
      absurd (omega (arith, same, at.before, at.lives))
]

-- The list after the worker at a place has taken a turn. If the worker has a step left, the list is
-- unchanged. If not, the number at this place is removed.
still_live : (n : ℕ) (ws : List Worker) (i : ℕ) (d after : Worker) → i < length ws → lives (get_or ws i d) ≡ true → lives after ≡ true
    → live_from n (set ws i after) ≡ live_from n ws
still_live n [] i d after within was is = refl
still_live n (w ∷ ws) zero d after within was is = rw (is, was)
still_live n (w ∷ ws) (suc i) d after within was is = rw (still_live (suc n) ws i d after (omega (arith, within)) was is)

no_more_live : (n : ℕ) (ws : List Worker) (i : ℕ) (d after : Worker) → i < length ws → lives (get_or ws i d) ≡ true → lives after ≡ false
    → live_from n (set ws i after) ≡ remove (live_from n ws) (live (take i ws))
no_more_live n [] i d after within was is = absurd (omega (arith, within))
no_more_live n (w ∷ ws) zero d after within was is = rw (is, was)
no_more_live n (w ∷ ws) (suc i) d after within was is =
    let later = no_more_live (suc n) ws i d after (omega (arith, within)) was is in elim (cases_Bool (lives w)) [
      | inl on ↦ rw (on, later)
      | inr idle ↦ rw (idle, later)
    ]

pub removed : (ws : List Worker) (numbers left : List ℕ) (place i : ℕ) (before after : Worker) → numbers ≡ live_from 0 ws
    → before ≡ get_or ws i before → IsAtPlace ws place i → lives after ≡ false
    → left ≡ remove numbers place → left ≡ live_from 0 (set ws i after)
removed ws numbers left place i before after is at found over left_is =
    left_is ∙ (λ k. remove (is k) (sym found.before k)) ∙ sym (no_more_live 0 ws i before after found.within (lives_at ws place i before found) over)

pub kept : (ws : List Worker) (numbers : List ℕ) (place i : ℕ) (before after : Worker) → numbers ≡ live_from 0 ws
    → before ≡ get_or ws i before → IsAtPlace ws place i → lives after ≡ true
    → numbers ≡ live_from 0 (set ws i after)
kept ws numbers place i before after is at found on = is ∙ sym (still_live 0 ws i before after found.within (lives_at ws place i before found) on)

-- If no worker has a step to take, none has a script left.
no_script : (o : Option Task) → is_some o ≡ false → o ≡ None
no_script None is = refl
no_script (Some task) is = absurd (cc is)

pub all_done : (ws : List Worker) → ((i : ℕ) (d : Worker) → i < length ws → IsReady (get_or ws i d)) → live ws ≡ 0 → AreFinished ws
all_done [] ready none = All-nil (λ (x : Worker). x.task ≡ None)
all_done (w ∷ ws) ready none = elim (cases_Bool (lives w)) [
  | inl on ↦ absurd (cc (on, none))
  | inr idle ↦ All-cons (λ (x : Worker). x.task ≡ None) w ws (no_script w.task (sym (ready 0 w (omega arith)) ∙ idle))
      (all_done ws (λ i d within. ready (suc i) d (omega (arith, within))) (rw idle at none))
]

-- An invariant of the loop over the workers: the numbers listed so far, followed by the numbers of
-- the live workers that come later, are the numbers of all live workers.
pub next_number : (n : ℕ) (ws : List Worker) (numbers more : List ℕ) (w : Worker) (b : Bool) → n < length ws → w ≡ get_or ws n w
    → lives w ≡ b
    → more ≡ cond b (numbers ++ n ∷ []) numbers → numbers ++ live_from n (drop n ws) ≡ live_from 0 ws
    → more ++ live_from (n + 1) (drop (n + 1) ws) ≡ live_from 0 ws
next_number n ws numbers more w b within at is more_is so_far =
    rw (more_is, add-one n) (by b is (rw (drop-cons ws n w within, ← at) at so_far))
  where
    rest : List ℕ
    rest = live_from (suc n) (drop (suc n) ws)

    by : (b : Bool) → lives w ≡ b → numbers ++ live_from n (w ∷ drop (suc n) ws) ≡ live_from 0 ws
        → cond b (numbers ++ n ∷ []) numbers ++ rest ≡ live_from 0 ws
    by true is so_far = rw append_assoc (rw is at so_far)
    by false is so_far = rw is at so_far

pub all_seen : (n : ℕ) (ws : List Worker) (numbers : List ℕ) → length ws ≤ n → numbers ++ live_from n (drop n ws) ≡ live_from 0 ws → numbers ≡ live_from 0 ws
all_seen n ws numbers past so_far = rw (drop_all n ws past, append-nil) at so_far
