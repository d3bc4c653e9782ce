-- In a history of the right shape, a caller's stance agrees with the run of its transaction. So the
-- run rejects an entry of the right shape only if the entry's reply is wrong.
use Rattle.std.proofs.Common.{◌≡◌, ℕ, zero, suc, ◌+◌, ◌-◌, ◌<◌, ◌==◌, Bool, true, false, cond, ◌&&◌, List, [], ◌∷◌, ◌++◌, map, length, take, slice_get, slice_index, refl, ap, sym, subst, ◌∙◌, Some, None, Option, is_some, arith}
use Rattle.std.specs.Prelude.{nat_lt}
use Rattle.std.proofs.lemmas.Bool.{false≢true, eqb-true, ltb-true, and_parts}
use Rattle.txn_words.specs.declared.op.Op.{Op}
use Rattle.txn_words.specs.declared.entry.Entry.{Entry}
use Rattle.txn_words.specs.declared.entry.Entry.TheVariants.{Began, Asked, Did, Saved, Leave, Undone, Returned, Committed, Busy, Aborted}
use Rattle.txn_words.specs.Map.{Map, reply_of, after, is_change}
use Rattle.txn_words.specs.Kinds.{is_began}
use Rattle.txn_trace.specs.Alone.{AloneRun, start, number_of_maps, with_op, act_did, act_undone, act_returned, act}
use Rattle.txn_words.specs.declared.stance.Phase.{Phase}
use Rattle.txn_words.specs.declared.stance.Phase.TheVariants.{Opened, Waiting, LeavingTo, LeavingToEnd}
use Rattle.txn_words.specs.Shape.{Stance, row, changes, closed_stance}
use Rattle.txn_words.proofs.Effects.{changes-reply}
use Rattle.txn_trace.proofs.Callers.{is_end}
use Rattle.txn_trace.proofs.Now.{same_is}

-- What must hold for the stance and the run in this phase. If an operation waits in the stance, it
-- waits in the run. If the caller returns to a level, the stance has this level.
abbrev pub PhaseFits : Phase → Stance → AloneRun → Type 0
PhaseFits (Waiting op) s r = r.pending ≡ Some op
PhaseFits (LeavingTo n) s r = n < length s.kept
PhaseFits _ s r = Unit {0}

pub record Fits (s : Stance) (r : AloneRun) : Type 0 where
  pub standing : s.standing ≡ length r.earlier
  pub notes : r.notes ≡ map (λ n. n + 1) s.kept
  pub phase : PhaseFits s.phase s r

abbrev pub FitsAfter : Option Stance → Option AloneRun → Type 0
FitsAfter None r = Unit {0}
FitsAfter (Some s) None = ⊥
FitsAfter (Some s) (Some r) = Fits s r

-- If the entry is a `Did`, its reply is the one that the run's last map gives.
abbrev pub IsReply : AloneRun → Entry → Type 0
IsReply r (Did c x) = (op : Op) → r.pending ≡ Some op → x ≡ reply_of r.last op
IsReply r _ = Unit {0}

pub fits_start : (m : Map) → Fits (record closed_stance { phase = Opened }) (start m)
fits_start m = record { standing = refl; notes = refl; phase = tt }

did_fits : (s : Stance) (r : AloneRun) (x : Option ℕ) (op : Op) → Fits s r → x ≡ reply_of r.last op
    → FitsAfter (Some (record s { phase = Opened; standing = cond (changes op x) (s.standing + 1) s.standing })) (act_did r (Some op) x)
did_fits s r x op fits right =
    let P : Bool → Type 0 = λ t. FitsAfter (Some (record s { phase = Opened; standing = cond (changes op x) (s.standing + 1) s.standing })) (cond t (Some (record (with_op r op) { pending = None })) None) in
    let same : changes op x ≡ is_change r.last op = ap (changes op) right ∙ changes-reply r.last op in
    subst P (sym (same_is x (reply_of r.last op) right))
    (subst (λ b. Fits (record s { phase = Opened; standing = cond b (s.standing + 1) s.standing }) (record (with_op r op) { pending = None })) (sym same)
    (elim (is_change r.last op) as (λ b. Fits (record s { phase = Opened; standing = cond b (s.standing + 1) s.standing })
    (record (cond b (record r { last = after r.last op; earlier = r.last ∷ r.earlier }) r) { pending = None })) [
      | true ↦ record { standing = (let e = fits.standing in omega arith); notes = fits.notes; phase = tt }
      | false ↦ record { standing = fits.standing; notes = fits.notes; phase = tt }
    ]))

undone_fits : (s s' : Stance) (r : AloneRun) (ms : List Map) → 0 < s.standing → s'.standing ≡ s.standing - 1 → s'.kept ≡ s.kept → s.standing ≡ length ms → r.notes ≡ map (λ n. n + 1) s.kept → ((q : AloneRun) → q.pending ≡ r.pending → PhaseFits s'.phase s' q) → FitsAfter (Some s') (act_undone r ms)
undone_fits s s' r [] some less kept is notes phase = absurd (omega arith)
undone_fits s s' r (m ∷ ms) some less kept is notes phase = record {
  standing = omega arith;
  notes = notes ∙ ap (map (λ n. n + 1)) (sym kept);
  phase = phase (record r { last = m; earlier = ms }) refl;
}

map-take : (k : ℕ) (xs : List ℕ) → take k (map (λ n. n + 1) xs) ≡ map (λ n. n + 1) (take k xs)
map-take zero xs = refl
map-take (suc k) [] = refl
map-take (suc k) (x ∷ xs) = ap (λ ys. (x + 1) ∷ ys) (map-take k xs)

noted_at : (k : ℕ) (xs : List ℕ) → k < length xs → slice_get (map (λ n. n + 1) xs) k ≡ Some (slice_index xs k + 1)
noted_at k [] h = absurd (omega arith)
noted_at zero (x ∷ xs) h = refl
noted_at (suc k) (x ∷ xs) h = noted_at k xs (omega arith)

map-push : (xs : List ℕ) (y : ℕ) → map (λ n. n + 1) (xs ++ y ∷ []) ≡ map (λ n. n + 1) xs ++ (y + 1) ∷ []
map-push [] y = refl
map-push (x ∷ xs) y = ap (λ ys. (x + 1) ∷ ys) (map-push xs y)

returned_fits : (s : Stance) (r : AloneRun) (n m : ℕ) → Fits s r → n < length s.kept → n ≡ m → slice_index s.kept n ≡ s.standing → FitsAfter (Some (record s { phase = Opened; kept = take (n + 1) s.kept })) (act_returned r m)
returned_fits s r n m fits within level kept =
    let noted : slice_get r.notes m ≡ Some (number_of_maps r) =
    ap (λ l. slice_get l m) fits.notes ∙ ap (slice_get (map (λ n. n + 1) s.kept)) (sym level) ∙ noted_at n s.kept within ∙ ap (λ x. Some (x + 1)) (kept ∙ fits.standing) in
    subst (λ t. FitsAfter (Some (record s { phase = Opened; kept = take (n + 1) s.kept })) (cond t (Some (record r { notes = take (m + 1) r.notes })) None)) (sym (same_is _ _ noted))
    (record { standing = fits.standing; notes = ap (take (m + 1)) fits.notes ∙ map-take (m + 1) s.kept ∙ ap (λ x. map (λ n. n + 1) (take (x + 1) s.kept)) (sym level); phase = tt })

when : {A : Type 0} (b : Bool) (x : A) → is_some (cond b (Some x) None) ≡ true → b ≡ true
when true x h = refl
when false x h = absurd (false≢true h)

-- If `row` allows an entry in a stance that fits the run, and the entry's reply is right, the run
-- allows the entry too. Afterwards, the stance still fits the run.
pub fits_act : (s : Stance) (r : AloneRun) (e : Entry) (q : Phase) → s.phase ≡ q → is_began e ≡ false → is_end e ≡ false → Fits s r → IsReply r e → is_some (row s q e) ≡ true → FitsAfter (row s q e) (act r e)
fits_act s r (Began c t) q at b n fits right h = absurd (false≢true (sym b))
fits_act s r (Committed c p) q at b n fits right h = absurd (false≢true (sym n))
fits_act s r (Aborted c) q at b n fits right h = absurd (false≢true (sym n))
fits_act s r (Asked c op) Opened at b n fits right h = record { standing = fits.standing; notes = fits.notes; phase = refl }
fits_act s r (Busy c op x) Opened at b n fits right h = record { standing = fits.standing; notes = fits.notes; phase = tt }
fits_act s r (Saved c) Opened at b n fits right h = record {
  standing = fits.standing;
  notes = ap (λ l. l ++ number_of_maps r ∷ []) fits.notes ∙ ap (λ k. map (λ n. n + 1) s.kept ++ (k + 1) ∷ []) (sym fits.standing) ∙ sym (map-push s.kept s.standing);
  phase = subst (λ x. PhaseFits x (record s { kept = s.kept ++ s.standing ∷ [] }) (record r { notes = r.notes ++ number_of_maps r ∷ [] })) (sym at) tt;
}
fits_act s r (Leave c None) Opened at b n fits right h = record { standing = fits.standing; notes = fits.notes; phase = tt }
fits_act s r (Leave c (Some k)) Opened at b n fits right h =
    let yes_it = when (nat_lt k (length s.kept)) _ h in
    subst (λ t. FitsAfter (cond t (Some (record s { phase = LeavingTo k })) None) (Some r)) (sym yes_it)
    (record { standing = fits.standing; notes = fits.notes; phase = ltb-true k (length s.kept) yes_it })
fits_act s r (Did c x) (Waiting op) at b n fits right h =
    let waits : r.pending ≡ Some op = subst (λ q. PhaseFits q s r) at fits.phase in
    subst (λ p. FitsAfter (Some (record s { phase = Opened; standing = cond (changes op x) (s.standing + 1) s.standing })) (act_did r p x)) (sym waits)
    (did_fits s r x op fits (right op waits))
fits_act s r (Leave c None) (Waiting op) at b n fits right h = record { standing = fits.standing; notes = fits.notes; phase = tt }
fits_act s r (Undone c) (LeavingTo k) at b n fits right h =
    let yes_it = when (nat_lt (slice_index s.kept k) s.standing) _ h in
    let more = ltb-true (slice_index s.kept k) s.standing yes_it in
    let within : k < length s.kept = subst (λ q. PhaseFits q s r) at fits.phase in
    let s' : Stance = record s { standing = s.standing - 1 } in
    subst (λ t. FitsAfter (cond t (Some s') None) (act_undone r r.earlier)) (sym yes_it)
    (undone_fits s s' r r.earlier (omega arith) refl refl fits.standing fits.notes (λ q same. subst (λ x. PhaseFits x s' q) (sym at) within))
fits_act s r (Returned c m) (LeavingTo k) at b n fits right h =
    let yes_it = when ((k == m) && (slice_index s.kept k == s.standing)) _ h in
    let parts = and_parts (k == m) _ yes_it in
    let within : k < length s.kept = subst (λ q. PhaseFits q s r) at fits.phase in
    subst (λ t. FitsAfter (cond t (Some (record s { phase = Opened; kept = take (k + 1) s.kept })) None) (act_returned r m)) (sym yes_it)
    (returned_fits s r k m fits within (eqb-true k m parts.0) (eqb-true (slice_index s.kept k) s.standing parts.1))
fits_act s r (Undone c) LeavingToEnd at b n fits right h =
    let yes_it = when (nat_lt 0 s.standing) _ h in
    let s' : Stance = record s { standing = s.standing - 1 } in
    subst (λ t. FitsAfter (cond t (Some s') None) (act_undone r r.earlier)) (sym yes_it)
    (undone_fits s s' r r.earlier (ltb-true 0 s.standing yes_it) refl refl fits.standing fits.notes (λ q same. subst (λ x. PhaseFits x s' q) (sym at) tt))
fits_act s r _ q at b n fits right h = absurd (false≢true h)
