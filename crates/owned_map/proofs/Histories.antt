-- The effect of each entry on a transaction that no other caller interrupts. It follows from the
-- laws of histories.
use Rattle.std.proofs.Common.{◌≡◌, ℕ, ◌+◌, ◌<◌, Bool, true, false, cond, List, [], ◌∷◌, ◌++◌, length, Option, Some, None, is_some, refl, sym, ap, subst, ◌∙◌, arith}
use Rattle.std.specs.Prelude.{nat_le}
use Rattle.std.proofs.lemmas.Bool.{false≢true, and_parts, cases_eq, ne_eqb}
use Rattle.std.proofs.lemmas.List.{append-nil, append_assoc}
use mathlib.Core.Logic.{inl, inr}
use Rattle.txn_words.specs.declared.holder.Holder.{Holder}
use Rattle.txn_words.specs.declared.op.Op.{Op}
use Rattle.txn_words.specs.declared.entry.Entry.{Entry}
use Rattle.txn_words.specs.declared.entry.Entry.TheVariants as entry
use Rattle.txn_words.specs.declared.stance.Phase.TheVariants.{Closed, Opened, Waiting, LeavingToEnd}
use Rattle.txn_words.specs.Sizes.{Sizes}
use Rattle.txn_words.specs.Map.{Map, key_of, reply_of, after}
use Rattle.txn_trace.specs.Now.{now}
use Rattle.txn_trace.specs.Log.{log_of, rolled_back}
use Rattle.txn_words.specs.Kinds.{caller_of, is_began, is_commit}
use Rattle.txn_words.specs.Shape.{Stance, stance_after, own, closed_stance, changes, IsShaped, is_numbered, how_many}
use Rattle.txn_trace.specs.Legal.{IsLegal}
use Rattle.txn_trace.specs.Locks.{is_locked}
use Rattle.txn_words.proofs.Effects.{after_unchanged, changes-reply}
use Rattle.txn_trace.proofs.Pushes.{own-push_out}
use Rattle.txn_trace.proofs.EntrySteps.{Next}
use Rattle.txn_trace.proofs.Entries as laws
use Rattle.boost_core.proofs.Due.{set_at-after}
use Rattle.owned_map.specs.Within.{IsBasedOn}

-- If a caller has a stance after a history, and entries of the right shape follow, the caller has a
-- stance after these entries too.
stance_from : (c : ℕ) (g rest : List Entry) → is_some (stance_after (own c g)) ≡ true → IsShaped (g ++ rest)
    → is_some (stance_after (own c (g ++ rest))) ≡ true
stance_from c g [] there shaped = subst (λ h. is_some (stance_after (own c h)) ≡ true) (sym (append-nil g)) there
stance_from c g (e ∷ rest) there shaped =
    subst (λ h. is_some (stance_after (own c h)) ≡ true) (append_assoc g (e ∷ []) rest)
    (stance_from c (g ++ e ∷ []) rest with_e (subst IsShaped (sym (append_assoc g (e ∷ []) rest)) shaped))
  where
    with_e : is_some (stance_after (own c (g ++ e ∷ []))) ≡ true
    with_e = elim (cases_eq (caller_of e) c) [
      | inl same ↦ subst (λ d. is_some (stance_after (own d (g ++ e ∷ []))) ≡ true) same
          (and_parts (is_some (stance_after (own (caller_of e) (g ++ e ∷ [])))) (is_numbered g e) (shaped g e (rest, append_assoc g (e ∷ []) rest))).0
      | inr other ↦ ap (λ (es : List Entry). is_some (stance_after es)) (own-push_out c g e (ne_eqb (caller_of e) c other)) ∙ there
    ]

pub stance_there : (c : ℕ) (h : List Entry) → IsShaped h → (stance : Stance) × (stance_after (own c h) ≡ Some stance)
stance_there c h shaped = the_stance (stance_after (own c h)) (stance_from c [] h refl shaped)
  where
    the_stance : (o : Option Stance) → is_some o ≡ true → (stance : Stance) × (o ≡ Some stance)
    the_stance None there = absurd (false≢true there)
    the_stance (Some stance) there = (stance, refl)

-- If the change that an operation adds to the log is taken back, the map is the one before the
-- operation.
noted : (op : Op) (x : Option ℕ) (jobs : List (ℕ × Option ℕ)) (m : Map) → x ≡ reply_of m op
    → rolled_back (after m op) (cond (changes op x) ((key_of op, x) ∷ jobs) jobs) ≡ rolled_back m jobs
noted op x jobs m right = subst (λ y. rolled_back (after m op) (cond (changes op y) ((key_of op, y) ∷ jobs) jobs) ≡ rolled_back m jobs) (sym right) (at (changes op (reply_of m op)) refl)
  where
    at : (b : Bool) → changes op (reply_of m op) ≡ b → rolled_back (after m op) (cond (changes op (reply_of m op)) ((key_of op, reply_of m op) ∷ jobs) jobs) ≡ rolled_back m jobs
    at true is = ap (λ b. rolled_back (after m op) (cond b ((key_of op, reply_of m op) ∷ jobs) jobs)) is ∙ ap (λ (n : Map). rolled_back n jobs) (set_at-after m op)
    at false is = ap (λ b. rolled_back (after m op) (cond b ((key_of op, reply_of m op) ∷ jobs) jobs)) is
        ∙ ap (λ (n : Map). rolled_back n jobs) (after_unchanged m op (sym (changes-reply m op) ∙ is))

module _ {rule : Holder} (limits : Sizes) (c : ℕ) (base : Map) (h : List Entry) where
  -- Suppose that the caller adds one more entry. If taking back the changes in its log then gives
  -- `base`, `IsBasedOn` holds after this entry.
  pub stands_after : (e : Entry) → caller_of e ≡ c → nat_le limits.callers c ≡ false → (stance : Stance) (log : List (ℕ × Option ℕ)) (committed current : Map) (holder : ℕ → Option ℕ)
      → Next rule limits.stripes h e stance log committed current holder → rolled_back current log ≡ base → IsBasedOn rule limits c base stance.phase (h ++ e ∷ [])
  stands_after e mine within stance log committed current holder next back = record {
    within = within;
    legal = next.legal;
    stance = stance;
    stance_is = subst (λ d. stance_after (own d (h ++ e ∷ [])) ≡ Some stance) mine next.stance_is;
    phase_is = refl;
    back = subst (λ d. rolled_back (now (h ++ e ∷ [])) (log_of d (h ++ e ∷ [])) ≡ base) mine (ap (λ l. rolled_back (now (h ++ e ∷ [])) l) next.log_is ∙ ap (λ (n : Map). rolled_back n log) next.now_is ∙ back);
  }

  pub asked_now : (op : Op) → IsBasedOn rule limits c base Opened h → is_locked rule limits.stripes h (entry.Asked c op) ≡ true
      → IsBasedOn rule limits c base (Waiting op) (h ++ entry.Asked c op ∷ []) × (now (h ++ entry.Asked c op ∷ []) ≡ now h)
  asked_now op stands locked =
      let next = laws.asked limits.stripes h stands.legal c op stands.stance stands.stance_is stands.phase_is locked in
      (stands_after (entry.Asked c op) refl stands.within _ _ _ _ _ next stands.back, next.now_is)

  pub busy_now : (op : Op) (x : ℕ) → IsBasedOn rule limits c base Opened h → is_locked rule limits.stripes h (entry.Busy c op x) ≡ true
      → IsBasedOn rule limits c base LeavingToEnd (h ++ entry.Busy c op x ∷ []) × (now (h ++ entry.Busy c op x ∷ []) ≡ now h)
  busy_now op x stands locked =
      let next = laws.busy limits.stripes h stands.legal c op x stands.stance stands.stance_is stands.phase_is locked in
      (stands_after (entry.Busy c op x) refl stands.within _ _ _ _ _ next stands.back, next.now_is)

  -- If a Did entry has the right reply, the operation is done on the map. The transaction is then
  -- open and can still be taken back to `base`.
  pub did_now : (op : Op) (x : Option ℕ) → IsBasedOn rule limits c base (Waiting op) h → x ≡ reply_of (now h) op
      → IsBasedOn rule limits c base Opened (h ++ entry.Did c x ∷ []) × (now (h ++ entry.Did c x ∷ []) ≡ after (now h) op)
  did_now op x stands right =
      let next = laws.did limits.stripes h stands.legal c op x stands.stance stands.stance_is stands.phase_is right in
      (stands_after (entry.Did c x) refl stands.within _ _ _ _ _ next (noted op x (log_of c h) (now h) right ∙ stands.back), next.now_is)

  pub left_now : IsBasedOn rule limits c base Opened h → IsBasedOn rule limits c base LeavingToEnd (h ++ entry.Leave c None ∷ [])
  left_now stands =
      stands_after (entry.Leave c None) refl stands.within _ _ _ _ _ (laws.left_to_end limits.stripes h stands.legal c stands.stance stands.stance_is stands.phase_is) stands.back

  pub undone_now : (stands : IsBasedOn rule limits c base LeavingToEnd h) → 0 < stands.stance.standing → IsBasedOn rule limits c base LeavingToEnd (h ++ entry.Undone c ∷ [])
  undone_now stands some =
      let newest = laws.newest h c stands.stance stands.stance_is some in
      let next = laws.undone_to_end limits.stripes h stands.legal c stands.stance stands.stance_is stands.phase_is some newest.0 newest.1 newest.2 in
      subst (λ q. IsBasedOn rule limits c base q (h ++ entry.Undone c ∷ [])) stands.phase_is
      (stands_after (entry.Undone c) refl stands.within _ _ _ _ _ next (ap (λ l. rolled_back (now h) l) (sym newest.2) ∙ stands.back))

  pub aborted_now : (stands : IsBasedOn rule limits c base LeavingToEnd h) → stands.stance.standing ≡ 0
      → (now (h ++ entry.Aborted c ∷ []) ≡ base) × (stance_after (own c (h ++ entry.Aborted c ∷ [])) ≡ Some closed_stance)
  aborted_now stands none =
      let next = laws.aborted limits.stripes h stands.legal c stands.stance stands.stance_is stands.phase_is none in
      (next.now_is ∙ sym (ap (λ l. rolled_back (now h) l) (no_jobs (log_of c h) (laws.length-log_of h c stands.stance stands.stance_is ∙ none))) ∙ stands.back, next.stance_is)
    where
      no_jobs : (jobs : List (ℕ × Option ℕ)) → length jobs ≡ 0 → jobs ≡ []
      no_jobs [] is = refl
      no_jobs (job ∷ jobs) is = absurd (omega arith)

  pub committed_now : (p : ℕ) → IsBasedOn rule limits c base Opened h → p ≡ how_many is_commit h + 1
      → (now (h ++ entry.Committed c p ∷ []) ≡ now h) × (stance_after (own c (h ++ entry.Committed c p ∷ [])) ≡ Some closed_stance)
  committed_now p stands numbered =
      let next = laws.committed limits.stripes h stands.legal c p stands.stance stands.stance_is stands.phase_is numbered in
      (next.now_is, next.stance_is)

pub began_now : {rule : Holder} (limits : Sizes) (c t : ℕ) (h : List Entry) → nat_le limits.callers c ≡ false → IsLegal rule limits.stripes h → (stance : Stance) → stance_after (own c h) ≡ Some stance → stance.phase ≡ Closed
    → t ≡ how_many is_began h + 1 → IsBasedOn rule limits c (now h) Opened (h ++ entry.Began c t ∷ []) × (now (h ++ entry.Began c t ∷ []) ≡ now h)
began_now limits c t h within legal stance stance_is closed numbered =
    let next = laws.began limits.stripes h legal c t stance stance_is closed numbered in
    (stands_after limits c (now h) h (entry.Began c t) refl within _ _ _ _ _ next refl, next.now_is)
