-- What a caller's step does if it uses the claim that the caller's last trial gives.
use Rattle.std.proofs.Common.{[], ℕ, ◌++◌, ◌+◌, ◌<◌, ◌∙◌, ◌∷◌, ◌≡◌, ◌⊎◌, Bool, IsTrue, List, None, Option, Some, ap, arith, false, inl, inr}
use Rattle.std.proofs.Common.{length, length-append, refl, subst, sym, true}
use Rattle.locked_map.specs.Vocabulary.{Answer, Ask, Call, Claim, Doubling, Drive, Entry, Fresh, Goes, IsLegal, Lock, Move, Op, Phase, Stance}
use Rattle.locked_map.specs.Vocabulary.{StaleWord, State, Step, are_limits, caller_of, entries_of, first_step, holder_by, is_ask, sized_in}
use Rattle.locked_map.specs.Vocabulary.{sized_of, step_in, step_of, told_first, told_in}
use Rattle.locked_map.proofs.Vocabulary.{false≢true}
use Rattle.boost_core.specs.Words.{IsStale, is_stale}
use Rattle.std.proofs.lemmas.List.Elements.{All-pop}
use Rattle.std.specs.List.{All}
use Rattle.boost_core.proofs.Named.{grown_small}
use Rattle.boost_core.proofs.Starting.{few_callers}
use Rattle.boost_core.proofs.Moves.{GoesOver, move_over, refused_over}
use Rattle.locked_map.specs.Claims.{HasTriedFor, HasTriedIf, HasTriedStep, Trial, claim_in}
use Rattle.locked_map.specs.Noted.{AddsSmall}
use Rattle.locked_map.specs.Suits.{Suits}
use Rattle.locked_map.specs.Tokens.{HasTried, HasTriedNext, Token}
use Rattle.txn_drive.specs.declared.call.Call.TheVariants as calls
use Rattle.txn_words.specs.declared.answer.Answer.TheVariants as answers

pub goes_cases : (claim : Claim) (m n : State) (step : Step) (a : Answer) → Goes claim m step a n → IsStale claim m step a n ⊎ Move m step a n
goes_cases Lock m n step a goes = inr goes
goes_cases claim m n step a (inl stale) = inl stale
goes_cases claim m n step a (inr asks) = inr asks.1

-- If a step is a move of the core, or is refused because of a stale word, `GoesOver` holds: the
-- step's entries are added to the history, and the limits are unchanged.
pub goes_over : (claim : Claim) (m n : State) (step : Step) (a : Answer) → Goes claim m step a n → GoesOver m n step a
goes_over claim m n step a goes = elim (goes_cases claim m n step a goes) [
  | inl stale ↦
      subst (λ x. GoesOver m x step a) (sym stale.state)
      (record { history = refused_over m step StaleWord ∙ ap (λ x. m.history ++ entries_of step x) (sym stale.refused); limits = refl; words = refl })
  | inr move ↦ move_over m n step a move
]

-- A step that does not ask for an operation has the claim `Lock`.
pub plain_claim : (tried : Option Trial) (m : State) (step : Step) → ((c : ℕ) (op : Op) → step ≡ Ask c op → ⊥) → claim_in tried m step ≡ Lock
plain_claim None m step other = refl
plain_claim (Some trial) m (Ask c op) other = absurd (other c op refl)
plain_claim (Some trial) m step other = refl

-- If a total is the length of the history, adding the number of a step's entries to the total gives
-- the length of the history after the step.
pub counted_more : (h more es : List Entry) (total next : ℕ) → total ≡ length h → next ≡ total + length es → more ≡ h ++ es → next ≡ length more
counted_more h more es total next counts adds is = omega (arith, counts, adds, simp length-append at (ap length is))

-- If `HasTriedFor` holds for a call, `HasTriedStep` holds for the first step of the call.
tried_first : (tried : Option Trial) (stripes c : ℕ) (call : Call) → HasTriedFor tried stripes call → HasTriedStep tried stripes (first_step c call)
tried_first tried stripes c (calls.Op op) has = has
tried_first tried stripes c call has = tt

tried_in : (tried : Option Trial) (stripes c : ℕ) (call : Call) (phase : Phase) → HasTriedFor tried stripes call → HasTriedIf tried stripes (step_in c call phase)
tried_in tried stripes c call Fresh has = tried_first tried stripes c call has
tried_in tried stripes c call phase has = tt

pub tried_next : {S : Type 0} (k : Token S) (d : Drive) → HasTried k d.call → HasTriedNext k d
tried_next k d has = tried_in k.claims.tried k.limits.stripes d.caller d.call d.phase has

pub tried_step : (tried : Option Trial) (stripes : ℕ) (d : Drive) (step : Step) → step_of d ≡ Some step → HasTriedIf tried stripes (step_of d) → HasTriedStep tried stripes step
tried_step tried stripes d step is = subst (HasTriedIf tried stripes) is

tried_sized_in : (tried : Option Trial) (stripes c size : ℕ) (call : Call) (phase : Phase) → HasTriedIf tried stripes (step_in c call phase) → HasTriedIf tried stripes (step_in c call (sized_in size phase))
tried_sized_in tried stripes c size call (Doubling seen) has = tt
tried_sized_in tried stripes c size call phase has = has

-- If `HasTriedNext` holds for a drive, `HasTriedIf` holds for the drive's next step after the drive
-- has noted a size.
pub may_next : {S : Type 0} (t k : Token S) (stripes size : ℕ) (d d' : Drive) → t ≡ k → stripes ≡ t.limits.stripes → d' ≡ sized_of size d → HasTriedNext k d → HasTriedIf t.claims.tried stripes (step_of d')
may_next t k stripes size d d' view as_many sized has = rw (sized, as_many, view) (tried_sized_in k.claims.tried k.limits.stripes d.caller size d.call d.phase has)

-- Only a step that asks for an operation can be refused because of a stale word. Such a step is the
-- first of its call, so the refusal ends the call.
stale_asks : (claim : Claim) (m : State) (step : Step) → IsTrue (is_stale claim m step) → is_ask step ≡ true
stale_asks claim m (Ask c op) stale = refl
stale_asks Lock m step stale = absurd (false≢true stale)
stale_asks claim m step stale = absurd (false≢true stale)

abbrev asks_if : Option Step → Bool
asks_if None = false
asks_if (Some step) = is_ask step

stale_first : (n : State) (s : Stance) (c : ℕ) (call : Call) → is_ask (first_step c call) ≡ true → Suits n s c call (told_first call (answers.Refused StaleWord))
stale_first n s c (calls.Op op) asks = refl
stale_first n s c call asks = absurd (false≢true asks)

stale_ends : (n : State) (s : Stance) (c : ℕ) (call : Call) (phase : Phase) → asks_if (step_in c call phase) ≡ true → Suits n s c call (told_in call phase (answers.Refused StaleWord))
stale_ends n s c call Fresh asks = stale_first n s c call asks
stale_ends n s c call phase asks = absurd (false≢true asks)

pub suits_stale : (claim : Claim) (m n : State) (s : Stance) (c : ℕ) (call : Call) (phase : Phase) (step : Step) (a : Answer) → step_in c call phase ≡ Some step → IsStale claim m step a n → Suits n s c call (told_in call phase a)
suits_stale claim m n s c call phase step a is stale =
    subst (λ x. Suits n s c call (told_in call phase x)) (sym stale.refused)
    (stale_ends n s c call phase (ap asks_if is ∙ stale_asks claim m step stale.stale))

-- The entry that a step adds is small: its caller is one of the core's callers, and so is the
-- holder that a Busy entry names.
pub small_added : (m n : State) (step : Step) (a : Answer) → GoesOver m n step a → All (λ e. caller_of e < n.limits.callers) n.history → IsLegal (holder_by n.words) n.limits.stripes n.history → are_limits n.limits.callers n.limits.stripes n.limits.buckets ≡ true → AddsSmall step a
small_added m n step a over all legal are e is =
    let grown : n.history ≡ m.history ++ e ∷ [] = over.history ∙ ap (λ es. m.history ++ es) (sym is) in
    let both = All-pop (λ (x : Entry). caller_of x < n.limits.callers) n.history m.history (Some e) grown all in
    grown_small n.words n.limits.stripes n.limits.callers m.history e both.0 (subst (IsLegal (holder_by n.words) n.limits.stripes) grown legal) both.1 (few_callers n.limits.callers n.limits.stripes n.limits.buckets are)
