-- Shows what operations and jobs do to the list, because giving a spare back after the write changes
-- neither the content nor another spare.
use Rattle.std.proofs.Common.{◌≡◌, ℕ, List, Option, Some, None, true, false, refl, ◌∙◌, ap}
use Rattle.std.specs.Prelude.{nat_eq}
use Rattle.map_ops.specs.Vocabulary.{Listing, Map, NodeAt, Op, Put, PutIf, Refusal, SpareAt, get, has_dummy, option_eq, pairs}
use Rattle.txn_words.specs.declared.refusal.Refusal.TheVariants.{StampsUsedUp, NoMemory}
use Rattle.map_ops.specs.declared.job.MapJob.{MapJob}
use Rattle.txn_words.specs.Owed.{may_change}
use Rattle.map_ops.specs.Lists.{Does, GivesBack, IsLacking, IsRefused, KeepsSpares, Spends, TurnsInto, content, map_of}

-- If no spare is given, an operation that takes a node is refused.
pub refused : (l : Listing) (op : Op) (refusal : Refusal) → may_change op ≡ true → IsLacking l refusal → IsRefused l op refusal
refused l op StampsUsedUp takes lacking = (takes, lacking)
refused l op NoMemory takes lacking = (takes, lacking)
refused l op _ takes lacking = absurd lacking

-- Giving a spare back leaves the content as it is.
pub turns_then_back : (old mid new : Listing) (m : Map) (spare : Option SpareAt) → TurnsInto old mid m → GivesBack mid new spare → TurnsInto old new m
turns_then_back old mid new m spare turns gives = record {
  content_is = ap (λ (nodes : List NodeAt). map_of (pairs nodes)) gives.writes.nodes ∙ turns.content_is;
  dummies = λ b. ap (λ (nodes : List NodeAt). has_dummy nodes b) gives.writes.nodes ∙ turns.dummies b;
  last = gives.last ∙ turns.last;
}

pub back_turns : (old new : Listing) (m : Map) (spare : Option SpareAt) → content old ≡ m → GivesBack old new spare → TurnsInto old new m
back_turns old new m spare is gives = turns_then_back old old new m spare (record { content_is = is; dummies = λ b. refl; last = refl }) gives

-- If a write changes no spares, and then a spare is given back, `Spends` holds for this spare.
pub keeps_then_back : (old mid new : Listing) (spare : SpareAt) → KeepsSpares old mid → GivesBack mid new (Some spare) → Spends old new (Some spare)
keeps_then_back old mid new spare keeps gives = (gives.spares.0, λ other apart. gives.spares.1 other apart ∙ keeps other)

module _ (old new : Listing) (k : ℕ) (before : Option ℕ) (before_is : before ≡ get (content old) k) (spare : SpareAt) where
  -- If the condition of a `PutIf` holds, and the operation does what a put does, `Does` holds for
  -- the operation.
  pub does_put_if : (v : ℕ) (expected : Option ℕ) (job : Option MapJob) → option_eq nat_eq before expected ≡ true → Does old new (record { op = Put k v; spare = Some spare }) before job
      → Does old new (record { op = PutIf k expected v; spare = Some spare }) before job
  does_put_if v expected job holds does =
      let there = rw before_is at holds in
      record { reply_is = before_is; job_is = rw there does.job_is; spares = does.spares; turns = rw there does.turns }

  -- If the condition of a `PutIf` does not hold, and the operation's spare is given back, `Does`
  -- holds for the operation.
  pub does_put_if_not : (v : ℕ) (expected : Option ℕ) → option_eq nat_eq before expected ≡ false → GivesBack old new (Some spare)
      → Does old new (record { op = PutIf k expected v; spare = Some spare }) before None
  does_put_if_not v expected differs gives =
      let other = rw before_is at differs in
      record { reply_is = before_is; job_is = rw other refl; spares = gives.spares; turns = rw other (back_turns old new _ _ refl gives) }
