use Rattle.std.proofs.Common.{◌∷◌, [], ◌*◌, ◌<◌, ◌∙◌, subst, arith}
use Rattle.txn_words.specs.declared.step.Step.TheVariants.{Double}
use Rattle.txn_words.specs.Map.{count_of}
use Rattle.txn_trace.specs.Now.{now}
use Rattle.boost_core.specs.Machine.{Happens, Moves}
use Rattle.owned_map.specs.declared.owned_map.OwnedMap.{OwnedMap}
use Rattle.owned_map.specs.Within.{initialising}
use Rattle.owned_map.proofs.Growing.{grows_below, grows_above}
use Rattle.owned_map.proofs.owned_map.OwnedMap.grow.Goals as goal
use Rattle.owned_map.proofs.owned_map.OwnedMap.grow.Goals.{then-bucket-buckets, else-bucket-buckets}

pub returns-then-initialise : goal.returns-then-initialise
returns-then-initialise c =
    let core = c.args.self.now.core in
    let last = c.initialise.new.self.core in
    let bucket = c.args.self.now.grown in
    let given = c.initialise.ensures.0 ∷ c.initialise.ensures.1 ∷ c.initialise.ensures.2 ∷ [] in
    let few : 2 * bucket < count_of (now core.history) = omega (arith, c.if-bucket-wanted.false, c.wanted.ensures) in
    let Initialises : OwnedMap → Type 0 = λ m. Moves m.core (initialising c.args.caller bucket) given last in
    elim c.if-bucket-buckets.branch [
      | then-bucket-buckets w ↦ grows_above c.args.caller bucket core last few w.take_step.new.self.core w.take_step.result given
          (omega (arith, w.if-bucket-buckets.true, c.from-buckets.ensures, c.size.ensures)) (subst (λ n. Happens core (Double n) w.take_step.result w.take_step.new.self.core) (c.from-buckets.ensures ∙ c.size.ensures) w.take_step.ensures.event) (subst Initialises w.self-is c.initialise.ensures.3)
      | else-bucket-buckets w ↦ grows_below c.args.caller bucket core last few given
          (omega (arith, w.if-bucket-buckets.false, c.from-buckets.ensures, c.size.ensures)) (subst Initialises w.self-is c.initialise.ensures.3)
    ]

pub returns-else-initialise : goal.returns-else-initialise
returns-else-initialise c =
    let core = c.args.self.now.core in
    let last = c.initialise.new.self.core in
    let bucket = c.args.self.now.grown in
    let given = c.initialise.ensures.0 ∷ c.initialise.ensures.1 ∷ c.initialise.ensures.2 ∷ [] in
    let few : 2 * bucket < count_of (now core.history) = omega (arith, c.if-bucket-wanted.false, c.wanted.ensures) in
    let Initialises : OwnedMap → Type 0 = λ m. Moves m.core (initialising c.args.caller bucket) given last in
    elim c.if-bucket-buckets.branch [
      | then-bucket-buckets w ↦ grows_above c.args.caller bucket core last few w.take_step.new.self.core w.take_step.result given
          (omega (arith, w.if-bucket-buckets.true, c.from-buckets.ensures, c.size.ensures)) (subst (λ n. Happens core (Double n) w.take_step.result w.take_step.new.self.core) (c.from-buckets.ensures ∙ c.size.ensures) w.take_step.ensures.event) (subst Initialises w.self-is c.initialise.ensures.3)
      | else-bucket-buckets w ↦ grows_below c.args.caller bucket core last few given
          (omega (arith, w.if-bucket-buckets.false, c.from-buckets.ensures, c.size.ensures)) (subst Initialises w.self-is c.initialise.ensures.3)
    ]
