-- A worker's step is a move of the core that adds only entries of this worker.
use Rattle.std.proofs.Common.{◌≡◌, ◌≢◌, ℕ, ◌<◌, List, [], ◌∷◌, ◌++◌, length, get_or, set, Option, Some, None, refl, sym, ap, subst, ◌∙◌}
use Rattle.std.proofs.Common.{arith, inl, inr, append-nil, length-append, length-set, get_or-set_same, get_or-set_other}
use Rattle.boostmap_engine.proofs.Vocabulary.{accounts_true, Finish, MovesOn, IsCrew, IsMember, keeps_told, Happens, move_over, sized_keeps, State, Task}
use Rattle.boostmap_engine.proofs.Vocabulary.{told_keeps, told_on, true_plays, Worker}
use Rattle.script_worker.proofs.Vocabulary.{Action, AllByRecursion, Answer, AreTrue, caller_of, cases_eq, cases_lt, entries_callers}
use Rattle.script_worker.proofs.Vocabulary.{entries_of, Entry, every, filter-append, get_or-append, get_or-append_seam, Holder, IsLegal}
use Rattle.script_worker.proofs.Vocabulary.{IsReady, IsTurnBy, KeepsScripts, KeepsAt, Outcome, own, own_all, own_none, PlayScripts}
use Rattle.script_worker.proofs.Vocabulary.{sized_by, Sizes, Step, step_by, TakesTurnBy, TakesNext, TakesStep, task_step, told_by, tolds_of}
use Rattle.script_worker.proofs.Vocabulary.{Turn, turn_by, Working}

-- If a worker keeps to its scripts, all entries that its step adds are entries of this worker.
step_mine : (tries workers : ℕ) (scripts : List (List Action)) (w : ℕ) (task : Option Task) (seen : List Entry) (step : Step) (answer : Answer)
    → KeepsAt tries workers scripts w task seen → task_step task ≡ Some step
    → AllByRecursion (λ e. caller_of e ≡ w) (entries_of step answer)
step_mine tries workers scripts w None seen step answer keeps is = absurd (cc is)
step_mine tries workers scripts w (Some task) seen step answer keeps is = rw keeps.caller at (entries_callers task.drive step answer is)

-- If a worker takes a step, `MovesOn` holds.
step_goes : (scripts : List (List Action)) (tries : ℕ) (old new : State) (before : Worker) (step : Step) (answer : Answer) → Happens old step answer new → step_by before ≡ Some step
    → KeepsScripts scripts tries before (own before.number old.history)
    → MovesOn scripts tries old new before (told_by scripts tries before answer)
step_goes scripts tries old new before step answer happens is keeps =
    let es = entries_of step answer in
    let mine = step_mine tries before.limits.callers scripts before.number before.task _ step answer keeps.at is in
    let over = move_over old new step answer happens.move in
    record {
      limits = over.limits;
      number = refl;
      same = refl;
      others = λ c other. rw (over.history, filter-append, own_none before.number c es other mine, append-nil);
      keeps = rw (over.history, filter-append, own_all before.number es mine)
          (told_keeps scripts tries before answer (own before.number old.history) step is keeps);
    }

goes_then : (scripts : List (List Action)) (tries : ℕ) (a b c : State) (x y z : Worker) → MovesOn scripts tries a b x y → MovesOn scripts tries b c y z → MovesOn scripts tries a c x z
goes_then scripts tries a b c x y z first next =
    let others : (d : ℕ) → d ≢ x.number → own d c.history ≡ own d a.history =
    λ d other. next.others d (λ is. other (is ∙ first.number)) ∙ first.others d other in
    let limits = next.limits ∙ first.limits in
    record { limits = limits; number = next.number ∙ first.number; same = next.same ∙ first.same; others = others; keeps = next.keeps }

-- If a worker takes a turn, `MovesOn` holds.
module _ (scripts : List (List Action)) (tries : ℕ) where
  one_goes : (old : Working State) (step : Step) (answer : Answer) (new : Working State) → step_by old.worker ≡ Some step
      → KeepsScripts scripts tries old.worker (own old.worker.number old.taker.history)
      → TakesStep Happens scripts tries old step answer new
      → MovesOn scripts tries old.taker new.taker old.worker new.worker
  one_goes old step answer new is keeps takes =
      rw takes.told (step_goes scripts tries old.taker new.taker old.worker step answer takes.taken is keeps)

  turn_goes_in : (old : Working State) (turn : Option Turn) (new : Working State) → IsTurnBy old.worker turn
      → KeepsScripts scripts tries old.worker (own old.worker.number old.taker.history) → TakesTurnBy Happens scripts tries old turn new
      → MovesOn scripts tries old.taker new.taker old.worker new.worker
  turn_goes_in old (Some (Turn.One step)) new is keeps (answer, takes) = one_goes old step answer new is keeps takes
  turn_goes_in old (Some (Turn.Two first second)) new is keeps (Answer.Placed, between, takes, (answer, then)) =
      let goes = one_goes old first Answer.Placed between is.0 keeps takes in
      let there : step_by between.worker ≡ Some second =
      ap step_by (takes.told ∙ told_on scripts tries old.worker Answer.Placed second is.1) ∙ is.1 in
      goes_then scripts tries old.taker between.taker new.taker old.worker between.worker new.worker goes
      (one_goes between second answer new there goes.keeps then)
  turn_goes_in old (Some (Turn.Two first second)) new is keeps (answer, between, takes, same) =
      rw same (one_goes old first answer between is.0 keeps takes)
  turn_goes_in old turn new is keeps takes = absurd takes

  -- A worker notes the table's size, and then takes its turn. The turn adds only entries of the
  -- worker, and the worker still keeps to its scripts.
  pub turn_goes : (size : ℕ) (old new : State) (before after : Worker) (finish : Option Finish) → IsTurnBy (sized_by size before) (turn_by (sized_by size before)) → KeepsScripts scripts tries before (own before.number old.history)
      → TakesNext Happens size scripts tries old before finish new after → MovesOn scripts tries old new before after
  turn_goes size old new before after finish is keeps takes =
      let goes = turn_goes_in (record { taker = old; worker = sized_by size before; finish = None }) (turn_by (sized_by size before)) (record { taker = new; worker = after; finish = finish }) is
      (sized_keeps size scripts tries before (own before.number old.history) keeps) takes.steps in
      record { limits = goes.limits; number = goes.number; same = goes.same; others = goes.others; keeps = goes.keeps }

-- After a member has taken a turn, the workers are still a crew: the other members are unchanged.
pub crew_goes : (scripts : List (List Action)) (tries count w : ℕ) (old new : State) (crew : List Worker) (before after : Worker) → w < length crew → before ≡ get_or crew w before
    → IsCrew scripts tries count old.history crew → MovesOn scripts tries old new before after → IsReady after → IsCrew scripts tries count new.history (set crew w after)
crew_goes scripts tries count w old new crew before after within at is goes ready =
    record { size = length-set crew w after ∙ is.size; each = each }
  where
    before_is : IsMember scripts tries count old.history w before
    before_is = rw at (is.each w before within)

    each : (d : ℕ) (other : Worker) → d < length (set crew w after) → IsMember scripts tries count new.history d (get_or (set crew w after) d other)
    each d other less = elim (cases_eq d w) [
      | inl mine ↦
          let number = goes.number ∙ before_is.number in
          let workers = ap (λ (limits : Sizes). limits.callers) goes.same ∙ before_is.workers in
          let keeps = subst (λ x. KeepsScripts scripts tries after (own x new.history)) number goes.keeps in
          rw (mine, get_or-set_same crew w after other within)
          (record { number = number; workers = workers; keeps = keeps; ready = ready })
      | inr away ↦
          let member = is.each d other (rw (length-set crew w after) at less) in
          let keeps : KeepsScripts scripts tries (get_or crew d other) (own d new.history) =
          rw (goes.others d (λ same. away (same ∙ before_is.number))) member.keeps in
          rw (get_or-set_other crew w d after other away)
          (record { number = member.number; workers = member.workers; keeps = keeps; ready = member.ready })
    ]

-- Each member keeps to its scripts.
pub member_keeps : (scripts : List (List Action)) (tries count w : ℕ) (h : List Entry) (crew : List Worker) (worker : Worker)
    → w < length crew → worker ≡ get_or crew w worker → IsCrew scripts tries count h crew
    → KeepsScripts scripts tries worker (own worker.number h)
member_keeps scripts tries count w h crew worker within at is =
    let member : IsMember scripts tries count h w worker = rw at (is.each w worker within) in
    subst (λ n. KeepsScripts scripts tries worker (own n h)) (sym member.number) member.keeps

-- If a member is appended to a list of members, each worker of the new list is a member.
pub crew_more : (scripts : List (List Action)) (tries count : ℕ) (crew : List Worker) (worker : Worker) → IsMember scripts tries count [] (length crew) worker
    → ((w : ℕ) (other : Worker) → w < length crew → IsMember scripts tries count [] w (get_or crew w other))
    → (w : ℕ) (other : Worker) → w < length (crew ++ worker ∷ []) → IsMember scripts tries count [] w (get_or (crew ++ worker ∷ []) w other)
crew_more scripts tries count crew worker member each w other less = elim (cases_lt w (length crew)) [
  | inl within ↦
      rw (get_or-append crew (worker ∷ []) other w within) (each w other within)
  | inr past ↦
      let last : w ≡ length crew = omega (arith, length-append crew (worker ∷ [])) in
      rw (last, get_or-append_seam crew worker [] other) member
]

-- If the workers are a crew and the history is legal, each worker's scripts have outcomes that
-- agree with the history (`AreTrue`), and each worker's committed transactions play its scripts.
pub crew_told : {rule : Holder} (limits : Sizes) (scripts : List (List Action)) (tries count stripes : ℕ) (h : List Entry) (crew : List Worker) → IsLegal rule stripes h → IsCrew scripts tries count h crew
    → (c : ℕ) → c < count → (outcomes : List Outcome) × AreTrue c tries h (tolds_of (every count c scripts) outcomes)
crew_told limits scripts tries count stripes h crew legal is c below =
    let nobody : Worker = record { number = 0; limits = limits; task = None } in
    let worker : Worker = get_or crew c nobody in
    let member : IsMember scripts tries count h c worker = is.each c nobody (rw is.size below) in
    let (outcomes, told) = keeps_told scripts tries worker (own c h) member.ready member.keeps in (
      outcomes,
      accounts_true c tries h (tolds_of (every count c scripts) outcomes) legal.shape legal.replies
          (rw (member.workers, member.number) at told),
    )

pub crew_plays : {rule : Holder} (limits : Sizes) (scripts : List (List Action)) (tries count stripes : ℕ) (h : List Entry) (crew : List Worker) → IsLegal rule stripes h → IsCrew scripts tries count h crew → PlayScripts count scripts h
crew_plays limits scripts tries count stripes h crew legal is c below =
    let (outcomes, trues) = crew_told limits scripts tries count stripes h crew legal is c below in
    true_plays count c below scripts h tries outcomes trues
