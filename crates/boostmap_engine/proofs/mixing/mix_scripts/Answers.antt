use Rattle.std.proofs.Common.{◌≡◌, ◌∙◌, inl, inr, List, [], ◌∷◌, length, refl, sym, ap, subst, arith}
use Rattle.boostmap_engine.proofs.Vocabulary.{first_crew, IsAtPlace, IsCrew, live, live_from, start, State, Worker}
use Rattle.boostmap_engine.proofs.Lives.{all_done, drawn, lives_at, kept, length-live, removed}
use Rattle.boostmap_engine.proofs.Turns.{crew_goes, crew_plays, crew_told, member_keeps}
use Rattle.boostmap_engine.proofs.mixing.mix_scripts.Goals.{After-index_mut}
use Rattle.boostmap_engine.proofs.mixing.mix_scripts.Goals as goal

pub loop-turn-init : goal.loop-turn-init
loop-turn-init c =
    let core_is : c.in-Ok.core ≡ start c.args.work.now.sizes = c.in-Ok.ensures ∙ ap start c.limits-limits.ensures in
    let crew = rw (c.scripts.ensures, c.limits-limits.ensures) at (c.in_ok-workers.ensures.crew c.args.work.now.tries) in
    let first = c.in_ok-workers.ensures.first
    ∙ (λ i. first_crew (c.scripts.ensures i) (c.limits-limits.ensures i) (c.limits-limits.ensures i).callers) in
    record {
      limits = ap (λ (s : State). s.limits) core_is;
      crew = subst (λ (s : State). IsCrew c.args.work.now.scripts c.args.work.now.tries c.args.work.now.sizes.callers s.history
          c.in_ok-workers.workers.items) (sym core_is) crew;
      live = c.in_ok-live.ensures ∙ ap (λ (ws : List Worker). live_from 0 ws) c.deref.ensures.value;
      turns = ([], refl, λ i. record { core = core_is i; crew = first i; generator = c.seed_from_u64-generator.ensures i });
    }

pub index_mut-requires : goal.index_mut-requires
index_mut-requires c =
    let found = drawn c.loop-turn.workers.items c.loop-turn.live.items c.in-Some.place c.index-number.result.now c.loop-turn.invariant.live
    (rw c.deref-in-loop-turn.ensures.value at c.in-Some.ensures.below) c.index-number.ensures in
    omega (arith, found.within, c.loop-turn.workers.ok.0)

-- The worker whose number was drawn is at the drawn place among the live workers.
found_at : (c : After-index_mut) → IsAtPlace c.loop-turn.workers.items c.in-Some.place c.index-number.result.now
found_at c =
    drawn c.loop-turn.workers.items c.loop-turn.live.items c.in-Some.place c.index-number.result.now c.loop-turn.invariant.live
    (rw c.deref-in-loop-turn.ensures.value at c.in-Some.ensures.below) c.index-number.ensures

pub take_turn-lives-requires-clause-live : goal.take_turn-lives-requires-clause-live
take_turn-lives-requires-clause-live c =
    rw c.index_mut.ensures.value (lives_at c.loop-turn.workers.items c.in-Some.place c.index-number.result.now c.index_mut.result.now
    (found_at (goal.at.take_turn-lives-requires-clause-live c).After-index_mut))

pub take_turn-lives-requires-clause-keeps : goal.take_turn-lives-requires-clause-keeps
take_turn-lives-requires-clause-keeps c =
    let found = found_at (goal.at.take_turn-lives-requires-clause-keeps c).After-index_mut in
    rw (c.scripts-in-loop-turn.ensures, c.tries.ensures)
    (member_keeps c.args.work.now.scripts c.args.work.now.tries c.args.work.now.sizes.callers c.index-number.result.now
    c.loop-turn.core.history c.loop-turn.workers.items c.index_mut.result.now found.within c.index_mut.ensures.value
    c.loop-turn.invariant.crew)

pub loop-turn-preserved : goal.loop-turn-preserved
loop-turn-preserved c =
    let found = found_at (goal.at.loop-turn-preserved c).After-index_mut in
    let turn = c.take_turn-lives.ensures in
    let goes = rw (c.scripts-in-loop-turn.ensures, c.tries.ensures) at turn.goes in
    let (numbers, count, turns) = c.loop-turn.invariant.turns in
    let listed = c.loop-turn.invariant.live in
    let looked = c.deref-in-loop-turn.ensures.value in
    record {
      limits = goes.limits ∙ c.loop-turn.invariant.limits;
      crew = crew_goes c.args.work.now.scripts c.args.work.now.tries c.args.work.now.sizes.callers c.index-number.result.now c.loop-turn.core c.take_turn-lives.new.core c.loop-turn.workers.items c.index_mut.result.now c.take_turn-lives.new.worker found.within c.index_mut.ensures.value c.loop-turn.invariant.crew goes turn.ready;
      live = elim c.if-not-lives.branch [
        | goal.then-not-lives w ↦
            removed c.loop-turn.workers.items c.loop-turn.live.items c.if-not-lives.live.items c.in-Some.place c.index-number.result.now c.index_mut.result.now c.take_turn-lives.new.worker c.loop-turn.invariant.live c.index_mut.ensures.value found
            (sym turn.lives ∙ w.if-not-lives.true) (ap (λ v. v.items) w.live-is ∙ w.remove.ensures.items)
        | goal.else-not-lives w ↦
            ap (λ v. v.items) w.live-is
            ∙ kept c.loop-turn.workers.items c.loop-turn.live.items c.in-Some.place c.index-number.result.now c.index_mut.result.now c.take_turn-lives.new.worker c.loop-turn.invariant.live c.index_mut.ensures.value found (sym turn.lives ∙ w.if-not-lives.false)
      ];
      turns = (
        c.index-number.result.now ∷ numbers,
        omega (arith, count),
        (
          record { core = c.loop-turn.core; crew = c.loop-turn.workers.items; generator = c.loop-turn.generator },
          turns,
          record {
            drawn = rw (← length-live 0 c.loop-turn.workers.items, ← listed, ← looked, ← c.in-Some.ensures.drawn) found;
            generator = c.in-Some.ensures.generator;
            before = c.index_mut.result.now;
            after = c.take_turn-lives.new.worker;
            worker = c.index_mut.ensures.value;
            turn = rw (c.scripts-in-loop-turn.ensures, c.tries.ensures) at turn.takes;
            crew = refl;
          },
        ),
      );
    }

pub returns : goal.returns
returns c =
    let (numbers, count, turns) = c.loop-turn.invariant.turns in
    let is : c.into_core-core.result ≡ c.loop-turn.core = c.into_core-core.ensures.value in
    let legal = rw is at c.trace-history.ensures.legal in
    rw is (record {
      limits = c.loop-turn.invariant.limits;
      words = ap (λ (s : State). s.words) (sym is) ∙ c.into_core-core.ensures.ordinary;
      plays = crew_plays c.args.work.now.sizes c.args.work.now.scripts c.args.work.now.tries c.args.work.now.sizes.callers c.loop-turn.core.limits.stripes c.loop-turn.core.history c.loop-turn.workers.items legal c.loop-turn.invariant.crew;
      told = crew_told c.args.work.now.sizes c.args.work.now.scripts c.args.work.now.tries c.args.work.now.sizes.callers c.loop-turn.core.limits.stripes c.loop-turn.core.history c.loop-turn.workers.items legal c.loop-turn.invariant.crew;
      drawn = numbers;
      last = record { core = c.loop-turn.core; crew = c.loop-turn.workers.items; generator = c.loop-turn.generator };
      core = refl;
      turns = turns;
      ended = elim c.loop-turn-test.branch [
        | goal.else-loop-turn-test w ↦ inr (omega (arith, count, w.loop-turn-test.false, c.loop-turn.auto._turn-end))
        | goal.then-loop-turn-test+in_default-draw_place w ↦
            let none : live c.loop-turn.workers.items ≡ 0 =
            sym (length-live 0 c.loop-turn.workers.items) ∙ ap length (sym c.loop-turn.invariant.live ∙ sym w.deref-in-loop-turn.ensures.value ∙ w.draw_place.ensures.none w.in_default-draw_place.is) in
            inl (none, all_done c.loop-turn.workers.items (λ i d within. (c.loop-turn.invariant.crew.each i d within).ready) none)
      ];
    })
