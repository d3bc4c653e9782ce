use Rattle.std.proofs.Common.{◌≡◌, ◌+◌, [], ◌∷◌, ◌++◌, ◌∙◌, sym, ap}
use Rattle.std.specs.Prelude.{is_some}
use Rattle.judge_engine.specs.LineReads.{those}
use Rattle.judge_engine.proofs.LineLemmas.{stands_read, stands_wrong}
use Rattle.judge_engine.proofs.Taking.{none_yet, line_done}
use Rattle.judge_engine.proofs.watcher.Watcher.end_line.Goals as goal
use Rattle.history_check.proofs.FirstBad.{next_is}

pub returns-in-Some-clause-line : goal.returns-in-Some-clause-line
returns-in-Some-clause-line c = λ basis bytes t.
    let w = c.args.self.now in
    let here = none_yet bytes t.entries w.part.items w.number w.refused (sym c.is_some.ensures ∙ c.if-is_some.false) t.place in
    let r = rw c.in-Some.is at (c.in_ok-fault.ensures.ok basis t.entries t.fed) in
    let new = c.read_rest.new.self in
    record {
      entries = t.entries;
      fed = r.1;
      place = stands_wrong bytes t.entries w.part.items w.number c.args.piece.now c.requires here c.in-Some.fault new.part.items new.number r.0;
    }

pub returns-clause-line : goal.returns-clause-line
returns-clause-line c = λ basis bytes t.
    let w = c.args.self.now in
    let here = none_yet bytes t.entries w.part.items w.number w.refused (sym c.is_some.ensures ∙ c.if-is_some.false) t.place in
    let r = rw c.in_default.is at (c.in_ok-fault.ensures.ok basis t.entries t.fed) in
    let new = c.read_rest.new.self in
    let next : c.in_ok-next.next ≡ w.number + 1 = next_is c.checked_add.result _ (w.number + 1) c.in_ok-next.next c.checked_add.ensures c.in_ok-next.ensures.ok_part in
    let read = stands_read bytes t.entries w.part.items w.number c.args.piece.now c.requires here r.0 r.1 in
    record {
      entries = t.entries ++ those r.0;
      fed = r.2;
      place = line_done (bytes ++ (c.args.piece.now ++ 10 ∷ [])) (t.entries ++ those r.0) new.part.items w.number c.in_ok-next.next new.refused c.in_ok-fault.ensures.part next (ap is_some c.in_ok-fault.ensures.others ∙ sym c.is_some.ensures ∙ c.if-is_some.false) read;
    }
