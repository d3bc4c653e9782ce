use Rattle.judge_engine.proofs.order.judge_packed.Goals as goal

pub fed_checker-requires : goal.fed_checker-requires
fed_checker-requires c = rw c.as_slice.ensures.value c.requires

pub returns : goal.returns
returns c = c.found_by.ensures c.args.real_time c.args.packed.items (rw c.as_slice.ensures.value at c.in_ok-checker.ensures)
