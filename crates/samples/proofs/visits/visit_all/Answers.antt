use Rattle.samples.proofs.Merging.{all_same, all_closed, all_childless, is_whole, legal_here, all_answered}
use Rattle.samples.proofs.visits.visit_all.Goals as goal

pub merge_all-requires-clause-same_map : goal.merge_all-requires-clause-same_map
merge_all-requires-clause-same_map g c = all_same _ _ _ _ _ c.in_ok-host.ensures.ok c.in_ok-visitors.ensures.callers c.in_ok-done.ensures.len c.in_ok-done.ensures.each

pub merge_all-requires-clause-closed : goal.merge_all-requires-clause-closed
merge_all-requires-clause-closed g c = all_closed _ _ _ _ _ c.in_ok-host.ensures.ok c.in_ok-visitors.ensures.callers c.in_ok-done.ensures.len c.in_ok-done.ensures.each

pub merge_all-requires-clause-childless : goal.merge_all-requires-clause-childless
merge_all-requires-clause-childless g c = all_childless _ _ _ _ _ c.in_ok-host.ensures.ok c.in_ok-visitors.ensures.callers c.in_ok-done.ensures.len c.in_ok-done.ensures.each

pub hand_out-requires-clause-whole : goal.hand_out-requires-clause-whole
hand_out-requires-clause-whole g c =
    let m = c.in_ok-answers.ensures in
    is_whole _ _ _ _ _ c.in_ok-host.ensures.ok c.in_ok-visitors.ensures.callers c.in_ok-done.ensures.len c.in_ok-done.ensures.each c.merge_all.new.host m.map m.numbers m.seen m.taken m.made

pub returns-clause-legal : goal.returns-clause-legal
returns-clause-legal g c =
    let m = c.in_ok-answers.ensures in
    legal_here _ _ _ _ _ c.in_ok-host.ensures.ok c.in_ok-visitors.ensures.callers c.in_ok-done.ensures.len c.in_ok-done.ensures.each c.merge_all.new.host m.map m.numbers m.seen m.taken _ c.in_ok-history.ensures.ok

pub returns-clause-answered : goal.returns-clause-answered
returns-clause-answered g c =
    let m = c.in_ok-answers.ensures in
    all_answered _ _ _ _ _ c.in_ok-host.ensures.ok c.in_ok-visitors.ensures.callers c.in_ok-done.ensures.len c.in_ok-done.ensures.each c.merge_all.new.host m.map m.numbers m.seen m.taken
    _ _ _ c.in_ok-visitors.ensures.visits m.answers c.in_ok-history.ensures.ok
