use Rattle.map_ops.proofs.ThereLemmas.{occupied, vacant}
use Rattle.map_ops.proofs.change.restore.Goals as goal

pub mark_key-requires-clause-there : goal.mark_key-requires-clause-there
mark_key-requires-clause-there c =
    let stands = rw c.in-Unput.is at c.requires.stands in
    let due = rw c.in-Unput.is at c.requires.due in
    rw c.place_in-place.ensures (occupied c.args.list.now _ _ c.args.there stands due)

pub swap_key-requires-clause-there : goal.swap_key-requires-clause-there
swap_key-requires-clause-there c =
    let stands = rw c.in-Restore.is at c.requires.stands in
    let due = rw c.in-Restore.is at c.requires.due in
    rw c.place_in-place.ensures (occupied c.args.list.now _ _ c.args.there stands due)

pub link_key-requires-clause-room : goal.link_key-requires-clause-room
link_key-requires-clause-room c =
    let stands = rw c.in-Relink.is at c.requires.stands in
    let due = rw c.in-Relink.is at c.requires.due in
    rw c.place_in-place.ensures (vacant c.args.list.now _ _ c.args.there stands due)

pub link_key-requires-clause-owned : goal.link_key-requires-clause-owned
link_key-requires-clause-owned c = rw c.in-Relink.is at c.requires.owned

pub returns-in-Unput-clause-back : goal.returns-in-Unput-clause-back
returns-in-Unput-clause-back c = rw c.in-Unput.is (record { sets = c.mark_key.ensures.sets; spares = c.mark_key.ensures.spares })

pub returns-in-Restore-clause-back : goal.returns-in-Restore-clause-back
returns-in-Restore-clause-back c = rw c.in-Restore.is (record { sets = c.swap_key.ensures.sets; spares = c.swap_key.ensures.spares })

pub returns-in-Relink-clause-back : goal.returns-in-Relink-clause-back
returns-in-Relink-clause-back c = rw c.in-Relink.is (record { sets = c.link_key.ensures.sets; spares = c.link_key.ensures.spares })

pub returns-in-Unput-clause-writes : goal.returns-in-Unput-clause-writes
returns-in-Unput-clause-writes c = rw c.in-Unput.is c.mark_key.ensures.writes

pub returns-in-Restore-clause-writes : goal.returns-in-Restore-clause-writes
returns-in-Restore-clause-writes c = rw c.in-Restore.is c.swap_key.ensures.writes

pub returns-in-Relink-clause-writes : goal.returns-in-Relink-clause-writes
returns-in-Relink-clause-writes c = rw c.in-Relink.is c.link_key.ensures.writes
