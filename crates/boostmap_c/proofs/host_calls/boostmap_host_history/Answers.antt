use Rattle.std.proofs.Common.{List, inl, inr, refl, subst, ◌∙◌}
use Rattle.txn_words.specs.declared.entry.Entry.{Entry}
use Rattle.boostmap_c.specs.Keepers.{LaysEntries}
use Rattle.boostmap_c.proofs.host_calls.boostmap_host_history.Goals as goal

pub returns-in-Ok : goal.returns-in-Ok
returns-in-Ok c = let h = c.in-Ok.ensures in
    rw (c.get_mut-keeper.ensures.value) (
      record { map_is = h.map; collects = h.collects; given = h.numbers; goes = h.goes; legal = h.legal; all = h.all; others = h.others },
      inl (h.merged, subst (λ (xs : List Entry). LaysEntries xs c.lay_entries.result c.args.entries.now c.lay_entries.new.entries c.lay_entries.new.word) (c.deref.ensures.value ∙ h.ok) c.lay_entries.ensures),
    )

pub returns-in-Err : goal.returns-in-Err
returns-in-Err c = let h = c.in-Err.ensures in
    rw (c.get_mut-keeper.ensures.value) (
      record { map_is = h.map; collects = h.collects; given = h.numbers; goes = h.goes; legal = h.legal; all = h.all; others = h.others },
      inr (c.in-Err.why, h.err, c.tell_no_history.ensures.status, c.tell_no_history.ensures.word, refl),
    )
