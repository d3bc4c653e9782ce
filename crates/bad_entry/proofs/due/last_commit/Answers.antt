use Rattle.std.proofs.Common.{◌≡◌, ◌+◌, ◌++◌, ◌∷◌, [], take, drop, ap, subst, sym, ◌∙◌}
use Rattle.std.specs.Option.{option_or}
use Rattle.serial_check.specs.Fed.{IsFed}
use Rattle.serial_check.specs.Serializable.{IsSerializableByCommits}
use Rattle.bad_entry.proofs.Fronts.{serial_take}
use Rattle.bad_entry.proofs.Steps.{commit_at, commit_next, last_at_end, next_take}
use Rattle.bad_entry.specs.Commits.{last_commit}
use Rattle.bad_entry.specs.Places.{last_from}
use Rattle.bad_entry.proofs.due.last_commit.Goals as goal

pub loop-index-preserved : goal.loop-index-preserved
loop-index-preserved c =
    let i = c.loop-index.index in
    let h = c.args.entries.now in
    let e = c.entry-entry.result in
    let item = c.index-entries-index.result in
    let longer = next_take i h e item c.loop-index-test.true c.entry-entry.ensures c.index-entries-index.is in
    let fed = c.in_ok-feed.ensures.ok (take i h) c.loop-index.invariant.fed in
    record {
      fed = subst (λ es. IsFed es c.feed.new.self) (sym longer) fed;
      rest = λ serial.
          let before = c.value-before.ensures (take i h) c.loop-index.invariant.fed (serial_take i h serial) in
          let after = c.value.ensures (take i h ++ e ∷ []) fed (subst IsSerializableByCommits longer (serial_take (i + 1) h serial)) in
          let last = c.or-last.ensures ∙ ap (λ o. option_or o c.loop-index.last) c.settled.ensures in
          subst (λ o. last_from (commit_at c.args.key) (take (i + 1) h) (drop (i + 1) h) o ≡ last_commit c.args.key h) (sym last)
          (commit_next c.args.key i h e item c.loop-index.last (last_commit c.args.key h) c.value-before.result c.value.result c.loop-index-test.true c.entry-entry.ensures c.index-entries-index.is before after (c.loop-index.invariant.rest serial));
    }

pub returns : goal.returns
returns c serial =
    last_at_end (commit_at c.args.key) c.loop-index.index c.args.entries.now c.loop-index.last (last_commit c.args.key c.args.entries.now) c.loop-index-test.false (c.loop-index.invariant.rest serial)
