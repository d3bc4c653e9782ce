use Rattle.std.proofs.Common.{◌<◌, ◌≤◌, IfSome, arith, get_or, length, not, sym, ap, ◌∙◌, subst}
use Rattle.std.specs.Option.{option_eq}
use Rattle.std.specs.Prelude.{nat_eq}
use Rattle.std.proofs.lemmas.Bool.{false≢true, not-false}
use Rattle.std.proofs.lemmas.List.{take_all}
use Rattle.txn_trace.proofs.Now.{same_option, same_is}
use Rattle.order_check.specs.Joined.{DoesAt}
use Rattle.order_check.specs.Tables.{DoesReplace, Knows, NotesReplacer, replacer_in}
use Rattle.order_check.proofs.Noting.{no_access}
use Rattle.order_check.proofs.Replacing.{source_within, replacing_more, replacing_same}
use Rattle.order_check.proofs.Turning.{among_at}
use Rattle.order_check.proofs.replacers.make_replacers.Goals as goal
use Rattle.order_check.proofs.replacers.make_replacers.Goals.{then-ne+in_ok-note, else-ne}

pub note-requires : goal.note-requires
note-requires c =
    let below : c.loop-access.access-index < length c.args.accesses.now = omega arith in
    let x = get_or c.args.accesses.now c.loop-access.access-index no_access in
    subst (λ n. IfSome x.source (λ i. i < n)) (sym (c.loop-access.replacers.written.ok.0 ∙ c.loop-access.invariant.len))
    (source_within c.args.accesses.now x x.source (c.requires x (among_at c.args.accesses.now c.loop-access.access-index no_access below)))

pub loop-access-preserved : goal.loop-access-preserved
loop-access-preserved c =
    let below : c.loop-access.access-index < length c.args.accesses.now = omega arith in
    let x = get_or c.args.accesses.now c.loop-access.access-index no_access in
    elim c.if-ne.branch [
      | then-ne+in_ok-note w ↦
          replacing_more c.args.accesses.now c.loop-access.access-index below c.loop-access.replacers c.if-ne.replacers c.loop-access.invariant (among_at c.args.accesses.now c.loop-access.access-index no_access below)
          (λ same. false≢true (sym (ap not (same_is x.need x.left same)) ∙ sym c.ne.ensures ∙ w.if-ne.true)) (subst (λ r. NotesReplacer x c.loop-access.replacers r) (sym w.replacers-is) w.in_ok-note.ensures)
      | else-ne w ↦
          replacing_same c.args.accesses.now c.loop-access.access-index below c.loop-access.replacers c.if-ne.replacers c.loop-access.invariant
          (same_option x.need x.left (not-false (option_eq nat_eq x.need x.left) (sym c.ne.ensures ∙ w.if-ne.false))) w.replacers-is
    ]

pub returns : goal.returns
returns c k source =
    let end : length c.args.accesses.now ≤ c.loop-access.access-index = omega arith in
    subst (λ xs. Knows (DoesAt (DoesReplace k source) c.args.accesses.now) (DoesReplace k source) xs (replacer_in c.loop-access.replacers k source)) (take_all c.loop-access.access-index c.args.accesses.now end) (c.loop-access.invariant.known (k, source))
