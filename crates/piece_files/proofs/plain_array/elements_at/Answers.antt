use Rattle.std.proofs.Common.{drop, length, ap, subst, arith}
use Rattle.std.proofs.lemmas.Option.{IfSome_then}
use Rattle.piece_files.specs.PlainBytes.{Closes, Comma}
use Rattle.piece_files.proofs.PlainLemmas.{nothing_taken, kept_to_comma, kept_to_bracket}
use Rattle.piece_files.proofs.plain_array.elements_at.Goals as goal

pub elements-init : goal.elements-init
elements-init g c =
    let start = drop c.args.start c.args.text.now in
    (omega arith, omega arith, λ depth. rw c.clear.ensures (nothing_taken depth start))

pub elements-preserved : goal.elements-preserved
elements-preserved g c =
    let text = c.args.text.now in
    let end = c.in-Some.end in
    let next = c.in-Some-after_comma.next in
    let same = c.as_bytes-bytes.ensures.value in
    let start = drop c.args.start text in
    let h = subst (λ b. Comma (drop end b) (drop next b)) same c.in-Some-after_comma.ensures.comma in (
      omega (arith, c.elements.invariant.0, c.in-Some.ensures.place, c.in-Some-after_comma.ensures.place),
      omega (arith, c.in-Some-after_comma.ensures.place, ap length same),
      λ depth. kept_to_comma depth start (drop c.elements.at text) (drop end text) (drop next text) c.push.new.self.items c.elements.elements.items c.in-Some.element c.push.ensures.items (c.elements.invariant.2 depth) (c.in-Some.ensures.value depth) h,
    )

pub returns-in_default-after_comma-clause-elements : goal.returns-in_default-after_comma-clause-elements
returns-in_default-after_comma-clause-elements g c =
    let text = c.args.text.now in
    let end = c.in-Some.end in
    let same = c.as_bytes-bytes.ensures.value in
    let start = drop c.args.start text in
    IfSome_then c.after_bracket.result c.after_bracket.ensures.bracket (λ behind h depth. kept_to_bracket depth start (drop c.elements.at text) (drop end text) (drop behind text) c.push.new.self.items c.elements.elements.items c.in-Some.element c.push.ensures.items (c.elements.invariant.2 depth) (c.in-Some.ensures.value depth) (subst (λ b. Closes (drop end b) (drop behind b)) same h))
