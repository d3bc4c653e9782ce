use Rattle.std.proofs.Common.{ap, sym, ◌∙◌, ◌≡◌, List, Bool, false, get_or}
use Rattle.std.specs.declared.vec.Vec.{Vec}
use Rattle.std.specs.declared.alloc.Global.{Global}
use Rattle.order_check.specs.Known.{is_known, row_of}
use Rattle.order_check.proofs.Knowing.{row_past, row_read}
use Rattle.order_check.proofs.known.Known.is_before.Goals as goal

pub returns-in-Some : goal.returns-in-Some
returns-in-Some c =
    let read : row_of c.deref.result.now c.args.first ≡ c.in-Some.row.now.items = row_read c.deref.result.now c.args.first c.in-Some.row.now c.in-Some.ensures.lookup.3.0 c.in-Some.ensures.lookup.1 in
    c.is_set.ensures ∙ ap (λ (bits : List Bool). get_or bits c.args.second false) (c.deref-in-Some.ensures.value ∙ sym read) ∙ ap (λ (rows : List (Vec Bool Global)). is_known rows c.args.first c.args.second) c.deref.ensures.value

pub returns-in-None : goal.returns-in-None
returns-in-None c =
    sym (ap (λ (bits : List Bool). get_or bits c.args.second false) (row_past c.deref.result.now c.args.first c.in-None.ensures.lookup.3))
    ∙ ap (λ (rows : List (Vec Bool Global)). is_known rows c.args.first c.args.second) c.deref.ensures.value
