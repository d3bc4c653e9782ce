use Rattle.std.proofs.Common.{◌≡◌, ℕ, refl, subst}
use Rattle.std.specs.Prelude.{Option, Some, IfSome}
use Rattle.node_list.specs.Tally.{AreMarksFrom}
use Rattle.split_key.specs.Split.{IsAncestor, ancestor_of}
use Rattle.list_steps.proofs.SweepLemmas.{before_marks, head_before_marks}
use Rattle.map_ops.proofs.table.sweep_start.Goals as goal

own_ancestor : (bucket : ℕ) → IsAncestor bucket bucket
unfolding ancestor_of
own_ancestor bucket = record { steps = 0; reached = refl }

at_some : {A : Type 0} (P : A → Type 0) (o : Option A) (x : A) → o ≡ Some x → IfSome o P → P x
at_some {A = A} P o x is holds = subst (λ (o : Option A). IfSome o P) is holds

pub returns-in-Some : goal.returns-in-Some
returns-in-Some c =
    let dummy = c.nearest.ensures.before c.args.list.now c.requires in
    let from = at_some (λ split. AreMarksFrom split c.args.list.now.nodes) c.marks_begin.result c.in-Some.split c.in-Some.is c.marks_begin.ensures.from in
    before_marks c.args.list.now _ c.bucket_at.result c.in-Some.split dummy.node c.marks_begin.ensures.sound dummy.is dummy.kind dummy.at_most (c.bucket_at.ensures.order c.bucket_at.result (own_ancestor c.bucket_at.result)) from

pub returns-in-None : goal.returns-in-None
returns-in-None c =
    rw c.head.ensures.place (head_before_marks c.args.list.now c.marks_begin.ensures.sound)
