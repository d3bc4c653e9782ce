-- The parts of a table that a call of `sweep` leaves unchanged.
use Rattle.std.proofs.Common.{◌≡◌, ℕ, List, refl, sym, ◌∙◌, ap, subst}
use Rattle.map_ops.specs.Vocabulary.{Directory, IsSound, Listing, NodeAt, SweepOutcome, has_dummy, pairs}
use Rattle.list_steps.specs.declared.sweeps.SweepOutcome.TheVariants.{Swept, Clean}
use Rattle.list_steps.specs.Steps as steps
use Rattle.map_ops.specs.Sound.{Belong}
use Rattle.map_ops.specs.TableAt.{table_of, KeepsTable}
use Rattle.map_ops.proofs.BelongLemmas.{belong_swept, has_dummy-swept, linked_same}
use Rattle.map_ops.proofs.KeepLemmas.{same_buckets}

-- A call of `sweep` leaves the pairs, the buckets, the linked dummies and the last stamp unchanged.
pub sweep_keeps : (old new : Listing) (d : Directory) (outcome : SweepOutcome) → IsSound old → steps.Sweeps old new outcome → pairs new.nodes ≡ pairs old.nodes → KeepsTable (table_of old d) (table_of new d)
sweep_keeps old new d Swept sound becomes same =
    let dummies = λ (b : ℕ). ap (λ (nodes : List NodeAt). has_dummy nodes b) becomes.nodes ∙ has_dummy-swept old.nodes b sound.plain in
    record { regular = same; dummies = dummies; buckets = same_buckets old new d; linked = linked_same old new d dummies; last = becomes.last }
sweep_keeps old new d Clean sound is same = subst (λ (l : Listing). KeepsTable (table_of old d) (table_of l d)) (sym is) (record { regular = refl; dummies = λ b. refl; buckets = same_buckets old old d; linked = refl; last = refl })

pub sweep_belong : (old new : Listing) (outcome : SweepOutcome) → steps.Sweeps old new outcome → Belong old.nodes → Belong new.nodes
sweep_belong old new Swept becomes belong = subst Belong (sym becomes.nodes) (belong_swept old.nodes belong)
sweep_belong old new Clean is belong = subst (λ (l : Listing). Belong l.nodes) (sym is) belong
