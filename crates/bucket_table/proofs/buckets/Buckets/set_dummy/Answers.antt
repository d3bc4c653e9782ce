use Rattle.std.proofs.Common.{◌≡◌, ℕ, List, Option, Some, sym, subst}
use Rattle.std.specs.Prelude.{Result, Ok, Err, IfOk, OnErr, slice_set}
use Rattle.bucket_table.specs.Directory.{Directory, MayBeStored, IsSound}
use Rattle.bucket_table.proofs.DirectoryLemmas.{sound_with_dummy}
use Rattle.bucket_table.proofs.buckets.Buckets.set_dummy.Goals as goal

-- Buckets stay sound when a bucket is stored, and when memory is refused.
sound_stored : {E : Type 0} (d : Directory) (bucket place : ℕ) (entries : List (Option ℕ)) (result : Result Unit E) → IfOk result (λ done. entries ≡ slice_set d.entries bucket (Some place)) → OnErr result (entries ≡ d.entries)
    → IsSound d → MayBeStored d bucket → IsSound (record d { entries = entries })
sound_stored d bucket place entries (Ok done) is same sound ready = subst (λ (e : List (Option ℕ)). IsSound (record d { entries = e })) (sym is) (sound_with_dummy d bucket place sound ready)
sound_stored d bucket place entries (Err fault) is same sound ready = subst (λ (e : List (Option ℕ)). IsSound (record d { entries = e })) (sym same) sound

pub invariant_of-self : goal.invariant_of-self
invariant_of-self c = sound_stored _ c.args.bucket c.args.dummy _ c.set.result c.set.ensures.ok c.set.ensures.unchanged c.self.invariant (rw (← c.self.view_is) at c.requires)
