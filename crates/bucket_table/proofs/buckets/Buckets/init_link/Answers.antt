use Rattle.std.proofs.Common.{◌≡◌, ℕ, Ok, sym, ◌∙◌, ap, subst}
use Rattle.list_steps.specs.declared.cursor.Cursor.{Cursor}
use Rattle.bucket_table.specs.declared.helper.Helper.{Helper}
use Rattle.bucket_table.specs.declared.helper.Helper.TheVariants.{Idle, Seeking, Holding}
use Rattle.bucket_table.specs.Directory.{Directory, IsReadyHelper, MayBeStored}
use Rattle.bucket_table.specs.Helpers.{seeking_of}
use Rattle.bucket_table.proofs.DirectoryLemmas.{helper_found}
use Rattle.bucket_table.proofs.buckets.Buckets.init_link.Goals as goal

-- If a helper has a cursor for a bucket, the bucket is ready to be stored (`MayBeStored`).
seeking_ready : (d : Directory) (helper : Helper) (bucket : ℕ) (cursor : Cursor) → IsReadyHelper d helper
    → seeking_of helper ≡ Ok (bucket, cursor) → MayBeStored d bucket
seeking_ready d Idle bucket cursor order is = absurd (cc is)
seeking_ready d (Seeking own noted) bucket cursor order is = let P : ℕ → Type 0 = MayBeStored d in let pair : ◌≡◌ {A = ℕ × Cursor} (own, noted) (bucket, cursor) = cc is in subst P (ap (λ (p : ℕ × Cursor). p.0) pair) order
seeking_ready d (Holding own dummy) bucket cursor order is = absurd (cc is)

pub link_at-requires-clause-ready : goal.link_at-requires-clause-ready
link_at-requires-clause-ready c =
    seeking_ready _ _ _ _ (helper_found (IsReadyHelper c.args.self.now) _ _ _ c.helper.ensures.sound.helpers c.in_ok-helper.ensures.ok) (sym c.seeking.ensures ∙ c.in_ok-bucket.was)
