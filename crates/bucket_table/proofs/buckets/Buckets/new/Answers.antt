use Rattle.std.proofs.Common.{sym, subst, rules}
use Rattle.bucket_table.specs.Directory.{Directory}
use Rattle.bucket_table.specs.Home.{IsHome}
use Rattle.bucket_table.proofs.HomeLemmas.{home_beginning, first_dummy_at}
use Rattle.bucket_table.proofs.DirectoryLemmas.{sound_beginning}
use Rattle.bucket_table.proofs.buckets.Buckets.new.Goals as goal

pub invariant_of-result : goal.invariant_of-result
invariant_of-result c = rw (c.in_ok-new.ensures, c.in_ok-vec_of.ensures) (sound_beginning c.args.max c.args.helpers _ c.requires.power c.requires.least c.ranges.max.fits)

pub returns-clause-ok : goal.returns-clause-ok
returns-clause-ok c = search rules

pub returns-clause-home : goal.returns-clause-home
returns-clause-home c =
    let P : Directory → Type 0 = λ d. IsHome d c.args.list.now in
    subst P (sym (returns-clause-ok c)) (home_beginning _ _ _ _ (first_dummy_at _ c.head.ensures.sound.first))
