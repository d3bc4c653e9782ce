-- The steps that keep tables sound.
use Rattle.std.proofs.Common.{◌≡◌, sym, subst}
use Rattle.map_ops.specs.Vocabulary.{Directory, Listing}
use Rattle.node_list.specs.Follow.{Follows}
use Rattle.bucket_table.proofs.HomeLemmas.{still_home}
use Rattle.map_ops.specs.Sound.{Belong, IsSound}

-- If the new list follows the old one and each node of the new list is at its position, the table
-- stays sound.
pub still_sound : (old new : Listing) (buckets : Directory) → IsSound old buckets → Follows old new → Belong new.nodes → IsSound new buckets
still_sound old new buckets sound follows belong = record { sound = follows.sound sound.sound; home = still_home old new follows buckets sound.home; belong = belong }

-- A table stays sound if its nodes are unchanged.
pub sound_with_nodes : (old new : Listing) (buckets : Directory) → IsSound old buckets → Follows old new → new.nodes ≡ old.nodes → IsSound new buckets
sound_with_nodes old new buckets sound follows same = still_sound old new buckets sound follows (subst Belong (sym same) sound.belong)
