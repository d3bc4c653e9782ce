-- The changes of a list that preserve `IsHome`.
use Rattle.std.proofs.Common.{◌≡◌, ℕ, ◌<◌, inl, inr, Some, None, sym, ◌∙◌}
use Rattle.std.proofs.lemmas.Bool.{cases_eq}
use Rattle.std.proofs.lemmas.List.{get_or-set_same}
use Rattle.std.proofs.lemmas.List.Elements.{All-set, All-weaker, All-replicate}
use Rattle.node_list.specs.Nodes.{Listing}
use Rattle.node_list.specs.Follow.{Follows}
use Rattle.node_list.proofs.OrderLemmas.{some-injective}
use Rattle.list_steps.proofs.CursorLemmas.{still_placed}
use Rattle.node_list.specs.Sound.{IsFirst}
use Rattle.bucket_table.specs.declared.helper.Helper.{Helper}
use Rattle.bucket_table.specs.declared.helper.Helper.TheVariants.{Idle, Seeking, Holding}
use Rattle.bucket_table.specs.Directory.{Directory, limit_of, with_helper, with_dummy, with_size, beginning}
use Rattle.bucket_table.proofs.DirectoryLemmas.{stored_elsewhere, dummy_first}
use Rattle.bucket_table.specs.Dummies.{IsDummyAt}
use Rattle.bucket_table.specs.Home.{IsHelperHome, IsHome}

module _ (old new : Listing) (follows : Follows old new) where
  -- If a bucket's dummy is linked at a place in the old list, it is linked there in the new list
  -- too.
  pub still_dummy : (place bucket : ℕ) → IsDummyAt old.nodes place bucket → IsDummyAt new.nodes place bucket
  still_dummy place bucket dummy =
      let there = follows.dummies place dummy.node dummy.is dummy.kind in
      record {
        node = there.0;
        is = there.1;
        kind = sym there.2.kind ∙ dummy.kind;
        at = sym there.2.at ∙ dummy.at;
      }

  still_helper_home : (helper : Helper) → IsHelperHome old helper → IsHelperHome new helper
  still_helper_home Idle home = tt
  still_helper_home (Seeking bucket cursor) home = (still_placed old new cursor home.0 follows, home.1)
  still_helper_home (Holding bucket dummy) home = still_dummy dummy bucket home

  -- If `IsHome` holds for the old list, it holds for the new list.
  pub still_home : (d : Directory) → IsHome d old → IsHome d new
  still_home d home = record {
    stored = λ bucket place is. still_dummy place bucket (home.stored bucket place is);
    helpers = All-weaker (IsHelperHome old) (IsHelperHome new) still_helper_home d.helpers home.helpers;
  }

module _ (d : Directory) (l : Listing) (home : IsHome d l) where
  pub home_with_helper : (helper : ℕ) (now : Helper) → IsHelperHome l now → IsHome (with_helper d helper now) l
  home_with_helper helper now here = record {
    stored = home.stored;
    helpers = All-set (IsHelperHome l) d.helpers helper now here home.helpers;
  }

  pub home_with_dummy : (bucket place : ℕ) → bucket < limit_of d → IsDummyAt l.nodes place bucket → IsHome (with_dummy d bucket place) l
  home_with_dummy bucket place within dummy = record {
    stored = λ other at is. elim (cases_eq other bucket) [
      | inl here ↦
          let same : place ≡ at = some-injective (sym (get_or-set_same d.entries bucket (Some place) None within) ∙ rw here at is) in
          rw (here, ← same) dummy
      | inr apart ↦ home.stored other at (sym (stored_elsewhere d bucket place other apart) ∙ is)
    ];
    helpers = home.helpers;
  }

  pub home_with_size : (size : ℕ) → IsHome (with_size d size) l
  home_with_size size = record { stored = home.stored; helpers = home.helpers }

pub home_beginning : (limit helpers head : ℕ) (l : Listing) → IsDummyAt l.nodes head 0 → IsHome (beginning limit helpers head) l
home_beginning limit helpers head l first = record {
  stored = λ bucket place is. let only = dummy_first limit helpers head bucket place is in rw (only.0, ← only.1) first;
  helpers = All-replicate (IsHelperHome l) helpers Idle tt;
}

-- The first node is the dummy of bucket 0.
pub first_dummy_at : (l : Listing) → IsFirst l → IsDummyAt l.nodes l.head 0
first_dummy_at l first = record { node = first.node; is = first.is; kind = first.kind; at = first.at }
