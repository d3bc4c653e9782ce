-- No step of a caller unlinks an unmarked node or touches the buckets or the helpers.
use Rattle.std.proofs.Common.{◌≡◌, ℕ, Bool, true, false, Option, Some, None, refl, sym, ap, subst, nat_eq}
use Rattle.boost_core.proofs.Vocabulary.{option_eq, regular_at, IsSpread, Op, Put, Take, Get, PutIf, CallerStep, Answer, MapJob, Unput, Restore, Relink, NodeAt, Listing, TableAt, SpareAt, KeepsNodes, nodes_of, LinksNode, MarksNode, WritesNode, WritesNothing, OpWrites, PutWrites, PutIfWrites, TakeWrites, JobWrites, node_for, Claim, Lock, Right, Session, Reach, Counts, HasEffect, ActsIn, IsAsked, AsksBy}
use Rattle.boost_core.proofs.GapLists.{Stay, stay_same, stay_changed, stay_linked, stay_sought}
use Rattle.boost_core.proofs.Spares.{nodes_then}
use Rattle.txn_words.specs.declared.answer.Answer.TheVariants as answers

pub linked : (l l' : Listing) (n : NodeAt) → IsSpread l'.nodes → LinksNode l l' n → Stay l.nodes l'.nodes
linked l l' n spread is = subst (Stay l.nodes) (sym is.writes.nodes) (stay_linked l.nodes is.before n (subst IsSpread is.writes.nodes spread))

marked : (l l' : Listing) (key : ℕ) → MarksNode l l' key → Stay l.nodes l'.nodes
marked l l' key is = subst (Stay l.nodes) (sym is.writes.nodes) (stay_changed l.nodes is.node.place (λ n. record n { marked = true }) (λ n. (refl, refl, refl)))

written : (l l' : Listing) (key value : ℕ) → WritesNode l l' key value → Stay l.nodes l'.nodes
written l l' key value is = subst (Stay l.nodes) (sym is.writes.nodes) (stay_changed l.nodes is.node.place (λ n. record n { value = value }) (λ n. (refl, refl, refl)))

nothing : (l l' : Listing) → WritesNothing l l' → Stay l.nodes l'.nodes
nothing l l' is = stay_same l.nodes l'.nodes is.nodes

put : (l l' : Listing) (key value : ℕ) (spare : Option SpareAt) (before : Option ℕ) → IsSpread l'.nodes → PutWrites l l' key value spare before → Stay l.nodes l'.nodes
put l l' key value None before spread is = absurd is
put l l' key value (Some spare) None spread is = linked l l' (node_for key value spare) spread is
put l l' key value (Some spare) (Some was) spread is = written l l' key value is

put_if : (l l' : Listing) (key value : ℕ) (spare : Option SpareAt) (before : Option ℕ) (made : Bool) → IsSpread l'.nodes → PutIfWrites l l' key value spare before made → Stay l.nodes l'.nodes
put_if l l' key value spare before true spread is = put l l' key value spare before spread is
put_if l l' key value spare before false spread is = nothing l l' is

take : (l l' : Listing) (key : ℕ) (before : Option ℕ) → TakeWrites l l' key before → Stay l.nodes l'.nodes
take l l' key None is = nothing l l' is
take l l' key (Some was) is = marked l l' key is

operated : (l l' : Listing) (op : Op) (spare : Option SpareAt) (before : Option ℕ) → IsSpread l'.nodes → OpWrites l l' op spare before → Stay l.nodes l'.nodes
operated l l' (Put key value) spare before spread is = put l l' key value spare before spread is
operated l l' (Take key) spare before spread is = take l l' key before is
operated l l' (Get key) spare before spread is = nothing l l' is
operated l l' (PutIf key expected value) spare before spread is = put_if l l' key value spare before (option_eq nat_eq before expected) spread is

undone : (l l' : Listing) (job : MapJob) → IsSpread l'.nodes → JobWrites l l' job → Stay l.nodes l'.nodes
undone l l' (Unput key) spread is = marked l l' key is
undone l l' (Restore key was) spread is = written l l' key was is
undone l l' (Relink key was spare) spread is = linked l l' (node_for key was spare) spread is

-- After a step of a caller, the unmarked nodes are still linked, and the buckets and the helpers
-- are unchanged.
pub record Leaves (t t' : TableAt) : Type 0 where
  pub nodes : Stay (nodes_of t) (nodes_of t')
  pub buckets : t'.buckets ≡ t.buckets

module _ (old new : Reach) (spread : IsSpread (nodes_of new.table)) where
  same : new.table ≡ old.table → Leaves old.table new.table
  same is = record { nodes = stay_same (nodes_of old.table) (nodes_of new.table) (ap nodes_of is); buckets = ap (λ u. u.buckets) is }

  framed : (z : Session) → new ≡ record old { session = z } → Leaves old.table new.table
  framed z is = same (ap (λ (r : Reach). r.table) is)

  rested : KeepsNodes old.table new.table → Leaves old.table new.table
  rested keeps = record { nodes = stay_same (nodes_of old.table) (nodes_of new.table) keeps.all; buckets = keeps.buckets.all }

  asked : (c stripe : ℕ) (op : Op) (answer : Answer) → IsAsked c stripe op old answer new → Leaves old.table new.table
  asked c stripe op answers.Asked is = rested is.prepares.nodes
  asked c stripe op (answers.Busy holder) is = rested (nodes_then old.table is.between new.table is.prepares.nodes is.back.nodes)
  asked c stripe op (answers.Refused refusal) is = framed new.session is.2
  asked c stripe op _ is = absurd is

  asked_by : (claim : Claim) (c stripe : ℕ) (op : Op) (answer : Answer) → AsksBy claim c stripe op old answer new → Leaves old.table new.table
  asked_by Lock c stripe op answer is = asked c stripe op answer is
  asked_by Right c stripe op answer is = asked c stripe op is.0 is.2
  asked_by _ c stripe op answer is = framed old.session is.1

  acted : (c : ℕ) (answer : Answer) → ActsIn c old answer new → Leaves old.table new.table
  acted c answers.Again is = framed new.session is.2
  acted c (answers.Done reply) is =
      record { nodes = operated old.table.list new.table.list is.0.pending.op is.0.pending.spare _ spread is.0.writes; buckets = is.0.does.buckets.all }
  acted c answers.Undone is = record { nodes = undone old.table.list new.table.list is.1.job spread is.1.writes; buckets = is.1.back.buckets.all }
  acted c (answers.Returned n) is = framed new.session is.2
  acted c answers.Aborted is = same is.2
  acted c _ is = absurd is

  -- Each step of a caller leaves unmarked nodes linked, and buckets and helpers unchanged.
  pub does_stay : (stripes : ℕ) (counts : Counts) (d : ℕ) (step : CallerStep) (answer : Answer) → HasEffect stripes counts d step old answer new → Leaves old.table new.table
  does_stay stripes counts d CallerStep.Begin (answers.Began n) is = framed old.session is.1
  does_stay stripes counts d (CallerStep.Ask op claim) answer is = asked_by claim d _ op answer is
  does_stay stripes counts d CallerStep.Seek answers.Placed is = record {
    nodes = subst (Stay (nodes_of old.table)) (sym is.0.near.nodes) (stay_sought (regular_at is.0.key) (nodes_of old.table) is.0.near.start);
    buckets = is.0.places.keeps.buckets.all;
  }
  does_stay stripes counts d CallerStep.Act answer is = acted d answer is
  does_stay stripes counts d CallerStep.Save answer is = framed new.session is.1
  does_stay stripes counts d (CallerStep.Back n) answers.Leaving is = framed (record old.session { cursor = None }) is
  does_stay stripes counts d CallerStep.Commit (answers.Committed p) is = rested is.1.rests.nodes
  does_stay stripes counts d CallerStep.Abort answers.Leaving is = rested is.0.rests.nodes
  does_stay stripes counts d _ _ is = absurd is
