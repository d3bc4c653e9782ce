-- Shows what each step does to the nodes, the change number and the last stamp, because it does to
-- the machine's list what its call of the table does to the table's list.
use Rattle.std.proofs.Common.{arith, ◌≡◌, ◌⊎◌, ℕ, ◌-◌, ◌%◌, ◌≤◌, Bool, true, false, List, [], ◌∷◌, ◌++◌, length, Option, Some, None, is_some, inl, inr, refl, sym, ap, subst, ◌∙◌, reverse, slice_get, unwrap_or, nat_lt, nat_eq, IsSome, option_map, Result, Ok, Err}
use Rattle.boost_core.proofs.Vocabulary.{may_change, option_eq, false≢true, cases_Bool, slice_get-map, unwrap_or-slice_get, regular_at, Op, Put, Take, Get, PutIf, Refusal, Step, CallerStep, HelperStep, step_by, claim_in, step_from, Answer, Phase, Waiting, LeavingTo, LeavingToEnd, Map, get, key_of, now, log_of, stripe_of, Stance, kept_at, newest_above, MapJob, Unput, Restore, Relink, length-map, reverse-append, ancestor_of, NodeAt, changes_after, sought, IsDummyAt, PendingAt, key_of_job, value_before, IsDue, TableAt, SpareAt, KeepsNodes, KeepsList, NamesDummies, content, nodes_of, size_of, stored_of, table_changes, last_of, SeeksNear, IsRefused, Session, State, is_set, stance_in, Touches, stamp_after, Writes, Links, Marks, SeeksFrom, SeeksKey, IsNearest, Changes, PutsIf, OpDoes, OpDoesIn, BackDoes, Lists, next_key_in, next_key, newest_key, Reach, reach, HasEffect, ActsIn, DoesIn, TakesBackIn, SeeksIn, IsAsked, AsksBy, unless_busy, Waits, AreDue, key_of_newest, target_in, target_of, changes_of, Claim, Lock, Right, ListsAsk, ListsBy, stamp_by, World, Tells, state_of, node_at, NoMemory, StaleWord, Act, Ask, Seek, dummy_at, InitSeek, InitLink, SweepOutcome, dummy_node, Sweeps, Seeking, SeekChanges, LinkChanges, Help, Nothing, helps_of, help_in, bucket_at, Serves, Sweeping}
use Rattle.boost_core.specs.Nodes.{LeavesNodes}
use Rattle.boost_core.proofs.Spares.{given_for, nodes_then}
use Rattle.boost_core.proofs.NodeLists.{seen, inserted, replaced, written_seen, seeks_from, clean_seen, sweeps as swept_nodes}
use Rattle.boost_core.proofs.Outcomes.{is_stale_word}
use Rattle.boost_core.proofs.SideRefusals.{stance_here}
use Rattle.boost_core.proofs.Sides.{changes_last, waiting_op, newest_is}
use Rattle.map_ops.specs.Buckets.{parent_of}
use Rattle.boost_core.proofs.Tables.{help_is, links_node}
use Rattle.bucket_table.specs.Directory as directories
use Rattle.txn_words.specs.declared.answer.Answer.TheVariants as answers
use Rattle.map_ops.specs.Nodes as writes
use Rattle.txn_words.specs.declared.step.Step.TheVariants as steps
use Rattle.map_ops.specs.InitSeek.TheVariants as seeks
use Rattle.map_ops.specs.InitLink.TheVariants as links
use Rattle.map_ops.specs.SweepOutcome.TheVariants as outcomes
use Rattle.boost_core.specs.Serves as said

-- If two states are equal, a step has the same effect on the list in both.
pub lists_of : (state old new : State) (step : Step) (answer : Answer) → state ≡ old → Lists state step answer new → Lists old step answer new
lists_of state old new step answer is lists = subst (λ s. Lists s step answer new) is lists

pub lists_by_of : (claim : Claim) (state old new : State) (step : Step) (answer : Answer) → state ≡ old → ListsBy claim state step answer new → ListsBy claim old step answer new
lists_by_of claim state old new step answer is lists = subst (λ s. ListsBy claim s step answer new) is lists

-- The machine's nodes and change number are unchanged if the table's list is unchanged (`kept`), if
-- the whole table is unchanged (`same`), or if the table keeps its nodes (`rested`).
pub kept : (w w' : World) → KeepsList w.table w'.table → LeavesNodes (state_of w) (state_of w')
kept w w' same = record { nodes = ap (λ l. seen l.nodes) same; changes = ap (λ l. l.changes) same }

same : (w w' : World) → w'.table ≡ w.table → LeavesNodes (state_of w) (state_of w')
same w w' is = kept w w' (ap (λ t. t.list) is)

tables : {old new : Reach} → new ≡ old → new.table ≡ old.table
tables is = ap (λ (r : Reach). r.table) is

pub rested : (w w' : World) → KeepsNodes w.table w'.table → LeavesNodes (state_of w) (state_of w')
rested w w' keeps = record { nodes = ap seen keeps.all; changes = keeps.changes }

-- If the table's list links a node, the list of nodes in the machine's state links it too. The next
-- lemmas are about marking and writing a node.
pub linked_node : (w w' : World) (node : NodeAt) → node.marked ≡ false → writes.LinksNode w.table.list w'.table.list node → Links (state_of w) (state_of w') node.at
linked_node w w' node live is =
    let more = inserted (nodes_of w.table) is.before node is.linked in
    record {
      front = more.front;
      back = more.back;
      old_is = more.old_is;
      new_is = ap seen is.writes.nodes ∙ more.new_is ∙ (λ i. more.front ++ record { at = node.at; marked = live i } ∷ more.back);
      changes = is.writes.changes;
    }

pub marks : (w w' : World) (key : ℕ) → writes.MarksNode w.table.list w'.table.list key → Marks (state_of w) (state_of w') (regular_at key)
marks w w' key is =
    let more = replaced (nodes_of w.table) is.node.place (λ n. record n { marked = true }) is.node is.its.is in
    record {
      front = more.front;
      back = more.back;
      old_is = more.old_is ∙ (λ i. more.front ++ record { at = is.its.at i; marked = is.its.unmarked i } ∷ more.back);
      new_is = ap seen is.writes.nodes ∙ more.new_is ∙ (λ i. more.front ++ record { at = is.its.at i; marked = true } ∷ more.back);
      changes = is.writes.changes;
    }

pub written : (w w' : World) (key value : ℕ) → writes.WritesNode w.table.list w'.table.list key value → Writes (state_of w) (state_of w')
written w w' key value is = record { nodes = ap seen is.writes.nodes ∙ written_seen (nodes_of w.table) is.node.place value; changes = is.writes.changes }

pub nothing : (w w' : World) → writes.WritesNothing w.table.list w'.table.list → LeavesNodes (state_of w) (state_of w')
nothing w w' is = record { nodes = ap seen is.nodes; changes = is.changes }

-- If the table seeks a position from a bucket's dummy, so does the machine's state (`SeeksFrom`).
pub sought_from : (w w' : World) (place bucket : ℕ) (dummy : IsDummyAt (nodes_of w.table) place bucket) (sort : _) → nodes_of w'.table ≡ sought (nodes_of w.table) place sort → writes.IsUnlinking w.table.list w'.table.list
    → SeeksFrom (state_of w) (state_of w') bucket sort
sought_from w w' place bucket dummy sort nodes changes =
    let is = seeks_from sort (nodes_of w.table) place dummy.node dummy.is in
    record {
      front = is.front;
      start = node_at dummy.node;
      passed = is.passed;
      back = is.back;
      from = dummy.at;
      old_is = is.old_is;
      new_is = ap seen nodes ∙ is.new_is;
      passes = is.passes;
      stops = is.stops;
      changes = changes ∙ (λ i. changes_after (table_changes w.table) (sym (length-map (nodes_of w.table) node_at) i - sym (length-map (nodes_of w'.table) node_at) i));
    }

stored_is : (t : TableAt) (bucket : ℕ) → is_set (stored_of t) bucket ≡ directories.is_stored t.buckets bucket
stored_is t bucket =
    ap (λ (o : Option Bool). unwrap_or o false) (slice_get-map is_some t.buckets.entries bucket)
    ∙ both (slice_get t.buckets.entries bucket) ∙ ap is_some (unwrap_or-slice_get t.buckets.entries bucket None)
  where
    both : (o : Option (Option ℕ)) → unwrap_or (option_map is_some o) false ≡ is_some (unwrap_or o None)
    both None = refl
    both (Some dummy) = refl

nearest : (t : TableAt) (bucket place : ℕ) (near : directories.IsNearest t.buckets bucket place) → IsNearest (stored_of t) bucket (ancestor_of near.steps bucket)
nearest t bucket place near = record {
  steps = near.steps;
  is = refl;
  there = stored_is t (ancestor_of near.steps bucket) ∙ ap is_some near.stored;
  nearer = λ fewer less. stored_is t (ancestor_of fewer bucket) ∙ near.nearer fewer less;
}

pub seeks_key : (w w' : World) → NamesDummies w.table → (key : ℕ) → SeeksNear w.table w'.table key → SeeksKey (state_of w) (state_of w') key
seeks_key w w' home key near = record {
  bucket = ancestor_of near.nearest.steps (key % size_of w.table);
  nearest = nearest w.table (key % size_of w.table) near.start near.nearest;
  seeks = sought_from w w' near.start (ancestor_of near.nearest.steps (key % size_of w.table)) (home.stored (ancestor_of near.nearest.steps (key % size_of w.table)) near.start near.nearest.stored) (regular_at key) near.nodes near.changes;
}

put_changes : (w w' : World) (key value : ℕ) (spare : Option SpareAt) (before : Option ℕ) → writes.PutWrites w.table.list w'.table.list key value spare before → Changes (state_of w) (state_of w') key before (Some value)
put_changes w w' key value None before is = absurd is
put_changes w w' key value (Some spare) None is = linked_node w w' (writes.node_for key value spare) refl is
put_changes w w' key value (Some spare) (Some was) is = written w w' key value is

put_if_changes : (w w' : World) (key value : ℕ) (spare : Option SpareAt) (before : Option ℕ) (made : Bool) → writes.PutIfWrites w.table.list w'.table.list key value spare before made → PutsIf (state_of w) (state_of w') key value before made
put_if_changes w w' key value spare before true is = put_changes w w' key value spare before is
put_if_changes w w' key value spare before false is = nothing w w' is

take_changes : (w w' : World) (key : ℕ) (before : Option ℕ) → writes.TakeWrites w.table.list w'.table.list key before → Changes (state_of w) (state_of w') key before None
take_changes w w' key None is = nothing w w' is
take_changes w w' key (Some was) is = marks w w' key is

operates : (w w' : World) → content w.table ≡ now w.history → (op : Op) (spare : Option SpareAt) → writes.OpWrites w.table.list w'.table.list op spare (get (content w.table) (key_of op)) → OpDoes (state_of w) (state_of w') op
operates w w' same (Put key value) spare is = subst (λ (m : Map). Changes (state_of w) (state_of w') key (get m key) (Some value)) same (put_changes w w' key value spare (get (content w.table) key) is)
operates w w' same (Take key) spare is = subst (λ (m : Map). Changes (state_of w) (state_of w') key (get m key) None) same (take_changes w w' key (get (content w.table) key) is)
operates w w' same (Get key) spare is = nothing w w' is
operates w w' same (PutIf key expected value) spare is = subst (λ (m : Map). PutsIf (state_of w) (state_of w') key value (get m key) (option_eq nat_eq (get m key) expected)) same (put_if_changes w w' key value spare (get (content w.table) key) (option_eq nat_eq (get (content w.table) key) expected) is)

unput : (w w' : World) (key : ℕ) (o : Option ℕ) → IsSome o → writes.MarksNode w.table.list w'.table.list key → Changes (state_of w) (state_of w') key o None
unput w w' key None due is = absurd (false≢true due)
unput w w' key (Some was) due is = marks w w' key is

restored : (w w' : World) (key before : ℕ) (o : Option ℕ) → IsSome o → writes.WritesNode w.table.list w'.table.list key before → Changes (state_of w) (state_of w') key o (Some before)
restored w w' key before None due is = absurd (false≢true due)
restored w w' key before (Some was) due is = written w w' key before is

taken_back : (w w' : World) (job : MapJob) → IsDue (now w.history) job → writes.JobWrites w.table.list w'.table.list job → Changes (state_of w) (state_of w') (key_of_job job) (get (now w.history) (key_of_job job)) (value_before job)
taken_back w w' (Unput key) due is = unput w w' key (get (now w.history) key) due is
taken_back w w' (Restore key was) due is = restored w w' key was (get (now w.history) key) due is
taken_back w w' (Relink key was spare) due is = subst (λ (o : Option ℕ). Changes (state_of w) (state_of w') key o (Some was)) (sym due) (linked_node w w' (writes.node_for key was spare) refl is)

module _ (w : World) (tells : Tells w) (c : ℕ) (x : Session) (at : slice_get w.sessions c ≡ Some x) where
  here : stance_in w.history c ≡ x.stance.stance
  here = stance_here w tells c x at

  log_is : log_of c w.history ≡ changes_of x.log.jobs
  log_is = (tells.its_stance c x at).log

  newest_first : (level : ℕ) (key : ℕ) → key_of_newest (newest_above x.log level) ≡ Some key → newest_key (changes_of x.log.jobs) ≡ key
  newest_first level key is = elim (cases_Bool (nat_lt (kept_at x.log.kept level) (length x.log.jobs))) [
    | inl more ↦
        let newest = newest_is x.log level more in
        ap newest_key (changes_last x.log.jobs newest.0.front newest.0.job newest.0.is) ∙ cc (rw newest.1 at is)
    | inr none ↦ absurd (cc (rw none at is))
  ]

  key_is : (q : Phase) (key : ℕ) → target_in q x.log ≡ Some key → next_key_in q (changes_of x.log.jobs) ≡ key
  key_is (Waiting op) key is = cc (is)
  key_is (LeavingTo level) key is = newest_first level key is
  key_is LeavingToEnd key is = newest_first 0 key is
  key_is _ key is = absurd (cc (is))

  pub next_is : (key : ℕ) → target_of x ≡ Some key → next_key (state_of w) c ≡ key
  next_is key is = (λ i. next_key_in (here i).phase (log_is i)) ∙ key_is x.stance.stance.phase key is

  pub sought_key : (w' : World) (y : Session) → NamesDummies w.table → SeeksIn x w.table y w'.table → SeeksKey (state_of w) (state_of w') (next_key (state_of w) c)
  sought_key w' y home is = subst (SeeksKey (state_of w) (state_of w')) (sym (next_is is.key is.target)) (seeks_key w w' home is.key is.near)

  pub done : (w' : World) (reply : Option ℕ) (y : Session) → DoesIn x w.table reply y w'.table → OpDoesIn (state_of w) (state_of w') (stance_in w.history c).phase
  done w' reply y is =
      let waits : Waits x.stance.stance.phase (Some is.pending) x.log.room = subst (λ (o : Option PendingAt). Waits x.stance.stance.phase o x.log.room) is.had (tells.its_stance c x at).agrees.waits in
      subst (OpDoesIn (state_of w) (state_of w')) (sym (ap (λ (s : Stance). s.phase) here ∙ waiting_op x.stance.stance.phase is.pending x.log.room waits))
      (operates w w' tells.content is.pending.op is.pending.spare is.writes)

  pub undone : (w' : World) (y : Session) → TakesBackIn x w.table y w'.table → BackDoes (state_of w) (state_of w') (log_of c w.history)
  undone w' y is =
      let due : AreDue (now w.history) (is.job ∷ reverse y.log.jobs) = subst (AreDue (now w.history)) (ap reverse is.jobs ∙ reverse-append y.log.jobs (is.job ∷ [])) (tells.its_stance c x at).due in
      subst (BackDoes (state_of w) (state_of w')) (sym (log_is ∙ changes_last x.log.jobs y.log.jobs is.job is.jobs))
      (taken_back w w' is.job due.0 is.writes)

  module _ (w' : World) (y : Session) (locks' : List (Option ℕ)) (rises : table_changes w.table ≤ table_changes w'.table) where
    asked : (op : Op) (stripe : ℕ) (answer : Answer) → IsAsked c stripe op (reach x w.table w.locks) answer (reach y w'.table locks') → Lists (state_of w) (Ask c op) answer (state_of w')
    asked op stripe answers.Asked is =
        record {
          nodes = rested w w' is.prepares.nodes;
          rises = rises;
          stamp = (given_for w.table w'.table (may_change op) is.pending.spare is.prepares.given).last;
        }
    asked op stripe (answers.Busy holder) is = record {
      nodes = rested w w' (nodes_then w.table is.between w'.table is.prepares.nodes is.back.nodes);
      rises = rises;
      stamp = is.back.last ∙ (given_for w.table is.between (may_change op) is.pending.spare is.prepares.given).last;
    }
    asked op stripe (answers.Refused refusal) is = record { nodes = same w w' (tables is.2); rises = rises; stamp = ap last_of (tables is.2) }
    asked op stripe _ is = absurd is

    not_stale : (op : Op) → (StaleWord ≡ NoMemory) ⊎ IsRefused w.table op StaleWord → ⊥
    not_stale op (inl is) = cc (is)
    not_stale op (inr is) = is

    -- If the right of the step `Ask` is stale, the step has used up a stamp exactly if its
    -- operation takes a node. With a word, the step uses up no stamp.
    asked_with : (op : Op) (stripe : ℕ) (own : Answer) → IsAsked c stripe op (reach x w.table w.locks) own (reach y w'.table locks') → ListsAsk Right (state_of w) (Ask c op) (unless_busy own) (state_of w')
    asked_with op stripe answers.Asked is = let lists = asked op stripe answers.Asked is in record { nodes = lists.nodes; stamp = lists.stamp }
    asked_with op stripe (answers.Busy holder) is = let lists = asked op stripe (answers.Busy holder) is in record { nodes = lists.nodes; stamp = lists.stamp }
    asked_with op stripe (answers.Refused StaleWord) is = absurd (not_stale op is.0)
    asked_with op stripe (answers.Refused _) is = record { nodes = same w w' (tables is.2); stamp = ap last_of (tables is.2) }
    asked_with op stripe _ is = absurd is

    asked_by : (claim : Claim) (op : Op) (stripe : ℕ) (answer : Answer) → AsksBy claim c stripe op (reach x w.table w.locks) answer (reach y w'.table locks') → ListsBy claim (state_of w) (Ask c op) answer (state_of w')
    asked_by Lock op stripe answer is = asked op stripe answer is
    asked_by Right op stripe answer is = subst (λ a. ListsAsk Right (state_of w) (Ask c op) a (state_of w')) (sym is.1) (asked_with op stripe is.0 is.2)
    asked_by claim op stripe answer is =
        subst (λ a. ListsAsk claim (state_of w) (Ask c op) a (state_of w')) (sym is.0)
        (record { nodes = same w w' (tables is.1); stamp = ap last_of (tables is.1) })

    acted : (answer : Answer) → ActsIn c (reach x w.table w.locks) answer (reach y w'.table locks') → Lists (state_of w) (Act c) answer (state_of w')
    acted answers.Again is = record { nodes = same w w' (tables is.2); rises = rises; stamp = ap last_of (tables is.2) }
    acted (answers.Done reply) is = record { nodes = done w' reply y is.0; rises = rises; stamp = is.0.does.last }
    acted answers.Undone is = record { nodes = undone w' y is.1; rises = rises; stamp = is.1.back.last }
    acted (answers.Returned n) is = record { nodes = same w w' (tables is.2); rises = rises; stamp = ap last_of (tables is.2) }
    acted answers.Aborted is = record { nodes = same w w' is.2; rises = rises; stamp = ap last_of is.2 }
    acted _ is = absurd is

module _ (w : World) (tells : Tells w) (x : Session) (w' : World) (y : Session) (locks' : List (Option ℕ)) (rises : table_changes w.table ≤ table_changes w'.table) where
  -- The effect on the list of each step of a caller.
  pub does : NamesDummies w.table → (stripes c : ℕ) → slice_get w.sessions c ≡ Some x → (step : CallerStep) → (answer : Answer)
      → HasEffect stripes w.counts c step (reach x w.table w.locks) answer (reach y w'.table locks')
      → ListsBy (claim_in step) (state_of w) (step_by c step) answer (state_of w')
  does home stripes c at CallerStep.Begin (answers.Began n) is = record { nodes = same w w' (tables is.1); rises = rises; stamp = ap last_of (tables is.1) }
  does home stripes c at (CallerStep.Ask op claim) answer is =
      asked_by w tells c x at w' y locks' rises claim op (stripe_of stripes (key_of op)) answer is
  does home stripes c at CallerStep.Seek answers.Placed is =
      record { nodes = sought_key w tells c x at w' y home is.0; rises = rises; stamp = is.0.places.keeps.last }
  does home stripes c at CallerStep.Act answer is = acted w tells c x at w' y locks' rises answer is
  does home stripes c at CallerStep.Save (answers.Saved n) is = record { nodes = same w w' (tables is.1); rises = rises; stamp = ap last_of (tables is.1) }
  does home stripes c at CallerStep.Save _ is = record { nodes = same w w' (tables is.1); rises = rises; stamp = ap last_of (tables is.1) }
  does home stripes c at (CallerStep.Back n) answers.Leaving is = record { nodes = same w w' (tables is); rises = rises; stamp = ap last_of (tables is) }
  does home stripes c at CallerStep.Commit (answers.Committed p) is =
      record { nodes = rested w w' is.1.rests.nodes; rises = rises; stamp = is.1.rests.last }
  does home stripes c at CallerStep.Abort answers.Leaving is = record { nodes = rested w w' is.0.rests.nodes; rises = rises; stamp = is.0.rests.last }
  does home stripes c at _ _ is = absurd is

-- A refusal by a test leaves the list unchanged.
touched : (old new : State) (step : Step) (refusal : Refusal) → LeavesNodes old new → Touches old step (answers.Refused refusal) new
touched old new (Seek c) refusal keeps = keeps
touched old new _ refusal keeps = keeps

stamp_stays : (stamp : ℕ) (step : Step) (refusal : Refusal) → stamp_after stamp step (answers.Refused refusal) ≡ stamp
stamp_stays stamp (Ask c op) refusal = refl
stamp_stays stamp _ refusal = refl

right_stays : (stamp : ℕ) (step : Step) (refusal : Refusal) → is_stale_word refusal ≡ false → stamp_by Right stamp step (answers.Refused refusal) ≡ stamp
right_stays stamp (Ask c op) StaleWord early = absurd (false≢true (sym early))
right_stays stamp (Ask c op) _ early = refl
right_stays stamp _ refusal early = refl

pub refused_lists : (claim : Claim) (old new : State) (step : Step) (refusal : Refusal) → (claim ≡ Lock) ⊎ (is_stale_word refusal ≡ false) → LeavesNodes old new → new.stamp ≡ old.stamp → ListsBy claim old step (answers.Refused refusal) new
refused_lists claim old new step refusal (inl lock) keeps same =
    subst (λ k. ListsBy k old step (answers.Refused refusal) new) (sym lock) (record { nodes = touched old new step refusal keeps; rises = omega (arith, keeps.changes); stamp = same ∙ sym (stamp_stays old.stamp step refusal) })
refused_lists claim old new step refusal (inr early) keeps same = by claim
  where
    by : (claim : Claim) → ListsBy claim old step (answers.Refused refusal) new
    by Lock = record { nodes = touched old new step refusal keeps; rises = omega (arith, keeps.changes); stamp = same ∙ sym (stamp_stays old.stamp step refusal) }
    by Right = record { nodes = touched old new step refusal keeps; stamp = same ∙ sym (right_stays old.stamp step refusal early) }
    by _ = record { nodes = touched old new step refusal keeps; stamp = same }

module _ (w w' : World) (home : NamesDummies w.table) (rises : table_changes w.table ≤ table_changes w'.table) where
  swept : (answer : Answer) (is : Sweeping w.table w'.table answer) (outcome : SweepOutcome) → is.outcome ≡ outcome → Lists (state_of w) steps.Sweep (said.swept outcome) (state_of w')
  swept answer is outcomes.Swept says =
      let sweeps : Sweeps w.table w'.table outcomes.Swept = subst (Sweeps w.table w'.table) says is.sweeps in
      let one = swept_nodes (nodes_of w.table) (λ clean. let e : outcomes.Swept ≡ outcomes.Clean = sym says ∙ is.clean.1 clean in cc (e)) in
      record {
        nodes = record { front = one.front; at = one.at; back = one.back; old_is = one.old_is; new_is = ap seen sweeps.0.nodes ∙ one.new_is; first = one.first; changes = sweeps.0.changes };
        rises = rises;
        stamp = is.keeps.last;
      }
  swept answer is outcomes.Clean says =
      let sweeps : Sweeps w.table w'.table outcomes.Clean = subst (Sweeps w.table w'.table) says is.sweeps in
      record { nodes = (clean_seen (nodes_of w.table) (is.clean.0 says), kept w w' sweeps.0); rises = rises; stamp = is.keeps.last }

  sought_bucket : (h b : ℕ) (outcome : Result InitSeek Refusal) → SeekChanges w.table w'.table h b outcome
      → Lists (state_of w) (steps.InitSeek h b) (said.answer_to_seek outcome) (state_of w')
  sought_bucket h b (Ok seeks.Ready) changes = record { nodes = kept w w' changes.1; rises = rises; stamp = ap (λ l. l.last) changes.1 }
  sought_bucket h b (Ok seeks.Placed) changes = record {
    nodes = sought_from w w' changes.from (parent_of b) (home.stored (parent_of b) changes.from changes.parent)
        (dummy_at b) changes.nodes changes.changes;
    rises = rises;
    stamp = changes.rest.last;
  }
  sought_bucket h b (Err refusal) changes = record { nodes = kept w w' (ap (λ t. t.list) changes); rises = rises; stamp = ap last_of changes }

  linked_dummy : (h : ℕ) (outcome : Result InitLink Refusal) → LinkChanges w.table w'.table h outcome
      → Lists (state_of w) (steps.InitLink h) (said.linked outcome) (state_of w')
  linked_dummy h (Ok links.Linked) changes =
      let bucket : bucket_at (help_in (helps_of w.table) h) ≡ changes.bucket =
      ap (λ (o : Option Help). bucket_at (unwrap_or o Nothing)) (help_is w.table h (Seeking changes.bucket changes.cursor) changes.had) in
      record {
        nodes = subst (λ n. Links (state_of w) (state_of w') (dummy_at n)) (sym bucket)
            (linked_node w w' (dummy_node changes.place changes.bucket _) refl (links_node _ _ _ _ _ changes.links));
        rises = rises;
        stamp = changes.links.last;
      }
  linked_dummy h (Ok links.Again) changes = record { nodes = kept w w' changes.1; rises = rises; stamp = ap (λ l. l.last) changes.1 }
  linked_dummy h (Ok links.Present) changes = record { nodes = kept w w' changes.1; rises = rises; stamp = ap (λ l. l.last) changes.1 }
  linked_dummy h (Err refusal) changes = record { nodes = kept w w' (ap (λ t. t.list) changes); rises = rises; stamp = ap last_of changes }

  -- Each step of the table or of a helper changes the list as `Lists` says.
  pub serves : (step : HelperStep) (answer : Answer) → Serves step w.table answer w'.table → Lists (state_of w) (step_from step) answer (state_of w')
  serves HelperStep.Sweep answer is = rw is.answer_is (swept answer is is.outcome refl)
  serves (HelperStep.InitSeek h b) answer is = rw is.answer_is (sought_bucket h b is.outcome is.changes)
  serves (HelperStep.InitLink h) answer is = rw is.answer_is (linked_dummy h is.outcome is.changes)
  serves (HelperStep.InitStore h) answers.Stored is = record { nodes = kept w w' is.list; rises = rises; stamp = ap (λ l. l.last) is.list }
  serves (HelperStep.InitStore h) _ is = record { nodes = kept w w' is.list; rises = rises; stamp = ap (λ l. l.last) is.list }
  serves (HelperStep.Double seen) answers.AtLimit is = record { nodes = kept w w' is.list; rises = rises; stamp = ap (λ l. l.last) is.list }
  serves (HelperStep.Double seen) _ is = record { nodes = kept w w' is.list; rises = rises; stamp = ap (λ l. l.last) is.list }
