use Rattle.std.proofs.Common.{◌≡◌, ℕ, ◌/◌, Bool, true, false, cond, List, [], ◌∷◌, ◌++◌, Some, slice_get, set, sym, ap, subst, ◌∙◌}
use Rattle.std.proofs.lemmas.Option.{same_Some}
use Rattle.txn_words.specs.declared.op.Op.{Op}
use Rattle.txn_trace.specs.Locks.{stripe_of}
use Rattle.txn_words.specs.Map.{key_of}
use Rattle.txn_trace.specs.Now.{now}
use Rattle.txn_words.specs.Shape.{changes}
use Rattle.stripe_shard.specs.Calls.{Does}
use Rattle.striped_map.specs.declared.addition.Addition.TheVariants.{Note}
use Rattle.striped_map.specs.declared.view.View.{View}
use Rattle.striped_map.specs.Adding.{MayAdd}
use Rattle.striped_map.specs.Additions.{due, entries_of, left_of}
use Rattle.striped_map.specs.Handling.{under}
use Rattle.striped_map.specs.Rule.{Holds}
use Rattle.striped_map.specs.Seats.{known, shard_in}
use Rattle.striped_map.specs.Sound.{HeldShard, Change, IsSound, held_shards, with_shard}
use Rattle.striped_map.specs.Steps.{noting, stance_of}
use Rattle.striped_map.proofs.Hands.{with_at, holds_in, reply_right, shards_noted, logged_noted, shards_worked}
use Rattle.striped_map.proofs.AdditionLemmas.{may_note}
use Rattle.striped_map.proofs.HandSoundness.{added_as, sound_added, sound_shards, sound_same}
use Rattle.striped_map.proofs.hand.Hand.apply.Goals as goal

pub apply-requires-clause-held : goal.apply-requires-clause-held
apply-requires-clause-held c = let me = c.args.self.now in let ks = me.held.items in let place = c.args.place in let k : ℕ = c.at-stripe.result in
    let at_k : slice_get ks place ≡ Some k = c.at-stripe.ensures in
    holds_in _ _ me.seat ks _ me.sound.shards place k at_k

-- The operation was refused.
pub invariant_of-self : goal.invariant_of-self
invariant_of-self c = let me = c.args.self.now in
    record { sound = sound_same c.args.map.now me c.apply.new.seat c.requires.map c.apply.ensures.seat c.apply.ensures.known c.in_err-reply.ensures.unchanged; indexed = me.indexed }

pub add-requires-clause-may : goal.add-requires-clause-may
add-requires-clause-may c = let me = c.args.self.now in let n = c.args.map.now.table.shared.table_id.slots in let a = me.seat in let b = c.apply.new.seat in let v = known a in let ks = me.held.items in let place = c.args.place in let op = c.args.op in let reply = c.in_ok-reply.reply in
    let s : IsSound n v (held_shards a ks) me.order.items me.levels.items = subst (λ z. IsSound z.slots v (held_shards a ks) me.order.items me.levels.items) c.requires.map me.sound in
    let k : ℕ = c.at-stripe.result in
    let at_k : slice_get ks place ≡ Some k = c.at-stripe.ensures in
    let at : slice_get (held_shards a ks) place ≡ Some (with_shard (shard_in a) k) = with_at (shard_in a) ks place k at_k in
    let in_k : k ≡ stripe_of n (key_of op) = same_Some _ _ (sym at_k ∙ c.requires.place) in
    let sub = c.under.ensures ∙ ap (under op) c.requires.sub_key in
    let does : Does (shard_in a k) (shard_in b k) (under op (key_of op / n)) reply = subst (λ (o : Op). Does (shard_in a k) (shard_in b k) o reply) sub c.in_ok-reply.ensures.ok in
    let at_open = c.requires.open in
    subst (λ (u : View). MayAdd n u (entries_of u (Note op reply)) (left_of u (Note op reply))) (sym c.apply.ensures.known)
    (may_note n v a.acting (stance_of v) at_open.stance_is at_open.phase_is op reply (subst (Holds v) in_k (holds_in n v a ks (now v.seen) s.shards place k at_k))
    (reply_right n v (held_shards a ks) (now v.seen) s.shards place (with_shard (shard_in a) k) (shard_in b k) op reply at in_k does))

pub invariant_of-self-then-changes : goal.invariant_of-self-then-changes
invariant_of-self-then-changes c = let me = c.args.self.now in let n = c.args.map.now.table.shared.table_id.slots in let a = me.seat in let b = c.apply.new.seat in let v = known a in let ks = me.held.items in let place = c.args.place in let op = c.args.op in let reply = c.in_ok-reply.reply in
    let s : IsSound n v (held_shards a ks) me.order.items me.levels.items = subst (λ z. IsSound z.slots v (held_shards a ks) me.order.items me.levels.items) c.requires.map me.sound in
    let k : ℕ = c.at-stripe.result in
    let at_k : slice_get ks place ≡ Some k = c.at-stripe.ensures in
    let at : slice_get (held_shards a ks) place ≡ Some (with_shard (shard_in a) k) = with_at (shard_in a) ks place k at_k in
    let in_k : k ≡ stripe_of n (key_of op) = same_Some _ _ (sym at_k ∙ c.requires.place) in
    let sub = c.under.ensures ∙ ap (under op) c.requires.sub_key in
    let does : Does (shard_in a k) (shard_in b k) (under op (key_of op / n)) reply = subst (λ (o : Op). Does (shard_in a k) (shard_in b k) o reply) sub c.in_ok-reply.ensures.ok in
    let d = c.add.new.seat in let w = known d in
    let new : HeldShard = with_shard (shard_in b) k in
    let later : List Change = me.order.items ++ (place, key_of op / n, reply) ∷ [] in
    let added = added_as n v (known b) w (Note op reply) c.apply.ensures.known c.add.ensures.added in
    let worked = sym (shards_worked n v a b ks (now v.seen) s.shards place k at_k c.apply.ensures.others) in
    let changed : changes op reply ≡ true = sym c.changes.ensures ∙ c.if-changes.true in
    let noted : c.push_reserved.new.self.items ≡ later = c.push_reserved.ensures.items ∙ ap (λ (q : ℕ). me.order.items ++ (place, q, reply) ∷ []) c.requires.sub_key in
    let order : c.push_reserved.new.self.items ≡ cond (changes op reply) later me.order.items = noted ∙ sym (ap (λ (x : Bool). cond x later me.order.items) changed) in
    record {
      sound = subst (λ z. IsSound z.slots w (held_shards d ks) c.push_reserved.new.self.items me.levels.items) (sym c.add.ensures.seat)
          (sound_shards n w b d ks c.push_reserved.new.self.items me.levels.items c.add.ensures.shards
          (subst (λ (l : List HeldShard). IsSound n w l c.push_reserved.new.self.items me.levels.items) worked
          (subst (λ (l : List Change). IsSound n w (set (held_shards a ks) place new) l me.levels.items) (sym order)
          (sound_added n v w _ (noting v (stance_of v) op reply) (set (held_shards a ks) place new) (cond (changes op reply) later me.order.items) me.levels.items added
          (shards_noted n v (held_shards a ks) (now v.seen) s.shards place (with_shard (shard_in a) k) (shard_in b k) op reply at in_k does)
          (logged_noted n v (held_shards a ks) (now v.seen) me.order.items (due v) s.shards s.logged place (with_shard (shard_in a) k) (shard_in b k) op reply at in_k does) s.levelled))));
      indexed = me.indexed;
    }

pub invariant_of-self-else-changes : goal.invariant_of-self-else-changes
invariant_of-self-else-changes c = let me = c.args.self.now in let n = c.args.map.now.table.shared.table_id.slots in let a = me.seat in let b = c.apply.new.seat in let v = known a in let ks = me.held.items in let place = c.args.place in let op = c.args.op in let reply = c.in_ok-reply.reply in
    let s : IsSound n v (held_shards a ks) me.order.items me.levels.items = subst (λ z. IsSound z.slots v (held_shards a ks) me.order.items me.levels.items) c.requires.map me.sound in
    let k : ℕ = c.at-stripe.result in
    let at_k : slice_get ks place ≡ Some k = c.at-stripe.ensures in
    let at : slice_get (held_shards a ks) place ≡ Some (with_shard (shard_in a) k) = with_at (shard_in a) ks place k at_k in
    let in_k : k ≡ stripe_of n (key_of op) = same_Some _ _ (sym at_k ∙ c.requires.place) in
    let sub = c.under.ensures ∙ ap (under op) c.requires.sub_key in
    let does : Does (shard_in a k) (shard_in b k) (under op (key_of op / n)) reply = subst (λ (o : Op). Does (shard_in a k) (shard_in b k) o reply) sub c.in_ok-reply.ensures.ok in
    let d = c.add.new.seat in let w = known d in
    let new : HeldShard = with_shard (shard_in b) k in
    let later : List Change = me.order.items ++ (place, key_of op / n, reply) ∷ [] in
    let added = added_as n v (known b) w (Note op reply) c.apply.ensures.known c.add.ensures.added in
    let worked = sym (shards_worked n v a b ks (now v.seen) s.shards place k at_k c.apply.ensures.others) in
    let changed : changes op reply ≡ false = sym c.changes.ensures ∙ c.if-changes.false in
    let order : me.order.items ≡ cond (changes op reply) later me.order.items = sym (ap (λ (x : Bool). cond x later me.order.items) changed) in
    record {
      sound = subst (λ z. IsSound z.slots w (held_shards d ks) me.order.items me.levels.items) (sym c.add.ensures.seat)
          (sound_shards n w b d ks me.order.items me.levels.items c.add.ensures.shards
          (subst (λ (l : List HeldShard). IsSound n w l me.order.items me.levels.items) worked
          (subst (λ (l : List Change). IsSound n w (set (held_shards a ks) place new) l me.levels.items) (sym order)
          (sound_added n v w _ (noting v (stance_of v) op reply) (set (held_shards a ks) place new) (cond (changes op reply) later me.order.items) me.levels.items added
          (shards_noted n v (held_shards a ks) (now v.seen) s.shards place (with_shard (shard_in a) k) (shard_in b k) op reply at in_k does)
          (logged_noted n v (held_shards a ks) (now v.seen) me.order.items (due v) s.shards s.logged place (with_shard (shard_in a) k) (shard_in b k) op reply at in_k does) s.levelled))));
      indexed = me.indexed;
    }
