use Rattle.std.proofs.Common.{◌≡◌, [], ◌∷◌, reverse, refl, sym, ap, subst, ◌∙◌}
use Rattle.std.proofs.lemmas.List.{reverse-reverse}
use Rattle.std.proofs.lemmas.Option.{none-some}
use Rattle.txn_words.specs.declared.entry.Entry.TheVariants.{Began}
use Rattle.txn_trace.specs.Now.{now}
use Rattle.striped_map.specs.Seats.{known, shard_in}
use Rattle.striped_map.specs.Sound.{IsSound, held_shards}
use Rattle.striped_map.specs.Steps.{at_begin}
use Rattle.striped_map.proofs.Hands.{logged_none, shards_none, stripes_with}
use Rattle.striped_map.proofs.HandSoundness.{sound_added, sound_lists}
use Rattle.striped_map.proofs.hand.Hand.begin.Goals as goal

pub invariant_of-self-2 : goal.invariant_of-self-2
invariant_of-self-2 c = let me = c.args.self.now in let n = c.args.map.now.table.shared.table_id.slots in let ks = me.held.items in
    let u = known c.make_room.new.self in let b = c.begin.new.seat in let w = known b in let begun = c.begin.ensures.begun in
    let none : ks ≡ [] = sym (reverse-reverse ks) ∙ ap reverse (ap reverse (sym (stripes_with (shard_in me.seat) ks)) ∙ sym me.sound.shards.kept ∙ c.requires.idle) in
    let idle : u.held ≡ [] = ap (λ z. z.me.0.held) c.make_room.ensures.seat ∙ c.requires.idle in
    record {
      sound = subst (λ z. IsSound z.slots w (held_shards b ks) c.clear.new.self.items c.clear-2.new.self.items) (sym c.begin.ensures.seat)
          (sound_lists n w _ _ _ (ap (held_shards b) none) c.clear.ensures.items c.clear-2.ensures.items
          (sound_added n u w (Began u.number begun.0 ∷ []) (at_begin u.seen) [] [] [] begun.1 (shards_none n u (now u.seen) idle) (logged_none n [] (λ i h at. none-some h at)) refl));
      indexed = me.indexed;
    }
