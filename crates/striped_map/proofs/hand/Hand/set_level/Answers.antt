use Rattle.std.proofs.Common.{◌≡◌, ℕ, List, [], ◌∷◌, ◌++◌, sym, ap, subst, ◌∙◌, arith}
use Rattle.striped_map.specs.Additions.{due}
use Rattle.striped_map.specs.Seats.{known}
use Rattle.striped_map.specs.Sound.{IsSound, held_shards}
use Rattle.striped_map.specs.Steps.{saving, stance_of}
use Rattle.striped_map.proofs.AdditionLemmas.{may_save}
use Rattle.striped_map.proofs.HandSoundness.{sound_added, sound_shards, standing_is, order_length}
use Rattle.striped_map.proofs.hand.Hand.set_level.Goals as goal

pub add-requires-clause-may : goal.add-requires-clause-may
add-requires-clause-may c = let seat = c.args.self.now.seat in let at = c.requires.open in may_save _ (known seat) seat.acting _ at.stance_is at.phase_is

pub invariant_of-self-2 : goal.invariant_of-self-2
invariant_of-self-2 c = let me = c.args.self.now in let n = c.args.map.now.table.shared.table_id.slots in let a = me.seat in let b = c.add.new.seat in let v = known a in let w = known b in let ks = me.held.items in
    let s : IsSound n v (held_shards a ks) me.order.items me.levels.items = subst (λ z. IsSound z.slots v (held_shards a ks) me.order.items me.levels.items) c.requires.map me.sound in
    let many : (stance_of v).standing ≡ c.len.result = (let l = c.len.ensures.value in let st = standing_is v s.stance_is in let ol = order_length n (held_shards a ks) me.order.items (due v) s.logged in omega arith) in
    let levels : c.push_reserved.new.self.items ≡ me.levels.items ++ c.len.result ∷ [] = c.push_reserved.ensures.items ∙ ap (λ (l : List ℕ). l ++ c.len.result ∷ []) c.reserve.ensures.items in
    let kept = ap (λ (l : List ℕ). l ++ (stance_of v).standing ∷ []) s.levelled ∙ ap (λ (x : ℕ). (0 ∷ me.levels.items) ++ x ∷ []) many ∙ ap (λ (l : List ℕ). 0 ∷ l) (sym levels) in
    record {
      sound = subst (λ z. IsSound z.slots w (held_shards b ks) me.order.items c.push_reserved.new.self.items) (sym c.add.ensures.seat)
          (sound_shards n w a b ks me.order.items c.push_reserved.new.self.items c.add.ensures.shards
          (sound_added n v w _ (saving v (stance_of v)) (held_shards a ks) me.order.items c.push_reserved.new.self.items c.add.ensures.added s.shards s.logged kept));
      indexed = me.indexed;
    }
