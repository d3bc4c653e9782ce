use Rattle.std.proofs.Common.{◌≡◌, ℕ, ◌+◌, ◌-◌, List, ◌∷◌, Some, take, drop, length, slice_index, refl, sym, ap, subst, ◌∙◌, arith}
use Rattle.std.proofs.lemmas.List.{take-append-drop, length-drop, length-take-le}
use Rattle.txn_words.specs.declared.entry.Entry.TheVariants.{Leave, Returned}
use Rattle.txn_trace.specs.Now.{now}
use Rattle.txn_trace.specs.Log.{rolled_back}
use Rattle.striped_map.specs.declared.addition.Addition.{Addition}
use Rattle.striped_map.specs.declared.addition.Addition.TheVariants.{Back}
use Rattle.striped_map.specs.declared.view.View.{View}
use Rattle.striped_map.specs.Adding.{MayAdd}
use Rattle.striped_map.specs.Additions.{due, entries_of, left_of}
use Rattle.striped_map.specs.Seats.{known}
use Rattle.striped_map.specs.Sound.{AreHeld, AreLogged, IsSound, held_shards}
use Rattle.striped_map.specs.Steps.{AddsIn, returning, stance_of, undoing}
use Rattle.striped_map.proofs.Ends.{moved}
use Rattle.striped_map.specs.declared.record.Told.TheVariants.{TellBack}
use Rattle.striped_map.proofs.Recording.{back_told, length-back}
use Rattle.striped_map.proofs.AdditionLemmas.{may_return}
use Rattle.striped_map.proofs.HandSoundness.{added_as, sound_added, sound_shards, level_within, order_length, take_first}
use Rattle.striped_map.proofs.hand.Hand.return_to.Goals as goal

pub mark_of-mark-requires : goal.mark_of-mark-requires
mark_of-mark-requires c = let me = c.args.self.now in let k = ap length me.sound.levelled in let l = c.requires.level in omega arith

pub overflow_sub-count : goal.overflow_sub-count
overflow_sub-count c = let me = c.args.self.now in let n = c.args.map.now.table.shared.table_id.slots in let v = known me.seat in
    let k = ap length me.sound.levelled in let l = c.requires.level in
    let low = level_within v me.levels.items c.requires.open me.sound.levelled c.args.level (omega arith) in
    let many = order_length _ (held_shards me.seat me.held.items) me.order.items (due v) me.sound.logged in let is = c.mark_of-mark.ensures in let len = c.len.ensures.value in omega arith

pub take_back-requires-clause-mark : goal.take_back-requires-clause-mark
take_back-requires-clause-mark c = let me = c.args.self.now in let v = known me.seat in
    let k = ap length me.sound.levelled in let l = c.requires.level in
    let low = level_within v me.levels.items c.requires.open me.sound.levelled c.args.level (omega arith) in
    let many = order_length _ (held_shards me.seat me.held.items) me.order.items (due v) me.sound.logged in let is = c.mark_of-mark.ensures in omega arith

pub add-requires-clause-may : goal.add-requires-clause-may
add-requires-clause-may c = let me = c.args.self.now in let v = known me.seat in let at = c.requires.open in
    let k = ap length me.sound.levelled in let l = c.requires.level in let level = c.args.level in
    let low = level_within v me.levels.items at me.sound.levelled level (omega arith) in
    let many = order_length _ (held_shards me.seat me.held.items) me.order.items (due v) me.sound.logged in let is = c.mark_of-mark.ensures in let len = c.len.ensures.value in
    let mark = c.mark_of-mark.result in let count = c.len.result - mark in
    let left : mark ≡ length (drop count (due v)) = omega (arith, length-drop count (due v)) in
    let n = c.args.map.now.table.shared.table_id.slots in let what : Addition = Back level count in
    subst (λ (u : View). MayAdd n u (entries_of u what) (left_of u what)) (sym c.take_back.ensures.known)
    (may_return n v me.seat.acting (stance_of v) at.stance_is at.phase_is c.args.map.now.some level (take count (due v)) (drop count (due v)) c.requires.level (sym (take-append-drop count (due v)))
    (ap (λ (ks : List ℕ). slice_index ks level) me.sound.levelled ∙ sym is ∙ left))

pub invariant_of-self : goal.invariant_of-self
invariant_of-self c = let me = c.args.self.now in let n = c.args.map.now.table.shared.table_id.slots in let v = known me.seat in let b = c.take_back.new.seat in let d = c.add.new.seat in let w = known d in let level = c.args.level in
    let ks = me.held.items in
    let mark = c.mark_of-mark.result in let count = c.len.result - mark in
    let same : length me.order.items - mark ≡ count = ap (λ (x : ℕ). x - mark) (sym c.len.ensures.value) in
    let held = held_shards b ks in let order = c.take_back.new.order.items in
    let shards : AreHeld n v held (rolled_back (now v.seen) (take count (due v))) = subst (λ (x : ℕ). AreHeld n v held (rolled_back (now v.seen) (take x (due v)))) same c.take_back.ensures.shards in
    let logged : AreLogged n held order (drop count (due v)) = subst (λ (x : ℕ). AreLogged n held order (drop x (due v))) same c.take_back.ensures.logged in
    let levelled = ap (take (level + 1)) me.sound.levelled ∙ take_first level me.levels.items ∙ ap (λ (l : List ℕ). 0 ∷ l) (sym c.truncate.ensures.items) in
    let added = added_as n v (known b) w (Back level count) c.take_back.ensures.known c.add.ensures.added in
    record {
      sound = subst (λ z. IsSound z.slots w (held_shards d ks) order c.truncate.new.self.items) (sym c.add.ensures.seat)
          (sound_shards n w b d ks order c.truncate.new.self.items c.add.ensures.shards
          (sound_added n v w _ (returning v (stance_of v) level (take count (due v)) (drop count (due v))) held order c.truncate.new.self.items added shards logged levelled));
      indexed = me.indexed;
    }

pub returns-clause-moves : goal.returns-clause-moves
returns-clause-moves c = let me = c.args.self.now in let n = c.args.map.now.table.shared.table_id.slots in let v = known me.seat in let w = known c.add.new.seat in let level = c.args.level in
    let mark = c.mark_of-mark.result in let count = c.len.result - mark in
    let many = order_length _ (held_shards me.seat me.held.items) me.order.items (due v) me.sound.logged in let is = c.mark_of-mark.ensures in let len = c.len.ensures.value in
    let kept : slice_index (stance_of v).kept level ≡ mark = ap (λ (ks : List ℕ). slice_index ks level) me.sound.levelled ∙ sym is in
    let same : count ≡ length (due v) - slice_index (stance_of v).kept level = omega arith in
    let a : AddsIn n v (Leave v.number (Some level) ∷ undoing v.number (take (length (due v) - slice_index (stance_of v).kept level) (due v)) (Returned v.number level)) (returning v (stance_of v) level (take count (due v)) (drop count (due v))) w
    = subst (λ (x : ℕ). AddsIn n v (Leave v.number (Some level) ∷ undoing v.number (take x (due v)) (Returned v.number level)) (returning v (stance_of v) level (take count (due v)) (drop count (due v))) w) same (added_as n v (known c.take_back.new.seat) w (Back level count) c.take_back.ensures.known c.add.ensures.added) in
    moved _ _ _ _ _ a

pub add-requires-clause-told : goal.add-requires-clause-told
add-requires-clause-told c all = let me = c.args.self.now in let v = known me.seat in let b = c.take_back.new.seat in
    let many = order_length _ (held_shards me.seat me.held.items) me.order.items (due v) me.sound.logged in let is = c.mark_of-mark.ensures in let len = c.len.ensures.value in
    let count = c.len.result - c.mark_of-mark.result in
    back_told (known b) b.number c.args.level count b.numbered (ap (λ (u : View). length (take count (due u))) c.take_back.ensures.known ∙ length-take-le count (due v) (omega arith))

pub add-requires-clause-few : goal.add-requires-clause-few
add-requires-clause-few c = let l = length-back (TellBack c.args.level (c.len.result - c.mark_of-mark.result)) c.args.level (c.len.result - c.mark_of-mark.result) refl in let s = c.len.ensures.small in omega arith

pub add-requires-clause-room : goal.add-requires-clause-room
add-requires-clause-room c = c.take_back.ensures.room c.requires.records
