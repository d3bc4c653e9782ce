-- One more entry that a caller sees.
use Rattle.std.proofs.Common.{[], ℕ, ◌++◌, ◌+◌, ◌-◌, ◌<◌, ◌^◌, ◌∙◌, ◌∷◌, ◌≡◌, ◌≤◌, Bool, List, None, Option, Some, ap, arith, is_some}
use Rattle.std.proofs.Common.{length, length-append, refl, subst, sym, true, vec_capacity, vec_len}
use Rattle.locked_map.specs.Vocabulary.{AllByRecursion, Answer, Begin, Entry, RoomyStance, Stance, Step, Vec, entries_of, owed_by}
use Rattle.locked_map.specs.Vocabulary.{owed_in, reserved, row, stance_after}
use Rattle.locked_map.proofs.Vocabulary.{fold-append}
use Rattle.txn_trace.proofs.Room.{owed_by-row, reserved_enough, reserved_for}
use Rattle.txn_words.proofs.Levels.{stance_leveled, standing_owed}
use Rattle.locked_map.proofs.Phases.{stance_on_more}
use Rattle.locked_map.specs.Noted.{HasRoomFor, IsNoted, adds_entry, began_by, last_txn}

-- If `entries_of` gives an entry, `adds_entry` is true for the step.
adds_if : (step : Step) (a : Answer) (e : Entry) → e ∷ [] ≡ entries_of step a → adds_entry step ≡ true
adds_if (Begin c) a e is = refl
adds_if step a e is = cc

owed_row : (s : Stance) (e : Entry) (room : ℕ) (next : Option Stance) → row s s.phase e ≡ next → owed_by (Some s) + reserved_for e ≤ room → 0 < room → owed_by next + 1 ≤ room
owed_row s e room None is all one = omega (arith, one)
owed_row s e room (Some next) is all one = omega (arith, owed_by-row s next e is, all)

pub owed_noted : (es : List Entry) (s : Stance) (e : Entry) (step : Step) (a : Answer) (room : ℕ) → stance_after es ≡ Some s → e ∷ [] ≡ entries_of step a
    → owed_by (stance_after es) + reserved step ≤ room → (adds_entry step ≡ true → 0 < room) → owed_by (stance_after (es ++ e ∷ [])) + 1 ≤ room
owed_noted es s e step a room at is all one =
    let before : owed_by (stance_after es) ≡ owed_by (Some s) = ap owed_by at in
    let kept = (subst (AllByRecursion (λ e. reserved_for e ≤ reserved step)) (sym is) (reserved_enough step a)).0 in
    subst (λ o. owed_by o + 1 ≤ room) (sym (stance_on_more es (e ∷ []) s at)) (owed_row s e room (row s s.phase e) refl (omega (arith, before, kept, all)) (one (adds_if step a e is)))

-- The number of a stance's changes that were not taken back is at most the number of entries that the
-- stance owes. There is room for these entries, so the number of changes fits in 64 bits.
pub standing_small : (es : Vec Entry) (p : RoomyStance) (w : Bool) (txn parts amount : ℕ) → IsNoted es p w txn parts amount → is_some (stance_after es.items) ≡ true → p.stance.standing < 2 ^ 64 - 1
standing_small es p w txn parts amount inv whole =
    let at = inv.its_stance (inv.fits ∙ whole) in
    let owed : owed_by (stance_after es.items) ≡ owed_in p.stance.standing p.stance.phase = ap owed_by at in
    let most = standing_owed p.stance.phase p.stance.standing p.stance.kept (stance_leveled es.items p.stance at).within in
    omega (arith, owed, most, inv.room, es.small)

pub noted : (es es' : Vec Entry) (p p' : RoomyStance) (e : Entry) (step : Step) (a : Answer) (w w' : Bool) (txn txn' parts parts' amount amount' : ℕ)
    → IsNoted es p w txn parts amount → is_some (stance_after es.items) ≡ true → HasRoomFor (record { entries = es.items; room = vec_capacity es - vec_len es; save_room = p.room }) step
    → e ∷ [] ≡ entries_of step a → es'.items ≡ es.items ++ e ∷ [] → vec_capacity es' ≡ vec_capacity es
    → w' ≡ is_some (row p.stance p.stance.phase e) → (w' ≡ true → row p.stance p.stance.phase e ≡ Some p'.stance)
    → txn' ≡ began_by txn e → parts' ≡ parts → amount' ≡ amount + 1 → IsNoted es' p' w' txn' parts' amount'
noted es es' p p' e step a w w' txn txn' parts parts' amount amount' inv whole room is items capacity fits stance last same counted =
    let at = inv.its_stance (inv.fits ∙ whole) in
    let after : stance_after es'.items ≡ row p.stance p.stance.phase e = ap stance_after items ∙ stance_on_more es.items (e ∷ []) p.stance at in
    let owes = owed_noted es.items p.stance e step a (vec_capacity es - vec_len es) at is room.all room.one in
    let owed_is : owed_by (stance_after es'.items) ≡ owed_by (stance_after (es.items ++ e ∷ [])) = ap (λ h. owed_by (stance_after h)) items in
    let length_is : length es'.items ≡ length es.items + 1 = ap length items ∙ length-append es.items (e ∷ []) in
    record {
      fits = cc;
      its_stance = λ w_is. after ∙ stance w_is;
      last = last ∙ ap (λ t. began_by t e) inv.last ∙ sym (fold-append began_by 0 es.items (e ∷ [])) ∙ ap last_txn (sym items);
      room = omega arith;
      one_part = cc;
      counts = omega arith;
    }
