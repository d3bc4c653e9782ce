-- A seat in a transaction has memory for one more record.
use Rattle.std.proofs.Common.{◌≡◌, ℕ, ◌≤◌, List, [], Some, None, sym, refl, ap, ◌∙◌}
use Rattle.std.proofs.lemmas.Bool.{false≢true}
use Rattle.std.proofs.lemmas.Option.{same_Some}
use Rattle.txn_words.specs.declared.entry.Entry.{Entry}
use Rattle.txn_words.specs.declared.stance.Phase.{Phase}
use Rattle.txn_words.specs.declared.stance.Phase.TheVariants.{Closed, Opened}
use Rattle.txn_words.specs.Shape.{Stance, closed_stance, own, stance_after}
use Rattle.txn_trace.specs.Legal.{runs}
use Rattle.striped_map.specs.declared.view.View.{View}
use Rattle.striped_map.specs.declared.addition.Addition.{Addition}
use Rattle.striped_map.specs.declared.addition.Addition.TheVariants.{Note, Save, Back, Abort, Yield}
use Rattle.striped_map.specs.declared.keep.Keep.TheVariants.{Entries}
use Rattle.striped_map.specs.declared.seat.MapSeat.{MapSeat}
use Rattle.striped_map.specs.Seats.{HasRoomFor, known}
use Rattle.striped_map.specs.Additions.{entries_of, left_of}
use Rattle.striped_map.specs.Handling.{IsEnd}
use Rattle.striped_map.specs.Steps.{AddsIn, Extends, IsAt, stance_of}
use Rattle.striped_map.proofs.Hands.{own_same}

abbrev stance_in : List Entry → Stance
stance_in es = elim (stance_after es) [ None ↦ closed_stance | Some stance ↦ stance ]

-- The caller is in the same phase if it has seen the same entries of its own.
pub at_same : (phase : Phase) (v w : View) → own w.number w.seen ≡ own v.number v.seen → IsAt phase w → IsAt phase v
at_same phase v w same at = let stance : stance_of w ≡ stance_of v = ap stance_in same in record {
  stance_is = ap stance_after (sym same) ∙ at.stance_is ∙ ap (λ (s : Stance). Some s) stance;
  phase_is = ap (λ (s : Stance). s.phase) (sym stance) ∙ at.phase_is;
}

-- A step that adds no entries of the caller leaves it in its phase.
pub at_between : (phase : Phase) (n : ℕ) (v w : View) → w.number ≡ v.number → Extends n v.number v.held v.seen [] w.seen → IsAt phase w → IsAt phase v
at_between phase n v w number goes at = at_same phase v w (ap (λ (c : ℕ). own c w.seen) number ∙ own_same n v.number v.held v.seen w.seen goes) at

-- A caller is not in a transaction if its stance is closed.
pub not_open : (v : View) (stance : Stance) → stance_after (own v.number v.seen) ≡ Some stance → stance.phase ≡ Closed → IsAt Opened v → ⊥
not_open v stance is closed at =
    let same : stance ≡ stance_of v = same_Some stance (stance_of v) (sym is ∙ at.stance_is) in
    false≢true (ap runs (sym closed ∙ ap (λ (s : Stance). s.phase) same ∙ at.phase_is))

-- If an addition does not end the transaction, there is memory for one more record behind its own.
pub room_after : (n : ℕ) (what : Addition) (seat : MapSeat) (w : View) → AddsIn n (known seat) (entries_of (known seat) what) (left_of (known seat) what) w → HasRoomFor what seat → seat.keep ≡ Entries → IsAt Opened w → 2 ≤ seat.records.room
room_after n Abort seat w adds room all at = absurd (not_open w closed_stance (ap (λ (v : View). stance_after (own v.number w.seen)) adds.view_is ∙ adds.stance_is) refl at)
room_after n (Yield op holder) seat w adds room all at = absurd (not_open w closed_stance (ap (λ (v : View). stance_after (own v.number w.seen)) adds.view_is ∙ adds.stance_is) refl at)
room_after n (Note op reply) seat w adds room all at = room all
room_after n Save seat w adds room all at = room all
room_after n (Back level count) seat w adds room all at = room all

-- The end of a transaction needs no more memory.
pub end_roomy : (v : View) (what : Addition) (seat : MapSeat) → IsEnd v what → HasRoomFor what seat
end_roomy v Abort seat end = tt
end_roomy v (Yield op holder) seat end = tt
end_roomy v (Note op reply) seat end = absurd end
end_roomy v Save seat end = absurd end
end_roomy v (Back level count) seat end = absurd end
