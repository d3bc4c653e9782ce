-- Proofs about a list of seats and the same list without its last seat.
use Rattle.std.proofs.Common.{◌≡◌, ◌+◌, List, [], ◌∷◌, ◌++◌, length, get_or, refl, ap, subst, ◌∙◌, arith}
use Rattle.std.proofs.lemmas.List.{length_push, get_or_push}
use Rattle.std.proofs.Math.ListN.{get_or-append}
use Rattle.key_words.specs.declared.seat.KeySeat.{KeySeat}
use Rattle.key_words.specs.declared.words.KeyWords.{KeyWords}
use Rattle.key_words.specs.Seats.{AreSeats, IsFresh}

-- If each seat of a list is fresh and has its position as its number, then the list without its
-- last seat has the same property. The last seat is fresh, and its number is the length of the
-- shorter list.
pub without_last : (words : KeyWords) (seats rest : List KeySeat) (seat : KeySeat) → seats ≡ rest ++ seat ∷ [] → AreSeats words (length seats) seats
    → AreSeats words (length rest) rest × IsFresh words (length rest) seat
without_last words seats rest seat is all =
    let long : length seats ≡ length rest + 1 = ap length is ∙ length_push rest seat in
    let last : get_or seats (length rest) seat ≡ seat = ap (λ l. get_or l (length rest) seat) is ∙ get_or_push rest seat seat (length rest) refl in (
      record {
        count_is = refl;
        each = λ number below d.
            let same : get_or seats number d ≡ get_or rest number d = ap (λ l. get_or l number d) is ∙ get_or-append rest (seat ∷ []) d number below in
            subst (IsFresh words number) same (all.each number (omega (arith, long, below)) d);
      },
      subst (IsFresh words (length rest)) last (all.each (length rest) (omega (arith, long)) seat),
    )
