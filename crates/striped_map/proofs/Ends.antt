-- Shows which entries two steps of a hand add together, because a step that adds none leaves all that
-- the next one starts from.
use Rattle.std.proofs.Common.{◌≡◌, ◌≢◌, inl, inr, ℕ, zero, suc, ◌-◌, ◌<◌, List, [], ◌∷◌, get_or, Option, None, sym, refl, ap, subst, ◌∙◌, arith}
use Rattle.txn_words.specs.declared.entry.Entry.{Entry}
use Rattle.txn_words.specs.declared.entry.Entry.TheVariants.{Asked, Did, Leave, Busy, Aborted}
use Rattle.txn_words.specs.declared.holder.Holder.TheVariants.{Begun}
use Rattle.txn_words.specs.declared.op.Op.{Op}
use Rattle.txn_words.specs.Held.{times}
use Rattle.txn_trace.specs.Legal.{IsLegal}
use Rattle.txn_trace.specs.Log.{log_of}
use Rattle.stripe_shard.specs.ShardAt.{ShardAt}
use Rattle.striped_map.specs.declared.hand.Hand.{Hand}
use Rattle.striped_map.specs.declared.map.StripedMap.{StripedMap}
use Rattle.striped_map.specs.declared.seat.MapSeat.{MapSeat}
use Rattle.striped_map.specs.declared.view.View.{View}
use Rattle.striped_map.specs.Handling.{idle, GainsAtMost, KeepsHeld}
use Rattle.striped_map.specs.Hands.{GoesOn, MovesHand}
use Rattle.striped_map.specs.Rule.{Holds}
use Rattle.striped_map.specs.Seats.{IsOf, known, stripes_of}
use Rattle.striped_map.specs.Steps.{StateAfter, Extends, AddsIn, Gathers, SeesIn, GainsStripe, SeesHolder, undoing}
use Rattle.striped_map.specs.Additions.{due, entries_of}
use Rattle.striped_map.specs.declared.addition.Addition.TheVariants.{Abort, Yield}
use Rattle.striped_map.proofs.Hands.{extends_then, extends_none, own_same}
use Rattle.striped_map.proofs.HandSoundness.{due_same}

pub moved : (map : StripedMap) (a b : Hand) (es : List Entry) (left : StateAfter) → AddsIn (stripes_of map) (known a.seat) es left (known b.seat) → MovesHand map a es b
moved map a b es left x = record { number_is = ap (λ (v : View). v.number) x.view_is; retired_is = ap (λ (v : View). v.retired) x.view_is; made_is = ap (λ (v : View). v.made) x.view_is; parent_is = ap (λ (v : View). v.parent) x.view_is; keep_is = ap (λ (v : View). v.keep) x.view_is; goes = x.goes }

-- If a hand adds entries and then gives its stripes back, both together are one step that adds
-- these entries.
pub moved_idle : (map : StripedMap) (a b : Hand) (w : View) (es : List Entry) (left : StateAfter) → AddsIn (stripes_of map) (known a.seat) es left w → known b.seat ≡ idle w → MovesHand map a es b
moved_idle map a b w es left x is = record {
  number_is = ap (λ (v : View). v.number) is ∙ ap (λ (v : View). v.number) x.view_is;
  retired_is = ap (λ (v : View). v.retired) is ∙ ap (λ (v : View). v.retired) x.view_is;
  made_is = ap (λ (v : View). v.made) is ∙ ap (λ (v : View). v.made) x.view_is;
  parent_is = ap (λ (v : View). v.parent) is ∙ ap (λ (v : View). v.parent) x.view_is;
  keep_is = ap (λ (v : View). v.keep) is ∙ ap (λ (v : View). v.keep) x.view_is;
  goes = subst (Extends (stripes_of map) (known a.seat).number (known a.seat).held (known a.seat).seen es) (sym (ap (λ (v : View). v.seen) is)) x.goes;
}

-- A step that adds no entry and gives no stripe back, and a next step that adds the entries `es`,
-- are together one step that adds `es`.
pub moved_then : (map : StripedMap) (a b c : Hand) (es : ℕ → List Entry) → GoesOn map a b → MovesHand map b (es (known b.seat).number) c → MovesHand map a (es (known a.seat).number) c
moved_then map a b c es on y = let x = on.moves in record {
  number_is = y.number_is ∙ x.number_is;
  retired_is = y.retired_is ∙ x.retired_is;
  made_is = y.made_is ∙ x.made_is;
  parent_is = y.parent_is ∙ x.parent_is;
  keep_is = y.keep_is ∙ x.keep_is;
  goes = extends_then (stripes_of map) (known a.seat).number (known a.seat).held (known b.seat).held (known a.seat).seen (known b.seat).seen (es (known a.seat).number) (known c.seat).seen on.keeps x.goes
      (subst (λ (k : ℕ). Extends (stripes_of map) k (known b.seat).held (known b.seat).seen (es k) (known c.seat).seen) x.number_is y.goes);
}

pub cons_at : (l : List ℕ) (level : ℕ) → level ≢ 0 → get_or l (level - 1) 0 ≡ get_or (0 ∷ l) level 0
cons_at l zero ne = absurd (ne refl)
cons_at l (suc k) ne = ap (λ (i : ℕ). get_or l i 0) (omega arith)

-- If a hand makes a step that adds no entry and then does an operation, both together are one step
-- that does the operation.
pub moved_did : (map : StripedMap) (a b c : Hand) (op : Op) (reply : Option ℕ) → GoesOn map a b → MovesHand map b (Asked (known b.seat).number op ∷ Did (known b.seat).number reply ∷ []) c → MovesHand map a (Asked (known a.seat).number op ∷ Did (known a.seat).number reply ∷ []) c
moved_did map a b c op reply x y = moved_then map a b c (λ k. Asked k op ∷ Did k reply ∷ []) x y

-- A hand that has made room for records makes the same steps as before.
pub moved_from : (map : StripedMap) (a d c : Hand) (es : ℕ → List Entry) → d.seat.seat ≡ a.seat.seat → MovesHand map d (es (known d.seat).number) c → MovesHand map a (es (known a.seat).number) c
moved_from map a d c es same y = record {
  number_is = y.number_is ∙ ap (λ z. z.me.0.number) same;
  retired_is = y.retired_is ∙ ap (λ z. z.me.0.retired) same;
  made_is = y.made_is ∙ ap (λ z. z.me.0.made) same;
  parent_is = y.parent_is ∙ ap (λ z. z.me.0.parent) same;
  keep_is = y.keep_is ∙ ap (λ z. z.me.0.keep) same;
  goes = subst (λ z. Extends (stripes_of map) z.me.0.number z.me.0.held z.me.0.seen (es z.me.0.number) (known c.seat).seen) same y.goes;
}

-- A step that adds no entry leaves the changes that can be taken back.
pub due_kept : (map : StripedMap) (a b : Hand) → MovesHand map a [] b → due (known b.seat) ≡ due (known a.seat)
due_kept map a b x = due_same (known a.seat) (known b.seat) x.number_is (own_same (stripes_of map) (known a.seat).number (known a.seat).held (known a.seat).seen (known b.seat).seen x.goes)

-- A look at the history leaves the changes that can be taken back.
pub due_gathered : (n : ℕ) (v w : View) (found : ℕ) → Gathers n v found w → due w ≡ due v
due_gathered n v w found g = due_same v w (ap (λ (x : View). x.number) g.sees.view_is) (own_same n v.number v.held v.seen w.seen g.sees.goes)

pub moved_busy : (map : StripedMap) (a b c : Hand) (op : Op) (holder : ℕ) → GoesOn map a b → MovesHand map b (entries_of (known b.seat) (Yield op holder)) c
    → MovesHand map a (Busy (known a.seat).number op holder ∷ undoing (known a.seat).number (due (known a.seat)) (Aborted (known a.seat).number)) c
moved_busy map a b c op holder x y = moved_then map a b c (λ k. Busy k op holder ∷ undoing k (due (known a.seat)) (Aborted k)) x
    (subst (λ (jobs : List (ℕ × Option ℕ)). MovesHand map b (Busy (known b.seat).number op holder ∷ undoing (known b.seat).number jobs (Aborted (known b.seat).number)) c)
    (due_kept map a b x.moves) y)

-- Steps of a hand depend only on the views of seats: if a step leads to the hand `b`, it also leads
-- to any hand whose seat has the same view as the seat of `b`.
pub moved_known : (map : StripedMap) (a b : Hand) (es : List Entry) → MovesHand map a es b → (c : Hand) → known c.seat ≡ known b.seat → MovesHand map a es c
moved_known map a b es x c same = record {
  number_is = ap (λ (v : View). v.number) same ∙ x.number_is;
  retired_is = ap (λ (v : View). v.retired) same ∙ x.retired_is;
  made_is = ap (λ (v : View). v.made) same ∙ x.made_is;
  parent_is = ap (λ (v : View). v.parent) same ∙ x.parent_is;
  keep_is = ap (λ (v : View). v.keep) same ∙ x.keep_is;
  goes = subst (λ (v : View). Extends (stripes_of map) (known a.seat).number (known a.seat).held (known a.seat).seen es v.seen) (sym same) x.goes;
}

-- If a hand does not change, it makes a step that adds no entry.
pub moved_still : (map : StripedMap) (a : Hand) → IsOf a.seat map → MovesHand map a [] a
moved_still map a of = record { number_is = refl; retired_is = refl; made_is = refl; parent_is = refl; keep_is = refl; goes = extends_none (stripes_of map) (known a.seat).number (known a.seat).held (known a.seat).seen (subst (λ z. IsLegal Begun z.slots (known a.seat).seen) of a.sound.legal) }

-- A hand that makes room for records makes a step that adds no entry.
pub moved_roomy : (map : StripedMap) (a d : Hand) → IsOf a.seat map → d.seat.seat ≡ a.seat.seat → MovesHand map a [] d
moved_roomy map a d of same = moved_known map a a [] (moved_still map a of) d (ap (λ z. z.me.0) same)

pub moved_on : (map : StripedMap) (a b c : Hand) → GoesOn map a b → MovesHand map b [] c → MovesHand map a [] c
moved_on map a b c x y = moved_then map a b c (λ k. []) x y

pub went_on : (map : StripedMap) (a b c : Hand) → GoesOn map a b → GoesOn map b c → GoesOn map a c
went_on map a b c x y = record { moves = moved_on map a b c x y.moves; keeps = λ stripe held. y.keeps stripe (x.keeps stripe held) }

-- `GoesOn` depends on the first hand only through its seat.
pub on_from : (map : StripedMap) (a b c : Hand) → b.seat ≡ a.seat → GoesOn map b c → GoesOn map a c
on_from map a b c same x = record {
  moves = record {
    number_is = subst (λ (s : MapSeat). (known c.seat).number ≡ (known s).number) same x.moves.number_is;
    retired_is = subst (λ (s : MapSeat). (known c.seat).retired ≡ (known s).retired) same x.moves.retired_is;
    made_is = subst (λ (s : MapSeat). (known c.seat).made ≡ (known s).made) same x.moves.made_is;
    parent_is = subst (λ (s : MapSeat). (known c.seat).parent ≡ (known s).parent) same x.moves.parent_is;
    keep_is = subst (λ (s : MapSeat). (known c.seat).keep ≡ (known s).keep) same x.moves.keep_is;
    goes = subst (λ (s : MapSeat). Extends (stripes_of map) (known s).number (known s).held (known s).seen [] (known c.seat).seen) same x.moves.goes;
  };
  keeps = subst (λ (s : MapSeat). KeepsHeld (known s) (known c.seat)) same x.keeps;
}

-- If a seat takes another stripe, it still holds each stripe that it held before.
pub holds_taken : (n k : ℕ) (v w : View) (shard : ShardAt) → GainsStripe n k v shard w → (other : ℕ) → Holds v other → Holds w other
holds_taken n k v w shard t other hold = subst (λ (u : View). Holds u other) (sym t.view_is) (let h : 0 < times other v.held = hold in let more : 0 < times other (k ∷ v.held) = omega arith in more)

pub holds_found : (n holder : ℕ) (v w : View) → SeesHolder n v holder w → (other : ℕ) → Holds v other → Holds w other
holds_found n holder v w f other hold = subst (λ (u : View). Holds u other) (sym f.sees.view_is) hold

-- If a hand only sees more of the history, it makes a step that adds no entry.
pub moved_seen : (map : StripedMap) (a b : Hand) → SeesIn (stripes_of map) (known a.seat) (known b.seat) → MovesHand map a [] b
moved_seen map a b x = record { number_is = ap (λ (v : View). v.number) x.view_is; retired_is = ap (λ (v : View). v.retired) x.view_is; made_is = ap (λ (v : View). v.made) x.view_is; parent_is = ap (λ (v : View). v.parent) x.view_is; keep_is = ap (λ (v : View). v.keep) x.view_is; goes = x.goes }

-- If a seat takes a stripe, it gains at most this stripe.
pub gained_taken : (n k : ℕ) (v w : View) (shard : ShardAt) → GainsStripe n k v shard w → GainsAtMost k v.held w.held
gained_taken n k v w shard t = inr (ap (λ (u : View). u.held) t.view_is)

pub gained_found : (n holder k : ℕ) (v w : View) → SeesHolder n v holder w → GainsAtMost k v.held w.held
gained_found n holder k v w f = inl (ap (λ (u : View). u.held) f.sees.view_is)

-- If a caller has no changes after the entries that its seat adds, it can take no change back.
pub nothing_due : (n : ℕ) (v w : View) (es : List Entry) (left : StateAfter) → AddsIn n v es left w → left.log ≡ [] → due w ≡ []
nothing_due n v w es left x none = ap (λ (k : ℕ). log_of k w.seen) (ap (λ (u : View). u.number) x.view_is) ∙ x.log_is ∙ none

-- A hand in a transaction without changes aborts it: it adds these two entries.
pub moved_back : (map : StripedMap) (a b : Hand) → due (known a.seat) ≡ [] → MovesHand map a (entries_of (known a.seat) Abort) b → MovesHand map a (Leave (known a.seat).number None ∷ Aborted (known a.seat).number ∷ []) b
moved_back map a b none = subst (λ jobs. MovesHand map a (Leave (known a.seat).number None ∷ undoing (known a.seat).number jobs (Aborted (known a.seat).number)) b) none

-- If a seat only adds entries, it holds the same stripes.
pub held_added : (n : ℕ) (v w : View) (es : List Entry) (state : StateAfter) → AddsIn n v es state w → w.held ≡ v.held
held_added n v w es state x = ap (λ (u : View). u.held) x.view_is
