-- The entries of a visit to a map, and the answers to all visitors.
use Rattle.std.specs.Prelude.{ℕ, ◌≡◌, ◌+◌, false, List, [], ◌∷◌, ◌++◌, length, slice_get, Option, Some, Result, Ok, IfOk}
use Rattle.samples.specs.Vocabulary.{Asked, Began, Begun, Caller, Committed, Did, Entry, Get, Host, IsLegal, Put, Stop, has_made, number}
use Rattle.samples.specs.Vocabulary.{of, own, seen, seen_by, stripes_of}
use Rattle.striped_map.specs.Seats.{known}
use Rattle.striped_map.specs.Steps.{HasAll, HasNoOther}
use Rattle.samples.specs.declared.visits.Visit.{Visit}

-- The entries of a put of the visit's value and of a get of its key, with these replies.
abbrev pub working : ℕ → Visit → Option ℕ → Option ℕ → List Entry
working c visit before reply =
    Asked c (Put visit.key visit.value) ∷ Did c before ∷ Asked c (Get visit.key) ∷ Did c reply ∷ []

-- The entries of a transaction that puts a value at a key, gets the key, and commits.
abbrev pub visiting : ℕ → Visit → ℕ → Option ℕ → Option ℕ → ℕ → List Entry
visiting c visit txn before reply place =
    Began c txn ∷ Asked c (Put visit.key visit.value) ∷ Did c before ∷ Asked c (Get visit.key)
    ∷ Did c reply ∷ Committed c place ∷ []

-- Within a transaction, the caller has put the visit's value, and has then got this reply for the
-- visit's key.
pub record HasDone (visit : Visit) (reply : Option ℕ) (a b : Caller) : Type 0 where
  pub before : Option ℕ
  pub number_is : number b ≡ number a
  pub own_is : own (number a) (seen b)
      ≡ own (number a) (seen a) ++ working (number a) visit before reply

-- The last of the caller's own entries are those of a visit with this reply.
pub record HasVisited (visit : Visit) (reply : Option ℕ) (me : Caller) : Type 0 where
  pub earlier : List Entry
  pub txn : ℕ
  pub before : Option ℕ
  pub place : ℕ
  pub own_is : own (number me) (seen me)
      ≡ earlier ++ visiting (number me) visit txn before reply place

-- A caller made the visit, with this answer, and no other caller. It is `a` before the visit and `b`
-- after it.
pub record HasMade (visit : Visit) (answer : Result (Option ℕ) Stop) (a b : Caller) : Type 0 where
  pub map_is : b.map.value ≡ a.map.value
  pub number_is : number b ≡ number a
  pub made_is : has_made b ≡ has_made a
  pub closed : a.is_open ≡ false → b.is_open ≡ false
  pub visited : IfOk answer (λ reply. HasVisited visit reply b)

-- A caller's number, and the beginning of the history that it has seen.
abbrev pub ended : Caller → ℕ × List Entry
ended me = (number me, seen me)

-- The history of the host's map: it begins with what each merged caller had seen, and has no more
-- entries of this caller. It has no entries of other numbers, and only those of the host that the
-- host had seen.
pub record IsHistoryOf (host : Host) (h : List Entry) : Type 0 where
  pub legal : IsLegal Begun (stripes_of host.map.value) h
  pub all : HasAll (known host.hand.seat) h
  pub others : HasNoOther (known host.hand.seat) h
  pub mine : own 0 h ≡ own 0 (seen_by host)

-- The visit is committed in the history, by this caller, and got the value that it had put.
pub record IsAnswered (h : List Entry) (caller : ℕ) (visit : Visit) (reply : Option ℕ) : Type 0
  where
    pub txn : ℕ
    pub before : Option ℕ
    pub place : ℕ
    pub whole : of txn h ≡ visiting caller visit txn before reply place
    pub got : reply ≡ Some visit.value

-- There is an answer for each visit, in the order of the visits. If the answer is a reply, the
-- visit is committed in the history with this reply, and got the value that it had put. Visit `i`,
-- counted from 0, is that of caller `i + 1`.
pub record AreAnswered (h : List Entry) (visits : List Visit)
    (answers : List (Result (Option ℕ) Stop)) : Type 0 where
  pub count : length answers ≡ length visits
  pub each : (i : ℕ) (visit : Visit) (reply : Option ℕ) → slice_get visits i ≡ Some visit
      → slice_get answers i ≡ Some (Ok reply) → IsAnswered h (i + 1) visit reply
