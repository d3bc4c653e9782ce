-- Shows that a cursor stays between its two nodes while they are neighbours, because it still fits
-- there (`still_fits`), and that a placed cursor that fits stands at its sort key's position.
use Rattle.std.proofs.Common.{◌≡◌, ℕ, true, false, cond, inl, inr, List, Option, Some, None, refl, sym, ap, subst, ◌∙◌, ◌&&◌, map, slice_get, unwrap_or, option_map, Bool, zero, suc, [], ◌∷◌, replicate, is_some, slice_index_or}
use Rattle.boost_core.proofs.Vocabulary.{cases_Bool, slice_get-map, TableAt, IsPlaced, nodes_of, fits, Cursor, IsBefore, IsNotBefore, regular_at, NodeAt, node_of, next_of, IsRising, IsSpread, Noted, IsPlacedIn, pred_of, behind, at_of, list_fits, is_noted, is_next_noted, Session, SortKey, Gap, Owner, Caller, gap_in, gap_for, AreNeighbours, IsBetween, StandsAt, World, state_of, nodes_at, gap_at, gap_of, gap_if, gap_by, false≢true, unwrap_or-slice_get, dummy_at, TableHelper, Idle, Seeking, Holding, helper_of, cursor_fits, helper_fits, cursor_in, cursors_of, helper_cursor, Help, Nothing, help_of, Helper, helper_gaps_of}
use Rattle.boost_core.proofs.GapLists.{Stay, next_found}
use Rattle.boost_core.proofs.Neighbours.{Fit, NextIs, fit_of, fits_of, key_at, neighbours, still_fits}
use Rattle.std.proofs.Math.ListN as lists

-- The two nodes between which a cursor stands, if the cursor fits.
abbrev pub gap_fit : (t : TableAt) (cursor : Cursor) → Fit t.list cursor → Gap
gap_fit t cursor fit = record { before = fit.pred.at; behind = key_at (behind t.list cursor) }

pub gap_here : (t : TableAt) (cursor : Cursor) (fit : Fit t.list cursor) → gap_of t cursor ≡ Some (gap_fit t cursor fit)
gap_here t cursor fit = rw (fits_of t.list cursor fit, fit.pred_is) refl

pub gap_parts : (t : TableAt) (cursor : Cursor) (gap : Gap) → gap_of t cursor ≡ Some gap → (fit : Fit t.list cursor) × (gap_fit t cursor fit ≡ gap)
gap_parts t cursor gap is = elim (cases_Bool (fits t cursor)) [
  | inl fitting ↦
      let fit : Fit t.list cursor = fit_of t.list cursor fitting in
      let both : Some (gap_fit t cursor fit) ≡ Some gap = sym (gap_here t cursor fit) ∙ is in
      (fit, cc both)
  | inr stale ↦ absurd (cc (rw stale at is))
]

pub no_gap : (t : TableAt) (cursor : Cursor) → fits t cursor ≡ false → gap_of t cursor ≡ None
no_gap t cursor stale = rw stale refl

-- A cursor still fits if its nodes are still neighbours.
module _ (t t' : TableAt) (spread : IsSpread (nodes_of t)) (rising : IsRising (nodes_of t')) (stay : Stay (nodes_of t) (nodes_of t')) (gap : Gap) (near : AreNeighbours (nodes_at t') gap) where
  pub cursor_still : (o : Option Cursor) → gap_if t o ≡ Some gap → gap_if t' o ≡ Some gap
  cursor_still None is = is
  cursor_still (Some cursor) is =
      let parts = gap_parts t cursor gap is in
      let now = still_fits t.list t'.list cursor spread rising stay parts.0 (subst (AreNeighbours (nodes_at t')) (sym parts.1) near) in
      gap_here t' cursor now.0 ∙ (λ i. Some (record { before = now.1 i; behind = now.2 i })) ∙ ap Some parts.1

  pub session_still : (o : Option Session) → unwrap_or (option_map (gap_by t) o) None ≡ Some gap → unwrap_or (option_map (gap_by t') o) None ≡ Some gap
  session_still None is = is
  session_still (Some s) is = cursor_still s.cursor is

-- At a caller's number, the list of gaps has the gap that `gap_by` computes from the caller's
-- session.
pub gap_in_is : (t : TableAt) (sessions : List Session) (c : ℕ) → gap_in (map (gap_by t) sessions) c ≡ unwrap_or (option_map (gap_by t) (slice_get sessions c)) None
gap_in_is t sessions c = ap (λ (o : Option (Option Gap)). unwrap_or o None) (slice_get-map (gap_by t) sessions c)

pub gap_by_side : (t : TableAt) (sessions : List Session) (c : ℕ) (x : Session) (o : Option Cursor) → slice_get sessions c ≡ Some x → x.cursor ≡ o → gap_in (map (gap_by t) sessions) c ≡ gap_if t o
gap_by_side t sessions c x o at had = gap_in_is t sessions c ∙ ap (λ (s : Option Session). unwrap_or (option_map (gap_by t) s) None) at ∙ ap (gap_if t) had

-- If a caller's side is unchanged and the nodes beside its cursor are still neighbours, these nodes
-- are still beside the cursor.
pub gap_kept : (w w' : World) → IsSpread (nodes_of w.table) → IsRising (nodes_of w'.table) → Stay (nodes_of w.table) (nodes_of w'.table) → (c : ℕ) (gap : Gap) → slice_get w'.sessions c ≡ slice_get w.sessions c
    → gap_in (map (gap_by w.table) w.sessions) c ≡ Some gap → AreNeighbours (nodes_at w'.table) gap → gap_in (map (gap_by w'.table) w'.sessions) c ≡ Some gap
gap_kept w w' spread rising stay c gap same is near =
    gap_in_is w'.table w'.sessions c ∙ ap (λ (s : Option Session). unwrap_or (option_map (gap_by w'.table) s) None) same
    ∙ session_still w.table w'.table spread rising stay gap near (slice_get w.sessions c) (sym (gap_in_is w.table w.sessions c) ∙ is)

-- If a cursor was placed for a sort key and still fits, it stands at the position of that key.
module _ (t : TableAt) (cursor : Cursor) (at : SortKey) (spread : IsSpread (nodes_of t)) (placed : IsPlacedIn t.list cursor) (at_is : at_of cursor ≡ at) (fit : Fit t.list cursor) where
  beyond : (o : Option NodeAt) (noted : Option Noted) → behind t.list cursor ≡ o → cursor.cur ≡ noted → NextIs o noted → (next : SortKey) → key_at o ≡ Some next → IsNotBefore next at
  beyond None noted was cur is next next_is = absurd (cc (next_is))
  beyond (Some n) None was cur is next next_is = absurd is
  beyond (Some n) (Some noted) was cur is next next_is =
      let same : n.at ≡ next = cc next_is in
      let found = ap (node_of (nodes_of t)) (sym is.0) ∙ next_found (nodes_of t) (pred_of cursor) n spread was in
      rw (← same, ← at_is) (placed.beyond n noted cur found is.1)

  between : IsBetween (gap_fit t cursor fit) at
  between = record {
    before = subst (IsBefore fit.pred.at) at_is (placed.below fit.pred fit.pred_is fit.stamp);
    behind = beyond (behind t.list cursor) cursor.cur refl refl fit.next;
  }

pub stands_at : (w' : World) (owner : Owner) (cursor : Cursor) (at : SortKey) → gap_for (state_of w') owner ≡ gap_of w'.table cursor → IsSpread (nodes_of w'.table) → IsPlacedIn w'.table.list cursor → at_of cursor ≡ at → fits w'.table cursor ≡ true → StandsAt (state_of w') owner at
stands_at w' owner cursor at is spread placed at_is fitting =
    let fit : Fit w'.table.list cursor = fit_of w'.table.list cursor fitting in
    record {
      gap = gap_fit w'.table cursor fit;
      has = is ∙ gap_here w'.table cursor fit;
      neighbours = neighbours w'.table.list cursor fit;
      between = between w'.table cursor at spread placed at_is fit;
    }

pub stands : (w' : World) (c key : ℕ) (y : Session) (cursor : Cursor) → slice_get w'.sessions c ≡ Some y → y.cursor ≡ Some cursor → IsSpread (nodes_of w'.table) → IsPlaced w'.table cursor key → fits w'.table cursor ≡ true → StandsAt (state_of w') (Caller c) (regular_at key)
stands w' c key y cursor at had spread placed fitting =
    stands_at w' (Caller c) cursor (regular_at key) (gap_by_side w'.table w'.sessions c y (Some cursor) at had) spread placed.list placed.at_is fitting

-- If two tables have the same nodes, a cursor fits in both tables or in neither. The nodes beside
-- the cursor are also the same in both.
pub same_fits : (t t' : TableAt) (cursor : Cursor) → nodes_of t' ≡ nodes_of t → fits t' cursor ≡ fits t cursor
unfolding list_fits
same_fits t t' cursor same = λ i. is_noted (node_of (same i) (pred_of cursor)) cursor.pred.stamp && is_next_noted (next_of (same i) (pred_of cursor)) cursor.cur

pub same_gap : (t t' : TableAt) (o : Option Cursor) → nodes_of t' ≡ nodes_of t → gap_if t' o ≡ gap_if t o
same_gap t t' None same = refl
same_gap t t' (Some cursor) same = λ i. cond (same_fits t t' cursor same i) (gap_at (node_of (same i) (pred_of cursor)) (next_of (same i) (pred_of cursor))) None

-- At a helper's number, the list of gaps has the gap of this helper's cursor.
pub helper_gap_is : (t : TableAt) (h : ℕ) → gap_in (helper_gaps_of t) h ≡ gap_if t (helper_cursor t h)
helper_gap_is t h = unwrap_or-slice_get (helper_gaps_of t) h None ∙ lists.get_or-map (gap_if t) (cursors_of t) h None

-- If a helper still has its cursor and the nodes beside the cursor are still neighbours, these
-- nodes are still beside the cursor.
pub helper_kept : (t t' : TableAt) → IsSpread (nodes_of t) → IsRising (nodes_of t') → Stay (nodes_of t) (nodes_of t') → (h : ℕ) (gap : Gap) → helper_cursor t' h ≡ helper_cursor t h
    → gap_in (helper_gaps_of t) h ≡ Some gap → AreNeighbours (nodes_at t') gap → gap_in (helper_gaps_of t') h ≡ Some gap
helper_kept t t' spread rising stay h gap same is near =
    helper_gap_is t' h ∙ ap (gap_if t') same ∙ cursor_still t t' spread rising stay gap near (helper_cursor t h) (sym (helper_gap_is t h) ∙ is)

pub cursors_stay : (t t' : TableAt) (h : ℕ) → t'.buckets ≡ t.buckets → helper_cursor t' h ≡ helper_cursor t h
cursors_stay t t' h same = ap (λ d. slice_index_or (map cursor_in d.helpers) h None) same

-- Returns true if there is a cursor and it fits.
abbrev pub fits_if : TableAt → Option Cursor → Bool
fits_if t None = false
fits_if t (Some cursor) = fits t cursor

pub fits_by : (t : TableAt) (h : ℕ) → helper_fits t h ≡ fits_if t (helper_cursor t h)
fits_by t h =
    at (helper_of t.buckets h) ∙ ap (λ (o : Option (Option Cursor)). fits_if t (unwrap_or o None)) (sym (slice_get-map cursor_in t.buckets.helpers h))
    ∙ ap (fits_if t) (unwrap_or-slice_get (cursors_of t) h None)
  where
    at : (o : Option TableHelper) → cursor_fits t.list o ≡ fits_if t (unwrap_or (option_map cursor_in o) None)
    at None = refl
    at (Some Idle) = refl
    at (Some (Seeking bucket cursor)) = refl
    at (Some (Holding bucket dummy)) = refl

-- A helper's cursor still fits if the nodes and the buckets are unchanged.
pub same_helper : (t t' : TableAt) (h : ℕ) → nodes_of t' ≡ nodes_of t → t'.buckets ≡ t.buckets → helper_fits t' h ≡ helper_fits t h
same_helper t t' h same buckets = fits_by t' h ∙ ap (fits_if t') (cursors_stay t t' h buckets) ∙ at (helper_cursor t h) ∙ sym (fits_by t h)
  where
    at : (o : Option Cursor) → fits_if t' o ≡ fits_if t o
    at None = refl
    at (Some cursor) = same_fits t t' cursor same

-- If a helper's cursor fits, there are nodes beside it. If it does not fit, there are none.
pub helper_gap : (t : TableAt) (h : ℕ) → helper_fits t h ≡ true → is_some (gap_in (helper_gaps_of t) h) ≡ true
helper_gap t h is = ap is_some (helper_gap_is t h) ∙ at (helper_cursor t h) (sym (fits_by t h) ∙ is)
  where
    at : (o : Option Cursor) → fits_if t o ≡ true → is_some (gap_if t o) ≡ true
    at None fitting = absurd (false≢true fitting)
    at (Some cursor) fitting = ap is_some (gap_here t cursor (fit_of t.list cursor fitting))

pub no_helper_gap : (t : TableAt) (h : ℕ) → helper_fits t h ≡ false → gap_in (helper_gaps_of t) h ≡ None
no_helper_gap t h is = helper_gap_is t h ∙ at (helper_cursor t h) (sym (fits_by t h) ∙ is)
  where
    at : (o : Option Cursor) → fits_if t o ≡ false → gap_if t o ≡ None
    at None stale = refl
    at (Some cursor) stale = no_gap t cursor stale

-- If a helper's cursor was placed for a bucket's dummy and still fits, it stands at the position of
-- that dummy.
pub helper_stands : (w' : World) (h b : ℕ) (cursor : Cursor) → IsSpread (nodes_of w'.table)
    → helper_of w'.table.buckets h ≡ Some (Seeking b cursor) → IsPlacedIn w'.table.list cursor → at_of cursor ≡ dummy_at b
    → fits w'.table cursor ≡ true → StandsAt (state_of w') (Helper h) (dummy_at b)
helper_stands w' h b cursor spread is placed at fitting =
    let has : helper_cursor w'.table h ≡ Some cursor =
    sym (unwrap_or-slice_get (cursors_of w'.table) h None)
    ∙ ap (λ (o : Option (Option Cursor)). unwrap_or o None)
    (slice_get-map cursor_in w'.table.buckets.helpers h ∙ ap (option_map cursor_in) is) in
    stands_at w' (Helper h) cursor (dummy_at b) (helper_gap_is w'.table h ∙ ap (gap_if w'.table) has) spread placed at fitting

-- Idle helpers have no cursors.
idle_cursor : (helper : TableHelper) → help_of helper ≡ Nothing → cursor_in helper ≡ None
idle_cursor (Seeking bucket cursor) is = absurd (cc (is))
idle_cursor _ is = refl

abbrev first_of : List Help → Help
first_of [] = Nothing
first_of (help ∷ rest) = help

abbrev rest_of : List Help → List Help
rest_of [] = []
rest_of (help ∷ rest) = rest

pub idle_cursors : (helpers : List TableHelper) (n : ℕ) → map help_of helpers ≡ replicate n Nothing → map cursor_in helpers ≡ replicate n None
idle_cursors [] zero is = refl
idle_cursors (helper ∷ rest) (suc n) is = λ i. idle_cursor helper (ap first_of is) i ∷ idle_cursors rest n (ap rest_of is) i
idle_cursors _ _ is = absurd (cc (is))
