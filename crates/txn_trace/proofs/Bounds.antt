-- The beginning and the end of a transaction do not change the map `now`.
use Rattle.std.proofs.Common.{slice_get, take, ◌≡◌, ℕ, ◌+◌, ◌≢◌, true, false, cond, List, [], ◌∷◌, ◌++◌, length, refl, ap, sym, subst, ◌∙◌, Some, None, Option}
use Rattle.std.specs.Option.{option_eq, option_and_then}
use Rattle.std.specs.Prelude.{nat_eq}
use Rattle.std.specs.List.{fold}
use Rattle.std.proofs.lemmas.Bool.{false≢true, cases_eq, false_from_ne_true}
use mathlib.Core.Logic.{◌⊎◌, inl, inr}
use Rattle.txn_words.specs.declared.op.Op.{Op}
use Rattle.txn_words.specs.declared.entry.Entry.{Entry}
use Rattle.txn_words.specs.declared.holder.Holder.{Holder}
use Rattle.txn_words.specs.declared.entry.Entry.TheVariants.{Began, Asked, Did, Undone, Returned, Aborted}
use Rattle.txn_words.specs.Map.{Map, get, after, reply_of, is_change}
use Rattle.txn_trace.specs.History.{of}
use Rattle.txn_trace.specs.Alone.{AloneRun, start, with_op, act_did, act_undone, act, alone, map_after}
use Rattle.txn_trace.specs.Serial.{serial}
use Rattle.txn_trace.specs.Now.{now, now_at}
use Rattle.txn_trace.specs.Locks.{stripe_of}
use Rattle.txn_words.specs.Shape.{is_shaped}
use Rattle.txn_trace.specs.Legal.{IsLegal}
use Rattle.txn_words.proofs.Maps.{same_map}
use Rattle.txn_trace.proofs.Pushes.{txn_at}
use Rattle.txn_trace.proofs.Callers.{Callers, ended}
use Rattle.txn_trace.proofs.Shaped.{callers_of, ended_in, not_ended_before}
use Rattle.txn_trace.proofs.Stripes.{keys_in, are_apart}
use Rattle.txn_trace.proofs.Now.{KeyHolder, now_at-free, now_at-holder, holder_or_none}
use Rattle.txn_trace.proofs.Table.{get-now}
use Rattle.txn_trace.proofs.BadEntries.{shape_push, locks_push}
use Rattle.txn_trace.proofs.Others.{now_at-push_mine, now_at-push_else, serial_is, entries_stay}
use Rattle.txn_trace.proofs.StanceRuns.{none_before, have_stances}

-- The first map of a run, given its last map and its earlier maps, newest first.
abbrev pub first_map : Map → List Map → Map
first_map last [] = last
first_map last (m ∷ ms) = first_map m ms

abbrev pub StartsAt : Map → Option AloneRun → Type 0
StartsAt m None = Unit {0}
StartsAt m (Some r) = first_map r.last r.earlier ≡ m

act_starts : (m : Map) (r : AloneRun) (e : Entry) → first_map r.last r.earlier ≡ m → StartsAt m (act r e)
act_starts m r (Asked c op) is = is
act_starts m r (Did c x) is = at r.pending
  where
    at : (p : Option Op) → StartsAt m (act_did r p x)
    at None = tt
    at (Some op) = (elim (option_eq nat_eq x (reply_of r.last op)) as (λ b. StartsAt m (cond b (Some (record (with_op r op) { pending = None })) None)) [
      | true ↦ elim (is_change r.last op) as (λ b. first_map (cond b (record r { last = after r.last op; earlier = r.last ∷ r.earlier }) r).last (cond b (record r { last = after r.last op; earlier = r.last ∷ r.earlier }) r).earlier ≡ m) [ true ↦ is | false ↦ is ]
      | false ↦ tt
    ])
act_starts m r (Undone c) is = at r.earlier is
  where
    at : (ms : List Map) → first_map r.last ms ≡ m → StartsAt m (act_undone r ms)
    at [] h = tt
    at (n ∷ ms) h = h
act_starts m r (Returned c k) is = (elim (option_eq nat_eq (slice_get r.notes k) (Some (length r.earlier + 1))) as (λ b. StartsAt m (cond b (Some (record r { notes = take (k + 1) r.notes })) None)) [ true ↦ is | false ↦ tt ])
act_starts m r _ is = is

fold_starts : (m : Map) (es : List Entry) (o : Option AloneRun) → StartsAt m o → StartsAt m (fold (λ run e. option_and_then (λ r. act r e) run) o es)
fold_starts m [] o is = is
fold_starts m (e ∷ es) None is = fold_starts m es None tt
fold_starts m (e ∷ es) (Some r) is = fold_starts m es (act r e) (act_starts m r e is)

-- If no change of a run remains, the last map of the run is the map that the run starts with.
pub alone_starts : (m : Map) (es : List Entry) → StartsAt m (alone m es)
alone_starts m es = fold_starts m es (Some (start m)) refl

pub unchanged_run : (m : Map) (es : List Entry) (r : AloneRun) → alone m es ≡ Some r → r.earlier ≡ [] → r.last ≡ m
unchanged_run m es r run none =
    let is : StartsAt m (Some r) = subst (StartsAt m) run (alone_starts m es) in
    subst (λ ms. first_map r.last ms ≡ m) none is

-- Lemmas on a transaction that begins.
module _ {holder : Holder} (stripes : ℕ) (g : List Entry) (legal : IsLegal holder stripes g) (c t : ℕ) (shaped : is_shaped g (Began c t) ≡ true) (at : txn_at g (Began c t) ≡ Some t) where
  callers : Callers g
  callers = callers_of g legal.shape

  none : of t g ≡ []
  none = none_before g (Began c t) callers shaped (have_stances g legal.shape) t refl at

  last_is : map_after (serial g) (of t g ++ Began c t ∷ []) ≡ serial g
  last_is = ap (λ es. map_after (serial g) (es ++ Began c t ∷ [])) none

  pub now-began : now (g ++ Began c t ∷ []) ≡ now g
  now-began = same_map (now (g ++ Began c t ∷ [])) (now g) (λ k. get-now (g ++ Began c t ∷ []) k ∙ at_key k (holder_or_none stripes g k callers) ∙ sym (get-now g k))
    where
      at_key : (k : ℕ) → KeyHolder stripes g k ⊎ ((u : ℕ) → ended u g ≡ false → keys_in stripes (of u g) k ≡ false) → now_at (g ++ Began c t ∷ []) k ≡ now_at g k
      at_key k (inl w) = now_at-push_else holder stripes g (Began c t) t legal.shape legal.locks (shape_push g (Began c t) legal.shape shaped) (locks_push holder stripes g (Began c t) legal.locks refl) shaped refl at k w.txn w.running
          (λ same. false≢true (sym (ap (λ es. keys_in stripes es k) (ap (λ x. of x g) same ∙ none)) ∙ w.held)) w.held
      at_key k (inr free) = now_at-push_mine holder stripes g (Began c t) t legal.shape legal.locks (shape_push g (Began c t) legal.shape shaped) (locks_push holder stripes g (Began c t) legal.locks refl) shaped refl at k refl (λ u going away. free u going)
          ∙ ap (λ m. get m k) last_is ∙ sym (now_at-free stripes g k free)

-- Lemmas on a transaction that aborts after all its changes are taken back.
module _ {holder : Holder} (stripes : ℕ) (g : List Entry) (legal : IsLegal holder stripes g) (c t : ℕ) (shaped : is_shaped g (Aborted c) ≡ true) (at : txn_at g (Aborted c) ≡ Some t) (empty_run : map_after (serial g) (of t g) ≡ serial g) where
  gone : (u : ℕ) → ended u (g ++ Aborted c ∷ []) ≡ false → u ≢ t
  gone u goes same = false≢true (sym goes ∙ ap (λ x. ended x (g ++ Aborted c ∷ [])) same ∙ ended_in g (Aborted c) (callers_of g legal.shape) shaped t at)

  serial_same : serial (g ++ Aborted c ∷ []) ≡ serial g
  serial_same = serial_is g (Aborted c) t legal.shape (shape_push g (Aborted c) legal.shape shaped) shaped refl at

  stay : (u : ℕ) → u ≢ t → of u (g ++ Aborted c ∷ []) ≡ of u g
  stay u away = entries_stay g (Aborted c) t legal.shape (shape_push g (Aborted c) legal.shape shaped) shaped refl at u away

  free_after : (k : ℕ) → ((u : ℕ) → ended u g ≡ false → u ≢ t → keys_in stripes (of u g) k ≡ false) → now_at (g ++ Aborted c ∷ []) k ≡ get (serial g) k
  free_after k free = now_at-free stripes (g ++ Aborted c ∷ []) k (λ u goes.
      ap (λ es. keys_in stripes es k) (stay u (gone u goes)) ∙ free u (not_ended_before g (Aborted c) (callers_of g legal.shape) shaped u goes) (gone u goes)) ∙ ap (λ m. get m k) serial_same

  pub now-aborted : now (g ++ Aborted c ∷ []) ≡ now g
  now-aborted = same_map (now (g ++ Aborted c ∷ [])) (now g) (λ k. get-now (g ++ Aborted c ∷ []) k ∙ at_key k (holder_or_none stripes g k (callers_of g legal.shape)) ∙ sym (get-now g k))
    where
      at_key : (k : ℕ) → KeyHolder stripes g k ⊎ ((u : ℕ) → ended u g ≡ false → keys_in stripes (of u g) k ≡ false) → now_at (g ++ Aborted c ∷ []) k ≡ now_at g k
      at_key k (inl w) = elim (cases_eq w.txn t) [
        | inl same ↦
            free_after k (λ u going away. false_from_ne_true _ (λ is. away (are_apart holder stripes g legal.shape legal.locks u w.txn (stripe_of stripes k) going w.running.going is w.held ∙ same)))
            ∙ ap (λ m. get m k) (sym empty_run) ∙ ap (λ x. get (map_after (serial g) (of x g)) k) (sym same)
            ∙ sym (now_at-holder stripes g k (are_apart holder stripes g legal.shape legal.locks) w.txn w.running w.held)
        | inr away ↦ now_at-push_else holder stripes g (Aborted c) t legal.shape legal.locks (shape_push g (Aborted c) legal.shape shaped) (locks_push holder stripes g (Aborted c) legal.locks refl) shaped refl at k w.txn w.running away w.held
      ]
      at_key k (inr free) = free_after k (λ u going away. free u going) ∙ sym (now_at-free stripes g k free)
