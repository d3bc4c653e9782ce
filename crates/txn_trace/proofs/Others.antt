-- The map `now` and the replies after an entry that commits no transaction.
use Rattle.std.proofs.Common.{◌≡◌, ℕ, ◌==◌, ◌≢◌, true, false, List, [], ◌∷◌, ◌++◌, ap, sym, subst, ◌∙◌, Some, IsSome}
use Rattle.std.specs.List.{list_any}
use Rattle.std.proofs.lemmas.Bool.{false_from_ne_true, cases_eq}
use mathlib.Core.Logic.{◌⊎◌, inl, inr}
use Rattle.txn_words.specs.declared.entry.Entry.{Entry}
use Rattle.txn_words.specs.declared.holder.Holder.{Holder}
use Rattle.txn_words.specs.Map.{get}
use Rattle.txn_trace.specs.History.{of, txns_of, ends_in}
use Rattle.txn_words.specs.Kinds.{caller_of, is_began, is_commit}
use Rattle.txn_trace.specs.Alone.{alone, map_after}
use Rattle.txn_trace.specs.Serial.{serial}
use Rattle.txn_trace.specs.Now.{now, now_at}
use Rattle.txn_trace.specs.Replies.{RepliesHoldAt}
use Rattle.txn_trace.specs.Locks.{stripe_of, LocksHold}
use Rattle.txn_words.specs.Shape.{is_shaped, IsShaped}
use Rattle.txn_trace.specs.Legal.{running}
use Rattle.txn_words.proofs.Maps.{same_map}
use Rattle.txn_trace.proofs.Pushes.{txn_at, txn_in-push, of-push_in, of-push_out}
use Rattle.txn_trace.proofs.Callers.{Callers, is_end, ended}
use Rattle.txn_trace.proofs.Shaped.{callers_of, ended_in, not_ended_before}
use Rattle.txn_trace.proofs.Steps.{txns_of-push, any-append_left, serial-push_other}
use Rattle.txn_trace.proofs.Stripes.{keys_in, are_apart}
use Rattle.txn_trace.proofs.Now.{IsRunning, running_of, now_at-mine, now_at-holder, holder_or_none, open_going, going_open}
use Rattle.txn_trace.proofs.Table.{get-now}

module _ (g : List Entry) (e : Entry) (t : ℕ) (shape : IsShaped g) (shape_after : IsShaped (g ++ e ∷ [])) (shaped : is_shaped g e ≡ true) (other : is_commit e ≡ false) (at : txn_at g e ≡ Some t) where
  callers : Callers g
  callers = callers_of g shape

  -- An entry that commits no transaction leaves the committed map unchanged.
  pub serial_is : serial (g ++ e ∷ []) ≡ serial g
  serial_is = serial-push_other g e callers shape shaped shape_after other

  not_in : (u : ℕ) → u ≢ t → txn_at g e ≡ Some u → ⊥
  not_in u away in_u = away (same u (sym in_u ∙ at))
    where
      same : (x : ℕ) → Some x ≡ Some t → x ≡ t
      same x is = cc (is)

  pub entries_stay : (u : ℕ) → u ≢ t → of u (g ++ e ∷ []) ≡ of u g
  entries_stay u away = of-push_out u g e (not_in u away)

  pub replies-push_other : RepliesHoldAt g → IsSome (alone (serial g) (of t g ++ e ∷ [])) → RepliesHoldAt (g ++ e ∷ [])
  replies-push_other hold mine u is_open_after = subst (λ m. IsSome (alone m (of u (g ++ e ∷ [])))) (sym serial_is) (elim (cases_eq u t) [
    | inl same ↦ subst (λ es. IsSome (alone (serial g) es)) (sym (of-push_in u g e (at ∙ ap Some (sym same)))) (subst (λ x. IsSome (alone (serial g) (of x g ++ e ∷ []))) (sym same) mine)
    | inr away ↦ subst (λ es. IsSome (alone (serial g) es)) (sym (entries_stay u away))
        (hold u (open_going u g (not_ended_before g e callers shaped u (going_open u (g ++ e ∷ []) is_open_after))))
  ])

module _ (holder : Holder) (stripes : ℕ) (g : List Entry) (e : Entry) (t : ℕ) (shape : IsShaped g) (locks : LocksHold holder stripes g) (shape_after : IsShaped (g ++ e ∷ [])) (locks_after : LocksHold holder stripes (g ++ e ∷ [])) (shaped : is_shaped g e ≡ true) (other : is_commit e ≡ false) (at : txn_at g e ≡ Some t) where
  same_committed : serial (g ++ e ∷ []) ≡ serial g
  same_committed = serial_is g e t shape shape_after shaped other at

  stay : (u : ℕ) → u ≢ t → of u (g ++ e ∷ []) ≡ of u g
  stay u away = entries_stay g e t shape shape_after shaped other at u away

  here_callers : Callers g
  here_callers = callers_of g shape

  -- If another transaction holds the stripe of a key, the value of the map `now` at the key is
  -- unchanged.
  pub now_at-push_else : (k w : ℕ) → IsRunning g w → w ≢ t → keys_in stripes (of w g) k ≡ true → now_at (g ++ e ∷ []) k ≡ now_at g k
  now_at-push_else k w running away held =
      now_at-holder stripes (g ++ e ∷ []) k (are_apart holder stripes (g ++ e ∷ []) shape_after locks_after) w
      (record { began = subst (λ ts. list_any (λ x. x == w) ts ≡ true) (sym (txns_of-push is_began g e)) (any-append_left (λ x. x == w) (txns_of is_began g) _ running.began); going = ap (ends_in is_end) (stay w away) ∙ running.going })
      (ap (λ es. keys_in stripes es k) (stay w away) ∙ held)
      ∙ ap (λ m. get (map_after m (of w (g ++ e ∷ []))) k) same_committed
      ∙ ap (λ es. get (map_after (serial g) es) k) (stay w away)
      ∙ sym (now_at-holder stripes g k (are_apart holder stripes g shape locks) w running held)

  -- If no other transaction holds the stripe of a key, the map `now` and the last map of the
  -- entry's transaction have the same value at the key.
  pub now_at-push_mine : (k : ℕ) → is_end e ≡ false → ((u : ℕ) → ended u g ≡ false → u ≢ t → keys_in stripes (of u g) k ≡ false) → now_at (g ++ e ∷ []) k ≡ get (map_after (serial g) (of t g ++ e ∷ [])) k
  now_at-push_mine k goes none =
      now_at-mine stripes (g ++ e ∷ []) k t
      (running_of (g ++ e ∷ []) (caller_of e) t (ap (λ f. f (caller_of e)) (txn_in-push g e) ∙ at) (ended_in g e here_callers shaped t at ∙ goes))
      (λ u goes_after away. ap (λ es. keys_in stripes es k) (stay u away) ∙ none u (not_ended_before g e here_callers shaped u goes_after) away)
      ∙ ap (λ m. get (map_after m (of t (g ++ e ∷ []))) k) same_committed
      ∙ ap (λ es. get (map_after (serial g) es) k) (of-push_in t g e at)

  -- At each key, either the value in the map `now` is unchanged, or it comes from the last map of
  -- the entry's transaction, both before and after the entry.
  pub now_at-push : (k : ℕ) → is_end e ≡ false → IsRunning g t
      → ((now_at (g ++ e ∷ []) k ≡ now_at g k) × (keys_in stripes (of t g) k ≡ false))
      ⊎ ((now_at (g ++ e ∷ []) k ≡ get (map_after (serial g) (of t g ++ e ∷ [])) k) × (now_at g k ≡ get (map_after (serial g) (of t g)) k))
  now_at-push k goes running = elim (holder_or_none stripes g k here_callers) [
    | inl w ↦ elim (cases_eq w.txn t) [
      | inl same ↦
          let none : (u : ℕ) → ended u g ≡ false → u ≢ t → keys_in stripes (of u g) k ≡ false =
          λ u going away. false_from_ne_true _ (λ is. away (are_apart holder stripes g shape locks u w.txn (stripe_of stripes k) going w.running.going is w.held ∙ same)) in
          inr (now_at-push_mine k goes none, now_at-mine stripes g k t running none)
      | inr away ↦ inl (
        now_at-push_else k w.txn w.running away w.held,
        false_from_ne_true _ (λ is. away (are_apart holder stripes g shape locks w.txn t (stripe_of stripes k) w.running.going running.going w.held is)),
      )
    ]
    | inr none ↦ inr (now_at-push_mine k goes (λ u going away. none u going), now_at-mine stripes g k t running (λ u going away. none u going))
  ]

  -- An entry that does not change its transaction's last map does not change the map `now`.
  pub now-push_same : is_end e ≡ false → IsRunning g t → map_after (serial g) (of t g ++ e ∷ []) ≡ map_after (serial g) (of t g) → now (g ++ e ∷ []) ≡ now g
  now-push_same goes running same = same_map (now (g ++ e ∷ [])) (now g) (λ k. get-now (g ++ e ∷ []) k ∙ elim (now_at-push k goes running) [ inl w ↦ w.0 | inr w ↦ w.0 ∙ ap (λ m. get m k) same ∙ sym w.1 ] ∙ sym (get-now g k))
