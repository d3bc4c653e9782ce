-- If the aborted transactions of a legal history are left out, its map `now` and its committed map
-- stay the same.
use Rattle.std.proofs.Common.{◌≡◌, ℕ, Bool, true, false, cond, not, ◌||◌, List, [], ◌∷◌, map, refl, ap, sym, subst, ◌∙◌, Some, None, Option, IsTrue, IsSome}
use Rattle.std.specs.List.{filter, fold}
use Rattle.std.proofs.lemmas.Bool.{cases_Bool}
use mathlib.Core.List.{IsPrefix}
use mathlib.Core.Logic.{inl, inr}
use Rattle.txn_words.specs.declared.entry.Entry.{Entry}
use Rattle.txn_words.specs.Map.{empty}
use Rattle.txn_trace.specs.History.{Line, txn_after, of, txns_of, ends_in, is_committed, is_aborted, is_open}
use Rattle.txn_words.specs.Kinds.{caller_of, is_commit, is_abort}
use Rattle.txn_trace.specs.Alone.{alone, map_after}
use Rattle.txn_trace.specs.Serial.{serial}
use Rattle.txn_trace.specs.Now.{now}
use Rattle.txn_trace.specs.Replies.{RepliesHold, RepliesHoldAt}
use Rattle.txn_words.specs.Shape.{IsShaped}
use Rattle.txn_trace.specs.Erase.{erase}
use Rattle.txn_trace.proofs.Lists.{filter_within, fold_filter}
use Rattle.txn_trace.proofs.Erasure.{kept, kept_of, kept_lines, no_txn, of-kept_in, of-kept_out, txns_of-kept, committed_not_aborted, serial-kept, now-kept}
use Rattle.txn_trace.proofs.Shaped.{callers_of, ended_whole, committed_ended, shape_front}

kept_prefix : (keep : Option ℕ → Bool) (before : ℕ → Option ℕ) (h g' : List Entry) → IsPrefix g' (kept keep before h) → (g : List Entry) × IsPrefix g h × (kept keep before g ≡ g')
kept_prefix keep before [] [] p = ([], ([], refl), refl)
kept_prefix keep before [] (x ∷ g') p = absurd (cc (p.1))
kept_prefix keep before (e ∷ h) [] p = ([], (e ∷ h, refl), refl)
kept_prefix keep before (e ∷ h) (x ∷ g') p =
    let now = txn_after before e in
    let line : Line = record { txn = now (caller_of e); entry = e } in
    elim (keep (now (caller_of e))) as (λ b. keep (now (caller_of e)) ≡ b → IsPrefix (x ∷ g') (map (λ l. l.entry) (cond b (line ∷ kept_lines keep now h) (kept_lines keep now h)))
    → (g : List Entry) × IsPrefix g (e ∷ h) × (kept keep before g ≡ x ∷ g')) [
      | true ↦ λ is q.
          let same : x ≡ e = cc (q.1) in
          let r = kept_prefix keep now h g' (q.0, cc (q.1)) in
          (e ∷ r.0, (r.1.0, ap (λ ys. e ∷ ys) r.1.1), rw is (ap (λ ys. e ∷ ys) r.2 ∙ ap (λ y. y ∷ g') (sym same)))
      | false ↦ λ is q.
          let r = kept_prefix keep now h (x ∷ g') q in
          (e ∷ r.0, (r.1.0, ap (λ ys. e ∷ ys) r.1.1), rw is r.2)
    ] refl p

abbrev lasts : List Entry → Option ℕ → Bool
lasts h o = elim o [ None ↦ true | Some t ↦ not (is_aborted t h) ]

lasts_in : (h : List Entry) (t : ℕ) → is_aborted t h ≡ false → lasts h (Some t) ≡ true
lasts_in h t is = ap not is

pub serial-erase : (h : List Entry) → serial (erase h) ≡ serial h
serial-erase h = serial-kept (lasts h) h (lasts_in h)

pub now-erase : (h : List Entry) → now (erase h) ≡ now h
now-erase h = now-kept (lasts h) h (lasts_in h)

-- If a transaction is committed in a prefix of a history, it is not aborted in the history.
still : (h g : List Entry) (t : ℕ) → IsShaped h → IsPrefix g h → is_committed t g ≡ true → is_aborted t h ≡ false
still h g t shape p done =
    let callers = callers_of g (shape_front h g shape p) in
    let whole : of t h ≡ of t g = ap (of t) (sym p.1) ∙ ended_whole t g p.0 callers (subst IsShaped (sym p.1) shape) (committed_ended t g done) in
    ap (ends_in is_abort) whole ∙ committed_not_aborted t g done

-- If the transactions that the whole history aborts are left out of a prefix, the committed map of
-- the prefix stays the same.
serial_there : (h g : List Entry) → IsShaped h → IsPrefix g h → serial (kept_of (lasts h) g) ≡ serial g
serial_there h g shape p =
    let keep = lasts h in
    let lasting : (t : ℕ) → is_committed t g ≡ true → keep (Some t) ≡ true = λ t is. ap not (still h g t shape p is) in
    ap (λ ts. fold (λ m t. map_after m (of t (kept_of keep g))) empty (filter (λ t. is_committed t (kept_of keep g)) ts)) (txns_of-kept keep is_commit g)
    ∙ ap (fold (λ m t. map_after m (of t (kept_of keep g))) empty)
    (filter_within (λ t. is_committed t g) (λ t. is_committed t (kept_of keep g)) (λ t. keep (Some t)) (λ t is. ap (ends_in is_commit) (of-kept_in keep t g is)) lasting (txns_of is_commit g))
    ∙ fold_filter (λ t. is_committed t g) (λ m t. map_after m (of t (kept_of keep g))) (λ m t. map_after m (of t g))
    (λ m t is. ap (map_after m) (of-kept_in keep t g (lasting t is))) empty (txns_of is_commit g)

hold_there : (h g : List Entry) → IsShaped h → RepliesHold h → IsPrefix g h → RepliesHoldAt (kept_of (lasts h) g)
hold_there h g shape replies p t is_open_there =
    let keep = lasts h in
    elim (cases_Bool (keep (Some t))) [
      | inl in_it ↦
          let es : of t (kept_of keep g) ≡ of t g = of-kept_in keep t g in_it in
          let is_open_here : IsTrue (is_open t g) = subst (λ fs. IsTrue (not (ends_in is_commit fs || ends_in is_abort fs))) es is_open_there in
          let runs : IsSome (alone (serial g) (of t g)) = replies g p t is_open_here in
          subst (λ m. IsSome (alone m (of t (kept_of keep g)))) (sym (serial_there h g shape p)) (subst (λ fs. IsSome (alone (serial g) fs)) (sym es) runs)
      | inr out ↦ subst (λ fs. IsSome (alone (serial (kept_of keep g)) fs)) (sym (of-kept_out keep t g out)) refl
    ]

pub replies-erase : (h : List Entry) → IsShaped h → RepliesHold h → RepliesHold (erase h)
replies-erase h shape replies g' p t is_open_there =
    let r = kept_prefix (lasts h) no_txn h g' p in
    let all : RepliesHoldAt g' = subst RepliesHoldAt r.2 (hold_there h r.0 shape replies r.1) in
    all t is_open_there
