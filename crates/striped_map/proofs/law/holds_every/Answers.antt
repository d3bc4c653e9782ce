use Rattle.std.proofs.Common.{◌≡◌, ℕ, zero, suc, Bool, true, false, cond, List, [], ◌∷◌, Some, slice_get, sym, refl, ap, ◌∙◌, eq-eqb, mod-lt}
use Rattle.std.specs.List.{filter}
use Rattle.txn_words.specs.declared.entry.Entry.{Entry}
use Rattle.txn_words.specs.declared.entry.Entry.TheVariants.{Asked}
use Rattle.txn_words.specs.Map.{key_of}
use Rattle.txn_trace.specs.Locks.{asks_in, stripe_of}
use Rattle.striped_map.specs.Callers.{stripes_in}
use Rattle.striped_map.proofs.law.holds_every.Goals as goal

kept_out : (b : Bool) (x : Entry) (es : List Entry) → cond b (x ∷ es) es ≡ [] → (b ≡ false) × (es ≡ [])
kept_out true x es none = absurd (cc none)
kept_out false x es none = (refl, none)

-- If no entry of a list passes a test, the test fails for each entry of the list.
none_passes : (test : Entry → Bool) (es : List Entry) (i : ℕ) (e : Entry) → filter test es ≡ [] → slice_get es i ≡ Some e → test e ≡ false
none_passes test [] i e none at = absurd (cc at)
none_passes test (x ∷ es) zero e none at = ap test (same_entry x e (sym at)) ∙ (kept_out (test x) x (filter test es) none).0
  where
    same_entry : (x e : Entry) → Some e ≡ Some x → e ≡ x
    same_entry x e is = cc is
none_passes test (x ∷ es) (suc i) e none at = none_passes test es i e (kept_out (test x) x (filter test es) none).1 at

pub returns : goal.returns
returns c = λ a b es every step i other op at.
    let stripe : ℕ = stripe_of (stripes_in a) (key_of op) in
    let asks : asks_in (stripes_in a) stripe (Asked other op) ≡ true = eq-eqb stripe stripe refl in
    let held = every stripe (mod-lt (key_of op) a.map.value.some) in
    absurd (cc (sym asks ∙ none_passes (asks_in (stripes_in a) stripe) step.goes.between i (Asked other op) (step.goes.spared stripe held) at))
