-- The tests of an entry: its shape and its reply.
use Rattle.std.proofs.Common.{◌≡◌, ℕ, true, List, [], ◌∷◌, ◌++◌, refl, sym, ◌∙◌, Option}
use Rattle.txn_words.specs.declared.entry.Entry.{Entry}
use Rattle.txn_words.specs.declared.holder.Holder.{Holder}
use Rattle.txn_words.specs.declared.entry.Entry.TheVariants.{Did}
use Rattle.txn_words.specs.Shape.{is_shaped}
use Rattle.txn_trace.specs.Legal.{IsLegal, replies_hold}
use Rattle.txn_trace.proofs.RuleBreaks.{is_right, replies_hold-push}

-- Only a Did can have a wrong reply.
right_other : (g : List Entry) (e : Entry) → ((c : ℕ) (x : Option ℕ) → e ≡ Did c x → ⊥) → is_right g e ≡ true
right_other g (Did c x) not_did = absurd (not_did c x refl)
right_other g _ not_did = refl

pub answered_other : {holder : Holder} (stripes : ℕ) (h : List Entry) → IsLegal holder stripes h → (e : Entry) → is_shaped h e ≡ true → ((c : ℕ) (x : Option ℕ) → e ≡ Did c x → ⊥) → true ≡ replies_hold (h ++ e ∷ [])
answered_other stripes h legal e shaped not_did = sym (replies_hold-push stripes h legal e shaped ∙ right_other h e not_did)
