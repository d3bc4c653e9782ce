-- The first entry of the wrong shape.
use Rattle.std.proofs.Common.{◌≡◌, ℕ, Bool, true, false, List, [], ◌∷◌, ◌++◌, length, Option, Some, None, is_some, ap, sym, ◌∙◌, append_assoc}
use Rattle.std.proofs.lemmas.Bool.{false≢true}
use Rattle.std.proofs.lemmas.List.{append-nil}
use Rattle.txn_words.specs.declared.entry.Entry.{Entry}
use Rattle.txn_words.specs.Shape.{is_shaped, IsShaped}
use Rattle.order_check.specs.declared.checker.Checker.{Checker}
use Rattle.order_check.specs.Fed.{Tells, FedTo}
use Rattle.order_check.specs.Reasons.{IsMisshapenAt}

pub misshapen_now : (h : List Entry) (e : Entry) (index : ℕ) → IsShaped h → is_shaped h e ≡ false → index ≡ length h → IsMisshapenAt (h ++ e ∷ []) index
misshapen_now h e index shape wrong is = record { before = h; entry = e; there = ([], append-nil (h ++ e ∷ [])); index_is = sym is; shape = shape; wrong = wrong }

misshapen_more : (h : List Entry) (e : Entry) (index : ℕ) → IsMisshapenAt h index → IsMisshapenAt (h ++ e ∷ []) index
misshapen_more h e index is = record {
  before = is.before;
  entry = is.entry;
  there = (is.there.0 ++ e ∷ [], sym (append_assoc (is.before ++ is.entry ∷ []) is.there.0 (e ∷ [])) ∙ ap (λ es. es ++ e ∷ []) is.there.1);
  index_is = is.index_is;
  shape = is.shape;
  wrong = is.wrong;
}

pub not_shaped : (h : List Entry) (index : ℕ) → IsMisshapenAt h index → IsShaped h → ⊥
not_shaped h index is shape = false≢true (sym is.wrong ∙ shape is.before is.entry is.there)

pub still_misshapen : (b : Bool) (h : List Entry) (e : Entry) (old new : Checker) (o : Option ℕ) → is_some o ≡ true → FedTo b h old o → FedTo b (h ++ e ∷ []) new o
still_misshapen b h e old new None some is = absurd (false≢true some)
still_misshapen b h e old new (Some index) some is = misshapen_more h e index is

-- Before the first entry of the wrong shape.
pub while_shaped : (b : Bool) (h g : List Entry) (old new : Checker) (o : Option ℕ) → is_some o ≡ false → (Tells b h old → Tells b g new) → FedTo b h old o → FedTo b g new o
while_shaped b h g old new None none step is = step is
while_shaped b h g old new (Some index) none step is = absurd (false≢true (sym none))

pub told_if : (b : Bool) (h : List Entry) (checker : Checker) (o : Option ℕ) → IsShaped h → FedTo b h checker o → Tells b h checker
told_if b h checker None shape is = is
told_if b h checker (Some index) shape is = absurd (not_shaped h index is shape)
