-- Beginnings of legal histories, and who holds a stripe after each.
use Rattle.std.proofs.Common.{◌≡◌, ℕ, ◌==◌, true, false, cond, List, [], ◌∷◌, ◌++◌, take, drop, Some, None, refl, ap, sym, subst, ◌∙◌, append_assoc}
use Rattle.std.specs.Prelude.{nat_eq}
use Rattle.std.specs.Option.{option_eq}
use Rattle.std.specs.List.{fold}
use Rattle.std.proofs.lemmas.List.{append-nil, take-append-drop}
use mathlib.Core.List.{IsPrefix}
use Rattle.txn_words.specs.declared.entry.Entry.{Entry}
use Rattle.txn_words.specs.declared.entry.Entry.TheVariants.{Began, Asked, Did, Saved, Leave, Undone, Returned, Committed, Busy, Aborted}
use Rattle.txn_words.specs.declared.holder.Holder.{Holder}
use Rattle.txn_words.specs.declared.op.Op.{Op}
use Rattle.txn_words.specs.Kinds.{caller_of}
use Rattle.txn_trace.specs.Legal.{IsLegal}
use Rattle.txn_trace.specs.Locks.{asks_in, holder_of, stripe_of}
use Rattle.txn_words.specs.Map.{key_of}
use Rattle.txn_trace.proofs.Callers.{is_end}
use Rattle.txn_trace.proofs.Shaped.{callers_of}
use Rattle.txn_trace.proofs.Running.{has_txn}
use Rattle.txn_trace.proofs.Holders.{holder_of-other, holder_of-end, holder_of-asked}
use Rattle.serial_check.specs.Serializable.{IsSerializableByCommits}
use Rattle.bad_entry.specs.Holding.{next_holder}

longer : {A : Type 0} (x g h : List A) → IsPrefix x g → IsPrefix x (g ++ h)
longer x g h p = (p.0 ++ h, sym (append_assoc x p.0 h) ∙ ap (λ w. w ++ h) p.1)

pub legal_front : (holder : Holder) (stripes : ℕ) (g h : List Entry) → IsLegal holder stripes (g ++ h) → IsLegal holder stripes g
legal_front holder stripes g h legal = record {
  replies = λ x p. legal.replies x (longer x g h p);
  locks = λ x e p. legal.locks x e (longer (x ++ e ∷ []) g h p);
  shape = λ x e p. legal.shape x e (longer (x ++ e ∷ []) g h p);
}

pub serial_front : (g h : List Entry) → IsSerializableByCommits (g ++ h) → IsSerializableByCommits g
serial_front g h serial = record {
  shape = λ x e p. serial.shape x e (longer (x ++ e ∷ []) g h p);
  replies = λ x c q t p at. serial.replies x c q t (longer (x ++ Committed c q ∷ []) g h p) at;
}

pub serial_take : (i : ℕ) (h : List Entry) → IsSerializableByCommits h → IsSerializableByCommits (take i h)
serial_take i h serial = serial_front (take i h) (drop i h) (subst IsSerializableByCommits (sym (take-append-drop i h)) serial)

-- Who holds a stripe after one more entry of a legal history.
module _ (holder : Holder) (stripes s : ℕ) (g : List Entry) where
  ends : (e : Entry) → IsLegal holder stripes (g ++ e ∷ []) → is_end e ≡ true → holder_of stripes s (g ++ e ∷ []) ≡ cond (option_eq nat_eq (holder_of stripes s g) (Some (caller_of e))) None (holder_of stripes s g)
  ends e after end =
      let legal = legal_front holder stripes g (e ∷ []) after in
      let shaped = after.shape g e ([], append-nil (g ++ e ∷ [])) in
      let at = has_txn g e legal.shape shaped in
      holder_of-end holder stripes g e (callers_of g legal.shape) shaped legal.shape legal.locks s at.0 end at.1

  other : (e : Entry) → IsLegal holder stripes (g ++ e ∷ []) → is_end e ≡ false → asks_in stripes s e ≡ false → holder_of stripes s (g ++ e ∷ []) ≡ holder_of stripes s g
  other e after goes asks =
      let legal = legal_front holder stripes g (e ∷ []) after in
      let shaped = after.shape g e ([], append-nil (g ++ e ∷ [])) in
      holder_of-other holder stripes g e (callers_of g legal.shape) shaped legal.shape legal.locks s goes asks

  asked : (c : ℕ) (op : Op) → IsLegal holder stripes (g ++ Asked c op ∷ []) → holder_of stripes s (g ++ Asked c op ∷ []) ≡ cond (stripe_of stripes (key_of op) == s) (Some c) (holder_of stripes s g)
  asked c op after =
      let legal = legal_front holder stripes g (Asked c op ∷ []) after in
      let whole : IsPrefix (g ++ Asked c op ∷ []) (g ++ Asked c op ∷ []) = ([], append-nil (g ++ Asked c op ∷ [])) in
      let shaped = after.shape g (Asked c op) whole in
      let at = has_txn g (Asked c op) legal.shape shaped in
      holder_of-asked holder stripes g c at.0 op (callers_of g legal.shape) shaped (after.locks g (Asked c op) whole) at.1 s

  pub holder-push : (e : Entry) → IsLegal holder stripes (g ++ e ∷ []) → holder_of stripes s (g ++ e ∷ []) ≡ next_holder stripes s (holder_of stripes s g) e
  holder-push (Asked c op) after = asked c op after
  holder-push (Committed c p) after = ends (Committed c p) after refl
  holder-push (Aborted c) after = ends (Aborted c) after refl
  holder-push (Began c t) after = other (Began c t) after refl refl
  holder-push (Did c r) after = other (Did c r) after refl refl
  holder-push (Saved c) after = other (Saved c) after refl refl
  holder-push (Leave c n) after = other (Leave c n) after refl refl
  holder-push (Undone c) after = other (Undone c) after refl refl
  holder-push (Returned c n) after = other (Returned c n) after refl refl
  holder-push (Busy c op x) after = other (Busy c op x) after refl refl

-- Folding `next_holder` over the entries of a legal history turns the stripe's holder before these
-- entries into the holder after them.
pub holder-fold : (holder : Holder) (stripes s : ℕ) (g h : List Entry) → IsLegal holder stripes (g ++ h) → fold (next_holder stripes s) (holder_of stripes s g) h ≡ holder_of stripes s (g ++ h)
holder-fold holder stripes s g [] legal = ap (holder_of stripes s) (sym (append-nil g))
holder-fold holder stripes s g (e ∷ h) legal =
    let same : (g ++ e ∷ []) ++ h ≡ g ++ e ∷ h = append_assoc g (e ∷ []) h in
    let more : IsLegal holder stripes ((g ++ e ∷ []) ++ h) = subst (IsLegal holder stripes) (sym same) legal in
    let next = holder-push holder stripes s g e (legal_front holder stripes (g ++ e ∷ []) h more) in
    ap (λ o. fold (next_holder stripes s) o h) (sym next) ∙ holder-fold holder stripes s (g ++ e ∷ []) h more ∙ ap (holder_of stripes s) same
