-- Lemmas about texts that are joined by a byte, and about the line of a history.
use Rattle.std.proofs.Common.{◌≡◌, ℕ, List, [], ◌∷◌, ◌++◌, false, map, refl, sym, ap, append_assoc}
use Rattle.std.specs.Prelude.{codes, decimal}
use Rattle.std.proofs.lemmas.List.{append-nil}
use Rattle.txn_words.specs.declared.entry.Entry.{Entry}
use Rattle.txn_files.specs.HistoryText.{comma, entry_text, text_of_history}
use Rattle.txn_files.specs.HistoryLine.{rest_of}
use Rattle.std.specs.List.{flat_map, join_with_byte}

pub join_with_byte_cons : {X : Type 0} (c : ℕ) (f : X → List ℕ) (x : X) (xs : List X) → join_with_byte c (f x ∷ map f xs) ≡ f x ++ flat_map (λ y. c ∷ f y) xs
join_with_byte_cons c f x [] = sym (append-nil (f x))
join_with_byte_cons c f x (y ∷ ys) = ap (λ (rest : List ℕ). f x ++ (c ∷ rest)) (join_with_byte_cons c f y ys)

regrouped : (a x s y v b c : List ℕ) → ((a ++ codes "]") ++ (x ++ (s ++ (y ++ (v ++ b))))) ++ c ≡ a ++ (codes "]" ++ (x ++ (s ++ (y ++ (v ++ (b ++ c))))))
regrouped a x s y v b c = simp append_assoc refl

-- Before `HistoryBlocks` hands out any part of a history's line, the rest of the line is the text
-- of the history and a line feed.
pub whole_line : (version stripes : ℕ) (entries : List Entry) → rest_of false false version stripes entries ≡ text_of_history version stripes entries ++ 10 ∷ []
whole_line version stripes entries =
    sym (ap (λ (rest : List ℕ). codes "{\"entries\":[" ++ rest) (regrouped (join_with_byte comma (map entry_text entries)) (codes ",\"stripes\":") (decimal stripes) (codes ",\"version\":") (decimal version) (codes "}") (10 ∷ [])))
