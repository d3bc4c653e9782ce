-- Texts that grow, and the lines of the entries that pass a test.
use Rattle.std.proofs.Common.{◌≡◌, ℕ, ◌+◌, ◌<◌, Bool, List, [], ◌∷◌, ◌++◌, length, take, sym, ap, ◌∙◌, append_assoc, append-nil, arith, length-take-le}
use Rattle.txn_words.specs.declared.entry.Entry.{Entry}
use Rattle.judge_engine.specs.ReasonLines.{line_if, lines_from, lines_where}

-- ---- texts that grow

pub joined : (start a b mid end : List ℕ) → mid ≡ start ++ a → end ≡ mid ++ b → end ≡ start ++ (a ++ b)
joined start a b mid end first second = second ∙ ap (λ t. t ++ b) first ∙ append_assoc start a b

pub joined_three : (start a b c first second end : List ℕ) → first ≡ start ++ a → second ≡ first ++ b → end ≡ second ++ c → end ≡ start ++ (a ++ (b ++ c))
joined_three start a b c first second end one two three = joined start a (b ++ c) first end one (joined first b c second end two three)

pub joined_four : (start a b c d first second third end : List ℕ) → first ≡ start ++ a → second ≡ first ++ b → third ≡ second ++ c → end ≡ third ++ d → end ≡ start ++ (a ++ (b ++ (c ++ d)))
joined_four start a b c d first second third end one two three four = joined start a (b ++ (c ++ d)) first end one (joined_three first b c d second third end two three four)

-- ---- the lines of the entries that pass a test

module _ (test : List Entry → Entry → Bool) where
  lines_push : (g h : List Entry) (e : Entry) → lines_from test g (h ++ e ∷ []) ≡ lines_from test g h ++ line_if (test (g ++ h) e) (length (g ++ h)) e
  lines_push g [] e = append-nil (line_if (test g e) (length g) e) ∙ ap (λ k. line_if (test k e) (length k) e) (sym (append-nil g))
  lines_push g (x ∷ h) e =
      let here = line_if (test g x) (length g) x in
      ap (λ t. here ++ t) (lines_push (g ++ x ∷ []) h e)
      ∙ sym (append_assoc here (lines_from test (g ++ x ∷ []) h) (line_if (test ((g ++ x ∷ []) ++ h) e) (length ((g ++ x ∷ []) ++ h)) e))
      ∙ ap (λ k. (here ++ lines_from test (g ++ x ∷ []) h) ++ line_if (test k e) (length k) e) (append_assoc g (x ∷ []) h)

  -- If a text is `start` followed by the lines of the first `i` entries that pass the test, adding
  -- the next entry's line, if this entry passes, gives the lines of the first `i + 1` entries.
  pub grown_where : (new old start : List ℕ) (h : List Entry) (i : ℕ) (e : Entry) (is_chosen : Bool) → new ≡ old ++ line_if is_chosen i e → old ≡ start ++ lines_where test (take i h) → is_chosen ≡ test (take i h) e → i < length h → take (i + 1) h ≡ take i h ++ e ∷ []
      → new ≡ start ++ lines_where test (take (i + 1) h)
  grown_where new old start h i e is_chosen line before is within next =
      let index : i ≡ length (take i h) = sym (length-take-le i h (omega arith)) in
      joined start (lines_where test (take i h)) (line_if is_chosen i e) old new before line
      ∙ ap (λ m. start ++ m) ((λ j. lines_where test (take i h) ++ line_if (is j) (index j) e) ∙ sym (lines_push [] (take i h) e) ∙ ap (lines_where test) (sym next))
