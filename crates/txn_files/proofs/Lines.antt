-- A text is written into a list so that it ends right before position `end`. Then the list, from
-- the start of the text on, is the text followed by the old elements from `end` on.
use Rattle.std.proofs.Common.{◌≡◌, ℕ, ◌+◌, ◌-◌, ◌≤◌, List, ◌++◌, length, take, drop, arith, ap, ◌∙◌, length-take-le}
use Rattle.std.proofs.lemmas.List.{drop_at, drop-drop}
use borrow.Rule.Slice.PartMut.{put_mid, post_of}

pub drop-put_before : (start end : ℕ) (xs ys : List ℕ) → start + length ys ≡ end → end ≤ length xs → drop start (put_mid start (end - start) xs ys) ≡ ys ++ drop end xs
drop-put_before start end xs ys joined inside =
    let first : length (take start xs) ≡ start = length-take-le start xs (omega arith) in
    let whole : start + (end - start) ≡ end = omega arith in
    drop_at (take start xs) (ys ++ post_of start (end - start) xs) start first ∙ ap (λ (zs : List ℕ). ys ++ zs) (drop-drop (end - start) start xs ∙ ap (λ (n : ℕ). drop n xs) whole)
