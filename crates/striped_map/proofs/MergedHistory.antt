-- Shows that the entries of all callers, each at its position, are the history, because each
-- entry's caller writes it at its place, and the numbers follow from the shape.
use Rattle.std.proofs.Common.{◌≡◌, ℕ, zero, suc, ◌+◌, ◌%◌, ◌^◌, ◌<◌, ◌≤◌, ◌==◌, Bool, true, false, cond, List, [], ◌∷◌, ◌++◌, map, set, length, sym, refl, ap, subst, ◌∙◌, arith, append_assoc, length-append, eq-eqb, eqb-true, ne_eqb}
use Rattle.std.specs.List.{AllByRecursion}
use mathlib.Core.Logic.{dite}
use native.Mathlib.Decide.{ℕ_discrete, dec_le}
use Rattle.txn_words.specs.declared.entry.Entry.{Entry}
use Rattle.txn_words.specs.declared.entry.Entry.TheVariants.{Began, Asked, Did, Saved, Leave, Undone, Returned, Committed, Busy, Aborted}
use Rattle.txn_words.specs.Kinds.{caller_of, is_began, is_commit}
use Rattle.txn_words.specs.Shape.{own, how_many, is_numbered, IsShaped}
use Rattle.txn_trace.proofs.Callers.{shaped_number}
use Rattle.txn_trace.proofs.Pushes.{how_many-push}
use Rattle.txn_trace.proofs.Shaped.{first_of_rest}
use Rattle.striped_map.specs.Steps.{bare, marks}
use Rattle.striped_map.specs.Gathered.{written, written_to, entries_to, numbered}

-- All entries are entries of callers below `made`.
abbrev pub AreBelow : ℕ → List Entry → Type 0
AreBelow made log = AllByRecursion (λ e. caller_of e < made) log

-- The list `t`, with the entries of caller `c` of the list `log` at their places.
abbrev filled : ℕ → List Entry → List Entry → List Entry
filled c [] log = []
filled c (x ∷ t) [] = x ∷ t
filled c (x ∷ t) (e ∷ log) = cond (caller_of e == c) (bare e) x ∷ filled c t log

set_front : (front t : List Entry) (x y : Entry) → set (front ++ x ∷ t) (length front) y ≡ front ++ y ∷ t
set_front [] t x y = refl
set_front (f ∷ front) t x y = ap (λ (l : List Entry). f ∷ l) (set_front front t x y)

shift : (front t : List Entry) (x : Entry) → (front ++ x ∷ []) ++ t ≡ front ++ x ∷ t
shift front t x = append_assoc front (x ∷ []) t

filled_nil : (c : ℕ) (t : List Entry) → length t ≡ 0 → [] ≡ t
filled_nil c [] z = refl
filled_nil c (x ∷ t) z = absurd (omega arith)

-- If the entries of one caller are written at their positions, each of its entries is at its place,
-- and nothing else changes.
fills : (c : ℕ) (front t log : List Entry) → length t ≡ length log → length front + length log < 2 ^ 64 → written (front ++ t) (marks c (length front) log) ≡ front ++ filled c t log
fills c front [] [] same small = refl
fills c front (x ∷ t) [] same small = refl
fills c front [] (e ∷ log) same small = absurd (omega arith)
fills c front (x ∷ t) (e ∷ log) same small =
    at (caller_of e == c) (λ (y : Entry). ap (λ (l : List Entry). written l (marks c (length front + 1) log)) (sym (shift front t y))
    ∙ ap (λ (k : ℕ). written ((front ++ y ∷ []) ++ t) (marks c k log)) (sym (length-append front (y ∷ [])))
    ∙ fills c (front ++ y ∷ []) t log (omega arith) (let l = length-append front (y ∷ []) in omega arith)
    ∙ shift front (filled c t log) y)
  where
    place : set (front ++ x ∷ t) (length front % 2 ^ 64) (bare e) ≡ front ++ bare e ∷ t
    place = ap (λ (k : ℕ). set (front ++ x ∷ t) k (bare e)) (omega arith) ∙ set_front front t x (bare e)

    at : (b : Bool) → ((y : Entry) → written (front ++ y ∷ t) (marks c (length front + 1) log) ≡ front ++ y ∷ filled c t log)
        → written (front ++ x ∷ t) (cond b ((length front % 2 ^ 64, bare e) ∷ marks c (length front + 1) log) (marks c (length front + 1) log)) ≡ front ++ cond b (bare e) x ∷ filled c t log
    at true rest = ap (λ (l : List Entry). written l (marks c (length front + 1) log)) place ∙ rest (bare e)
    at false rest = rest x

-- The list `t`, with the entries of the callers below `made` at their places.
abbrev filled_to : ℕ → List Entry → List Entry → List Entry
filled_to zero t log = t
filled_to (suc made) t log = filled made (filled_to made t log) log

length-filled : (c : ℕ) (t log : List Entry) → length (filled c t log) ≡ length t
length-filled c [] log = refl
length-filled c (x ∷ t) [] = refl
length-filled c (x ∷ t) (e ∷ log) = ap suc (length-filled c t log)

length-filled_to : (made : ℕ) (t log : List Entry) → length (filled_to made t log) ≡ length t
length-filled_to zero t log = refl
length-filled_to (suc made) t log = length-filled made (filled_to made t log) log ∙ length-filled_to made t log

fills_to : (made : ℕ) (t log : List Entry) → length t ≡ length log → length log < 2 ^ 64 → written_to made t log ≡ filled_to made t log
fills_to zero t log same small = refl
fills_to (suc made) t log same small =
    ap (λ (l : List Entry). written l (marks made 0 log)) (fills_to made t log same small) ∙ fills made [] (filled_to made t log) log (length-filled_to made t log ∙ same) (omega arith)

-- One place of a list, with the entry `e` if its caller is below `made`.
abbrev one_to : ℕ → Entry → Entry → Entry
one_to zero x e = x
one_to (suc made) x e = cond (caller_of e == made) (bare e) (one_to made x e)

one_by_one : (made : ℕ) (x e : Entry) (t log : List Entry) → filled_to made (x ∷ t) (e ∷ log) ≡ one_to made x e ∷ filled_to made t log
one_by_one zero x e t log = refl
one_by_one (suc made) x e t log = ap (λ (l : List Entry). filled made l (e ∷ log)) (one_by_one made x e t log)

one_is : (made : ℕ) (x e : Entry) → caller_of e < made → one_to made x e ≡ bare e
one_is zero x e lt = absurd (omega arith)
one_is (suc made) x e lt = dite (ℕ_discrete (caller_of e) made)
    (λ (same : caller_of e ≡ made). ap (λ b. cond b (bare e) (one_to made x e)) (eq-eqb (caller_of e) made same))
    (λ ne. ap (λ b. cond b (bare e) (one_to made x e)) (ne_eqb (caller_of e) made ne) ∙ one_is made x e (omega arith))

all_filled : (made : ℕ) (t log : List Entry) → length t ≡ length log → AreBelow made log → filled_to made t log ≡ map bare log
all_filled made [] [] same below = sym (filled_nil 0 (filled_to made [] []) (length-filled_to made [] []))
all_filled made (x ∷ t) [] same below = absurd (omega arith)
all_filled made [] (e ∷ log) same below = absurd (omega arith)
all_filled made (x ∷ t) (e ∷ log) same below =
    one_by_one made x e t log ∙ ap (λ (y : Entry). y ∷ filled_to made t log) (one_is made x e below.0) ∙ ap (λ (l : List Entry). bare e ∷ l) (all_filled made t log (omega arith) below.1)

-- If all entries are entries of callers below `made`, and all entries of these callers are written
-- at their positions, the list is the history without numbers.
pub written_all : (made : ℕ) (t log : List Entry) → length t ≡ length log → length log < 2 ^ 64 → AreBelow made log → written_to made t log ≡ map bare log
written_all made t log same small below = fills_to made t log same small ∙ all_filled made t log same below

-- How many marks one entry gives.
entries_one : (made i : ℕ) (e : Entry) (log : List Entry) → length (marks made i (e ∷ log)) ≡ cond (caller_of e == made) 1 0 + length (marks made (i + 1) log)
entries_one made i e log = at (caller_of e == made)
  where
    at : (b : Bool) → length (cond b ((i % 2 ^ 64, bare e) ∷ marks made (i + 1) log) (marks made (i + 1) log)) ≡ cond b 1 0 + length (marks made (i + 1) log)
    at true = omega arith
    at false = omega arith

-- The number of a caller's marks does not depend on the first position.
length-marks : (c i j : ℕ) (log : List Entry) → length (marks c i log) ≡ length (marks c j log)
length-marks c i j [] = refl
length-marks c i j (e ∷ log) = entries_one c i e log ∙ ap (λ (k : ℕ). cond (caller_of e == c) 1 0 + k) (length-marks c (i + 1) (j + 1) log) ∙ sym (entries_one c j e log)

abbrev count_one : ℕ → Entry → ℕ
count_one zero e = 0
count_one (suc made) e = count_one made e + cond (caller_of e == made) 1 0

entries_next : (made : ℕ) (e : Entry) (log : List Entry) → entries_to made (e ∷ log) ≡ count_one made e + entries_to made log
entries_next zero e log = refl
entries_next (suc made) e log =
    let a = entries_next made e log in let b = entries_one made 0 e log in let l = length-marks made 1 0 log in
    let k : length (marks made 0 (e ∷ log)) ≡ cond (caller_of e == made) 1 0 + length (marks made 0 log) = b ∙ ap (λ (k : ℕ). cond (caller_of e == made) 1 0 + k) l in
    omega arith

count_none : (made : ℕ) (e : Entry) → made ≤ caller_of e → count_one made e ≡ 0
count_none zero e low = refl
count_none (suc made) e low = let a = count_none made e (omega arith) in ap (λ (k : ℕ). k + cond (caller_of e == made) 1 0) a ∙ ap (λ b. 0 + cond b 1 0) (ne_eqb (caller_of e) made (λ z. omega arith))

count_is : (made : ℕ) (e : Entry) → caller_of e < made → count_one made e ≡ 1
count_is zero e lt = absurd (omega arith)
count_is (suc made) e lt = dite (ℕ_discrete (caller_of e) made)
    (λ (same : caller_of e ≡ made). ap (λ (k : ℕ). k + cond (caller_of e == made) 1 0) (count_none made e (omega arith)) ∙ ap (λ b. 0 + cond b 1 0) (eq-eqb (caller_of e) made same))
    (λ ne. ap (λ (k : ℕ). k + cond (caller_of e == made) 1 0) (count_is made e (omega arith)) ∙ ap (λ b. 1 + cond b 1 0) (ne_eqb (caller_of e) made ne))

-- If all entries are entries of callers below `made`, these callers have as many entries as the
-- history.
pub entries_all : (made : ℕ) (log : List Entry) → AreBelow made log → entries_to made log ≡ length log
entries_all made [] below = none_to made
  where
    none_to : (n : ℕ) → entries_to n [] ≡ 0
    none_to zero = refl
    none_to (suc n) = ap (λ (k : ℕ). k + 0) (none_to n)
entries_all made (e ∷ log) below =
    let a = entries_next made e log in let b = count_is made e below.0 in let d = entries_all made log below.1 in
    omega arith

-- If no caller from `made` on has entries, all entries are entries of callers below `made`.
pub below_all : (made : ℕ) (log : List Entry) → ((c : ℕ) → made ≤ c → own c log ≡ []) → AreBelow made log
below_all made [] others = tt
below_all made (e ∷ log) others = (
  dite (dec_le (caller_of e + 1) made) (λ (lt : caller_of e + 1 ≤ made). omega arith)
      (λ no_less. absurd (let c = caller_of e in let z = ap length (sym (ap (λ b. cond b (e ∷ own c log) (own c log)) (eq-eqb c c refl)) ∙ others c (omega arith)) in omega arith)),
  below_all made log (λ c low. dite (ℕ_discrete (caller_of e) c)
      (λ (same : caller_of e ≡ c). absurd (let z = ap length (sym (ap (λ b. cond b (e ∷ own c log) (own c log)) (eq-eqb (caller_of e) c same)) ∙ others c low) in omega arith))
      (λ ne. sym (ap (λ b. cond b (e ∷ own c log) (own c log)) (ne_eqb (caller_of e) c ne)) ∙ others c low)),
)

-- The numbers that one entry of the right shape has.
next_number : (g : List Entry) (e : Entry) (log : List Entry) → IsShaped (g ++ e ∷ log)
    → numbered (how_many is_began (g ++ e ∷ [])) (how_many is_commit (g ++ e ∷ [])) (map bare log) ≡ log
    → numbered (how_many is_began g) (how_many is_commit g) (bare e ∷ map bare log) ≡ e ∷ log
next_number g e log shape rest = at e (how_many-push is_began g e) (how_many-push is_commit g e) (shaped_number g e (first_of_rest g log e shape)) rest
  where
    at : (x : Entry) → how_many is_began (g ++ x ∷ []) ≡ (how_many is_began g) + cond (is_began x) 1 0 → how_many is_commit (g ++ x ∷ []) ≡ how_many is_commit g + cond (is_commit x) 1 0
        → is_numbered g x ≡ true
        → numbered (how_many is_began (g ++ x ∷ [])) (how_many is_commit (g ++ x ∷ [])) (map bare log) ≡ log → numbered (how_many is_began g) (how_many is_commit g) (bare x ∷ map bare log) ≡ x ∷ log
    at (Began c t) p q is r = ap (λ (n : ℕ). Began c n ∷ numbered (how_many is_began g + 1) (how_many is_commit g) (map bare log)) (sym (eqb-true t (how_many is_began g + 1) is)) ∙ ap (λ (l : List Entry). Began c t ∷ l) (ap (λ (n : ℕ). numbered n (how_many is_commit g) (map bare log)) (sym p) ∙ ap (λ (n : ℕ). numbered (how_many is_began (g ++ Began c t ∷ [])) n (map bare log)) (sym (q ∙ (omega arith))) ∙ r)
    at (Committed c t) p q is r = ap (λ (n : ℕ). Committed c n ∷ numbered (how_many is_began g) (how_many is_commit g + 1) (map bare log)) (sym (eqb-true t (how_many is_commit g + 1) is)) ∙ ap (λ (l : List Entry). Committed c t ∷ l) (ap (λ (n : ℕ). numbered n (how_many is_commit g + 1) (map bare log)) (sym (p ∙ (omega arith))) ∙ ap (λ (n : ℕ). numbered (how_many is_began (g ++ Committed c t ∷ [])) n (map bare log)) (sym q) ∙ r)
    at (Asked c op) p q is r = ap (λ (l : List Entry). Asked c op ∷ l) (ap (λ (n : ℕ). numbered n (how_many is_commit g) (map bare log)) (sym (p ∙ (omega arith))) ∙ ap (λ (n : ℕ). numbered (how_many is_began (g ++ Asked c op ∷ [])) n (map bare log)) (sym (q ∙ (omega arith))) ∙ r)
    at (Did c reply) p q is r = ap (λ (l : List Entry). Did c reply ∷ l) (ap (λ (n : ℕ). numbered n (how_many is_commit g) (map bare log)) (sym (p ∙ (omega arith))) ∙ ap (λ (n : ℕ). numbered (how_many is_began (g ++ Did c reply ∷ [])) n (map bare log)) (sym (q ∙ (omega arith))) ∙ r)
    at (Saved c) p q is r = ap (λ (l : List Entry). Saved c ∷ l) (ap (λ (n : ℕ). numbered n (how_many is_commit g) (map bare log)) (sym (p ∙ (omega arith))) ∙ ap (λ (n : ℕ). numbered (how_many is_began (g ++ Saved c ∷ [])) n (map bare log)) (sym (q ∙ (omega arith))) ∙ r)
    at (Leave c to) p q is r = ap (λ (l : List Entry). Leave c to ∷ l) (ap (λ (n : ℕ). numbered n (how_many is_commit g) (map bare log)) (sym (p ∙ (omega arith))) ∙ ap (λ (n : ℕ). numbered (how_many is_began (g ++ Leave c to ∷ [])) n (map bare log)) (sym (q ∙ (omega arith))) ∙ r)
    at (Undone c) p q is r = ap (λ (l : List Entry). Undone c ∷ l) (ap (λ (n : ℕ). numbered n (how_many is_commit g) (map bare log)) (sym (p ∙ (omega arith))) ∙ ap (λ (n : ℕ). numbered (how_many is_began (g ++ Undone c ∷ [])) n (map bare log)) (sym (q ∙ (omega arith))) ∙ r)
    at (Returned c to) p q is r = ap (λ (l : List Entry). Returned c to ∷ l) (ap (λ (n : ℕ). numbered n (how_many is_commit g) (map bare log)) (sym (p ∙ (omega arith))) ∙ ap (λ (n : ℕ). numbered (how_many is_began (g ++ Returned c to ∷ [])) n (map bare log)) (sym (q ∙ (omega arith))) ∙ r)
    at (Busy c op d) p q is r = ap (λ (l : List Entry). Busy c op d ∷ l) (ap (λ (n : ℕ). numbered n (how_many is_commit g) (map bare log)) (sym (p ∙ (omega arith))) ∙ ap (λ (n : ℕ). numbered (how_many is_began (g ++ Busy c op d ∷ [])) n (map bare log)) (sym (q ∙ (omega arith))) ∙ r)
    at (Aborted c) p q is r = ap (λ (l : List Entry). Aborted c ∷ l) (ap (λ (n : ℕ). numbered n (how_many is_commit g) (map bare log)) (sym (p ∙ (omega arith))) ∙ ap (λ (n : ℕ). numbered (how_many is_began (g ++ Aborted c ∷ [])) n (map bare log)) (sym (q ∙ (omega arith))) ∙ r)

-- The numbers of a history of the right shape follow from its other contents.
pub numbered_on : (g log : List Entry) → IsShaped (g ++ log) → numbered (how_many is_began g) (how_many is_commit g) (map bare log) ≡ log
numbered_on g [] shape = refl
numbered_on g (e ∷ log) shape = next_number g e log shape (numbered_on (g ++ e ∷ []) log (subst IsShaped (sym (append_assoc g (e ∷ []) log)) shape))

pub numbered_all : (log : List Entry) → IsShaped log → numbered 0 0 (map bare log) ≡ log
numbered_all log shape = numbered_on [] log shape

-- The law: let `t` be any list as long as the history. If the entries of all callers are written
-- into it at their positions, and the transactions and commits are then numbered in order, the list
-- is the history.
pub gathered_all : (made : ℕ) (t log : List Entry) → IsShaped log → ((c : ℕ) → made ≤ c → own c log ≡ []) → length t ≡ entries_to made log → length t < 2 ^ 64 → numbered 0 0 (written_to made t log) ≡ log
gathered_all made t log shape others long small =
    let below = below_all made log others in let all = entries_all made log below in
    ap (numbered 0 0) (written_all made t log (long ∙ all) (omega arith) below) ∙ numbered_all log shape
