-- The sums of two accounts after a transfer, and the map after a transfer's entries are run alone.
use Rattle.std.proofs.Common.{◌≡◌, ◌≢◌, ℕ, ◌+◌, cond, Some, sym, ap, subst, ◌∙◌, arith, Bool, true, false, List, [], ◌∷◌, ◌++◌, Option}
use Rattle.std.proofs.Common.{None, IsSome, refl, unwrap_or}
use Rattle.std.specs.Prelude.{unwrap_or, Result, Ok, Err, IfOk, OnOk, nat_eq}
use Rattle.samples.specs.Vocabulary.{Map, get, insert, AloneRun, Asked, Began, Committed, Did, Entry, Get, Op, Put, act, alone, fold}
use Rattle.samples.specs.Vocabulary.{map_after, option_and_then, option_eq}
use Rattle.samples.proofs.Vocabulary.{get-insert-here, false≢true, same_option}
use Rattle.std.proofs.lemmas.Bool.{ne_eqb}
use Rattle.txn_words.proofs.Maps.{get-insert}
use Rattle.samples.specs.Transfers.{balance, IsTransfer}
use Rattle.txn_words.specs.Map.{reply_of}
use Rattle.txn_trace.specs.Alone.{last_map, with_op, start}
use Rattle.samples.specs.StripedTransfers.{Makes, CannotMove, HasWritten, reading, writing}

get_other : (m : Map) (k v q : ℕ) → q ≢ k → get (insert m k v) q ≡ get m q
get_other m k v q other = get-insert m k v q ∙ ap (λ b. cond b (Some v) (get m q)) (ne_eqb q k other)

pub transferred : (from to sum less more : ℕ) (old new : Map) → from ≢ to → less + sum ≡ balance old from → more ≡ balance old to + sum
    → new ≡ insert (insert old from less) to more → IsTransfer from to sum old new
transferred from to sum less more old new apart had has is =
    subst (IsTransfer from to sum old) (sym is)
    (let last = insert (insert old from less) to more in
    let at_from : balance last from ≡ less =
    ap (λ o. unwrap_or o 0) (get_other (insert old from less) to more from apart ∙ get-insert-here old from less) in
    let at_to : balance last to ≡ more = ap (λ o. unwrap_or o 0) (get-insert-here (insert old from less) to more) in
    record {
      both = omega (arith, at_from, at_to, had, has);
      to_more = at_to ∙ has;
      others = λ k not_from not_to. get_other (insert old from less) to more k not_to ∙ get_other old from less k not_from;
    })

-- If a result that is `Ok` has a value with the property `P`, and `P` implies `Q`, then `OnOk`
-- holds for the result and `Q`.
pub on_ok : {T E Q : Type 0} {P : T → Type 0} (result : Result T E) → ((value : T) → P value → Q) → IfOk result P → OnOk result Q
on_ok (Ok value) follows holds = follows value holds
on_ok (Err e) follows holds = tt

-- The run after these entries; None if it is not defined.
abbrev going : Option AloneRun → List Entry → Option AloneRun
going run es = fold (λ o e. option_and_then (λ r. act r e) o) run es

nothing_goes : (es : List Entry) → IsSome (going None es) → ⊥
nothing_goes [] some = false≢true some
nothing_goes (e ∷ es) some = nothing_goes es some

-- The run after an operation.
abbrev did : AloneRun → Op → AloneRun
did run op = record (with_op (record run { pending = Some op }) op) { pending = None }

tested : (b : Bool) (run : AloneRun) (es : List Entry) → IsSome (going (cond b (Some run) None) es) → (b ≡ true) × (going (cond b (Some run) None) es ≡ going (Some run) es)
tested true run es some = (refl, refl)
tested false run es some = absurd (nothing_goes es some)

-- A run continues with an operation and then with the entries `es`. If the result is defined,
-- `reply` is the operation's reply on the map `run.last`.
replied : (run : AloneRun) (c : ℕ) (op : Op) (reply : Option ℕ) (es : List Entry)
    → IsSome (going (Some run) (Asked c op ∷ Did c reply ∷ es))
    → (reply ≡ reply_of run.last op) × (going (Some run) (Asked c op ∷ Did c reply ∷ es) ≡ going (Some (did run op)) es)
replied run c op reply es some =
    let (is, goes) = tested (option_eq nat_eq reply (reply_of run.last op)) (did run op) es some in
    (same_option reply (reply_of run.last op) is, goes)

-- The replies of the two reads are the values of `m` at the two keys. The reads leave the map
-- unchanged.
read : (m : Map) (c txn from to : ℕ) (had has : Option ℕ) (es : List Entry) → IsSome (alone m (Began c txn ∷ reading c from to had has ++ es))
    → (had ≡ get m from) × (has ≡ get m to) × (alone m (Began c txn ∷ reading c from to had has ++ es) ≡ going (Some (start m)) es)
read m c txn from to had has es some =
    let later : List Entry = Asked c (Get to) ∷ Did c has ∷ es in
    let (first, goes) = replied (start m) c (Get from) had later some in
    let (second, on) = replied (start m) c (Get to) has es (subst IsSome goes some) in
    (first, second, goes ∙ on)

-- If a transfer's entries are run alone and committed, the map changes as `Makes` says.
pub made : (m : Map) (c txn place from to sum : ℕ) (moved : Bool) (had has : Option ℕ) (es : List Entry) → from ≢ to → HasWritten c from to sum moved had has es
    → IsSome (alone m (Began c txn ∷ es ++ Committed c place ∷ [])) → Makes from to sum moved m (map_after m (Began c txn ∷ es ++ Committed c place ∷ []))
made m c txn place from to sum false had has es apart (cannot, es_are) some =
    let end : List Entry = Committed c place ∷ [] in
    let whole : List Entry → List Entry = λ l. Began c txn ∷ l ++ end in
    let (had_is, has_is, goes) = read m c txn from to had has end (subst (λ l. IsSome (alone m (whole l))) es_are some) in (
      ap (λ l. map_after m (whole l)) es_are ∙ ap (last_map m) goes,
      subst (λ o. CannotMove sum (unwrap_or o 0) (balance m to)) had_is (subst (λ o. CannotMove sum (unwrap_or had 0) (unwrap_or o 0)) has_is cannot),
    )
made m c txn place from to sum true had has es apart (less, enough, one, two, es_are) some =
    let end : List Entry = Committed c place ∷ [] in
    let whole : List Entry → List Entry = λ l. Began c txn ∷ l ++ end in
    let more : ℕ = unwrap_or has 0 + sum in
    let last : List Entry = Asked c (Put to more) ∷ Did c two ∷ end in
    let writes : List Entry = Asked c (Put from less) ∷ Did c one ∷ last in
    let some_here : IsSome (alone m (whole (reading c from to had has ++ writing c from to less more one two))) = subst (λ l. IsSome (alone m (whole l))) es_are some in
    let (had_is, has_is, goes) = read m c txn from to had has writes some_here in
    let (_, goes_on) = replied (start m) c (Put from less) one last (subst IsSome goes some_here) in
    let (_, goes_to) = replied (did (start m) (Put from less)) c (Put to more) two end (subst IsSome (goes ∙ goes_on) some_here) in
    let left : map_after m (whole es) ≡ insert (insert m from less) to more = ap (λ l. map_after m (whole l)) es_are ∙ ap (last_map m) (goes ∙ goes_on ∙ goes_to) in
    transferred from to sum less more m (map_after m (whole es)) apart (enough ∙ ap (λ o. unwrap_or o 0) had_is) (ap (λ o. unwrap_or o 0 + sum) has_is) left
