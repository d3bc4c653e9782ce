use Rattle.std.proofs.Common.{◌≡◌, ℕ, List, [], ◌∷◌, ◌++◌, length, refl, sym, ap, ◌∙◌, arith, append-nil, length-append}
use mathlib.Core.List.{IsPrefix}
use Rattle.txn_words.specs.declared.entry.Entry.{Entry}
use Rattle.txn_words.specs.Shape.{own}
use Rattle.striped_map.proofs.Hands.{own_same}
use Rattle.striped_map.proofs.AdditionLemmas.{own-append}
use Rattle.striped_map.proofs.law.caught_up.Goals as goal

none_long : (es : List Entry) → length es ≡ 0 → es ≡ []
none_long [] none = refl
none_long (e ∷ es) none = absurd (omega arith)

-- If `one` begins with `second`, `two` begins with `one`, and `two` has the same entries of `b` as
-- `second`, then `one` has the same entries of `b` too.
none_between : (b : ℕ) (second one two : List Entry) → IsPrefix second one → IsPrefix one two → own b two ≡ own b second → own b one ≡ own b second
none_between b second one two begins within same =
    let shards : own b one ≡ own b second ++ own b begins.0 = ap (own b) (sym begins.1) ∙ own-append b second begins.0 in
    let whole : own b two ≡ own b one ++ own b within.0 = ap (own b) (sym within.1) ∙ own-append b one within.0 in
    let few = length-append (own b second) (own b begins.0) in
    let more = length-append (own b one) (own b within.0) in
    let long = ap length shards in
    let longer = ap length whole in
    let equal = ap length same in
    let none : own b begins.0 ≡ [] = none_long (own b begins.0) (omega arith) in
    shards ∙ ap (λ (es : List Entry). own b second ++ es) none ∙ append-nil (own b second)

pub returns : goal.returns
returns c = λ n a b held held' first second one two goes begins also within.
    (own_same n a held first one goes, none_between b second one two begins within (own_same n b held' second two also))
