-- A step, an entry or an action has few elements, and all of them are plain.
use Rattle.std.proofs.Common.{◌≡◌, ℕ, suc, List, true, false, Some, None, ap}
use Rattle.std.specs.Prelude.{codes}
use Rattle.std.specs.Str.{bytes_eq}
use Rattle.serde_json.specs.Data.{Data}
use Rattle.txn_words.specs.declared.action.Action.{Action}
use Rattle.txn_words.specs.declared.entry.Entry.{Entry}
use Rattle.txn_words.specs.declared.op.Op.{Op}
use Rattle.txn_words.specs.declared.step.Step.{Step}
use Rattle.piece_files.specs.Elements.{number_at, optional_at, leading_text, one_of, two_of, ends_here, optional_of}
use Rattle.piece_files.specs.Tokens.{are_plain}
use Rattle.piece_files.proofs.PlainElements.{bound, chosen, tested, pick, number_first, optional_first, word_first, one_plain, two_plain, none_left, room, end_plain, optional_all_plain, unless}
use Rattle.txn_files.specs.Actions.{action_of}
use Rattle.txn_files.specs.Entries.{busy_of, entry_named, entry_of, transaction_entry}
use Rattle.txn_files.specs.Operations.{op_at, op_of, put_if_at}
use Rattle.txn_files.specs.Steps.{ask_of, step_of}
use Rattle.piece_files.proofs.ValueKinds.{never}

-- ---- operations

put_if_plain : (k key : ℕ) (ds : List Data) (p : Op × List Data) → put_if_at key ds ≡ Some p → are_plain k p.1 ≡ true → are_plain (suc (suc k)) ds ≡ true
unfolding put_if_at
put_if_plain k key ds p e h =
    let expected = bound (optional_at ds) _ p e in
    let v = bound (number_at expected.0.1) _ p expected.2 in
    let left : are_plain k v.0.1 ≡ true = rw (ap (λ (x : Op × List Data). x.1) (ap (pick p) v.2)) h in
    optional_first (suc k) ds expected.0 expected.1 (number_first k expected.0.1 v.0 v.1 left)

op_at_plain : (k : ℕ) (ds : List Data) (p : Op × List Data) → op_at ds ≡ Some p → are_plain k p.1 ≡ true → are_plain (suc (suc (suc (suc k)))) ds ≡ true
unfolding op_at
op_at_plain k ds p e h =
    let name = bound (leading_text ds) _ p e in
    let key = bound (number_at name.0.1) _ p name.2 in
    let left : (q : Op × List Data) → Some q ≡ Some p → are_plain k q.1 ≡ true = λ q same. rw (ap (λ (x : Op × List Data). x.1) (ap (pick p) same)) h in
    let rest : are_plain (suc (suc k)) key.0.1 ≡ true =
    chosen (bytes_eq name.0.0 (codes "put")) _ _ key.2
    (λ put. let v = bound (number_at key.0.1) _ p put in room (suc k) key.0.1 (number_first k key.0.1 v.0 v.1 (left _ v.2)))
    (λ other. chosen (bytes_eq name.0.0 (codes "take")) _ _ other (λ take. room (suc k) key.0.1 (room k key.0.1 (left _ take)))
    (λ further. chosen (bytes_eq name.0.0 (codes "get")) _ _ further (λ get. room (suc k) key.0.1 (room k key.0.1 (left _ get)))
    (λ last. chosen (bytes_eq name.0.0 (codes "put_if")) _ _ last (λ put_if. put_if_plain k key.0.0 key.0.1 p put_if h) never))) in
    word_first (suc (suc (suc k))) ds name.0 name.1 (number_first (suc (suc k)) name.0.1 key.0 key.1 rest)

op_plain : (k : ℕ) (ds : List Data) (op : Op) → op_of ds ≡ Some op → are_plain (suc (suc (suc (suc k)))) ds ≡ true
unfolding op_of
op_plain k ds op e = let a = bound (op_at ds) _ op e in op_at_plain k ds a.0 a.1 (none_left k a.0.1 (tested _ _ a.2))

-- ---- the pieces

step_plain : (ds : List Data) (step : Step) → step_of ds ≡ Some step → are_plain 6 ds ≡ true
unfolding step_of ask_of
step_plain ds step e =
    let name = bound (leading_text ds) _ step e in
    let rest : are_plain 5 name.0.1 ≡ true =
    chosen (bytes_eq name.0.0 (codes "ask")) _ _ name.2
    (λ ask. let c = bound (number_at name.0.1) _ step ask in let op = bound (op_of c.0.1) _ step c.2 in number_first 4 name.0.1 c.0 c.1 (op_plain 0 c.0.1 op.0 op.1))
    (λ r1. chosen (bytes_eq name.0.0 (codes "back")) _ _ r1 (λ back. let p = bound (two_of name.0.1) _ step back in two_plain 3 name.0.1 p.0 p.1)
    (λ r2. chosen (bytes_eq name.0.0 (codes "init_seek")) _ _ r2 (λ seek. let p = bound (two_of name.0.1) _ step seek in two_plain 3 name.0.1 p.0 p.1)
    (λ r3. chosen (bytes_eq name.0.0 (codes "sweep")) _ _ r3 (λ sweep. none_left 5 name.0.1 (tested _ _ sweep))
    (λ numbered. let n = bound (one_of name.0.1) _ step numbered in one_plain 4 name.0.1 n.0 n.1)))) in
    word_first 5 ds name.0 name.1 rest

busy_plain : (c : ℕ) (ds : List Data) (entry : Entry) → busy_of c ds ≡ Some entry → are_plain 5 ds ≡ true
unfolding busy_of
busy_plain c ds entry e =
    let op = bound (op_at ds) _ entry e in
    let x = bound (one_of op.0.1) _ entry op.2 in
    op_at_plain 1 ds op.0 op.1 (one_plain 0 op.0.1 x.0 x.1)

transaction_plain : (name : List ℕ) (c : ℕ) (ds : List Data) (entry : Entry) → transaction_entry name c ds ≡ Some entry → are_plain 5 ds ≡ true
unfolding transaction_entry
transaction_plain name c ds entry e =
    chosen (bytes_eq name (codes "began")) _ _ e (λ h. let a = bound (one_of ds) _ entry h in one_plain 4 ds a.0 a.1)
    (λ r0. chosen (bytes_eq name (codes "saved")) _ _ r0 (λ h. let a = bound (ends_here ds) _ entry h in end_plain 5 ds a.0 a.1)
    (λ r1. chosen (bytes_eq name (codes "leave")) _ _ r1 (λ h. let a = bound (optional_of ds) _ entry h in optional_all_plain 4 ds a.0 a.1)
    (λ r2. chosen (bytes_eq name (codes "returned")) _ _ r2 (λ h. let a = bound (one_of ds) _ entry h in one_plain 4 ds a.0 a.1)
    (λ r3. chosen (bytes_eq name (codes "committed")) _ _ r3 (λ h. let a = bound (one_of ds) _ entry h in one_plain 4 ds a.0 a.1)
    (λ r4. chosen (bytes_eq name (codes "aborted")) _ _ r4 (λ h. let a = bound (ends_here ds) _ entry h in end_plain 5 ds a.0 a.1) never)))))

named_plain : (name : List ℕ) (c : ℕ) (ds : List Data) (entry : Entry) → entry_named name c ds ≡ Some entry → are_plain 5 ds ≡ true
unfolding entry_named
named_plain name c ds entry e =
    chosen (bytes_eq name (codes "asked")) _ _ e (λ h. let a = bound (op_of ds) _ entry h in op_plain 1 ds a.0 a.1)
    (λ r0. chosen (bytes_eq name (codes "busy")) _ _ r0 (λ h. busy_plain c ds entry h)
    (λ r1. chosen (bytes_eq name (codes "did")) _ _ r1 (λ h. let a = bound (optional_of ds) _ entry h in optional_all_plain 4 ds a.0 a.1)
    (λ r2. chosen (bytes_eq name (codes "undone")) _ _ r2 (λ h. let a = bound (ends_here ds) _ entry h in end_plain 5 ds a.0 a.1)
    (transaction_plain name c ds entry))))

entry_plain : (ds : List Data) (entry : Entry) → entry_of ds ≡ Some entry → are_plain 7 ds ≡ true
unfolding entry_of
entry_plain ds entry e =
    let name = bound (leading_text ds) _ entry e in
    let c = bound (number_at name.0.1) _ entry name.2 in
    word_first 6 ds name.0 name.1 (number_first 5 name.0.1 c.0 c.1 (named_plain name.0.0 c.0.0 c.0.1 entry c.2))

action_plain : (ds : List Data) (action : Action) → action_of ds ≡ Some action → are_plain 4 ds ≡ true
unfolding action_of
action_plain ds action e =
    let name = bound (leading_text ds) _ action e in
    chosen (bytes_eq name.0.0 (codes "save")) _ _ name.2 (λ h. let a = bound (ends_here name.0.1) _ action h in word_first 3 ds name.0 name.1 (end_plain 3 name.0.1 a.0 a.1))
    (λ r1. chosen (bytes_eq name.0.0 (codes "back")) _ _ r1 (λ h. let a = bound (one_of name.0.1) _ action h in word_first 3 ds name.0 name.1 (one_plain 2 name.0.1 a.0 a.1))
    (λ r2. chosen (bytes_eq name.0.0 (codes "help")) _ _ r2 (λ h. let a = bound (one_of name.0.1) _ action h in word_first 3 ds name.0 name.1 (one_plain 2 name.0.1 a.0 a.1))
    (λ r3. chosen (bytes_eq name.0.0 (codes "abort")) _ _ r3 (λ h. let a = bound (ends_here name.0.1) _ action h in word_first 3 ds name.0 name.1 (end_plain 3 name.0.1 a.0 a.1))
    (λ h. let a = bound (op_of ds) _ action h in op_plain 0 ds a.0 a.1))))

-- ---- an array with other elements is no step, no entry and no action

pub no_step : (ds : List Data) → are_plain 7 ds ≡ false → step_of ds ≡ None
no_step ds e = unless (step_of ds) (are_plain 7 ds) (λ step is. room 6 ds (step_plain ds step is)) e

pub no_entry : (ds : List Data) → are_plain 7 ds ≡ false → entry_of ds ≡ None
no_entry ds e = unless (entry_of ds) (are_plain 7 ds) (entry_plain ds) e

pub no_action : (ds : List Data) → are_plain 7 ds ≡ false → action_of ds ≡ None
no_action ds e = unless (action_of ds) (are_plain 7 ds) (λ action is. room 6 ds (room 5 ds (room 4 ds (action_plain ds action is)))) e
