-- Shows that a transaction runs in the same way on all maps that agree at the keys that it asks
-- for, because it reads and writes no other key.
use Rattle.std.proofs.Common.{◌≡◌, ◌==◌, ℕ, suc, ◌+◌, Bool, true, false, cond, List, [], ◌∷◌, ◌++◌, length, take, refl, ap, sym, subst, ◌∙◌, Some, None, Option, is_some, slice_get}
use Rattle.std.specs.Prelude.{nat_eq}
use Rattle.std.specs.Option.{option_eq, option_and_then}
use Rattle.std.specs.List.{fold}
use Rattle.std.proofs.lemmas.Bool.{false≢true, ne_eqb}
use Rattle.txn_words.specs.declared.op.Op.{Op}
use Rattle.txn_words.specs.declared.op.Op.TheVariants.{Put, Take, Get, PutIf}
use Rattle.txn_words.specs.declared.entry.Entry.{Entry}
use Rattle.txn_words.specs.declared.entry.Entry.TheVariants.{Asked, Did, Saved, Undone, Returned}
use Rattle.txn_words.specs.Map.{Map, get, insert, remove, key_of, reply_of, after, is_change, keys}
use Rattle.txn_trace.specs.Alone.{AloneRun, start, number_of_maps, with_op, act_did, act_undone, act_returned, act, alone}
use Rattle.txn_words.proofs.Maps.{get-insert, get-remove}

-- The maps `a` and `b` agree at each key that passes the test. At every other key, `a` agrees with
-- `m`, and `b` agrees with `n`.
pub record Alike (keys : ℕ → Bool) (m n a b : Map) : Type 0 where
  pub inside : (k : ℕ) → keys k ≡ true → get a k ≡ get b k
  pub left : (k : ℕ) → keys k ≡ false → get a k ≡ get m k
  pub right : (k : ℕ) → keys k ≡ false → get b k ≡ get n k

abbrev pub AllAlike : (ℕ → Bool) → Map → Map → List Map → List Map → Type 0
AllAlike keys m n [] [] = Unit {0}
AllAlike keys m n (a ∷ rs) (b ∷ ss) = Alike keys m n a b × AllAlike keys m n rs ss
AllAlike keys m n [] (b ∷ ss) = ⊥
AllAlike keys m n (a ∷ rs) [] = ⊥

abbrev pub WaitsFor : (ℕ → Bool) → Option Op → Type 0
WaitsFor keys None = Unit {0}
WaitsFor keys (Some op) = keys (key_of op) ≡ true

pub record RunAlike (keys : ℕ → Bool) (m n : Map) (r s : AloneRun) : Type 0 where
  pub last : Alike keys m n r.last s.last
  pub earlier : AllAlike keys m n r.earlier s.earlier
  pub pending : r.pending ≡ s.pending
  pub waits : WaitsFor keys r.pending
  pub notes : r.notes ≡ s.notes

abbrev pub RunsAlike : (ℕ → Bool) → Map → Map → Option AloneRun → Option AloneRun → Type 0
RunsAlike keys m n None None = Unit {0}
RunsAlike keys m n (Some r) (Some s) = RunAlike keys m n r s
RunsAlike keys m n None (Some s) = ⊥
RunsAlike keys m n (Some r) None = ⊥

-- If the entry asks for a key, the key passes the test.
abbrev pub AsksFor : (ℕ → Bool) → Entry → Type 0
AsksFor keys (Asked c op) = keys (key_of op) ≡ true
AsksFor keys _ = Unit {0}

abbrev pub AllAskFor : (ℕ → Bool) → List Entry → Type 0
AllAskFor keys [] = Unit {0}
AllAskFor keys (e ∷ es) = AsksFor keys e × AllAskFor keys es

apart_from : (keys : ℕ → Bool) (k q : ℕ) → keys k ≡ true → keys q ≡ false → (q == k) ≡ false
apart_from keys k q in_keys out = ne_eqb q k (λ same. false≢true (sym out ∙ ap keys same ∙ in_keys))

-- If two maps are `Alike`, they are still `Alike` after the same change at a key that passes the
-- test.
module _ (keys : ℕ → Bool) (m n a b : Map) (alike : Alike keys m n a b) (k : ℕ) (in_keys : keys k ≡ true) where
  insert_alike : (v : ℕ) → Alike keys m n (insert a k v) (insert b k v)
  insert_alike v = record {
    inside = λ q is. get-insert a k v q ∙ ap (cond (q == k) (Some v)) (alike.inside q is) ∙ sym (get-insert b k v q);
    left = λ q out. get-insert a k v q ∙ ap (λ t. cond t (Some v) (get a q)) (apart_from keys k q in_keys out) ∙ alike.left q out;
    right = λ q out. get-insert b k v q ∙ ap (λ t. cond t (Some v) (get b q)) (apart_from keys k q in_keys out) ∙ alike.right q out;
  }

  remove_alike : Alike keys m n (remove a k) (remove b k)
  remove_alike = record {
    inside = λ q is. get-remove a k q ∙ ap (cond (q == k) None) (alike.inside q is) ∙ sym (get-remove b k q);
    left = λ q out. get-remove a k q ∙ ap (λ t. cond t None (get a q)) (apart_from keys k q in_keys out) ∙ alike.left q out;
    right = λ q out. get-remove b k q ∙ ap (λ t. cond t None (get b q)) (apart_from keys k q in_keys out) ∙ alike.right q out;
  }

pub after_alike : (keys : ℕ → Bool) (m n a b : Map) (op : Op) → Alike keys m n a b → keys (key_of op) ≡ true → Alike keys m n (after a op) (after b op)
after_alike keys m n a b (Put k v) alike is = insert_alike keys m n a b alike k is v
after_alike keys m n a b (Take k) alike is = remove_alike keys m n a b alike k is
after_alike keys m n a b (Get k) alike is = alike
after_alike keys m n a b (PutIf k expected v) alike is =
    subst (λ c. Alike keys m n (cond (option_eq nat_eq (get a k) expected) (insert a k v) a) (cond c (insert b k v) b)) (ap (λ o. option_eq nat_eq o expected) (alike.inside k is))
    (elim (option_eq nat_eq (get a k) expected) as (λ c. Alike keys m n (cond c (insert a k v) a) (cond c (insert b k v) b)) [
      | true ↦ insert_alike keys m n a b alike k is v
      | false ↦ alike
    ])

is_change_alike : (keys : ℕ → Bool) (m n a b : Map) (op : Op) → Alike keys m n a b → keys (key_of op) ≡ true → is_change a op ≡ is_change b op
is_change_alike keys m n a b (Put k v) alike is = refl
is_change_alike keys m n a b (Take k) alike is = ap is_some (alike.inside k is)
is_change_alike keys m n a b (Get k) alike is = refl
is_change_alike keys m n a b (PutIf k expected v) alike is = ap (λ o. option_eq nat_eq o expected) (alike.inside k is)

module _ (keys : ℕ → Bool) (m n : Map) where
  add_alike : (r s : AloneRun) (op : Op) → RunAlike keys m n r s → keys (key_of op) ≡ true → RunAlike keys m n (record (with_op r op) { pending = None }) (record (with_op s op) { pending = None })
  add_alike r s op alike is =
      let P : Bool → Bool → Type 0 = λ x y. RunAlike keys m n
      (record (cond x (record r { last = after r.last op; earlier = r.last ∷ r.earlier }) r) { pending = None })
      (record (cond y (record s { last = after s.last op; earlier = s.last ∷ s.earlier }) s) { pending = None }) in
      subst (P (is_change r.last op)) (is_change_alike keys m n r.last s.last op alike.last is)
      (elim (is_change r.last op) as (λ x. P x x) [
        | true ↦ record { last = after_alike keys m n r.last s.last op alike.last is; earlier = (alike.last, alike.earlier); pending = refl; waits = tt; notes = alike.notes }
        | false ↦ record { last = alike.last; earlier = alike.earlier; pending = refl; waits = tt; notes = alike.notes }
      ])

  did_alike : (r s : AloneRun) (x : Option ℕ) (p : Option Op) → RunAlike keys m n r s → WaitsFor keys p → RunsAlike keys m n (act_did r p x) (act_did s p x)
  did_alike r s x None alike is = tt
  did_alike r s x (Some op) alike is =
      let P : Bool → Bool → Type 0 = λ t u. RunsAlike keys m n (cond t (Some (record (with_op r op) { pending = None })) None) (cond u (Some (record (with_op s op) { pending = None })) None) in
      subst (P (option_eq nat_eq x (reply_of r.last op))) (ap (option_eq nat_eq x) (alike.last.inside (key_of op) is))
      (elim (option_eq nat_eq x (reply_of r.last op)) as (λ t. P t t) [ true ↦ add_alike r s op alike is | false ↦ tt ])

  undone_alike : (r s : AloneRun) (rs ss : List Map) → RunAlike keys m n r s → AllAlike keys m n rs ss → RunsAlike keys m n (act_undone r rs) (act_undone s ss)
  undone_alike r s [] [] alike is = tt
  undone_alike r s [] (b ∷ ss) alike is = is
  undone_alike r s (a ∷ rs) [] alike is = is
  undone_alike r s (a ∷ rs) (b ∷ ss) alike is = record { last = is.0; earlier = is.1; pending = alike.pending; waits = alike.waits; notes = alike.notes }

  length_alike : (rs ss : List Map) → AllAlike keys m n rs ss → length rs ≡ length ss
  length_alike [] [] is = refl
  length_alike [] (b ∷ ss) is = absurd is
  length_alike (a ∷ rs) [] is = absurd is
  length_alike (a ∷ rs) (b ∷ ss) is = ap suc (length_alike rs ss is.1)

  number_alike : (r s : AloneRun) → RunAlike keys m n r s → number_of_maps r ≡ number_of_maps s
  number_alike r s alike = ap (λ k. k + 1) (length_alike r.earlier s.earlier alike.earlier)

  returned_alike : (r s : AloneRun) (k : ℕ) → RunAlike keys m n r s → RunsAlike keys m n (act_returned r k) (act_returned s k)
  returned_alike r s k alike =
      let P : Bool → Bool → Type 0 = λ t u. RunsAlike keys m n (cond t (Some (record r { notes = take (k + 1) r.notes })) None) (cond u (Some (record s { notes = take (k + 1) s.notes })) None) in
      let same : option_eq nat_eq (slice_get r.notes k) (Some (number_of_maps r)) ≡ option_eq nat_eq (slice_get s.notes k) (Some (number_of_maps s)) =
      ap (λ l. option_eq nat_eq (slice_get l k) (Some (number_of_maps r))) alike.notes ∙ ap (λ x. option_eq nat_eq (slice_get s.notes k) (Some x)) (number_alike r s alike) in
      subst (P (option_eq nat_eq (slice_get r.notes k) (Some (number_of_maps r)))) same
      (elim (option_eq nat_eq (slice_get r.notes k) (Some (number_of_maps r))) as (λ t. P t t) [
        | true ↦ record { last = alike.last; earlier = alike.earlier; pending = alike.pending; waits = alike.waits; notes = ap (take (k + 1)) alike.notes }
        | false ↦ tt
      ])

  act_alike : (e : Entry) (r s : AloneRun) → AsksFor keys e → RunAlike keys m n r s → RunsAlike keys m n (act r e) (act s e)
  act_alike (Asked c op) r s is alike = record { last = alike.last; earlier = alike.earlier; pending = refl; waits = is; notes = alike.notes }
  act_alike (Did c x) r s is alike =
      subst (λ p. RunsAlike keys m n (act_did r r.pending x) (act_did s p x)) alike.pending (did_alike r s x r.pending alike alike.waits)
  act_alike (Undone c) r s is alike = undone_alike r s r.earlier s.earlier alike alike.earlier
  act_alike (Saved c) r s is alike = record {
    last = alike.last;
    earlier = alike.earlier;
    pending = alike.pending;
    waits = alike.waits;
    notes = ap (λ l. l ++ number_of_maps r ∷ []) alike.notes ∙ ap (λ k. s.notes ++ k ∷ []) (number_alike r s alike);
  }
  act_alike (Returned c k) r s is alike = returned_alike r s k alike
  act_alike _ r s is alike = alike

  fold_alike : (es : List Entry) (r s : Option AloneRun) → AllAskFor keys es → RunsAlike keys m n r s
      → RunsAlike keys m n (fold (λ run e. option_and_then (λ r. act r e) run) r es) (fold (λ run e. option_and_then (λ r. act r e) run) s es)
  fold_alike [] r s asks alike = alike
  fold_alike (e ∷ es) None None asks alike = fold_alike es None None asks.1 tt
  fold_alike (e ∷ es) None (Some s) asks alike = absurd alike
  fold_alike (e ∷ es) (Some r) None asks alike = absurd alike
  fold_alike (e ∷ es) (Some r) (Some s) asks alike = fold_alike es (act r e) (act s e) asks.1 (act_alike e r s asks.0 alike)

  -- If two maps agree at the keys that the entries ask for, the entries run alike on both maps.
  pub alone_alike : (es : List Entry) → AllAskFor keys es → ((k : ℕ) → keys k ≡ true → get m k ≡ get n k) → RunsAlike keys m n (alone m es) (alone n es)
  alone_alike es asks same = fold_alike es (Some (start m)) (Some (start n)) asks
      (record { last = record { inside = same; left = λ k out. refl; right = λ k out. refl }; earlier = tt; pending = refl; waits = tt; notes = refl })
