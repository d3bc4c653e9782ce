-- The live map after one more entry of a legal history, for each kind of entry.
use Rattle.std.proofs.Common.{◌≡◌, ℕ, ◌<◌, Bool, true, List, [], ◌∷◌, ◌++◌, None, refl, sym, subst, ◌∙◌, Option}
use Rattle.txn_words.specs.declared.op.Op.{Op}
use Rattle.txn_words.specs.declared.entry.Entry.{Entry}
use Rattle.txn_words.specs.declared.holder.Holder.{Holder}
use Rattle.txn_words.specs.declared.entry.Entry.TheVariants.{Began, Asked, Did, Saved, Leave, Undone, Returned, Committed, Busy, Aborted}
use Rattle.txn_words.specs.Map.{Map}
use Rattle.txn_trace.specs.Locks.{holder_of, is_locked}
use Rattle.txn_trace.specs.Now.{now}
use Rattle.txn_words.specs.Shape.{Stance, is_shaped}
use Rattle.txn_trace.specs.Legal.{IsLegal, replies_hold, broken}
use Rattle.txn_trace.proofs.EntrySteps.{Next}
use Rattle.key_locks.specs.Locks as locks
use Rattle.history_check.specs.declared.live_map.LiveMap.{LiveMap}
use Rattle.history_check.specs.LiveMaps.{Shows, FollowsAt}
use Rattle.history_check.specs.Remainders.{Have}
use Rattle.history_check.proofs.EntryKinds.{broken_by, next-began, next-busy, next-saved, next-leave, next-returned}
use Rattle.history_check.proofs.CallerTable.{stance_there}

module _ {holder : Holder} (stripes : ℕ) (h : List Entry) (legal : IsLegal holder stripes h) (live : LiveMap) (shows : Shows holder stripes h live) (e : Entry) (shaped : is_shaped h e ≡ true) (answered : replies_hold (h ++ e ∷ []) ≡ true) where
  -- If an entry with the right shape and the right reply also keeps the rule of locks, it breaks no
  -- rule.
  pub fine : is_locked holder stripes h e ≡ true → broken holder stripes h e ≡ None
  fine locked = broken_by holder stripes h e true true true shaped answered locked

  -- If a live map has the values and holders that `Next` gives for the entry, it shows the history
  -- with the entry added.
  pub followed : (new : LiveMap) (stance : Stance) (log : List (ℕ × Option ℕ)) (committed current : Map) (held : ℕ → Option ℕ) → is_locked holder stripes h e ≡ true → Next holder stripes h e stance log committed current held
      → new.holder ≡ live.holder → new.stripes ≡ live.stripes → Have current new.values → ((s : ℕ) → s < stripes → locks.holder_of new.locks s ≡ held s) → FollowsAt holder stripes h e true new
  followed new stance log committed current held locked next holder_is stripes_are has holds = record {
    locked = locked;
    shows = λ r. record {
      holder_is = holder_is ∙ shows.holder_is;
      stripes_are = stripes_are ∙ shows.stripes_are;
      values = subst (λ m. Have m new.values) (sym next.now_is) has;
      holders = λ s below. holds s below ∙ sym (next.holder_is s);
    };
  }

  -- After an entry that changes neither the map nor the stripes, the unchanged live map shows the
  -- new history.
  still : (stance : Stance) (log : List (ℕ × Option ℕ)) (committed : Map) (held : ℕ → Option ℕ) → is_locked holder stripes h e ≡ true → Next holder stripes h e stance log committed (now h) held → ((s : ℕ) → s < stripes → locks.holder_of live.locks s ≡ held s) → FollowsAt holder stripes h e true live
  still stance log committed held locked next holds = followed live stance log committed (now h) held locked next refl refl shows.values holds

pub followed_still : {holder : Holder} (stripes : ℕ) (h : List Entry) → IsLegal holder stripes h → (live : LiveMap) → Shows holder stripes h live → (e : Entry) → is_shaped h e ≡ true → replies_hold (h ++ e ∷ []) ≡ true
    → ((c : ℕ) (op : Op) → e ≡ Asked c op → ⊥) → ((c : ℕ) (op : Op) (x : ℕ) → e ≡ Busy c op x → ⊥) → ((c : ℕ) (r : Option ℕ) → e ≡ Did c r → ⊥) → ((c : ℕ) → e ≡ Undone c → ⊥) → ((c p : ℕ) → e ≡ Committed c p → ⊥) → ((c : ℕ) → e ≡ Aborted c → ⊥)
    → FollowsAt holder stripes h e true live
followed_still stripes h legal live shows (Began c t) shaped answered _ _ _ _ _ _ =
    let stance = stance_there h (Began c t) shaped in
    still stripes h legal live shows (Began c t) shaped answered _ _ _ _ refl (next-began stripes h legal c stance.0 stance.1 t (fine stripes h legal live shows (Began c t) shaped answered refl)) shows.holders
followed_still stripes h legal live shows (Saved c) shaped answered _ _ _ _ _ _ =
    let stance = stance_there h (Saved c) shaped in
    still stripes h legal live shows (Saved c) shaped answered _ _ _ _ refl (next-saved stripes h legal c stance.0 stance.1 (fine stripes h legal live shows (Saved c) shaped answered refl)) shows.holders
followed_still stripes h legal live shows (Leave c n) shaped answered _ _ _ _ _ _ =
    let stance = stance_there h (Leave c n) shaped in
    still stripes h legal live shows (Leave c n) shaped answered _ _ _ _ refl (next-leave stripes h legal c stance.0 stance.1 n (fine stripes h legal live shows (Leave c n) shaped answered refl)) shows.holders
followed_still stripes h legal live shows (Returned c n) shaped answered _ _ _ _ _ _ =
    let stance = stance_there h (Returned c n) shaped in
    still stripes h legal live shows (Returned c n) shaped answered _ _ _ _ refl (next-returned stripes h legal c stance.0 stance.1 n (fine stripes h legal live shows (Returned c n) shaped answered refl)) shows.holders
followed_still stripes h legal live shows (Asked c op) shaped answered not_asked _ _ _ _ _ = absurd (not_asked c op refl)
followed_still stripes h legal live shows (Busy c op x) shaped answered _ not_busy _ _ _ _ = absurd (not_busy c op x refl)
followed_still stripes h legal live shows (Did c r) shaped answered _ _ not_did _ _ _ = absurd (not_did c r refl)
followed_still stripes h legal live shows (Undone c) shaped answered _ _ _ not_undone _ _ = absurd (not_undone c refl)
followed_still stripes h legal live shows (Committed c p) shaped answered _ _ _ _ not_committed _ = absurd (not_committed c p refl)
followed_still stripes h legal live shows (Aborted c) shaped answered _ _ _ _ _ not_aborted = absurd (not_aborted c refl)

-- A Busy entry changes neither the map nor the stripes. So `FollowsAt` holds for a live map with
-- the same content.
pub busy_followed : {holder : Holder} (stripes : ℕ) (h : List Entry) (legal : IsLegal holder stripes h) (live : LiveMap) (shows : Shows holder stripes h live) (c : ℕ) (op : Op) (x : ℕ) → is_shaped h (Busy c op x) ≡ true → replies_hold (h ++ Busy c op x ∷ []) ≡ true
    → (right : Bool) (new : LiveMap) → is_locked holder stripes h (Busy c op x) ≡ right → new.holder ≡ live.holder → new.stripes ≡ live.stripes → Have (now h) new.values → ((s : ℕ) → s < stripes → locks.holder_of new.locks s ≡ holder_of stripes s h)
    → FollowsAt holder stripes h (Busy c op x) right new
busy_followed stripes h legal live shows c op x shaped answered right new locked holder_is stripes_are has holds = record {
  locked = locked;
  shows = λ r.
      let e = Busy c op x in
      let stance = stance_there h e shaped in
      let next = next-busy stripes h legal c stance.0 stance.1 op x (fine stripes h legal live shows e shaped answered (locked ∙ r)) in
      (followed stripes h legal live shows e shaped answered new _ _ _ _ _ (locked ∙ r) next holder_is stripes_are has holds).shows refl;
}

pub of_entry : {holder : Holder} {stripes : ℕ} {h : List Entry} {right : Bool} {new : LiveMap} {e kind : Entry} → e ≡ kind → FollowsAt holder stripes h kind right new → FollowsAt holder stripes h e right new
of_entry {holder} {stripes} {h} {right} {new} {e} {kind} is follows = subst (λ f. FollowsAt holder stripes h f right new) (sym is) follows
