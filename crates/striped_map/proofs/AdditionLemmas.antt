-- Shows that a caller may add its entries to any history that goes on from what it has seen
-- (`MayAdd`), because nobody else has asked for a key of its stripes.
use Rattle.std.proofs.Common.{is_some, ◌≡◌, ◌≢◌, ℕ, ◌+◌, ◌-◌, ◌<◌, ◌==◌, ◌⊎◌, Bool, true, false, cond, List, [], ◌∷◌, ◌++◌, Option, Some, None, refl, sym, ap, subst, ◌∙◌, inl, inr, ⊎_elim, arith, append_assoc, append-nil, eqb-true, eq-eqb, ne_eqb, length, length-append, slice_index, take, mod-lt}
use Rattle.std.specs.Option.{option_eq}
use Rattle.std.specs.Prelude.{nat_eq, not, ◌&&◌}
use Rattle.std.specs.List.{AllByRecursion, filter}
use Rattle.std.proofs.lemmas.Bool.{and_from, or_left}
use Rattle.std.proofs.lemmas.List.Folds.{list_any-append}
use Rattle.std.proofs.lemmas.List.Elements.{filter-append}
use Rattle.std.proofs.lemmas.Option.{none-some}
use Rattle.txn_words.specs.declared.entry.Entry.{Entry}
use Rattle.txn_words.specs.declared.entry.Entry.TheVariants.{Began, Asked, Did, Saved, Leave, Undone, Returned, Committed, Busy, Aborted}
use Rattle.txn_words.specs.declared.holder.Holder.TheVariants.{Begun}
use Rattle.txn_words.specs.declared.op.Op.{Op}
use Rattle.txn_words.specs.declared.stance.Phase.TheVariants.{Closed, Opened, Waiting, LeavingTo, LeavingToEnd}
use Rattle.txn_words.specs.Kinds.{caller_of, is_began, is_commit}
use Rattle.txn_words.specs.Map.{Map, get, key_of, reply_of, after, set_at}
use Rattle.txn_trace.specs.Now.{now}
use Rattle.txn_trace.specs.Locks.{asks_in, stripe_of, holder_of, has_begun, is_locked}
use Rattle.txn_trace.specs.Serial.{serial}
use Rattle.txn_words.specs.Shape.{Stance, changes, row, stance_after, own, how_many}
use Rattle.txn_trace.specs.Legal.{IsLegal, runs, is_running}
use Rattle.txn_trace.specs.Log.{log_after, log_of, rolled_back}
use Rattle.txn_trace.proofs.Pushes.{how_many-push}
use Rattle.txn_trace.proofs.Callers.{not_equal}
use Rattle.txn_words.proofs.Effects.{get-after_other, get-after_same}
use Rattle.txn_trace.proofs.Holders.{is_locked-asked}
use Rattle.txn_trace.proofs.Naming.{txn_begun}
use Rattle.txn_trace.proofs.EntrySteps.{Next, in_txn}
use Rattle.txn_trace.proofs.Entries.{asked, began, did, saved, left_to, left_to_end, busy, committed, returned, undone_to, undone_to_end, aborted, length-log_of}
use Rattle.txn_trace.proofs.HeldStripes.{log_held}
use Rattle.txn_words.proofs.Maps.{get-set_at}
use Rattle.striped_map.specs.declared.view.View.{View}
use Rattle.striped_map.specs.Rule.{Holds, HasSeen}
use Rattle.striped_map.specs.Steps.{StateAfter, at_begin, at_end, undoing, noting, saving, returning}
use Rattle.striped_map.specs.Adding.{Grows, GoesOnFrom, Lands, MayAdd}

abbrev pub Job : Type 0
Job = ℕ × Option ℕ

pub own-append : (d : ℕ) (es fs : List Entry) → own d (es ++ fs) ≡ own d es ++ own d fs
own-append d es fs = filter-append (λ e. caller_of e == d) es fs

pub own-none : (d : ℕ) (es fs : List Entry) → own d es ≡ [] → own d fs ≡ [] → own d (es ++ fs) ≡ []
own-none d es fs a b = own-append d es fs ∙ ap (λ (l : List Entry). l ++ own d fs) a ∙ b

-- If neither of two lists has an entry that passes a test, the two lists in a row have none.
pub asks_none : (test : Entry → Bool) (es fs : List Entry) → filter test es ≡ [] → filter test fs ≡ [] → filter test (es ++ fs) ≡ []
asks_none test es fs a b = filter-append test es fs ∙ ap (λ (l : List Entry). l ++ filter test fs) a ∙ b

grows_one : (n : ℕ) (P : ℕ → Type 0) (g : List Entry) (e : Entry) (stance : Stance) (jobs : List Job) (serial current : Map) (held : ℕ → Option ℕ)
    → Next Begun n g e stance jobs serial current held
    → ((k d : ℕ) → held k ≡ Some d → (holder_of n k g ≡ Some d) ⊎ ((d ≡ caller_of e) × P k))
    → ((q : ℕ) → (P (stripe_of n q) → ⊥) → get current q ≡ get (now g) q)
    → ((k : ℕ) → (P k → ⊥) → filter (asks_in n k) (e ∷ []) ≡ [])
    → Grows n (caller_of e) P (cond (is_commit e) 1 0) g (e ∷ [])
grows_one n P g e stance jobs serial current held next from still asks = record {
  legal = next.legal;
  others = λ d other. ap (λ b. cond b (e ∷ []) []) (not_equal d (caller_of e) other);
  commits = how_many-push is_commit g e;
  holders = λ k d is. from k d (sym (next.holder_is k) ∙ is);
  still = λ q apart. ap (λ (m : Map). get m q) next.now_is ∙ still q apart;
  asks = asks;
}

grows_both : (n c : ℕ) (P : ℕ → Type 0) (m k : ℕ) (g es fs : List Entry) → Grows n c P m g es → Grows n c P k (g ++ es) fs → Grows n c P (m + k) g (es ++ fs)
grows_both n c P m k g es fs a b = let is : (g ++ es) ++ fs ≡ g ++ (es ++ fs) = append_assoc g es fs in record {
  legal = subst (IsLegal Begun n) is b.legal;
  others = λ d other. own-none d es fs (a.others d other) (b.others d other);
  commits = ap (how_many is_commit) (sym is) ∙ b.commits ∙ ap (λ (x : ℕ). x + k) a.commits ∙ (omega arith);
  holders = λ s d h. ⊎_elim (λ (x : holder_of n s (g ++ es) ≡ Some d). a.holders s d x) (λ (x : (d ≡ c) × P s). inr x) (b.holders s d (ap (λ (l : List Entry). holder_of n s l) is ∙ h));
  still = λ q apart. ap (λ (l : List Entry). get (now l) q) (sym is) ∙ b.still q apart ∙ a.still q apart;
  asks = λ k apart. asks_none (asks_in n k) es fs (a.asks k apart) (b.asks k apart);
}

-- If a history is legal, `Grows` holds for it with no new entries.
pub grows_none : (n c : ℕ) (P : ℕ → Type 0) (g : List Entry) → IsLegal Begun n g → Grows n c P 0 g []
grows_none n c P g legal = let is : g ++ [] ≡ g = append-nil g in record {
  legal = subst (IsLegal Begun n) (sym is) legal;
  others = λ d other. refl;
  commits = ap (how_many is_commit) is ∙ (omega arith);
  holders = λ k d h. inl (ap (λ (l : List Entry). holder_of n k l) (sym is) ∙ h);
  still = λ q apart. ap (λ (l : List Entry). get (now l) q) is;
  asks = λ k apart. refl;
}

lands_one : (n : ℕ) (P : ℕ → Type 0) (g : List Entry) (e : Entry) (stance : Stance) (jobs : List Job) (serial current : Map) (held : ℕ → Option ℕ)
    → Next Begun n g e stance jobs serial current held
    → ((k d : ℕ) → held k ≡ Some d → (holder_of n k g ≡ Some d) ⊎ ((d ≡ caller_of e) × P k))
    → ((q : ℕ) → (P (stripe_of n q) → ⊥) → get current q ≡ get (now g) q)
    → ((k : ℕ) → (P k → ⊥) → filter (asks_in n k) (e ∷ []) ≡ [])
    → Lands n (caller_of e) P (cond (is_commit e) 1 0) g (e ∷ []) (record { stance = stance; log = jobs; map = current })
lands_one n P g e stance jobs serial current held next from still asks = record {
  grows = grows_one n P g e stance jobs serial current held next from still asks;
  stance_is = next.stance_is;
  log_is = next.log_is;
  have = λ q hold. ap (λ (m : Map). get m q) next.now_is;
}

lands_both : (n c : ℕ) (P : ℕ → Type 0) (m k : ℕ) (g es fs : List Entry) (left : StateAfter) → Grows n c P m g es → Lands n c P k (g ++ es) fs left → Lands n c P (m + k) g (es ++ fs) left
lands_both n c P m k g es fs left a b = let is : (g ++ es) ++ fs ≡ g ++ (es ++ fs) = append_assoc g es fs in record {
  grows = grows_both n c P m k g es fs a b.grows;
  stance_is = ap (λ (l : List Entry). stance_after (own c l)) (sym is) ∙ b.stance_is;
  log_is = ap (log_of c) (sym is) ∙ b.log_is;
  have = λ q hold. ap (λ (l : List Entry). get (now l) q) (sym is) ∙ b.have q hold;
}

lands_as : (n c : ℕ) (P : ℕ → Type 0) (m : ℕ) (g es : List Entry) (left : StateAfter) (jobs : List Job) (stance : Stance) (map : Map) → Lands n c P m g es left → left.stance ≡ stance → left.log ≡ jobs
    → ((q : ℕ) → P (stripe_of n q) → get left.map q ≡ get map q) → Lands n c P m g es (record { stance = stance; log = jobs; map = map })
lands_as n c P m g es left jobs stance map l stance_is log_is same = record {
  grows = l.grows;
  stance_is = l.stance_is ∙ ap (λ (s : Stance). Some s) stance_is;
  log_is = l.log_is ∙ log_is;
  have = λ q hold. l.have q hold ∙ same q hold;
}

some_cond : (b : Bool) (o : Option ℕ) (c d : ℕ) (P : Type 0) → (b ≡ true → P) → cond b (Some c) o ≡ Some d → (o ≡ Some d) ⊎ ((d ≡ c) × P)
some_cond true o c d P holds is = inr (cc, holds refl)
some_cond false o c d P holds is = inl is

none_cond : (b : Bool) (o : Option ℕ) (d : ℕ) → cond b None o ≡ Some d → o ≡ Some d
none_cond true o d is = absurd (let no : None ≡ Some d = is in none-some d no)
none_cond false o d is = is

-- If no other caller holds the stripe of an operation, a caller may ask for the operation.
may_ask : (n : ℕ) (g : List Entry) → IsLegal Begun n g → (c : ℕ) (op : Op) → ((d : ℕ) → holder_of n (stripe_of n (key_of op)) g ≡ Some d → d ≡ c) → is_locked Begun n g (Asked c op) ≡ true
may_ask n g legal c op only = is_locked-asked Begun n g c op legal.shape legal.locks ∙ at (holder_of n (stripe_of n (key_of op)) g) only
  where
    at : (o : Option ℕ) → ((d : ℕ) → o ≡ Some d → d ≡ c) → elim o [ None ↦ true | Some d ↦ d == c ] ≡ true
    at None only = refl
    at (Some d) only = eq-eqb d c (only d refl)

notes : (n : ℕ) (P : ℕ → Type 0) (g : List Entry) → IsLegal Begun n g → (c : ℕ) (op : Op) (reply : Option ℕ) (stance : Stance) → stance_after (own c g) ≡ Some stance → stance.phase ≡ Opened
    → is_locked Begun n g (Asked c op) ≡ true → P (stripe_of n (key_of op)) → reply ≡ reply_of (now g) op
    → Lands n c P 0 g (Asked c op ∷ Did c reply ∷ []) (record { stance = record stance { phase = Opened; standing = cond (changes op reply) (stance.standing + 1) stance.standing }; log = cond (changes op reply) ((key_of op, reply) ∷ log_of c g) (log_of c g); map = after (now g) op })
notes n P g legal c op reply stance stance_is opened free mine right =
    let a : Entry = Asked c op in let e : Entry = Did c reply in
    let one = asked n g legal c op stance stance_is opened free in
    let waits : Stance = record stance { phase = Waiting op } in
    let two = did n (g ++ a ∷ []) one.legal c op reply waits one.stance_is refl (right ∙ ap (λ (m : Map). reply_of m op) (sym one.now_is)) in
    let lands = lands_both n c P 0 0 g (a ∷ []) (e ∷ []) _
    (grows_one n P g a _ _ _ _ _ one (λ k d h. some_cond (stripe_of n (key_of op) == k) (holder_of n k g) c d (P k) (λ t. subst P (eqb-true (stripe_of n (key_of op)) k t) mine) h) (λ q no. refl)
    (λ k no. ap (λ b. cond b (a ∷ []) []) (ne_eqb (stripe_of n (key_of op)) k (λ same. no (subst P same mine)))))
    (lands_one n P (g ++ a ∷ []) e _ _ _ _ _ two (λ k d h. inl h) (λ q no. get-after_other (now (g ++ a ∷ [])) op q (λ same. no (subst (λ (x : ℕ). P (stripe_of n x)) (sym same) mine))) (λ k no. refl)) in
    lands_as n c P 0 g (a ∷ e ∷ []) _ _ _ _ lands refl (ap (λ (l : List Job). cond (changes op reply) ((key_of op, reply) ∷ l) l) one.log_is) (λ q hold. ap (λ (m : Map). get (after m op) q) one.now_is)

-- If a caller is in no transaction, `Lands` holds for the entry that begins one.
pub begins : (n : ℕ) (P : ℕ → Type 0) (g : List Entry) → IsLegal Begun n g → (c : ℕ) (stance : Stance) → stance_after (own c g) ≡ Some stance → stance.phase ≡ Closed
    → Lands n c P 0 g (Began c (how_many is_began g + 1) ∷ []) (at_begin g)
begins n P g legal c stance stance_is closed =
    let next = began n g legal c (how_many is_began g + 1) stance stance_is closed refl in
    lands_one n P g (Began c (how_many is_began g + 1)) _ _ _ _ _ next (λ k d h. inl h) (λ q no. refl) (λ k no. refl)

pub commits : (n : ℕ) (P : ℕ → Type 0) (g : List Entry) → IsLegal Begun n g → (c : ℕ) (stance : Stance) → stance_after (own c g) ≡ Some stance → stance.phase ≡ Opened
    → Lands n c P 1 g (Committed c (how_many is_commit g + 1) ∷ []) (at_end (now g))
commits n P g legal c stance stance_is opened =
    let next = committed n g legal c (how_many is_commit g + 1) stance stance_is opened refl in
    lands_one n P g (Committed c (how_many is_commit g + 1)) _ _ _ _ _ next (λ k d h. inl (none_cond (option_eq nat_eq (holder_of n k g) (Some c)) (holder_of n k g) d h)) (λ q no. refl) (λ k no. refl)

-- If two maps have the same value at a key, they still have the same value there after the same
-- changes are taken back in both.
pub undone_same : (q : ℕ) (jobs : List Job) (a b : Map) → get a q ≡ get b q → get (rolled_back a jobs) q ≡ get (rolled_back b jobs) q
undone_same q [] a b same = same
undone_same q (job ∷ jobs) a b same = undone_same q jobs (set_at a job.0 job.1) (set_at b job.0 job.1)
    (get-set_at a job.0 job.1 q ∙ ap (λ (o : Option ℕ). cond (q == job.0) job.1 o) same ∙ sym (get-set_at b job.0 job.1 q))

undoes_one : (n : ℕ) (P : ℕ → Type 0) (c : ℕ) (job : Job) (g : List Entry) (stance : Stance) (jobs : List Job) (serial : Map) (held : ℕ → Option ℕ)
    → Next Begun n g (Undone c) stance jobs serial (set_at (now g) job.0 job.1) (λ s. holder_of n s g) → P (stripe_of n job.0) → Grows n c P 0 g (Undone c ∷ [])
undoes_one n P c job g stance jobs serial held next mine =
    grows_one n P g (Undone c) _ _ _ _ _ next (λ k d h. inl h)
    (λ q no. get-set_at (now g) job.0 job.1 q ∙ ap (λ b. cond b job.1 (get (now g) q)) (ne_eqb q job.0 (λ same. no (subst (λ (x : ℕ). P (stripe_of n x)) (sym same) mine)))) (λ k no. refl)

undoes_to_end : (n : ℕ) (P : ℕ → Type 0) (c : ℕ) (jobs : List Job) (g : List Entry) → IsLegal Begun n g → (stance : Stance) → stance_after (own c g) ≡ Some stance → stance.phase ≡ LeavingToEnd → log_of c g ≡ jobs
    → AllByRecursion (λ (job : Job). P (stripe_of n job.0)) jobs → Lands n c P 0 g (undoing c jobs (Aborted c)) (at_end (rolled_back (now g) jobs))
undoes_to_end n P c [] g legal stance stance_is leaving log_is mine =
    let none : stance.standing ≡ 0 = sym (length-log_of g c stance stance_is) ∙ ap length log_is in
    let next = aborted n g legal c stance stance_is leaving none in
    lands_one n P g (Aborted c) _ _ _ _ _ next (λ k d h. inl (none_cond (option_eq nat_eq (holder_of n k g) (Some c)) (holder_of n k g) d h)) (λ q no. refl) (λ k no. refl)
undoes_to_end n P c (job ∷ jobs) g legal stance stance_is leaving log_is mine =
    let long : stance.standing ≡ length (job ∷ jobs) = sym (length-log_of g c stance stance_is) ∙ ap length log_is in
    let next = undone_to_end n g legal c stance stance_is leaving (omega arith) job jobs log_is in
    let more = undoes_to_end n P c jobs (g ++ Undone c ∷ []) next.legal (record stance { standing = stance.standing - 1 }) next.stance_is leaving next.log_is mine.1 in
    lands_as n c P 0 g (undoing c (job ∷ jobs) (Aborted c)) _ _ _ _
    (lands_both n c P 0 0 g (Undone c ∷ []) (undoing c jobs (Aborted c)) _ (undoes_one n P c job g _ _ _ (λ s. holder_of n s g) next mine.0) more) refl refl (λ q hold. ap (λ (m : Map). get (rolled_back m jobs) q) next.now_is)

undoes_to_level : (n : ℕ) (P : ℕ → Type 0) (c level : ℕ) (jobs kept : List Job) (g : List Entry) → IsLegal Begun n g → (stance : Stance) → stance_after (own c g) ≡ Some stance → stance.phase ≡ LeavingTo level → log_of c g ≡ jobs ++ kept
    → slice_index stance.kept level ≡ length kept → AllByRecursion (λ (job : Job). P (stripe_of n job.0)) jobs
    → Lands n c P 0 g (undoing c jobs (Returned c level)) (record { stance = record { phase = Opened; standing = length kept; kept = take (level + 1) stance.kept }; log = kept; map = rolled_back (now g) jobs })
undoes_to_level n P c level [] kept g legal stance stance_is leaving log_is at mine =
    let many : stance.standing ≡ length kept = sym (length-log_of g c stance stance_is) ∙ ap length log_is in
    let next = returned n g legal c level stance stance_is leaving (at ∙ sym many) in
    lands_as n c P 0 g (Returned c level ∷ []) _ _ _ _ (lands_one n P g (Returned c level) _ _ _ _ _ next (λ k d h. inl h) (λ q no. refl) (λ k no. refl))
    (ap (λ (x : ℕ). let s : Stance = record { phase = Opened; standing = x; kept = take (level + 1) stance.kept } in s) many) log_is (λ q hold. refl)
undoes_to_level n P c level (job ∷ jobs) kept g legal stance stance_is leaving log_is at mine =
    let long : stance.standing ≡ length (job ∷ jobs ++ kept) = sym (length-log_of g c stance stance_is) ∙ ap length log_is in
    let sum : length (jobs ++ kept) ≡ length jobs + length kept = length-append jobs kept in
    let next = undone_to n g legal c level stance stance_is leaving (omega arith) job (jobs ++ kept) log_is in
    let more = undoes_to_level n P c level jobs kept (g ++ Undone c ∷ []) next.legal (record stance { standing = stance.standing - 1 }) next.stance_is leaving next.log_is at mine.1 in
    lands_as n c P 0 g (undoing c (job ∷ jobs) (Returned c level)) _ _ _ _
    (lands_both n c P 0 0 g (Undone c ∷ []) (undoing c jobs (Returned c level)) _ (undoes_one n P c job g _ _ _ (λ s. holder_of n s g) next mine.0) more) refl refl (λ q hold. ap (λ (m : Map). get (rolled_back m jobs) q) next.now_is)

held_pass : (n : ℕ) (P : ℕ → Type 0) (c : ℕ) (g : List Entry) → ((key : ℕ) → holder_of n (stripe_of n key) g ≡ Some c → P (stripe_of n key)) → (jobs : List Job) → AllByRecursion (λ (job : Job). holder_of n (stripe_of n job.0) g ≡ Some c) jobs
    → AllByRecursion (λ (job : Job). P (stripe_of n job.0)) jobs
held_pass n P c g to [] all = tt
held_pass n P c g to (job ∷ jobs) all = (to job.0 all.0, held_pass n P c g to jobs all.1)

first_pass : (Q : Job → Type 0) (jobs kept : List Job) → AllByRecursion Q (jobs ++ kept) → AllByRecursion Q jobs
first_pass Q [] kept all = tt
first_pass Q (job ∷ jobs) kept all = (all.0, first_pass Q jobs kept all.1)

-- If a seat acts, it has seen all entries that it added to the history.
pub own_seen : (n : ℕ) (log : List Entry) (v : View) → HasSeen n log v → v.acts ≡ true → own v.number log ≡ own v.number v.seen
own_seen n log v h acting = ap (own v.number) h.goes ∙ own-append v.number v.seen h.rest ∙ ap (λ (l : List Entry). own v.number v.seen ++ l) (h.others acting) ∙ append-nil (own v.number v.seen)

-- If a caller has begun a transaction in a history, it has also begun one in the history with more
-- entries.
pub begun_on : (c : ℕ) (log es : List Entry) → has_begun c log ≡ true → has_begun c (log ++ es) ≡ true
begun_on c log es is = list_any-append (λ e. is_began e && caller_of e == c) log es ∙ or_left (has_begun c log) (has_begun c es) is

-- If a caller is in a transaction after a legal history, the history has a Began entry of this
-- caller.
pub open_begun : (n c : ℕ) (g : List Entry) → IsLegal Begun n g → (stance : Stance) → stance_after (own c g) ≡ Some stance → stance.phase ≡ Opened → has_begun c g ≡ true
open_begun n c g legal stance stance_is opened =
    txn_begun c g legal.shape (ap is_some (in_txn n g legal (Saved c) stance (record stance { kept = stance.kept ++ stance.standing ∷ [] }) stance_is (ap (λ q. row stance q (Saved c)) opened) refl (ap runs opened)))

-- The entries that a caller in a transaction may add, given what it has seen.
module _ (n : ℕ) (v : View) (acting : v.acts ≡ true) (stance : Stance) (stance_is : stance_after (own v.number v.seen) ≡ Some stance) (opened : stance.phase ≡ Opened) where
  stance_on : (log : List Entry) → GoesOnFrom n v log → stance_after (own v.number log) ≡ Some stance
  stance_on log on = ap stance_after (own_seen n log v on.seen acting) ∙ stance_is

  log_on : (log : List Entry) → GoesOnFrom n v log → log_of v.number log ≡ log_of v.number v.seen
  log_on log on = ap (λ (es : List Entry). (log_after es).standing) (own_seen n log v on.seen acting)

  all_mine : 0 < n → (log : List Entry) (on : GoesOnFrom n v log) → AllByRecursion (λ (job : Job). Holds v (stripe_of n job.0)) (log_of v.number v.seen)
  all_mine some log on = subst (AllByRecursion (λ (job : Job). Holds v (stripe_of n job.0))) (log_on log on)
      (held_pass n (Holds v) v.number log (λ key hd. on.mine (stripe_of n key) (mod-lt key some) hd) (log_of v.number log) (log_held n log on.legal v.number (ap is_running (stance_on log on) ∙ ap runs opened)))

  pub may_note : (op : Op) (reply : Option ℕ) → Holds v (stripe_of n (key_of op)) → reply ≡ reply_of (now v.seen) op
      → MayAdd n v (Asked v.number op ∷ Did v.number reply ∷ []) (noting v stance op reply)
  may_note op reply mine right log on =
      let free = may_ask n log on.legal v.number op (λ d hd. on.own_only (stripe_of n (key_of op)) d mine hd) in
      lands_as n v.number (Holds v) 0 log _ _ _ _ _ (notes n (Holds v) log on.legal v.number op reply stance (stance_on log on) opened free mine (right ∙ sym (on.seen.still (key_of op) mine))) refl
      (ap (λ (l : List Job). cond (changes op reply) ((key_of op, reply) ∷ l) l) (log_on log on))
      (λ q hold. get-after_same (now log) (now v.seen) op q (on.seen.still q hold) (on.seen.still (key_of op) mine))

  pub may_save : MayAdd n v (Saved v.number ∷ []) (saving v stance)
  may_save log on =
      let next = saved n log on.legal v.number stance (stance_on log on) opened in
      lands_as n v.number (Holds v) 0 log _ _ _ _ _ (lands_one n (Holds v) log (Saved v.number) _ _ _ _ _ next (λ k d h. inl h) (λ q no. refl) (λ k no. refl)) refl (log_on log on) on.seen.still

  -- If an entry `first` makes the caller begin an abort (phase `LeavingToEnd`), the caller may add
  -- `first` and then the entries that take all its changes back.
  leaves : 0 < n → (first : Entry) → caller_of first ≡ v.number → is_commit first ≡ false → ((k : ℕ) → filter (asks_in n k) (first ∷ []) ≡ [])
      → ((log : List Entry) → GoesOnFrom n v log → Next Begun n log first (record stance { phase = LeavingToEnd }) (log_of v.number log) (serial log) (now log) (λ s. holder_of n s log))
      → MayAdd n v (first ∷ undoing v.number (log_of v.number v.seen) (Aborted v.number)) (at_end (rolled_back (now v.seen) (log_of v.number v.seen)))
  leaves some first is quiet asks next log on =
      let c : ℕ = v.number in let jobs : List Job = log_of c v.seen in let one = next log on in
      let goes = grows_one n (Holds v) log first _ _ _ _ _ one (λ k d h. inl h) (λ q no. refl) (λ k no. asks k) in
      let goes' : Grows n c (Holds v) 0 log (first ∷ []) = subst (λ (x : ℕ). Grows n x (Holds v) 0 log (first ∷ [])) is (subst (λ b. Grows n (caller_of first) (Holds v) (cond b 1 0) log (first ∷ [])) quiet goes) in
      let stance' : stance_after (own c (log ++ first ∷ [])) ≡ Some (record stance { phase = LeavingToEnd }) = subst (λ (x : ℕ). stance_after (own x (log ++ first ∷ [])) ≡ Some (record stance { phase = LeavingToEnd })) is one.stance_is in
      let log' : log_of c (log ++ first ∷ []) ≡ jobs = subst (λ (x : ℕ). log_of x (log ++ first ∷ []) ≡ log_of c log) is one.log_is ∙ log_on log on in
      let more = undoes_to_end n (Holds v) c jobs (log ++ first ∷ []) one.legal (record stance { phase = LeavingToEnd }) stance' refl log' (all_mine some log on) in
      lands_as n c (Holds v) 0 log _ _ _ _ _ (lands_both n c (Holds v) 0 0 log (first ∷ []) (undoing c jobs (Aborted c)) _ goes' more) refl refl
      (λ q hold. undone_same q jobs (now (log ++ first ∷ [])) (now v.seen) (ap (λ (m : Map). get m q) one.now_is ∙ on.seen.still q hold))

  pub may_abort : 0 < n → MayAdd n v (Leave v.number None ∷ undoing v.number (log_of v.number v.seen) (Aborted v.number)) (at_end (rolled_back (now v.seen) (log_of v.number v.seen)))
  may_abort some = leaves some (Leave v.number None) refl refl (λ k. refl) (λ log on. left_to_end n log on.legal v.number stance (stance_on log on) opened)

  pub may_yield : 0 < n → (op : Op) (x : ℕ) → x ≢ v.number → has_begun x v.seen ≡ true
      → MayAdd n v (Busy v.number op x ∷ undoing v.number (log_of v.number v.seen) (Aborted v.number)) (at_end (rolled_back (now v.seen) (log_of v.number v.seen)))
  may_yield some op x other begun = leaves some (Busy v.number op x) refl refl (λ k. refl) (λ log on.
      let still : has_begun x log ≡ true = ap (has_begun x) on.seen.goes ∙ begun_on x v.seen on.seen.rest begun in
      let locked : (not (x == v.number) && has_begun x log) ≡ true = and_from (not (x == v.number)) (has_begun x log) (ap not (ne_eqb x v.number other)) still in
      busy n log on.legal v.number op x stance (stance_on log on) opened locked)

  pub may_return : 0 < n → (level : ℕ) (jobs kept : List Job) → level < length stance.kept → log_of v.number v.seen ≡ jobs ++ kept → slice_index stance.kept level ≡ length kept
      → MayAdd n v (Leave v.number (Some level) ∷ undoing v.number jobs (Returned v.number level)) (returning v stance level jobs kept)
  may_return some level jobs kept low split at log on =
      let c : ℕ = v.number in let first : Entry = Leave c (Some level) in
      let one = left_to n log on.legal c level stance (stance_on log on) opened low in
      let log' : log_of c (log ++ first ∷ []) ≡ jobs ++ kept = one.log_is ∙ log_on log on ∙ split in
      let mine = first_pass (λ (job : Job). Holds v (stripe_of n job.0)) jobs kept (subst (AllByRecursion (λ (job : Job). Holds v (stripe_of n job.0))) split (all_mine some log on)) in
      let more = undoes_to_level n (Holds v) c level jobs kept (log ++ first ∷ []) one.legal (record stance { phase = LeavingTo level }) one.stance_is refl log' at mine in
      lands_as n c (Holds v) 0 log _ _ _ _ _ (lands_both n c (Holds v) 0 0 log (first ∷ []) (undoing c jobs (Returned c level)) _ (grows_one n (Holds v) log first _ _ _ _ _ one (λ k d h. inl h) (λ q no. refl) (λ k no. refl)) more) refl refl
      (λ q hold. undone_same q jobs (now (log ++ first ∷ [])) (now v.seen) (ap (λ (m : Map). get m q) one.now_is ∙ on.seen.still q hold))
