-- Shows that no two open transactions have asked for keys of the same stripe, because the rule of
-- locks does not allow the second `Asked`.
use Rattle.std.proofs.Common.{◌≡◌, ℕ, ◌==◌, Bool, true, false, cond, not, ◌&&◌, List, [], ◌∷◌, ◌++◌, map, refl, ap, sym, subst, ◌∙◌, Some, None, Option, IsSome, append_assoc}
use Rattle.std.specs.List.{filter, list_any, list_all, AllByRecursion}
use Rattle.std.proofs.lemmas.Bool.{false≢true, eq-eqb, eqb-true, or_left, or_right, and_parts, or_cases}
use Rattle.std.proofs.lemmas.List.{append-nil}
use mathlib.Core.Logic.{◌⊎◌, inl, inr}
use Rattle.txn_words.specs.declared.entry.Entry.{Entry}
use Rattle.txn_words.specs.declared.holder.Holder.{Holder}
use Rattle.txn_words.specs.declared.entry.Entry.TheVariants.{Asked}
use Rattle.txn_words.specs.Map.{Map, get, key_of, keys}
use Rattle.txn_trace.specs.History.{Line, lines_of, is_of, of}
use Rattle.txn_words.specs.Kinds.{caller_of}
use Rattle.txn_trace.specs.Alone.{AloneRun, alone, map_after, last_map}
use Rattle.txn_trace.specs.Locks.{stripe_of, asks_in, is_in_open, is_locked, LocksHold}
use Rattle.txn_words.specs.Shape.{is_shaped, IsShaped}
use Rattle.txn_trace.proofs.Pushes.{txn_in, txn_at, of_is, of-push_in, of-push_out}
use Rattle.txn_trace.proofs.Callers.{Callers, callers_none, IsOwned, ended, is_open-ended, in_or_out}
use Rattle.txn_trace.proofs.Shaped.{callers_push, not_ended_before}
use Rattle.txn_trace.proofs.Local.{AsksFor, AllAskFor, RunsAlike, alone_alike}

-- Whether one of the entries asks for a key of the stripe.
abbrev pub holds : ℕ → ℕ → List Entry → Bool
holds stripes s es = list_any (asks_in stripes s) es

abbrev pub keys_in : ℕ → List Entry → ℕ → Bool
keys_in stripes es k = holds stripes (stripe_of stripes k) es

-- If caller `c` is a stripe's only holder, and an open transaction holds the stripe, `c` is in this
-- transaction.
holder_is : (stripes s c u : ℕ) (g : List Entry) → ended u g ≡ false → (ls : List Line) → AllByRecursion (IsOwned g) ls
    → list_any (asks_in stripes s) (map (λ l. l.entry) (filter (is_of u) ls)) ≡ true
    → list_all (λ x. x == c) (map (λ l. caller_of l.entry) (filter (λ l. asks_in stripes s l.entry && is_in_open g l) ls)) ≡ true → txn_in g c ≡ Some u
holder_is stripes s c u g going [] owned asks all = absurd (false≢true asks)
holder_is stripes s c u g going (l ∷ ls) owned asks all =
    let tail : list_all (λ x. x == c) (map (λ l. caller_of l.entry) (filter (λ l. asks_in stripes s l.entry && is_in_open g l) ls)) ≡ true =
    (elim (asks_in stripes s l.entry && is_in_open g l) as (λ b. list_all (λ x. x == c) (map (λ l. caller_of l.entry) (cond b (l ∷ filter (λ l. asks_in stripes s l.entry && is_in_open g l) ls) (filter (λ l. asks_in stripes s l.entry && is_in_open g l) ls))) ≡ true
    → list_all (λ x. x == c) (map (λ l. caller_of l.entry) (filter (λ l. asks_in stripes s l.entry && is_in_open g l) ls)) ≡ true) [
      | true ↦ λ h. (and_parts (caller_of l.entry == c) _ h).1
      | false ↦ λ h. h
    ]) all in
    (elim (is_of u l) as (λ b. is_of u l ≡ b → list_any (asks_in stripes s) (map (λ l. l.entry) (cond b (l ∷ filter (is_of u) ls) (filter (is_of u) ls))) ≡ true → txn_in g c ≡ Some u) [
      | true ↦ λ of_u h.
          let txn : l.txn ≡ Some u = of_is u l.txn of_u in
          let opened : is_in_open g l ≡ true = ap (λ o. is_in_open g (record { txn = o; entry = l.entry })) txn ∙ is_open-ended u g ∙ ap not going in
          elim (or_cases (asks_in stripes s l.entry) _ h) [
            | inl here ↦
                let head : list_all (λ x. x == c) (map (λ l. caller_of l.entry) (cond true (l ∷ filter (λ l. asks_in stripes s l.entry && is_in_open g l) ls) (filter (λ l. asks_in stripes s l.entry && is_in_open g l) ls))) ≡ true =
                subst (λ b. list_all (λ x. x == c) (map (λ l. caller_of l.entry) (cond b (l ∷ filter (λ l. asks_in stripes s l.entry && is_in_open g l) ls) (filter (λ l. asks_in stripes s l.entry && is_in_open g l) ls))) ≡ true)
                (ap (λ b. b && is_in_open g l) here ∙ opened) all in
                let mine : caller_of l.entry ≡ c = eqb-true (caller_of l.entry) c (and_parts (caller_of l.entry == c) _ head).0 in
                subst (λ x. txn_in g x ≡ Some u) mine (owned.0 u txn going)
            | inr later ↦ holder_is stripes s c u g going ls owned.1 later tail
          ]
      | false ↦ λ of_u h. holder_is stripes s c u g going ls owned.1 h tail
    ]) refl asks

-- No two transactions that have not ended hold the same stripe.
abbrev pub Apart : ℕ → List Entry → Type 0
Apart stripes g = (t u s : ℕ) → ended t g ≡ false → ended u g ≡ false → holds stripes s (of t g) ≡ true → holds stripes s (of u g) ≡ true → t ≡ u

any-push : (p : Entry → Bool) (es : List Entry) (e : Entry) → list_any p (es ++ e ∷ []) ≡ true → (list_any p es ≡ true) ⊎ (p e ≡ true)
any-push p [] e is = elim (or_cases (p e) false is) [ inl a ↦ inr a | inr b ↦ absurd (false≢true b) ]
any-push p (x ∷ es) e is = elim (or_cases (p x) _ is) [
  | inl a ↦ inl (or_left (p x) _ a)
  | inr b ↦ elim (any-push p es e b) [ inl a ↦ inl (or_right (p x) _ a) | inr a ↦ inr a ]
]

-- If an entry asks for a key of a stripe that an open transaction holds, the entry belongs to that
-- transaction.
asked_by : (holder : Holder) (stripes s t u : ℕ) (g : List Entry) (e : Entry) → Callers g → is_locked holder stripes g e ≡ true → txn_at g e ≡ Some t → asks_in stripes s e ≡ true
    → ended u g ≡ false → holds stripes s (of u g) ≡ true → t ≡ u
asked_by holder stripes s t u g (Asked c op) callers locked at asks going held =
    let stripe : s ≡ stripe_of stripes (key_of op) = sym (eqb-true _ s asks) in
    let mine : txn_in g c ≡ Some u = holder_is stripes (stripe_of stripes (key_of op)) c u g going (lines_of g) callers.owned (subst (λ r. holds stripes r (of u g) ≡ true) stripe held) locked in
    cc (at, mine)
asked_by holder stripes s t u g _ callers locked at asks going held = absurd (false≢true asks)

pub apart_push : (holder : Holder) (stripes : ℕ) (g : List Entry) (e : Entry) → Callers g → is_shaped g e ≡ true → is_locked holder stripes g e ≡ true → Apart stripes g → Apart stripes (g ++ e ∷ [])
apart_push holder stripes g e callers shaped locked apart t u s going_t going_u holds_t holds_u =
    let before_t = not_ended_before g e callers shaped t going_t in
    let before_u = not_ended_before g e callers shaped u going_u in
    elim (in_or_out (txn_at g e) t) [
      | inl in_t ↦ elim (in_or_out (txn_at g e) u) [
        | inl in_u ↦ cc (in_t, in_u)
        | inr out_u ↦
            let held : holds stripes s (of u g) ≡ true = ap (holds stripes s) (sym (of-push_out u g e out_u)) ∙ holds_u in
            elim (any-push (asks_in stripes s) (of t g) e (ap (holds stripes s) (sym (of-push_in t g e in_t)) ∙ holds_t)) [
              | inl old ↦ apart t u s before_t before_u old held
              | inr asks ↦ asked_by holder stripes s t u g e callers locked in_t asks before_u held
            ]
      ]
      | inr out_t ↦
          let held : holds stripes s (of t g) ≡ true = ap (holds stripes s) (sym (of-push_out t g e out_t)) ∙ holds_t in
          elim (in_or_out (txn_at g e) u) [
            | inl in_u ↦ elim (any-push (asks_in stripes s) (of u g) e (ap (holds stripes s) (sym (of-push_in u g e in_u)) ∙ holds_u)) [
              | inl old ↦ apart t u s before_t before_u held old
              | inr asks ↦ sym (asked_by holder stripes s u t g e callers locked in_u asks before_t held)
            ]
            | inr out_u ↦ apart t u s before_t before_u held (ap (holds stripes s) (sym (of-push_out u g e out_u)) ∙ holds_u)
          ]
    ]

pub apart_all : (holder : Holder) (stripes : ℕ) (g rest : List Entry) → Callers g → Apart stripes g → IsShaped (g ++ rest) → LocksHold holder stripes (g ++ rest) → Apart stripes (g ++ rest)
apart_all holder stripes g [] callers apart shape locks = subst (Apart stripes) (sym (append-nil g)) apart
apart_all holder stripes g (e ∷ rest) callers apart shape locks =
    let shaped = shape g e (rest, append_assoc g (e ∷ []) rest) in
    let locked = locks g e (rest, append_assoc g (e ∷ []) rest) in
    let back = sym (append_assoc g (e ∷ []) rest) in
    subst (Apart stripes) (append_assoc g (e ∷ []) rest)
    (apart_all holder stripes (g ++ e ∷ []) rest (callers_push g e callers shaped) (apart_push holder stripes g e callers shaped locked apart) (subst IsShaped back shape) (subst (LocksHold holder stripes) back locks))

pub are_apart : (holder : Holder) (stripes : ℕ) (g : List Entry) → IsShaped g → LocksHold holder stripes g → Apart stripes g
are_apart holder stripes g shape locks = apart_all holder stripes [] g callers_none (λ t u s a b h k. absurd (false≢true h)) shape locks

asks_more : (keys wide : ℕ → Bool) → ((k : ℕ) → keys k ≡ true → wide k ≡ true) → (es : List Entry) → AllAskFor keys es → AllAskFor wide es
asks_more keys wide to [] all = tt
asks_more keys wide to (e ∷ es) all = (at e all.0, asks_more keys wide to es all.1)
  where
    at : (f : Entry) → AsksFor keys f → AsksFor wide f
    at (Asked c op) h = to (key_of op) h
    at _ h = tt

-- If one of the entries asks for a key, the entries hold the stripe of this key.
pub asks_own : (stripes : ℕ) (es : List Entry) → AllAskFor (keys_in stripes es) es
asks_own stripes [] = tt
asks_own stripes (e ∷ es) = (at e, asks_more (keys_in stripes es) (keys_in stripes (e ∷ es)) (λ k is. or_right (asks_in stripes (stripe_of stripes k) e) _ is) es (asks_own stripes es))
  where
    at : (f : Entry) → AsksFor (keys_in stripes (f ∷ es)) f
    at (Asked c op) = or_left _ _ (eq-eqb (stripe_of stripes (key_of op)) _ refl)
    at _ = tt

left_of : (keys : ℕ → Bool) (m n : Map) (o p : Option AloneRun) → RunsAlike keys m n o p → (k : ℕ) → keys k ≡ false → get (last_map m o) k ≡ get m k
left_of keys m n None p alike k out = refl
left_of keys m n (Some r) None alike k out = absurd alike
left_of keys m n (Some r) (Some s) alike k out = alike.last.left k out

inside_of : (keys : ℕ → Bool) (m n : Map) (o p : Option AloneRun) → RunsAlike keys m n o p → (k : ℕ) → get m k ≡ get n k → keys k ≡ true → get (last_map m o) k ≡ get (last_map n p) k
inside_of keys m n None None alike k same is = same
inside_of keys m n None (Some s) alike k same is = absurd alike
inside_of keys m n (Some r) None alike k same is = absurd alike
inside_of keys m n (Some r) (Some s) alike k same is = alike.last.inside k is

runs_too : (keys : ℕ → Bool) (m n : Map) (o p : Option AloneRun) → RunsAlike keys m n o p → IsSome o → IsSome p
runs_too keys m n None p alike is = absurd (false≢true is)
runs_too keys m n (Some r) None alike is = absurd alike
runs_too keys m n (Some r) (Some s) alike is = refl

module _ (stripes : ℕ) (es : List Entry) (m n : Map) where
  -- If the entries do not hold the stripe of a key, they leave the key's value unchanged.
  pub untouched : (k : ℕ) → keys_in stripes es k ≡ false → get (map_after m es) k ≡ get m k
  untouched k out = left_of (keys_in stripes es) m m (alone m es) (alone m es) (alone_alike (keys_in stripes es) m m es (asks_own stripes es) (λ q is. refl)) k out

  -- Let two maps agree at each key whose stripe the entries hold. Then the maps after the entries
  -- agree at these keys too. If the run of the entries on one map is not None, the run on the other
  -- map is not None.
  pub touched : ((k : ℕ) → keys_in stripes es k ≡ true → get m k ≡ get n k) → (k : ℕ) → keys_in stripes es k ≡ true → get (map_after m es) k ≡ get (map_after n es) k
  touched same k is = inside_of (keys_in stripes es) m n (alone m es) (alone n es) (alone_alike (keys_in stripes es) m n es (asks_own stripes es) same) k (same k is) is

  pub runs_there : ((k : ℕ) → keys_in stripes es k ≡ true → get m k ≡ get n k) → IsSome (alone m es) → IsSome (alone n es)
  runs_there same is = runs_too (keys_in stripes es) m n (alone m es) (alone n es) (alone_alike (keys_in stripes es) m n es (asks_own stripes es) same) is
