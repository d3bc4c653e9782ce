-- Shows that each caller's chain has exactly the stripes that it holds, because `lock` puts a
-- stripe at the chain's front, and each step of `release_all` removes its first stripe.
use Prim.Native.Nat.{zero, suc}
use Rattle.std.proofs.Common.{◌≡◌, ◌≢◌, ℕ, ◌<◌, ◌≤◌, List, [], ◌∷◌, length, get_or, set, replicate, Option, None, Some, true, false, cond, ◌||◌, refl, sym, ◌∙◌, ap, subst, arith, inl, inr, eqb, eq-eqb, ne_eqb, length-set, get_or-set_other, get_or-set_same}
use Rattle.std.proofs.lemmas.Bool.{cases_eq, cases_lt, or_parts, or_left, eqb-true, eqb-false}
use Rattle.std.proofs.lemmas.List.{get_or_past, get_or_read, set-get_or}
use Rattle.std.proofs.lemmas.List.Sums.{sum_by-set}
use Rattle.std.specs.List.{count_by}
use Rattle.key_locks.specs.Locks.{is_caller, without_caller, Releases}
use Rattle.key_locks.specs.Chains.{is_in, Leads, IsChain, AreChained}

abbrev Holders : Type 0
Holders = List (Option ℕ)

some_same : (a b : ℕ) → Some a ≡ Some b → a ≡ b
some_same a b same = cc

none_is_not_some : (holder : Option ℕ) (caller : ℕ) → holder ≡ None → holder ≡ Some caller → ⊥
none_is_not_some holder caller none some = cc

none_of : (stripes stripe : ℕ) → get_or (replicate {A = Option ℕ} stripes None) stripe None ≡ None
none_of zero stripe = refl
none_of (suc stripes) zero = refl
none_of (suc stripes) (suc stripe) = none_of stripes stripe

none_is_no_caller : (caller : ℕ) (holder : Option ℕ) → holder ≡ None → is_caller caller holder ≡ false
none_is_no_caller caller holder none = ap (is_caller caller) none

some_is_caller : (caller : ℕ) (holder : Option ℕ) → holder ≡ Some caller → is_caller caller holder ≡ true
some_is_caller caller holder held = ap (is_caller caller) held ∙ eq-eqb caller caller refl

some_is_no_other : (caller other : ℕ) (holder : Option ℕ) → holder ≡ Some caller → other ≢ caller → is_caller other holder ≡ false
some_is_no_other caller other holder held differs = ap (is_caller other) held ∙ ne_eqb caller other (λ same. differs (sym same))

caller_is : (caller : ℕ) (holder : Option ℕ) → is_caller caller holder ≡ true → holder ≡ Some caller
caller_is caller None is = cc
caller_is caller (Some holder) is = ap (λ h. Some h) (eqb-true holder caller is)

get_or-set_is : (holders : Holders) (stripe other : ℕ) (holder : Option ℕ) → stripe < length holders → (P : Option ℕ → Type 0) → (other ≡ stripe → P holder) → (other ≢ stripe → P (get_or holders other None)) → P (get_or (set holders stripe holder) other None)
get_or-set_is holders stripe other holder within P here elsewhere =
    elim (cases_eq other stripe) [
      | inl same ↦ subst P (sym (ap (λ k. get_or (set holders stripe holder) k None) same ∙ get_or-set_same holders stripe holder None within)) (here same)
      | inr differs ↦ subst P (sym (get_or-set_other holders stripe other holder None differs)) (elsewhere differs)
    ]

-- The index of a held stripe is below the number of stripes.
held_below : (holders : Holders) (stripe caller : ℕ) → get_or holders stripe None ≡ Some caller → stripe < length holders
held_below holders stripe caller held =
    elim (cases_lt stripe (length holders)) [
      | inl less ↦ less
      | inr past ↦ absurd (none_is_not_some _ caller (get_or_past holders stripe None past) held)
    ]

-- ---- chains
-- A write at a stripe that is not in the chain leaves the chain unchanged.
Leads-set : (older : Holders) (first : Option ℕ) (chain : List ℕ) (stripe : ℕ) (next : Option ℕ) → is_in chain stripe ≡ false → Leads older first chain → Leads (set older stripe next) first chain
Leads-set older first [] stripe next out leads = leads
Leads-set older first (other ∷ rest) stripe next out leads =
    let apart = or_parts (eqb other stripe) (is_in rest stripe) out in
    let same = get_or-set_other older stripe other next None (eqb-false other stripe apart.0) in
    (leads.0, leads.1, subst (λ from. Leads (set older stripe next) from rest) (sym same) (Leads-set older (get_or older other None) rest stripe next apart.1 leads.2))

-- If a caller takes a free stripe, the stripe becomes the first of the caller's chain.
IsChain-taken : (holders older : Holders) (caller stripe : ℕ) (first : Option ℕ) (chain : List ℕ) → IsChain holders older caller first chain → get_or holders stripe None ≡ None → stripe < length holders → stripe < length older
    → IsChain (set holders stripe (Some caller)) (set older stripe first) caller (Some stripe) (stripe ∷ chain)
IsChain-taken holders older caller stripe first chain is free within within_older =
    let out : is_in chain stripe ≡ false = is.held stripe ∙ none_is_no_caller caller _ free in
    record {
      leads = (refl, out, subst (λ from. Leads (set older stripe first) from chain) (sym (get_or-set_same older stripe first None within_older)) (Leads-set older first chain stripe first out is.leads));
      held = λ other. get_or-set_is holders stripe other (Some caller) within (λ holder. is_in (stripe ∷ chain) other ≡ is_caller caller holder)
          (λ same. or_left (eqb stripe other) (is_in chain other) (eq-eqb stripe other (sym same)) ∙ sym (eq-eqb caller caller refl))
          (λ differs. ap (λ b. b || is_in chain other) (ne_eqb stripe other (λ same. differs (sym same))) ∙ is.held other);
    }

-- If the caller holds the stripe neither before a write nor after it, the write leaves the caller's
-- chain unchanged.
IsChain-elsewhere : (holders older : Holders) (caller stripe : ℕ) (first next holder : Option ℕ) (chain : List ℕ) → IsChain holders older caller first chain → is_caller caller (get_or holders stripe None) ≡ false → is_caller caller holder ≡ false → stripe < length holders
    → IsChain (set holders stripe holder) (set older stripe next) caller first chain
IsChain-elsewhere holders older caller stripe first next holder chain is not_before not_after within =
    let out : is_in chain stripe ≡ false = is.held stripe ∙ not_before in
    record {
      leads = Leads-set older first chain stripe next out is.leads;
      held = λ other. get_or-set_is holders stripe other holder within (λ h. is_in chain other ≡ is_caller caller h)
          (λ same. ap (is_in chain) same ∙ out ∙ sym not_after)
          (λ differs. is.held other);
    }

chain_from : (holders older : Holders) (caller stripe : ℕ) (first : Option ℕ) (chain : List ℕ) → IsChain holders older caller first chain → first ≡ Some stripe → (rest : List ℕ) × IsChain holders older caller (Some stripe) (stripe ∷ rest)
chain_from holders older caller stripe first [] is begins = absurd (none_is_not_some first stripe is.leads begins)
chain_from holders older caller stripe first (other ∷ rest) is begins =
    let same : other ≡ stripe = some_same other stripe (sym is.leads.0 ∙ begins) in
    (rest, subst (λ k. IsChain holders older caller (Some k) (k ∷ rest)) same (subst (λ from. IsChain holders older caller from (other ∷ rest)) is.leads.0 is))

first_held : (holders older : Holders) (caller stripe : ℕ) (rest : List ℕ) → IsChain holders older caller (Some stripe) (stripe ∷ rest) → get_or holders stripe None ≡ Some caller
first_held holders older caller stripe rest is = caller_is caller _ (sym (is.held stripe) ∙ or_left (eqb stripe stripe) (is_in rest stripe) (eq-eqb stripe stripe refl))

-- After the first stripe of a chain is freed, the rest is the caller's chain.
IsChain-freed : (holders older : Holders) (caller stripe : ℕ) (rest : List ℕ) → IsChain holders older caller (Some stripe) (stripe ∷ rest) → IsChain (set holders stripe None) older caller (get_or older stripe None) rest
IsChain-freed holders older caller stripe rest is =
    let within = held_below holders stripe caller (first_held holders older caller stripe rest is) in
    record {
      leads = is.leads.2;
      held = λ other. get_or-set_is holders stripe other None within (λ holder. is_in rest other ≡ is_caller caller holder)
          (λ same. ap (is_in rest) same ∙ is.leads.1)
          (λ differs. sym (ap (λ b. b || is_in rest other) (ne_eqb stripe other (λ same. differs (sym same)))) ∙ is.held other);
    }

-- ---- holders
-- Only callers hold stripes. This stays true when a caller takes a stripe, or a stripe is freed.
abbrev NoneElse : Holders → Type 0
NoneElse holders = (stripe holder : ℕ) → get_or holders stripe None ≡ Some holder → holder < 64

none_else-taken : (holders : Holders) (stripe caller : ℕ) → stripe < length holders → caller < 64 → NoneElse holders → NoneElse (set holders stripe (Some caller))
none_else-taken holders stripe caller within below none_else other holder =
    get_or-set_is holders stripe other (Some caller) within (λ h. h ≡ Some holder → holder < 64)
    (λ same held. let is : caller ≡ holder = some_same caller holder held in rw (← is) below)
    (λ differs held. none_else other holder held)

none_else-freed : (holders : Holders) (stripe : ℕ) → stripe < length holders → NoneElse holders → NoneElse (set holders stripe None)
none_else-freed holders stripe within none_else other holder =
    get_or-set_is holders stripe other None within (λ h. h ≡ Some holder → holder < 64)
    (λ same held. absurd (none_is_not_some None holder refl held))
    (λ differs held. none_else other holder held)

not_a_caller : (caller : ℕ) (held : Option ℕ) → ((holder : ℕ) → held ≡ Some holder → holder < 64) → 64 ≤ caller → held ≡ without_caller caller held
not_a_caller caller None few past = refl
not_a_caller caller (Some holder) few past =
    let below = few holder refl in
    sym (ap (λ b. cond b None (Some holder)) (ne_eqb holder caller (λ same. omega arith)))

pub Releases-none : (holders older newest : Holders) (caller : ℕ) → AreChained holders older newest → 64 ≤ caller → Releases caller holders holders
Releases-none holders older newest caller are past = record {
  each = λ stripe. not_a_caller caller (get_or holders stripe None) (are.none_else stripe) past;
  as_many = refl;
}

-- ---- all chains
-- A write of one caller's newest stripe leaves the chains of the others unchanged.
AreChained-set : (holders older newest : Holders) (caller : ℕ) (first : Option ℕ) → length older ≡ length holders → length newest ≡ 64 → caller < 64
    → (chain : List ℕ) × IsChain holders older caller first chain
    → ((other : ℕ) → other < 64 → other ≢ caller → (chain : List ℕ) × IsChain holders older other (get_or newest other None) chain)
    → NoneElse holders → AreChained holders older (set newest caller first)
AreChained-set holders older newest caller first as_many callers below own others none_else = record {
  as_many = as_many;
  callers = length-set newest caller first ∙ callers;
  chain_of = λ other other_below. elim (cases_eq other caller) [
    | inl same ↦
        let begins : get_or (set newest caller first) other None ≡ first = ap (λ k. get_or (set newest caller first) k None) same ∙ get_or-set_same newest caller first None (omega arith) in
        subst (λ from. (chain : List ℕ) × IsChain holders older other from chain) (sym begins) (subst (λ k. (chain : List ℕ) × IsChain holders older k first chain) (sym same) own)
    | inr differs ↦
        subst (λ from. (chain : List ℕ) × IsChain holders older other from chain) (sym (get_or-set_other newest caller other first None differs)) (others other other_below differs)
  ];
  none_else = none_else;
}

pub AreChained-taken : (holders older newest : Holders) (caller stripe : ℕ) → AreChained holders older newest → caller < 64 → stripe < length holders → get_or holders stripe None ≡ None
    → AreChained (set holders stripe (Some caller)) (set older stripe (get_or newest caller None)) (set newest caller (Some stripe))
AreChained-taken holders older newest caller stripe are below within free =
    let next = get_or newest caller None in
    let as_many : length (set older stripe next) ≡ length (set holders stripe (Some caller)) = length-set older stripe next ∙ are.as_many ∙ sym (length-set holders stripe (Some caller)) in
    let own = are.chain_of caller below in
    AreChained-set _ _ newest caller (Some stripe) as_many are.callers below
    (stripe ∷ own.0, IsChain-taken holders older caller stripe next own.0 own.1 free within (rw are.as_many within))
    (λ other other_below differs.
    let its = are.chain_of other other_below in
    (its.0, IsChain-elsewhere holders older other stripe _ next (Some caller) its.0 its.1 (none_is_no_caller other _ free) (some_is_no_other caller other _ refl differs) within))
    (none_else-taken holders stripe caller within below are.none_else)

-- This stripe is the one that the caller took last.
pub record IsNewest (holders older newest : List (Option ℕ)) (caller stripe : ℕ) : Type 0 where
  pub newest_is : get_or newest caller None ≡ Some stripe
  pub held : get_or holders stripe None ≡ Some caller
  pub within : stripe < length holders
  pub within_older : stripe < length older

pub newest_read : (holders older newest : Holders) (caller stripe : ℕ) (read : Option ℕ) → AreChained holders older newest → caller < 64 → read ≡ get_or newest caller read → read ≡ Some stripe → IsNewest holders older newest caller stripe
newest_read holders older newest caller stripe read are below read_is some =
    let is : get_or newest caller None ≡ Some stripe = sym (get_or_read newest caller read (omega (arith, are.callers)) read_is None) ∙ some in
    let own = are.chain_of caller below in
    let from = chain_from holders older caller stripe _ own.0 own.1 is in
    let held = first_held holders older caller stripe from.0 from.1 in
    let within = held_below holders stripe caller held in
    record {
      newest_is = is;
      held = held;
      within = within;
      within_older = rw are.as_many within;
    }

pub AreChained-freed : (holders older newest : Holders) (caller stripe : ℕ) → AreChained holders older newest → caller < 64 → IsNewest holders older newest caller stripe
    → AreChained (set holders stripe None) older (set newest caller (get_or older stripe None))
AreChained-freed holders older newest caller stripe are below is =
    let own = are.chain_of caller below in
    let from = chain_from holders older caller stripe _ own.0 own.1 is.newest_is in
    AreChained-set _ older newest caller (get_or older stripe None) (are.as_many ∙ sym (length-set holders stripe None)) are.callers below
    (from.0, IsChain-freed holders older caller stripe from.0 from.1)
    (λ other other_below differs.
    let its = are.chain_of other other_below in (
      its.0,
      subst (λ after. IsChain (set holders stripe None) after other (get_or newest other None) its.0) (set-get_or older stripe None)
          (IsChain-elsewhere holders older other stripe _ (get_or older stripe None) None its.0 its.1 (some_is_no_other caller other _ is.held differs) refl is.within),
    ))
    (none_else-freed holders stripe is.within are.none_else)

-- Before any stripe is locked, `AreChained` holds: all three lists hold only `None`, and every
-- chain is empty.
pub AreChained-new : (stripes : ℕ) (holders older newest : Holders) → holders ≡ replicate stripes None → older ≡ replicate stripes None → newest ≡ replicate 64 None → AreChained holders older newest
AreChained-new stripes holders older newest holders_is older_is newest_is = record {
  as_many = ap length (older_is ∙ sym holders_is);
  callers = ap length newest_is;
  chain_of = λ caller below. (
    [],
    record {
      leads = ap (λ l. get_or l caller None) newest_is ∙ none_of 64 caller;
      held = λ stripe. sym (none_is_no_caller caller _ (ap (λ l. get_or l stripe None) holders_is ∙ none_of stripes stripe));
    },
  );
  none_else = λ stripe holder held. absurd (none_is_not_some _ holder (ap (λ l. get_or l stripe None) holders_is ∙ none_of stripes stripe) held);
}

-- ---- a release
pub fewer_held : (holders : Holders) (caller stripe : ℕ) → stripe < length holders → get_or holders stripe None ≡ Some caller → count_by (is_caller caller) (set holders stripe None) < count_by (is_caller caller) holders
fewer_held holders caller stripe within held =
    let one : cond {A = ℕ} (is_caller caller (get_or holders stripe None)) 1 0 ≡ 1 = ap (λ b. cond {A = ℕ} b 1 0) (some_is_caller caller _ held) in
    omega (arith, one, sum_by-set (λ (holder : Option ℕ). cond {A = ℕ} (is_caller caller holder) 1 0) holders stripe None None within)

-- Suppose that one of the caller's stripes is freed, and then the caller releases all its stripes.
-- The result is the same as without the first step.
pub without_caller-set : (holders : Holders) (caller stripe other : ℕ) → get_or holders stripe None ≡ Some caller → without_caller caller (get_or (set holders stripe None) other None) ≡ without_caller caller (get_or holders other None)
without_caller-set holders caller stripe other held =
    get_or-set_is holders stripe other None (held_below holders stripe caller held) (λ holder. without_caller caller holder ≡ without_caller caller (get_or holders other None))
    (λ same. sym (ap (without_caller caller) (ap (λ k. get_or holders k None) same ∙ held) ∙ ap (λ b. cond b None (Some caller)) (eq-eqb caller caller refl)))
    (λ differs. refl)

-- A caller whose chain is empty holds no stripe.
none_held : (holders older : Holders) (caller : ℕ) (first : Option ℕ) (chain : List ℕ) → IsChain holders older caller first chain → first ≡ None → (stripe : ℕ) → is_caller caller (get_or holders stripe None) ≡ false
none_held holders older caller first [] is none stripe = sym (is.held stripe)
none_held holders older caller first (other ∷ rest) is none stripe = absurd (none_is_not_some first other none is.leads.0)

pub Releases-all : (old new older newest : Holders) (caller : ℕ) → AreChained new older newest → caller < 64 → get_or newest caller None ≡ None → length new ≡ length old
    → ((stripe : ℕ) → without_caller caller (get_or new stripe None) ≡ without_caller caller (get_or old stripe None)) → Releases caller old new
Releases-all old new older newest caller are below none as_many each =
    let own = are.chain_of caller below in
    record {
      each = λ stripe. sym (ap (λ b. cond b None (get_or new stripe None)) (none_held new older caller _ own.0 own.1 none stripe)) ∙ each stripe;
      as_many = as_many;
    }
