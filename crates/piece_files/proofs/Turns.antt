-- Lemmas about one turn of the loops that read the elements of an array and the members of an
-- object. The values are converted to `Data`.
use Rattle.std.proofs.Common.{◌≡◌, ℕ, zero, suc, ◌-◌, ◌<◌, ◌≤◌, List, length, Option, Some, None, option_map, refl, ap, ◌∙◌, arith}
use Rattle.json.specs.Token.{Token}
use Rattle.json.specs.Json as json
use Rattle.json.specs.Json.{Parse, parse_map, after_end_array, read_key, items, members}
use Rattle.json.proofs.Grammar.{items_end, items_fail, items_more, members_end, members_fail, members_no_key, members_more}
use Rattle.serde_json.specs.Data.{Data, array, object, no_items, item, Members, no_members, put}
use Rattle.serde_json.specs.Read.{of_json, of_items, of_members, converted}

-- ---- results that are converted

-- A value, if there is one, paired with the tokens after it.
abbrev with_rest : {B : Type 0} → List Token → Option B → Option (B × List Token)
with_rest rest x = option_map (λ b. (b, rest)) x

its_parts : {B : Type 0} (x : Option B) (b : B) (rest r : List Token) → with_rest rest x ≡ Some (b, r) → (x ≡ Some b) × (rest ≡ r)
its_parts None b rest r e = absurd (grind (arith, e))
its_parts (Some y) b rest r e = (grind (arith, e), grind (arith, e))

pub read_before : {A B : Type 0} (f : A → Option B) (o : Option (A × List Token)) (b : B) (r : List Token) → converted f o ≡ Some (b, r) → (a : A) × (o ≡ Some (a, r)) × (f a ≡ Some b)
read_before f None b r e = absurd (grind (arith, e))
read_before f (Some p) b r e = let parts = its_parts (f p.0) b p.1 r e in (p.0, ap (λ s. Some (p.0, s)) parts.1, parts.0)

no_parts : {B : Type 0} (x : Option B) (rest : List Token) → with_rest rest x ≡ None → x ≡ None
no_parts None rest e = refl
no_parts (Some y) rest e = absurd (grind (arith, e))

mapped : {A B : Type 0} (g : A → B) (x : Option A) (rest : List Token) → with_rest rest (option_map g x) ≡ parse_map g (with_rest rest x)
mapped g None rest = refl
mapped g (Some a) rest = refl

pub as_array_of : (o : Option (json.Items × List Token)) → converted of_json (parse_map json.array o) ≡ parse_map array (converted of_items o)
as_array_of None = refl
as_array_of (Some p) = mapped array (of_items p.0) p.1

pub as_object_of : (o : Option (json.Members × List Token)) → converted of_json (parse_map json.object o) ≡ parse_map object (converted (λ ms. of_members ms no_members) o)
as_object_of None = refl
as_object_of (Some p) = mapped object (of_members p.0 no_members) p.1

-- ---- elements

after_item : (j : json.Json) (d : Data) (o : Option (json.Items × List Token)) → of_json j ≡ Some d → converted of_items (parse_map (json.item j) o) ≡ parse_map (item d) (converted of_items o)
after_item j d None e = refl
after_item j d (Some p) e = rw e (mapped (item d) (of_items p.0) p.1)

no_item_after : (j : json.Json) (o : Option (json.Items × List Token)) → of_json j ≡ None → converted of_items (parse_map (json.item j) o) ≡ None
no_item_after j None e = refl
no_item_after j (Some p) e = rw e refl

-- ---- members

after_member : (k : List ℕ) (j : json.Json) (d : Data) (found : Members) (o : Option (json.Members × List Token)) → of_json j ≡ Some d
    → converted (λ ms. of_members ms found) (parse_map (json.member k j) o) ≡ converted (λ ms. of_members ms (put k d found)) o
after_member k j d found None e = refl
after_member k j d found (Some p) e = rw e refl

no_member_after : (k : List ℕ) (j : json.Json) (found : Members) (o : Option (json.Members × List Token)) → of_json j ≡ None → converted (λ ms. of_members ms found) (parse_map (json.member k j) o) ≡ None
no_member_after k j found None e = refl
no_member_after k j found (Some p) e = rw e refl

-- ---- the turns of the loops, where `p` reads one value

module _ (p : Parse json.Json) where
  pub item_turn : (n : ℕ) (ts r : List Token) (d : Data) → 0 < n → after_end_array ts ≡ None → converted of_json (p ts) ≡ Some (d, r)
      → converted of_items (items p n ts) ≡ parse_map (item d) (converted of_items (items p (n - 1) r))
  item_turn n ts r d some going e =
      let j = read_before of_json (p ts) d r e in
      ap (converted of_items) (items_more p n ts r j.0 some going j.1) ∙ after_item j.0 d (items p (n - 1) r) j.2

  pub items_over : (n : ℕ) (ts r : List Token) → length ts ≤ n → after_end_array ts ≡ Some r → converted of_items (items p n ts) ≡ Some (no_items, r)
  items_over n ts r enough e = ap (converted of_items) (items_end p n ts r enough e)

  item_wrong : (n : ℕ) (ts : List Token) (o : Option (json.Json × List Token)) → after_end_array ts ≡ None → p ts ≡ o → converted of_json o ≡ None → converted of_items (items p n ts) ≡ None
  unfolding items
  item_wrong zero ts o going is e = refl
  item_wrong (suc n) ts None going is e = ap (converted of_items) (items_fail p (suc n) ts going is)
  item_wrong (suc n) ts (Some q) going is e =
      ap (converted of_items) (items_more p (suc n) ts q.1 q.0 (omega arith) going is) ∙ no_item_after q.0 (items p (suc n - 1) q.1) (no_parts (of_json q.0) q.1 e)

  pub item_refused : (n : ℕ) (ts : List Token) → after_end_array ts ≡ None → converted of_json (p ts) ≡ None → converted of_items (items p n ts) ≡ None
  item_refused n ts going e = item_wrong n ts (p ts) going refl e

  module _ (found : Members) where
    pub member_turn : (n : ℕ) (k : List ℕ) (ts s r : List Token) (d : Data) → 0 < n → read_key ts ≡ Some (Some k, s) → converted of_json (p s) ≡ Some (d, r)
        → converted (λ ms. of_members ms found) (members p n ts) ≡ converted (λ ms. of_members ms (put k d found)) (members p (n - 1) r)
    member_turn n k ts s r d some key e =
        let j = read_before of_json (p s) d r e in
        ap (converted (λ ms. of_members ms found)) (members_more p n k ts s r j.0 some key j.1) ∙ after_member k j.0 d found (members p (n - 1) r) j.2

    pub members_over : (n : ℕ) (ts r : List Token) → length ts ≤ n → read_key ts ≡ Some (None, r) → converted (λ ms. of_members ms found) (members p n ts) ≡ Some (found, r)
    members_over n ts r enough e = ap (converted (λ ms. of_members ms found)) (members_end p n ts r enough e)

    pub key_refused : (n : ℕ) (ts : List Token) → read_key ts ≡ None → converted (λ ms. of_members ms found) (members p n ts) ≡ None
    key_refused n ts e = ap (converted (λ ms. of_members ms found)) (members_no_key p n ts e)

    member_wrong : (n : ℕ) (k : List ℕ) (ts s : List Token) (o : Option (json.Json × List Token)) → read_key ts ≡ Some (Some k, s) → p s ≡ o → converted of_json o ≡ None → converted (λ ms. of_members ms found) (members p n ts) ≡ None
    unfolding members
    member_wrong zero k ts s o key is e = refl
    member_wrong (suc n) k ts s None key is e = ap (converted (λ ms. of_members ms found)) (members_fail p (suc n) k ts s key is)
    member_wrong (suc n) k ts s (Some q) key is e =
        ap (converted (λ ms. of_members ms found)) (members_more p (suc n) k ts s q.1 q.0 (omega arith) key is) ∙ no_member_after k q.0 found (members p (suc n - 1) q.1) (no_parts (of_json q.0) q.1 e)

    pub member_refused : (n : ℕ) (k : List ℕ) (ts s : List Token) → read_key ts ≡ Some (Some k, s) → converted of_json (p s) ≡ None → converted (λ ms. of_members ms found) (members p n ts) ≡ None
    member_refused n k ts s key e = member_wrong n k ts s (p s) key refl e
