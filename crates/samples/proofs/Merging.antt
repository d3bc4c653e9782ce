-- The callers of all visits are merged, and the history of the host has the entries of all visits.
use Rattle.std.proofs.Common.{◌≡◌, ◌<◌, ℕ, zero, suc, ◌+◌, List, [], ◌∷◌, Some, Option, length, map, slice_get, cond, refl, sym, ap, subst}
use Rattle.std.proofs.Common.{◌∙◌, arith, eq-eqb, false}
use Rattle.std.specs.Prelude.{All, Result, Ok}
use Rattle.samples.specs.Vocabulary.{Begun, Caller, Entry, Host, IsLegal, Stop, caller_of, fold, has_made, have_made, numbers, own, seen_by}
use Rattle.samples.specs.Vocabulary.{stripes_of, taken}
use Rattle.samples.proofs.Vocabulary.{get_or_from_slice_get, slice_get_within}
use Rattle.std.specs.Option.{option_map}
use Rattle.std.proofs.lemmas.List.{length-map}
use Rattle.std.proofs.lemmas.Option.{slice_get-map}
use Rattle.txn_trace.proofs.BadEntries.{legal_none}
use Rattle.striped_map.specs.declared.open.Opening.{Opening}
use Rattle.striped_map.specs.Callers.{IsNew}
use Rattle.striped_map.specs.Hosts.{IsOpened, IsWhole}
use Rattle.striped_map.specs.Steps.{IsMerged}
use Rattle.samples.specs.declared.visits.Visit.{Visit}
use Rattle.samples.specs.declared.visits.Visitor.{Visitor}
use Rattle.samples.specs.declared.visits.Visited.{Visited}
use Rattle.samples.specs.Visits.{ended, AreAnswered, HasMade, IsAnswered, IsHistoryOf}
use Rattle.samples.proofs.Whole.{got_at_end}

is_there : {X : Type 0} (xs : List X) (k : ℕ) → k < length xs → (x : X) × (slice_get xs k ≡ Some x)
is_there [] k less = absurd (omega (arith, less))
is_there (x ∷ xs) zero less = (x, refl)
is_there (x ∷ xs) (suc k) less = is_there xs k (omega (arith, less))

-- What an element of a list of images is the image of.
image_at : {X Y : Type 0} (f : X → Y) (xs : List X) (k : ℕ) (y : Y) → slice_get (map f xs) k ≡ Some y → (x : X) × (slice_get xs k ≡ Some x) × (f x ≡ y)
image_at f [] k y is = absurd (cc is)
image_at f (x ∷ xs) zero y is = (x, refl, cc is)
image_at f (x ∷ xs) (suc k) y is = image_at f xs k y is

-- The callers that are merged one after the other are merged.
module _ {X R : Type 0} (f : X → R) where
  stays : (all : List R) (xs : List X) (j : ℕ) (r : R) → slice_get all j ≡ Some r → (k : ℕ) × (slice_get (fold (λ rs x. f x ∷ rs) all xs) k ≡ Some r)
  stays all [] j r is = (j, is)
  stays all (x ∷ xs) j r is = stays (f x ∷ all) xs (suc j) r is

  comes : (all : List R) (xs : List X) (i : ℕ) (x : X) → slice_get xs i ≡ Some x → (k : ℕ) × (slice_get (fold (λ rs x. f x ∷ rs) all xs) k ≡ Some (f x))
  comes all [] i x is = absurd (cc is)
  comes all (y ∷ xs) zero x is = let same : y ≡ x = cc is in stays (f y ∷ all) xs 0 (f x) (ap (λ z. Some (f z)) same)
  comes all (y ∷ xs) (suc i) x is = comes (f y ∷ all) xs i x is

-- If no caller has an entry in a history, the history is empty.
none_own : (h : List Entry) → ((c : ℕ) → own c h ≡ []) → h ≡ []
none_own [] none = refl
none_own (e ∷ h) none = absurd (cc (sym (ap (λ b. cond b (e ∷ own (caller_of e) h) (own (caller_of e) h)) (eq-eqb (caller_of e) (caller_of e) refl)) ∙ none (caller_of e)))

-- A visit was made by a new caller with this number.
pub record IsSeated (host : Host) (stripes : ℕ) (visitors : List Visitor) (k : ℕ) (d : Visited) : Type 0 where
  pub visitor : Visitor
  pub at : slice_get visitors k ≡ Some visitor
  pub new : IsNew host.map.value stripes (k + 1) visitor.me
  pub made : HasMade visitor.visit d.answer visitor.me d.me

module _ (asked : Opening) (host : Host) (callers : List Caller) (visitors : List Visitor) (done : List Visited)
    (opened : IsOpened asked host callers)
    (callers_are : map (λ v. v.me) visitors ≡ callers)
    (long : length done ≡ length visitors)
    (each : (i : ℕ) (v : Visitor) (d : Visited) → slice_get visitors i ≡ Some v → slice_get done i ≡ Some d → HasMade v.visit d.answer v.me d.me) where
  many : length done ≡ asked.callers
  many = long ∙ sym (length-map visitors (λ (v : Visitor). v.me)) ∙ ap length callers_are ∙ opened.count

  seated : (k : ℕ) (d : Visited) → slice_get done k ≡ Some d → IsSeated host asked.stripes visitors k d
  seated k d is =
      let less : k < length done = slice_get_within done k d is in
      let (v, at) = is_there visitors k (omega (arith, less, long)) in
      let at_callers : slice_get callers k ≡ Some v.me = ap (λ (cs : List Caller). slice_get cs k) (sym callers_are) ∙ slice_get-map (λ (v : Visitor). v.me) visitors k ∙ ap (option_map (λ (v : Visitor). v.me)) at in
      record {
        visitor = v;
        at = at;
        new = subst (IsNew host.map.value asked.stripes (k + 1)) (get_or_from_slice_get callers k v.me v.me at_callers) (opened.each k (omega (arith, less, many)) v.me);
        made = each k v d at is;
      }

  all_at : (P : Visited → Type 0) → ((k : ℕ) (x : Visited) → slice_get done k ≡ Some x → P x) → All P done
  all_at P holds k d less = let (x, is) = is_there done k less in subst P (sym (get_or_from_slice_get done k x d is)) (holds k x is)

  pub all_same : All (λ d. d.me.map.value ≡ host.map.value) done
  all_same = all_at (λ d. d.me.map.value ≡ host.map.value) (λ k x is. let its = seated k x is in its.made.map_is ∙ its.new.map_is)

  pub all_closed : All (λ d. d.me.is_open ≡ false) done
  all_closed = all_at (λ d. d.me.is_open ≡ false) (λ k x is. let its = seated k x is in its.made.closed its.new.closed)

  pub all_childless : All (λ d. has_made d.me ≡ false) done
  all_childless = all_at (λ d. has_made d.me ≡ false) (λ k x is. let its = seated k x is in its.made.made_is ∙ its.new.childless)

  -- After all callers were merged.
  module _ (left : Host) (map_is : left.map ≡ host.map) (numbers_are : numbers left ≡ numbers host) (seen_is : seen_by left ≡ seen_by host)
      (taken_are : taken left ≡ fold (λ all d. ended d.me ∷ all) (taken host) done) where
    merged_at : (k : ℕ) (d : Visited) → slice_get done k ≡ Some d → (j : ℕ) × (slice_get (taken left) j ≡ Some (ended d.me))
    merged_at k d is = let (j, at) = comes (λ (x : Visited). ended x.me) (taken host) done k d is in (j, ap (λ (rs : List (ℕ × List Entry)). slice_get rs j) taken_are ∙ at)

    taken_all : (c : ℕ) → 0 < c → c < numbers left → IsMerged c (taken left)
    taken_all zero some less = absurd (omega (arith, some))
    taken_all (suc k) some less =
        let (d, is) = is_there done k (let made = opened.numbers_are in omega (arith, less, numbers_are, made, many)) in
        let its = seated k d is in
        let (j, at) = merged_at k d is in
        let one : k + 1 ≡ suc k = omega arith in
        (j, ended d.me, at, its.made.number_is ∙ its.new.numbered ∙ one)

    pub is_whole : have_made left ≡ false → IsWhole left
    is_whole childless = record { first = left.first; childless = childless; all = taken_all }

    pub legal_here : (h : List Entry) → IsHistoryOf left h → IsLegal Begun asked.stripes h
    legal_here h whole = at done refl
      where
        nobody : (ds : List Visited) → done ≡ ds → length ds ≡ 0 → (c : ℕ) → own c h ≡ []
        nobody ds is none zero = whole.mine ∙ ap (own 0) (seen_is ∙ opened.unseen)
        nobody ds is none (suc c) = whole.others (suc c) (let made = opened.numbers_are in let size = ap length is in omega (arith, numbers_are, made, many, size, none))

        at : (ds : List Visited) → done ≡ ds → IsLegal Begun asked.stripes h
        at [] is = subst (IsLegal Begun asked.stripes) (sym (none_own h (nobody [] is refl))) (legal_none asked.stripes)
        at (d ∷ ds) is =
            let its = seated 0 d (ap (λ (xs : List Visited). slice_get xs 0) is) in
            let stripes_are : stripes_of left.map.value ≡ asked.stripes = ap (λ m. stripes_of m.value) map_is ∙ ap stripes_of (sym its.new.map_is) ∙ its.new.stripes_are in
            subst (λ (n : ℕ). IsLegal Begun n h) stripes_are whole.legal

    pub all_answered : (visits : List Visit) (answers : List (Result (Option ℕ) Stop)) (h : List Entry) → map (λ v. v.visit) visitors ≡ visits → answers ≡ map (λ d. d.answer) done → IsHistoryOf left h → AreAnswered h visits answers
    all_answered visits answers h visits_are answers_are whole = record {
      count = ap length answers_are ∙ length-map done (λ (d : Visited). d.answer) ∙ long ∙ sym (length-map visitors (λ (v : Visitor). v.visit)) ∙ ap length visits_are;
      each = λ i visit reply at_visit at_answer.
          let (v, v_at, v_is) = image_at (λ (v : Visitor). v.visit) visitors i visit (ap (λ (xs : List Visit). slice_get xs i) visits_are ∙ at_visit) in
          let (d, d_at, d_is) = image_at (λ (d : Visited). d.answer) done i (Ok reply) (ap (λ (xs : List (Result (Option ℕ) Stop)). slice_get xs i) (sym answers_are) ∙ at_answer) in
          let its : HasMade visit (Ok reply) v.me d.me =
          subst (λ (x : Visit). HasMade x (Ok reply) v.me d.me) v_is (subst (λ (r : Result (Option ℕ) Stop). HasMade v.visit r v.me d.me) d_is (each i v d v_at d_at)) in
          let (j, at) = merged_at i d d_at in
          let place = seated i d d_at in
          subst (λ (c : ℕ). IsAnswered h c visit reply) (place.made.number_is ∙ place.new.numbered) (got_at_end visit reply d.me (stripes_of left.map.value) h its.visited whole.legal (whole.all j (ended d.me) at));
    }
