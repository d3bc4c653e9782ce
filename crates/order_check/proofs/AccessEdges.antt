-- Shows that an access gives exactly the edges that its values mean, because the table names who
-- replaces what its source gives, and one source gives one value.
use Rattle.std.specs.Prelude.{slice_get}
use Rattle.std.proofs.Common.{◌≡◌, ◌≢◌, ℕ, zero, suc, Option, Some, None, List, [], ◌∷◌, length, refl, ap, sym, ◌∙◌, subst}
use mathlib.Core.Logic.{inl, inr}
use Rattle.order_check.specs.declared.access.Access.{Access}
use Rattle.order_check.specs.declared.edge.Kind.TheVariants.{Read, Replaced}
use Rattle.order_check.specs.declared.link.Link.{Link}
use Rattle.order_check.specs.declared.replacers.Replacers.{Replacers}
use Rattle.order_check.specs.Graphs.{Graph}
use Rattle.order_check.specs.Growth.{Adds}
use Rattle.order_check.specs.Tables.{DoesReplace, DoesWrite, IsAmong, IsFrom, Knows, replacer_in}
use Rattle.order_check.specs.Joined.{NeedsAt, DoesAt, SourceIs, AreReplacers, AreSourced, Means, AreMeant, IsEdge, Keeps, EdgesOne, meaning_of, source_in, txn_of, version_in}

needs_at : (accesses : List Access) (a : Access) → IsAmong a accesses → NeedsAt accesses a.txn (a.key, a.need)
needs_at accesses a is_in = record { by = a; is_among = is_in; txn_is = refl; key_is = refl; need_is = refl }

pub among_there : (xs : List Access) (i : ℕ) (a : Access) → slice_get xs i ≡ Some a → IsAmong a xs
among_there [] i a there = absurd (cc there)
among_there (x ∷ xs) zero a there = inl (cc there)
among_there (x ∷ xs) (suc i) a there = inr (among_there xs i a there)

-- One more edge with its meaning.
meant_more : (accesses : List Access) (since : ℕ → ℕ) (edge : Link) (to : ℕ) (old new : Graph) → Adds edge to old new → Means accesses since edge to → AreMeant accesses since old → AreMeant accesses since new
meant_more accesses since edge to old new adds means were u l has = elim (adds.only u l has) [
  | inl before ↦ were u l before
  | inr last ↦ subst (λ m. Means accesses since m u) (sym last.1) (subst (Means accesses since edge) (sym last.0) means)
]

edge_from : (edge : Link) (to : ℕ) (old new : Graph) → Adds edge to old new → IsEdge new edge.from to
edge_from edge to old new adds = record { edge = edge; there = adds.there; from_is = refl }

pub more_edge : (old new : Graph) (t u : ℕ) → Keeps old new → IsEdge old t u → IsEdge new t u
more_edge old new t u keeps l = record { edge = l.edge; there = keeps u l.edge l.there; from_is = l.from_is }

-- What comes from one source is one value at one key.
pub same_need : (accesses : List Access) (a b : Access) → AreSourced accesses → IsAmong a accesses → IsAmong b accesses → IsFrom a.key a.source b → (b.key ≡ a.key) × (b.need ≡ a.need)
same_need accesses a b sourced in_a in_b from = at a.source refl (sourced a in_a) from
  where
    at : (s : Option ℕ) → a.source ≡ s → SourceIs accesses a s → IsFrom a.key s b → (b.key ≡ a.key) × (b.need ≡ a.need)
    at None is of_a from_a = (from_a.0, subst (SourceIs accesses b) from_a.1 (sourced b in_b) ∙ sym of_a)
    at (Some i) is of_a from_a =
        let of_b : SourceIs accesses b (Some i) = subst (SourceIs accesses b) from_a (sourced b in_b) in
        let same : of_b.by ≡ of_a.by = cc (sym of_b.there ∙ of_a.there) in (
          sym of_b.does_it.0 ∙ ap (λ (x : Access). x.key) same ∙ of_a.does_it.0,
          sym of_b.does_it.1 ∙ ap (λ (x : Access). x.left) same ∙ of_a.does_it.1,
        )

-- The transaction of the source writes what the access needs.
pub source_writes : (accesses : List Access) (a : Access) (s : Option ℕ) (t : ℕ) → SourceIs accesses a s → source_in accesses s ≡ Some t → DoesAt (DoesWrite (a.key, a.need)) accesses t
source_writes accesses a None t of is = absurd (cc is)
source_writes accesses a (Some i) t of is =
    record { by = of.by; is_among = among_there accesses i of.by of.there; does_it = of.does_it; txn_is = cc (ap (λ o. txn_of o) (sym of.there) ∙ is) }

module _ (accesses : List Access) (replacers : Replacers) (i : ℕ) (a : Access) (told : AreReplacers accesses replacers) (sourced : AreSourced accesses) (here : slice_get accesses i ≡ Some a) where
  is_in : IsAmong a accesses
  is_in = among_there accesses i a here

  version_is : version_in (slice_get accesses i) ≡ (a.key, a.need)
  version_is = ap version_in here

  -- The edge from the source was added, if there is one.
  pub record Reads (old mid : Graph) : Type 0 where
    pub len : length mid ≡ length old
    pub keeps : Keeps old mid
    pub reads : (t : ℕ) → source_in accesses a.source ≡ Some t → IsEdge mid t a.txn
    pub meant : (since : ℕ → ℕ) → AreMeant accesses since old → AreMeant accesses since mid

  pub reads_nothing : (old mid : Graph) → mid ≡ old → ((t : ℕ) → source_in accesses a.source ≡ Some t → ⊥) → Reads old mid
  reads_nothing old mid same none =
      subst (Reads old) (sym same) (record { len = refl; keeps = λ u l has. has; reads = λ t is. absurd (none t is); meant = λ since were. were })

  pub reads_from : (old mid : Graph) (t : ℕ) → source_in accesses a.source ≡ Some t → Adds (record { from = t; kind = Read; index = i }) a.txn old mid → Reads old mid
  reads_from old mid t is adds = record {
    len = adds.len;
    keeps = adds.stays;
    reads = λ u u_is. let same : t ≡ u = cc (sym is ∙ u_is) in subst (λ v. IsEdge mid v a.txn) same (edge_from (record { from = t; kind = Read; index = i }) a.txn old mid adds);
    meant = λ since were. meant_more accesses since (record { from = t; kind = Read; index = i }) a.txn old mid adds (subst (λ q. meaning_of accesses since Read t q a.txn) (sym version_is) (source_writes accesses a a.source t (sourced a is_in) is, needs_at accesses a is_in)) were;
  }

  module _ (old mid : Graph) (part : Reads old mid) where
    -- Nobody replaces what the access needs.
    pub none_replaces : replacer_in replacers a.key a.source ≡ None → EdgesOne accesses replacers a old mid
    none_replaces none = record {
      len = part.len;
      keeps = part.keeps;
      joined = record { reads = part.reads; replaces = λ f is. absurd (cc (sym none ∙ is)); twice = λ f is. absurd (cc (sym none ∙ is)) };
      meant = part.meant;
    }

    module _ (first : ℕ) (first_is : replacer_in replacers a.key a.source ≡ Some first) where
      same_first : (f : ℕ) → replacer_in replacers a.key a.source ≡ Some f → first ≡ f
      same_first f is = cc (sym first_is ∙ is)

      -- The transaction of the access itself replaces it.
      pub itself_replaces : first ≡ a.txn → EdgesOne accesses replacers a old mid
      itself_replaces same = record {
        len = part.len;
        keeps = part.keeps;
        joined = record {
          reads = part.reads;
          replaces = λ f is other. absurd (other (sym same ∙ same_first f is));
          twice = λ f is other. absurd (other (sym same ∙ same_first f is));
        };
        meant = part.meant;
      }

      replacer : DoesAt (DoesReplace a.key a.source) accesses first
      replacer = subst (Knows (DoesAt (DoesReplace a.key a.source) accesses) (DoesReplace a.key a.source) accesses) first_is (told a.key a.source)

      same : (replacer.by.key ≡ a.key) × (replacer.by.need ≡ a.need)
      unfolding replacer
      same = same_need accesses a replacer.by sourced is_in replacer.is_among replacer.does_it.0

      abbrev pub forth : Link
      forth = record { from = a.txn; kind = Replaced; index = i }

      abbrev pub back : Link
      back = record { from = first; kind = Replaced; index = i }

      forth_meant : (since : ℕ → ℕ) → (first ≡ a.txn → ⊥) → Means accesses since forth first
      forth_meant since other =
          subst (λ q. meaning_of accesses since Replaced a.txn q first) (sym version_is) (needs_at accesses a is_in, record { by = replacer.by; is_among = replacer.is_among; does_it = (same.0, same.1, replacer.does_it.1); txn_is = replacer.txn_is }, λ is. other (sym is))

      back_meant : (since : ℕ → ℕ) → (first ≡ a.txn → ⊥) → a.need ≢ a.left → Means accesses since back a.txn
      back_meant since other changed = subst (λ q. meaning_of accesses since Replaced first q a.txn) (sym version_is) (
        record { by = replacer.by; is_among = replacer.is_among; txn_is = replacer.txn_is; key_is = same.0; need_is = same.1 },
        record { by = a; is_among = is_in; does_it = (refl, refl, changed); txn_is = refl },
        other,
      )

      -- Another transaction replaces what the access only reads.
      pub other_replaces : (new : Graph) → (first ≡ a.txn → ⊥) → Adds forth first mid new → a.need ≡ a.left → EdgesOne accesses replacers a old new
      other_replaces new other adds unchanged = record {
        len = adds.len ∙ part.len;
        keeps = λ u l has. adds.stays u l (part.keeps u l has);
        joined = record {
          reads = λ t is. more_edge mid new t a.txn adds.stays (part.reads t is);
          replaces = λ f is apart. subst (λ d. IsEdge new a.txn d) (same_first f is) (edge_from forth first mid new adds);
          twice = λ f is apart changed. absurd (changed unchanged);
        };
        meant = λ since were. meant_more accesses since forth first mid new adds (forth_meant since other) (part.meant since were);
      }

      -- Another transaction replaces what the access replaces too.
      pub both_replace : (new newer : Graph) → (first ≡ a.txn → ⊥) → Adds forth first mid new → Adds back a.txn new newer → a.need ≢ a.left → EdgesOne accesses replacers a old newer
      both_replace new newer other adds more changed = record {
        len = more.len ∙ adds.len ∙ part.len;
        keeps = λ u l has. more.stays u l (adds.stays u l (part.keeps u l has));
        joined = record {
          reads = λ t is. more_edge mid newer t a.txn (λ u l has. more.stays u l (adds.stays u l has)) (part.reads t is);
          replaces = λ f is apart. subst (λ d. IsEdge newer a.txn d) (same_first f is) (more_edge new newer a.txn first more.stays (edge_from forth first mid new adds));
          twice = λ f is apart differ. subst (λ d. IsEdge newer d a.txn) (same_first f is) (edge_from back a.txn new newer more);
        };
        meant = λ since were. meant_more accesses since back a.txn new newer more (back_meant since other changed) (meant_more accesses since forth first mid new adds (forth_meant since other) (part.meant since were));
      }
