-- What is known of those who replace a value, after one more access.
use Rattle.std.proofs.Common.{◌≡◌, ◌≢◌, ℕ, ◌+◌, ◌<◌, Option, Some, None, List, length, take, get_or, refl, sym, ◌∙◌, subst}
use Rattle.std.specs.Prelude.{IfSome}
use Rattle.std.proofs.lemmas.List.{take_more}
use Rattle.std.proofs.lemmas.Option.{slice_get_within}
use Rattle.order_check.specs.declared.access.Access.{Access}
use Rattle.order_check.specs.declared.replacers.Replacers.{Replacers}
use Rattle.order_check.specs.Joined.{DoesAt, SourceIs}
use Rattle.order_check.specs.Tables.{Version, DoesReplace, IsAmong, IsFrom, Knows, NotesReplacer, replacer_in}
use Rattle.order_check.proofs.Noting.{knows_more, knows_same, no_access}

-- A source of the list is an index of it.
pub source_within : (accesses : List Access) (a : Access) (s : Option ℕ) → SourceIs accesses a s → IfSome s (λ i. i < length accesses)
source_within accesses a None is = tt
source_within accesses a (Some i) is = slice_get_within accesses i is.by is.there

-- What the loop knows after so many accesses.
pub record Replacing (accesses : List Access) (i : ℕ) (r : Replacers) : Type 0 where
  pub len : length r.written.items ≡ length accesses
  pub known : (q : Version) → Knows (DoesAt (DoesReplace q.0 q.1) accesses) (DoesReplace q.0 q.1) (take i accesses) (replacer_in r q.0 q.1)

module _ (accesses : List Access) (i : ℕ) (below : i < length accesses) (old new : Replacers) (before : Replacing accesses i old) where
  abbrev x : Access
  x = get_or accesses i no_access

  pub replacing_more : IsAmong x accesses → x.need ≢ x.left → NotesReplacer x old new → Replacing accesses (i + 1) new
  replacing_more is_in changed notes = record {
    len = notes.len ∙ before.len;
    known = subst (λ ys. (q : Version) → Knows (DoesAt (DoesReplace q.0 q.1) accesses) (DoesReplace q.0 q.1) ys (replacer_in new q.0 q.1)) (sym (take_more accesses i no_access below))
        (knows_more (λ (q : Version). DoesAt (DoesReplace q.0 q.1) accesses) (λ (q : Version). DoesReplace q.0 q.1) (λ (q : Version). IsFrom q.0 q.1 x) (take i accesses) x x.txn (λ q. replacer_in old q.0 q.1) (λ q. replacer_in new q.0 q.1) notes.grows
        (λ q of. record { by = x; is_among = is_in; does_it = (of, changed); txn_is = refl }) (λ q does. does.0) before.known);
  }

  pub replacing_same : x.need ≡ x.left → new ≡ old → Replacing accesses (i + 1) new
  replacing_same unchanged is = subst (Replacing accesses (i + 1)) (sym is) (record {
    len = before.len;
    known = λ q. subst (λ ys. Knows (DoesAt (DoesReplace q.0 q.1) accesses) (DoesReplace q.0 q.1) ys (replacer_in old q.0 q.1)) (sym (take_more accesses i no_access below))
        (knows_same (DoesAt (DoesReplace q.0 q.1) accesses) (DoesReplace q.0 q.1) (take i accesses) x (replacer_in old q.0 q.1) (λ does. does.1 unchanged) (before.known q));
  })
