-- What a transfer's commit means. If a legal history ends with the commit, the transaction has the
-- same replies as if it ran alone on the map that the earlier commits leave.
use Rattle.std.proofs.Common.{◌≡◌, ◌≢◌, ℕ, zero, suc, ◌+◌, Bool, true, false, cond, List, [], ◌∷◌, ◌++◌, Some, Option, is_some, IsSome}
use Rattle.std.proofs.Common.{slice_get, refl, sym, ap, subst, ◌∙◌, append_assoc, append-nil}
use Rattle.samples.specs.Vocabulary.{Began, Begun, Caller, Committed, Entry, IsLegal, IsRun, IsSince, alone, how_many, is_commit, map_after}
use Rattle.samples.specs.Vocabulary.{number, of, own, seen, serial, stripes_in, stripes_of}
use Rattle.samples.proofs.Vocabulary.{own-append, own_extends}
use Rattle.std.specs.List.{filter}
use Rattle.std.proofs.lemmas.Bool.{eqb-true, eq-eqb}
use Rattle.txn_words.specs.Kinds.{is_began}
use Rattle.txn_words.specs.Shape.{is_shaped, IsShaped}
use Rattle.txn_trace.proofs.Committing.{own_goes, commits_so}
use Rattle.txn_trace.proofs.Pushes.{txn_in, txn_at, txn_in-push, of-push_in, alone-push, own-push_in, how_many-push}
use Rattle.txn_trace.proofs.Callers.{Callers, ended, shaped_number, not_after_end}
use Rattle.txn_trace.proofs.Shaped.{callers_of, first_of_rest, shape_front}
use Rattle.txn_trace.proofs.StanceRuns.{none_before, have_stances}
use Rattle.txn_trace.proofs.Steps.{serial-push_commit}
use Rattle.txn_trace.proofs.Now.{open_going}
use Rattle.striped_map.specs.Callers.{stripes_held}
use Rattle.striped_map.specs.Steps.{Extends}
use Rattle.striped_map.proofs.CallSpans.{since_then, since_began}
use Rattle.samples.specs.StripedTransfers.{HasTransferred, HasWorked, HasWritten, Makes}
use Rattle.samples.proofs.Works.{made}

-- The facts about a transfer's commit: the commit's number, the transaction's replies, and the map
-- that the commit leaves.
pub record Ends (c txn place : ℕ) (inner before : List Entry) : Type 0 where
  pub counted : place ≡ how_many is_commit before + 1
  pub replied : IsSome (alone (serial before) (Began c txn ∷ inner ++ Committed c place ∷ []))
  pub leaves : serial (before ++ Committed c place ∷ []) ≡ map_after (serial before) (Began c txn ∷ inner ++ Committed c place ∷ [])

not_true : (b : Bool) → (b ≡ true → ⊥) → b ≡ false
not_true true never = absurd (never refl)
not_true false never = refl

pub ends : (n c txn place : ℕ) (g k inner : List Entry) → IsLegal Begun n (((g ++ Began c txn ∷ []) ++ k) ++ Committed c place ∷ []) → own c k ≡ inner → filter is_began inner ≡ [] → Ends c txn place inner ((g ++ Began c txn ∷ []) ++ k)
ends n c txn place g k inner legal inner_is quiet =
    let begin : Entry = Began c txn in
    let end : Entry = Committed c place in
    let begun : List Entry = g ++ begin ∷ [] in
    let before : List Entry = begun ++ k in
    let shape_end : IsShaped (before ++ end ∷ []) = legal.shape in
    let shape_before : IsShaped before = shape_front (before ++ end ∷ []) before shape_end (end ∷ [], refl) in
    let shape_begun : IsShaped begun = shape_front before begun shape_before (k, refl) in
    let shape_g : IsShaped g = shape_front begun g shape_begun (begin ∷ [], refl) in
    let starts : is_shaped g begin ≡ true = first_of_rest g [] begin shape_begun in
    let shaped : is_shaped before end ≡ true = first_of_rest before [] end shape_end in
    let callers : Callers before = callers_of before shape_before in
    let began_at : txn_at g begin ≡ Some txn = ap (λ b. cond b (Some txn) (txn_in g c)) (eq-eqb c c refl) in
    let first : of txn begun ≡ begin ∷ [] = of-push_in txn g begin began_at ∙ ap (λ es. es ++ begin ∷ []) (none_before g begin (callers_of g shape_g) starts (have_stances g shape_g) txn refl began_at) in
    let (of_is, in_it) = own_goes c txn begun k (callers_of begun shape_begun) shape_before (ap (λ f. f c) (txn_in-push g begin) ∙ began_at) (ap (filter is_began) inner_is ∙ quiet) in
    let so_far : of txn before ≡ begin ∷ inner = of_is ∙ (λ i. first i ++ inner_is i) in
    let all : of txn (before ++ end ∷ []) ≡ begin ∷ inner ++ end ∷ [] = of-push_in txn before end in_it ∙ ap (λ es. es ++ end ∷ []) so_far in
    let going : ended txn before ≡ false = not_true (ended txn before) (λ done. not_after_end before end txn callers shaped done in_it) in
    record {
      counted = eqb-true place (how_many is_commit before + 1) (shaped_number before end shaped);
      replied =
          ap is_some (ap (alone (serial before)) (ap (λ es. es ++ end ∷ []) (sym so_far)) ∙ alone-push (serial before) (of txn before) end)
          ∙ commits_so c place (alone (serial before) (of txn before)) (legal.replies before (end ∷ [], refl) txn (open_going txn before going));
      leaves = serial-push_commit before end callers shape_before shaped shape_end txn refl in_it ∙ ap (map_after (serial before)) all;
    }

quiet_in : (c from to sum : ℕ) (moved : Bool) (had has : Option ℕ) (es : List Entry) → HasWritten c from to sum moved had has es → filter is_began es ≡ []
quiet_in c from to sum true had has es (less, enough, one, two, is) = ap (filter is_began) is
quiet_in c from to sum false had has es (cannot, is) = ap (filter is_began) is

prefix : (xs ys : List Entry) (i : ℕ) (e : Entry) → slice_get xs i ≡ Some e → slice_get (xs ++ ys) i ≡ Some e
prefix [] ys i e is = absurd (cc is)
prefix (x ∷ xs) ys zero e is = is
prefix (x ∷ xs) ys (suc i) e is = prefix xs ys i e is

-- If the work of a transfer was run and committed, `HasTransferred` holds.
pub transferred : (from to sum : ℕ) (found : Option ℕ) (moved : Bool) (a b t u l : Caller) → from ≢ to → IsSince a b → IsRun b t u l found → HasWorked from to sum moved t u
    → HasTransferred from to sum moved a l
transferred from to sum found moved a b t u l apart since run worked =
    let c : ℕ = number a in
    let place : ℕ = run.place in
    let end : Entry = Committed c place in
    let begin : Entry = Began c run.txn in
    let n : ℕ = stripes_in u in
    let t_is : number t ≡ c = run.began.number_is ∙ since.number_is in
    let u_is : number u ≡ c = worked.added.number_is ∙ t_is in
    let begins : Extends (stripes_in b) c (stripes_held b) (seen b) (begin ∷ []) (seen t) = subst (λ (k : ℕ). Extends (stripes_in b) k (stripes_held b) (seen b) (Began k run.txn ∷ []) (seen t)) since.number_is run.began.goes in
    let commits : Extends n c (stripes_held u) (seen u) (end ∷ []) (seen l) =
    subst (λ (k : ℕ). Extends n c (stripes_held u) (seen u) (Committed k place ∷ []) (seen l)) since.number_is
    (subst (λ (k : ℕ). Extends n k (stripes_held u) (seen u) (Committed (number b) place ∷ []) (seen l)) u_is run.committed.goes) in
    let begun : List Entry = (seen b ++ begins.between) ++ begin ∷ [] in
    let rest : List Entry = worked.added.rest in
    let k : List Entry = rest ++ commits.between in
    let ends_so : seen l ≡ (begun ++ k) ++ end ∷ [] =
    commits.goes ∙ ap (λ (s : List Entry). (s ++ commits.between) ++ end ∷ []) (worked.added.goes ∙ ap (λ (s : List Entry). s ++ rest) begins.goes)
    ∙ ap (λ (s : List Entry). s ++ end ∷ []) (append_assoc begun rest commits.between) in
    let written : HasWritten c from to sum moved worked.had worked.has worked.entries = subst (λ (d : ℕ). HasWritten d from to sum moved worked.had worked.has worked.entries) t_is worked.written in
    let inner_is : own c k ≡ worked.entries =
    own-append c rest commits.between ∙ ap (λ (s : List Entry). own c rest ++ s) commits.others ∙ append-nil (own c rest)
    ∙ subst (λ (d : ℕ). own d rest ≡ worked.entries) t_is worked.added.own_is in
    let alone_is : Ends c run.txn place worked.entries (begun ++ k) =
    ends n c run.txn place (seen b ++ begins.between) k worked.entries (subst (IsLegal Begun n) ends_so commits.legal) inner_is
    (quiet_in c from to sum moved worked.had worked.has worked.entries written) in
    let so_far : IsSince a u = since_then a b u since (since_then b t u (since_began b t run.txn run.began) run.works.since) in
    record {
      map_is = run.committed.map_is ∙ so_far.map_is;
      number_is = run.committed.number_is ∙ u_is;
      goes = λ i e is. subst (λ (s : List Entry). slice_get s i ≡ Some e) (sym commits.goes) (prefix (seen u ++ commits.between) (end ∷ []) i e (prefix (seen u) commits.between i e (so_far.goes i e is)));
      legal = subst (λ m. IsLegal Begun (stripes_of m.value) (seen l)) (sym run.committed.map_is) commits.legal;
      once =
          ap (how_many is_commit) (own_extends n c (stripes_held u) (seen u) (end ∷ []) (seen l) commits (own-push_in c [] end refl))
          ∙ how_many-push is_commit (own c (seen u)) end ∙ ap (λ (j : ℕ). j + 1) so_far.commits;
      place = place;
      before = begun ++ k;
      ends = ends_so;
      place_is = alone_is.counted;
      makes =
          subst (λ m. Makes from to sum moved (serial (begun ++ k)) m) (sym (ap serial ends_so ∙ alone_is.leaves))
          (made (serial (begun ++ k)) c run.txn place from to sum moved worked.had worked.has worked.entries apart written alone_is.replied);
    }
