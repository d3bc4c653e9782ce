-- The entries that a caller's steps add, one after another, and the entries of a transfer.
use Rattle.std.proofs.Common.{◌≡◌, ℕ, ◌+◌, cond, true, false, List, [], ◌∷◌, ◌++◌, Option, unwrap_or, refl, sym, ap, subst, ◌∙◌}
use Rattle.std.proofs.Common.{append_assoc, append-nil, eq-eqb}
use Rattle.samples.specs.Vocabulary.{Asked, Caller, Did, Entry, Get, IsStep, Op, Put, number, own, seen}
use Rattle.samples.proofs.Vocabulary.{own-append}
use Rattle.samples.specs.StripedTransfers.{CannotMove, HasAdded, HasWorked, reading, writing}

added_none : (a : Caller) → HasAdded a [] a
added_none a = record { map_is = refl; number_is = refl; rest = []; goes = sym (append-nil (seen a)); own_is = refl }

-- After one more step, the caller has also added the entries of this step.
added_step : (a b c : Caller) (es fs : List Entry) → own (number a) fs ≡ fs → HasAdded a es b → IsStep b fs c → HasAdded a (es ++ fs) c
added_step a b c es fs mine so_far step =
    let n : ℕ = number a in
    let between : List Entry = step.goes.between in
    let others : own n between ≡ [] = subst (λ (k : ℕ). own k between ≡ []) so_far.number_is step.goes.others in
    record {
      map_is = step.map_is ∙ so_far.map_is;
      number_is = step.number_is ∙ so_far.number_is;
      rest = so_far.rest ++ (between ++ fs);
      goes =
          step.goes.goes ∙ ap (λ (l : List Entry). (l ++ between) ++ fs) so_far.goes
          ∙ append_assoc (seen a ++ so_far.rest) between fs ∙ append_assoc (seen a) so_far.rest (between ++ fs);
      own_is =
          own-append n so_far.rest (between ++ fs)
          ∙ ap (λ (l : List Entry). own n so_far.rest ++ l) (own-append n between fs ∙ ap (λ (l : List Entry). l ++ own n fs) others ∙ mine)
          ∙ ap (λ (l : List Entry). l ++ fs) so_far.own_is;
    }

own_did : (c d : ℕ) (op : Op) (reply : Option ℕ) → d ≡ c → own c (Asked d op ∷ Did d reply ∷ []) ≡ Asked d op ∷ Did d reply ∷ []
own_did c d op reply is =
    ap (λ b. cond b (Asked d op ∷ cond b (Did d reply ∷ []) []) (cond b (Did d reply ∷ []) [])) (eq-eqb d c is)

-- An operation adds an `Asked` and a `Did`.
added_did : (a b c : Caller) (es : List Entry) (op : Op) (reply : Option ℕ) → HasAdded a es b → IsStep b (Asked (number b) op ∷ Did (number b) reply ∷ []) c
    → HasAdded a (es ++ Asked (number a) op ∷ Did (number a) reply ∷ []) c
added_did a b c es op reply so_far step =
    subst (λ (n : ℕ). HasAdded a (es ++ Asked n op ∷ Did n reply ∷ []) c) so_far.number_is
    (added_step a b c es (Asked (number b) op ∷ Did (number b) reply ∷ []) (own_did (number a) (number b) op reply so_far.number_is) so_far step)

-- If both accounts were read, the caller has added the entries of `reading`.
added_reads : (a s t : Caller) (from to : ℕ) (had has : Option ℕ)
    → IsStep a (Asked (number a) (Get from) ∷ Did (number a) had ∷ []) s → IsStep s (Asked (number s) (Get to) ∷ Did (number s) has ∷ []) t
    → HasAdded a (reading (number a) from to had has) t
added_reads a s t from to had has first second =
    added_did a s t (Asked (number a) (Get from) ∷ Did (number a) had ∷ []) (Get to) has (added_did a a s [] (Get from) had (added_none a) first) second

pub not_moved : (a s t : Caller) (from to sum : ℕ) (had has : Option ℕ) → CannotMove sum (unwrap_or had 0) (unwrap_or has 0)
    → IsStep a (Asked (number a) (Get from) ∷ Did (number a) had ∷ []) s → IsStep s (Asked (number s) (Get to) ∷ Did (number s) has ∷ []) t
    → HasWorked from to sum false a t
not_moved a s t from to sum had has cannot first second = record {
  entries = reading (number a) from to had has;
  added = added_reads a s t from to had has first second;
  had = had;
  has = has;
  written = (cannot, refl);
}

pub moved : (a s t u l : Caller) (from to sum less more : ℕ) (had has one two : Option ℕ) → less + sum ≡ unwrap_or had 0 → more ≡ unwrap_or has 0 + sum
    → IsStep a (Asked (number a) (Get from) ∷ Did (number a) had ∷ []) s → IsStep s (Asked (number s) (Get to) ∷ Did (number s) has ∷ []) t
    → IsStep t (Asked (number t) (Put from less) ∷ Did (number t) one ∷ []) u → IsStep u (Asked (number u) (Put to more) ∷ Did (number u) two ∷ []) l
    → HasWorked from to sum true a l
moved a s t u l from to sum less more had has one two enough more_is first second third fourth =
    let n : ℕ = number a in
    let reads : List Entry = reading n from to had has in
    let put : List Entry = reads ++ Asked n (Put from less) ∷ Did n one ∷ [] in
    record {
      entries = reads ++ writing n from to less more one two;
      added = added_did a u l put (Put to more) two (added_did a t u reads (Put from less) one (added_reads a s t from to had has first second) third) fourth;
      had = had;
      has = has;
      written = (less, enough, one, two, ap (λ (k : ℕ). reads ++ writing n from to less k one two) more_is);
    }
