-- Which replies visitors got, given their entries in a legal history.
use Rattle.std.proofs.Common.{◌≡◌, ℕ, Bool, true, false, cond, List, [], ◌∷◌, ◌++◌, Option, Some, None, IsSome, IfOk, refl, sym, ap, subst}
use Rattle.std.proofs.Common.{◌∙◌, append_assoc, append-nil, eq-eqb}
use Rattle.std.specs.Prelude.{nat_eq, Result, Ok, Err}
use Rattle.samples.specs.Vocabulary.{AloneRun, Asked, Began, Begun, Caller, Committed, Did, Entry, Get, IsLegal, IsRun, IsSince, IsStep}
use Rattle.samples.specs.Vocabulary.{Map, Op, Put, Stop, act, alone, caller_of, fold, get, insert, number, option_and_then, option_eq, own}
use Rattle.samples.specs.Vocabulary.{seen, serial}
use Rattle.samples.proofs.Vocabulary.{false≢true, get-insert-here, own-append, own_extends, same_option}
use Rattle.txn_trace.proofs.Committing.{has_committed}
use Rattle.striped_map.specs.Rule.{HasEnded}
use Rattle.samples.specs.declared.visits.Visit.{Visit}
use Rattle.samples.specs.Visits.{visiting, working, HasDone, HasMade, HasVisited, IsAnswered}

-- If a run reaches its commit, the operation before it had the right reply.
tested : (c place : ℕ) (b : Bool) (run : AloneRun) → IsSome (option_and_then (λ r. act r (Committed c place)) (cond b (Some run) None)) → b ≡ true
tested c place true run there = refl
tested c place false run there = absurd (false≢true there)

-- If a visit runs alone on any map, it gets the value that it has put.
got_alone : (m : Map) (c : ℕ) (visit : Visit) (txn : ℕ) (before reply : Option ℕ) (place : ℕ) → IsSome (alone m (visiting c visit txn before reply place)) → reply ≡ Some visit.value
got_alone m c visit txn before reply place =
    let put : Map = insert m visit.key visit.value in
    let run : AloneRun = record { last = put; earlier = m ∷ []; pending = None; notes = 1 ∷ [] } in
    elim (option_eq nat_eq before (get m visit.key)) as (λ b. IsSome (fold (λ o e. option_and_then (λ r. act r e) o) (cond b (Some run) None) (Asked c (Get visit.key) ∷ Did c reply ∷ Committed c place ∷ [])) → reply ≡ Some visit.value) [
      | true ↦ λ there. same_option reply (get put visit.key) (tested c place (option_eq nat_eq reply (get put visit.key)) _ there) ∙ get-insert-here m visit.key visit.value
      | false ↦ λ there. absurd (false≢true there)
    ]

-- In every legal history that begins with what a visitor has seen and has no more entries of it,
-- the visit got the value that it had put, whatever the other callers do.
pub got_at_end : (visit : Visit) (reply : Option ℕ) (me : Caller) (stripes : ℕ) (h : List Entry) → HasVisited visit reply me → IsLegal Begun stripes h → HasEnded (number me) (seen me) h → IsAnswered h (number me) visit reply
got_at_end visit reply me stripes h visited legal ended =
    let c : ℕ = number me in
    let all : List Entry = visiting c visit visited.txn visited.before reply visited.place in
    let own_is : own c h ≡ own c (seen me) =
    ap (own c) ended.goes ∙ own-append c (seen me) ended.rest ∙ ap (λ es. own c (seen me) ++ es) ended.others ∙ append-nil (own c (seen me)) in
    let committed = has_committed c visited.txn visited.place h visited.earlier (working c visit visited.before reply) [] legal.shape legal.replies
    (own_is ∙ visited.own_is ∙ ap (λ es. visited.earlier ++ es) (sym (append-nil all))) refl in
    record {
      txn = visited.txn;
      before = visited.before;
      place = visited.place;
      whole = committed.whole;
      got = got_alone (serial committed.before) c visit visited.txn visited.before reply visited.place committed.replied;
    }

-- A step adds exactly its entries to the caller's own ones.
adds : (a b : Caller) (es : List Entry) → IsStep a es b → own (number a) es ≡ es → own (number a) (seen b) ≡ own (number a) (seen a) ++ es
adds a b es step whole = own_extends _ _ _ _ _ _ step.goes whole

own_one : (c : ℕ) (e : Entry) → caller_of e ≡ c → own c (e ∷ []) ≡ e ∷ []
own_one c e is = ap (λ b. cond b (e ∷ []) []) (eq-eqb (caller_of e) c is)

own_did : (c : ℕ) (op : Op) (reply : Option ℕ) → own c (Asked c op ∷ Did c reply ∷ []) ≡ Asked c op ∷ Did c reply ∷ []
own_did c op reply =
    ap (λ b. cond b (Asked c op ∷ cond b (Did c reply ∷ []) []) (cond b (Did c reply ∷ []) [])) (eq-eqb c c refl)

-- If the visitor has put the value and has then got the value at the key, `HasDone` holds.
pub has_done : {E : Type 0} (visit : Visit) (before : Option ℕ) (a b c : Caller) (result : Result (Option ℕ) E)
    → IsStep a (Asked (number a) (Put visit.key visit.value) ∷ Did (number a) before ∷ []) b
    → IfOk result (λ reply. IsStep b (Asked (number b) (Get visit.key) ∷ Did (number b) reply ∷ []) c)
    → IfOk result (λ reply. HasDone visit reply a c)
has_done visit before a b c (Ok reply) put got =
    let n : ℕ = number a in
    let first : own n (seen b) ≡ own n (seen a) ++ Asked n (Put visit.key visit.value) ∷ Did n before ∷ [] = adds a b _ put (own_did n (Put visit.key visit.value) before) in
    let second : own n (seen c) ≡ own n (seen b) ++ Asked n (Get visit.key) ∷ Did n reply ∷ [] =
    subst (λ (k : ℕ). own k (seen c) ≡ own k (seen b) ++ Asked k (Get visit.key) ∷ Did k reply ∷ []) put.number_is (adds b c _ got (own_did (number b) (Get visit.key) reply)) in
    record {
      before = before;
      number_is = got.number_is ∙ put.number_is;
      own_is = second ∙ ap (λ es. es ++ Asked n (Get visit.key) ∷ Did n reply ∷ []) first
          ∙ append_assoc (own n (seen a)) (Asked n (Put visit.key visit.value) ∷ Did n before ∷ []) (Asked n (Get visit.key) ∷ Did n reply ∷ []);
    }
has_done visit before a b c (Err e) put got = got

-- If the visit was made in a transaction, and this transaction was committed, `HasVisited` holds.
pub has_visited : (visit : Visit) (reply : Option ℕ) (found : Option ℕ) (b t u l : Caller) → IsRun b t u l found → HasDone visit reply t u → HasVisited visit reply l
has_visited visit reply found b t u l run work =
    let c : ℕ = number b in
    let begin : Entry = Began c run.txn in
    let end : Entry = Committed c run.place in
    let inner : List Entry = working c visit work.before reply in
    let t_is : number t ≡ c = run.began.number_is in
    let u_is : number u ≡ c = work.number_is ∙ t_is in
    let begun : own c (seen t) ≡ own c (seen b) ++ begin ∷ [] = adds b t _ run.began (own_one c begin refl) in
    let worked : own c (seen u) ≡ own c (seen t) ++ inner = subst (λ (k : ℕ). own k (seen u) ≡ own k (seen t) ++ working k visit work.before reply) t_is work.own_is in
    let ended : own c (seen l) ≡ own c (seen u) ++ end ∷ [] = subst (λ (k : ℕ). own k (seen l) ≡ own k (seen u) ++ end ∷ []) u_is (adds u l _ run.committed (own_one (number u) end (sym u_is))) in
    let whole : own c (seen l) ≡ own c (seen b) ++ visiting c visit run.txn work.before reply run.place =
    ended ∙ ap (λ es. es ++ end ∷ []) (worked ∙ ap (λ es. es ++ inner) begun ∙ append_assoc (own c (seen b)) (begin ∷ []) inner)
    ∙ append_assoc (own c (seen b)) (begin ∷ inner) (end ∷ []) in
    record {
      earlier = own c (seen b);
      txn = run.txn;
      before = work.before;
      place = run.place;
      own_is = subst (λ (k : ℕ). own k (seen l) ≡ own c (seen b) ++ visiting k visit run.txn work.before reply run.place) (sym (run.committed.number_is ∙ u_is)) whole;
    }

-- If the visit was made and committed, `HasMade` holds.
pub has_made : (visit : Visit) (reply : Option ℕ) (found : Option ℕ) (a b t u l : Caller) → IsSince a b → IsRun b t u l found → HasDone visit reply t u → (a.is_open ≡ false → l.is_open ≡ false) → HasMade visit (Ok reply) a l
has_made visit reply found a b t u l since run work closed = record {
  map_is = ap (λ m. m.value) (run.committed.map_is ∙ run.works.since.map_is ∙ run.began.map_is ∙ since.map_is);
  number_is = run.committed.number_is ∙ work.number_is ∙ run.began.number_is ∙ since.number_is;
  made_is = run.committed.made_is ∙ run.works.since.made_is ∙ run.began.made_is ∙ since.made_is;
  closed = closed;
  visited = has_visited visit reply found b t u l run work;
}

-- If the visit was given up, `HasMade` holds too.
pub not_made : (visit : Visit) (stop : Stop) (a b : Caller) → IsSince a b → (a.is_open ≡ false → b.is_open ≡ false) → HasMade visit (Err stop) a b
not_made visit stop a b since closed = record {
  map_is = ap (λ m. m.value) since.map_is;
  number_is = since.number_is;
  made_is = since.made_is;
  closed = closed;
  visited = tt;
}
