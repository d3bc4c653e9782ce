-- The text of a verdict by any order, as it grows.
use Rattle.std.proofs.Common.{◌≡◌, ℕ, ◌+◌, ◌<◌, Bool, List, [], ◌∷◌, ◌++◌, length, take, get_or, Option, refl, sym, ap, ap₂, ◌∙◌, append_assoc, append-nil}
use Rattle.std.specs.Prelude.{slice_get}
use Rattle.std.proofs.lemmas.List.{take_more}
use Rattle.std.proofs.lemmas.Option.{slice_get-get_or}
use Rattle.txn_words.specs.declared.entry.Entry.{Entry}
use Rattle.order_check.specs.declared.edge.Edge.{Edge}
use Rattle.order_check.specs.declared.verdict.Verdict.{Verdict}
use Rattle.order_check.specs.declared.verdict.Verdict.TheVariants.{Serializable, NotSerializable, Undecided}
use Rattle.judge_engine.specs.declared.order.Ordered.{Ordered}
use Rattle.judge_engine.specs.OrderLines.{each_edge, each_txn, first_from, from_or, order_text, serializable_text, text_by}
use Rattle.judge_engine.specs.Ordered.{IsOrdered}
use Rattle.judge_engine.proofs.Listed.{joined}

-- ---- the edges of a cycle

first_push : (edges : List Edge) (edge : Edge) (end : ℕ) → first_from (edges ++ edge ∷ []) end ≡ first_from edges edge.from
first_push [] edge end = refl
first_push (x ∷ edges) edge end = refl

pub first_is : (edges : List Edge) (end : ℕ) → from_or (slice_get edges 0) end ≡ first_from edges end
first_is [] end = refl
first_is (x ∷ edges) end = refl

module _ (text : Edge → ℕ → List ℕ) where
  edges_push : (edges : List Edge) (edge : Edge) (end : ℕ) → each_edge text (edges ++ edge ∷ []) end ≡ each_edge text edges edge.from ++ text edge end
  edges_push [] edge end = append-nil (text edge end)
  edges_push (x ∷ edges) edge end =
      ap₂ (λ (u : ℕ) (rest : List ℕ). text x u ++ rest) (first_push edges edge end) (edges_push edges edge end)
      ∙ sym (append_assoc (text x (first_from edges edge.from)) (each_edge text edges edge.from) (text edge end))

  -- If `old` is `start` followed by the texts of the first `i` edges, adding the next edge's text
  -- gives `start` followed by the texts of the first `i + 1` edges.
  pub grown_edges : (new old start : List ℕ) (edges : List Edge) (i : ℕ) (d : Edge) (to end : ℕ) → new ≡ old ++ text (get_or edges i d) to → old ≡ start ++ each_edge text (take i edges) (from_or (slice_get edges i) end) → to ≡ from_or (slice_get edges (i + 1)) end → i < length edges
      → new ≡ start ++ each_edge text (take (i + 1) edges) (from_or (slice_get edges (i + 1)) end)
  grown_edges new old start edges i d to end adds before leads within =
      let edge = get_or edges i d in
      let here = before ∙ ap (λ (o : Option Edge). start ++ each_edge text (take i edges) (from_or o end)) (slice_get-get_or edges i d within) in
      joined start (each_edge text (take i edges) edge.from) (text edge to) old new here adds
      ∙ ap (λ words. start ++ words)
      (sym (edges_push (take i edges) edge to) ∙ ap₂ (each_edge text) (sym (take_more edges i d within)) leads)

-- ---- the transactions of an order, or those that write a value

module _ (text : ℕ → List ℕ) where
  txns_push : (ts : List ℕ) (t : ℕ) → each_txn text (ts ++ t ∷ []) ≡ each_txn text ts ++ text t
  txns_push [] t = append-nil (text t)
  txns_push (x ∷ ts) t = ap (λ rest. text x ++ rest) (txns_push ts t) ∙ sym (append_assoc (text x) (each_txn text ts) (text t))

  pub grown_txns : (new old start : List ℕ) (ts : List ℕ) (i d : ℕ) → new ≡ old ++ text (get_or ts i d) → old ≡ start ++ each_txn text (take i ts) → i < length ts → new ≡ start ++ each_txn text (take (i + 1) ts)
  grown_txns new old start ts i d line before within =
      joined start (each_txn text (take i ts)) (text (get_or ts i d)) old new before line
      ∙ ap (λ lines. start ++ lines) (sym (txns_push (take i ts) (get_or ts i d)) ∙ ap (each_txn text) (sym (take_more ts i d within)))

-- ---- the text of a verdict on a history

module _ (real_time shows : Bool) (h : List Entry) where
  by_verdict : (verdict : Verdict) (ordered : Ordered) → ordered.verdict ≡ verdict → IsOrdered real_time h ordered → text_by real_time shows ordered.commits ordered.running verdict ≡ order_text real_time shows h verdict
  by_verdict (Serializable order) ordered is found =
      let shape = (rw is at found.verdict).0 in
      ap₂ (λ (n m : ℕ). serializable_text real_time shows n m order.items) (found.committed shape) (found.in_txn shape)
  by_verdict (NotSerializable reason) ordered is found = refl
  by_verdict (Undecided key value writers) ordered is found = refl

  -- The counts of the judge are those of the history, wherever the text has them.
  pub text_is : (ordered : Ordered) → IsOrdered real_time h ordered → text_by real_time shows ordered.commits ordered.running ordered.verdict ≡ order_text real_time shows h ordered.verdict
  text_is ordered found = by_verdict ordered.verdict ordered refl found
