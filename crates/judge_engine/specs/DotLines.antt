-- PROMISES a-verdict-by-any-order-is-right: dot_text
-- The graph of a cycle, in the language of Graphviz' `dot`.
use Rattle.std.specs.Prelude.{ℕ, Bool, false, List, [], ◌∷◌, ◌++◌, if◌then◌else◌, codes, decimal}
use Rattle.txn_words.specs.declared.entry.Entry.{Entry}
use Rattle.order_check.specs.declared.edge.Edge.{Edge}
use Rattle.order_check.specs.declared.verdict.Reason.{Reason}
use Rattle.order_check.specs.declared.verdict.Reason.TheVariants.{Cycle}
use Rattle.order_check.specs.declared.verdict.Verdict.{Verdict}
use Rattle.order_check.specs.declared.verdict.Verdict.TheVariants.{NotSerializable}
use Rattle.judge_engine.specs.Classes.{class_of, class_words, suffix_of}
use Rattle.judge_engine.specs.OrderLines.{each_edge, first_did, first_from, order_text, second_did, which_words}
use Rattle.judge_engine.specs.WhyLines.{name_words, why_text}

-- The end of a label, and of its line.
abbrev pub label_end : List ℕ
label_end = codes "\"];" ++ 10 ∷ []

-- A transaction, as a node of the graph.
abbrev pub node_line : List Entry → ℕ → List ℕ
node_line h t =
    codes "  " ++ (decimal t ++ (codes " [label=\"" ++ (name_words h t ++ label_end)))

-- An edge to the transaction `u`, and what the two transactions did, in a label of two lines.
abbrev pub arrow_line : Edge → ℕ → List ℕ
arrow_line edge u =
    codes "  "
    ++ (decimal edge.from ++ (codes " -> "
    ++ (decimal u ++ (codes " [label=\""
    ++ (decimal edge.from ++ (first_did edge ++ (codes "\\n"
    ++ (which_words edge.kind
    ++ (decimal u ++ (second_did edge.kind ++ label_end))))))))))

-- The transaction from which an edge comes, and the edge.
abbrev pub edge_dots : List Entry → Edge → ℕ → List ℕ
edge_dots h edge u = node_line h edge.from ++ arrow_line edge u

-- The class of a cycle, which stands below the picture.
abbrev pub class_line : List Edge → List ℕ
class_line edges =
    codes "  label=\""
    ++ (class_words (class_of edges) ++ (suffix_of edges ++ (codes "\";" ++ 10 ∷ [])))

abbrev pub cycle_dots : List Entry → List Edge → List ℕ
cycle_dots h edges = class_line edges ++ each_edge (edge_dots h) edges (first_from edges 0)

-- The nodes and edges of a verdict's graph. Only a cycle has some.
abbrev pub reason_dots : List Entry → Reason → List ℕ
reason_dots h (Cycle edges) = cycle_dots h edges.items
reason_dots h reason = []

abbrev pub verdict_dots : List Entry → Verdict → List ℕ
verdict_dots h (NotSerializable reason) = reason_dots h reason
verdict_dots h verdict = []

-- The graph of a verdict on the history. The line of the verdict is a comment in it.
abbrev pub dot_text : Bool → List Entry → Verdict → List ℕ
dot_text real_time h verdict =
    (codes "digraph {" ++ 10 ∷ (codes "  // " ++ order_text real_time false h verdict))
    ++ (verdict_dots h verdict ++ (codes "}" ++ 10 ∷ []))

-- The text that explains a verdict on the history: its graph if this is asked for, else lines.
abbrev pub text_or_graph : Bool → Bool → List Entry → Verdict → List ℕ
text_or_graph real_time as_graph h verdict =
    if as_graph then dot_text real_time h verdict else why_text real_time h verdict
