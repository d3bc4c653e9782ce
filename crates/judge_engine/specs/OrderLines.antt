-- PROMISES a-verdict-by-any-order-is-right: order_text
-- The text of a verdict by any order.
use Rattle.std.specs.Prelude.{ℕ, Bool, List, [], ◌∷◌, ◌++◌, length, Option, Some, None, if◌then◌else◌, codes, decimal}
use Rattle.txn_words.specs.declared.entry.Entry.{Entry}
use Rattle.txn_words.specs.Kinds.{is_commit}
use Rattle.txn_words.specs.Shape.{how_many}
use Rattle.txn_trace.specs.Legal.{running, callers_in}
use Rattle.order_check.specs.declared.edge.Edge.{Edge}
use Rattle.order_check.specs.declared.edge.Kind.{Kind}
use Rattle.order_check.specs.declared.edge.Kind.TheVariants.{Read, Replaced, Began}
use Rattle.order_check.specs.declared.verdict.Reason.{Reason}
use Rattle.order_check.specs.declared.verdict.Reason.TheVariants.{Shape, Torn, Unwritten, Impossible, Cycle}
use Rattle.order_check.specs.declared.verdict.Verdict.{Verdict}
use Rattle.order_check.specs.declared.verdict.Verdict.TheVariants.{Serializable, NotSerializable, Undecided}
use Rattle.judge_engine.specs.Classes.{class_of, class_words, suffix_of}
use Rattle.judge_engine.specs.ReasonLines.{value_words}

-- If real time counts, the text says so.
abbrev pub in_time_if : Bool → List ℕ
in_time_if real_time = if real_time then codes " in real time" else []

-- ---- an order

-- How many transactions are committed, and how many callers are in a transaction at the end.
abbrev pub serializable_line : Bool → ℕ → ℕ → List ℕ
serializable_line real_time commits callers =
    codes "serializable"
    ++ (in_time_if real_time ++ (codes " "
    ++ (decimal commits ++ (codes " commits " ++ (decimal callers ++ (codes " open" ++ 10 ∷ []))))))

abbrev pub txn_line : ℕ → List ℕ
txn_line t = codes "transaction " ++ (decimal t ++ 10 ∷ [])

-- The texts of the transactions, one after the other.
abbrev pub each_txn : (ℕ → List ℕ) → List ℕ → List ℕ
each_txn text [] = []
each_txn text (t ∷ ts) = text t ++ each_txn text ts

-- Each transaction in a line, in this order.
abbrev pub order_lines : List ℕ → List ℕ
order_lines ts = each_txn txn_line ts

-- The lines of an order, if they are asked for.
abbrev pub order_lines_if : Bool → List ℕ → List ℕ
order_lines_if shows ts = if shows then order_lines ts else []

abbrev pub serializable_text : Bool → Bool → ℕ → ℕ → List ℕ → List ℕ
serializable_text real_time shows commits callers ts =
    serializable_line real_time commits callers ++ order_lines_if shows ts

-- ---- a cycle

abbrev pub key_value_words : Option ℕ → ℕ → List ℕ
key_value_words value key = value_words value ++ (codes " at key " ++ (decimal key ++ codes ","))

-- What the first transaction of an edge did.
abbrev pub did_by : Kind → Option ℕ → ℕ → List ℕ
did_by Read value key = codes " left " ++ key_value_words value key
did_by Replaced value key = codes " read " ++ key_value_words value key
did_by Began value key = codes " committed before"

abbrev pub first_did : Edge → List ℕ
first_did edge = did_by edge.kind edge.value edge.key

-- What stands between the two transactions, and what the second one did.
abbrev pub which_words : Kind → List ℕ
which_words Read = codes "which "
which_words Replaced = codes "which "
which_words Began = []

abbrev pub second_did : Kind → List ℕ
second_did Read = codes " read"
second_did Replaced = codes " replaced"
second_did Began = codes " began"

-- Why the first transaction of the edge comes before `u`, to which the edge leads.
abbrev pub edge_words : Edge → ℕ → List ℕ
edge_words edge u =
    codes "transaction "
    ++ (decimal edge.from ++ (first_did edge ++ (codes " "
    ++ (which_words edge.kind ++ (codes "transaction "
    ++ (decimal u ++ second_did edge.kind))))))

-- The transaction from which an edge comes, or `end` if there is no edge.
abbrev pub from_or : Option Edge → ℕ → ℕ
from_or None end = end
from_or (Some edge) end = edge.from

abbrev pub first_from : List Edge → ℕ → ℕ
first_from [] end = end
first_from (edge ∷ edges) end = edge.from

-- The text of each edge, given the transaction to which it leads. Each edge leads to the
-- transaction from which the next one comes, and the last one leads to `end`.
abbrev pub each_edge : (Edge → ℕ → List ℕ) → List Edge → ℕ → List ℕ
each_edge text [] end = []
each_edge text (edge ∷ edges) end = text edge (first_from edges end) ++ each_edge text edges end

abbrev pub after_semicolon : Edge → ℕ → List ℕ
after_semicolon edge u = codes "; " ++ edge_words edge u

-- The class of a cycle, how many edges it has, and what each of them says.
abbrev pub cycle_words : List Edge → List ℕ
cycle_words edges =
    (class_words (class_of edges)
    ++ (suffix_of edges ++ (codes ", cycle of " ++ decimal (length edges))))
    ++ each_edge after_semicolon edges (first_from edges 0)

-- ---- the whole text

-- Why a history is not serializable.
abbrev pub reason_words : Bool → Reason → List ℕ
reason_words real_time (Shape entry) =
    codes "entry " ++ (decimal entry ++ codes " has the wrong shape")
reason_words real_time (Torn txn) =
    codes "the replies of transaction " ++ (decimal txn ++ codes " contradict one another")
reason_words real_time (Unwritten txn key value) =
    codes "transaction "
    ++ (decimal txn ++ (codes " read "
    ++ (value_words value ++ (codes " at key "
    ++ (decimal key ++ codes ", which no committed transaction left")))))
reason_words real_time (Impossible txn key value) =
    codes "transaction "
    ++ (decimal txn ++ (codes " read "
    ++ (value_words value ++ (codes " at key "
    ++ (decimal key ++ (codes ", which no serial order"
    ++ (in_time_if real_time ++ codes " gives")))))))
reason_words real_time (Cycle edges) = cycle_words edges.items

abbrev pub reason_line : Bool → Reason → List ℕ
reason_line real_time reason =
    (codes "not serializable" ++ (in_time_if real_time ++ codes ": "))
    ++ (reason_words real_time reason ++ 10 ∷ [])

abbrev pub after_space : ℕ → List ℕ
after_space t = codes " " ++ decimal t

-- The key, the value, and the transactions that write it there.
abbrev pub undecided_line : ℕ → Option ℕ → List ℕ → List ℕ
undecided_line key value writers =
    (codes "undecided key "
    ++ (decimal key ++ (codes " value " ++ (value_words value ++ codes ": transactions"))))
    ++ (each_txn after_space writers ++ 10 ∷ [])

-- The text of a verdict, with or without real time. The order of a serializable history is shown if
-- this is asked for.
abbrev pub text_by : Bool → Bool → ℕ → ℕ → Verdict → List ℕ
text_by real_time shows commits callers (Serializable order) =
    serializable_text real_time shows commits callers order.items
text_by real_time shows commits callers (NotSerializable reason) = reason_line real_time reason
text_by real_time shows commits callers (Undecided key value writers) =
    undecided_line key value writers.items

-- The text of a verdict on the history.
abbrev pub order_text : Bool → Bool → List Entry → Verdict → List ℕ
order_text real_time shows h verdict =
    text_by real_time shows (how_many is_commit h) (length (running (callers_in h) h)) verdict
