-- The lines that explain a verdict by any order.
use Rattle.std.specs.Prelude.{ℕ, ◌==◌, ◌&&◌, Bool, true, false, List, [], ◌∷◌, ◌++◌, Option, Some, None, nat_eq, take, slice_get, if◌then◌else◌, codes, decimal}
use Rattle.std.specs.List.{fold}
use Rattle.std.specs.Option.{option_eq}
use Rattle.txn_words.specs.declared.entry.Entry.{Entry}
use Rattle.txn_words.specs.declared.entry.Entry.TheVariants as entries
use Rattle.txn_words.specs.declared.op.Op.{Op}
use Rattle.txn_words.specs.Kinds.{caller_of, is_began, is_commit}
use Rattle.txn_words.specs.Map.{key_of}
use Rattle.txn_trace.specs.History.{txn_after}
use Rattle.bad_entry.specs.Desks.{txn_in, waiting_in}
use Rattle.order_check.specs.declared.edge.Edge.{Edge}
use Rattle.order_check.specs.declared.edge.Kind.{Kind}
use Rattle.order_check.specs.declared.edge.Kind.TheVariants.{Read, Replaced, Began}
use Rattle.judge_engine.specs.declared.order_why.Extent.{Extent}
use Rattle.judge_engine.specs.declared.order_why.Extent.TheVariants.{Whole, At, First, Last}
use Rattle.order_check.specs.declared.verdict.Reason.{Reason}
use Rattle.order_check.specs.declared.verdict.Reason.TheVariants.{Shape, Torn, Unwritten, Impossible, Cycle}
use Rattle.order_check.specs.declared.verdict.Verdict.{Verdict}
use Rattle.order_check.specs.declared.verdict.Verdict.TheVariants.{Serializable, NotSerializable, Undecided}
use Rattle.judge_engine.specs.OrderLines.{each_edge, first_did, first_from, order_text, second_did, which_words}
use Rattle.judge_engine.specs.ReasonLines.{entry_line, heading, lines_where, transaction_lines, transaction_words}

-- ---- the entries of a transaction

abbrev pub waits_for : ℕ → Option Op → Bool
waits_for k None = false
waits_for k (Some op) = key_of op == k

-- Whether the entry that follows `g` asks for an operation on the key, or has the reply to one.
abbrev pub is_at : ℕ → List Entry → Entry → Bool
is_at k g (entries.Asked c op) = key_of op == k
is_at k g (entries.Did c r) = waits_for k (waiting_in g c)
is_at k g e = false

-- Whether the entry that follows `g` is in this extent of its transaction.
abbrev pub is_in_extent : Extent → List Entry → Entry → Bool
is_in_extent Whole g e = true
is_in_extent (At k) g e = is_at k g e
is_in_extent First g e = is_began e
is_in_extent Last g e = is_commit e

-- Whether the entry that follows `g` is of this transaction, and in this extent of it.
abbrev pub belongs : ℕ → Extent → List Entry → Entry → Bool
belongs t extent g e =
    option_eq nat_eq (txn_after (txn_in g) e (caller_of e)) (Some t) && is_in_extent extent g e

-- The entries of the transaction that are in this extent of it.
abbrev pub txn_lines : ℕ → Extent → List Entry → List ℕ
txn_lines t extent h = lines_where (belongs t extent) h

-- The caller of the transaction after one more entry, if it is known.
abbrev pub beginner_after : ℕ → Option ℕ → Entry → Option ℕ
beginner_after t caller (entries.Began c u) = if u == t then Some c else caller
beginner_after t caller e = caller

abbrev pub beginner_in : ℕ → List Entry → Option ℕ
beginner_in t h = fold (beginner_after t) None h

-- A transaction and its caller, if it is known.
abbrev pub named_words : ℕ → Option ℕ → List ℕ
named_words t None = codes "transaction " ++ decimal t
named_words t (Some c) = transaction_words (Some t) c

abbrev pub name_words : List Entry → ℕ → List ℕ
name_words h t = named_words t (beginner_in t h)

-- ---- an edge

abbrev pub edge_heading : List Entry → Edge → ℕ → List ℕ
edge_heading h edge u =
    name_words h edge.from
    ++ (first_did edge ++ (codes " "
    ++ (which_words edge.kind
    ++ (name_words h u ++ (second_did edge.kind ++ (codes ":" ++ 10 ∷ []))))))

-- The parts of the two transactions that an edge is about: the entries on its key, or the end of the
-- first transaction and the beginning of the second one.
abbrev pub first_extent : Kind → ℕ → Extent
first_extent Read k = At k
first_extent Replaced k = At k
first_extent Began k = Last

abbrev pub second_extent : Kind → ℕ → Extent
second_extent Read k = At k
second_extent Replaced k = At k
second_extent Began k = First

-- Why the first transaction of the edge comes before `u`, and the entries of both that it is about.
abbrev pub edge_lines : List Entry → Edge → ℕ → List ℕ
edge_lines h edge u =
    edge_heading h edge u
    ++ (txn_lines edge.from (first_extent edge.kind edge.key) h
    ++ txn_lines u (second_extent edge.kind edge.key) h)

-- ---- a transaction

abbrev pub key_words : Option ℕ → List ℕ
key_words None = codes ":" ++ 10 ∷ []
key_words (Some k) = codes " on key " ++ (decimal k ++ (codes ":" ++ 10 ∷ []))

abbrev pub extent_at : Option ℕ → Extent
extent_at None = Whole
extent_at (Some k) = At k

-- The entries of the transaction, on the key if one is given, below a line that names it.
abbrev pub of_txn_lines : List Entry → ℕ → Option ℕ → List ℕ
of_txn_lines h t at =
    (codes "entries of " ++ (name_words h t ++ key_words at)) ++ txn_lines t (extent_at at) h

-- ---- the whole explanation

-- The entry at this index, and the entries before it of its caller's transaction.
abbrev pub misshapen_lines : List Entry → ℕ → Option Entry → List ℕ
misshapen_lines h i None = []
misshapen_lines h i (Some e) =
    heading ++ (entry_line i e ++ transaction_lines (caller_of e) (take i h))

-- What leads to the reason: the entry of the wrong shape; or the entries of the transaction, on the
-- key if it is about one key; or, for each edge of the cycle, the entries of both transactions.
abbrev pub why_reason_lines : List Entry → Reason → List ℕ
why_reason_lines h (Shape i) = misshapen_lines h i (slice_get h i)
why_reason_lines h (Torn t) = of_txn_lines h t None
why_reason_lines h (Unwritten t k v) = of_txn_lines h t (Some k)
why_reason_lines h (Impossible t k v) = of_txn_lines h t (Some k)
why_reason_lines h (Cycle edges) = each_edge (edge_lines h) edges.items (first_from edges.items 0)

abbrev pub why_verdict_lines : List Entry → Verdict → List ℕ
why_verdict_lines h (Serializable order) = []
why_verdict_lines h (NotSerializable reason) = why_reason_lines h reason
why_verdict_lines h (Undecided k v ts) = []

-- The text that explains a verdict on the history: its line, and the lines of its reason.
abbrev pub why_text : Bool → List Entry → Verdict → List ℕ
why_text real_time h verdict = order_text real_time false h verdict ++ why_verdict_lines h verdict
