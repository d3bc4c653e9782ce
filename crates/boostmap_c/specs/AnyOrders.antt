-- PROMISES from-c: JudgesAny
-- What C gets of a verdict by any order.
use Rattle.std.specs.Prelude.{◌≡◌, ◌⊎◌, ◌<◌, ℕ, zero, suc, Bool, List, [], length, map, take, drop, Option, Some, None}
use Rattle.txn_words.specs.declared.entry.Entry.{Entry}
use Rattle.serial_check.specs.Serializable.{IsSerializableByCommits}
use Rattle.order_check.specs.declared.edge.Edge.{Edge}
use Rattle.order_check.specs.declared.edge.Kind.{Kind}
use Rattle.order_check.specs.declared.edge.Kind.TheVariants.{Read, Replaced, Began}
use Rattle.order_check.specs.declared.verdict.Reason.TheVariants.{Shape, Torn, Unwritten, Impossible, Cycle}
use Rattle.order_check.specs.declared.verdict.Verdict.{Verdict}
use Rattle.order_check.specs.declared.verdict.Verdict.TheVariants.{Serializable, NotSerializable, Undecided}
use Rattle.order_check.specs.Verdicts.{IsOfCommits, IsVerdictIf}
use Rattle.boostmap_c.specs.declared.any_order.CFinding.{CFinding}
use Rattle.boostmap_c.specs.declared.any_order.CLink.{CLink}
use Rattle.boostmap_c.specs.declared.c_entry.CEntry.{CEntry}
use Rattle.boostmap_c.specs.Entries.{judged_entry, IsUnreadable}
use Rattle.boostmap_c.specs.Replies.{short}
use Rattle.boostmap_c.specs.StripedRuns.{c_reply_of}

-- A transaction of an order, or one that writes an undecided value.
abbrev pub placed : ℕ → CLink
placed txn = record { transaction = txn; kind = 0; key = 0; value = 0; has = 0 }

abbrev pub number_of : Kind → ℕ
number_of Read = 1
number_of Replaced = 2
number_of Began = 3

-- A transaction of a cycle.
abbrev pub link_of : Edge → CLink
link_of edge =
    record {
      transaction = edge.from;
      kind = number_of edge.kind;
      key = edge.key;
      value = (c_reply_of edge.value).value;
      has = (c_reply_of edge.value).has;
    }

-- The transactions that a verdict names.
abbrev pub links_of : Verdict → List CLink
links_of (Serializable order) = map placed order.items
links_of (NotSerializable (Cycle edges)) = map link_of edges.items
links_of (Undecided key value writers) = map placed writers.items
links_of verdict = []

abbrev pub finding : ℕ → ℕ → ℕ → Option ℕ → ℕ → CFinding
finding kind number key value count =
    record {
      kind = kind;
      number = number;
      key = key;
      value = (c_reply_of value).value;
      has = (c_reply_of value).has;
      count = count;
    }

-- What C gets of a verdict besides its transactions.
abbrev pub finding_of : Verdict → CFinding
finding_of (Serializable order) = finding 0 0 0 None (length order.items)
finding_of (NotSerializable (Shape entry)) = finding 1 entry 0 None 0
finding_of (NotSerializable (Torn txn)) = finding 2 txn 0 None 0
finding_of (NotSerializable (Unwritten txn key value)) = finding 3 txn key value 0
finding_of (NotSerializable (Impossible txn key value)) = finding 4 txn key value 0
finding_of (NotSerializable (Cycle edges)) = finding 5 0 0 None (length edges.items)
finding_of (Undecided key value writers) = finding 6 0 key value (length writers.items)

-- If the status is 0, these transactions lie at the front of the array, whose rest is unchanged.
-- Otherwise the array has too few places, and is unchanged.
abbrev pub LaysLinks : List CLink → ℕ → List CLink → List CLink → Type 0
LaysLinks links zero before after = (take (length links) after ≡ links)
    × (drop (length links) after ≡ drop (length links) before)
LaysLinks links (suc status) before after =
    (suc status ≡ short) × (length before < length links) × (after ≡ before)

-- Either C gets a right verdict on the history for which its numbers stand, with or without real time,
-- or they were not read, or memory was refused. The verdict names the order of the commits if that is
-- a serial order.
abbrev pub JudgesAny : Bool → List CEntry → ℕ → List CLink → List CLink → CFinding → CFinding → Type 0
JudgesAny real_time entries status before after was found =
    ((h : List Entry) × (verdict : Verdict) × (map Some h ≡ map judged_entry entries)
    × IsVerdictIf real_time h verdict × (IsSerializableByCommits h → IsOfCommits h verdict)
    × (found ≡ finding_of verdict) × LaysLinks (links_of verdict) status before after)
    ⊎ (IsUnreadable judged_entry entries status × (after ≡ before) × (found ≡ was))
