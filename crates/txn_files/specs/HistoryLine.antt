-- The line of a history, and the part of the line that `HistoryBlocks` has not handed out yet.
use Rattle.std.specs.Prelude.{ℕ, Bool, true, false, List, [], ◌∷◌, ◌++◌, map, codes, decimal}
use Rattle.std.specs.List.{flat_map, join_with_byte}
use Rattle.txn_words.specs.declared.entry.Entry.{Entry}
use Rattle.txn_files.specs.HistoryText.{comma, entry_text}

-- The text of entries that follow an earlier entry: each is written after a comma.
abbrev pub further_text : List Entry → List ℕ
further_text entries = flat_map (λ e. comma ∷ entry_text e) entries

-- The part of the line that `HistoryBlocks` has not handed out yet, up to the last entry. `entries`
-- are the entries of this part. If nothing of the line was handed out (`false`), the part also has
-- the start of the line. Otherwise (`true`) an entry was handed out before, so a comma precedes
-- each of these entries.
abbrev pub entries_text : Bool → List Entry → List ℕ
entries_text false entries = codes "{\"entries\":[" ++ join_with_byte comma (map entry_text entries)
entries_text true entries = further_text entries

-- The end of the line: all that follows its last entry.
abbrev pub end_text : ℕ → ℕ → List ℕ
end_text version stripes =
    codes "],\"stripes\":" ++ (decimal stripes
    ++ (codes ",\"version\":" ++ (decimal version ++ codes "}\n")))

-- The part of the line that `HistoryBlocks` has not handed out yet. The first flag says whether
-- some of the line was handed out, the second whether all of it was. `entries` are the entries of
-- this part.
abbrev pub rest_of : Bool → Bool → ℕ → ℕ → List Entry → List ℕ
rest_of is_begun true version stripes entries = []
rest_of is_begun false version stripes entries =
    entries_text is_begun entries ++ end_text version stripes
