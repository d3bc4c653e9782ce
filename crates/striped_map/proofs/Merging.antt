-- If the records of all callers stand for their entries in a history, they are the history.
use Rattle.std.proofs.Common.{◌≡◌, ℕ, zero, suc, ◌+◌, ◌-◌, ◌^◌, ◌<◌, ◌≤◌, List, [], ◌∷◌, ◌++◌, Option, None, Some, slice_get, get_or, take, take-suc, length, replicate, sym, refl, ap, subst, ◌∙◌, arith, length-append, true, cond, ne_eqb}
use Rattle.std.proofs.lemmas.Bool.{false≢true}
use mathlib.Core.Logic.{dite}
use native.Mathlib.Decide.{dec_le, ℕ_discrete}
use Rattle.std.proofs.lemmas.List.{take_all, length-take-le, length-replicate}
use Rattle.txn_words.specs.declared.entry.Entry.{Entry}
use Rattle.txn_words.specs.declared.holder.Holder.TheVariants.{Begun}
use Rattle.txn_words.specs.Shape.{own, IsShaped}
use Rattle.txn_trace.specs.Legal.{IsLegal}
use Rattle.striped_map.specs.Apart.{Listed}
use Rattle.striped_map.specs.declared.record.Record.{Record}
use Rattle.striped_map.specs.declared.view.View.{View}
use Rattle.striped_map.specs.Steps.{HasAll, HasNoOther, IsMerged, marks, placed}
use Rattle.striped_map.specs.Rule.{HasEnded}
use Rattle.striped_map.specs.Records.{spread, told_by}
use Rattle.striped_map.specs.Gathered.{HasRecords, is_taken, entries_in, entries_to, merged, numbered, records_of, written, written_from, written_to}
use Rattle.striped_map.proofs.Marks.{marks_seen}
use Rattle.striped_map.proofs.MergedHistory.{gathered_all}
use Rattle.striped_map.proofs.Recording.{length-placed, length-told, records_more, written_more}

abbrev pub Theirs : Type 0
Theirs = List (Option (Listed Record))

-- The records at each place of a list stand for the entries that the caller with this number has in
-- the history.
abbrev AreRecords : Theirs → List Entry → Type 0
AreRecords theirs log = (c : ℕ) → c < length theirs → marks c 0 log ≡ spread c (records_of (get_or theirs c None))

length-spread : (c d : ℕ) (rs : List Record) → length (spread c rs) ≡ length (spread d rs)
length-spread c d [] = refl
length-spread c d (r ∷ rs) =
    let a = length-append (placed r.at (told_by c r.what)) (spread c rs) in let b = length-append (placed r.at (told_by d r.what)) (spread d rs) in
    let p = length-placed r.at (told_by c r.what) in let q = length-placed r.at (told_by d r.what) in
    let t = length-told c d r.what in let more = length-spread c d rs in omega arith

-- The records of the first `n` callers.
module _ (theirs : Theirs) (log : List Entry) (are : AreRecords theirs log) where
  written_first : (t : List Entry) (n : ℕ) → n ≤ length theirs → written_from 0 t (take n theirs) ≡ written_to n t log
  written_first t zero le = refl
  written_first t (suc n) le =
      let their = get_or theirs n None in let long = length-take-le n theirs (omega arith) in
      ap (written_from 0 t) (take-suc theirs n None (omega arith))
      ∙ written_more 0 t (take n theirs) their
      ∙ ap (λ (k : ℕ). written (written_from 0 t (take n theirs)) (spread k (records_of their))) (let more : 0 + length (take n theirs) ≡ n = omega arith in more)
      ∙ ap (λ (l : List Entry). written l (spread n (records_of their))) (written_first t n (omega arith))
      ∙ ap (written (written_to n t log)) (sym (are n (omega arith)))

  entries_first : (n : ℕ) → n ≤ length theirs → entries_in (take n theirs) ≡ entries_to n log
  entries_first zero le = refl
  entries_first (suc n) le =
      let their = get_or theirs n None in
      let one : entries_in (take (suc n) theirs) ≡ entries_in (take n theirs ++ their ∷ []) = ap entries_in (take-suc theirs n None (omega arith)) in
      let two = records_more (take n theirs) their in let three = entries_first n (omega arith) in
      let four = ap length (are n (omega arith)) in let five = length-spread 0 n (records_of their) in
      omega arith

  merged_is : (blank : Entry) → IsShaped log → ((c : ℕ) → length theirs ≤ c → own c log ≡ []) → entries_in theirs < 2 ^ 64 → merged blank theirs ≡ log
  merged_is blank shape others small =
      let n : ℕ = length theirs in let t : List Entry = replicate (entries_in theirs) blank in
      let whole : take n theirs ≡ theirs = take_all n theirs (omega arith) in
      let long : length t ≡ entries_in theirs = length-replicate (entries_in theirs) blank in
      let same : entries_in theirs ≡ entries_to n log = ap entries_in (sym whole) ∙ entries_first n (omega arith) in
      ap (λ (ps : Theirs). numbered 0 0 (written_from 0 t ps)) (sym whole) ∙ ap (numbered 0 0) (written_first t n (omega arith))
      ∙ gathered_all n t log shape others (long ∙ same) (omega arith)

-- A merged caller's records stand for its entries in the whole history.
ended_marked : (c : ℕ) (seen log : List Entry) (rs : List Record) → HasEnded c seen log → marks c 0 seen ≡ spread c rs → marks c 0 log ≡ spread c rs
ended_marked c seen log rs ended marked = ap (marks c 0) ended.goes ∙ marks_seen c seen ended.rest ended.others ∙ marked

-- A caller that was merged is in the list.
taken_at : (c : ℕ) (rs : List (ℕ × List Entry)) → is_taken c rs ≡ true → (j : ℕ) × (r : ℕ × List Entry) × (slice_get rs j ≡ Some r) × (r.0 ≡ c)
taken_at c [] is = absurd (false≢true is)
taken_at c (r ∷ rs) is = dite (ℕ_discrete r.0 c)
    (λ (same : r.0 ≡ c). (0, r, refl, same))
    (λ ne. let more = taken_at c rs (sym (ap (λ b. cond b true (is_taken c rs)) (ne_eqb r.0 c ne)) ∙ is) in (suc more.0, more.1, more.2, more.3))

-- If the host has merged each caller and then looks at the history, the records of all callers,
-- merged by their positions, are the history.
module _ (v : View) (mine : Listed Record) (theirs : Theirs) (has : HasRecords v.retired theirs) (all : HasAll v v.seen) where
  records_marked : (c : ℕ) (their : Option (Listed Record)) → get_or theirs c None ≡ their → (their ≡ None → own (c + 1) v.seen ≡ []) → marks (c + 1) 0 v.seen ≡ spread (c + 1) (records_of their)
  records_marked c None is none = marks_seen (c + 1) [] v.seen (none refl)
  records_marked c (Some rs) is none =
      let one = taken_at (c + 1) v.retired (has.made c (λ none. absurd (cc (sym is ∙ none)))) in let r = one.1 in
      let same : r.0 ≡ c + 1 = one.3 in
      let at : get_or theirs (r.0 - 1) None ≡ Some rs = ap (λ (k : ℕ). get_or theirs k None) (omega arith) ∙ is in
      subst (λ (k : ℕ). marks k 0 v.seen ≡ spread k rs.items) same (ended_marked r.0 r.1 v.seen rs.items (all one.0 r one.2) (has.marked one.0 r one.2 rs at))

  -- A caller without records has no entries: its number was not given out.
  are_records : marks 0 0 v.seen ≡ spread 0 mine.items → ((c : ℕ) → 0 < c → c < v.made → get_or theirs (c - 1) None ≡ None → ⊥) → HasNoOther v v.seen → AreRecords (Some mine ∷ theirs) v.seen
  are_records marked some others zero lt = marked
  are_records marked some others (suc c) lt =
      let next : c + 1 ≡ suc c = omega arith in
      subst (λ (k : ℕ). marks k 0 v.seen ≡ spread k (records_of (get_or theirs c None))) next
      (records_marked c (get_or theirs c None) refl (λ none. dite (dec_le v.made (c + 1)) (λ (low : v.made ≤ c + 1). others (c + 1) low)
      (λ high. absurd (some (c + 1) (omega arith) (omega arith) (ap (λ (k : ℕ). get_or theirs k None) (omega arith) ∙ none)))))

  pub host_history : (n : ℕ) (blank : Entry) → marks 0 0 v.seen ≡ spread 0 mine.items → ((c : ℕ) → 0 < c → c < v.made → get_or theirs (c - 1) None ≡ None → ⊥) → v.made ≤ length theirs + 1
      → HasNoOther v v.seen → IsLegal Begun n v.seen → entries_in (Some mine ∷ theirs) < 2 ^ 64 → merged blank (Some mine ∷ theirs) ≡ v.seen
  host_history n blank marked some made others legal small = merged_is (Some mine ∷ theirs) v.seen (are_records marked some others) blank legal.shape (λ c low. others c (omega arith)) small

  -- If no caller below `made` lacks its records, all were merged.
  pub all_merged : ((c : ℕ) → 0 < c → c < v.made → get_or theirs (c - 1) None ≡ None → ⊥) → (c : ℕ) → 0 < c → c < v.made → IsMerged c v.retired
  all_merged some c pos low = let one = taken_at (c - 1 + 1) v.retired (has.made (c - 1) (some c pos low)) in let same : one.1.0 ≡ c - 1 + 1 = one.3 in (one.0, one.1, one.2, omega arith)
