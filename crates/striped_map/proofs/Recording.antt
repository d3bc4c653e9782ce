-- A caller's records stand for its entries in the history that it has seen.
use Rattle.std.proofs.Common.{◌≡◌, ℕ, zero, suc, ◌+◌, ◌%◌, ◌^◌, ◌<◌, set, take, None, Some, List, [], ◌∷◌, ◌++◌, Option, length, sym, refl, ap, subst, ◌∙◌, arith, append-nil, append_assoc, length-append}
use Rattle.txn_words.specs.declared.entry.Entry.{Entry}
use Rattle.txn_words.specs.declared.entry.Entry.TheVariants.{Leave, Busy, Returned, Undone, Aborted}
use Rattle.txn_words.specs.declared.op.Op.{Op}
use Rattle.striped_map.specs.Apart.{Listed}
use Rattle.striped_map.specs.declared.view.View.{View}
use Rattle.striped_map.specs.declared.addition.Addition.{Addition}
use Rattle.striped_map.specs.declared.addition.Addition.TheVariants.{Note, Save, Back, Abort, Yield}
use Rattle.striped_map.specs.Additions.{due, entries_of}
use Rattle.striped_map.specs.Handling.{IsEnd}
use Rattle.striped_map.specs.declared.record.Told.{Told}
use Rattle.striped_map.specs.declared.record.Told.TheVariants.{TellBegin, TellNote, TellSave, TellBack, TellAbort, TellYield, TellCommit}
use Rattle.striped_map.specs.declared.record.Record.{Record}
use Rattle.striped_map.specs.Steps.{Extends, Marked, bare, marks, placed, undoing}
use Rattle.striped_map.specs.Gathered.{entries_in, records_of, written, written_from}
use Rattle.striped_map.specs.Records.{spread, told_by, told_for, undone}
use Rattle.striped_map.proofs.Marks.{Mark, marks_seen, placed_as}

-- The entries of the records, after one more record.
pub spread_snoc : (c : ℕ) (rs : List Record) (r : Record) → spread c (rs ++ r ∷ []) ≡ spread c rs ++ placed r.at (told_by c r.what)
spread_snoc c [] r = append-nil (placed r.at (told_by c r.what))
spread_snoc c (q ∷ rs) r = ap (λ (l : List Mark). placed q.at (told_by c q.what) ++ l) (spread_snoc c rs r) ∙ sym (append_assoc (placed q.at (told_by c q.what)) (spread c rs) (placed r.at (told_by c r.what)))

-- A step that adds no entries of the caller does not change its marks.
pub marks_between : (n c : ℕ) (held : List ℕ) (seen log : List Entry) → Extends n c held seen [] log → marks c 0 log ≡ marks c 0 seen
marks_between n c held seen log x = ap (marks c 0) (x.goes ∙ append-nil (seen ++ x.between)) ∙ marks_seen c seen x.between x.others

pub still_marked : (n number : ℕ) (v w : View) (rs : List Record) → v.number ≡ number → Extends n v.number v.held v.seen [] w.seen → marks number 0 v.seen ≡ spread number rs → marks number 0 w.seen ≡ spread number rs
still_marked n number v w rs is goes marked = subst (λ (c : ℕ). marks c 0 w.seen ≡ marks c 0 v.seen) is (marks_between n v.number v.held v.seen w.seen goes) ∙ marked

-- One more record stands for the entries that a step added.
pub now_marked : (number : ℕ) (v w : View) (found : ℕ) (es : List Entry) (rs : List Record) (r : Record) → v.number ≡ number → Marked v found es w → marks number 0 v.seen ≡ spread number rs → placed found es ≡ placed r.at (told_by number r.what)
    → marks number 0 w.seen ≡ spread number (rs ++ r ∷ [])
now_marked number v w found es rs r is marked before same =
    subst (λ (c : ℕ). marks c 0 w.seen ≡ marks c 0 v.seen ++ placed found es) is marked
    ∙ ap (λ (l : List Mark). l ++ placed found es) before
    ∙ ap (λ (l : List Mark). spread number rs ++ l) same
    ∙ sym (spread_snoc number rs r)

pub length-undone : (c n : ℕ) (last : Entry) → length (undone c n last) ≡ n + 1
length-undone c zero last = refl
length-undone c (suc n) last = let l = length-undone c n last in ap suc l ∙ (omega arith)

-- How many entries a step added that takes this many changes back.
pub length-back : (what : Told) (level n : ℕ) → what ≡ TellBack level n → n + 2 ≡ length (told_by 0 what)
length-back what level n is = subst (λ (w : Told). n + 2 ≡ length (told_by 0 w)) (sym is) (let l = length-undone 0 n (Returned 0 level) in (omega arith) ∙ ap suc (sym l))

pub length-abort : (what : Told) (n : ℕ) → what ≡ TellAbort n → n + 2 ≡ length (told_by 0 what)
length-abort what n is = subst (λ (w : Told). n + 2 ≡ length (told_by 0 w)) (sym is) (let l = length-undone 0 n (Aborted 0) in (omega arith) ∙ ap suc (sym l))

pub length-yield : (what : Told) (op : Op) (holder n : ℕ) → what ≡ TellYield op holder n → n + 2 ≡ length (told_by 0 what)
length-yield what op holder n is = subst (λ (w : Told). n + 2 ≡ length (told_by 0 w)) (sym is) (let l = length-undone 0 n (Aborted 0) in (omega arith) ∙ ap suc (sym l))

-- How many entries a step added does not depend on its caller.
pub length-told : (c d : ℕ) (what : Told) → length (told_by c what) ≡ length (told_by d what)
length-told c d TellBegin = refl
length-told c d (TellNote op reply) = refl
length-told c d TellSave = refl
length-told c d (TellBack level n) = ap suc (length-undone c n (Returned c level) ∙ sym (length-undone d n (Returned d level)))
length-told c d (TellAbort n) = ap suc (length-undone c n (Aborted c) ∙ sym (length-undone d n (Aborted d)))
length-told c d (TellYield op holder n) = ap suc (length-undone c n (Aborted c) ∙ sym (length-undone d n (Aborted d)))
length-told c d TellCommit = refl

-- The entries that take changes back.
pub undone_is : (c : ℕ) (jobs : List (ℕ × Option ℕ)) (n : ℕ) (last : Entry) → length jobs ≡ n → undoing c jobs last ≡ undone c n last
undone_is c [] zero last long = refl
undone_is c [] (suc n) last long = absurd (omega arith)
undone_is c (job ∷ jobs) zero last long = absurd (omega arith)
undone_is c (job ∷ jobs) (suc n) last long = ap (λ (l : List Entry). Undone c ∷ l) (undone_is c jobs n last (omega arith))

-- The entries of two lists of marks are written one after the other.
pub written-append : (t : List Entry) (a b : List Mark) → written t (a ++ b) ≡ written (written t a) b
written-append t [] b = refl
written-append t (m ∷ a) b = written-append (set t m.0 m.1) a b

-- One entry is written at its position, and then the entries behind it.
pub put_first : (t t' : List Entry) (at : ℕ) (e : Entry) (es : List Entry) → at < 2 ^ 64 → bare e ≡ e → t' ≡ set t at e → written t (placed at (e ∷ es)) ≡ written t' (placed ((at + 1) % 2 ^ 64) es)
put_first t t' at e es small same put =
    let place : at % 2 ^ 64 ≡ at = omega arith in
    ap (λ (i : ℕ). written (set t i (bare e)) (placed (at + 1) es)) place ∙ ap (λ (x : Entry). written (set t at x) (placed (at + 1) es)) same
    ∙ ap (λ (l : List Entry). written l (placed (at + 1) es)) (sym put) ∙ ap (written t') (placed_as (at + 1) ((at + 1) % 2 ^ 64) es (omega arith))

-- The next of the changes that were taken back.
pub put_next : (t t' : List Entry) (next c k m : ℕ) (last : Entry) → next < 2 ^ 64 → k ≡ suc m → t' ≡ set t next (Undone c) → written t (placed next (undone c k last)) ≡ written t' (placed ((next + 1) % 2 ^ 64) (undone c m last))
put_next t t' next c k m last small more put = ap (λ (i : ℕ). written t (placed next (undone c i last))) more ∙ put_first t t' next (Undone c) (undone c m last) small refl put

-- The last of them.
pub put_last : (t t' : List Entry) (next c k : ℕ) (last : Entry) → next < 2 ^ 64 → k ≡ 0 → bare last ≡ last → t' ≡ set t next last → written t (placed next (undone c k last)) ≡ t'
put_last t t' next c k last small none_left same put = ap (λ (i : ℕ). written t (placed next (undone c i last))) none_left ∙ put_first t t' next last [] small same put

-- One more record is written.
pub put_more : (t l l' : List Entry) (c : ℕ) (rs : List Record) (r : Record) → l ≡ written t (spread c rs) → l' ≡ written l (placed r.at (told_by c r.what)) → l' ≡ written t (spread c (rs ++ r ∷ []))
put_more t l l' c rs r before put =
    put ∙ ap (λ (x : List Entry). written x (placed r.at (told_by c r.what))) before ∙ sym (written-append t (spread c rs) (placed r.at (told_by c r.what))) ∙ ap (written t) (sym (spread_snoc c rs r))

pub length-placed : (i : ℕ) (es : List Entry) → length (placed i es) ≡ length es
length-placed i [] = refl
length-placed i (e ∷ es) = ap suc (length-placed (i + 1) es)

-- How many entries one more record adds.
pub count_more : (rs : List Record) (r : Record) (count more : ℕ) → count ≡ length (spread 0 rs) → more ≡ length (told_by 0 r.what) → count + more ≡ length (spread 0 (rs ++ r ∷ []))
count_more rs r count more before is =
    let a = ap length (spread_snoc 0 rs r) in let b = length-append (spread 0 rs) (placed r.at (told_by 0 r.what)) in let d = length-placed r.at (told_by 0 r.what) in
    omega arith

-- How many entries the records of one more caller add.
pub records_more : (theirs : List (Option (Listed Record))) (their : Option (Listed Record)) → entries_in (theirs ++ their ∷ []) ≡ entries_in theirs + length (spread 0 (records_of their))
records_more [] their = omega arith
records_more (p ∷ theirs) their = let more = records_more theirs their in omega arith

-- The records of one more caller are written.
pub written_more : (c : ℕ) (t : List Entry) (theirs : List (Option (Listed Record))) (their : Option (Listed Record)) → written_from c t (theirs ++ their ∷ []) ≡ written (written_from c t theirs) (spread (c + length theirs) (records_of their))
written_more c t [] their = ap (λ (k : ℕ). written t (spread k (records_of their))) (omega arith)
written_more c t (p ∷ theirs) their = written_more (c + 1) (written t (spread c (records_of p))) theirs their ∙ ap (λ (k : ℕ). written (written_from (c + 1) (written t (spread c (records_of p))) theirs) (spread k (records_of their))) (omega arith)

-- The record of the end of a transaction stands for its entries.
pub end_told : (v : View) (what : Addition) (c n : ℕ) → IsEnd v what → v.number ≡ c → length (due v) ≡ n → entries_of v what ≡ told_by c (told_for what n)
end_told v Abort c n end is long = subst (λ (d : ℕ). entries_of v Abort ≡ told_by d (told_for Abort n)) is (ap (λ (l : List Entry). Leave v.number None ∷ l) (undone_is v.number (due v) n (Aborted v.number) long))
end_told v (Yield op holder) c n end is long = subst (λ (d : ℕ). entries_of v (Yield op holder) ≡ told_by d (told_for (Yield op holder) n)) is (ap (λ (l : List Entry). Busy v.number op holder ∷ l) (undone_is v.number (due v) n (Aborted v.number) long))
end_told v (Note op reply) c n end is long = absurd end
end_told v Save c n end is long = absurd end
end_told v (Back level count) c n end is long = absurd end

-- It is short enough.
pub end_few : (what : Addition) (n : ℕ) → n + 2 < 2 ^ 64 → length (told_by 0 (told_for what n)) < 2 ^ 64
end_few Abort n small = let l = length-abort (TellAbort n) n refl in omega arith
end_few (Yield op holder) n small = let l = length-yield (TellYield op holder n) op holder n refl in omega arith
end_few (Note op reply) n small = let l = length-abort (TellAbort n) n refl in omega arith
end_few Save n small = let l = length-abort (TellAbort n) n refl in omega arith
end_few (Back level count) n small = let l = length-abort (TellAbort n) n refl in omega arith

-- The record of a return to a level stands for its entries.
pub back_told : (v : View) (c level n : ℕ) → v.number ≡ c → length (take n (due v)) ≡ n → entries_of v (Back level n) ≡ told_by c (TellBack level n)
back_told v c level n is long = subst (λ (d : ℕ). entries_of v (Back level n) ≡ told_by d (TellBack level n)) is (ap (λ (l : List Entry). Leave v.number (Some level) ∷ l) (undone_is v.number (take n (due v)) n (Returned v.number level) long))
