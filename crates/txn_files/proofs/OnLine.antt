-- Lemmas about the JSON reader when it reads a line.
use Rattle.std.proofs.Common.{◌≡◌, ℕ, ◌≤◌, false, List, length, Result, Ok, Err, refl, sym, ap, subst, ◌∙◌, arith}
use Rattle.std.specs.Prelude.{Option, option_and_then}
use Rattle.std.specs.Str.{IsUtf8}
use Rattle.std.proofs.lemmas.Bool.{le-leb}
use Rattle.serde_json.specs.Data.{Data}
use Rattle.serde_json.specs.Read.{read}
use Rattle.piece_files.specs.declared.file_fault.FileFault.{FileFault}
use Rattle.piece_files.specs.declared.file_fault.FileFault.TheVariants.{NotJson, Member, Piece, Limit, NoMemory}
use Rattle.piece_files.specs.Elements.{elements_of}
use Rattle.piece_files.specs.Faults.{◌>>=◌, or_fault, FailsAs, Gives}
use Rattle.piece_files.proofs.Read.{json_of-is, json_of-unread}
use Rattle.piece_files.proofs.Whole.{fails_first}
use Rattle.txn_files.specs.Entries.{entry_of}
use Rattle.txn_words.specs.declared.entry.Entry.{Entry}
use Rattle.txn_files.specs.EntryLine.{entry_on, entry_in, entry_found, is_blank}

pub entry_on-text : (line text : List ℕ) → length line ≤ 1000 → is_blank line ≡ false → IsUtf8 line → text ≡ line → entry_on line ≡ (or_fault NotJson (read text) >>= entry_in)
unfolding entry_on
entry_on-text line text short some is_text same = rw (le-leb (length line) 1000 short, some, json_of-is line text (omega arith) is_text same) refl

pub entry_on-unread : (line : List ℕ) → length line ≤ 1000 → is_blank line ≡ false → (IsUtf8 line → ⊥) → entry_on line ≡ Err NotJson
unfolding entry_on
entry_on-unread line short some no_text = rw (le-leb (length line) 1000 short, some, json_of-unread line (omega arith) (λ is_text. absurd (no_text is_text))) refl

pub entry_on-found : (line text : List ℕ) (d : Data) (found : Option Entry) (gives : Result (Option Entry) FileFault) → length line ≤ 1000 → is_blank line ≡ false → IsUtf8 line → text ≡ line → read text ≡ Rattle.std.specs.Prelude.Some d → found ≡ option_and_then entry_of (elements_of d) → gives ≡ entry_found found → entry_on line ≡ gives
entry_on-found line text d found gives short some is_text same was is made =
    entry_on-text line text short some is_text same ∙ ap (λ r. or_fault NotJson r >>= entry_in) was ∙ ap entry_found (sym is) ∙ sym made

pub entry_on-fails : (line text : List ℕ) (fault : FileFault) → length line ≤ 1000 → is_blank line ≡ false → IsUtf8 line → text ≡ line → FailsAs fault (or_fault NotJson (read text)) → FailsAs fault (entry_on line)
entry_on-fails line text fault short some is_text same h =
    subst (FailsAs fault) (sym (entry_on-text line text short some is_text same)) (fails_first fault (or_fault NotJson (read text)) entry_in h)

pub Gives-same : {A : Type 0} (r : Result A FileFault) → Gives (λ x. x) r r
Gives-same (Ok x) = refl
Gives-same (Err NotJson) = refl
Gives-same (Err Member) = refl
Gives-same (Err (Piece part i)) = refl
Gives-same (Err Limit) = refl
Gives-same (Err NoMemory) = tt
