-- The result of `json_of` for bytes that `read` accepts, for bytes that it rejects, and for too
-- many bytes.
use Rattle.std.proofs.Common.{◌≡◌, ℕ, ◌<◌, ◌≤◌, nat_le, Bool, true, false, cond, List, length, Option, None, Err, refl, sym, ap, arith}
use Rattle.std.specs.Str.{IsUtf8, is_utf8}
use Rattle.std.proofs.lemmas.Str.{is_utf8-from_IsUtf8, IsUtf8-from_is_utf8}
use Rattle.std.proofs.lemmas.Bool.{le-leb}
use Rattle.std.proofs.lemmas.Bool.Decides.{nat_tests}
use Rattle.serde_json.specs.Data.{Data}
use Rattle.serde_json.specs.Read.{read}
use Rattle.piece_files.specs.declared.file_fault.FileFault.TheVariants.{NotJson, Limit}
use Rattle.piece_files.specs.Faults.{or_fault}
use Rattle.piece_files.specs.Json.{json_of, max_bytes}

pub json_of-is : (bytes text : List ℕ) → length bytes ≤ max_bytes → IsUtf8 bytes → text ≡ bytes → json_of bytes ≡ or_fault NotJson (read text)
unfolding json_of
json_of-is bytes text short is_text same = rw (le-leb (length bytes) max_bytes short, is_utf8-from_IsUtf8 bytes is_text) (ap (λ s. or_fault NotJson (read s)) (sym same))

pub json_of-long : (bytes : List ℕ) → max_bytes < length bytes → json_of bytes ≡ Err Limit
unfolding json_of
json_of-long bytes more = let long : nat_le (length bytes) max_bytes ≡ false = grind (arith, nat_tests, more) in rw long refl

-- The result is `NotJson` if the bytes are not UTF-8, or if they are UTF-8 but not a JSON value.
chosen : (is_text : Bool) (found : Option Data) → (is_text ≡ true → found ≡ None) → cond is_text (or_fault NotJson found) (Err NotJson) ≡ Err NotJson
chosen true found none = ap (or_fault NotJson) (none refl)
chosen false found none = refl

pub json_of-unread : (bytes : List ℕ) → length bytes ≤ max_bytes → (IsUtf8 bytes → read bytes ≡ None) → json_of bytes ≡ Err NotJson
unfolding json_of
json_of-unread bytes short none = rw (le-leb (length bytes) max_bytes short) (chosen (is_utf8 bytes) (read bytes) (λ e. none (IsUtf8-from_is_utf8 bytes e)))
