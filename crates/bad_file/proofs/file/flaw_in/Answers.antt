use Rattle.std.proofs.Common.{◌≡◌, Bool, true, false, Ok, ap, refl, ◌∙◌}
use Rattle.std.proofs.lemmas.Result.{IfOk-weaker}
use Rattle.serde_json.specs.Errors.{IsMemory}
use Rattle.serde_json.specs.View.{view}
use Rattle.piece_files.specs.declared.file_fault.FileFault.TheVariants.{NotJson}
use Rattle.piece_files.specs.Faults.{or_fault}
use Rattle.piece_files.specs.Json.{json_of}
use Rattle.piece_files.proofs.Read.{json_of-is, json_of-long, json_of-unread}
use Rattle.bad_file.proofs.Flaws.{not_json, told, too_long}
use Rattle.bad_file.proofs.file.flaw_in.Goals as goal

pub returns-then-bytes-gt-MAX_BYTES : goal.returns-then-bytes-gt-MAX_BYTES
returns-then-bytes-gt-MAX_BYTES c = too_long c.args.bytes.now (json_of-long c.args.bytes.now c.if-bytes-gt-MAX_BYTES.true)

pub returns-in-Ok : goal.returns-in-Ok
returns-in-Ok c =
    let bytes = c.args.bytes.now in
    let d = view c.in-Ok.file in
    let is : json_of bytes ≡ Ok d = json_of-is bytes bytes c.if-bytes-gt-MAX_BYTES.false c.in-Ok.ensures.ok.0 refl ∙ ap (or_fault NotJson) c.in-Ok.ensures.ok.1 in
    IfOk-weaker c.flaw_in_value.result _ _ (λ found. told bytes d found is) c.flaw_in_value.ensures

clash : (b : Bool) → b ≡ true → b ≡ false → ⊥
clash true on off = cc off
clash false on off = cc on

pub returns-else-is_memory : goal.returns-else-is_memory
returns-else-is_memory c =
    let bytes = c.args.bytes.now in
    let other : IsMemory c.in-Err.error → ⊥ = λ memory. clash c.is_memory.result (c.is_memory.ensures.1 memory) c.if-is_memory.false in
    not_json bytes c.line.result c.column.result (json_of-unread bytes c.if-bytes-gt-MAX_BYTES.false (c.in-Err.ensures.err other))
