use Rattle.std.proofs.Common.{◌≡◌, ◌<◌, [], ◌∷◌, true, length, get_or, take, sym, subst, ◌∙◌, arith}
use Rattle.std.specs.List.{All}
use Rattle.std.proofs.lemmas.List.{take_more}
use Rattle.std.proofs.lemmas.List.Elements.{All-append, All-cons, All-nil}
use Rattle.json.specs.Run.{is_plain}
use Rattle.piece_files.proofs.plain_bytes.plain_len.Goals as goal

pub plain-preserved : goal.plain-preserved
plain-preserved c =
    let bytes = c.args.bytes.now in
    let i = c.plain.len in
    let within : i < length bytes = omega arith in
    let one = All-cons (λ byte. is_plain byte ≡ true) (get_or bytes i 0) [] (sym c.is_plain.ensures ∙ c.if-is_plain.true) (All-nil (λ byte. is_plain byte ≡ true)) in (
      omega arith,
      subst (All (λ byte. is_plain byte ≡ true)) (sym (take_more bytes i 0 within)) (All-append (λ byte. is_plain byte ≡ true) (take i bytes) (get_or bytes i 0 ∷ []) c.plain.invariant.1 one),
    )
