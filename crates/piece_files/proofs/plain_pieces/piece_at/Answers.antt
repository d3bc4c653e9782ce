use Rattle.std.proofs.Common.{drop, sym, ap, subst, ◌∙◌, arith}
use Rattle.std.proofs.lemmas.Option.{IfSome_then}
use Rattle.std.proofs.lemmas.Result.{IfOk-weaker}
use Rattle.serde_json.specs.Data.{array}
use Rattle.piece_files.specs.PlainBytes.{OpensArray}
use Rattle.piece_files.specs.Tokens.{items_from}
use Rattle.piece_files.proofs.ItemLists.{list_of-items_from}
use Rattle.piece_files.proofs.PlainLemmas.{array_is}
use Rattle.piece_files.proofs.plain_pieces.piece_at.Goals as goal

pub returns-clause-piece : goal.returns-clause-piece
returns-clause-piece g c =
    let text = c.args.text.now in
    let at = c.args.at.now in
    let start = c.in-Some.start in
    let opens = subst (λ b. OpensArray (drop at b) (drop start b)) c.as_bytes.ensures.value c.in-Some.ensures.array in
    IfOk-weaker c.read_plain.result _ _ (λ found h. IfSome_then found h (λ piece w. (
      array (items_from w.0),
      array_is c.args.depth (drop at text) (drop start text) (drop c.read_plain.new.at text) w.0 (omega arith) opens w.1,
      w.2 ∙ ap g.K.PieceKind.of (sym (list_of-items_from w.0)),
    ))) c.read_plain.ensures.piece
