use Rattle.std.proofs.Common.{◌≡◌, true, length, drop, ap, subst, arith}
use Rattle.std.proofs.lemmas.List.{length-map}
use Rattle.serde_json.specs.Data.{no_members, put}
use Rattle.piece_files.specs.Members.{kind_named}
use Rattle.piece_files.specs.PlainBytes.{Comma, Finishes, OpensObject}
use Rattle.piece_files.proofs.PlainLemmas.{no_members_taken, member_to_comma, member_to_end}
use Rattle.piece_files.proofs.MemberLemmas.{nothing_found}
use Rattle.piece_files.proofs.plain_members.plain_members_in.Goals as goal

pub members-init : goal.members-init
members-init g c =
    let kind = kind_named c.args.names g.K.PieceKind.of g.K.PieceKind.is_old g.K.PieceKind.part g.K.PieceKind.most in
    let same : length kind.numbers ≡ g.row.N = rw length-map c.requires.many in
    let text = c.args.text.now in
    let start = c.in-Some.start in
    let is = c.as_bytes-bytes.ensures.value in (
      no_members,
      omega (arith, c.in-Some.ensures.place, ap length is),
      no_members_taken text (drop start text) (subst (λ b. OpensObject b (drop start b)) is c.in-Some.ensures.object),
      rw (c.nothing_found-found.ensures.version, c.nothing_found-found.ensures.numbers, c.nothing_found-found.ensures.pieces) (nothing_found kind g.row.N same),
    )

pub members-preserved : goal.members-preserved
members-preserved g c =
    let l = c.members in
    let old = l.invariant.0 in
    let text = c.args.text.now in
    let is = c.as_bytes-bytes.ensures.value in
    let k = c.in-Some-key_at.key.now in
    let behind = c.in-Some-key_at.value in
    let end = c.take_plain_member.new.at in
    let next = c.in-Some-after_comma.next in
    let taken : c.in_ok-take_plain_member.field-0 ≡ true = grind arith in
    let w = c.in_ok-take_plain_member.ensures.taken taken in
    let comma = subst (λ b. Comma (drop end b) (drop next b)) is c.in-Some-after_comma.ensures.comma in (
      put k w.0 old,
      omega (arith, c.in-Some-after_comma.ensures.place, ap length is),
      member_to_comma text (drop l.at text) (drop behind text) (drop end text) k w.0 old l.invariant.2 c.in-Some-key_at.ensures.key w.1 (drop next text) comma,
      w.2 old l.invariant.3,
    )

pub returns-then-is_last_brace : goal.returns-then-is_last_brace
returns-then-is_last_brace g c =
    let l = c.members in
    let old = l.invariant.0 in
    let text = c.args.text.now in
    let is = c.as_bytes-bytes.ensures.value in
    let k = c.in-Some-key_at.key.now in
    let behind = c.in-Some-key_at.value in
    let end = c.take_plain_member.new.at in
    let taken : c.in_ok-take_plain_member.field-0 ≡ true = grind arith in
    let w = c.in_ok-take_plain_member.ensures.taken taken in
    let finishes = subst (λ b. Finishes (drop end b)) is (c.is_last_brace.ensures c.if-is_last_brace.true) in
    (put k w.0 old, member_to_end text (drop l.at text) (drop behind text) (drop end text) k w.0 old l.invariant.2 c.in-Some-key_at.ensures.key w.1 finishes, w.2 old l.invariant.3)
