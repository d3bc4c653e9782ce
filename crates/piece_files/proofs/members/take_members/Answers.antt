use Rattle.std.proofs.Common.{◌≡◌, ◌-◌, [], ◌∷◌, length, Some, None, refl, ap, ◌∙◌, arith}
use Rattle.json.specs.Json.{read_key, value}
use Rattle.json.specs.Reads.{token_of}
use Rattle.json.proofs.Grammar.{read_key-shorter}
use Rattle.serde_json.specs.Data.{no_members, put}
use Rattle.piece_files.specs.Tokens.{value_at}
use Rattle.piece_files.proofs.Turns.{member_turn, member_refused, key_refused, members_over}
use Rattle.piece_files.proofs.Values.{value_at-none}
use Rattle.piece_files.proofs.members.take_members.Goals as goal

pub members-init : goal.members-init
members-init g c = (length c.args.reader.now, no_members, omega arith, refl, c.requires.nothing)

pub returns-in_err-key-clause-err : goal.returns-in_err-key-clause-err
returns-in_err-key-clause-err g c refused =
    let l = c.members in
    l.invariant.3 ∙ key_refused (value c.args.depth) l.invariant.1 l.invariant.0 l.reader c.in_err-key.ensures.value

pub returns-in_err-token-clause-err : goal.returns-in_err-token-clause-err
returns-in_err-token-clause-err g c refused =
    let l = c.members in
    let k = c.in-Some.key.now in
    let s = c.next_key.new.self in
    let named : read_key l.reader ≡ Some (Some k, s) = grind arith in
    let empty : s ≡ [] = grind arith in
    let none = ap (value_at c.args.depth) empty ∙ value_at-none c.args.depth in
    l.invariant.3 ∙ member_refused (value c.args.depth) l.invariant.1 l.invariant.0 k l.reader s named none

pub members-preserved : goal.members-preserved
members-preserved g c =
    let l = c.members in
    let n = l.invariant.0 in
    let old = l.invariant.1 in
    let k = c.in-Some.key.now in
    let s = c.next_key.new.self in
    let named : read_key l.reader ≡ Some (Some k, s) = grind arith in
    let first : s ≡ token_of c.in_ok-token.token ∷ c.next.new.self = grind arith in
    let done = c.in_ok-take_member.ensures in
    let r = c.take_member.new.reader in
    let less = read_key-shorter l.reader (Some k) s named in
    let fewer = ap length first in
    let shorter = done.shorter in
    let read = ap (value_at c.args.depth) first ∙ done.ok.1 in (
      n - 1,
      put k done.ok.0 old,
      omega (arith, l.invariant.2, less, fewer, shorter),
      l.invariant.3 ∙ member_turn (value c.args.depth) old n k l.reader s r done.ok.0 (omega (arith, l.invariant.2, less)) named read,
      done.ok.2 old l.invariant.4,
    )

pub returns-in_err-take_member-clause-err : goal.returns-in_err-take_member-clause-err
returns-in_err-take_member-clause-err g c refused =
    let l = c.members in
    let k = c.in-Some.key.now in
    let s = c.next_key.new.self in
    let named : read_key l.reader ≡ Some (Some k, s) = grind arith in
    let first : s ≡ token_of c.in_ok-token.token ∷ c.next.new.self = grind arith in
    let none = ap (value_at c.args.depth) first ∙ c.in_err-take_member.ensures.err (grind arith) in
    l.invariant.3 ∙ member_refused (value c.args.depth) l.invariant.1 l.invariant.0 k l.reader s named none

pub returns-clause-ok : goal.returns-clause-ok
returns-clause-ok g c =
    let l = c.members in
    let ended : read_key l.reader ≡ Some (None, c.next_key.new.self) = grind arith in
    (l.invariant.1, l.invariant.3 ∙ members_over (value c.args.depth) l.invariant.1 l.invariant.0 l.reader c.next_key.new.self l.invariant.2 ended, l.invariant.4)
