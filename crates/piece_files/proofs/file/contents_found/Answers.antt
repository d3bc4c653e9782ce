use Rattle.std.proofs.Common.{◌≡◌, ◌∙◌, ◌<◌, ◌≤◌, Some, sym, arith}
use Rattle.piece_files.specs.Files.{all_of}
use Rattle.piece_files.proofs.Whole.{gives_fault, version_fault, numbers_fault, pieces_fault, in_range, other_version, too_many}
use Rattle.piece_files.proofs.file.contents_found.Goals.{else-is_version-via-then-is_version+else-found-most, else-is_version-via-else-is_version}
use Rattle.piece_files.proofs.file.contents_found.Goals as goal

pub returns-in_err-version : goal.returns-in_err-version
returns-in_err-version g c old new h =
    let f = c.args.found in
    gives_fault _ c.from_residual.result c.in_err-version.field-0.0 _ c.from_residual.ensures.1 (version_fault g.K.PieceKind.most f.version (all_of f.numbers) old new c.in_err-version.field-0.0 c.in_err-version.ensures.value)

pub returns-in_err-numbers : goal.returns-in_err-numbers
returns-in_err-numbers g c old new h =
    let f = c.args.found in
    let is : f.version ≡ Some c.in_ok-version.version = grind arith in
    let fault = c.in_err-numbers.field-0.0 in
    let missing = rw c.all_numbers.ensures at c.in_err-numbers.ensures.value in
    gives_fault _ c.from_residual-in_err-numbers.result fault _ c.from_residual-in_err-numbers.ensures.1 (numbers_fault g.K.PieceKind.most f.version (all_of f.numbers) old new c.in_ok-version.version is fault missing)

pub returns-in_err-found : goal.returns-in_err-found
returns-in_err-found g c old new h =
    let f = c.args.found in
    let is : f.version ≡ Some c.in_ok-version.version = grind arith in
    let are : all_of f.numbers ≡ Some c.in_ok-numbers.numbers = grind arith in
    let fault = c.in_err-found.field-0.0 in
    gives_fault _ c.from_residual-in_err-found.result fault _ c.from_residual-in_err-found.ensures.1 (pieces_fault g.K.PieceKind.most f.version (all_of f.numbers) old new c.in_ok-version.version is c.in_ok-numbers.numbers are fault (c.in_err-found.ensures old new h))

pub returns-then-found-most : goal.returns-then-found-most
returns-then-found-most g c old new h =
    let f = c.args.found in
    let is : f.version ≡ Some c.in_ok-version.version = grind arith in
    let are : all_of f.numbers ≡ Some c.in_ok-numbers.numbers = grind arith in
    let w = c.in_ok-found.ensures old new h in
    let found = c.in_ok-found.found in
    let few : found.count ≤ g.K.PieceKind.most = omega (arith, c.most.ensures) in
    in_range g.K.PieceKind.most f.version (all_of f.numbers) old new c.in_ok-version.version is c.in_ok-numbers.numbers are w.0 found.pieces.items found.count w.1 w.2 w.3 (sym c.is_version.ensures ∙ c.if-is_version.true) few

pub returns-else-is_version : goal.returns-else-is_version
returns-else-is_version g c old new h =
    let f = c.args.found in
    let is : f.version ≡ Some c.in_ok-version.version = grind arith in
    let are : all_of f.numbers ≡ Some c.in_ok-numbers.numbers = grind arith in
    let w = c.in_ok-found.ensures old new h in
    elim c.else-is_version.branch [
      | else-is_version-via-then-is_version+else-found-most b ↦
          let more : g.K.PieceKind.most < c.in_ok-found.found.count = omega (arith, b.most.ensures) in
          too_many g.K.PieceKind.most f.version (all_of f.numbers) old new c.in_ok-version.version is c.in_ok-numbers.numbers are w.0 c.in_ok-found.found.count w.1 w.2 (sym c.is_version.ensures ∙ b.if-is_version.true) more
      | else-is_version-via-else-is_version b ↦ other_version g.K.PieceKind.most f.version (all_of f.numbers) old new c.in_ok-version.version is c.in_ok-numbers.numbers are w.0 w.1 (sym c.is_version.ensures ∙ b.if-is_version.false)
    ]
