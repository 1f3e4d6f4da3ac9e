use Rattle.std.{proofs.Common.{◌∙◌, Some, sym, ap, arith}, proofs.lemmas.List.{drop_all}, specs.Cmp.Lexicographic.{slice_cmp}, specs.FinMap.{get, get-empty}}
use Rattle.std.specs.Ordering.{nat_cmp}
use Rattle.ppdb_library.{specs.Pieces.{files_in}, proofs.Pieces.{file_from}}
use Rattle.ppdb_library.proofs.piece.find_file.Goals as goal

pub returns-then-eq : goal.returns-then-eq
returns-then-eq c =
    let first = file_from c.args.files.now c.args.pieces.now c.args.name.now c.loop-piece.piece-index c.loop-piece-test.true in
    let named = c.name_of.ensures in
    let holds = c.contents_of.ensures in
    let same = c.if-eq.ensures in
    ap Some holds ∙ sym (c.loop-piece.invariant ∙ (rw (← named, ← same) at first))

pub loop-piece-preserved : goal.loop-piece-preserved
loop-piece-preserved c =
    let first = file_from c.args.files.now c.args.pieces.now c.args.name.now c.loop-piece.piece-index c.loop-piece-test.true in
    let named = c.name_of.ensures in
    let same = c.if-eq.ensures in
    c.loop-piece.invariant ∙ (rw (← named, ← same) at first)

pub returns : goal.returns
returns c =
    sym (c.loop-piece.invariant ∙ (ap (λ rest. get (files_in c.args.files.now rest) c.args.name.now)
    (drop_all c.loop-piece.piece-index c.args.pieces.now (omega arith)) ∙ get-empty (slice_cmp nat_cmp) c.args.name.now))
