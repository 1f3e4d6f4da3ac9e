use Rattle.std.{proofs.Common.{◌≡◌, ◌≤◌, ◌&&◌, false, sym, arith, ◌∙◌, ap}, proofs.lemmas.Result.{err_from_is_err_and}, specs.Prelude.{nat_le, Some}}
use Rattle.blob_grammar.proofs.Steps.{nothing_left}
use Rattle.type_blobs.{specs.ImportReading.{heap_of}, proofs.ImportsTaken.{at_end, no_kind, a_kind, other_kind, no_kind_below, no_kind_above}}
use Rattle.type_blobs.proofs.import.Source.import.Goals as goal
use Rattle.type_blobs.proofs.import.Source.import.Goals.{in_default-via-then-kind-lt1, in_default-via-else-kind-lt1+else-this-lt4+else-this-lt10}

pub returns-then-at-self : goal.returns-then-at-self
returns-then-at-self c = at_end c.args.self.now.limits (heap_of c.args.self.now.blobs) c.args.self.now.blob.now c.args.at c.if-at-self.true

pub returns-in_err-kind : goal.returns-in_err-kind
returns-in_err-kind c =
    let p = err_from_is_err_and c.from_residual.result c.from_residual.ensures.1 in
    rw (p.1, p.2) (no_kind c.args.self.now.limits (heap_of c.args.self.now.blobs) c.args.self.now.blob.now c.args.at c.in_err-kind.field-0.0 (omega arith)
    (sym c.in_err-kind.ensures.found))

pub returns-in_err-unnamed-in-1-to-3 : goal.returns-in_err-unnamed-in-1-to-3
returns-in_err-unnamed-in-1-to-3 c =
    let limits = c.args.self.now.limits in
    let heap = heap_of c.args.self.now.blobs in
    let blob = c.args.self.now.blob.now in
    let low : 1 ≤ c.in_ok-kind.kind = omega arith in
    let high : c.in_ok-kind.kind ≤ 9 = omega arith in
    let p = err_from_is_err_and c.from_residual-in_err-unnamed-in-1-to-3.result c.from_residual-in_err-unnamed-in-1-to-3.ensures.1 in
    rw (p.1, p.2) (a_kind limits heap blob c.args.at c.in_ok-kind.kind c.in_ok-kind.len (sym c.in_ok-kind.ensures.found) low high
    ∙ c.in_err-unnamed-in-1-to-3.ensures)

pub returns-in_ok-unnamed-in-1-to-3 : goal.returns-in_ok-unnamed-in-1-to-3
returns-in_ok-unnamed-in-1-to-3 c =
    let limits = c.args.self.now.limits in
    let heap = heap_of c.args.self.now.blobs in
    let blob = c.args.self.now.blob.now in
    let low : 1 ≤ c.in_ok-kind.kind = omega arith in
    let high : c.in_ok-kind.kind ≤ 9 = omega arith in (
      a_kind limits heap blob c.args.at c.in_ok-kind.kind c.in_ok-kind.len (sym c.in_ok-kind.ensures.found) low high ∙ c.in_ok-unnamed-in-1-to-3.ensures.0,
      c.in_ok-unnamed-in-1-to-3.ensures.1,
    )

pub returns-in_err-named-in-4-to-9 : goal.returns-in_err-named-in-4-to-9
returns-in_err-named-in-4-to-9 c =
    let limits = c.args.self.now.limits in
    let heap = heap_of c.args.self.now.blobs in
    let blob = c.args.self.now.blob.now in
    let low : 1 ≤ c.in_ok-kind.kind = omega arith in
    let high : c.in_ok-kind.kind ≤ 9 = omega arith in
    let p = err_from_is_err_and c.from_residual-in_err-named-in-4-to-9.result c.from_residual-in_err-named-in-4-to-9.ensures.1 in
    rw (p.1, p.2) (a_kind limits heap blob c.args.at c.in_ok-kind.kind c.in_ok-kind.len (sym c.in_ok-kind.ensures.found) low high
    ∙ c.in_err-named-in-4-to-9.ensures)

pub returns-in_ok-named-in-4-to-9 : goal.returns-in_ok-named-in-4-to-9
returns-in_ok-named-in-4-to-9 c =
    let limits = c.args.self.now.limits in
    let heap = heap_of c.args.self.now.blobs in
    let blob = c.args.self.now.blob.now in
    let low : 1 ≤ c.in_ok-kind.kind = omega arith in
    let high : c.in_ok-kind.kind ≤ 9 = omega arith in (
      a_kind limits heap blob c.args.at c.in_ok-kind.kind c.in_ok-kind.len (sym c.in_ok-kind.ensures.found) low high ∙ c.in_ok-named-in-4-to-9.ensures.0,
      c.in_ok-named-in-4-to-9.ensures.1,
    )

pub returns-in_default : goal.returns-in_default
returns-in_default c =
    let limits = c.args.self.now.limits in
    let heap = heap_of c.args.self.now.blobs in
    let blob = c.args.self.now.blob.now in
    let kind = c.in_ok-kind.kind in
    let none : (nat_le 1 kind && nat_le kind 9) ≡ false = elim c.in_default.branch [
      | in_default-via-then-kind-lt1 w ↦ no_kind_below limits heap blob kind (omega arith)
      | in_default-via-else-kind-lt1+else-this-lt4+else-this-lt10 w ↦ no_kind_above limits heap blob kind (omega arith)
    ] in
    other_kind limits heap blob c.args.at kind c.in_ok-kind.len (sym c.in_ok-kind.ensures.found) none
    ∙ ap (λ f. nothing_left (Some f)) (sym c.out_of_range.ensures)
