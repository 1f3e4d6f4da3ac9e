use Rattle.std.proofs.{Common.{◌≡◌, refl, sym, arith}, lemmas.Result.{err_from_is_err_and}}
use Rattle.type_blobs.specs.{Types.{token_of}, Imports.{text_of}, declared.import_part.ImportPart.TheVariants.{Namespace, Assembly, Target}, ImportReading.{heap_of}}
use Rattle.type_blobs.proofs.ImportsTaken.{of_kind_is, no_first, no_text_2, an_import_1, an_import_2, an_import_3}
use Rattle.type_blobs.proofs.import.Source.unnamed.Goals as goal

pub returns-in_err-namespace-in-1 : goal.returns-in_err-namespace-in-1
returns-in_err-namespace-in-1 c =
    let limits = c.args.self.now.limits in
    let heap = heap_of c.args.self.now.blobs in
    let blob = c.args.self.now.blob.now in
    let p = err_from_is_err_and c.from_residual.result c.from_residual.ensures.1 in
    rw (p.1, p.2) (of_kind_is limits heap blob c.args.kind 1 c.args.at _ c.in-1.is
    (no_first limits heap blob Namespace 1 c.args.at (text_of heap) c.in_err-namespace-in-1.field-0.0 refl (sym c.in_err-namespace-in-1.ensures.found)))

pub returns-in_err-assembly-in-2 : goal.returns-in_err-assembly-in-2
returns-in_err-assembly-in-2 c =
    let limits = c.args.self.now.limits in
    let heap = heap_of c.args.self.now.blobs in
    let blob = c.args.self.now.blob.now in
    let p = err_from_is_err_and c.from_residual-in_err-assembly-in-2.result c.from_residual-in_err-assembly-in-2.ensures.1 in
    rw (p.1, p.2) (of_kind_is limits heap blob c.args.kind 2 c.args.at _ c.in-2.is
    (no_first limits heap blob Assembly 2 c.args.at (λ n. n) c.in_err-assembly-in-2.field-0.0 refl (sym c.in_err-assembly-in-2.ensures.found)))

pub returns-in_err-namespace-in-2 : goal.returns-in_err-namespace-in-2
returns-in_err-namespace-in-2 c =
    let limits = c.args.self.now.limits in
    let heap = heap_of c.args.self.now.blobs in
    let blob = c.args.self.now.blob.now in
    let p = err_from_is_err_and c.from_residual-in_err-namespace-in-2.result c.from_residual-in_err-namespace-in-2.ensures.1 in
    rw (p.1, p.2) (of_kind_is limits heap blob c.args.kind 2 c.args.at _ c.in-2.is (no_text_2 limits heap blob c.args.at c.in_ok-assembly-in-2.assembly
    c.in_ok-assembly-in-2.next c.in_err-namespace-in-2.field-0.0 (sym c.in_ok-assembly-in-2.ensures.found) (sym c.in_err-namespace-in-2.ensures.found)))

pub returns-in_err-target-in_default : goal.returns-in_err-target-in_default
returns-in_err-target-in_default c =
    let limits = c.args.self.now.limits in
    let heap = heap_of c.args.self.now.blobs in
    let blob = c.args.self.now.blob.now in
    let kind : c.args.kind ≡ 3 = omega arith in
    let p = err_from_is_err_and c.from_residual-in_err-target-in_default.result c.from_residual-in_err-target-in_default.ensures.1 in
    rw (p.1, p.2) (of_kind_is limits heap blob c.args.kind 3 c.args.at _ kind
    (no_first limits heap blob Target 3 c.args.at token_of c.in_err-target-in_default.field-0.0 refl (sym c.in_err-target-in_default.ensures.found)))

pub returns-in_ok-namespace-in-1 : goal.returns-in_ok-namespace-in-1
returns-in_ok-namespace-in-1 c =
    let limits = c.args.self.now.limits in
    let heap = heap_of c.args.self.now.blobs in
    let blob = c.args.self.now.blob.now in (
      of_kind_is limits heap blob c.args.kind 1 c.args.at _ c.in-1.is (an_import_1 limits heap blob c.args.at c.in_ok-namespace-in-1.namespace.now
          c.in_ok-namespace-in-1.end (sym c.in_ok-namespace-in-1.ensures.found)),
      c.in_ok-namespace-in-1.ensures.within,
    )

pub returns-in_ok-namespace-in-2 : goal.returns-in_ok-namespace-in-2
returns-in_ok-namespace-in-2 c =
    let limits = c.args.self.now.limits in
    let heap = heap_of c.args.self.now.blobs in
    let blob = c.args.self.now.blob.now in (
      of_kind_is limits heap blob c.args.kind 2 c.args.at _ c.in-2.is (an_import_2 limits heap blob c.args.at c.in_ok-assembly-in-2.assembly
          c.in_ok-assembly-in-2.next c.in_ok-namespace-in-2.namespace.now c.in_ok-namespace-in-2.end (sym c.in_ok-assembly-in-2.ensures.found)
          (sym c.in_ok-namespace-in-2.ensures.found)),
      c.in_ok-namespace-in-2.ensures.within,
    )

pub returns-in_ok-target-in_default : goal.returns-in_ok-target-in_default
returns-in_ok-target-in_default c =
    let limits = c.args.self.now.limits in
    let heap = heap_of c.args.self.now.blobs in
    let blob = c.args.self.now.blob.now in
    let kind : c.args.kind ≡ 3 = omega arith in (
      of_kind_is limits heap blob c.args.kind 3 c.args.at _ kind (an_import_3 limits heap blob c.args.at c.in_ok-target-in_default.target
          c.in_ok-target-in_default.end (sym c.in_ok-target-in_default.ensures.found)),
      c.in_ok-target-in_default.ensures.within,
    )
