use Rattle.std.proofs.{Common.{◌≡◌, refl, sym, arith}, lemmas.Result.{err_from_is_err_and}}
use Rattle.type_blobs.specs.{Types.{token_of}, Imports.{text_of}, declared.import_part.ImportPart.TheVariants.{Namespace, Assembly, Target}, ImportReading.{heap_of}}
use Rattle.type_blobs.proofs.ImportsTaken.{of_kind_is, no_alias, no_second, no_text_8, an_import_4, an_import_5, an_import_6, an_import_7, an_import_8, an_import_9}
use Rattle.type_blobs.proofs.import.Source.named.Goals as goal

pub returns-in_err-alias : goal.returns-in_err-alias
returns-in_err-alias c =
    let p = err_from_is_err_and c.from_residual.result c.from_residual.ensures.1 in
    rw (p.1, p.2) (no_alias c.args.self.now.limits (heap_of c.args.self.now.blobs) c.args.self.now.blob.now c.args.kind c.args.at c.in_err-alias.field-0.0
    c.requires.from c.requires.to (sym c.in_err-alias.ensures.found))

pub returns-in_err-namespace-in-4 : goal.returns-in_err-namespace-in-4
returns-in_err-namespace-in-4 c =
    let limits = c.args.self.now.limits in
    let heap = heap_of c.args.self.now.blobs in
    let blob = c.args.self.now.blob.now in
    let p = err_from_is_err_and c.from_residual-in_err-namespace-in-4.result c.from_residual-in_err-namespace-in-4.ensures.1 in
    rw (p.1, p.2) (of_kind_is limits heap blob c.args.kind 4 c.args.at _ c.in-4.is (no_second limits heap blob Namespace 4 c.args.at c.in_ok-alias.alias.now
    c.in_ok-alias.next (text_of heap) c.in_err-namespace-in-4.field-0.0 refl (λ n. refl) (λ n. refl) (sym c.in_ok-alias.ensures.found)
    (sym c.in_err-namespace-in-4.ensures.found)))

pub returns-in_ok-namespace-in-4 : goal.returns-in_ok-namespace-in-4
returns-in_ok-namespace-in-4 c =
    let limits = c.args.self.now.limits in
    let heap = heap_of c.args.self.now.blobs in
    let blob = c.args.self.now.blob.now in (
      of_kind_is limits heap blob c.args.kind 4 c.args.at _ c.in-4.is (an_import_4 limits heap blob c.args.at c.in_ok-alias.alias.now c.in_ok-alias.next
          c.in_ok-namespace-in-4.namespace.now c.in_ok-namespace-in-4.end (sym c.in_ok-alias.ensures.found) (sym c.in_ok-namespace-in-4.ensures.found)),
      c.in_ok-namespace-in-4.ensures.within,
    )

pub returns-in_err-namespace-in-7 : goal.returns-in_err-namespace-in-7
returns-in_err-namespace-in-7 c =
    let limits = c.args.self.now.limits in
    let heap = heap_of c.args.self.now.blobs in
    let blob = c.args.self.now.blob.now in
    let p = err_from_is_err_and c.from_residual-in_err-namespace-in-7.result c.from_residual-in_err-namespace-in-7.ensures.1 in
    rw (p.1, p.2) (of_kind_is limits heap blob c.args.kind 7 c.args.at _ c.in-7.is (no_second limits heap blob Namespace 7 c.args.at c.in_ok-alias.alias.now
    c.in_ok-alias.next (text_of heap) c.in_err-namespace-in-7.field-0.0 refl (λ n. refl) (λ n. refl) (sym c.in_ok-alias.ensures.found)
    (sym c.in_err-namespace-in-7.ensures.found)))

pub returns-in_ok-namespace-in-7 : goal.returns-in_ok-namespace-in-7
returns-in_ok-namespace-in-7 c =
    let limits = c.args.self.now.limits in
    let heap = heap_of c.args.self.now.blobs in
    let blob = c.args.self.now.blob.now in (
      of_kind_is limits heap blob c.args.kind 7 c.args.at _ c.in-7.is (an_import_7 limits heap blob c.args.at c.in_ok-alias.alias.now c.in_ok-alias.next
          c.in_ok-namespace-in-7.namespace.now c.in_ok-namespace-in-7.end (sym c.in_ok-alias.ensures.found) (sym c.in_ok-namespace-in-7.ensures.found)),
      c.in_ok-namespace-in-7.ensures.within,
    )

pub returns-in-5 : goal.returns-in-5
returns-in-5 c =
    let limits = c.args.self.now.limits in
    let heap = heap_of c.args.self.now.blobs in
    let blob = c.args.self.now.blob.now in (
      of_kind_is limits heap blob c.args.kind 5 c.args.at _ c.in-5.is (an_import_5 limits heap blob c.args.at c.in_ok-alias.alias.now c.in_ok-alias.next
          (sym c.in_ok-alias.ensures.found)),
      c.in_ok-alias.ensures.within,
    )

pub returns-in_err-assembly-in-6 : goal.returns-in_err-assembly-in-6
returns-in_err-assembly-in-6 c =
    let limits = c.args.self.now.limits in
    let heap = heap_of c.args.self.now.blobs in
    let blob = c.args.self.now.blob.now in
    let p = err_from_is_err_and c.from_residual-in_err-assembly-in-6.result c.from_residual-in_err-assembly-in-6.ensures.1 in
    rw (p.1, p.2) (of_kind_is limits heap blob c.args.kind 6 c.args.at _ c.in-6.is (no_second limits heap blob Assembly 6 c.args.at c.in_ok-alias.alias.now
    c.in_ok-alias.next (λ n. n) c.in_err-assembly-in-6.field-0.0 refl (λ n. refl) (λ n. refl) (sym c.in_ok-alias.ensures.found)
    (sym c.in_err-assembly-in-6.ensures.found)))

pub returns-in_ok-assembly-in-6 : goal.returns-in_ok-assembly-in-6
returns-in_ok-assembly-in-6 c =
    let limits = c.args.self.now.limits in
    let heap = heap_of c.args.self.now.blobs in
    let blob = c.args.self.now.blob.now in (
      of_kind_is limits heap blob c.args.kind 6 c.args.at _ c.in-6.is (an_import_6 limits heap blob c.args.at c.in_ok-alias.alias.now c.in_ok-alias.next
          c.in_ok-assembly-in-6.assembly c.in_ok-assembly-in-6.end (sym c.in_ok-alias.ensures.found) (sym c.in_ok-assembly-in-6.ensures.found)),
      c.in_ok-assembly-in-6.ensures.within,
    )

pub returns-in_err-assembly-in-8 : goal.returns-in_err-assembly-in-8
returns-in_err-assembly-in-8 c =
    let limits = c.args.self.now.limits in
    let heap = heap_of c.args.self.now.blobs in
    let blob = c.args.self.now.blob.now in
    let p = err_from_is_err_and c.from_residual-in_err-assembly-in-8.result c.from_residual-in_err-assembly-in-8.ensures.1 in
    rw (p.1, p.2) (of_kind_is limits heap blob c.args.kind 8 c.args.at _ c.in-8.is (no_second limits heap blob Assembly 8 c.args.at c.in_ok-alias.alias.now
    c.in_ok-alias.next (λ n. n) c.in_err-assembly-in-8.field-0.0 refl (λ n. refl) (λ n. refl) (sym c.in_ok-alias.ensures.found)
    (sym c.in_err-assembly-in-8.ensures.found)))

pub returns-in_err-namespace-in-8 : goal.returns-in_err-namespace-in-8
returns-in_err-namespace-in-8 c =
    let limits = c.args.self.now.limits in
    let heap = heap_of c.args.self.now.blobs in
    let blob = c.args.self.now.blob.now in
    let p = err_from_is_err_and c.from_residual-in_err-namespace-in-8.result c.from_residual-in_err-namespace-in-8.ensures.1 in
    rw (p.1, p.2) (of_kind_is limits heap blob c.args.kind 8 c.args.at _ c.in-8.is
    (no_text_8 limits heap blob c.args.at c.in_ok-alias.alias.now c.in_ok-alias.next c.in_ok-assembly-in-8.assembly c.in_ok-assembly-in-8.next
    c.in_err-namespace-in-8.field-0.0 (sym c.in_ok-alias.ensures.found) (sym c.in_ok-assembly-in-8.ensures.found)
    (sym c.in_err-namespace-in-8.ensures.found)))

pub returns-in_ok-namespace-in-8 : goal.returns-in_ok-namespace-in-8
returns-in_ok-namespace-in-8 c =
    let limits = c.args.self.now.limits in
    let heap = heap_of c.args.self.now.blobs in
    let blob = c.args.self.now.blob.now in (
      of_kind_is limits heap blob c.args.kind 8 c.args.at _ c.in-8.is (an_import_8 limits heap blob c.args.at c.in_ok-alias.alias.now c.in_ok-alias.next
          c.in_ok-assembly-in-8.assembly c.in_ok-assembly-in-8.next c.in_ok-namespace-in-8.namespace.now c.in_ok-namespace-in-8.end
          (sym c.in_ok-alias.ensures.found) (sym c.in_ok-assembly-in-8.ensures.found) (sym c.in_ok-namespace-in-8.ensures.found)),
      c.in_ok-namespace-in-8.ensures.within,
    )

pub returns-in_err-target-in_default : goal.returns-in_err-target-in_default
returns-in_err-target-in_default c =
    let limits = c.args.self.now.limits in
    let heap = heap_of c.args.self.now.blobs in
    let blob = c.args.self.now.blob.now in
    let kind : c.args.kind ≡ 9 = omega arith in
    let p = err_from_is_err_and c.from_residual-in_err-target-in_default.result c.from_residual-in_err-target-in_default.ensures.1 in
    rw (p.1, p.2) (of_kind_is limits heap blob c.args.kind 9 c.args.at _ kind (no_second limits heap blob Target 9 c.args.at c.in_ok-alias.alias.now
    c.in_ok-alias.next token_of c.in_err-target-in_default.field-0.0 refl (λ n. refl) (λ n. refl) (sym c.in_ok-alias.ensures.found)
    (sym c.in_err-target-in_default.ensures.found)))

pub returns-in_ok-target-in_default : goal.returns-in_ok-target-in_default
returns-in_ok-target-in_default c =
    let limits = c.args.self.now.limits in
    let heap = heap_of c.args.self.now.blobs in
    let blob = c.args.self.now.blob.now in
    let kind : c.args.kind ≡ 9 = omega arith in (
      of_kind_is limits heap blob c.args.kind 9 c.args.at _ kind (an_import_9 limits heap blob c.args.at c.in_ok-alias.alias.now c.in_ok-alias.next
          c.in_ok-target-in_default.target c.in_ok-target-in_default.end (sym c.in_ok-alias.ensures.found) (sym c.in_ok-target-in_default.ensures.found)),
      c.in_ok-target-in_default.ensures.within,
    )
