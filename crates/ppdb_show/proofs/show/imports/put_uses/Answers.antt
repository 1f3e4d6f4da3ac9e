use Rattle.std.{proofs.Common.{◌≡◌, sym, ◌∙◌, ap}, specs.Prelude.{Option, Result, Ok, Some, None}}
use Rattle.ppdb_base.specs.declared.BlobFault.{BlobFault}
use Rattle.type_blobs.specs.{declared.import.Import.{Import}, ImportReading.{shown, shown_answer}}
use Rattle.ppdb_show_lines.proofs.Putting.{put_piece, put_prefix, put_whole}
use Rattle.ppdb_show.proofs.{Lines.{uses_step, uses_done}, Whole.{answers_some, answers_none}}
use Rattle.ppdb_show.proofs.show.imports.put_uses.Goals as goal

-- what an answer shows
shown_some : (r : Result (Option Import) BlobFault) (o : Option Import) (x : Import) → r ≡ Ok o → o ≡ Some x → shown_answer r ≡ Ok (Some (shown x))
shown_some r o x a b = ap shown_answer (a ∙ ap (λ (p : Option Import). Ok p) b)

shown_none : (r : Result (Option Import) BlobFault) (o : Option Import) → r ≡ Ok o → o ≡ None → shown_answer r ≡ Ok None
shown_none r o a b = ap shown_answer (a ∙ ap (λ (p : Option Import). Ok p) b)

pub imports-preserved : goal.imports-preserved
imports-preserved g c =
    let e = answers_some c.imports.imports.items c.imports.imports.fault (shown c.in-Ok-Some.import) (sym c.next.ensures.answer
    ∙ shown_some c.next.result c.in-Ok-Some.field-0 c.in-Ok-Some.import c.in-Ok-Some.is c.in-Ok-Some.field-0-is) in
    rw c.next.ensures.left (record {
      whole = c.imports.invariant.whole;
      put = put_piece _ _ _ _ _ _ _ _ _ (rw (uses_step c.args.printer.form c.imports.imports.items (shown c.in-Ok-Some.import) e) at c.imports.invariant.put)
          c.in_ok-put_use-in-Ok-Some.ensures;
    })

pub returns-in_err-put_use-in-Ok-Some : goal.returns-in_err-put_use-in-Ok-Some
returns-in_err-put_use-in-Ok-Some g c =
    let e = answers_some c.imports.imports.items c.imports.imports.fault (shown c.in-Ok-Some.import) (sym c.next.ensures.answer
    ∙ shown_some c.next.result c.in-Ok-Some.field-0 c.in-Ok-Some.import c.in-Ok-Some.is c.in-Ok-Some.field-0-is) in
    put_prefix _ _ _ _ _ _ _ _ _ _ _ (rw (uses_step c.args.printer.form c.imports.imports.items (shown c.in-Ok-Some.import) e) at c.imports.invariant.put)
    c.from_residual.ensures.1 c.in_err-put_use-in-Ok-Some.ensures

pub returns-in-Ok-None : goal.returns-in-Ok-None
returns-in-Ok-None g c =
    let e = answers_none c.imports.imports.items c.imports.imports.fault (sym c.next.ensures.answer
    ∙ shown_none c.next.result c.in-Ok-None.field-0 c.in-Ok-None.is c.in-Ok-None.field-0-is) in
    put_whole _ _ _ _ _ (rw (uses_done c.args.printer.form c.imports.imports.items e) at c.imports.invariant.put)
