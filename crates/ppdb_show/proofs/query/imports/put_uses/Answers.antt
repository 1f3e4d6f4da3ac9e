use Rattle.std.{proofs.Common.{refl, arith, ◌∙◌, ap, sym}, specs.Prelude.{Option, Ok}}
use Rattle.blob_grammar.specs.Reader.{Left}
use Rattle.type_blobs.specs.{declared.import.Import.{Import}, Imports.{ImportItem}, ImportReading.{shown, shown_answer}}
use Rattle.ppdb_show.proofs.{Added.{walk_none, walk_next, walk_done, adds_same, uses_each}, Given.{answer_next, answer_end, answer_never}}
use Rattle.ppdb_show.proofs.query.imports.put_uses.Goals as goal

pub imports-init : goal.imports-init
imports-init c = record { whole = c.requires; walk = walk_none _ _ _ _ _ _ _ refl (omega arith) }

pub imports-preserved : goal.imports-preserved
imports-preserved c = record {
  whole = ap (λ (l : Left ImportItem). l.fault) c.next.ensures.left ∙ c.imports.invariant.whole;
  walk = walk_next _ _ _ _ _ (shown c.in-Ok-Some.import) _ _ _ _ _ _ c.imports.invariant.walk
      (answer_next c.imports.imports c.next.new.self.items (shown c.in-Ok-Some.import)
      (sym (ap shown_answer (c.in-Ok-Some.is ∙ ap (λ (o : Option Import). Ok o) c.in-Ok-Some.field-0-is)) ∙ c.next.ensures.answer)
      (ap (λ (l : Left ImportItem). l.items) c.next.ensures.left))
      c.in_ok-put_import_line-in-Ok-Some.ensures (omega arith);
}

pub unreachable-requires : goal.unreachable-requires
unreachable-requires c =
    answer_never c.imports.imports.items c.imports.imports.fault c.in-Err.field-0 c.imports.invariant.whole (sym (ap shown_answer c.in-Err.is)
    ∙ c.next.ensures.answer)

pub returns-in-Ok-None : goal.returns-in-Ok-None
returns-in-Ok-None c =
    adds_same c.args.printer.form _ _ _ _ (uses_each c.args.imports.now.items)
    (walk_done _ _ _ _ _ _ _ _ c.imports.invariant.walk
    (answer_end c.imports.imports.items c.imports.imports.fault
    (sym (ap shown_answer (c.in-Ok-None.is ∙ ap (λ (o : Option Import). Ok o) c.in-Ok-None.field-0-is)) ∙ c.next.ensures.answer)))
