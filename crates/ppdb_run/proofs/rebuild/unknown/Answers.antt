use Rattle.std.{proofs.Common.{◌≡◌, sym, ap, true, false, arith}, specs.Prelude.{option_map}}
use Rattle.ppdb_base.specs.declared.merge_error.MergeError.TheVariants.{KindUnknown}
use Rattle.custom_info.specs.Kinds.{kind_of}
use Rattle.ppdb_tables.specs.RawOf.{raw_of}
use Rattle.ppdb_values.specs.Customs.{kind_in}
use Rattle.ppdb_verify.specs.Views.{tables_of}
use Rattle.ppdb_merge_fits.specs.Clashes.{is_unknown}
use Rattle.ppdb_run.proofs.Unknowns.{at_unknown, past_known, none_unknown}
use Rattle.ppdb_run.proofs.rebuild.unknown.Goals as goal

pub returns-then-is_unknown : goal.returns-then-is_unknown
returns-then-is_unknown g c =
    let raw = raw_of (tables_of c.args.file.now) in
    let is : is_unknown (kind_of c.args.marks.now (kind_in raw c.custom-cells.result)) ≡ true =
    rw (← c.guid_of_kind-kind.ensures, ← c.kind_of.ensures, ← c.is_unknown.ensures) c.if-is_unknown.true in
    rw c.guid_of_kind-kind.ensures
    (sym (ap (option_map (λ custom. KindUnknown custom.0 custom.1.kind))
    (at_unknown c.args.marks.now raw c.loop-row.row c.custom-cells.result c.custom-cells.ensures.row is c.loop-row.invariant)))

pub loop-row-preserved : goal.loop-row-preserved
loop-row-preserved g c =
    let raw = raw_of (tables_of c.args.file.now) in
    let is : is_unknown (kind_of c.args.marks.now (kind_in raw c.custom-cells.result)) ≡ false =
    rw (← c.guid_of_kind-kind.ensures, ← c.kind_of.ensures, ← c.is_unknown.ensures) c.if-is_unknown.false in
    past_known c.args.marks.now raw c.loop-row.row c.custom-cells.result c.custom-cells.ensures.row is c.loop-row.invariant

pub returns : goal.returns
returns g c =
    let raw = raw_of (tables_of c.args.file.now) in
    let shape = c.keeps.ensures.rules.shape.customs in
    sym (ap (option_map (λ custom. KindUnknown custom.0 custom.1.kind))
    (none_unknown c.args.marks.now raw c.loop-row.row (omega (arith, shape)) c.loop-row.invariant))
