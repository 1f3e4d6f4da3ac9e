use Rattle.std.{proofs.Common.{length, ap, ◌∙◌, Option, List}, specs.Option.{option_or}, specs.List.{filter_map}}
use Rattle.sequence_points.specs.Written.{first_of}
use Rattle.ppdb_base.specs.declared.limits.Limit.{Limit}
use Rattle.ppdb_values.specs.declared.file.MethodValue.{MethodValue}
use Rattle.ppdb_build_canon.specs.Limits.{too_many_rows, tables, list_past_end, large_offset}
use Rattle.ppdb_build.proofs.Limits.{one_more}
use Rattle.ppdb_build.proofs.write.early_limit.Goals as goal

pub returns : goal.returns
returns c =
    let value = c.args.value.now in
    c.or.ensures
    ∙ ap (λ (o : Option Limit). option_or o c.offset_limit.result) c.length_limit.ensures
    ∙ ap (option_or _) (c.offset_limit.ensures ∙ ap (λ (methods : List MethodValue). first_of (filter_map large_offset methods)) c.as_slice.ensures)
    ∙ one_more (first_of (filter_map (too_many_rows value) tables)) (list_past_end value 0x33 (λ scope. length scope.variables))
    (list_past_end value 0x34 (λ scope. length scope.constants))
    (first_of (filter_map large_offset value.methods))
