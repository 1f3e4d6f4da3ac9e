use Rattle.std.{proofs.Common.{subst, ap, ◌∙◌}, specs.Prelude.{All}}
use Rattle.ppdb_values.specs.Types.{IsNarrowRow}
use Rattle.ppdb_build.proofs.Guids.{has_types}
use Rattle.ppdb_build.proofs.joined_head.joined_has_types.Goals as goal

pub returns : goal.returns
returns c =
    has_types c.joined_parts_are_flat.ensures c.joined_records_are_flat.ensures c.args.inputs.now c.index-inputs-0.result c.requires.some
    c.requires.fit c.files_keep_rules.ensures c.id_is_long.ensures c.args.draft.now c.requires.draft
    (subst (All IsNarrowRow) (c.as_slice.ensures ∙ ap (λ rows. rows.variables) c.rows.ensures) c.variables_are_narrow.ensures)
