use Rattle.std.proofs.Common.{ap, ◌∙◌}
use Rattle.ppdb_values_check.proofs.Joined.{imports_joined, ok_beside}
use Rattle.ppdb_values_check.proofs.imports.sound_imports.Goals as goal

pub returns : goal.returns
returns c = ok_beside c.chains_end.result (c.all_sound.ensures.rows.0 c.if-not-all_sound.false) c.chains_end.ensures
    (imports_joined c.args.counted.now c.as_slice-imports.result.now (c.as_slice-imports.ensures ∙ ap (λ value. value.imports) c.value.ensures))
