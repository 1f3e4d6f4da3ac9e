use Rattle.std.proofs.{Common.{rules, ◌≡◌, ◌<◌, length, false, string_bytes, sym, ◌∙◌, subst, arith}, lemmas.List.{length-map}}
use Rattle.ppdb_run_words.{specs.Words.{is_file_word}, proofs.PairWords.{first_not, no_remap_few, no_remap_names, no_remap_options, second_not, third_not, three_of}}
use Rattle.ppdb_base.proofs.Written.{on_err}
use Rattle.ppdb_run_words.proofs.words.remap.Goals as goal
use Rattle.ppdb_run_words.proofs.words.remap.Goals.{in_default-via-then-args-lt3, in_default-via-in-len3-up+then-names_file+then-names_file-2+else-names_file-3}
use Rattle.ppdb_run_words.proofs.words.remap.Goals.{in_default-via-in-len3-up+then-names_file+else-names_file-2, in_default-via-in-len3-up+else-names_file}

pub returns-in_err-options-in-len3-up-clause-usage : goal.returns-in_err-options-in-len3-up-clause-usage
returns-in_err-options-in-len3-up-clause-usage c =
    let whole = three_of c.args.args.now c.input-item.result c.map-item.result c.output-item.result c.in-len3-up.len_at_least c.input-item.is c.map-item.is
    c.output-item.is in
    on_err c.from_residual.result (no_remap_options _ _ _ _ _ whole c.in_err-options-in-len3-up.ensures.usage)

pub returns-in_default-clause-usage : goal.returns-in_default-clause-usage
returns-in_default-clause-usage c = elim c.in_default.branch [
  | in_default-via-then-args-lt3 w ↦
      let many = length-map c.args.args.now string_bytes in let few : length c.args.args.now < 3 = search rules in no_remap_few _ (omega (arith, many, few))
  | in_default-via-in-len3-up+then-names_file+then-names_file-2+else-names_file-3 w ↦
      let whole = three_of c.args.args.now w.input-item.result w.map-item.result w.output-item.result w.in-len3-up.len_at_least w.input-item.is w.map-item.is
      w.output-item.is in
      no_remap_names _ _ _ _ _ whole (third_not _ _ _
      (subst (λ w. is_file_word w ≡ false) w.deref-then-names_file-2.ensures (sym w.names_file-then-names_file-2.ensures ∙ w.if-names_file-3.false)))
  | in_default-via-in-len3-up+then-names_file+else-names_file-2 w ↦
      let whole = three_of c.args.args.now w.input-item.result w.map-item.result w.output-item.result w.in-len3-up.len_at_least w.input-item.is w.map-item.is
      w.output-item.is in
      no_remap_names _ _ _ _ _ whole (second_not _ _ _
      (subst (λ w. is_file_word w ≡ false) w.deref-then-names_file.ensures (sym w.names_file-then-names_file.ensures ∙ w.if-names_file-2.false)))
  | in_default-via-in-len3-up+else-names_file w ↦
      let whole = three_of c.args.args.now w.input-item.result w.map-item.result w.output-item.result w.in-len3-up.len_at_least w.input-item.is w.map-item.is
      w.output-item.is in
      no_remap_names _ _ _ _ _ whole (first_not _ _ _
      (subst (λ w. is_file_word w ≡ false) w.deref.ensures (sym w.names_file.ensures ∙ w.if-names_file.false)))
]
