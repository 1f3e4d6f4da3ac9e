use Rattle.std.{proofs.Common.{string_bytes, inl, inr, sym, ◌∙◌, subst, arith}, specs.Prelude.{IsTrue}, proofs.lemmas.List.{length-map}}
use Rattle.ppdb_run_words.{specs.Words.{is_file_word}, proofs.PairWords.{is_empty, merge_spelled, merge_words, no_merge_count, no_merge_options, not_empty, one_of}}
use Rattle.ppdb_run_words.proofs.PairWords.{options_pairs}
use Rattle.ppdb_base.proofs.Written.{on_err}
use Rattle.ppdb_run_words.proofs.words.merge.Goals as goal
use Rattle.ppdb_run_words.proofs.words.merge.Goals.{then-is_empty-via-then-is_empty, then-is_empty-via-else-is_empty+then-pairs}

pub returns-then-is_empty-clause-usage : goal.returns-then-is_empty-clause-usage
returns-then-is_empty-clause-usage c =
    let whole = one_of c.args.args.now c.output-item.result c.in-len1-up.len_at_least c.output-item.is in
    let same = length-map c.split_pairs.result.0.now string_bytes in
    no_merge_count _ _ _ _ _ whole c.split_pairs.ensures.whole c.split_pairs.ensures.even c.split_pairs.ensures.files c.split_pairs.ensures.behind
    (elim c.then-is_empty.branch [
      | then-is_empty-via-then-is_empty w ↦
          let none = is_empty c.split_pairs.result.0.now (sym c.is_empty.ensures ∙ w.if-is_empty.true) in inl (omega (arith, same, none))
      | then-is_empty-via-else-is_empty+then-pairs w ↦ let many = w.if-pairs.true in inr (omega (arith, same, many))
    ])

pub returns-in_err-options-in-len1-up-clause-usage : goal.returns-in_err-options-in-len1-up-clause-usage
returns-in_err-options-in-len1-up-clause-usage c =
    let whole = one_of c.args.args.now c.output-item.result c.in-len1-up.len_at_least c.output-item.is in
    on_err c.from_residual.result
    (no_merge_options _ _ _ _ _ whole c.split_pairs.ensures.whole c.split_pairs.ensures.even c.split_pairs.ensures.files c.split_pairs.ensures.behind
    c.in_err-options-in-len1-up.ensures.usage)

pub returns-in_ok-options-in-len1-up-clause-command : goal.returns-in_ok-options-in-len1-up-clause-command
returns-in_ok-options-in-len1-up-clause-command c =
    let whole = one_of c.args.args.now c.output-item.result c.in-len1-up.len_at_least c.output-item.is in
    let same = length-map c.split_pairs.result.0.now string_bytes in
    let some = not_empty c.split_pairs.result.0.now (sym c.is_empty.ensures ∙ c.if-is_empty.false) in
    let few = c.if-pairs.false in
    let file : IsTrue (is_file_word (string_bytes c.output-item.result)) =
    subst (λ w. IsTrue (is_file_word w)) c.deref.ensures (sym c.names_file.ensures ∙ c.if-names_file.true) in
    merge_words _ _ _ _ _ whole c.split_pairs.ensures.whole c.split_pairs.ensures.even c.split_pairs.ensures.files c.split_pairs.ensures.behind
    _ _ c.as_str.ensures.value file (omega (arith, same, some)) (omega (arith, same, few)) c.in_ok-options-in-len1-up.ensures.options

pub returns-in_ok-options-in-len1-up-clause-spelled : goal.returns-in_ok-options-in-len1-up-clause-spelled
returns-in_ok-options-in-len1-up-clause-spelled c =
    let whole = one_of c.args.args.now c.output-item.result c.in-len1-up.len_at_least c.output-item.is in
    merge_spelled _ _ _ _ _ _ _ whole c.split_pairs.ensures.whole c.as_str.ensures.value c.in_ok-options-in-len1-up.ensures.spelled

pub returns-in_ok-options-in-len1-up-clause-pairs : goal.returns-in_ok-options-in-len1-up-clause-pairs
returns-in_ok-options-in-len1-up-clause-pairs c =
    let whole = one_of c.args.args.now c.output-item.result c.in-len1-up.len_at_least c.output-item.is in
    options_pairs _ _ _ _ _ _ _ whole c.split_pairs.ensures.whole c.split_pairs.ensures.files c.in_ok-options-in-len1-up.ensures.options
    c.in_ok-options-in-len1-up.ensures.spelled
