use Rattle.std.proofs.{Common.{◌<◌, length, drop, string_bytes, ◌∙◌, ap, arith}, lemmas.List.{length-map}}
use Rattle.ppdb_run_words.{specs.Task.{file_of, pairs_of}, specs.Words.{texts}, proofs.PairWords.{file_here, file_next, file_none, first_two}}
use Rattle.ppdb_run_words.proofs.inputs.file_in.Goals as goal

pub returns-then-left-eq1 : goal.returns-then-left-eq1
returns-then-left-eq1 c =
    let whole = first_two c.loop-rest.rest.now c.file-item.result c.in-len2-up.len_at_least c.file-item.is in
    c.as_str.ensures.value ∙ (file_here _ _ _ _ c.loop-rest.left whole c.if-left-eq1.true ∙ c.loop-rest.invariant)

pub loop-rest-preserved : goal.loop-rest-preserved
loop-rest-preserved c =
    let whole = first_two c.loop-rest.rest.now c.file-item.result c.in-len2-up.len_at_least c.file-item.is in
    ap (λ w. file_of (pairs_of (texts w)) c.saturating_sub-left.result) c.split_at.ensures.back
    ∙ (ap (file_of (pairs_of (texts (drop 2 c.loop-rest.rest.now)))) c.saturating_sub-left.ensures
    ∙ (file_next _ _ _ _ c.loop-rest.left whole c.if-left-eq1.false ∙ c.loop-rest.invariant))

pub returns : goal.returns
returns c =
    let few : length (texts c.loop-rest.rest.now) < 2 =
    (let same = length-map c.loop-rest.rest.now string_bytes in let below = c.in_default.len_below in omega (arith, same, below)) in
    file_none (texts c.loop-rest.rest.now) c.loop-rest.left few ∙ c.loop-rest.invariant
