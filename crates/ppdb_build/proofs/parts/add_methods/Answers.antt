use Rattle.std.{proofs.Common.{◌≡◌, ◌+◌, ◌++◌, List, [], ◌∷◌, take, fold, sym, ap, ◌∙◌, arith}, specs.List.{filter_map}, proofs.lemmas.List.{take_all, take_more}}
use Rattle.std.proofs.lemmas.List.Sums.{fold_push}
use Rattle.sequence_points.specs.Written.{first_of}
use Rattle.ppdb_build_canon.specs.Limits.{large_step_of}
use Rattle.ppdb_values.specs.declared.file.MethodValue.{MethodValue}
use Rattle.ppdb_build_draft.specs.Draft.{with_method}
use Rattle.ppdb_build_limits.proofs.Firsts.{none_more}
use Rattle.ppdb_build.proofs.Writable.{step_at}
use Rattle.ppdb_build.proofs.parts.add_methods.Goals as goal

pub loop-method-preserved : goal.loop-method-preserved
loop-method-preserved c =
    let methods = c.args.methods.now in
    let i = c.loop-method.method-index in
    let item = c.method-item.result in
    let more : take (i + 1) methods ≡ take i methods ++ item ∷ [] =
    take_more methods i item (omega arith) ∙ ap (λ (x : MethodValue). take i methods ++ x ∷ []) (sym c.method-item.is) in
    record {
      added = c.in-Ok.ensures.added ∙ ap (λ draft. with_method draft item) c.loop-method.invariant.added
          ∙ sym (fold_push with_method c.args.draft.now (take i methods) item) ∙ ap (fold with_method c.args.draft.now) (sym more);
      none = none_more large_step_of methods i item (omega arith) c.loop-method.invariant.none (ap large_step_of (sym c.method-item.is) ∙ c.in-Ok.ensures.none);
    }

pub returns-in-Err-clause-limit : goal.returns-in-Err-clause-limit
returns-in-Err-clause-limit c =
    step_at c.args.methods.now c.loop-method.method-index c.method-item.result (omega arith) c.loop-method.invariant.none (sym c.method-item.is)
    c.in-Err.error c.in-Err.ensures.limit

pub returns-clause-none : goal.returns-clause-none
returns-clause-none c =
    ap (λ (xs : List MethodValue). first_of (filter_map large_step_of xs)) (sym (take_all c.loop-method.method-index c.args.methods.now (omega arith)))
    ∙ ap first_of c.loop-method.invariant.none
