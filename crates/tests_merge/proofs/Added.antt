-- An input that is added is one more.
use Rattle.std.{proofs.Common.{ℕ, ◌≡◌, ◌+◌, List, [], ◌∷◌, ◌++◌, length, sym, ◌∙◌, ap, arith}, specs.Prelude.{Option, None, Result, Ok, Err, OnOk}}
use Rattle.ppdb_base.specs.declared.merge_error.MergeError.{MergeError}
use Rattle.ppdb_maps.specs.Map.{Map}
use Rattle.ppdb_merge.specs.{declared.trace.Trace.{Trace}, Merged.{is_first, trace_of, unless}, Refusals.{added, refusal_of}}
use Rattle.ppdb_values.specs.RawFile.{RawFile}

one_longer : (traces : List Trace) (t : Trace) → length (traces ++ t ∷ []) ≡ length traces + 1
one_longer [] t = omega arith
one_longer (first ∷ traces) t = let rest = one_longer traces t in omega (arith, rest)

pub one_more : {T E : Type 0} (result : Result T E) (marks : List (List ℕ)) (traces more : List Trace) (m : Map) (raw : RawFile)
    → OnOk result (added marks traces m raw ≡ Ok more) → OnOk result (refusal_of marks traces m raw ≡ None)
    → OnOk result (length more ≡ length traces + 1)
one_more (Err error) marks traces more m raw is fits = tt
one_more (Ok answer) marks traces more m raw is fits =
    let last : Trace = trace_of (is_first traces) m raw in
    let whole : Ok (traces ++ last ∷ []) ≡ Ok more = sym (ap (λ (o : Option MergeError). unless o (Ok (traces ++ last ∷ []))) fits) ∙ is in
    let same : traces ++ last ∷ [] ≡ more = cc in
    sym (ap length same) ∙ one_longer traces last
