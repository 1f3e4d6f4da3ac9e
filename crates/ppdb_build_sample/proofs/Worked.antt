-- The worked samples.
use Rattle.std.{proofs.Common.{◌∷◌, ◌++◌, [], refl, ap, arith, ◌∙◌}, specs.Prelude.{None, codes}, specs.Fmt.{decimal}, proofs.lemmas.Fmt.{decimal_digit}}
use Rattle.ppdb_build_sample.specs.Worked.{WorkedSamples, sample_of_one}

pub worked_samples : WorkedSamples
worked_samples = record {
  one = ap (λ digits. record sample_of_one {
    documents = record { name = codes "/s/" ++ digits ++ codes ".cs"; algorithm = None; hash = []; language = None } ∷ [];
  })
      (decimal_digit 1 (omega arith));
  hoisted = refl;
  documents = ap (λ digits. (codes "/s/" ++ digits ++ codes ".cs") ∷ (codes "/s/" ++ decimal 2 ++ codes ".cs") ∷ []) (decimal_digit 1 (omega arith))
      ∙ ap (λ digits. codes "/s/1.cs" ∷ (codes "/s/" ++ digits ++ codes ".cs") ∷ []) (decimal_digit 2 (omega arith));
}
