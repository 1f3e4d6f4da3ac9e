-- What a list that is appended to begins with.
use Rattle.std.proofs.Common.{◌≡◌, ℕ, List, ◌++◌, ap, ◌∙◌, append_assoc}
use Rattle.ppdb_base.specs.Written.{BeginsWith}

-- what begins with more begins with less
pub begins-more : (a x b c : List ℕ) → BeginsWith b c → b ≡ a ++ x → BeginsWith a c
begins-more a x b c begins e = (x ++ begins.0, begins.1 ∙ ap (λ prefix. prefix ++ begins.0) e ∙ append_assoc a x begins.0)
