-- A file is read as one thing.
use Rattle.std.proofs.Common.{ℕ, ◌≡◌, List, inl, sym, ◌∙◌, ap}
use Rattle.ppdb_base.specs.First.{IsAccepted}
use Rattle.ppdb_values.specs.RawFile.{RawFile, raw_in}
use Rattle.ppdb_verify.{specs.Files.{FileFaults, IsRawOf}, proofs.Streamed.{same_streams}}

pub one_raw : (bytes : List ℕ) (x y : RawFile) → IsAccepted (FileFaults bytes) → IsRawOf bytes x → IsRawOf bytes y → x ≡ y
one_raw bytes x y accepted one other =
    one.raw_is ∙ (ap raw_in (same_streams bytes (λ code at invalid. accepted code at (inl (inl invalid))) one.streams other.streams one.are other.are)
    ∙ sym other.raw_is)
