-- One more of several tries.
use Rattle.std.{proofs.Common.{ℕ, suc, ◌+◌, ◌<◌, ◌≡◌, arith, zero, Result, Err}, specs.IoError.{error_kind}, specs.declared.io.Error.{Error}}
use Rattle.std.specs.declared.io.ErrorKind.TheVariants.{Interrupted, TimedOut}
use Rattle.ppdb_cli_files.specs.Retried.{IsRetried, Retries, answered, again, out_of_tries}

-- what the tries that are left come to is what all of them come to
abbrev pub Leaves : {F T : Type 0} → (F → Result T Error → F → Type 0) → (all left : ℕ) (first before : F) → Type 0
Leaves {F} {T} answers all left first before = (result : Result T Error) → Retries answers left before result → Retries answers all first result

-- a try that no signal interrupted
pub last : {F T : Type 0} (answers : F → Result T Error → F → Type 0) (all left done : ℕ) (first before after : F) (result : Result T Error)
    → left + done ≡ all → done < all → Leaves answers all left first before → answers before result after → IsRetried result
    → Retries answers all first result
last answers all zero done first before after result sum less leaves got is = absurd (omega arith)
last answers all (suc left) done first before after result sum less leaves got is = leaves result (answered got is)

-- a try that a signal interrupted
pub next : {F T : Type 0} (answers : F → Result T Error → F → Type 0) (all left done : ℕ) (first before after : F) (e : Error)
    → left + done ≡ all → done < all → Leaves answers all left first before → answers before (Err e) after → error_kind e ≡ Interrupted
    → (less : ℕ) × (less + (done + 1) ≡ all) × Leaves answers all less first after
next answers all zero done first before after e sum less leaves got is = absurd (omega arith)
next answers all (suc left) done first before after e sum less leaves got is =
    (left, omega arith, λ result rest. leaves result (again got is rest))

-- no try is left
pub none : {F T : Type 0} (answers : F → Result T Error → F → Type 0) (all left done : ℕ) (first before : F) (e : Error)
    → left + done ≡ all → (done < all → ⊥) → Leaves answers all left first before → error_kind e ≡ TimedOut → Retries answers all first (Err e)
none answers all zero done first before e sum all-done leaves is = leaves _ (out_of_tries is)
none answers all (suc left) done first before e sum all-done leaves is = absurd (all-done (omega arith))
