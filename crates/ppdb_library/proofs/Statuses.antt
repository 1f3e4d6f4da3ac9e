-- Statuses and their numbers.
use Rattle.std.{proofs.Common.{ℕ, ◌≡◌, List, [], arith, refl}, specs.Prelude.{Option}}
use Rattle.ppdb_run_stops.specs.declared.status.{Status.{Status}, Status.TheVariants.{Done, Refused, Usage, ReadFault, WriteFault, Memory, Absent, TooLong, Unfit}}
use Rattle.ppdb_run_stops.specs.{declared.status.Status.TheVariants.{Limit, NoMethod, Unlinked, NoDocument, Uncomposed, Unlisted}, Status.{status_number}}
use Rattle.ppdb_library.specs.Calls.{made_bytes}

pub zero_is_done : (status : Status) → status_number status ≡ 0 → status ≡ Done
zero_is_done Done e = refl
zero_is_done Refused e = absurd (omega arith)
zero_is_done Usage e = absurd (omega arith)
zero_is_done ReadFault e = absurd (omega arith)
zero_is_done WriteFault e = absurd (omega arith)
zero_is_done Memory e = absurd (omega arith)
zero_is_done Absent e = absurd (omega arith)
zero_is_done TooLong e = absurd (omega arith)
zero_is_done Unfit e = absurd (omega arith)
zero_is_done Limit e = absurd (omega arith)
zero_is_done NoMethod e = absurd (omega arith)
zero_is_done Unlinked e = absurd (omega arith)
zero_is_done NoDocument e = absurd (omega arith)
zero_is_done Uncomposed e = absurd (omega arith)
zero_is_done Unlisted e = absurd (omega arith)

-- a status is that of a run that is done, or of one that makes nothing
pub data IsDoneOrNot (status : Status) : Type 0 where
  is_done : status ≡ Done → IsDoneOrNot status
  is_not : (status ≡ Done → ⊥) → ((writes : Option (List ℕ × List ℕ)) → made_bytes status writes ≡ []) → IsDoneOrNot status

pub done_or_not : (status : Status) → IsDoneOrNot status
done_or_not Done = is_done refl
done_or_not Refused = is_not (λ e. absurd cc) (λ writes. refl)
done_or_not Usage = is_not (λ e. absurd cc) (λ writes. refl)
done_or_not ReadFault = is_not (λ e. absurd cc) (λ writes. refl)
done_or_not WriteFault = is_not (λ e. absurd cc) (λ writes. refl)
done_or_not Memory = is_not (λ e. absurd cc) (λ writes. refl)
done_or_not Absent = is_not (λ e. absurd cc) (λ writes. refl)
done_or_not TooLong = is_not (λ e. absurd cc) (λ writes. refl)
done_or_not Unfit = is_not (λ e. absurd cc) (λ writes. refl)
done_or_not Limit = is_not (λ e. absurd cc) (λ writes. refl)
done_or_not NoMethod = is_not (λ e. absurd cc) (λ writes. refl)
done_or_not Unlinked = is_not (λ e. absurd cc) (λ writes. refl)
done_or_not NoDocument = is_not (λ e. absurd cc) (λ writes. refl)
done_or_not Uncomposed = is_not (λ e. absurd cc) (λ writes. refl)
done_or_not Unlisted = is_not (λ e. absurd cc) (λ writes. refl)
