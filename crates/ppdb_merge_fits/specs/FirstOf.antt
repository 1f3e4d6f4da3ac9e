-- What is reported, or that nothing is.
use Rattle.std.specs.Prelude.{◌≡◌, ◌⊎◌, List, [], Some, Result, Ok, Err, slice_get}
use Rattle.ppdb_base.specs.declared.merge_error.MergeError.{MergeError, TheVariants.Memory}

-- the first that is reported, or that memory is refused
abbrev pub IsTold : List MergeError → MergeError → Type 0
IsTold told error = (error ≡ Memory) ⊎ (slice_get told 0 ≡ Some error)

-- an answer where nothing is reported, else the first that is
abbrev pub IsFirstOf : {A : Type 0} → List MergeError → Result A MergeError → Type 0
IsFirstOf told (Ok answer) = told ≡ []
IsFirstOf told (Err error) = IsTold told error
