-- A folder of files that are lent, with the one that was written.
use Rattle.std.specs.{Prelude.{ℕ, ◌≡◌, List, Option, Some, None, string_bytes}, FinMap.insert}
use Rattle.ppdb_base.specs.Files.{Files}
use Rattle.ppdb_library.specs.declared.folder.MadeFile.{MadeFile}

-- the files with the one that was written in the place of what had its name
abbrev pub with_made : Files → Option MadeFile → Files
with_made files None = files
with_made files (Some made) = insert files (string_bytes made.name) made.bytes

-- the file has this name and these bytes
pub record IsMade (made : MadeFile) (name bytes : List ℕ) : Type 0 where
  pub named : string_bytes made.name ≡ name
  pub holds : made.bytes ≡ bytes
