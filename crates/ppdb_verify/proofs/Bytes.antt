-- The streams of the worked files, and the files that these hold.
use Rattle.std.{proofs.Common.{◌≡◌, ℕ, zero, suc, List, refl, arith}, specs.Prelude.{Some, None, take, drop, codes, false, true}, specs.Str.{bytes_eq}}
use Rattle.ppdb_values.specs.{WorkedBytes.{stored_empty, stored_small, stored_program}, WorkedProgram.{program_file}, WorkedSmall.{empty_file, small_file}}
use Rattle.ppdb_values.specs.RawFile.{raw_in}
use Rattle.metadata_root.specs.{declared.kind.StreamKind.TheVariants.{Pdb, Tables, Strings, UserStrings, Guids, Blobs}, Fields.{number_at}, Root.{name_at}}
use Rattle.metadata_root.specs.{Root.{fields_to}, Streams.{Stream, Streams, IsListed, AreStreamsOf}}
use Rattle.ppdb_tables.specs.Counts.{counts_below}
use Rattle.ppdb_verify.specs.Files.{IsRawOf}

-- a slice of a file
abbrev part : List ℕ → ℕ → ℕ → Stream
part file place len = record { place = place; bytes = take len (drop place file) }

-- a name that is not #US
differ : (name : List ℕ) → bytes_eq name (codes "#US") ≡ false → name ≡ codes "#US" → ⊥
differ name other e = let yes : bytes_eq name (codes "#US") ≡ true = rw e refl in cc

-- ---- stored_empty

abbrev empty_streams : Streams
empty_streams = record {
  pdb = Some (part stored_empty 112 32);
  tables = Some (part stored_empty 144 24);
  strings = Some (part stored_empty 168 4);
  user_strings = None;
  guids = Some (part stored_empty 172 0);
  blobs = Some (part stored_empty 172 4);
}

empty_unlisted : IsListed stored_empty UserStrings → ⊥
unfolding number_at name_at fields_to
empty_unlisted (zero, header) = differ (codes "#Pdb") refl header.named
empty_unlisted (suc zero, header) = differ (codes "#~") refl header.named
empty_unlisted (suc (suc zero), header) = differ (codes "#Strings") refl header.named
empty_unlisted (suc (suc (suc zero)), header) = differ (codes "#GUID") refl header.named
empty_unlisted (suc (suc (suc (suc zero))), header) = differ (codes "#Blob") refl header.named
empty_unlisted (suc (suc (suc (suc (suc k)))), header) = let few = header.counted in omega (arith, few)

empty_are : AreStreamsOf stored_empty empty_streams
unfolding number_at name_at fields_to
empty_are Pdb = record { header = 0; listed = record { counted = omega arith; named = refl }; place = refl; bytes = refl; within = omega arith }
empty_are Tables = record { header = 1; listed = record { counted = omega arith; named = refl }; place = refl; bytes = refl; within = omega arith }
empty_are Strings = record { header = 2; listed = record { counted = omega arith; named = refl }; place = refl; bytes = refl; within = omega arith }
empty_are UserStrings = empty_unlisted
empty_are Guids = record { header = 3; listed = record { counted = omega arith; named = refl }; place = refl; bytes = refl; within = omega arith }
empty_are Blobs = record { header = 4; listed = record { counted = omega arith; named = refl }; place = refl; bytes = refl; within = omega arith }

empty_holds : empty_file ≡ raw_in empty_streams
unfolding number_at counts_below
empty_holds = refl

pub empty_read : IsRawOf stored_empty empty_file
empty_read = record { streams = empty_streams; are = empty_are; raw_is = empty_holds }

-- ---- stored_small

abbrev small_streams : Streams
small_streams = record {
  pdb = Some (part stored_small 112 36);
  tables = Some (part stored_small 148 96);
  strings = Some (part stored_small 244 8);
  user_strings = None;
  guids = Some (part stored_small 252 0);
  blobs = Some (part stored_small 252 28);
}

small_unlisted : IsListed stored_small UserStrings → ⊥
unfolding number_at name_at fields_to
small_unlisted (zero, header) = differ (codes "#Pdb") refl header.named
small_unlisted (suc zero, header) = differ (codes "#~") refl header.named
small_unlisted (suc (suc zero), header) = differ (codes "#Strings") refl header.named
small_unlisted (suc (suc (suc zero)), header) = differ (codes "#GUID") refl header.named
small_unlisted (suc (suc (suc (suc zero))), header) = differ (codes "#Blob") refl header.named
small_unlisted (suc (suc (suc (suc (suc k)))), header) = let few = header.counted in omega (arith, few)

small_are : AreStreamsOf stored_small small_streams
unfolding number_at name_at fields_to
small_are Pdb = record { header = 0; listed = record { counted = omega arith; named = refl }; place = refl; bytes = refl; within = omega arith }
small_are Tables = record { header = 1; listed = record { counted = omega arith; named = refl }; place = refl; bytes = refl; within = omega arith }
small_are Strings = record { header = 2; listed = record { counted = omega arith; named = refl }; place = refl; bytes = refl; within = omega arith }
small_are UserStrings = small_unlisted
small_are Guids = record { header = 3; listed = record { counted = omega arith; named = refl }; place = refl; bytes = refl; within = omega arith }
small_are Blobs = record { header = 4; listed = record { counted = omega arith; named = refl }; place = refl; bytes = refl; within = omega arith }

small_holds : small_file ≡ raw_in small_streams
unfolding number_at counts_below
small_holds = refl

pub small_read : IsRawOf stored_small small_file
small_read = record { streams = small_streams; are = small_are; raw_is = small_holds }

-- ---- stored_program

abbrev program_streams : Streams
program_streams = record {
  pdb = Some (part stored_program 112 60);
  tables = Some (part stored_program 172 136);
  strings = Some (part stored_program 308 8);
  user_strings = None;
  guids = Some (part stored_program 316 96);
  blobs = Some (part stored_program 412 180);
}

program_unlisted : IsListed stored_program UserStrings → ⊥
unfolding number_at name_at fields_to
program_unlisted (zero, header) = differ (codes "#Pdb") refl header.named
program_unlisted (suc zero, header) = differ (codes "#~") refl header.named
program_unlisted (suc (suc zero), header) = differ (codes "#Strings") refl header.named
program_unlisted (suc (suc (suc zero)), header) = differ (codes "#GUID") refl header.named
program_unlisted (suc (suc (suc (suc zero))), header) = differ (codes "#Blob") refl header.named
program_unlisted (suc (suc (suc (suc (suc k)))), header) = let few = header.counted in omega (arith, few)

program_are : AreStreamsOf stored_program program_streams
unfolding number_at name_at fields_to
program_are Pdb = record { header = 0; listed = record { counted = omega arith; named = refl }; place = refl; bytes = refl; within = omega arith }
program_are Tables = record { header = 1; listed = record { counted = omega arith; named = refl }; place = refl; bytes = refl; within = omega arith }
program_are Strings = record { header = 2; listed = record { counted = omega arith; named = refl }; place = refl; bytes = refl; within = omega arith }
program_are UserStrings = program_unlisted
program_are Guids = record { header = 3; listed = record { counted = omega arith; named = refl }; place = refl; bytes = refl; within = omega arith }
program_are Blobs = record { header = 4; listed = record { counted = omega arith; named = refl }; place = refl; bytes = refl; within = omega arith }

program_holds : program_file ≡ raw_in program_streams
unfolding number_at counts_below
program_holds = refl

pub program_read : IsRawOf stored_program program_file
program_read = record { streams = program_streams; are = program_are; raw_is = program_holds }
