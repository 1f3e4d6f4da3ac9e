-- The worked files, by computation.
use Rattle.std.proofs.Common.{◌≡◌, refl}
use Rattle.blob_grammar.specs.Reader.{fields_from, fields_for, unsigned_at, signed_at, two_at, four_at, character_len}
use Rattle.ppdb_heaps.specs.{Heaps.{text_at, blob_at, guid_at}, Names.{name_of}}
use Rattle.ppdb_values.specs.{Chains.{chain_for}, RawFile.{records_of, begun_of}, Value.{value_of}, Meaning.{meaning}, Links.{links}, WorkedSmall.{empty_file}}
use Rattle.ppdb_values.specs.{WorkedSmall.{empty_value, small_file, small_value, small_meaning, small_links}, WorkedProgram.{program_file, program_value}}
use Rattle.ppdb_values.specs.WorkedProgram.{program_meaning, program_links}

pub empty_is : value_of empty_file ≡ empty_value
empty_is = refl

pub small_is : value_of small_file ≡ small_value
unfolding text_at blob_at guid_at name_of records_of begun_of fields_from fields_for unsigned_at two_at four_at signed_at
    character_len
small_is = refl

pub program_is : value_of program_file ≡ program_value
unfolding text_at blob_at guid_at name_of records_of begun_of fields_from fields_for unsigned_at two_at four_at signed_at
    character_len
program_is = refl

pub small_means : meaning small_value 1 3 ≡ small_meaning
unfolding chain_for
small_means = refl

pub small_links_are : links small_value 1 ≡ small_links
small_links_are = refl

pub program_means : meaning program_value 4 110 ≡ program_meaning
unfolding chain_for
program_means = refl

pub program_links_are : links program_value 4 ≡ program_links
program_links_are = refl
