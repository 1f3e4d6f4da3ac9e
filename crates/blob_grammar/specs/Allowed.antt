-- Values that many grammars allow, and where a blob of whole records may end.
use Rattle.std.specs.Prelude.{ℕ, List, [], Bool, true, false, ◌&&◌, nat_le}
use Rattle.blob_grammar.specs.Grammar.{Value, number}

-- a row that a table of so many rows has
abbrev pub is_row : ℕ → ℕ → Bool
is_row rows row = nat_le 1 row && nat_le row rows

-- the field is a number that passes the test
abbrev pub is_number : (ℕ → Bool) → Value → Bool
is_number test (number n) = test n
is_number test _ = false

-- no field of the next record has been read
abbrev pub is_between : List Value → Bool
is_between [] = true
is_between _ = false
