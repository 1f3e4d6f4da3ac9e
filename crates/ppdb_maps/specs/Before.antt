-- What lines of a map text say together; a list of lines has the last one first.
use Rattle.std.specs.Prelude.{ℕ, ◌&&◌, ◌||◌, ◌++◌, Bool, true, false, cond, nat_eq, bytes_eq, is_some, List, [], ◌∷◌, Option, Some, None, find}
use Rattle.ppdb_base.specs.declared.offsets.Run.{Run}
use Rattle.ppdb_maps.specs.{Map.MethodLine, declared.entries.CrossLine.CrossLine}
use Rattle.ppdb_maps.specs.declared.line.Line.{Line}
use Rattle.ppdb_maps.specs.declared.line.Line.TheVariants.{Silent, Rows, Row, Cross, Gone, Method, Kept, Dropped, Slots, Slot, Signature, Document, Link, Shares}

-- the N of the table's `rows` line
abbrev pub count_in : List Line → ℕ → Option ℕ
count_in [] table = None
count_in (Rows t n ∷ before) table = cond (nat_eq t table) (Some n) (count_in before table)
count_in (_ ∷ before) table = count_in before table

-- the NEW of the row's `row` line of four words
abbrev pub row_in : List Line → ℕ → ℕ → Option ℕ
row_in [] table old = None
row_in (Row t o n ∷ before) table old = cond (nat_eq t table && nat_eq o old) (Some n) (row_in before table old)
row_in (_ ∷ before) table old = row_in before table old

-- the row's `row` line of five words
abbrev pub cross_in : List Line → ℕ → ℕ → Option CrossLine
cross_in [] table old = None
cross_in (Cross line ∷ before) table old = cond (nat_eq line.table table && nat_eq line.old old) (Some line) (cross_in before table old)
cross_in (_ ∷ before) table old = cross_in before table old

-- whether the row has a `gone` line
abbrev pub gone_in : List Line → ℕ → ℕ → Bool
gone_in [] table old = false
gone_in (Gone t o ∷ before) table old = cond (nat_eq t table && nat_eq o old) true (gone_in before table old)
gone_in (_ ∷ before) table old = gone_in before table old

-- whether the row has a `row` line, of four words or of five, or a `gone` line
abbrev pub has_image_in : List Line → ℕ → ℕ → Bool
has_image_in before table old = is_some (row_in before table old) || (is_some (cross_in before table old) || gone_in before table old)

-- whether the method has a `drop` line
abbrev pub drop_in : List Line → ℕ → Bool
drop_in [] method = false
drop_in (Dropped m ∷ before) method = cond (nat_eq m method) true (drop_in before method)
drop_in (_ ∷ before) method = drop_in before method

-- whether the method has a `slots` line
abbrev pub slots_in : List Line → ℕ → Bool
slots_in [] method = false
slots_in (Slots m ∷ before) method = cond (nat_eq m method) true (slots_in before method)
slots_in (_ ∷ before) method = slots_in before method

-- the NEW of the slot's `slot` line
abbrev pub slot_in : List Line → ℕ → ℕ → Option ℕ
slot_in [] method old = None
slot_in (Slot m o n ∷ before) method old = cond (nat_eq m method && nat_eq o old) (Some n) (slot_in before method old)
slot_in (_ ∷ before) method old = slot_in before method old

-- the NEW of the method's `signature` line
abbrev pub signature_in : List Line → ℕ → Option ℕ
signature_in [] method = None
signature_in (Signature m n ∷ before) method = cond (nat_eq m method) (Some n) (signature_in before method)
signature_in (_ ∷ before) method = signature_in before method

-- the NEW of the name's `document` line
abbrev pub document_in : List Line → List ℕ → Option (List ℕ)
document_in [] name = None
document_in (Document d ∷ before) name = cond (bytes_eq d.old name) (Some d.new) (document_in before name)
document_in (_ ∷ before) name = document_in before name

-- the VALUE of the `link` line
abbrev pub link_in : List Line → Option (List ℕ)
link_in [] = None
link_in (Link value ∷ before) = Some value
link_in (_ ∷ before) = link_in before

-- whether there is a `shares` line
abbrev pub shares_in : List Line → Bool
shares_in [] = false
shares_in (Shares ∷ before) = true
shares_in (_ ∷ before) = shares_in before

-- a run goes to the last `method` line
abbrev pub with_run : Run → List MethodLine → List MethodLine
with_run run [] = []
with_run run (line ∷ lines) = record line { runs = line.runs ++ run ∷ [] } ∷ lines

-- the `method` lines with their runs, the last one first
abbrev pub methods_of : List Line → List MethodLine
methods_of [] = []
methods_of (Method m o n ∷ before) = record { method = m; old_size = o; new_size = n; runs = [] } ∷ methods_of before
methods_of (Kept run ∷ before) = with_run run (methods_of before)
methods_of (_ ∷ before) = methods_of before

-- the method's line with its runs
abbrev pub method_in : List Line → ℕ → Option MethodLine
method_in before method = find (λ l. nat_eq l.method method) (methods_of before)

-- whether the last line that says something and is no `run` is a `method`
abbrev pub follows_method : List Line → Bool
follows_method [] = false
follows_method (Silent ∷ before) = follows_method before
follows_method (Kept run ∷ before) = follows_method before
follows_method (Method m o n ∷ before) = true
follows_method (_ ∷ before) = false
