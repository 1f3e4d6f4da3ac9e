-- Each line of a map's text says what it was spelled from.
use Rattle.std.{proofs.Common.{ℕ, ◌≡◌, ◌≢◌, ◌<◌, ◌≤◌, ◌/◌, ◌%◌, List, [], ◌∷◌, length, refl, ap, ◌∙◌, subst, arith, inl, inr}, specs.Char.{digit_char}}
use Rattle.std.{specs.Fmt.{decimal}, specs.List.{AllByRecursion}, proofs.lemmas.Bool.{cases_lt, lt-ltb, le-ltb}}
use Rattle.ppdb_base.specs.{declared.offsets.Run.{Run}, Escaped.{escaped}, declared.limits.TheConstants.{MAX_ROWS, MAX_OFFSET}}
use Rattle.ppdb_maps.specs.{Words.{IsSilent}, Forms.{name_of, words_in, since, IsNumber, IsTable, MAX_SLOT, Values, Tells, told, rows_line, row_line, method_line}}
use Rattle.ppdb_maps.specs.Forms.{run_line, drop_line, slots_line, slot_line, signature_line, document_line, link_line, AreBytes, IsEscaped, cross_line, gone_line}
use Rattle.ppdb_maps.specs.{Forms.{shares_line, IsTypeTable, Crosses}, declared.line.Form.{Form}, declared.line.Form.TheVariants.{TableRows, RowMove, MethodSizes}}
use Rattle.ppdb_maps.specs.declared.line.Form.TheVariants.{OffsetRun, MethodDrop, MethodSlots, SlotMove, MethodSignature, DocumentRename, LinkValue, CrossMove}
use Rattle.ppdb_maps.specs.declared.line.{Form.TheVariants.{RowGone, Sharing}, Line.{Line}, Line.TheVariants.{Rows, Row, Cross, Gone, Method, Kept, Dropped, Slots}}
use Rattle.ppdb_maps.specs.declared.{line.Line.TheVariants.{Slot, Signature, Document, Link, Shares}, entries.CrossLine.{CrossLine}, entries.NameLine.{NameLine}}
use Rattle.ppdb_maps.{specs.Spelling.{IsHexDigit}, proofs.Numbers.{table_of_digits}}
use Rattle.ppdb_maps_text.{specs.MapTexts.{spaced, table_word, line_text}, proofs.Words.{IsWord, IsPlain, line_words_spaced, spaced_is_plain, decimal_is_word}}
use Rattle.ppdb_maps_text.proofs.Words.{escaped_is_word}

-- a line that says what it was spelled from, and that a text of the version can have
pub record IsTold (version : ℕ) (line : Line) : Type 0 where
  pub tells : Tells version (line_text line) line
  pub plain : IsPlain (line_text line)

name_is_word : (form : Form) → IsWord (name_of form)
name_is_word TableRows = (omega arith, (omega arith, (omega arith, (omega arith, tt))))
name_is_word RowMove = (omega arith, (omega arith, (omega arith, tt)))
name_is_word MethodSizes = (omega arith, (omega arith, (omega arith, (omega arith, (omega arith, (omega arith, tt))))))
name_is_word OffsetRun = (omega arith, (omega arith, (omega arith, tt)))
name_is_word MethodDrop = (omega arith, (omega arith, (omega arith, (omega arith, tt))))
name_is_word MethodSlots = (omega arith, (omega arith, (omega arith, (omega arith, (omega arith, tt)))))
name_is_word SlotMove = (omega arith, (omega arith, (omega arith, (omega arith, tt))))
name_is_word MethodSignature =
    (omega arith, (omega arith, (omega arith, (omega arith, (omega arith, (omega arith, (omega arith, (omega arith, (omega arith, tt)))))))))
name_is_word DocumentRename =
    (omega arith, (omega arith, (omega arith, (omega arith, (omega arith, (omega arith, (omega arith, (omega arith, tt))))))))
name_is_word LinkValue = (omega arith, (omega arith, (omega arith, (omega arith, tt))))
name_is_word CrossMove = (omega arith, (omega arith, (omega arith, tt)))
name_is_word RowGone = (omega arith, (omega arith, (omega arith, (omega arith, tt))))
name_is_word Sharing = (omega arith, (omega arith, (omega arith, (omega arith, (omega arith, (omega arith, tt))))))

loud : (form : Form) (values : List (List ℕ)) → IsSilent (spaced (name_of form) values) → ⊥
loud TableRows values silent = omega (arith, silent)
loud RowMove values silent = omega (arith, silent)
loud MethodSizes values silent = omega (arith, silent)
loud OffsetRun values silent = omega (arith, silent)
loud MethodDrop values silent = omega (arith, silent)
loud MethodSlots values silent = omega (arith, silent)
loud SlotMove values silent = omega (arith, silent)
loud MethodSignature values silent = omega (arith, silent)
loud DocumentRename values silent = omega (arith, silent)
loud LinkValue values silent = omega (arith, silent)
loud CrossMove values silent = omega (arith, silent)
loud RowGone values silent = omega (arith, silent)
loud Sharing values silent = omega (arith, silent)

told_form : (version : ℕ) (form : Form) (values : List (List ℕ)) (line : Line) → spaced (name_of form) values ≡ line_text line → AllByRecursion IsWord values
    → length (name_of form ∷ values) ≡ words_in form → since form ≤ version → Values form values line → IsTold version line
told_form version form values line is all count there says =
    let words = line_words_spaced (name_of form) values (name_is_word form) all in
    record {
      tells = subst (λ text. Tells version text line) is (told form (loud form values)
          (record { values = values; named = words; counted = ap length words ∙ count; there = there }) says);
      plain = subst IsPlain is (spaced_is_plain (name_of form) values (name_is_word form) all);
    }

number_word : (n : ℕ) → n ≤ MAX_OFFSET → IsWord (decimal n)
number_word n le = decimal_is_word n (omega (arith, le))

number : (n least most : ℕ) → least ≤ n → n ≤ most → IsNumber (decimal n) least most n
number n least most from to = record { spelled = refl; from = from; to = to }

digit : (d : ℕ) → d < 16 → IsHexDigit (digit_char d) d
digit d below = elim (cases_lt d 10) [
  | inl few ↦ inl (few, rw (lt-ltb d 10 few) refl)
  | inr many ↦ inr (many, below, inl (rw (le-ltb d 10 many) refl))
]

digit_word : (c d : ℕ) → IsHexDigit c d → 33 ≤ c
digit_word c d (inl h) = let e = h.1 in omega (arith, e)
digit_word c d (inr h) = elim h.2 [ inl e ↦ (let from = h.0 in omega (arith, e, from)) | inr e ↦ (let from = h.0 in omega (arith, e, from)) ]

table_digits : (table : ℕ) → table ≤ 0x2c → IsHexDigit (digit_char (table / 16)) (table / 16) × IsHexDigit (digit_char (table % 16)) (table % 16)
table_digits table le = (digit (table / 16) (omega (arith, le)), digit (table % 16) (omega arith))

table_is : (table : ℕ) → table ≤ 0x2c → IsTable (table_word table) table
table_is table le = table_of_digits (table_word table) table (record {
  high = table / 16;
  low = table % 16;
  c = digit_char (table / 16);
  d = digit_char (table % 16);
  spelled = refl;
  digits = table_digits table le;
  is = omega arith;
  known = le;
})

table_is_word : (table : ℕ) → table ≤ 0x2c → IsWord (table_word table)
table_is_word table le =
    let d = table_digits table le in
    (digit_word (digit_char (table / 16)) (table / 16) d.0, (digit_word (digit_char (table % 16)) (table % 16) d.1, tt))

pub rows_told : (version : ℕ) → 3 ≤ version → (table rows : ℕ) → table ≤ 0x2c → rows ≤ MAX_ROWS → IsTold version (Rows table rows)
rows_told version there table rows known few =
    told_form version TableRows (table_word table ∷ decimal rows ∷ []) (Rows table rows) refl
    (table_is_word table known, (number_word rows (omega (arith, few)), tt)) refl (omega (arith, there))
    (rows_line (table_is table known) (number rows 0 MAX_ROWS (omega arith) few))

pub row_told : (version : ℕ) → 3 ≤ version → (table old new : ℕ) → table ≤ 0x2c → 1 ≤ old → old ≤ MAX_ROWS → 1 ≤ new → new ≤ MAX_ROWS → IsTold version (Row table old new)
row_told version there table old new known old_from old_to new_from new_to =
    told_form version RowMove (table_word table ∷ decimal old ∷ decimal new ∷ []) (Row table old new) refl
    (table_is_word table known, (number_word old (omega (arith, old_to)), (number_word new (omega (arith, new_to)), tt))) refl (omega (arith, there))
    (row_line (table_is table known) (number old 1 MAX_ROWS old_from old_to) (number new 1 MAX_ROWS new_from new_to))

pub method_told : (version : ℕ) → 3 ≤ version → (method old new : ℕ) → 1 ≤ method → method ≤ MAX_ROWS → old ≤ MAX_OFFSET → new ≤ MAX_OFFSET
    → IsTold version (Method method old new)
method_told version there method old new from to old_to new_to =
    told_form version MethodSizes (decimal method ∷ decimal old ∷ decimal new ∷ []) (Method method old new) refl
    (number_word method (omega (arith, to)), (number_word old old_to, (number_word new new_to, tt))) refl (omega (arith, there))
    (method_line (number method 1 MAX_ROWS from to) (number old 0 MAX_OFFSET (omega arith) old_to) (number new 0 MAX_OFFSET (omega arith) new_to))

pub run_told : (version : ℕ) → 3 ≤ version → (run : Run) → run.old ≤ MAX_OFFSET → run.new ≤ MAX_OFFSET → 1 ≤ run.length → run.length ≤ MAX_OFFSET → IsTold version (Kept run)
run_told version there run old_to new_to from to =
    told_form version OffsetRun (decimal run.old ∷ decimal run.new ∷ decimal run.length ∷ []) (Kept run) refl
    (number_word run.old old_to, (number_word run.new new_to, (number_word run.length to, tt))) refl (omega (arith, there))
    (run_line (number run.old 0 MAX_OFFSET (omega arith) old_to) (number run.new 0 MAX_OFFSET (omega arith) new_to) (number run.length 1 MAX_OFFSET from to))

pub drop_told : (version : ℕ) → 3 ≤ version → (method : ℕ) → 1 ≤ method → method ≤ MAX_ROWS → IsTold version (Dropped method)
drop_told version there method from to =
    told_form version MethodDrop (decimal method ∷ []) (Dropped method) refl (number_word method (omega (arith, to)), tt) refl (omega (arith, there))
    (drop_line (number method 1 MAX_ROWS from to))

pub slots_told : (version : ℕ) → 3 ≤ version → (method : ℕ) → 1 ≤ method → method ≤ MAX_ROWS → IsTold version (Slots method)
slots_told version there method from to =
    told_form version MethodSlots (decimal method ∷ []) (Slots method) refl (number_word method (omega (arith, to)), tt) refl (omega (arith, there))
    (slots_line (number method 1 MAX_ROWS from to))

pub slot_told : (version : ℕ) → 3 ≤ version → (method old new : ℕ) → 1 ≤ method → method ≤ MAX_ROWS → old ≤ MAX_SLOT → new ≤ MAX_SLOT → IsTold version (Slot method old new)
slot_told version there method old new from to old_to new_to =
    told_form version SlotMove (decimal method ∷ decimal old ∷ decimal new ∷ []) (Slot method old new) refl
    (number_word method (omega (arith, to)), (number_word old (omega (arith, old_to)), (number_word new (omega (arith, new_to)), tt))) refl (omega (arith, there))
    (slot_line (number method 1 MAX_ROWS from to) (number old 0 MAX_SLOT (omega arith) old_to) (number new 0 MAX_SLOT (omega arith) new_to))

pub signature_told : (version : ℕ) → 4 ≤ version → (method new : ℕ) → 1 ≤ method → method ≤ MAX_ROWS → new ≤ MAX_ROWS → IsTold version (Signature method new)
signature_told version there method new from to new_to =
    told_form version MethodSignature (decimal method ∷ decimal new ∷ []) (Signature method new) refl
    (number_word method (omega (arith, to)), (number_word new (omega (arith, new_to)), tt)) refl there
    (signature_line (number method 1 MAX_ROWS from to) (number new 0 MAX_ROWS (omega arith) new_to))

spelling : (bytes : List ℕ) → AreBytes bytes → IsEscaped (escaped bytes) bytes
spelling bytes all = record { spelled = refl; within = all }

pub document_told : (version : ℕ) → 4 ≤ version → (d : NameLine) → AreBytes d.old → AreBytes d.new → IsTold version (Document d)
document_told version there d old new =
    told_form version DocumentRename (escaped d.old ∷ escaped d.new ∷ []) (Document d) refl
    (escaped_is_word d.old old, (escaped_is_word d.new new, tt)) refl there (document_line (spelling d.old old) (spelling d.new new))

pub link_told : (version : ℕ) → 4 ≤ version → (value : List ℕ) → AreBytes value → IsTold version (Link value)
link_told version there value all =
    told_form version LinkValue (escaped value ∷ []) (Link value) refl (escaped_is_word value all, tt) refl there (link_line (spelling value all))

-- the table of a line of five words, and that of its image
types_known : (table : ℕ) → IsTypeTable table → table ≤ 0x2c
types_known table is = elim is [ inl e ↦ omega (arith, e) | inr more ↦ elim more [ inl e ↦ omega (arith, e) | inr e ↦ omega (arith, e) ] ]

from_known : (line : CrossLine) → Crosses line → line.table ≤ 0x2c
from_known line is = elim is [ inl types ↦ types_known line.table types.0 | inr own ↦ (let e = own.0 in omega (arith, e)) ]

to_known : (line : CrossLine) → Crosses line → line.to ≤ 0x2c
to_known line is = elim is [ inl types ↦ types_known line.to types.1 | inr own ↦ (let e = own.1 in omega (arith, e)) ]

pub cross_told : (version : ℕ) → 4 ≤ version → (line : CrossLine) → Crosses line → 1 ≤ line.old → line.old ≤ MAX_ROWS → 1 ≤ line.new → line.new ≤ MAX_ROWS
    → IsTold version (Cross line)
cross_told version there line crosses old_from old_to new_from new_to =
    told_form version CrossMove (table_word line.table ∷ decimal line.old ∷ table_word line.to ∷ decimal line.new ∷ []) (Cross line) refl (
      table_is_word line.table (from_known line crosses),
      (
        number_word line.old (omega (arith, old_to)),
        (table_is_word line.to (to_known line crosses), (number_word line.new (omega (arith, new_to)), tt)),
      ),
    ) refl there
    (cross_line (table_is line.table (from_known line crosses)) (number line.old 1 MAX_ROWS old_from old_to) (table_is line.to (to_known line crosses))
    (number line.new 1 MAX_ROWS new_from new_to) crosses)

pub gone_told : (version : ℕ) → 4 ≤ version → (table old : ℕ) → table ≤ 0x2c → table ≢ 0x06 → 1 ≤ old → old ≤ MAX_ROWS → IsTold version (Gone table old)
gone_told version there table old known other from to =
    told_form version RowGone (table_word table ∷ decimal old ∷ []) (Gone table old) refl
    (table_is_word table known, (number_word old (omega (arith, to)), tt)) refl there
    (gone_line (table_is table known) other (number old 1 MAX_ROWS from to))

pub shares_told : (version : ℕ) → 4 ≤ version → IsTold version Shares
shares_told version there = told_form version Sharing [] Shares refl tt refl there shares_line
