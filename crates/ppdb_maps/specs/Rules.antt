-- The rules of map texts and their numbers; a line breaks one by the lines before it alone, of which the last one stands first.
use Rattle.std.specs.Prelude.{◌≡◌, ℕ, ◌<◌, ◌≤◌, ◌⊎◌, false, List, [], ◌∷◌, None, IsSome, IsTrue}
use Rattle.ppdb_base.specs.{declared.offsets.Run.Run, Offsets.{end_of, new_end_of}}
use Rattle.ppdb_maps.specs.{declared.entries.{CrossLine.CrossLine, NameLine.NameLine}, Map.MethodLine, Words.{IsSilent, line_words}, Forms.{HasForm, Values, Tells}}
use Rattle.ppdb_maps.specs.Before.{count_in, has_image_in, shares_in, method_in, methods_of, drop_in, slots_in, slot_in, signature_in, document_in, link_in, follows_method}
use Rattle.ppdb_maps.specs.declared.line.{Form.Form, Line.Line}
use Rattle.ppdb_maps.specs.declared.line.Line.TheVariants.{Rows, Row, Cross, Gone, Method, Kept, Dropped, Slots, Slot, Signature, Document, Link, Shares}
use Rattle.ppdb_maps.specs.{declared.rule.Rule.Rule}
use Rattle.ppdb_maps.specs.declared.rule.Rule.TheVariants.{FirstLine, UnknownForm, NumberFaults, Repeated, Undeclared, NoMethod, Overlap, Beyond, NamesDropped}

-- the rule's number
abbrev pub kind_of : Rule → ℕ
kind_of FirstLine = 1
kind_of UnknownForm = 2
kind_of NumberFaults = 3
kind_of Repeated = 4
kind_of Undeclared = 5
kind_of NoMethod = 6
kind_of Overlap = 7
kind_of Beyond = 8
kind_of NamesDropped = 9

-- OLD or NEW is below the end of the last run
abbrev pub BeginsEarly : Run → List Run → Type 0
BeginsEarly run [] = ⊥
BeginsEarly run (last ∷ []) = (run.old < end_of last) ⊎ (run.new < new_end_of last)
BeginsEarly run (first ∷ second ∷ runs) = BeginsEarly run (second ∷ runs)

-- OLD + LENGTH is above OLDSIZE, or NEW + LENGTH above NEWSIZE
abbrev pub EndsBeyond : Run → MethodLine → Type 0
EndsBeyond run line = (line.old_size < end_of run) ⊎ (line.new_size < new_end_of run)

-- the method has a `method`, a `row`, a `slots` or a `signature` line, which no `drop` may follow
abbrev pub IsNamed : List Line → ℕ → Type 0
IsNamed before method =
    IsSome (method_in before method) ⊎ IsTrue (has_image_in before 0x06 method) ⊎ IsTrue (slots_in before method) ⊎ IsSome (signature_in before method)

-- what a line says breaks a rule by the lines before it
pub data Breaks (before : List Line) : Rule → Line → Type 0 where
  second_rows : {t n : ℕ} → IsSome (count_in before t) → Breaks before Repeated (Rows t n)
  second_row : {t o n : ℕ} → IsTrue (has_image_in before t o) → Breaks before Repeated (Row t o n)
  second_cross : {line : CrossLine} → IsTrue (has_image_in before line.table line.old) → Breaks before Repeated (Cross line)
  second_gone : {t o : ℕ} → IsTrue (has_image_in before t o) → Breaks before Repeated (Gone t o)
  second_method : {m o n : ℕ} → IsSome (method_in before m) → Breaks before Repeated (Method m o n)
  second_drop : {m : ℕ} → IsTrue (drop_in before m) → Breaks before Repeated (Dropped m)
  second_slots : {m : ℕ} → IsTrue (slots_in before m) → Breaks before Repeated (Slots m)
  second_slot : {m o n : ℕ} → IsSome (slot_in before m o) → Breaks before Repeated (Slot m o n)
  second_signature : {m n : ℕ} → IsSome (signature_in before m) → Breaks before Repeated (Signature m n)
  second_document : {d : NameLine} → IsSome (document_in before d.old) → Breaks before Repeated (Document d)
  second_link : {value : List ℕ} → IsSome (link_in before) → Breaks before Repeated (Link value)
  second_shares : IsTrue (shares_in before) → Breaks before Repeated Shares
  row_alone : {t o n : ℕ} → count_in before t ≡ None → Breaks before Undeclared (Row t o n)
  cross_alone : {line : CrossLine} → count_in before line.table ≡ None → Breaks before Undeclared (Cross line)
  gone_alone : {t o : ℕ} → count_in before t ≡ None → Breaks before Undeclared (Gone t o)
  slot_alone : {m o n : ℕ} → slots_in before m ≡ false → Breaks before Undeclared (Slot m o n)
  run_alone : {run : Run} → follows_method before ≡ false → Breaks before NoMethod (Kept run)
  run_early : {run : Run} {line : MethodLine} {lines : List MethodLine} → methods_of before ≡ line ∷ lines
      → BeginsEarly run line.runs → Breaks before Overlap (Kept run)
  run_long : {run : Run} {line : MethodLine} {lines : List MethodLine} → methods_of before ≡ line ∷ lines
      → EndsBeyond run line → Breaks before Beyond (Kept run)
  drop_named : {m : ℕ} → IsNamed before m → Breaks before NamesDropped (Dropped m)
  dropped_method : {m o n : ℕ} → IsTrue (drop_in before m) → Breaks before NamesDropped (Method m o n)
  dropped_row : {t o n : ℕ} → t ≡ 0x06 → IsTrue (drop_in before o) → Breaks before NamesDropped (Row t o n)
  dropped_slots : {m : ℕ} → IsTrue (drop_in before m) → Breaks before NamesDropped (Slots m)
  dropped_signature : {m n : ℕ} → IsTrue (drop_in before m) → Breaks before NamesDropped (Signature m n)

-- a line after the first breaks a rule
pub data BreaksLine (version : ℕ) (before : List Line) (text : List ℕ) : Rule → Type 0 where
  no_form : (IsSilent text → ⊥) → ((form : Form) → HasForm version (line_words text) form → ⊥) → BreaksLine version before text UnknownForm
  no_value : {form : Form} → (IsSilent text → ⊥) → (has : HasForm version (line_words text) form)
      → ((line : Line) → Values form has.values line → ⊥) → BreaksLine version before text NumberFaults
  by_lines : {line : Line} {rule : Rule} → Tells version text line → Breaks before rule line → BreaksLine version before text rule

-- a text breaks this rule after these lines, and none with a lesser number
pub record BreaksFirst (version : ℕ) (before : List Line) (text : List ℕ) (rule : Rule) : Type 0 where
  pub broken : BreaksLine version before text rule
  pub least : (other : Rule) → BreaksLine version before text other → kind_of rule ≤ kind_of other

-- a text breaks no rule after these lines
abbrev pub Keeps : ℕ → List Line → List ℕ → Type 0
Keeps version before text = (rule : Rule) → BreaksLine version before text rule → ⊥
