-- What holds of what is kept of the inputs of a merge.
use Rattle.std.specs.Prelude.{◌≡◌, ◌≢◌, ◌≤◌, List, [], ◌∷◌, Contains, length, flat_map}
use Rattle.ppdb_values.specs.declared.file.DocumentValue.{DocumentValue}
use Rattle.ppdb_values_sound_laws.specs.Sound.{SoundRows}
use Rattle.ppdb_merge_items.specs.{declared.file.AnnotatedFile.AnnotatedFile, Each.{Each, Pairs}, NamedRows.{Named, names_some, all_named}, Annotated.items_of, SoundParts.SoundMoved}
use Rattle.ppdb_merge_names.specs.declared.imaged.Imaged.{Imaged}
use Rattle.ppdb_merge_joined.specs.Small.{HasFewRows}
use Rattle.ppdb_merge.specs.{declared.trace.Trace.Trace, Merged.moved_files, Refusals.methods_in}

-- the row is the image of one of the rows
abbrev pub IsImageIn : List Imaged → Named → Type 0
IsImageIn rows n = (i : Imaged) × Contains rows i × (i.to ≡ n.table) × (i.image ≡ n.row)

-- What is kept of one input: what it became is sound, and names images that are kept.
pub record SoundTrace (t : Trace) : Type 0 where
  pub sound : SoundMoved t.moved
  pub counts : SoundRows t.moved.rows
  pub few : HasFewRows t.moved
  pub images : Each (IsImageIn t.rows) (all_named t.moved)

-- no method of the one has the image of a method of the other
abbrev pub AreMethodsApart : Trace → Trace → Type 0
AreMethodsApart a b = Each (λ i. Each (λ j. i.image ≢ j.image) (methods_in b.rows)) (methods_in a.rows)

-- the entry point of the first is an image, or none
abbrev pub HasEntry : List Trace → Type 0
HasEntry [] = Unit {0}
HasEntry (first ∷ others) = Each (IsImageIn first.rows) (names_some 0x06 first.moved.entry)

-- the documents of all
abbrev pub documents_in : List Trace → List DocumentValue
documents_in traces = flat_map (λ (file : AnnotatedFile). items_of file.documents) (moved_files traces)

-- What is kept of all: at most 256 inputs, whose methods have images of their own, and whose documents of one name are one document.
pub record SoundTraces (traces : List Trace) : Type 0 where
  pub few : length traces ≤ 256
  pub each : Each SoundTrace traces
  pub methods_apart : Pairs AreMethodsApart traces
  pub documents_agree : Pairs (λ d e. d.name ≡ e.name → d ≡ e) (documents_in traces)
  pub entry : HasEntry traces
