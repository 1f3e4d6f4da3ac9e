-- What a draft holds of the lines read so far, of which the last one stands first.
use Rattle.std.specs.Prelude.{◌≡◌, ℕ, ◌<◌, ◌≤◌, true, false, List, ◌∷◌, Option, Some, None, Result, MatchResult, find, nat_eq, is_some, option_map, map, ◌&&◌}
use Rattle.std.specs.{List.{IsDistinct, list_any}, Ordering.nat_cmp, Cmp.Lexicographic.slice_cmp}
use Rattle.ppdb_maps.specs.{declared.entries.{RowLine.RowLine, CrossLine.CrossLine, GoneLine.GoneLine, SignatureImage.SignatureImage}, BitSets.{has_number, has_row}}
use Rattle.ppdb_maps.specs.Gathered.{row_key, cross_key, gone_key, method_key, signature_key, same_pair}
use Rattle.ppdb_maps.specs.Map.{MethodLine, pair_cmp}
use Rattle.ppdb_maps.specs.Before.{count_in, row_in, cross_in, gone_in, has_image_in, shares_in, methods_of, drop_in, slots_in, slot_in, signature_in, document_in, link_in, follows_method}
use Rattle.ppdb_maps.specs.Rules.{Breaks, kind_of}
use Rattle.ppdb_maps.specs.{declared.bit_set.BitSet.BitSet, declared.draft.Draft.Draft, declared.refusal.Refusal.{Refusal, TheVariants.{Breaks as refused, Memory}}}
use Rattle.ppdb_maps.specs.{declared.line.Line.Line}
use Rattle.ppdb_maps.specs.{declared.line.Line.TheVariants.{Kept, Silent}, declared.rule.Rule.Rule}
use Rattle.std.specs.BTreeMap as tree
use Rattle.std.specs.BTreeSet as sorted

-- the draft holds what the lines say, but for the methods
pub record HoldsOthers (before : List Line) (draft : Draft) : Type 0 where
  pub counts : (table : ℕ) → tree.get nat_cmp draft.counts table ≡ count_in before table
  pub rows : (table old : ℕ)
      → option_map (λ (r : RowLine). r.new) (find (λ r. nat_eq r.table table && nat_eq r.old old) draft.rows.items) ≡ row_in before table old
  pub distinct : IsDistinct same_pair (map row_key draft.rows.items)
  pub crossed : (table old : ℕ) → find (λ (r : CrossLine). nat_eq r.table table && nat_eq r.old old) draft.crossed.items ≡ cross_in before table old
  pub crossed_once : IsDistinct same_pair (map cross_key draft.crossed.items)
  pub gone : (table old : ℕ) → list_any (λ (r : GoneLine). nat_eq r.table table && nat_eq r.old old) draft.gone.items ≡ gone_in before table old
  pub gone_once : IsDistinct same_pair (map gone_key draft.gone.items)
  pub moved : (table old : ℕ) → has_row draft.moved table old ≡ has_image_in before table old
  pub drops : (method : ℕ) → sorted.contains nat_cmp draft.drops method ≡ drop_in before method
  pub slotted : (method : ℕ) → sorted.contains nat_cmp draft.slotted method ≡ slots_in before method
  pub slots : (method old : ℕ) → tree.get pair_cmp draft.slots (method, old) ≡ slot_in before method old
  pub signatures : (method : ℕ)
      → option_map (λ (s : SignatureImage). s.new) (find (λ s. nat_eq s.method method) draft.signatures.items) ≡ signature_in before method
  pub signed_once : IsDistinct nat_eq (map signature_key draft.signatures.items)
  pub signed : (method : ℕ) → has_number draft.signed method ≡ is_some (signature_in before method)
  pub documents : (name : List ℕ) → tree.get_by (λ key. slice_cmp nat_cmp name key.items) draft.documents ≡ document_in before name
  pub link : draft.link ≡ link_in before
  pub shares : draft.shares ≡ shares_in before

-- the list of distinct methods answers as these lines, and the set has their numbers
pub record AreLines (lines methods : List MethodLine) (listed : BitSet) : Type 0 where
  pub found : (method : ℕ) → find (λ l. nat_eq l.method method) methods ≡ find (λ l. nat_eq l.method method) lines
  pub distinct : IsDistinct nat_eq (map method_key methods)
  pub numbers : (method : ℕ) → has_number listed method ≡ is_some (find (λ l. nat_eq l.method method) lines)

-- the draft has these method lines
abbrev pub HasLines : List MethodLine → Draft → Type 0
HasLines lines draft = AreLines lines draft.methods.items draft.listed

-- all methods are in the list, or all but the last one, which a `run` may follow
abbrev pub HoldsMethods : List Line → Option MethodLine → Draft → Type 0
HoldsMethods before None draft = HasLines (methods_of before) draft × (follows_method before ≡ false)
HoldsMethods before (Some line) draft =
    (lines : List MethodLine) × (methods_of before ≡ line ∷ lines) × HasLines lines draft × (follows_method before ≡ true)
    × (is_some (find (λ l. nat_eq l.method line.method) lines) ≡ false)

-- the draft holds what the lines say
pub record Holds (before : List Line) (draft : Draft) : Type 0 where
  pub others : HoldsOthers before draft
  pub methods : HoldsMethods before draft.current draft

-- the draft holds what the lines say, and no method is open
pub record IsClosed (before : List Line) (draft : Draft) : Type 0 where
  pub others : HoldsOthers before draft
  pub methods : HasLines (methods_of before) draft
  pub closed : draft.current ≡ None

-- The draft can take the line: no method is open, unless the line may be among a method's runs: a `run`, or a line that says nothing.
abbrev pub IsReadyFor : Line → List Line → Draft → Type 0
IsReadyFor Silent before draft = Holds before draft
IsReadyFor (Kept run) before draft = Holds before draft
IsReadyFor _ before draft = IsClosed before draft

-- a line that is refused breaks this rule, and none with a lesser number
abbrev pub RefusedBy : List Line → Line → Refusal → Type 0
RefusedBy before line (refused rule) = Breaks before rule line × ((other : Rule) → Breaks before other line → kind_of rule ≤ kind_of other)
RefusedBy before line Memory = Unit {0}

-- a line breaks no rule, and the draft holds it too; or it is refused
abbrev pub AddsLine : List Line → Line → Result (Unit {0}) Refusal → Draft → Type 0
AddsLine before line result new =
    MatchResult result (λ _. Holds (line ∷ before) new × ((rule : Rule) → Breaks before rule line → ⊥)) (RefusedBy before line)

-- the line is added to a draft without an open method, or to any
abbrev pub IsAdded : Line → Draft → Result (Unit {0}) Refusal → Draft → Type 0
IsAdded line old result new = (before : List Line) → IsClosed before old → AddsLine before line result new

abbrev pub IsAddedTo : Line → Draft → Result (Unit {0}) Refusal → Draft → Type 0
IsAddedTo line old result new = (before : List Line) → Holds before old → AddsLine before line result new

-- a run has an offset
abbrev pub HasLength : Line → Type 0
HasLength (Kept run) = 0 < run.length
HasLength _ = Unit {0}
