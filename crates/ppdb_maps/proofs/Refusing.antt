-- Which rules a line breaks, by what the lines before it say.
use Rattle.std.{proofs.Common.{ℕ, ◌≡◌, ◌≤◌, ◌&&◌, Bool, true, false, List, Option, Some, None, lit≤, refl, sym, ◌∙◌, arith}, specs.Prelude.{IsSome, IsTrue, nat_eq}}
use Rattle.std.{specs.Prelude.{is_some}, specs.Ordering.{nat_cmp}, proofs.lemmas.Bool.{false≢true}, proofs.lemmas.Bool.Decides.{nat_tests}, specs.BTreeMap.{is_at}}
use Rattle.ppdb_maps.specs.{Map.{pair_cmp}, Before.{count_in, has_image_in, method_in, drop_in, slots_in, slot_in, signature_in, document_in, link_in, shares_in}}
use Rattle.ppdb_maps.specs.Rules.{kind_of, Breaks, second_row, second_method, second_drop, second_slots, second_slot, row_alone, slot_alone, drop_named, IsNamed}
use Rattle.ppdb_maps.specs.Rules.{dropped_method, dropped_row, dropped_slots, second_signature, dropped_signature, second_document, second_link, second_cross}
use Rattle.ppdb_maps.specs.{Rules.{second_gone, second_shares, cross_alone, gone_alone}, Drafts.{RefusedBy}}
use Rattle.ppdb_maps.specs.declared.{refusal.Refusal.TheVariants.{Breaks as refused}, line.Line.{Line}, line.Line.TheVariants.{Row, Cross, Gone, Method, Dropped}}
use Rattle.ppdb_maps.specs.declared.{line.Line.TheVariants.{Slots, Slot, Signature, Document, Link, Shares}, entries.CrossLine.{CrossLine}}
use Rattle.ppdb_maps.specs.declared.{entries.NameLine.{NameLine}, rule.Rule.{Rule}, rule.Rule.TheVariants.{Repeated, Undeclared, NamesDropped}}
use Rattle.ppdb_maps.proofs.Saying.{from_four}

pub none_of : {A : Type 0} (o : Option A) → is_some o ≡ false → o ≡ None
none_of None is = refl
none_of (Some x) is = absurd (false≢true (sym is))

-- no option is both
both : {A : Type 0} (o : Option A) → is_some o ≡ false → IsSome o → ⊥
both o absent there = false≢true (sym absent ∙ there)

none_and_some : {A : Type 0} (o : Option A) → o ≡ None → is_some o ≡ true → ⊥
none_and_some None is there = false≢true there
none_and_some (Some x) is there = cc

untrue : (b : Bool) → b ≡ false → IsTrue b → ⊥
untrue b absent there = false≢true (sym absent ∙ there)

pub repeated : (before : List Line) (line : Line) → Breaks before Repeated line → RefusedBy before line (refused Repeated)
repeated before line breaks = (breaks, λ other h. from_four before other line h)

pub row_undeclared : (before : List Line) (t o n : ℕ) → has_image_in before t o ≡ false → is_some (count_in before t) ≡ false
    → RefusedBy before (Row t o n) (refused Undeclared)
row_undeclared before t o n row count = (row_alone (none_of (count_in before t) count), λ other h. least other h)
  where
    least : (other : Rule) → Breaks before other (Row t o n) → 5 ≤ kind_of other
    least other (second_row h) = absurd (untrue (has_image_in before t o) row h)
    least other (row_alone h) = lit≤ tt
    least other (dropped_row h k) = lit≤ tt

pub row_dropped : (before : List Line) (t o n : ℕ) → has_image_in before t o ≡ false → is_some (count_in before t) ≡ true → t ≡ 0x06
    → drop_in before o ≡ true
    → RefusedBy before (Row t o n) (refused NamesDropped)
row_dropped before t o n row count six drop = (dropped_row six drop, λ other h. least other h)
  where
    least : (other : Rule) → Breaks before other (Row t o n) → 9 ≤ kind_of other
    least other (second_row h) = absurd (untrue (has_image_in before t o) row h)
    least other (row_alone h) = absurd (none_and_some (count_in before t) h count)
    least other (dropped_row h k) = lit≤ tt

pub row_keeps : (before : List Line) (t o n : ℕ) → has_image_in before t o ≡ false → is_some (count_in before t) ≡ true
    → (t ≡ 0x06 → drop_in before o ≡ true → ⊥)
    → (rule : Rule) → Breaks before rule (Row t o n) → ⊥
row_keeps before t o n row count kept rule (second_row h) = untrue (has_image_in before t o) row h
row_keeps before t o n row count kept rule (row_alone h) = none_and_some (count_in before t) h count
row_keeps before t o n row count kept rule (dropped_row h k) = kept h k

pub cross_undeclared : (before : List Line) (line : CrossLine) → has_image_in before line.table line.old ≡ false → is_some (count_in before line.table) ≡ false
    → RefusedBy before (Cross line) (refused Undeclared)
cross_undeclared before line row count = (cross_alone (none_of (count_in before line.table) count), λ other h. least other h)
  where
    least : (other : Rule) → Breaks before other (Cross line) → 5 ≤ kind_of other
    least other (second_cross h) = absurd (untrue (has_image_in before line.table line.old) row h)
    least other (cross_alone h) = lit≤ tt

pub cross_keeps : (before : List Line) (line : CrossLine) → has_image_in before line.table line.old ≡ false → is_some (count_in before line.table) ≡ true
    → (rule : Rule) → Breaks before rule (Cross line) → ⊥
cross_keeps before line row count rule (second_cross h) = untrue (has_image_in before line.table line.old) row h
cross_keeps before line row count rule (cross_alone h) = none_and_some (count_in before line.table) h count

pub gone_undeclared : (before : List Line) (t o : ℕ) → has_image_in before t o ≡ false → is_some (count_in before t) ≡ false
    → RefusedBy before (Gone t o) (refused Undeclared)
gone_undeclared before t o row count = (gone_alone (none_of (count_in before t) count), λ other h. least other h)
  where
    least : (other : Rule) → Breaks before other (Gone t o) → 5 ≤ kind_of other
    least other (second_gone h) = absurd (untrue (has_image_in before t o) row h)
    least other (gone_alone h) = lit≤ tt

pub gone_keeps : (before : List Line) (t o : ℕ) → has_image_in before t o ≡ false → is_some (count_in before t) ≡ true → (rule : Rule)
    → Breaks before rule (Gone t o) → ⊥
gone_keeps before t o row count rule (second_gone h) = untrue (has_image_in before t o) row h
gone_keeps before t o row count rule (gone_alone h) = none_and_some (count_in before t) h count

pub method_dropped : (before : List Line) (m o n : ℕ) → is_some (method_in before m) ≡ false → drop_in before m ≡ true
    → RefusedBy before (Method m o n) (refused NamesDropped)
method_dropped before m o n method drop = (dropped_method drop, λ other h. least other h)
  where
    least : (other : Rule) → Breaks before other (Method m o n) → 9 ≤ kind_of other
    least other (second_method h) = absurd (both (method_in before m) method h)
    least other (dropped_method h) = lit≤ tt

pub method_keeps : (before : List Line) (m o n : ℕ) → is_some (method_in before m) ≡ false → drop_in before m ≡ false → (rule : Rule)
    → Breaks before rule (Method m o n) → ⊥
method_keeps before m o n method drop rule (second_method h) = both (method_in before m) method h
method_keeps before m o n method drop rule (dropped_method h) = untrue (drop_in before m) drop h

pub drop_of_named : (before : List Line) (m : ℕ) → drop_in before m ≡ false → IsNamed before m → RefusedBy before (Dropped m) (refused NamesDropped)
drop_of_named before m drop named = (drop_named named, λ other h. least other h)
  where
    least : (other : Rule) → Breaks before other (Dropped m) → 9 ≤ kind_of other
    least other (second_drop h) = absurd (untrue (drop_in before m) drop h)
    least other (drop_named h) = lit≤ tt

pub drop_keeps : (before : List Line) (m : ℕ) → drop_in before m ≡ false → (IsNamed before m → ⊥) → (rule : Rule) → Breaks before rule (Dropped m) → ⊥
drop_keeps before m drop unnamed rule (second_drop h) = untrue (drop_in before m) drop h
drop_keeps before m drop unnamed rule (drop_named h) = unnamed h

pub slots_dropped : (before : List Line) (m : ℕ) → slots_in before m ≡ false → drop_in before m ≡ true → RefusedBy before (Slots m) (refused NamesDropped)
slots_dropped before m slots drop = (dropped_slots drop, λ other h. least other h)
  where
    least : (other : Rule) → Breaks before other (Slots m) → 9 ≤ kind_of other
    least other (second_slots h) = absurd (untrue (slots_in before m) slots h)
    least other (dropped_slots h) = lit≤ tt

pub slot_undeclared : (before : List Line) (m o n : ℕ) → is_some (slot_in before m o) ≡ false → slots_in before m ≡ false
    → RefusedBy before (Slot m o n) (refused Undeclared)
slot_undeclared before m o n slot slots = (slot_alone slots, λ other h. least other h)
  where
    least : (other : Rule) → Breaks before other (Slot m o n) → 5 ≤ kind_of other
    least other (second_slot h) = absurd (both (slot_in before m o) slot h)
    least other (slot_alone h) = lit≤ tt

pub slot_keeps : (before : List Line) (m o n : ℕ) → is_some (slot_in before m o) ≡ false → slots_in before m ≡ true → (rule : Rule)
    → Breaks before rule (Slot m o n) → ⊥
slot_keeps before m o n slot slots rule (second_slot h) = both (slot_in before m o) slot h
slot_keeps before m o n slot slots rule (slot_alone h) = untrue (slots_in before m) h slots

pub signature_dropped : (before : List Line) (m n : ℕ) → is_some (signature_in before m) ≡ false → drop_in before m ≡ true
    → RefusedBy before (Signature m n) (refused NamesDropped)
signature_dropped before m n signature drop = (dropped_signature drop, λ other h. least other h)
  where
    least : (other : Rule) → Breaks before other (Signature m n) → 9 ≤ kind_of other
    least other (second_signature h) = absurd (both (signature_in before m) signature h)
    least other (dropped_signature h) = lit≤ tt

pub signature_keeps : (before : List Line) (m n : ℕ) → is_some (signature_in before m) ≡ false → drop_in before m ≡ false → (rule : Rule)
    → Breaks before rule (Signature m n) → ⊥
signature_keeps before m n signature drop rule (second_signature h) = both (signature_in before m) signature h
signature_keeps before m n signature drop rule (dropped_signature h) = untrue (drop_in before m) drop h

pub document_keeps : (before : List Line) (d : NameLine) → is_some (document_in before d.old) ≡ false → (rule : Rule) → Breaks before rule (Document d) → ⊥
document_keeps before d document rule (second_document h) = both (document_in before d.old) document h

pub link_keeps : (before : List Line) (value : List ℕ) → is_some (link_in before) ≡ false → (rule : Rule) → Breaks before rule (Link value) → ⊥
link_keeps before value link rule (second_link h) = both (link_in before) link h

pub shares_keeps : (before : List Line) → shares_in before ≡ false → (rule : Rule) → Breaks before rule Shares → ⊥
shares_keeps before shares rule (second_shares h) = untrue (shares_in before) shares h

-- what the tests of keys say
pub at_number : (k q : ℕ) → is_at (nat_cmp k) q ≡ nat_eq k q
at_number k q = grind (arith, nat_tests)

pub at_pair : (a b x y : ℕ) → is_at (pair_cmp (a, b)) (x, y) ≡ (nat_eq a x && nat_eq b y)
at_pair a b x y = grind (arith, nat_tests)
