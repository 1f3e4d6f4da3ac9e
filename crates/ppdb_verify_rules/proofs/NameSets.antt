-- Names of documents, and sets of them.
use Rattle.std.proofs.Common.{◌≡◌, ℕ, ◌+◌, ◌<◌, ◌≤◌, ◌⊎◌, List, [], length, Some, None, refl, sym, subst, ap, ◌∙◌, arith, inl, inr, Bool, true, false, cond}
use Rattle.std.specs.{Ordering.{nat_cmp, is_eq}, Cmp.Lexicographic.{slice_cmp}, BTreeSet.{BTreeSet, contains, Updates}, declared.vec.Vec.{Vec}}
use Rattle.std.specs.declared.alloc.Global.{Global}
use Rattle.blob_grammar.{specs.Reading.{Reading}, proofs.Unique.{reading-unique}}
use Rattle.ppdb_heaps.specs.Names.{joined, names}
use Rattle.ppdb_tables.specs.{declared.rows.DocumentRow.{DocumentRow}, RawTables.{RawTables, row_at}}
use Rattle.ppdb_verify_rules.specs.{Blobs.{IsNil}, Earlier.{HasEarlier}, Judged.{ToCell}, Names.{AreSameName, SpellsName}, SeenNames.{AreNames, HasBytes}}
use Rattle.ppdb_verify_rules.{specs.SeenNames.{HasEarlierName}, proofs.BlobFaults.{name_whole, value_there}, proofs.CellFaults.{earlier_here, earlier_next}}
use Rattle.ppdb_verify_rules.proofs.{CellFaults.{earlier_on, none_earlier}, DocumentFaults.{next_0}, TextSets.{both, same_bytes}}

module _ (s n : BTreeSet (Vec ℕ Global)) (name v : Vec ℕ Global)
    (updates : Updates (λ (a : Vec ℕ Global) (b : Vec ℕ Global). slice_cmp nat_cmp a.items b.items) s n name true) where
  pub kept_in : HasBytes s v → HasBytes n v
  kept_in has = updates.0 v ∙ (rw has (both (is_eq (slice_cmp nat_cmp name.items v.items))))

  pub only_in : HasBytes n v → HasBytes s v ⊎ (v.items ≡ name.items)
  only_in has = split (is_eq (slice_cmp nat_cmp name.items v.items)) refl (sym (updates.0 v) ∙ has)
    where
      split : (b : Bool) → is_eq (slice_cmp nat_cmp name.items v.items) ≡ b
          → cond b true (contains (λ (a : Vec ℕ Global) (b : Vec ℕ Global). slice_cmp nat_cmp a.items b.items) s v) ≡ true
          → HasBytes s v ⊎ (v.items ≡ name.items)
      split true e _ = inr (sym (same_bytes name.items v.items e))
      split false e h = inl h

-- a blob spells one name
pub one_name : (blobs : List ℕ) (index : ℕ) (a b : List ℕ) → SpellsName blobs index a → SpellsName blobs index b → a ≡ b
one_name blobs index a b x y =
    let same : y.0 ≡ x.0 = cc (x.1, y.1) in
    let whole : Reading (names blobs) x.0 y.2.parts None =
    subst (λ (c : List ℕ). Reading (names blobs) c y.2.parts None) same y.2.whole in
    let parts : x.2.parts ≡ y.2.parts =
    (reading-unique (names blobs) x.0 x.2.parts y.2.parts None None x.2.whole whole).0 in
    x.2.text ∙ (ap joined parts ∙ sym y.2.text)

module _ (blobs : List ℕ) (documents : List DocumentRow) where
  pub names_at_first : (seen : BTreeSet (Vec ℕ Global)) (longest : ℕ) → seen.keys ≡ [] → AreNames blobs documents 1 seen longest
  names_at_first seen longest empty = record {
    sound = λ v has. absurd (
        let e : contains (λ (a : Vec ℕ Global) (b : Vec ℕ Global). slice_cmp nat_cmp a.items b.items) seen v ≡ false = rw empty refl in
        let h : contains (λ (a : Vec ℕ Global) (b : Vec ℕ Global). slice_cmp nat_cmp a.items b.items) seen v ≡ true = has in
        cc);
    complete = λ v h. absurd (none_earlier documents h);
    short = λ name h. absurd (none_earlier documents h);
  }

  module _ (row : ℕ) (document : DocumentRow) (there : row_at documents row ≡ Some document) where
    pub names_after : (name : Vec ℕ Global) (old new : BTreeSet (Vec ℕ Global)) (longest now : ℕ) → AreNames blobs documents row old longest
        → SpellsName blobs document.name name.items
        → ((v : Vec ℕ Global) → HasBytes old v → HasBytes new v) → ((v : Vec ℕ Global) → v.items ≡ name.items → HasBytes new v)
        → ((v : Vec ℕ Global) → HasBytes new v → HasBytes old v ⊎ (v.items ≡ name.items))
        → longest ≤ now → length name.items ≤ now → AreNames blobs documents (row + 1) new now
    names_after name old new longest now seen spelled kept added only first second = record {
      sound = λ v has. elim (only v has) [
        | inl o ↦ earlier_on (λ _ (e : DocumentRow). SpellsName blobs e.name v.items) documents row (seen.sound v o)
        | inr e ↦ earlier_here (λ _ (d : DocumentRow). SpellsName blobs d.name v.items) documents row document there
            (subst (λ (n : List ℕ). SpellsName blobs document.name n) (sym e) spelled)
      ];
      complete = λ v h. elim (earlier_next (λ _ (e : DocumentRow). SpellsName blobs e.name v.items) documents row document there h) [
        | inl early ↦ kept v (seen.complete v early)
        | inr here ↦ added v (one_name blobs document.name v.items name.items here spelled)
      ];
      short = λ n h. elim (earlier_next (λ _ (e : DocumentRow). SpellsName blobs e.name n) documents row document there h) [
        | inl early ↦ let s : length n ≤ longest = seen.short n early in omega (arith, s, first)
        | inr here ↦ let e : length n ≡ length name.items = ap length (one_name blobs document.name n name.items here spelled) in omega (arith, e, second)
      ];
    }

    -- a name that the set has is repeated, and one that it lacks is not
    pub repeats : (name : List ℕ) → SpellsName blobs document.name name → HasEarlierName blobs documents row name
        → HasEarlier (λ _ (e : DocumentRow). AreSameName blobs e.name document.name) documents row
    repeats name spelled h = record {
      before = h.before;
      earlier = h.earlier;
      there = h.there;
      sooner = h.sooner;
      forbidden = (name, h.forbidden, spelled);
    }

    pub repeated : (name : List ℕ) → SpellsName blobs document.name name
        → HasEarlier (λ _ (e : DocumentRow). AreSameName blobs e.name document.name) documents row → HasEarlierName blobs documents row name
    repeated name spelled h =
        let same : AreSameName blobs h.earlier.name document.name = h.forbidden in
        record {
          before = h.before;
          earlier = h.earlier;
          there = h.there;
          sooner = h.sooner;
          forbidden = subst (λ (n : List ℕ). SpellsName blobs h.earlier.name n) (one_name blobs document.name same.0 name same.2 spelled) same.1;
        }

-- a whole name that is longer than those before passes the cell
pub longer_next : (raw : RawTables) (row : ℕ) (document : DocumentRow) (seen : BTreeSet (Vec ℕ Global)) (longest : ℕ) → row_at raw.documents row ≡ Some document
    → ToCell raw 0x30 row 0 → AreNames raw.blobs raw.documents row seen longest → (IsNil raw.blobs document.name → ⊥)
    → (name : List ℕ) → SpellsName raw.blobs document.name name → longest < length name → ToCell raw 0x30 row 1
longer_next raw row document seen longest there judged names some name spelled longer =
    next_0 raw row document there judged (value_there raw.blobs spelled.0 document.name spelled.1) some
    (λ h. let s : length name ≤ longest = names.short name (repeated raw.blobs raw.documents row document there name spelled h) in omega (arith, s, longer))
    (λ fault some2 invalid. name_whole spelled invalid)
