-- A map that a text has is readable.
use Rattle.std.{proofs.Common.{ℕ, ◌≡◌, ◌&&◌, ◌||◌, Bool, true, false, List, [], ◌∷◌, Option, Some, None, IfSome, refl, sym, ap, ◌∙◌}, specs.Prelude.{nat_eq}}
use Rattle.std.specs.{Prelude.{bytes_eq, is_some}, List.{AllByRecursion, list_any}, List.Sorted.{IsStrictlySortedBy}, Option.{option_map}, Ordering.{nat_cmp}}
use Rattle.std.{specs.Cmp.Lexicographic.{slice_cmp, nat_list_cmp_total}, proofs.lemmas.Bool.{eq-eqb}, proofs.lemmas.Cmp.{nat_cmp_total}}
use Rattle.ppdb_maps.specs.{Gathered.{same_pair}, Map.{Map, MethodLine, pair_cmp}, Readable.{IsReadable, IsCount, IsRow, IsRowOf, IsCrossOf, IsGoneOf, IsLineOf}}
use Rattle.ppdb_maps.specs.{Readable.{IsSlottedOf, IsSlotOf, IsSignatureOf, AreNames, MapsAreReadable}, Forms.{AreBytes}, Text.{HoldsWhat, Read}}
use Rattle.ppdb_maps.specs.declared.entries.{Count.{Count}, RowLine.{RowLine}, CrossLine.{CrossLine}, GoneLine.{GoneLine}, SlotImage.{SlotImage}}
use Rattle.ppdb_maps.specs.declared.{entries.SignatureImage.{SignatureImage}, entries.NameLine.{NameLine}, line.Line.{Line}}
use Rattle.ppdb_maps.proofs.{InRange.{Fits, read_fits}, Named.{same_bytes, bytes_same}, OneList.{any_is, each_found}, OneMap.{same_number, number_same, pair_is}}
use Rattle.ppdb_maps.proofs.OneMap.{is_pair, pair_total}

still_any : (b c : Bool) → c ≡ true → (b || c) ≡ true
still_any true c is = refl
still_any false c is = is

-- what holds of all numbers that are in a list holds of each of its items
each_number : (P : ℕ → Type 0) (xs : List ℕ) → ((n : ℕ) → list_any (nat_eq n) xs ≡ true → P n) → AllByRecursion P xs
each_number P [] holds = tt
each_number P (x ∷ xs) holds = (
  holds x (rw (eq-eqb x x refl) refl),
  each_number P xs (λ n is. holds n (still_any (nat_eq n x) (list_any (nat_eq n) xs) is)),
)

-- the answers of a map are those of its lines
pub held_fits : (said : List Line) (m : Map) → HoldsWhat said m → Fits said → IsReadable m
held_fits said m holds fits = record {
  ascends = holds.ascends;
  counts = each_found (λ (c : Count). c.table) nat_eq nat_cmp same_number number_same nat_cmp_total IsCount m.counts holds.ascends.counts
      (λ c found. fits.counts c.table c.rows (sym (holds.counts c.table) ∙ ap (option_map (λ (c : Count). c.rows)) found));
  rows = each_found (λ (r : RowLine). (r.table, r.old)) same_pair pair_cmp pair_is is_pair pair_total (IsRowOf m) m.rows holds.ascends.rows
      (λ r found.
      let h = fits.rows r.table r.old r.new (sym (holds.rows r.table r.old) ∙ ap (option_map (λ (r : RowLine). r.new)) found) in
      (h.0, h.1, ap is_some (holds.counts r.table) ∙ h.2, λ six. holds.drops r.old ∙ h.3 six));
  crossed = each_found (λ (r : CrossLine). (r.table, r.old)) same_pair pair_cmp pair_is is_pair pair_total (IsCrossOf m) m.crossed holds.ascends.crossed
      (λ r found.
      let h = fits.crossed r.table r.old r (sym (holds.crossed r.table r.old) ∙ found) in
      (h.0, h.1, h.2, ap is_some (holds.counts r.table) ∙ h.3, holds.rows r.table r.old ∙ h.4));
  gone = each_found (λ (r : GoneLine). (r.table, r.old)) same_pair pair_cmp pair_is is_pair pair_total (IsGoneOf m) m.gone holds.ascends.gone
      (λ r found.
      let h = fits.gone r.table r.old (sym (holds.gone r.table r.old)
      ∙ (any_is (λ (g : GoneLine). nat_eq g.table r.table && nat_eq g.old r.old) m.gone ∙ ap is_some found)) in
      (h.0, h.1, ap is_some (holds.counts r.table) ∙ h.2, holds.rows r.table r.old ∙ h.3, holds.crossed r.table r.old ∙ h.4));
  methods = each_found (λ (l : MethodLine). l.method) nat_eq nat_cmp same_number number_same nat_cmp_total (IsLineOf m) m.methods holds.ascends.methods
      (λ l found.
      let h = fits.methods l.method l (sym (holds.methods l.method) ∙ found) in
      (h.0, h.1, h.2, h.3, holds.drops l.method ∙ h.4));
  drops = each_number IsRow m.drops (λ n is. fits.drops n (sym (holds.drops n) ∙ is));
  slotted = each_number (IsSlottedOf m) m.slotted (λ n is. let h = fits.slotted n (sym (holds.slotted n) ∙ is) in (h.0, holds.drops n ∙ h.1));
  slots = each_found (λ (s : SlotImage). (s.method, s.old)) same_pair pair_cmp pair_is is_pair pair_total (IsSlotOf m) m.slots holds.ascends.slots
      (λ s found.
      let h = fits.slots s.method s.old s.new (sym (holds.slots s.method s.old) ∙ ap (option_map (λ (s : SlotImage). s.new)) found) in
      (h.0, h.1, holds.slotted s.method ∙ h.2));
  signatures = each_found (λ (s : SignatureImage). s.method) nat_eq nat_cmp same_number number_same nat_cmp_total (IsSignatureOf m) m.signatures
      holds.ascends.signatures
      (λ s found.
      let h = fits.signatures s.method s.new (sym (holds.signatures s.method) ∙ ap (option_map (λ (s : SignatureImage). s.new)) found) in
      (h.0, h.1, holds.drops s.method ∙ h.2));
  documents = each_found (λ (d : NameLine). d.old) bytes_eq (slice_cmp nat_cmp) same_bytes bytes_same nat_list_cmp_total AreNames m.documents
      holds.ascends.documents
      (λ d found. fits.documents d.old d.new (sym (holds.documents d.old) ∙ ap (option_map (λ (d : NameLine). d.new)) found));
  link = if_there m.link (λ value is. fits.link value (sym holds.link ∙ is));
}
  where
    if_there : (o : Option (List ℕ)) → ((value : List ℕ) → o ≡ Some value → AreBytes value) → IfSome o AreBytes
    if_there None all = tt
    if_there (Some value) all = all value refl

-- a map of lines that were read is readable
pub read_readable : (version : ℕ) (texts : List (List ℕ)) (said : List Line) (m : Map) → Read version texts said → HoldsWhat said m → IsReadable m
read_readable version texts said m read holds = held_fits said m holds (read_fits version texts said read)

pub maps_are_readable : MapsAreReadable
maps_are_readable = λ text m is. read_readable is.version is.rest is.said m is.read is.holds_what

pub empty_readable : (m : Map) → m.counts ≡ [] → m.rows ≡ [] → m.crossed ≡ [] → m.gone ≡ [] → m.methods ≡ [] → m.drops ≡ [] → m.slotted ≡ [] → m.slots ≡ [] → m.signatures ≡ []
    → m.documents ≡ [] → m.link ≡ None → IsReadable m
unfolding IsStrictlySortedBy
empty_readable m a b x z d e f g h i j = record {
  ascends = record {
    counts = rw a tt;
    rows = rw b tt;
    crossed = rw x tt;
    gone = rw z tt;
    methods = rw d tt;
    drops = rw e tt;
    slotted = rw f tt;
    slots = rw g tt;
    signatures = rw h tt;
    documents = rw i tt;
  };
  counts = rw a tt;
  rows = rw b tt;
  crossed = rw x tt;
  gone = rw z tt;
  methods = rw d tt;
  drops = rw e tt;
  slotted = rw f tt;
  slots = rw g tt;
  signatures = rw h tt;
  documents = rw i tt;
  link = rw j tt;
}
