-- The first reference without image is reported.
use Rattle.std.{proofs.Common.{◌≡◌, ℕ, ◌++◌, cond, List, [], ◌∷◌, refl, ap, map, flat_map}, specs.Prelude.{Bool, false, Contains}}
use Rattle.ppdb_base.specs.{Place.{ComesBefore}, declared.merge_error.MergeError.{MergeError}, declared.merge_error.MergeError.TheVariants.{Unmapped}}
use Rattle.ppdb_maps.specs.{declared.image.RowImage.{RowImage}, declared.image.RowImage.TheVariants.{Row, Gone, Missing}, Map.{Map, row_image}}
use Rattle.ppdb_values.specs.RawFile.{RawFile}
use Rattle.ppdb_merge_items.specs.Each.{Each}
use Rattle.ppdb_merge_moved.proofs.Elements.{each_in, each_made, in_each}
use Rattle.ppdb_merge_joined.proofs.Each.{Each-flat}
use Rattle.ppdb_merge_names.specs.References.{Reference, references}
use Rattle.ppdb_merge_fits.{specs.Rows.{is_row, unmapped}, proofs.Parts.{if_unmapped}}
use Rattle.ppdb_merge_places_laws.specs.{References.{reference_numbers, IsUnmapped, FirstReferencesAreReported}, References.IsUnmapped.{reference}}
use Rattle.ppdb_merge_places_laws.proofs.{Ordered.{Rise}, References.{rising}, Reported.{IsWitness, Placed, error_of, numbers, reports_first}}

module _ (first : Bool) (m : Map) (raw : RawFile) where
  abbrev Witness : List ℕ → MergeError → Type 0
  Witness = IsUnmapped first m raw

  abbrev placed : Reference → Placed
  placed r = (reference_numbers r, Unmapped r.table r.row r.place)

  -- an error of a reference, with its place
  abbrev told_if : RowImage → Reference → List Placed
  told_if image r = cond (is_row image) [] (placed r ∷ [])

  abbrev told_of : Reference → List Placed
  told_of r = told_if (row_image m r.table r.row) r

  abbrev After : Reference → Placed → Type 0
  After r x = ComesBefore (reference_numbers r) x.0

  told_after : (r : Reference) (rs : List Reference) → Each (λ s. ComesBefore (reference_numbers r) (reference_numbers s)) rs
      → Each (After r) (flat_map told_of rs)
  told_after r [] each = tt
  told_after r (s ∷ rs) each = step (row_image m s.table s.row) (told_after r rs each.1)
    where
      step : (o : RowImage) → Each (After r) (flat_map told_of rs) → Each (After r) (told_if o s ++ flat_map told_of rs)
      step (Row to image) rest = rest
      step Gone rest = (each.0, rest)
      step Missing rest = (each.0, rest)

  told_rise : (rs : List Reference) → Rise reference_numbers rs → Rise numbers (flat_map told_of rs)
  told_rise [] rise = tt
  told_rise (r ∷ rs) rise = step (row_image m r.table r.row) (told_after r rs rise.0) (told_rise rs rise.1)
    where
      step : (o : RowImage) → Each (After r) (flat_map told_of rs) → Rise numbers (flat_map told_of rs) → Rise numbers (told_if o r ++ flat_map told_of rs)
      step (Row to image) after rest = rest
      step Gone after rest = (after, rest)
      step Missing after rest = (after, rest)

  told_same : (rs : List Reference) → map error_of (flat_map told_of rs) ≡ flat_map (if_unmapped m) rs
  told_same [] = refl
  told_same (r ∷ rs) = step (row_image m r.table r.row) (told_same rs)
    where
      step : (o : RowImage) → map error_of (flat_map told_of rs) ≡ flat_map (if_unmapped m) rs → map error_of (told_if o r ++ flat_map told_of rs)
          ≡ cond (is_row o) [] (Unmapped r.table r.row r.place ∷ []) ++ flat_map (if_unmapped m) rs
      step (Row to image) rest = rest
      step Gone rest = ap (λ l. Unmapped r.table r.row r.place ∷ l) rest
      step Missing rest = ap (λ l. Unmapped r.table r.row r.place ∷ l) rest

  told_sound : Each (IsWitness Witness) (flat_map told_of (references first m raw))
  told_sound = Each-flat told_of (IsWitness Witness) (references first m raw) (each_in _ (references first m raw) of_each)
    where
      of_each : (r : Reference) → Contains (references first m raw) r → Each (IsWitness Witness) (told_of r)
      of_each r there = step (row_image m r.table r.row) refl
        where
          step : (o : RowImage) → row_image m r.table r.row ≡ o → Each (IsWitness Witness) (told_if o r)
          step (Row to image) is = tt
          step Gone is = (reference r there (ap is_row is), tt)
          step Missing is = (reference r there (ap is_row is), tt)

  told_all : (at : List ℕ) (error : MergeError) → Witness at error → Contains (flat_map told_of (references first m raw)) (at, error)
  told_all _ _ (reference r there none) = step (row_image m r.table r.row) none
      (in_each _ (references first m raw) r
      (each_made told_of (Contains all) (references first m raw) (each_in (Contains all) all (λ x is. is))) there)
    where
      all : List Placed
      all = flat_map told_of (references first m raw)

      step : (o : RowImage) → is_row o ≡ false → Each (Contains all) (told_if o r) → Contains all (placed r)
      step (Row to image) is each = absurd cc
      step Gone is each = each.0
      step Missing is each = each.0

pub first_references : FirstReferencesAreReported
first_references first m raw =
    reports_first (IsUnmapped first m raw) (flat_map (told_of first m raw) (references first m raw)) (unmapped first m raw)
    (record {
      rise = told_rise first m raw (references first m raw) (rising first m raw);
      sound = told_sound first m raw;
      complete = told_all first m raw;
    }) (told_same first m raw (references first m raw))
