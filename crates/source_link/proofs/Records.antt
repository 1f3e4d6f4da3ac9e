-- The first Source Link record among the custom records of the module.
use Rattle.std.proofs.Common.{◌≡◌, ℕ, ◌+◌, ◌-◌, ◌<◌, ◌≤◌, ◌∙◌, Bool, true, false, cond, List, [], ◌∷◌, map, refl, sym, ap, subst, arith, Option, Some, None, zero}
use Rattle.std.{proofs.Common.{suc}, specs.Prelude.{◌&&◌, Contains, slice_get}, specs.List.{filter, find, enumerate_from}, specs.Option.{option_map}}
use Rattle.std.{specs.Str.{bytes_eq}, proofs.lemmas.Bool.Decides.{nat_tests}, proofs.lemmas.Slice.Eq.{bytes_eq-Decides}}
use Rattle.custom_info.specs.Kinds.{source_link, kind_of}
use Rattle.ppdb_tables.specs.{declared.parent.Parent.{Parent}, declared.rows.CustomRow.{CustomRow}, RawTables.{RawTables, numbered, count, row_at}}
use Rattle.ppdb_values.specs.{declared.custom.CustomValue.{CustomValue}, Customs.{custom_of, custom_body, kind_in, parent_of}, Parts.{bytes_in, is_at, is_link}}
use Rattle.ppdb_values.specs.{RawFile.{RawFile, blob}, Rules.{KeepsCustoms}, Value.{value_of}}
use Rattle.ppdb_queries.{specs.declared.run.Run.{Run}, specs.Runs.{customs_at, rows_in}, proofs.Views.{run_step}}
use Rattle.source_link.{specs.FileLinks.{link_record}, specs.RecordRows.{link_between}, proofs.Best.{found}}

find_mapped : {A B C : Type 0} (f : A → B) (g : B → C) (p : B → Bool) (xs : List A)
    → option_map g (find p (map f xs)) ≡ option_map (λ x. g (f x)) (find (λ x. p (f x)) xs)
find_mapped f g p [] = refl
find_mapped f g p (x ∷ xs) = step (p (f x)) (find_mapped f g p xs)
  where
    step : (b : Bool) → option_map g (find p (map f xs)) ≡ option_map (λ x. g (f x)) (find (λ x. p (f x)) xs)
        → option_map g (cond b (Some (f x)) (find p (map f xs))) ≡ option_map (λ x. g (f x)) (cond b (Some x) (find (λ x. p (f x)) xs))
    step true rest = refl
    step false rest = rest

find_numbered : {A C : Type 0} (g : A → C) (p : A → Bool) (n : ℕ) (xs : List A)
    → option_map (λ row. g row.1) (find (λ row. p row.1) (enumerate_from n xs)) ≡ option_map g (find p xs)
find_numbered g p n [] = refl
find_numbered g p n (x ∷ xs) = step (p x) (find_numbered g p (n + 1) xs)
  where
    step : (b : Bool) → option_map (λ row. g row.1) (find (λ row. p row.1) (enumerate_from (n + 1) xs)) ≡ option_map g (find p xs)
        → option_map (λ row. g row.1) (cond b (Some (n, x)) (find (λ row. p row.1) (enumerate_from (n + 1) xs))) ≡ option_map g (cond b (Some x) (find p xs))
    step true rest = refl
    step false rest = rest

find_filtered : {A : Type 0} (p q : A → Bool) (xs : List A) → find q (filter p xs) ≡ find (λ x. p x && q x) xs
find_filtered p q [] = refl
find_filtered p q (x ∷ xs) = step (p x) (find_filtered p q xs)
  where
    step : (b : Bool) → find q (filter p xs) ≡ find (λ x. p x && q x) xs
        → find q (cond b (x ∷ filter p xs) (filter p xs)) ≡ cond (b && q x) (Some x) (find (λ x. p x && q x) xs)
    step true rest = ap (λ o. cond (q x) (Some x) o) rest
    step false rest = rest

-- at the start it is that of the file
pub link_all : (raw : RawFile) (run : Run) → rows_in run raw.tables.customs ≡ customs_at raw.tables 0x00 1
    → link_between raw.tables run.first run.end ≡ link_record (value_of raw)
link_all raw run all =
    let rows = raw.tables.customs in
    let g : CustomRow → List ℕ = λ row. bytes_in (custom_of raw.tables row).value in
    ap (λ (l : List (ℕ × CustomRow)). option_map (λ row. g row.1) (find (λ row. bytes_eq (kind_in raw.tables row.1) source_link) l)) all
    ∙ ap (option_map (λ (row : ℕ × CustomRow). g row.1)) (find_filtered (λ row. is_at 0x00 1 (parent_of row.1.parent))
    (λ row. bytes_eq (kind_in raw.tables row.1) source_link) (numbered rows))
    ∙ find_numbered g (λ row. is_link (custom_of raw.tables row)) 1 rows
    ∙ sym (find_mapped (custom_of raw.tables) (λ (custom : CustomValue). bytes_in custom.value) is_link rows)

pub link_passed : (raw : RawTables) (row end : ℕ) (cells : CustomRow) → row_at raw.customs row ≡ Some cells → row < end
    → bytes_eq (kind_in raw cells) source_link ≡ false
    → link_between raw (row + 1) end ≡ link_between raw row end
link_passed raw row end cells there before other = sym (rw (run_step raw.customs row end cells there before, other) refl)

body_kept : (raw : RawTables) (kind content : List ℕ) → kind ≡ source_link → bytes_in (custom_body raw (kind_of [] kind) content) ≡ content
body_kept raw kind content is = ap (λ k. bytes_in (custom_body raw (kind_of [] k) content)) is

pub link_found : (raw : RawTables) (row end : ℕ) (cells : CustomRow) → row_at raw.customs row ≡ Some cells → row < end
    → bytes_eq (kind_in raw cells) source_link ≡ true
    → link_between raw row end ≡ Some (blob raw cells.value)
link_found raw row end cells there before is =
    rw (run_step raw.customs row end cells there before, is)
    (ap Some (body_kept raw (kind_in raw cells) (blob raw cells.value) ((bytes_eq-Decides (kind_in raw cells) source_link).0 is)))

-- ---- without a module

mapped_there : {A B : Type 0} (f : A → B) (xs : List A) (y : B) → Contains (map f xs) y → (i : ℕ) × (x : A) × (slice_get xs i ≡ Some x) × (f x ≡ y)
mapped_there f [] y (k, less, e) = absurd (omega (arith, less))
mapped_there f (x ∷ xs) y (zero, less, e) = (0, x, refl, e)
mapped_there f (x ∷ xs) y (suc k, less, e) = let m = mapped_there f xs y (k, omega (arith, less), e) in (suc m.0, m.1, m.2, m.3)

on_module : (parent : Parent) (b : Bool) → (is_at 0x00 1 parent && b) ≡ true → (parent.table ≡ 0) × (parent.row ≡ 1)
on_module parent b h = grind (arith, nat_tests)

pub no_module : (raw : RawFile) → KeepsCustoms raw.tables → count raw.tables 0x00 ≡ 0 → link_record (value_of raw) ≡ None
no_module raw keeps none = ap (option_map (λ (custom : CustomValue). bytes_in custom.value)) (step (find is_link (value_of raw).customs) refl)
  where
    step : (o : Option CustomValue) → find is_link (value_of raw).customs ≡ o → find is_link (value_of raw).customs ≡ None
    step None e = e
    step (Some custom) e =
        let f = found is_link custom (value_of raw).customs e in
        let m = mapped_there (custom_of raw.tables) raw.tables.customs custom f.0 in
        let here = on_module custom.parent (bytes_eq custom.kind source_link) f.1 in
        let kept = keeps.each (suc m.0) m.1 m.2 in
        let table : (parent_of m.1.parent).table ≡ 0 = ap (λ (c : CustomValue). c.parent.table) m.3 ∙ here.0 in
        let row : (parent_of m.1.parent).row ≡ 1 = ap (λ (c : CustomValue). c.parent.row) m.3 ∙ here.1 in
        let few : (parent_of m.1.parent).row ≤ count raw.tables 0 = subst (λ t. (parent_of m.1.parent).row ≤ count raw.tables t) table kept.parent.1 in
        absurd (omega (arith, few, none, row))
