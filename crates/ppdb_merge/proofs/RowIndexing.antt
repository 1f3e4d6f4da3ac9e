-- The index of inputs whose rows are read again, with one further input.
use Rattle.std.proofs.Common.{◌≡◌, ℕ, zero, suc, ◌+◌, ◌<◌, ◌&&◌, not, Bool, true, false, cond, List, [], ◌∷◌, ◌++◌, Option, Some, None, length, map, flat_map, take}
use Rattle.std.{proofs.Common.{refl, sym, ◌∙◌, ap, subst, arith}, specs.Prelude.{get_or, slice_get}, specs.List.{filter_map, cons_option}}
use Rattle.std.{specs.Option.{option_to_list}, proofs.lemmas.List.{get_or-map, length-map, take_more}}
use Rattle.ppdb_base.specs.declared.merge_error.{MergeError.{MergeError}, MergeError.TheVariants.{LinkDiffers}}
use Rattle.ppdb_maps.specs.Map.{Map, is_gone_row}
use Rattle.ppdb_tables.specs.RawTables.{numbered}
use Rattle.ppdb_values.specs.{RawFile.{RawFile}, Value.{value_of}, declared.custom.CustomValue.{CustomValue}, declared.file.DocumentValue.{DocumentValue}}
use Rattle.ppdb_values.specs.{declared.file.FileValue.{FileValue}, Parts.{is_link}}
use Rattle.ppdb_verify.specs.Views.{raw_file}
use Rattle.ppdb_merge_items.specs.{declared.file.AnnotatedFile.{AnnotatedFile}, Each.{Each}, Sorted.{in_order}, Annotated.{annotated_file}}
use Rattle.ppdb_merge_joined.specs.Joined.{firsts}
use Rattle.ppdb_merge_moved.specs.Moved.{moved_document, moved_file}
use Rattle.ppdb_merge_names.specs.declared.imaged.Imaged.{Imaged}
use Rattle.ppdb_merge_fits.specs.Signatures.{all_images}
use Rattle.ppdb_merge_rows.specs.declared.inputs.RowInput.{RowInput}
use Rattle.ppdb_merge.specs.{declared.row_index.RowIndex.{RowIndex}, declared.row_trace.RowTrace.{RowTrace}, declared.trace.Trace.{Trace}, Indexes.{HoldsMethods}}
use Rattle.ppdb_merge.specs.{Indexes.{HoldsDocuments, claims_of}, Inputs.{trace_by}, Merged.{trace_of}, Refusals.{claims, clashes_before, documents_differ}}
use Rattle.ppdb_merge.specs.{Refusals.{link_differs, links_differ, methods_in, moved_conflict, says_other_before, taken}, Rows.{IndexesRows, link_after, read_input}}
use Rattle.ppdb_merge.{specs.Rows.{row_trace, row_traces, traces_in}, specs.Sound.{SoundTrace, SoundTraces}, proofs.Adding.{items_are}, proofs.Indexing.{index_more}}
use Rattle.ppdb_merge.proofs.RowLinks.{links_more}

-- ---- one more input

pub rows_more : (traces : List Trace) (first : Bool) (m : Map) (raw : RawFile) (rows : List Imaged) (index after : RowIndex) → IndexesRows traces index
    → rows ≡ all_images first m raw → after.index.inputs ≡ index.index.inputs + 1
    → ((claimed : List (ℕ × Imaged)) → HoldsMethods claimed index.index.methods
    → HoldsMethods (claimed ++ claims_of (index.index.inputs + 1) rows) after.index.methods)
    → ((all : List DocumentValue) → HoldsDocuments (firsts [] all) index.index.documents
    → HoldsDocuments (firsts [] (all ++ map (moved_document m) (value_of raw).documents)) after.index.documents)
    → after.links ≡ index.links ++ filter_map (link_after m) (value_of raw).customs
    → IndexesRows (traces ++ trace_of first m raw ∷ []) after
rows_more traces first m raw rows index after holds named counted methods documents links = record {
  index = index_more traces (trace_of first m raw) index.index after.index holds.index counted
      (λ claimed before. subst (λ l. HoldsMethods (claimed ++ claims_of (index.index.inputs + 1) l) after.index.methods) named (methods claimed before))
      (λ all before. subst (λ l. HoldsDocuments (firsts [] (all ++ l)) after.index.documents) (sym (items_are m (value_of raw) 1 (value_of raw).documents))
      (documents all before));
  links = links_more traces first m raw index.links after.links holds.links links;
}

-- ---- inputs by their places

later_at : (inputs : List RowInput) (k : ℕ) (d : RowInput) (e : Trace) → k < length inputs
    → get_or (map trace_by (map (λ input. (false, input)) (map read_input inputs))) k e
    ≡ trace_of false (get_or inputs k d).map (raw_file (get_or inputs k d).file)
later_at [] k d e within = absurd (omega (arith, within))
later_at (i ∷ inputs) zero d e within = refl
later_at (i ∷ inputs) (suc k) d e within = later_at inputs k d e (omega (arith, within))

pub trace_at : (inputs : List RowInput) (k : ℕ) (d : RowInput) (e : Trace) → k < length inputs
    → (first : Bool) × (get_or (traces_in inputs) k e ≡ trace_of first (get_or inputs k d).map (raw_file (get_or inputs k d).file))
trace_at [] k d e within = absurd (omega (arith, within))
trace_at (i ∷ inputs) zero d e within = (true, refl)
trace_at (i ∷ inputs) (suc k) d e within = (false, later_at inputs k d e (omega (arith, within)))

later_many : (inputs : List RowInput) → length (map trace_by (map (λ input. (false, input)) (map read_input inputs))) ≡ length inputs
later_many [] = refl
later_many (i ∷ inputs) = ap suc (later_many inputs)

pub many_traces : (inputs : List RowInput) → length (traces_in inputs) ≡ length inputs
many_traces [] = refl
many_traces (i ∷ inputs) = ap suc (later_many inputs)

-- an input, what is kept of it, and the traces up to it
pub traced_at : (inputs : List RowInput) (kept : List RowTrace) (k : ℕ) (d : RowInput) (e : RowTrace) → kept ≡ row_traces inputs → k < length inputs
    → (first : Bool) × ((get_or kept k e).rows ≡ all_images first (get_or inputs k d).map (raw_file (get_or inputs k d).file))
    × (take (k + 1) (traces_in inputs) ≡ take k (traces_in inputs) ++ trace_of first (get_or inputs k d).map (raw_file (get_or inputs k d).file) ∷ [])
traced_at inputs kept k d e is within =
    let t : Trace = trace_of true (get_or inputs k d).map (raw_file (get_or inputs k d).file) in
    let at = trace_at inputs k d t within in
    let many = many_traces inputs in
    let inside : k < length (traces_in inputs) = omega (arith, within, many) in (
      at.0,
      ap (λ l. (get_or l k e).rows) is ∙ ap (λ (r : RowTrace). r.rows) (get_or-map row_trace (traces_in inputs) k t e inside)
          ∙ ap (λ (x : Trace). x.rows) at.1,
      take_more (traces_in inputs) k t inside ∙ ap (λ x. take k (traces_in inputs) ++ x ∷ []) at.1,
    )

-- ---- before the first input nothing stands

nothing : {A B : Type 0} (f : A → Option B) → ((x : A) → f x ≡ None) → (xs : List A) → filter_map f xs ≡ []
nothing f none [] = refl
nothing f none (x ∷ xs) = ap (λ o. cons_option o (filter_map f xs)) (none x) ∙ nothing f none xs

none_says : (m : Map) (value : List ℕ) → says_other_before [] m value ≡ false
none_says m value = by (is_gone_row m 0x00 1)
  where
    by : (b : Bool) → (not b && false) ≡ false
    by true = refl
    by false = refl

none_differs : (m : Map) (value : List ℕ) (c : ℕ × CustomValue) → link_differs [] m value c ≡ None
none_differs m value c =
    ap (λ h. cond (is_link c.1 && h) (Some (LinkDiffers c.0)) None) (none_says m value) ∙ by (is_link c.1)
  where
    by : (b : Bool) → ◌≡◌ {A = Option MergeError} (cond (b && false) (Some (LinkDiffers c.0)) None) None
    by true = refl
    by false = refl

no_links : (m : Map) (cs : List CustomValue) → links_differ [] m cs ≡ []
no_links m cs = by m.link
  where
    by : (o : Option (List ℕ)) → flat_map (λ value. filter_map (link_differs [] m value) (numbered cs)) (option_to_list o) ≡ []
    by None = refl
    by (Some value) = ap (λ l. l ++ []) (nothing (link_differs [] m value) (none_differs m value) (numbered cs))

pub none_before : (traces : List Trace) (index : RowIndex) (m : Map) (rows : List Imaged) (value : FileValue) → IndexesRows traces index → index.index.inputs ≡ 0
    → ◌≡◌ {A = Option MergeError} None (slice_get (clashes_before traces m rows value) 0)
none_before [] index m rows value holds none =
    sym (ap (λ l. slice_get (l ++ (documents_differ [] m value.documents ++ links_differ [] m value.customs)) 0)
    (nothing (taken (claims [])) (λ i. refl) (in_order (λ (i : Imaged). i.image) (methods_in rows)))
    ∙ ap (λ l. slice_get (l ++ links_differ [] m value.customs) 0) (nothing (moved_conflict m []) (λ d. refl) (numbered value.documents))
    ∙ ap (λ l. slice_get l 0) (no_links m value.customs))
none_before (t ∷ traces) index m rows value holds none = let counted = holds.index.inputs in absurd (omega (arith, counted, none))

-- ---- what is kept of an input, made again

pub many_kept : (inputs : List RowInput) (kept : List RowTrace) → kept ≡ row_traces inputs → length kept ≡ length inputs
many_kept inputs kept is = ap length is ∙ length-map (traces_in inputs) row_trace ∙ many_traces inputs

pub each_get : {A : Type 0} (P : A → Type 0) (xs : List A) (k : ℕ) (d : A) → k < length xs → Each P xs → P (get_or xs k d)
each_get P [] k d within each = absurd (omega (arith, within))
each_get P (x ∷ xs) zero d within each = each.0
each_get P (x ∷ xs) (suc k) d within each = each_get P xs k d (omega (arith, within)) each.1

-- what is kept of the input at a place is sound
pub sound_at : (inputs : List RowInput) (k : ℕ) (d : RowInput) → k < length inputs → SoundTraces (traces_in inputs)
    → (first : Bool) × SoundTrace (trace_of first (get_or inputs k d).map (raw_file (get_or inputs k d).file))
sound_at inputs k d within sound =
    let t : Trace = trace_of true (get_or inputs k d).map (raw_file (get_or inputs k d).file) in
    let at = trace_at inputs k d t within in
    let many = many_traces inputs in
    (at.0, subst SoundTrace at.1 (each_get SoundTrace (traces_in inputs) k t (omega (arith, within, many)) sound.each))

pub made_again : (first : Bool) (m : Map) (raw : RawFile) (value : FileValue) (moved : AnnotatedFile) (rows : List Imaged)
    → moved ≡ moved_file m (annotated_file value) → value ≡ value_of raw → rows ≡ all_images first m raw
    → ◌≡◌ {A = Trace} (record { moved = moved; rows = rows }) (trace_of first m raw)
made_again first m raw value moved rows is from same =
    ap (λ (f : AnnotatedFile). record { moved = f; rows = rows }) (is ∙ ap (λ (v : FileValue). moved_file m (annotated_file v)) from)
    ∙ ap (λ (l : List Imaged). record { moved = moved_file m (annotated_file (value_of raw)); rows = l }) same

-- ---- of an input that stands at a place

pub traced_by : (inputs : List RowInput) (kept : List RowTrace) (k : ℕ) (x : RowInput) (y : RowTrace) → kept ≡ row_traces inputs → k < length inputs
    → x ≡ get_or inputs k x → y ≡ get_or kept k y
    → (first : Bool) × (y.rows ≡ all_images first x.map (raw_file x.file))
    × (take (k + 1) (traces_in inputs) ≡ take k (traces_in inputs) ++ trace_of first x.map (raw_file x.file) ∷ [])
traced_by inputs kept k x y is within here beside =
    let at = traced_at inputs kept k x y is within in (
      at.0,
      ap (λ (r : RowTrace). r.rows) beside ∙ at.1 ∙ ap (λ (i : RowInput). all_images at.0 i.map (raw_file i.file)) (sym here),
      at.2 ∙ ap (λ (i : RowInput). take k (traces_in inputs) ++ trace_of at.0 i.map (raw_file i.file) ∷ []) (sym here),
    )

pub sound_by : (inputs : List RowInput) (k : ℕ) (x : RowInput) → k < length inputs → x ≡ get_or inputs k x → SoundTraces (traces_in inputs)
    → (first : Bool) × SoundTrace (trace_of first x.map (raw_file x.file))
sound_by inputs k x within here sound =
    let at = sound_at inputs k x within sound in
    (at.0, subst (λ (i : RowInput). SoundTrace (trace_of at.0 i.map (raw_file i.file))) (sym here) at.1)

pub named_by : (rows : List Imaged) (there y : RowTrace) (all : List Imaged) → rows ≡ there.rows → y ≡ there → y.rows ≡ all → rows ≡ all
named_by rows there y all is here same = is ∙ ap (λ (r : RowTrace). r.rows) (sym here) ∙ same
