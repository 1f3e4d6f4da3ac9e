-- The first fault before the stream headers, and that of the streams.
use Rattle.std.proofs.Common.{◌≡◌, ◌≢◌, ℕ, zero, suc, true, ◌+◌, ◌<◌, ◌≤◌, ◌⊎◌, inl, inr, List, [], ◌∷◌, ◌++◌, length, sum, Option, Some, None, refl, sym, ap, subst}
use Rattle.std.{proofs.Common.{◌∙◌, append_assoc, arith, lit≤}, specs.Prelude.{codes, MatchOption}, specs.Option.{is_some, option_map, ForSome}}
use Rattle.std.proofs.lemmas.{Bool.{cases_lt}, List.{length-take}}
use Rattle.ppdb_base.specs.declared.code.{Code.{Code}, Code.TheVariants.{RootTruncated, StreamName, StreamUnknown, StreamRepeated, NotMetadata, WindowsPdb}}
use Rattle.ppdb_base.specs.declared.{code.Code.TheVariants.{StreamMissing, StreamBounds}, fault.Place.{Place}, fault.Fault.{Fault}}
use Rattle.ppdb_base.{specs.Place.{ComesBefore, numbers, number_of, at_byte}, specs.First.{IsAccepted, IsFirst}, proofs.Judging.{first_at, byte_before}}
use Rattle.ppdb_base.proofs.Fields.{sum_append, sum_cons}
use Rattle.metadata_root.specs.declared.kind.{StreamKind.{StreamKind}, StreamKind.TheVariants.{Pdb, Tables, Strings, UserStrings, Guids, Blobs}}
use Rattle.metadata_root.specs.{declared.header.Listing.{Listing}, declared.header.Extent.{Extent}, Root.{RootFaults, not_metadata, windows_pdb, truncated}}
use Rattle.metadata_root.specs.Root.{invalid_name, unknown, repeated, BeginsWith, prefix_fields, fields_to, root_fields, header_place, name_place, name_at, name_of}
use Rattle.metadata_root.specs.{Root.{stream_count, version_len}, Streams.{StreamFaults, bounds, missing_pdb, missing_tables, IsListed, Stream, Streams, stream_of}}
use Rattle.metadata_root.specs.{Streams.{AreStreamsOf, IsStream}, Reading.{listed, slice_of, IsListing, IsFirstOutside, IsInside, HasExtent}}
use Rattle.metadata_root.proofs.{Order.{fields_split, ends_by_place}, FirstOfRoot.{AreGoodTo, cut_is_first, found_where, missing_where}}

-- no header is judged yet
pub good_to_none : (file : List ℕ) → AreGoodTo file 0
good_to_none file = record {
  good = λ j lt. absurd (omega (arith, lt));
  known = λ j lt. absurd (omega (arith, lt));
  apart = λ i j before lt. absurd (omega (arith, lt));
}

not_before_first : (file : List ℕ) (code : Code) (at : Place) → RootFaults file code at → ComesBefore (numbers code at) (1 ∷ 0 ∷ 0 ∷ 0 ∷ 0 ∷ []) → ⊥
not_before_first file _ _ (not_metadata none _) past = absurd (omega (arith, byte_before 1 NotMetadata 0 0 past))
not_before_first file _ _ (windows_pdb m) past = absurd (omega (arith, byte_before 1 WindowsPdb 0 0 past))
not_before_first file _ _ (truncated at len f inside_file over) past = absurd (omega (arith, byte_before 1 RootTruncated at 0 past))
not_before_first file _ _ (invalid_name j at n invalid) past = absurd (omega (arith, byte_before 1 StreamName at 0 past))
not_before_first file _ _ (unknown j at n none) past = absurd (omega (arith, byte_before 1 StreamUnknown at 0 past))
not_before_first file _ _ (repeated j at n i before_j same) past = absurd (omega (arith, byte_before 1 StreamRepeated at 0 past))

least_windows : (file : List ℕ) → BeginsWith (codes "Microsoft C/C++ MSF ") file → (code : Code) (at : Place) → RootFaults file code at → 2 ≤ number_of code
least_windows file m _ _ (not_metadata _ none) = absurd (none m)
least_windows file m _ _ (windows_pdb _) = lit≤ tt
least_windows file m _ _ (truncated at len f inside_file over) = lit≤ tt
least_windows file m _ _ (invalid_name j at n invalid) = lit≤ tt
least_windows file m _ _ (unknown j at n none) = lit≤ tt
least_windows file m _ _ (repeated j at n i before_j same) = lit≤ tt

least_of_all : (file : List ℕ) (code : Code) (at : Place) → RootFaults file code at → 1 ≤ number_of code
least_of_all file _ _ (not_metadata _ _) = lit≤ tt
least_of_all file _ _ (windows_pdb _) = lit≤ tt
least_of_all file _ _ (truncated at len f inside_file over) = lit≤ tt
least_of_all file _ _ (invalid_name j at n invalid) = lit≤ tt
least_of_all file _ _ (unknown j at n none) = lit≤ tt
least_of_all file _ _ (repeated j at n i before_j same) = lit≤ tt

pub windows_is_first : (file : List ℕ) (fault : Fault) → fault ≡ record { code = WindowsPdb; place = at_byte 1 0 }
    → BeginsWith (codes "Microsoft C/C++ MSF ") file → IsFirst (RootFaults file) fault
windows_is_first file fault is m =
    subst (IsFirst (RootFaults file)) (sym is) (first_at (RootFaults file) WindowsPdb (at_byte 1 0) (not_before_first file) (windows_pdb m)
    (λ other invalid. least_windows file m other _ invalid))

pub not_metadata_is_first : (file : List ℕ) (fault : Fault) → fault ≡ record { code = NotMetadata; place = at_byte 1 0 } → (BeginsWith (codes "BSJB") file → ⊥)
    → (BeginsWith (codes "Microsoft C/C++ MSF ") file → ⊥) → IsFirst (RootFaults file) fault
not_metadata_is_first file fault is unsigned other_file =
    subst (IsFirst (RootFaults file)) (sym is) (first_at (RootFaults file) NotMetadata (at_byte 1 0) (not_before_first file) (not_metadata unsigned other_file)
    (λ other invalid. least_of_all file other _ invalid))

first_place : (file : List ℕ) (j : ℕ) → header_place file 0 ≤ header_place file j
first_place file zero = omega arith
first_place file (suc j) = omega (arith, ends_by_place file 0 (suc j) (omega arith))

-- a field before the headers that passes the end is the first fault
pub prefix_is_first : (file : List ℕ) (fault : Fault) → BeginsWith (codes "BSJB") file → (at len : ℕ) (before after : List ℕ) → prefix_fields file ≡ before
    ++ len ∷ after → at ≡ sum before → at ≤ length file
    → (fault ≡ record { code = RootTruncated; place = at_byte 1 at }) × (length file < at + len) → IsFirst (RootFaults file) fault
unfolding fields_to
prefix_is_first file fault signed at len before after split is le past =
    let whole = fields_split file 0 (stream_count file) (omega arith) in
    let cut : root_fields file ≡ before ++ (len ∷ (after ++ whole.0)) = whole.1 ∙ ap (λ xs. xs ++ whole.0) split ∙ append_assoc before (len ∷ after) whole.0 in
    let within : sum (prefix_fields file) ≡ sum before + (len + sum after) =
    ap sum split ∙ sum_append before (len ∷ after) ∙ ap (λ n. sum before + n) (sum_cons len after) in
    subst (IsFirst (RootFaults file)) (sym past.0)
    (cut_is_first file signed 0 at len before (after ++ whole.0) cut is le past.1 (good_to_none file)
    (λ j lt. absurd (omega (arith, is, lt, within, first_place file j))))

-- the signature lies in the file
pub begins_len : (file : List ℕ) → BeginsWith (codes "BSJB") file → 4 ≤ length file
begins_len file e = omega (arith, ap length e, length-take 4 file)

pub first_header : (file : List ℕ) → header_place file 0 ≡ 20 + version_len file
unfolding fields_to
first_header file = omega arith

-- ---- the streams

module _ (file : List ℕ) (listing : Listing) (l : IsListing file (stream_count file) listing) where
  -- a stream that is not in the listing is not listed
  pub not_listed : (kind : StreamKind) → listed listing kind ≡ None → IsListed file kind → ⊥
  not_listed kind none found =
      missing_where (listed listing kind) _ _ (l.streams kind) none found.0 found.1.counted found.1.named

  not_before_streams : (code : Code) (at : Place) → StreamFaults file code at → ComesBefore (numbers code at) (2 ∷ 0 ∷ 0 ∷ 0 ∷ 0 ∷ []) → ⊥
  not_before_streams _ _ (bounds k lt over) past = absurd (omega (arith, byte_before 2 StreamBounds (header_place file k) 0 past))
  not_before_streams _ _ (missing_pdb none) past = absurd (omega (arith, byte_before 2 StreamMissing 0 0 past))
  not_before_streams _ _ (missing_tables none) past = absurd (omega (arith, byte_before 2 StreamMissing 0 0 past))

  least_missing : (code : Code) (at : Place) → StreamFaults file code at → at ≡ at_byte 2 0 → 8 ≤ number_of code
  least_missing _ _ (bounds k lt over) e =
      let here : header_place file k ≡ 0 = ap (λ p. p.byte) e in
      absurd (omega (arith, here, first_header file, first_place file k))
  least_missing _ _ (missing_pdb none) e = lit≤ tt
  least_missing _ _ (missing_tables none) e = lit≤ tt

  pub missing_is_first : (fault : Fault) → fault ≡ record { code = StreamMissing; place = at_byte 2 0 } → (listed listing Pdb ≡ None)
      ⊎ (listed listing Tables ≡ None) → IsFirst (StreamFaults file) fault
  missing_is_first fault is (inl none) =
      subst (IsFirst (StreamFaults file)) (sym is) (first_at (StreamFaults file) StreamMissing (at_byte 2 0) not_before_streams (missing_pdb (not_listed Pdb none))
      (λ other invalid. least_missing other _ invalid refl))
  missing_is_first fault is (inr none) =
      subst (IsFirst (StreamFaults file)) (sym is)
      (first_at (StreamFaults file) StreamMissing (at_byte 2 0) not_before_streams (missing_tables (not_listed Tables none))
      (λ other invalid. least_missing other _ invalid refl))

  -- a stream that is in the listing is listed
  pub is_listed : (kind : StreamKind) → is_some (listed listing kind) ≡ true → IsListed file kind
  is_listed kind some =
      let found = found_where (listed listing kind) _ _ (l.streams kind) some in
      (found.1.0, record { counted = found.1.1; named = found.1.2.named })

  module _ (pdb : is_some listing.pdb ≡ true) (tables : is_some listing.tables ≡ true) where
    not_before_outside : (header j : ℕ) → IsFirstOutside file header j → (code : Code) (at : Place) → StreamFaults file code at
        → ComesBefore (numbers code at) (2 ∷ 0 ∷ 0 ∷ 0 ∷ header ∷ []) → ⊥
    not_before_outside header j first _ _ (bounds k lt over) past =
        let before = byte_before 2 StreamBounds (header_place file k) header past in
        elim (cases_lt k j) [
          | inl earlier ↦ absurd (omega (arith, over, first.inside k earlier))
          | inr ge ↦ elim (cases_lt j k) [
            | inl later ↦ absurd (omega (arith, before, first.place, ends_by_place file j k later))
            | inr le ↦
                let e : k ≡ j = omega (arith, ge, le) in
                absurd (omega (arith, before, first.place, ap (λ i. header_place file i) e))
          ]
        ]
    not_before_outside header j first _ _ (missing_pdb none) past = none (is_listed Pdb pdb)
    not_before_outside header j first _ _ (missing_tables none) past = none (is_listed Tables tables)

    least_outside : (code : Code) (at : Place) → StreamFaults file code at → 7 ≤ number_of code
    least_outside _ _ (bounds k lt over) = lit≤ tt
    least_outside _ _ (missing_pdb none) = lit≤ tt
    least_outside _ _ (missing_tables none) = lit≤ tt

    pub outside_is_first : (header : ℕ) (fault : Fault) → fault ≡ record { code = StreamBounds; place = at_byte 2 header }
        → (j : ℕ) × (j < stream_count file) × IsFirstOutside file header j → IsFirst (StreamFaults file) fault
    outside_is_first header fault is first =
        let j = first.0 in
        let o = first.2 in
        let invalid = subst (λ h. StreamFaults file StreamBounds (at_byte 2 h)) (sym o.place) (bounds j first.1 o.outside) in
        subst (IsFirst (StreamFaults file)) (sym is)
        (first_at (StreamFaults file) StreamBounds (at_byte 2 header) (not_before_outside header j o) invalid (λ other b. least_outside other _ b))

    accepted_streams : ((j : ℕ) → j < stream_count file → IsInside file j) → (code : Code) (at : Place) → StreamFaults file code at → ⊥
    accepted_streams inside _ _ (bounds k lt over) = absurd (omega (arith, over, inside k lt))
    accepted_streams inside _ _ (missing_pdb none) = none (is_listed Pdb pdb)
    accepted_streams inside _ _ (missing_tables none) = none (is_listed Tables tables)

    pub streams_accepted : listing.outside ≡ None → IsAccepted (StreamFaults file)
    streams_accepted none = accepted_streams (missing_where listing.outside _ _ l.outside none)

  -- where no stream passes the end, each that is listed lies in the file
  inside_case : (kind : StreamKind) (o : Option Extent) → MatchOption o ((j : ℕ) → j < stream_count file → name_at file (name_place file j) ≢ name_of kind)
      (λ extent. (j : ℕ) × (j < stream_count file) × HasExtent file kind j extent)
      → ((j : ℕ) → j < stream_count file → IsInside file j) → ForSome o (λ e. e.offset + e.size ≤ length file)
  inside_case kind None m inside = λ e is. absurd cc
  inside_case kind (Some extent) m inside = λ e is.
      let h : extent ≡ e = cc in
      subst (λ x. x.offset + x.size ≤ length file) h (omega (arith, m.2.offset, m.2.size, inside m.0 m.1))

  pub all_inside : listing.outside ≡ None → (kind : StreamKind) → ForSome (listed listing kind) (λ e. e.offset + e.size ≤ length file)
  all_inside none kind = inside_case kind (listed listing kind) (l.streams kind) (missing_where listing.outside _ _ l.outside none)

  -- the stream that a root shows
  stream_case : (kind : StreamKind) (o : Option Extent) (seen : Option Stream) → seen ≡ option_map (slice_of file) o
      → MatchOption o ((j : ℕ) → j < stream_count file → name_at file (name_place file j) ≢ name_of kind)
      (λ extent. (j : ℕ) × (j < stream_count file) × HasExtent file kind j extent)
      → ForSome o (λ e. e.offset + e.size ≤ length file) → MatchOption seen (IsListed file kind → ⊥) (IsStream file kind)
  stream_case kind None seen is m within = rw is (λ found. m found.0 found.1.counted found.1.named)
  stream_case kind (Some extent) seen is m within =
      rw is (record {
        header = m.0;
        listed = record { counted = m.1; named = m.2.named };
        place = m.2.offset;
        bytes = rw (m.2.offset, m.2.size) refl;
        within = omega (arith, m.2.offset, m.2.size, within extent refl);
      })

  shown : (streams : Streams) → streams.pdb ≡ option_map (slice_of file) listing.pdb → streams.tables ≡ option_map (slice_of file) listing.tables
      → streams.strings ≡ option_map (slice_of file) listing.strings
      → streams.user_strings ≡ option_map (slice_of file) listing.user_strings → streams.guids ≡ option_map (slice_of file) listing.guids
      → streams.blobs ≡ option_map (slice_of file) listing.blobs
      → (kind : StreamKind) → stream_of streams kind ≡ option_map (slice_of file) (listed listing kind)
  shown streams p t s u g b Pdb = p
  shown streams p t s u g b Tables = t
  shown streams p t s u g b Strings = s
  shown streams p t s u g b UserStrings = u
  shown streams p t s u g b Guids = g
  shown streams p t s u g b Blobs = b

  pub are_streams : (streams : Streams) → ((kind : StreamKind) → ForSome (listed listing kind) (λ e. e.offset + e.size ≤ length file))
      → streams.pdb ≡ option_map (slice_of file) listing.pdb → streams.tables ≡ option_map (slice_of file) listing.tables
      → streams.strings ≡ option_map (slice_of file) listing.strings
      → streams.user_strings ≡ option_map (slice_of file) listing.user_strings → streams.guids ≡ option_map (slice_of file) listing.guids
      → streams.blobs ≡ option_map (slice_of file) listing.blobs
      → AreStreamsOf file streams
  are_streams streams within p t s u g b kind =
      stream_case kind (listed listing kind) (stream_of streams kind) (shown streams p t s u g b kind) (l.streams kind) (within kind)
