-- The first fault of the root, from what its readers saw.
use Rattle.std.proofs.Common.{◌≡◌, ◌≢◌, ℕ, suc, ◌+◌, ◌<◌, ◌≤◌, ◌⊎◌, inl, inr, true, List, [], ◌∷◌, ◌++◌, length, take, sum, Option, Some, None, refl, sym, ap, subst}
use Rattle.std.{proofs.Common.{◌∙◌, append_assoc, arith, lit≤}, specs.Prelude.{codes, MatchOption}, specs.Option.{is_some}, proofs.lemmas.Bool.{cases_lt, lt-ltb}}
use Rattle.std.proofs.lemmas.Bool.{le-ltb}
use Rattle.ppdb_base.specs.declared.{code.Code.{Code}, code.Code.TheVariants.{RootTruncated, StreamName, StreamUnknown, StreamRepeated}, fault.Place.{Place}}
use Rattle.ppdb_base.specs.{declared.fault.Fault.{Fault}, Place.{ComesBefore, numbers, number_of, at_byte}, First.{IsAccepted, IsJudgedTo, IsFirst}}
use Rattle.ppdb_base.{proofs.Judging.{first_at, byte_before}, specs.Fields.{IsField}, proofs.Fields.{ends_by_cut, ends_within, sum_append}}
use Rattle.metadata_root.specs.{declared.kind.StreamKind.{StreamKind}, declared.header.Listing.{Listing}, declared.header.Extent.{Extent}, Root.{IsInvalidName}}
use Rattle.metadata_root.specs.Root.{RootFaults, not_metadata, windows_pdb, truncated, invalid_name, unknown, repeated, BeginsWith, IsName, fields_to, root_fields}
use Rattle.metadata_root.specs.{Root.{header_fields, header_place, name_place, name_at, name_len, name_of, stream_count}, Reading.{IsGoodName, IsHeaderFault, cut}}
use Rattle.metadata_root.specs.Reading.{name, CutsHeader, BreaksNameRule, listed, IsListing, HasExtent, IsFirstOutside, IsInside, ReadsHeader, outside_after}
use Rattle.metadata_root.{specs.Streams.{offset_in, size_in}, proofs.Listings.{same_kind, cases_kind}, proofs.Order.{fields_split, earlier_header, name_len_pos}}

-- the names of the first k headers break no rule
pub record AreGoodTo (file : List ℕ) (k : ℕ) : Type 0 where
  pub good : (j : ℕ) → j < k → IsGoodName (name_at file (name_place file j))
  pub known : (j : ℕ) → j < k → (kind : StreamKind) × (name_at file (name_place file j) ≡ name_of kind)
  pub apart : (i j : ℕ) → i < j → j < k → name_at file (name_place file i) ≢ name_at file (name_place file j)

-- what a match says where the option is something, and where it is nothing
pub found_where : {X : Type 0} (o : Option X) (P : Type 0) (Q : X → Type 0) → MatchOption o P Q → is_some o ≡ true → (x : X) × Q x
found_where None P Q m e = absurd cc
found_where (Some x) P Q m e = (x, m)

pub found_at : {X : Type 0} (o : Option X) (P : Type 0) (Q : X → Type 0) → MatchOption o P Q → (x : X) → o ≡ Some x → Q x
found_at None P Q m x e = absurd cc
found_at (Some y) P Q m x e = let h : y ≡ x = cc in subst Q h m

pub missing_where : {X : Type 0} (o : Option X) (P : Type 0) (Q : X → Type 0) → MatchOption o P Q → o ≡ None → P
missing_where None P Q m e = m
missing_where (Some x) P Q m e = absurd cc

first_byte : (b c : ℕ) (bs cs file : List ℕ) (m n : ℕ) → b ∷ bs ≡ take (suc m) file → c ∷ cs ≡ take (suc n) file → b ≡ c
first_byte b c bs cs [] m n e f = absurd cc
first_byte b c bs cs (x ∷ xs) m n e f = cc

-- a file of metadata is no Windows PDB
pub no_windows_pdb : (file : List ℕ) → BeginsWith (codes "BSJB") file → BeginsWith (codes "Microsoft C/C++ MSF ") file → ⊥
no_windows_pdb file b m = absurd (omega (arith, first_byte _ _ _ _ file 3 19 b m))

module _ (file : List ℕ) (signed : BeginsWith (codes "BSJB") file) where
  -- no fault begins before a cut of the fields that lies in the file, where the names before it are good
  judged_case : (k b : ℕ) (before after : List ℕ) → root_fields file ≡ before ++ after → b ≡ sum before → b ≤ length file → AreGoodTo file k
      → ((j : ℕ) → name_place file j < b → j < k)
      → (code : Code) (at : Place) → RootFaults file code at → ComesBefore (numbers code at) (1 ∷ 0 ∷ 0 ∷ 0 ∷ b ∷ []) → ⊥
  judged_case k b before after split is le names earlier _ _ (not_metadata none _) past = none signed
  judged_case k b before after split is le names earlier _ _ (windows_pdb m) past = no_windows_pdb file signed m
  judged_case k b before after split is le names earlier _ _ (truncated at len f within over) past =
      let lt = byte_before 1 RootTruncated at b past in
      absurd (omega (arith, is, lt, le, over, ends_by_cut (root_fields file) before after at len f split (omega (arith, is, lt))))
  judged_case k b before after split is le names earlier _ _ (invalid_name j at n invalid) past =
      let lt = byte_before 1 StreamName at b past in
      let e = n.place in
      (names.good j (earlier j (omega (arith, e, lt)))).good (rw (← e) invalid)
  judged_case k b before after split is le names earlier _ _ (unknown j at n none) past =
      let lt = byte_before 1 StreamUnknown at b past in
      let e = n.place in
      let known = names.known j (earlier j (omega (arith, e, lt))) in
      none known.0 (ap (name_at file) e ∙ known.1)
  judged_case k b before after split is le names earlier _ _ (repeated j at n i before_j same) past =
      let lt = byte_before 1 StreamRepeated at b past in
      let e = n.place in
      names.apart i j before_j (earlier j (omega (arith, e, lt))) (same ∙ ap (name_at file) e)

  pub judged : (k b : ℕ) (before after : List ℕ) → root_fields file ≡ before ++ after → b ≡ sum before → b ≤ length file → AreGoodTo file k
      → ((j : ℕ) → name_place file j < b → j < k)
      → IsJudgedTo (RootFaults file) (1 ∷ 0 ∷ 0 ∷ 0 ∷ b ∷ [])
  judged k b before after split is le names earlier = judged_case k b before after split is le names earlier

  -- no code below RootTruncated is a fault
  least_cut : (code : Code) (at : Place) → RootFaults file code at → 3 ≤ number_of code
  least_cut _ _ (not_metadata none _) = absurd (none signed)
  least_cut _ _ (windows_pdb m) = absurd (no_windows_pdb file signed m)
  least_cut _ _ (truncated at len f within over) = lit≤ tt
  least_cut _ _ (invalid_name j at n invalid) = lit≤ tt
  least_cut _ _ (unknown j at n none) = lit≤ tt
  least_cut _ _ (repeated j at n i before_j same) = lit≤ tt

  -- a field of the root that passes the end is the first fault
  pub cut_is_first : (k at len : ℕ) (before after : List ℕ) → root_fields file ≡ before ++ len ∷ after → at ≡ sum before → at ≤ length file
      → length file < at + len → AreGoodTo file k → ((j : ℕ) → name_place file j < at → j < k)
      → IsFirst (RootFaults file) (record { code = RootTruncated; place = at_byte 1 at })
  cut_is_first k at len before after split is le over names earlier =
      first_at (RootFaults file) RootTruncated (at_byte 1 at)
      (judged k at before (len ∷ after) split is le names earlier)
      (truncated at len (record { before = before; after = after; in_order = split; place = is }) le over)
      (λ other invalid. least_cut other (at_byte 1 at) invalid)

  -- the fields of the root, cut at header k
  pub split_at_header : (k : ℕ) → k < stream_count file
      → (rest : List ℕ) × (root_fields file ≡ fields_to file k ++ (4 ∷ 4 ∷ name_len file (header_place file k + 8) ∷ rest))
  unfolding fields_to
  split_at_header k lt =
      let r = fields_split file (suc k) (stream_count file) (omega arith) in
      (r.0, r.1 ∙ append_assoc (fields_to file k) (header_fields file (sum (fields_to file k))) r.0)

  -- the same, cut after n more bytes of the header
  cut_after : (k n : ℕ) (prefix back : List ℕ) (rest : List ℕ) → root_fields file ≡ fields_to file k ++ (prefix ++ back)
      → (root_fields file ≡ (fields_to file k ++ prefix) ++ back) × (sum (fields_to file k ++ prefix) ≡ header_place file k + sum prefix)
  cut_after k n prefix back rest e = (e ∙ sym (append_assoc (fields_to file k) prefix back), sum_append (fields_to file k) prefix)

  header_cut : (k byte : ℕ) → k < stream_count file → AreGoodTo file k → byte ≤ length file → CutsHeader file (header_place file k) byte
      → IsFirst (RootFaults file) (record { code = RootTruncated; place = at_byte 1 byte })
  header_cut k byte lt names le (inl at) =
      let s = split_at_header k lt in
      cut_is_first k byte 4 (fields_to file k) (4 ∷ name_len file (header_place file k + 8) ∷ s.0) s.1 at.0 le (omega (arith, at.0, at.1)) names
      (λ j before. earlier_header file j k byte before (omega (arith, at.0)))
  header_cut k byte lt names le (inr (inl at)) =
      let s = split_at_header k lt in
      let c = cut_after k 4 (4 ∷ []) (4 ∷ name_len file (header_place file k + 8) ∷ s.0) s.0 s.1 in
      cut_is_first k byte 4 (fields_to file k ++ (4 ∷ [])) (name_len file (header_place file k + 8) ∷ s.0) c.0 (omega (arith, at.0, c.1)) le
      (omega (arith, at.0, at.1)) names
      (λ j before. earlier_header file j k byte before (omega (arith, at.0)))
  header_cut k byte lt names le (inr (inr at)) =
      let s = split_at_header k lt in
      let c = cut_after k 8 (4 ∷ 4 ∷ []) (name_len file (header_place file k + 8) ∷ s.0) s.0 s.1 in
      cut_is_first k byte (name_len file (header_place file k + 8)) (fields_to file k ++ (4 ∷ 4 ∷ [])) s.0 c.0 (omega (arith, at.0, c.1)) le
      (omega (arith, at.0, at.1)) names
      (λ j before. earlier_header file j k byte before (omega (arith, at.0)))

  same_byte : (a b : ℕ) → at_byte 1 a ≡ at_byte 1 b → a ≡ b
  same_byte a b e = ap (λ p. p.byte) e

  module _ (k : ℕ) (lt : k < stream_count file) (fits : name_place file k + name_len file (name_place file k) ≤ length file) where
    not_cut : (len : ℕ) → IsField (root_fields file) (name_place file k) len → length file < name_place file k + len → ⊥
    not_cut len f over =
        let s = split_at_header k lt in
        let prefix = 4 ∷ 4 ∷ name_len file (header_place file k + 8) ∷ [] in
        let c = cut_after k 8 (4 ∷ 4 ∷ name_len file (header_place file k + 8) ∷ []) s.0 s.0 s.1 in
        let pos = name_len_pos file (header_place file k + 8) in
        let ends = ends_by_cut (root_fields file) (fields_to file k ++ (4 ∷ 4 ∷ name_len file (header_place file k + 8) ∷ [])) s.0 (name_place file k) len f c.0
        (omega (arith, c.1, pos)) in
        absurd (omega (arith, ends, c.1, over, fits))

    -- the rule that a code breaks at the name of header k
    Breaks : Code → Type 0
    Breaks code =
        ((code ≡ StreamName) × IsInvalidName (name_at file (name_place file k)))
        ⊎ (((code ≡ StreamUnknown) × ((kind : StreamKind) → name_at file (name_place file k) ≢ name_of kind)) ⊎ (code ≡ StreamRepeated))

    -- what is at fault at the name, whose field fits, is one of the three rules of names
    at_name : (code : Code) (at : Place) → RootFaults file code at → at ≡ at_byte 1 (name_place file k) → Breaks code
    unfolding Breaks
    at_name _ _ (not_metadata none _) e = absurd (none signed)
    at_name _ _ (windows_pdb m) e = absurd (no_windows_pdb file signed m)
    at_name _ _ (truncated at len f within over) e =
        let same = same_byte at (name_place file k) e in
        absurd (not_cut len (subst (λ p. IsField (root_fields file) p len) same f) (omega (arith, same, over)))
    at_name _ _ (invalid_name j at n invalid) e = inl (refl, subst (λ p. IsInvalidName (name_at file p)) (same_byte at (name_place file k) e) invalid)
    at_name _ _ (unknown j at n none) e = inr (inl (refl, λ kind is. none kind (ap (name_at file) (same_byte at (name_place file k) e) ∙ is)))
    at_name _ _ (repeated j at n i before_j same) e = inr (inr refl)

    least_invalid : (code : Code) → Breaks code → 4 ≤ number_of code
    unfolding Breaks
    least_invalid code (inl invalid) = rw invalid.0 (lit≤ tt)
    least_invalid code (inr (inl new)) = rw new.0 (lit≤ tt)
    least_invalid code (inr (inr again)) = rw again (lit≤ tt)

    least_unknown : IsGoodName (name_at file (name_place file k)) → (code : Code) → Breaks code → 5 ≤ number_of code
    unfolding Breaks
    least_unknown good code (inl invalid) = absurd (good.good invalid.1)
    least_unknown good code (inr (inl new)) = rw new.0 (lit≤ tt)
    least_unknown good code (inr (inr again)) = rw again (lit≤ tt)

    least_repeated : (kind : StreamKind) → name_at file (name_place file k) ≡ name_of kind → IsGoodName (name_at file (name_place file k)) → (code : Code)
        → Breaks code → 6 ≤ number_of code
    unfolding Breaks
    least_repeated kind is good code (inl invalid) = absurd (good.good invalid.1)
    least_repeated kind is good code (inr (inl new)) = absurd (new.1 kind is)
    least_repeated kind is good code (inr (inr again)) = rw again (lit≤ tt)

    -- the place of the name is judged to
    judged_name : AreGoodTo file k → IsJudgedTo (RootFaults file) (1 ∷ 0 ∷ 0 ∷ 0 ∷ name_place file k ∷ [])
    judged_name names =
        let s = split_at_header k lt in
        let c = cut_after k 8 (4 ∷ 4 ∷ []) (name_len file (header_place file k + 8) ∷ s.0) s.0 s.1 in
        judged k (name_place file k) (fields_to file k ++ (4 ∷ 4 ∷ [])) (name_len file (header_place file k + 8) ∷ s.0) c.0 (omega (arith, c.1))
        (omega (arith, fits)) names
        (λ j before. earlier_header file j k (name_place file k) before (omega arith))

    is_name : IsName file k (name_place file k)
    is_name = record { counted = lt; place = refl; fields_fit = omega (arith, fits) }

    -- the rule that the name of header k breaks is the first fault
    pub name_is_first : AreGoodTo file k → (listing : Listing) → IsListing file k listing → (code : Code)
        → BreaksNameRule (name_at file (name_place file k)) listing code
        → IsFirst (RootFaults file) (record { code = code; place = at_byte 1 (name_place file k) })
    name_is_first names listing l code (inl invalid) =
        subst (λ c. IsFirst (RootFaults file) (record { code = c; place = at_byte 1 (name_place file k) })) (sym invalid.0)
        (first_at (RootFaults file) StreamName (at_byte 1 (name_place file k)) (judged_name names) (invalid_name k (name_place file k) is_name invalid.1)
        (λ other b. least_invalid other (at_name other _ b refl)))
    name_is_first names listing l code (inr (inl new)) =
        subst (λ c. IsFirst (RootFaults file) (record { code = c; place = at_byte 1 (name_place file k) })) (sym new.0)
        (first_at (RootFaults file) StreamUnknown (at_byte 1 (name_place file k)) (judged_name names) (unknown k (name_place file k) is_name new.2)
        (λ other b. least_unknown new.1 other (at_name other _ b refl)))
    name_is_first names listing l code (inr (inr again)) =
        let kind = again.2.0 in
        let seen = found_where (listed listing kind) _ _ (l.streams kind) again.2.2 in
        let j = seen.1.0 in
        let named = seen.1.2.named in
        subst (λ c. IsFirst (RootFaults file) (record { code = c; place = at_byte 1 (name_place file k) })) (sym again.0)
        (first_at (RootFaults file) StreamRepeated (at_byte 1 (name_place file k)) (judged_name names)
        (repeated k (name_place file k) is_name j seen.1.1 (named ∙ sym again.2.1))
        (λ other b. least_repeated kind again.2.1 again.1 other (at_name other _ b refl)))

  -- the fault of header k, after good ones, is the first of the root
  pub header_is_first : (k : ℕ) → k < stream_count file → AreGoodTo file k → (listing : Listing) → IsListing file k listing → (fault : Fault)
      → IsHeaderFault file (header_place file k) listing fault → IsFirst (RootFaults file) fault
  header_is_first k lt names listing l _ (cut byte le cuts) = header_cut k byte lt names le cuts
  header_is_first k lt names listing l _ (name code fits breaks) = name_is_first k lt fits names listing l code breaks

  -- all headers are good, and end within the file: nothing of the root is at fault
  accepted_case : header_place file (stream_count file) ≤ length file → AreGoodTo file (stream_count file) → (code : Code) (at : Place) → RootFaults file code at
      → ⊥
  accepted_case le names _ _ (not_metadata none _) = none signed
  accepted_case le names _ _ (windows_pdb m) = no_windows_pdb file signed m
  accepted_case le names _ _ (truncated at len f within over) = absurd (omega (arith, le, over, ends_within (root_fields file) at len f))
  accepted_case le names _ _ (invalid_name j at n invalid) = (names.good j n.counted).good (subst (λ p. IsInvalidName (name_at file p)) n.place invalid)
  accepted_case le names _ _ (unknown j at n none) =
      let known = names.known j n.counted in
      none known.0 (ap (name_at file) n.place ∙ known.1)
  accepted_case le names _ _ (repeated j at n i before_j same) = names.apart i j before_j n.counted (same ∙ ap (name_at file) n.place)

  pub root_accepted : header_place file (stream_count file) ≤ length file → AreGoodTo file (stream_count file) → IsAccepted (RootFaults file)
  root_accepted le names = accepted_case le names

-- ---- one header more

module _ (file : List ℕ) (k : ℕ) (old new : Listing) (l : IsListing file k old) (read : ReadsHeader file (header_place file k) old new) where
  -- the stream of header k has not been listed
  fresh_name : (j : ℕ) → j < k → name_at file (name_place file j) ≢ name_of read.kind
  fresh_name = missing_where (listed old read.kind) _ _ (l.streams read.kind) read.fresh

  pub good_step : AreGoodTo file k → AreGoodTo file (suc k)
  good_step names = record {
    good = λ j lt. elim (cases_lt j k) [
      | inl before ↦ names.good j before
      | inr ge ↦ let e : k ≡ j = omega (arith, lt, ge) in subst (λ i. IsGoodName (name_at file (name_place file i))) e read.good
    ];
    known = λ j lt. elim (cases_lt j k) [
      | inl before ↦ names.known j before
      | inr ge ↦ let e : k ≡ j =
          omega (arith, lt, ge) in subst (λ i. (kind : StreamKind) × (name_at file (name_place file i) ≡ name_of kind)) e (read.kind, read.named)
    ];
    apart = λ i j before lt same. elim (cases_lt j k) [
      | inl earlier ↦ names.apart i j before earlier same
      | inr ge ↦ let e : j ≡ k =
          omega (arith, lt, ge) in fresh_name i (omega (arith, before, e)) (same ∙ ap (λ n. name_at file (name_place file n)) e ∙ read.named)
    ];
  }

  own_stream : MatchOption (listed new read.kind) ((j : ℕ) → j < suc k → name_at file (name_place file j) ≢ name_of read.kind)
      (λ extent. (j : ℕ) × (j < suc k) × HasExtent file read.kind j extent)
  own_stream = rw read.extent (k, omega arith, record { named = read.named; offset = refl; size = refl })

  -- the new listing, at a stream that is not that of header k
  other_stream : (kind : StreamKind) → kind ≢ read.kind → (o : Option Extent)
      → MatchOption o ((j : ℕ) → j < k → name_at file (name_place file j) ≢ name_of kind) (λ extent. (j : ℕ) × (j < k) × HasExtent file kind j extent)
      → MatchOption o ((j : ℕ) → j < suc k → name_at file (name_place file j) ≢ name_of kind) (λ extent. (j : ℕ) × (j < suc k) × HasExtent file kind j extent)
  other_stream kind other None missing = λ j lt named.
      elim (cases_lt j k) [
        | inl before ↦ missing j before named
        | inr ge ↦
            let e : j ≡ k = omega (arith, lt, ge) in
            other (same_kind kind read.kind (sym named ∙ ap (λ i. name_at file (name_place file i)) e ∙ read.named))
      ]
  other_stream kind other (Some extent) m = (m.0, omega (arith, m.1), m.2)

  outside_step : (o : Option ℕ)
      → MatchOption o ((j : ℕ) → j < k → IsInside file j) (λ header. (j : ℕ) × (j < k) × IsFirstOutside file header j)
      → MatchOption (outside_after (length file) o (header_place file k) (offset_in file k + size_in file k)) ((j : ℕ) → j < suc k → IsInside file j)
      (λ header. (j : ℕ) × (j < suc k) × IsFirstOutside file header j)
  outside_step (Some header) m = (m.0, omega (arith, m.1), m.2)
  outside_step None inside =
      elim (cases_lt (length file) (offset_in file k + size_in file k)) [
        | inl past ↦ rw (lt-ltb _ _ past) (k, omega arith, record { place = refl; outside = past; inside = inside })
        | inr within ↦ rw (le-ltb _ _ within) (λ j lt. elim (cases_lt j k) [
          | inl before ↦ inside j before
          | inr ge ↦ let e : k ≡ j = omega (arith, lt, ge) in subst (IsInside file) e within
        ])
      ]

  pub listing_step : IsListing file (suc k) new
  listing_step = record {
    streams = λ kind. elim (cases_kind kind read.kind) [
      | inl e ↦ subst (λ own. MatchOption (listed new own) ((j : ℕ) → j < suc k → name_at file (name_place file j) ≢ name_of own)
          (λ extent. (j : ℕ) × (j < suc k) × HasExtent file own j extent)) (sym e) own_stream
      | inr other ↦ rw (read.others kind other) (other_stream kind other (listed old kind) (l.streams kind))
    ];
    outside = rw read.outside (outside_step old.outside l.outside);
  }
