-- The root and the streams of a file that is laid out break no rule.
use Rattle.std.proofs.Common.{◌≡◌, ℕ, zero, suc, ◌+◌, ◌<◌, ◌≤◌, List, length, take, inl, inr, true≢false, false, refl, sym, ap, subst, ◌∙◌, arith, get_or}
use Rattle.std.{specs.Prelude.{codes, Any, nat_le}, specs.List.{list_any}, proofs.lemmas.Bool.{le-leb}, proofs.lemmas.List.Folds.{list_any-from_Any}}
use Rattle.ppdb_base.{specs.First.{IsAccepted}, proofs.Fields.{ends_within}, proofs.Judging.{accepted_then}}
use Rattle.metadata_root.specs.declared.kind.{StreamKind.{StreamKind}, StreamKind.TheVariants.{Pdb, Tables, Strings, UserStrings, Guids, Blobs}}
use Rattle.metadata_root.specs.Root.{RootFaults, BeginsWith, IsInvalidName, name_at, name_of, name_place, header_place, root_fields, stream_count}
use Rattle.metadata_root.specs.{Root.RootFaults.{not_metadata, windows_pdb, truncated, invalid_name, unknown, repeated}, Streams.{StreamFaults, ContainerFaults}}
use Rattle.metadata_root.specs.{Streams.{IsListed, offset_in, size_in}, Streams.StreamFaults.{bounds, missing_pdb, missing_tables}}
use Rattle.ppdb_build_layout_laws.proofs.Container.{whole, length-whole, five, last, name_0, name_1, name_2, name_3, name_4, offset_0, offset_1, offset_2, offset_3}
use Rattle.ppdb_build_layout_laws.proofs.Container.{offset_4, size_0, size_1, size_2, size_3, size_4}

-- bytes below 128 are none above
low : (xs : List ℕ) → list_any (nat_le 128) xs ≡ false → Any (λ b. 128 ≤ b) xs → ⊥
low xs none (k, x, within, at, high) = true≢false (sym (list_any-from_Any (nat_le 128) xs (k, x, within, at, le-leb 128 x high)) ∙ none)

-- a name of the format breaks no rule of names
invalid_name_of : (kind : StreamKind) → IsInvalidName (name_of kind) → ⊥
invalid_name_of Pdb (inl e) = omega (arith, ap length e)
invalid_name_of Pdb (inr (inl high)) = low (name_of Pdb) refl high
invalid_name_of Pdb (inr (inr long)) = omega (arith, long)
invalid_name_of Tables (inl e) = omega (arith, ap length e)
invalid_name_of Tables (inr (inl high)) = low (name_of Tables) refl high
invalid_name_of Tables (inr (inr long)) = omega (arith, long)
invalid_name_of Strings (inl e) = omega (arith, ap length e)
invalid_name_of Strings (inr (inl high)) = low (name_of Strings) refl high
invalid_name_of Strings (inr (inr long)) = omega (arith, long)
invalid_name_of UserStrings (inl e) = omega (arith, ap length e)
invalid_name_of UserStrings (inr (inl high)) = low (name_of UserStrings) refl high
invalid_name_of UserStrings (inr (inr long)) = omega (arith, long)
invalid_name_of Guids (inl e) = omega (arith, ap length e)
invalid_name_of Guids (inr (inl high)) = low (name_of Guids) refl high
invalid_name_of Guids (inr (inr long)) = omega (arith, long)
invalid_name_of Blobs (inl e) = omega (arith, ap length e)
invalid_name_of Blobs (inr (inl high)) = low (name_of Blobs) refl high
invalid_name_of Blobs (inr (inr long)) = omega (arith, long)

-- the second bytes of the names, by which they differ
abbrev second : ℕ → ℕ
second zero = 80
second (suc zero) = 126
second (suc (suc zero)) = 83
second (suc (suc (suc zero))) = 71
second (suc (suc (suc (suc k)))) = 66

seconds_differ : (j k : ℕ) → j < k → k < 5 → second j ≡ second k → ⊥
seconds_differ zero zero before few same = omega (arith, before)
seconds_differ zero (suc zero) before few same = omega (arith, same)
seconds_differ zero (suc (suc zero)) before few same = omega (arith, same)
seconds_differ zero (suc (suc (suc zero))) before few same = omega (arith, same)
seconds_differ zero (suc (suc (suc (suc k)))) before few same = omega (arith, same)
seconds_differ (suc zero) zero before few same = omega (arith, before)
seconds_differ (suc zero) (suc zero) before few same = omega (arith, before)
seconds_differ (suc zero) (suc (suc zero)) before few same = omega (arith, same)
seconds_differ (suc zero) (suc (suc (suc zero))) before few same = omega (arith, same)
seconds_differ (suc zero) (suc (suc (suc (suc k)))) before few same = omega (arith, same)
seconds_differ (suc (suc zero)) zero before few same = omega (arith, before)
seconds_differ (suc (suc zero)) (suc zero) before few same = omega (arith, before)
seconds_differ (suc (suc zero)) (suc (suc zero)) before few same = omega (arith, before)
seconds_differ (suc (suc zero)) (suc (suc (suc zero))) before few same = omega (arith, same)
seconds_differ (suc (suc zero)) (suc (suc (suc (suc k)))) before few same = omega (arith, same)
seconds_differ (suc (suc (suc zero))) zero before few same = omega (arith, before)
seconds_differ (suc (suc (suc zero))) (suc zero) before few same = omega (arith, before)
seconds_differ (suc (suc (suc zero))) (suc (suc zero)) before few same = omega (arith, before)
seconds_differ (suc (suc (suc zero))) (suc (suc (suc zero))) before few same = omega (arith, before)
seconds_differ (suc (suc (suc zero))) (suc (suc (suc (suc k)))) before few same = omega (arith, same)
seconds_differ (suc (suc (suc (suc j)))) k before few same = omega (arith, before, few)

module _ (pdb tables texts guids blobs : List ℕ) (small : length (whole pdb tables texts guids blobs) ≤ 134217728) where
  abbrev file : List ℕ
  file = whole pdb tables texts guids blobs

  -- each header names a stream of the format
  abbrev kind_of : ℕ → StreamKind
  kind_of zero = Pdb
  kind_of (suc zero) = Tables
  kind_of (suc (suc zero)) = Strings
  kind_of (suc (suc (suc zero))) = Guids
  kind_of (suc (suc (suc (suc k)))) = Blobs

  named : (k : ℕ) → k < 5 → name_at file (name_place file k) ≡ name_of (kind_of k)
  named zero h = name_0 pdb tables texts guids blobs
  named (suc zero) h = name_1 pdb tables texts guids blobs
  named (suc (suc zero)) h = name_2 pdb tables texts guids blobs
  named (suc (suc (suc zero))) h = name_3 pdb tables texts guids blobs
  named (suc (suc (suc (suc zero)))) h = name_4 pdb tables texts guids blobs
  named (suc (suc (suc (suc (suc k))))) h = absurd (omega (arith, h))

  second_is : (k : ℕ) → k < 5 → get_or (name_at file (name_place file k)) 1 0 ≡ second k
  second_is k h = ap (λ name. get_or name 1 0) (named k h) ∙ by k h
    where
      by : (k : ℕ) → k < 5 → get_or (name_of (kind_of k)) 1 0 ≡ second k
      by zero h = refl
      by (suc zero) h = refl
      by (suc (suc zero)) h = refl
      by (suc (suc (suc zero))) h = refl
      by (suc (suc (suc (suc k)))) h = refl

  few : (k : ℕ) → k < stream_count file → k < 5
  few k counted = omega (arith, counted, five pdb tables texts guids blobs)

  begins : BeginsWith (codes "BSJB") file
  unfolding whole
  begins = refl

  first_byte : get_or (take 20 file) 0 0 ≡ 66
  unfolding whole
  first_byte = refl

  end : header_place file (stream_count file) ≡ 112
  end = ap (header_place file) (five pdb tables texts guids blobs) ∙ last pdb tables texts guids blobs

  root_good : IsAccepted (RootFaults file)
  root_good code at (not_metadata not_ms not_pdb) = not_ms begins
  root_good code at (windows_pdb other) = omega (arith, ap (λ text. get_or text 0 0) other, first_byte)
  root_good code at (truncated place len field from past) = omega (
    arith,
    past,
    ends_within (root_fields file) place len field,
    end,
    length-whole pdb tables texts guids blobs,
  )
  root_good code at (invalid_name k place is invalid) =
      invalid_name_of (kind_of k) (subst IsInvalidName (ap (name_at file) is.place ∙ named k (few k is.counted)) invalid)
  root_good code at (unknown k place is other) = other (kind_of k) (ap (name_at file) is.place ∙ named k (few k is.counted))
  root_good code at (repeated k place is j before same) =
      let counted = few k is.counted in
      seconds_differ j k before counted
      (sym (second_is j (omega (arith, before, counted))) ∙ ap (λ name. get_or name 1 0) same ∙ ap (λ p. get_or (name_at file p) 1 0) is.place
      ∙ second_is k counted)

  inside : (k : ℕ) → k < 5 → offset_in file k + size_in file k ≤ length file
  inside zero h = omega (
    arith,
    offset_0 pdb tables texts guids blobs small,
    size_0 pdb tables texts guids blobs small,
    length-whole pdb tables texts guids blobs,
  )
  inside (suc zero) h = omega (
    arith,
    offset_1 pdb tables texts guids blobs small,
    size_1 pdb tables texts guids blobs small,
    length-whole pdb tables texts guids blobs,
  )
  inside (suc (suc zero)) h = omega (
    arith,
    offset_2 pdb tables texts guids blobs small,
    size_2 pdb tables texts guids blobs small,
    length-whole pdb tables texts guids blobs,
  )
  inside (suc (suc (suc zero))) h = omega (
    arith,
    offset_3 pdb tables texts guids blobs small,
    size_3 pdb tables texts guids blobs small,
    length-whole pdb tables texts guids blobs,
  )
  inside (suc (suc (suc (suc zero)))) h = omega (
    arith,
    offset_4 pdb tables texts guids blobs small,
    size_4 pdb tables texts guids blobs small,
    length-whole pdb tables texts guids blobs,
  )
  inside (suc (suc (suc (suc (suc k))))) h = absurd (omega (arith, h))

  streams_good : IsAccepted (StreamFaults file)
  streams_good code at (bounds k counted past) = omega (arith, past, inside k (few k counted))
  streams_good code at (missing_pdb none) = none (
    0,
    record {
      counted = omega (
        arith,
        five pdb tables texts guids blobs,
      );
      named = name_0 pdb tables texts guids blobs;
    },
  )
  streams_good code at (missing_tables none) = none (
    1,
    record {
      counted = omega (
        arith,
        five pdb tables texts guids blobs,
      );
      named = name_1 pdb tables texts guids blobs;
    },
  )

  pub container_good : IsAccepted (ContainerFaults file)
  container_good = accepted_then (RootFaults file) (StreamFaults file) root_good streams_good

  pub unlisted : IsListed file UserStrings → ⊥
  unlisted (k, header) =
      let counted = few k header.counted in
      not_us k counted (sym (second_is k counted) ∙ ap (λ name. get_or name 1 0) header.named)
    where
      not_us : (k : ℕ) → k < 5 → second k ≡ 85 → ⊥
      not_us zero h e = omega (arith, e)
      not_us (suc zero) h e = omega (arith, e)
      not_us (suc (suc zero)) h e = omega (arith, e)
      not_us (suc (suc (suc zero))) h e = omega (arith, e)
      not_us (suc (suc (suc (suc k)))) h e = omega (arith, e)
