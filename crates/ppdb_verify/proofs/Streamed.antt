-- A file whose root keeps its rules has its streams once.
use Rattle.std.proofs.Common.{◌≡◌, ℕ, zero, suc, ◌+◌, ◌<◌, ◌≤◌, inl, inr, List, length, take, drop, sum, Option, Some, None, refl, sym, ap, ◌∙◌, arith}
use Rattle.std.{specs.Prelude.{MatchOption}, proofs.lemmas.Bool.{cases_lt}}
use Rattle.ppdb_base.specs.{declared.code.Code.TheVariants.{RootTruncated, StreamRepeated}, First.{IsAccepted}, Place.{at_byte}}
use Rattle.ppdb_base.proofs.Fields.{sum_append}
use Rattle.ppdb_verify.proofs.Fitting.{fields_fit}
use Rattle.metadata_root.specs.declared.kind.{StreamKind.{StreamKind}, StreamKind.TheVariants.{Pdb, Tables, Strings, UserStrings, Guids, Blobs}}
use Rattle.metadata_root.specs.Root.{RootFaults, fields_to, header_fields, header_place, name_len, name_place, root_fields, stream_count}
use Rattle.metadata_root.specs.{Root.RootFaults.{truncated, repeated}, Streams.{AreStreamsOf, IsHeaderOf, IsListed, IsStream, Stream, Streams, offset_in, size_in}}

next_header : (file : List ℕ) (k : ℕ) → header_place file (suc k) ≡ header_place file k + 8 + name_len file (header_place file k + 8)
unfolding fields_to
next_header file k = sum_append (fields_to file k) (header_fields file (sum (fields_to file k))) ∙ omega arith

-- a name begins before the later headers
before_later : (file : List ℕ) (j k : ℕ) → j < k → name_place file j ≤ header_place file k
before_later file j zero lt = absurd (omega (arith, lt))
before_later file j (suc k) lt =
    elim (cases_lt j k) [
      | inl before ↦ omega (arith, before_later file j k before, next_header file k)
      | inr at ↦ let e : j ≡ k = omega (arith, at, lt) in rw e (omega (arith, next_header file k))
    ]

module _ (file : List ℕ) (accepted : IsAccepted (RootFaults file)) where
  name_within : (k : ℕ) → k < stream_count file → name_place file k ≤ length file
  name_within k counted =
      let all : header_place file (stream_count file) ≤ length file =
      fields_fit (root_fields file) (length file) (λ at len is from past. accepted RootTruncated (at_byte 1 at) (truncated at len is from past)) in
      omega (arith, before_later file k (stream_count file) counted, all)

  apart : (kind : StreamKind) (j k : ℕ) → IsHeaderOf file kind j → IsHeaderOf file kind k → j < k → ⊥
  apart kind j k a b lt =
      accepted StreamRepeated (at_byte 1 (name_place file k))
      (repeated k (name_place file k) (record { counted = b.counted; place = refl; fields_fit = name_within k b.counted }) j lt (a.named ∙ sym b.named))

  one_header : (kind : StreamKind) (j k : ℕ) → IsHeaderOf file kind j → IsHeaderOf file kind k → j ≡ k
  one_header kind j k a b =
      elim (cases_lt j k) [
        | inl lt ↦ absurd (apart kind j k a b lt)
        | inr ge ↦ elim (cases_lt k j) [
          | inl gt ↦ absurd (apart kind k j b a gt)
          | inr le ↦ omega (arith, ge, le)
        ]
      ]

  one_stream : (kind : StreamKind) (a b : Stream) → IsStream file kind a → IsStream file kind b → a ≡ b
  one_stream kind a b is_a is_b =
      let e : is_a.header ≡ is_b.header = one_header kind is_a.header is_b.header is_a.listed is_b.listed in
      let place : a.place ≡ b.place = is_a.place ∙ (ap (offset_in file) e ∙ sym is_b.place) in
      let bytes : a.bytes ≡ b.bytes = is_a.bytes ∙ (ap (λ k. take (size_in file k) (drop (offset_in file k) file)) e ∙ sym is_b.bytes) in
      ap (λ p. record { place = p; bytes = a.bytes }) place ∙ ap (λ x. record { place = b.place; bytes = x }) bytes

  one_listed : (kind : StreamKind) (a b : Option Stream) → MatchOption a (IsListed file kind → ⊥) (IsStream file kind)
      → MatchOption b (IsListed file kind → ⊥) (IsStream file kind) → a ≡ b
  one_listed kind None None a b = refl
  one_listed kind None (Some y) a b = absurd (a (b.header, b.listed))
  one_listed kind (Some x) None a b = absurd (b (a.header, a.listed))
  one_listed kind (Some x) (Some y) a b = ap Some (one_stream kind x y a b)

  -- two readings of the streams are one
  pub same_streams : (s t : Streams) → AreStreamsOf file s → AreStreamsOf file t → s ≡ t
  same_streams s t a b =
      ap (λ x. record { pdb = x; tables = s.tables; strings = s.strings; user_strings = s.user_strings; guids = s.guids; blobs = s.blobs })
      (one_listed Pdb s.pdb t.pdb (a Pdb) (b Pdb))
      ∙ (ap (λ x. record { pdb = t.pdb; tables = x; strings = s.strings; user_strings = s.user_strings; guids = s.guids; blobs = s.blobs })
      (one_listed Tables s.tables t.tables (a Tables) (b Tables))
      ∙ (ap (λ x. record { pdb = t.pdb; tables = t.tables; strings = x; user_strings = s.user_strings; guids = s.guids; blobs = s.blobs })
      (one_listed Strings s.strings t.strings (a Strings) (b Strings))
      ∙ (ap (λ x. record { pdb = t.pdb; tables = t.tables; strings = t.strings; user_strings = x; guids = s.guids; blobs = s.blobs })
      (one_listed UserStrings s.user_strings t.user_strings (a UserStrings) (b UserStrings))
      ∙ (ap (λ x. record { pdb = t.pdb; tables = t.tables; strings = t.strings; user_strings = t.user_strings; guids = x; blobs = s.blobs })
      (one_listed Guids s.guids t.guids (a Guids) (b Guids))
      ∙ ap (λ x. record { pdb = t.pdb; tables = t.tables; strings = t.strings; user_strings = t.user_strings; guids = t.guids; blobs = x })
      (one_listed Blobs s.blobs t.blobs (a Blobs) (b Blobs))))))
