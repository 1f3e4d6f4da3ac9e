-- The header of a sequence points blob.
use Rattle.std.proofs.Common.{◌≡◌, ℕ, zero, suc, ◌+◌, ◌<◌, ◌≤◌, true, false, List, [], ◌∷◌, drop, Some, None, Ok, Err, refl, sym, ap, subst, ◌∙◌, arith, zero-add}
use Rattle.std.specs.Prelude.{nat_le}
use Rattle.blob_grammar.specs.{Reader.{unsigned_at, Left, push, placed, is_empty}, Grammar.{number, unsigned}, Reading.{Reading}}
use Rattle.blob_grammar.proofs.{Placed.{unsigned_there, unsigned_not_there}, Readers.{read_from-reads}, Steps.{nothing_left, left_at, left-field, left-out}}
use Rattle.blob_grammar.{proofs.Steps.{left-none, read_from-alike}, specs.Allowed.{is_row, is_number}}
use Rattle.ppdb_base.specs.declared.{Code.TheVariants.{ValueRange}, BlobFault.{BlobFault}}
use Rattle.sequence_points.specs.{declared.point.PointLimits.{PointLimits}, declared.point.Point.{Point}, declared.place.Place.{Place}, Records.{Entry, header}}
use Rattle.sequence_points.specs.{Records.{sequence_points}, Points.{PointsReading}, Places.{entries_of, last_entries, as_points, points_at, points_left}}
use Rattle.sequence_points.{specs.Places.{after_signature}, proofs.Sums.{SameSums, alike}, proofs.Places.{and-false, points-alike}}

-- where the Document column is not 0
pub given_document : (column : ℕ) (limits : PointLimits) (blob : List ℕ) (at signature : ℕ) → (column ≡ 0 → ⊥)
    → after_signature column limits blob at signature ≡ push (header signature column)
    (left_at (sequence_points column limits) (header signature column ∷ []) [] blob at)
given_document zero limits blob at signature h = absurd (h refl)
given_document (suc column) limits blob at signature h = refl

pub row_none : (column : ℕ) (limits : PointLimits) (blob : List ℕ) (at signature : ℕ) (fault : BlobFault) → column ≡ 0
    → placed at (unsigned_at (drop at blob)) ≡ Err fault
    → after_signature column limits blob at signature ≡ nothing_left (Some fault)
row_none zero limits blob at signature fault z e =
    let n = unsigned_not_there at (drop at blob) fault e in
    left-none (sequence_points 0 limits) [] (number signature ∷ []) blob at unsigned n.code refl n.none (and-false (is_empty (drop at blob)))
    ∙ ap (λ f. nothing_left (Some f)) (sym n.fault_is)
row_none (suc column) limits blob at signature fault z e = absurd (omega arith)

pub row_out : (column : ℕ) (limits : PointLimits) (blob : List ℕ) (at signature row len : ℕ) → column ≡ 0
    → placed at (unsigned_at (drop at blob)) ≡ Ok (row, len) → is_number (is_row limits.documents) (number row) ≡ false
    → after_signature column limits blob at signature ≡ nothing_left (Some (record { code = ValueRange; byte = at }))
row_out zero limits blob at signature row len z e out =
    left-out (sequence_points 0 limits) [] (number signature ∷ []) blob at unsigned (number row) len refl (unsigned_there at (drop at blob) row len e) out
row_out (suc column) limits blob at signature row len z e out = absurd (omega arith)

pub row_in : (column : ℕ) (limits : PointLimits) (blob : List ℕ) (at signature row len : ℕ) → column ≡ 0
    → placed at (unsigned_at (drop at blob)) ≡ Ok (row, len) → is_number (is_row limits.documents) (number row) ≡ true
    → after_signature column limits blob at signature ≡ push (header signature row)
    (left_at (sequence_points column limits) (header signature row ∷ []) [] blob (at + len))
row_in zero limits blob at signature row len z e inside =
    left-field (sequence_points 0 limits) [] (number signature ∷ []) blob at unsigned (number row) len refl (unsigned_there at (drop at blob) row len e) inside
row_in (suc column) limits blob at signature row len z e inside = absurd (omega arith)

-- ---- the whole blob

abbrev start : ℕ → PointLimits → List ℕ → Left Entry
start column limits blob = left_at (sequence_points column limits) [] [] blob 0

read_start : (column : ℕ) (limits : PointLimits) (blob : List ℕ) (left : Left Entry) → start column limits blob ≡ left
    → Reading (sequence_points column limits) blob left.items left.fault
read_start column limits blob left e =
    subst (λ (l : Left Entry). Reading (sequence_points column limits) blob l.items l.fault) e (read_from-reads (sequence_points column limits) blob)

pub no_signature : (column : ℕ) (limits : PointLimits) (blob : List ℕ) (fault : BlobFault) → placed 0 (unsigned_at (drop 0 blob)) ≡ Err fault
    → Reading (sequence_points column limits) blob [] (Some fault)
no_signature column limits blob fault e =
    let n = unsigned_not_there 0 (drop 0 blob) fault e in
    read_start column limits blob (nothing_left (Some fault))
    (left-none (sequence_points column limits) [] [] blob 0 unsigned n.code refl n.none (and-false (is_empty (drop 0 blob)))
    ∙ ap (λ f. nothing_left (Some f)) (sym n.fault_is))

gt-false : (a b : ℕ) → b < a → nat_le a b ≡ false
gt-false a b h = grind arith

le-true : (a b : ℕ) → a ≤ b → nat_le a b ≡ true
le-true a b h = grind arith

pub signature_out : (column : ℕ) (limits : PointLimits) (blob : List ℕ) (signature len : ℕ) → placed 0 (unsigned_at (drop 0 blob)) ≡ Ok (signature, len)
    → limits.signatures < signature
    → Reading (sequence_points column limits) blob [] (Some (record { code = ValueRange; byte = 0 }))
signature_out column limits blob signature len e out =
    read_start column limits blob (nothing_left (Some (record { code = ValueRange; byte = 0 })))
    (left-out (sequence_points column limits) [] [] blob 0 unsigned (number signature) len refl (unsigned_there 0 (drop 0 blob) signature len e)
    (gt-false signature limits.signatures out))

signature_in : (column : ℕ) (limits : PointLimits) (blob : List ℕ) (signature len : ℕ) → placed 0 (unsigned_at (drop 0 blob)) ≡ Ok (signature, len)
    → signature ≤ limits.signatures
    → start column limits blob ≡ after_signature column limits blob len signature
signature_in column limits blob signature len e h =
    left-field (sequence_points column limits) [] [] blob 0 unsigned (number signature) len refl (unsigned_there 0 (drop 0 blob) signature len e)
    (le-true signature limits.signatures h)
    ∙ ap (λ n. after_signature column limits blob n signature) (zero-add len)

pub no_header : (column : ℕ) (limits : PointLimits) (blob : List ℕ) (signature len : ℕ) (fault : BlobFault)
    → placed 0 (unsigned_at (drop 0 blob)) ≡ Ok (signature, len) → signature ≤ limits.signatures
    → after_signature column limits blob len signature ≡ nothing_left (Some fault) → Reading (sequence_points column limits) blob [] (Some fault)
no_header column limits blob signature len fault e h n =
    read_start column limits blob (nothing_left (Some fault)) (signature_in column limits blob signature len e h ∙ n)

same_header : (signature row : ℕ) → SameSums (header signature row ∷ []) (header 0 row ∷ [])
same_header signature row = record { started = tt; starts = tt; sums_are = refl; document_is = refl }

entries_at : (place : Place) → place.last ≡ None → entries_of place ≡ header 0 place.document ∷ []
entries_at place e = ap (λ l. header 0 place.document ∷ last_entries l) e

-- after a header the points are left that the blob holds
pub header_read : (column : ℕ) (limits : PointLimits) (blob : List ℕ) (signature len : ℕ) (place : Place)
    → placed 0 (unsigned_at (drop 0 blob)) ≡ Ok (signature, len) → signature ≤ limits.signatures
    → after_signature column limits blob len signature ≡ push (header signature place.document)
    (left_at (sequence_points column limits) (header signature place.document ∷ []) [] blob place.at)
    → place.last ≡ None → PointsReading column limits blob signature (points_left limits blob place).items (points_left limits blob place).fault
unfolding points_at
header_read column limits blob signature len place e h made last =
    let row = place.document in
    let one = header signature row ∷ [] in
    let left = left_at (sequence_points 0 limits) (header 0 row ∷ []) [] blob place.at in
    let same : left_at (sequence_points column limits) one [] blob place.at ≡ left =
    read_from-alike (sequence_points column limits) (sequence_points 0 limits) SameSums (alike column 0 limits) one (header 0 row ∷ []) [] place.at
    (drop place.at blob) (same_header signature row) in
    let all : start column limits blob ≡ push (header signature row) left =
    signature_in column limits blob signature len e h ∙ made ∙ ap (push (header signature row)) same in
    let here : points_left limits blob place ≡ as_points (header 0 row ∷ []) left =
    ap (λ es. as_points es (left_at (sequence_points 0 limits) es [] blob place.at)) (entries_at place last) in
    record {
      entries = header signature row ∷ left.items;
      reading = subst (λ (l : Left Point). Reading (sequence_points column limits) blob (header signature row ∷ left.items) l.fault) (sym here)
          (read_start column limits blob (push (header signature row) left) all);
      signature_is = refl;
      points_are = ap (λ (l : Left Point). l.items) here ∙ points-alike (header 0 row ∷ []) one left.items (same_back signature row);
    }
  where
    same_back : (signature row : ℕ) → SameSums (header 0 row ∷ []) (header signature row ∷ [])
    same_back signature row = record { started = tt; starts = tt; sums_are = refl; document_is = refl }
