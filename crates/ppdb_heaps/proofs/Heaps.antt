-- A blob of the heap: what the look-up finds, and the bytes after a spelling of their number.
use Rattle.std.proofs.Common.{◌≡◌, ℕ, zero, suc, ◌+◌, ◌-◌, ◌<◌, ◌≤◌, Bool, true, false, leb, List, [], ◌∷◌, ◌++◌, length, take, drop, Some, None, Result, Ok, Err}
use Rattle.std.{proofs.Common.{refl, sym, ap, subst, ◌∙◌, arith, length-append, if◌then◌else◌}, specs.Prelude.{◌↔◌}, proofs.Math.Seq.{take-append_seam}}
use Rattle.std.proofs.lemmas.{List.{take-append-drop, length-take-le, length-drop, drop_all}, Bool.{le-leb, lt-leb, leb-true}}
use Rattle.cli_ints.specs.{declared.IntFault.{IntFault}, Compressed.{SpellsUnsigned, StandsAt}}
use Rattle.blob_grammar.{specs.Reader.{unsigned_at}, proofs.Fields.{IntFound, unsigned-is, unsigned-all}, proofs.Stored.{unsigned-stands}}
use Rattle.ppdb_heaps.specs.Heaps.{counted, blob_at, BeginsWithBlob}

pub counted-short : (bytes : List ℕ) (len width : ℕ) → StandsAt SpellsUnsigned bytes 0 len width → length bytes < width + len
    → counted bytes (unsigned_at bytes) ≡ None
counted-short bytes len width h less = rw (unsigned-stands bytes 0 len width h, lt-leb (width + len) (length bytes) less) refl

pub counted-there : (bytes : List ℕ) (len width : ℕ) → StandsAt SpellsUnsigned bytes 0 len width → width + len ≤ length bytes
    → counted bytes (unsigned_at bytes) ≡ Some (take (width + len - width) (drop width bytes))
counted-there bytes len width h within =
    let n : width + len - width ≡ len = omega arith in
    rw (unsigned-stands bytes 0 len width h, le-leb (width + len) (length bytes) within, n) refl

pub counted-none : (bytes : List ℕ) (fault : IntFault) → unsigned_at bytes ≡ Err fault → counted bytes (unsigned_at bytes) ≡ None
counted-none bytes fault e = rw e refl

pub counted-past : (blobs : List ℕ) (at : ℕ) → length blobs ≤ at → counted (drop at blobs) (unsigned_at (drop at blobs)) ≡ None
unfolding unsigned_at
counted-past blobs at past = rw (drop_all at blobs past) refl

-- ---- the bytes after a spelling of their number

begins-if : (bytes content : List ℕ) (x : ℕ × ℕ) (b : Bool) → IntFound SpellsUnsigned bytes (Ok x) → leb (x.1 + x.0) (length bytes) ≡ b
    → (if b then Some (take x.0 (drop x.1 bytes)) else None) ≡ Some content → BeginsWithBlob bytes content
begins-if bytes content x true f there e =
    let is : take x.0 (drop x.1 bytes) ≡ content = cc in
    let within : x.1 + x.0 ≤ length bytes = leb-true (x.1 + x.0) (length bytes) there in
    let len : length (take x.0 (drop x.1 bytes)) ≡ x.0 = length-take-le x.0 (drop x.1 bytes) (omega (arith, length-drop x.1 bytes)) in
    let same : x.0 ≡ length content = sym len ∙ ap length is in
    record {
      spelling = f.text;
      left = drop x.0 (drop x.1 bytes);
      parts = f.parts ∙ ap (λ t. f.text ++ t) (sym (take-append-drop x.0 (drop x.1 bytes)) ∙ ap (λ t. t ++ drop x.0 (drop x.1 bytes)) is);
      spelled = subst (λ n. SpellsUnsigned f.text n) same f.spelled;
    }
begins-if bytes content x false f there e = absurd cc

begins-of : (bytes content : List ℕ) (r : Result (ℕ × ℕ) IntFault) → IntFound SpellsUnsigned bytes r → counted bytes r ≡ Some content
    → BeginsWithBlob bytes content
begins-of bytes content (Ok x) f e = begins-if bytes content x (leb (x.1 + x.0) (length bytes)) f refl e
begins-of bytes content (Err fault) f e = absurd cc

drop-seam : (xs ys : List ℕ) → drop (length xs) (xs ++ ys) ≡ ys
drop-seam [] ys = refl
drop-seam (x ∷ xs) ys = drop-seam xs ys

of-begins : (spelling content left : List ℕ) → SpellsUnsigned spelling (length content)
    → counted (spelling ++ (content ++ left)) (unsigned_at (spelling ++ (content ++ left))) ≡ Some content
of-begins spelling content left h =
    let within : length spelling + length content ≤ length (spelling ++ (content ++ left)) =
    omega (arith, length-append spelling (content ++ left), length-append content left) in
    rw (
      unsigned-all spelling (length content) (content ++ left) h,
      le-leb (length spelling + length content) (length (spelling ++ (content ++ left))) within,
      drop-seam spelling (content ++ left),
      take-append_seam content left,
    ) refl

pub blob-begins : (blobs content : List ℕ) (i : ℕ) → (blob_at blobs (suc i) ≡ Some content) ↔ BeginsWithBlob (drop (suc i) blobs) content
unfolding blob_at
blob-begins blobs content i = (
  begins-of (drop (suc i) blobs) content (unsigned_at (drop (suc i) blobs)) (unsigned-is (drop (suc i) blobs)),
  λ h. ap (λ (bytes : List ℕ). counted bytes (unsigned_at bytes)) h.parts ∙ of-begins h.spelling content h.left h.spelled,
)

-- No blob stands past the stream's end.
pub blob_at-past : (blobs : List ℕ) (i : ℕ) → (i ≡ 0 → ⊥) → length blobs ≤ i → blob_at blobs i ≡ None
unfolding blob_at
blob_at-past blobs zero some past = absurd (some refl)
blob_at-past blobs (suc i) some past = counted-past blobs (suc i) past
