-- What a checked number says of the field there.
use Rattle.std.proofs.Common.{◌≡◌, ℕ, ◌+◌, Bool, true, false, ◌&&◌, List, [], ◌∷◌, ◌++◌, drop, Some, Result, Ok, Err, refl, ap, subst, ◌∙◌}
use Rattle.std.specs.Prelude.{if◌then◌else◌}
use Rattle.ppdb_base.specs.declared.{BlobFault.{BlobFault}, Code.TheVariants.{ValueRange}}
use Rattle.cli_ints.specs.declared.IntFault.{IntFault}
use Rattle.blob_grammar.specs.{Grammar.{Value, number, Form, Grammar}, Reader.{placed, as_value, code_of, field_at, is_empty, close_and}}
use Rattle.blob_grammar.proofs.Steps.{nothing_left, left_at, left-field, left-out, left-none}
use Rattle.custom_info.specs.Fields.{checked}

kept : (b : Bool) (x y : ℕ × ℕ) (fault : BlobFault) → (if b then Ok x else Err fault) ≡ Ok y → (b ≡ true) × (x ≡ y)
kept true x y fault e = (refl, cc)
kept false x y fault e = absurd cc

refused : (b : Bool) (x : ℕ × ℕ) (fault other : BlobFault) → (if b then Ok x else Err fault) ≡ Err other → (b ≡ false) × (fault ≡ other)
refused true x fault other e = absurd cc
refused false x fault other e = (refl, cc)

-- A number that passes: the record goes on, or is whole.
pub left-kept : {R : Type 0} (g : Grammar R) (whole : List R) (begun : List Value) (blob : List ℕ) (at : ℕ) (form : Form) (r : Result (ℕ × ℕ) IntFault)
    (v len : ℕ)
    → g.form whole begun ≡ Some form → field_at form (drop at blob) ≡ as_value number r → checked (λ n. g.allows whole begun (number n)) at (placed at r) ≡ Ok (
      v,
      len,
    )
    → left_at g whole begun blob at ≡ close_and (λ w b. left_at g w b blob (at + len)) whole (begun ++ number v ∷ [])
    (g.record_of whole (begun ++ number v ∷ []))
left-kept g whole begun blob at form (Err e) v len expected found is = absurd cc
left-kept {R = R} g whole begun blob at form (Ok x) v len expected found is =
    let k = kept (g.allows whole begun (number x.0)) x (v, len) (record { code = ValueRange; byte = at }) is in
    subst
    (λ (y : ℕ × ℕ). left_at g whole begun blob at ≡ close_and (λ w b. left_at g w b blob (at + y.1)) whole (begun ++ number y.0 ∷ [])
    (g.record_of whole (begun ++ number y.0 ∷ [])))
    k.1 (left-field g whole begun blob at form (number x.0) x.1 expected found k.0)

-- A fault: nothing is left but it.
pub left-refused : {R : Type 0} (g : Grammar R) (whole : List R) (begun : List Value) (blob : List ℕ) (at : ℕ) (form : Form) (r : Result (ℕ × ℕ) IntFault)
    (fault : BlobFault)
    → g.form whole begun ≡ Some form → field_at form (drop at blob) ≡ as_value number r → (is_empty (drop at blob) && g.may_stop whole begun) ≡ false
    → checked (λ n. g.allows whole begun (number n)) at (placed at r) ≡ Err fault
    → left_at g whole begun blob at ≡ nothing_left (Some fault)
left-refused g whole begun blob at form (Err e) fault expected found goes_on is =
    let same : record { code = code_of e; byte = at } ≡ fault = cc in
    left-none g whole begun blob at form (code_of e) expected found goes_on ∙ ap (λ f. nothing_left (Some f)) same
left-refused g whole begun blob at form (Ok x) fault expected found goes_on is =
    let k = refused (g.allows whole begun (number x.0)) x (record { code = ValueRange; byte = at }) fault is in
    left-out g whole begun blob at form (number x.0) x.1 expected found k.0 ∙ ap (λ f. nothing_left (Some f)) k.1

pub and-false : (b : Bool) → (b && false) ≡ false
and-false true = refl
and-false false = refl
