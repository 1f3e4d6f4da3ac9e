-- What the plain reader's next step is, by what stands at a place of a blob.
use Rattle.std.proofs.Common.{◌≡◌, ℕ, ◌+◌, ◌<◌, Bool, true, false, ◌&&◌, List, [], ◌∷◌, length, drop, Some, None, Result, Ok, Err, refl, sym, ap, ◌∙◌, arith}
use Rattle.std.proofs.lemmas.List.{drop_all, length-drop}
use Rattle.ppdb_base.specs.declared.{Code.{Code}, Code.TheVariants.{BlobEnd, ValueRange}, BlobFault.{BlobFault}}
use Rattle.blob_grammar.specs.{Grammar.{Value, number, Form, unsigned, Grammar}, Reader.{placed, unsigned_at, field_at, is_empty, field, stop, invalid, stop_or}}
use Rattle.blob_grammar.{specs.Reader.{if_allowed, step_at, step_in, step}, proofs.Placed.{unsigned_there, unsigned_not_there}}
use Rattle.type_blobs.specs.Numbers.{in_range, number_after, number_at}

-- A number stands there, and is in range.
pub record Found {X : Type 0} (allows : ℕ → Bool) (means : ℕ → X) (blob : List ℕ) (at : ℕ) (meaning : X) (next : ℕ) : Type 0 where
  pub n : ℕ
  pub len : ℕ
  pub there : placed at (unsigned_at (drop at blob)) ≡ Ok (n, len)
  pub allowed : allows n ≡ true
  pub means_it : means n ≡ meaning
  pub next_is : at + len ≡ next

found_after : {X : Type 0} (allows : ℕ → Bool) (means : ℕ → X) (blob : List ℕ) (at : ℕ) (r : Result (ℕ × ℕ) BlobFault) (b : Bool) (meaning : X) (next : ℕ)
    → placed at (unsigned_at (drop at blob)) ≡ r
    → ((x : ℕ × ℕ) → r ≡ Ok x → allows x.0 ≡ b) → number_after allows means at r ≡ Ok (meaning, next) → Found allows means blob at meaning next
found_after {X = X} allows means blob at (Ok x) true meaning next e f g =
    let t : allows x.0 ≡ true = f x refl in
    let h : in_range at true (means x.0) x.1 ≡ Ok (meaning, next) = sym (ap (λ b. in_range at b (means x.0) x.1) t) ∙ g in
    let p : (means x.0, at + x.1) ≡ (meaning, next) = cc in
    record { n = x.0; len = x.1; there = e; allowed = t; means_it = ap (λ (q : X × ℕ). q.0) p; next_is = ap (λ (q : X × ℕ). q.1) p }
found_after allows means blob at (Ok x) false meaning next e f g =
    let t : allows x.0 ≡ false = f x refl in
    let h : in_range at false (means x.0) x.1 ≡ Ok (meaning, next) = sym (ap (λ b. in_range at b (means x.0) x.1) t) ∙ g in
    absurd cc
found_after allows means blob at (Err fault) b meaning next e f g = absurd cc

allows_one : (allows : ℕ → Bool) (r : Result (ℕ × ℕ) BlobFault) → (b : Bool) × ((x : ℕ × ℕ) → r ≡ Ok x → allows x.0 ≡ b)
allows_one allows (Ok y) = (allows y.0, λ x e. let s : y ≡ x = cc in ap (λ (p : ℕ × ℕ). allows p.0) (sym s))
allows_one allows (Err fault) = (true, λ x e. absurd cc)

pub found : {X : Type 0} (allows : ℕ → Bool) (means : ℕ → X) (blob : List ℕ) (at : ℕ) (meaning : X) (next : ℕ)
    → number_at allows means blob at ≡ Ok (meaning, next) → Found allows means blob at meaning next
found allows means blob at meaning next e =
    let r = placed at (unsigned_at (drop at blob)) in
    let a = allows_one allows r in
    found_after allows means blob at r a.0 meaning next refl a.1 e

module _ {R : Type 0} (g : Grammar R) (whole : List R) (begun : List Value) (blob : List ℕ) (at : ℕ) where
  pub step-field : (form : Form) (value : Value) (len : ℕ) → g.form whole begun ≡ Some form → field_at form (drop at blob) ≡ Ok (value, len)
      → g.allows whole begun value ≡ true → step g whole begun (drop at blob) ≡ field value len
  step-field form value len expected found allowed =
      ap (step_in g whole begun (drop at blob)) expected ∙ ap (step_at g whole begun (drop at blob)) found ∙ ap (λ b. if_allowed b value len) allowed

  pub step-out : (form : Form) (value : Value) (len : ℕ) → g.form whole begun ≡ Some form → field_at form (drop at blob) ≡ Ok (value, len)
      → g.allows whole begun value ≡ false → step g whole begun (drop at blob) ≡ invalid ValueRange
  step-out form value len expected found allowed =
      ap (step_in g whole begun (drop at blob)) expected ∙ ap (step_at g whole begun (drop at blob)) found ∙ ap (λ b. if_allowed b value len) allowed

  pub step-none : (form : Form) (code : Code) → g.form whole begun ≡ Some form → field_at form (drop at blob) ≡ Err code
      → (is_empty (drop at blob) && g.may_stop whole begun) ≡ false → step g whole begun (drop at blob) ≡ invalid code
  step-none form code expected none goes_on =
      ap (step_in g whole begun (drop at blob)) expected ∙ ap (step_at g whole begun (drop at blob)) none ∙ ap (λ b. stop_or b code) goes_on

  pub step-end : (form : Form) (code : Code) → g.form whole begun ≡ Some form → at ≡ length blob → field_at form [] ≡ Err code → g.may_stop whole begun ≡ true
      → step g whole begun (drop at blob) ≡ stop
  step-end form code expected ends none stops =
      let bytes : drop at blob ≡ [] = drop_all at blob (omega arith) in
      ap (step_in g whole begun (drop at blob)) expected ∙ ap (λ b. step_at g whole begun b (field_at form b)) bytes ∙ ap (step_at g whole begun []) none
      ∙ ap (λ b. stop_or b code) stops

  pub step-end_none : g.form whole begun ≡ None → at ≡ length blob → g.may_stop whole begun ≡ true → step g whole begun (drop at blob) ≡ stop
  step-end_none expected ends stops =
      let bytes : drop at blob ≡ [] = drop_all at blob (omega arith) in
      ap (step_in g whole begun (drop at blob)) expected ∙ ap (λ b. step_in g whole begun b None) bytes ∙ ap (λ b. stop_or b BlobEnd) stops

  pub step-over : g.form whole begun ≡ None → at < length blob → step g whole begun (drop at blob) ≡ invalid ValueRange
  step-over expected less = ap (step_in g whole begun (drop at blob)) expected ∙ some (drop at blob) (omega (arith, length-drop at blob))
    where
      some : (bytes : List ℕ) → 0 < length bytes → step_in g whole begun bytes None ≡ invalid ValueRange
      some [] h = absurd (omega arith)
      some (b ∷ bs) h = refl

  -- ---- a number

  -- One that is in range is a field.
  pub step-number : {X : Type 0} (allows : ℕ → Bool) (means : ℕ → X) (meaning : X) (next : ℕ) → g.form whole begun ≡ Some unsigned
      → ((n : ℕ) → g.allows whole begun (number n) ≡ allows n)
      → (f : Found allows means blob at meaning next) → step g whole begun (drop at blob) ≡ field (number f.n) f.len
  step-number allows means meaning next form same f =
      step-field unsigned (number f.n) f.len form (unsigned_there at (drop at blob) f.n f.len f.there) (same f.n ∙ f.allowed)

  -- The step is a fault.
  pub record IsInvalid (fault : BlobFault) : Type 0 where
    pub code : Code
    pub is : step g whole begun (drop at blob) ≡ invalid code
    pub fault_is : fault ≡ record { code = code; byte = at }

  refused_after : {X : Type 0} (allows : ℕ → Bool) (means : ℕ → X) (fault : BlobFault) (r : Result (ℕ × ℕ) BlobFault) (b : Bool)
      → g.form whole begun ≡ Some unsigned → ((n : ℕ) → g.allows whole begun (number n) ≡ allows n)
      → (is_empty (drop at blob) && g.may_stop whole begun) ≡ false → placed at (unsigned_at (drop at blob)) ≡ r
      → ((x : ℕ × ℕ) → r ≡ Ok x → allows x.0 ≡ b) → number_after allows means at r ≡ Err fault → IsInvalid fault
  refused_after allows means fault (Ok x) true form same more e f h =
      let t : in_range at true (means x.0) x.1 ≡ Err fault = sym (ap (λ b. in_range at b (means x.0) x.1) (f x refl)) ∙ h in absurd cc
  refused_after allows means fault (Ok x) false form same more e f h =
      let out : BlobFault = record { code = ValueRange; byte = at } in
      let t : in_range at false (means x.0) x.1 ≡ Err fault = sym (ap (λ b. in_range at b (means x.0) x.1) (f x refl)) ∙ h in
      let s : out ≡ fault = cc in
      record {
        code = ValueRange;
        is = step-out unsigned (number x.0) x.1 form (unsigned_there at (drop at blob) x.0 x.1 e) (same x.0 ∙ f x refl);
        fault_is = sym s;
      }
  refused_after allows means fault (Err other) b form same more e f h =
      let s : other ≡ fault = cc in
      let n = unsigned_not_there at (drop at blob) other e in
      record { code = n.code; is = step-none unsigned n.code form n.none more; fault_is = sym s ∙ n.fault_is }

  -- One that is missing or out of range is a fault.
  pub step-no_number : {X : Type 0} (allows : ℕ → Bool) (means : ℕ → X) (fault : BlobFault) → g.form whole begun ≡ Some unsigned
      → ((n : ℕ) → g.allows whole begun (number n) ≡ allows n)
      → (is_empty (drop at blob) && g.may_stop whole begun) ≡ false → number_at allows means blob at ≡ Err fault → IsInvalid fault
  step-no_number allows means fault form same more e =
      let r = placed at (unsigned_at (drop at blob)) in
      let a = allows_one allows r in
      refused_after allows means fault r a.0 form same more refl a.1 e
