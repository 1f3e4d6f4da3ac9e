-- A walk over the fields of a blob, a field at a time.
use Rattle.std.proofs.Common.{◌≡◌, ℕ, zero, suc, ◌+◌, ◌<◌, Bool, true, false, ◌&&◌, List, [], ◌∷◌, ◌++◌, length, take, drop, Option, Some, None, Result, Ok, Err}
use Rattle.std.{proofs.Common.{refl, sym, ap, subst, ◌∙◌, arith}, specs.List.{flat_map}, proofs.lemmas.List.{length-drop, length-take-le}}
use Rattle.ppdb_base.specs.declared.{Code.{Code}, Code.TheVariants.{ValueRange, BlobEnd}}
use Rattle.blob_grammar.specs.{Grammar.{Value, Form, Grammar, Cut, closed, with_value}, Places.{PlacedField, placed_from, HasFields, HasEnd}, Reader.{Left}}
use Rattle.blob_grammar.specs.Reader.{field_at, is_empty, Step, field, stop, invalid, stop_or, if_allowed, step_at, step_in, step, close_and, take_step, read_from}
use Rattle.blob_grammar.{specs.Reader.{fields_from, fields_left}, proofs.PrefixFields.{take_field, fields_from-step, prefix_of-fields}}
use Rattle.blob_grammar.proofs.{Readers.{read_from-reads}, Steps.{Takes, takes_in, read_from-step, nothing_left, Alike}}

-- some items more
abbrev pub push_all : {X : Type 0} → List X → Left X → Left X
push_all xs left = record { items = xs ++ left.items; fault = left.fault }

module _ {R X : Type 0} (g : Grammar R) (tell : PlacedField → List X) where
  -- what a walk reports of a field
  abbrev pub told : Cut R → ℕ → Value → List X
  told place at value = tell (record { byte = at; before = place.begun; value = value })

  -- what is left after a step
  abbrev pub after_step : Cut R → ℕ → List ℕ → Step → Left X
  after_step place at bytes (field value len) = push_all (told place at value) (fields_left g tell (with_value g place value) (at + len) (drop len bytes))
  after_step place at bytes stop = nothing_left None
  after_step place at bytes (invalid code) = nothing_left (Some (record { code = code; byte = at }))

  abbrev goes_on : ℕ → List ℕ → ℕ → List R → List Value → Left R
  goes_on at bytes len w b = read_from g w b (at + len) (drop len bytes)

  closes : (at : ℕ) (bytes : List ℕ) (len : ℕ) (whole : List R) (begun : List Value) (o : Option R)
      → (close_and (goes_on at bytes len) whole begun o).fault ≡ (goes_on at bytes len (closed o whole begun).whole (closed o whole begun).begun).fault
  closes at bytes len whole begun None = refl
  closes at bytes len whole begun (Some r) = refl

  abbrev walked : Cut R → ℕ → List ℕ → Step → Left X
  walked place at bytes s = record {
    items = flat_map tell (placed_from g place at (take_field g (λ len w b. fields_from g (record { whole = w; begun = b }) (drop len bytes)) place bytes s));
    fault = (take_step g (goes_on at bytes) place.whole place.begun at s).fault;
  }

  walked-is : (place : Cut R) (at : ℕ) (bytes : List ℕ) (s : Step) → Takes bytes s → walked place at bytes s ≡ after_step place at bytes s
  unfolding fields_left
  walked-is place at bytes stop takes = refl
  walked-is place at bytes (invalid code) takes = refl
  walked-is place at bytes (field value len) takes =
      let next = with_value g place value in
      let taken : length (take len bytes) ≡ len = length-take-le len bytes takes.1 in
      let fault = closes at bytes len place.whole (place.begun ++ value ∷ []) (g.record_of place.whole (place.begun ++ value ∷ [])) in
      rw (taken, fault) refl

  -- What is left is what one step reports, and what is left then.
  pub fields_left-step : (place : Cut R) (at : ℕ) (bytes : List ℕ)
      → fields_left g tell place at bytes ≡ after_step place at bytes (step g place.whole place.begun bytes)
  unfolding fields_left
  fields_left-step place at bytes =
      let s = step g place.whole place.begun bytes in
      let fields = fields_from-step g place.whole place.begun bytes in
      let left = read_from-step g place.whole place.begun at bytes in
      rw (fields, left) (walked-is place at bytes s (takes_in g place.whole place.begun bytes (g.form place.whole place.begun)))

  to_step : (place : Cut R) (at : ℕ) (bytes : List ℕ) (o : Option Form) (s : Step) → g.form place.whole place.begun ≡ o
      → step_in g place.whole place.begun bytes o ≡ s
      → fields_left g tell place at bytes ≡ after_step place at bytes s
  to_step place at bytes o s e f = fields_left-step place at bytes ∙ ap (after_step place at bytes) (ap (step_in g place.whole place.begun bytes) e ∙ f)

  -- A field that is there and allowed.
  pub walk-field : (place : Cut R) (at : ℕ) (bytes : List ℕ) (form : Form) (value : Value) (len : ℕ)
      → g.form place.whole place.begun ≡ Some form → field_at form bytes ≡ Ok (value, len) → g.allows place.whole place.begun value ≡ true
      → fields_left g tell place at bytes ≡ push_all (told place at value) (fields_left g tell (with_value g place value) (at + len) (drop len bytes))
  walk-field place at bytes form value len expected found allowed =
      to_step place at bytes (Some form) (field value len) expected (ap (step_at g place.whole place.begun bytes) found
      ∙ ap (λ b. if_allowed b value len) allowed)

  -- A field that is there and not allowed.
  pub walk-out : (place : Cut R) (at : ℕ) (bytes : List ℕ) (form : Form) (value : Value) (len : ℕ)
      → g.form place.whole place.begun ≡ Some form → field_at form bytes ≡ Ok (value, len) → g.allows place.whole place.begun value ≡ false
      → fields_left g tell place at bytes ≡ nothing_left (Some (record { code = ValueRange; byte = at }))
  walk-out place at bytes form value len expected found allowed =
      to_step place at bytes (Some form) (invalid ValueRange) expected (ap (step_at g place.whole place.begun bytes) found
      ∙ ap (λ b. if_allowed b value len) allowed)

  -- No field is there, and the blob may not end there.
  pub walk-none : (place : Cut R) (at : ℕ) (bytes : List ℕ) (form : Form) (code : Code)
      → g.form place.whole place.begun ≡ Some form → field_at form bytes ≡ Err code → (is_empty bytes && g.may_stop place.whole place.begun) ≡ false
      → fields_left g tell place at bytes ≡ nothing_left (Some (record { code = code; byte = at }))
  walk-none place at bytes form code expected none stays =
      to_step place at bytes (Some form) (invalid code) expected (ap (step_at g place.whole place.begun bytes) none ∙ ap (λ b. stop_or b code) stays)

  -- The end of a whole blob.
  pub walk-end : (place : Cut R) (at : ℕ) (form : Form) (code : Code) → g.form place.whole place.begun ≡ Some form → field_at form [] ≡ Err code
      → g.may_stop place.whole place.begun ≡ true
      → fields_left g tell place at [] ≡ nothing_left None
  walk-end place at form code expected none stops =
      to_step place at [] (Some form) stop expected (ap (step_at g place.whole place.begun []) none ∙ ap (λ b. stop_or b code) stops)

  -- What is left at the start is the whole walk.
  pub walk-fields : (blob : List ℕ) → HasFields g tell blob (fields_left g tell (record { whole = []; begun = [] }) 0 blob).items
  unfolding fields_left
  walk-fields blob = prefix_of-fields g tell blob

  pub walk-end_is : (blob : List ℕ) → HasEnd g blob (fields_left g tell (record { whole = []; begun = [] }) 0 blob).fault
  unfolding fields_left
  walk-end_is blob = ((read_from g [] [] 0 blob).items, read_from-reads g blob)

  -- ---- places after which the grammar asks, and the walk reports, the same

  pub record AlikeAt (E : Cut R → Cut R → Type 0) : Type 0 where
    pub form : (a b : Cut R) → E a b → g.form a.whole a.begun ≡ g.form b.whole b.begun
    pub allows : (a b : Cut R) (value : Value) → E a b → g.allows a.whole a.begun value ≡ g.allows b.whole b.begun value
    pub may_stop : (a b : Cut R) → E a b → g.may_stop a.whole a.begun ≡ g.may_stop b.whole b.begun
    pub tells : (a b : Cut R) (at : ℕ) (value : Value) → E a b → told a at value ≡ told b at value
    pub keeps : (a b : Cut R) (value : Value) → E a b → g.allows a.whole a.begun value ≡ true → E (with_value g a value) (with_value g b value)

  -- Places of which one has begun what the other has, after records that the grammar takes for the same.
  abbrev pub SameBegun : (List R → List R → Type 0) → Cut R → Cut R → Type 0
  SameBegun Same a b = Same a.whole b.whole × (a.begun ≡ b.begun)

  closed-same : (Same : List R → List R → Type 0) → Alike g g Same → (a b : List R) (begun : List Value) (o : Option R) → Same a b
      → SameBegun Same (closed o a begun) (closed o b begun)
  closed-same Same k a b begun None e = (e, refl)
  closed-same Same k a b begun (Some r) e = (k.push a b r e, refl)

  with-same : (Same : List R → List R → Type 0) → Alike g g Same → (a b : List R) (c d : List Value) (value : Value) → Same a b → c ≡ d
      → SameBegun Same (with_value g (record { whole = a; begun = c }) value) (with_value g (record { whole = b; begun = d }) value)
  with-same Same k a b c d value e same =
      let o : closed (g.record_of a (c ++ value ∷ [])) b (c ++ value ∷ []) ≡ closed (g.record_of b (d ++ value ∷ [])) b (d ++ value ∷ []) =
      rw (same, k.record_of a b (d ++ value ∷ []) e) refl in
      subst (λ (p : Cut R). SameBegun Same (closed (g.record_of a (c ++ value ∷ [])) a (c ++ value ∷ [])) p) o (closed-same Same k a b (c ++ value ∷ [])
      (g.record_of a (c ++ value ∷ [])) e)

  pub alike-begun : (Same : List R → List R → Type 0) → Alike g g Same → AlikeAt (SameBegun Same)
  alike-begun Same k = record {
    form = λ a b e. ap (g.form a.whole) e.1 ∙ k.form a.whole b.whole b.begun e.0;
    allows = λ a b value e. ap (λ begun. g.allows a.whole begun value) e.1 ∙ k.allows a.whole b.whole b.begun value e.0;
    may_stop = λ a b e. ap (g.may_stop a.whole) e.1 ∙ k.may_stop a.whole b.whole b.begun e.0;
    tells = λ a b at value e. ap (λ begun. tell (record { byte = at; before = begun; value = value })) e.1;
    keeps = λ a b value e allowed. with-same Same k a.whole b.whole a.begun b.begun value e.0 e.1;
  }

  module _ (E : Cut R → Cut R → Type 0) (k : AlikeAt E) where
    same_step : (a b : Cut R) (bytes : List ℕ) (o : Option Form) → E a b → step_in g a.whole a.begun bytes o ≡ step_in g b.whole b.begun bytes o
    same_step a b bytes (Some form) e = same_at (field_at form bytes)
      where
        same_at : (r : Result (Value × ℕ) Code) → step_at g a.whole a.begun bytes r ≡ step_at g b.whole b.begun bytes r
        same_at (Ok x) = ap (λ t. if_allowed t x.0 x.1) (k.allows a b x.0 e)
        same_at (Err code) = ap (λ t. stop_or (is_empty bytes && t) code) (k.may_stop a b e)
    same_step a b [] None e = ap (λ t. stop_or t BlobEnd) (k.may_stop a b e)
    same_step a b (x ∷ bytes) None e = refl

    -- a field of a step is allowed
    abbrev Allowed : Cut R → Step → Type 0
    Allowed a (field value len) = g.allows a.whole a.begun value ≡ true
    Allowed a stop = Unit {0}
    Allowed a (invalid code) = Unit {0}

    allowed_if : (a : Cut R) (b : Bool) (value : Value) (len : ℕ) → g.allows a.whole a.begun value ≡ b → Allowed a (if_allowed b value len)
    allowed_if a true value len e = e
    allowed_if a false value len e = tt

    allowed_stop : (a : Cut R) (b : Bool) (code : Code) → Allowed a (stop_or b code)
    allowed_stop a true code = tt
    allowed_stop a false code = tt

    allowed_in : (a : Cut R) (bytes : List ℕ) (o : Option Form) → Allowed a (step_in g a.whole a.begun bytes o)
    allowed_in a bytes (Some form) = at (field_at form bytes)
      where
        at : (r : Result (Value × ℕ) Code) → Allowed a (step_at g a.whole a.begun bytes r)
        at (Ok x) = allowed_if a (g.allows a.whole a.begun x.0) x.0 x.1 refl
        at (Err code) = allowed_stop a (is_empty bytes && g.may_stop a.whole a.begun) code
    allowed_in a [] None = allowed_stop a (g.may_stop a.whole a.begun) BlobEnd
    allowed_in a (x ∷ bytes) None = tt

    same_after : (a b : Cut R) (at : ℕ) (bytes : List ℕ) → E a b
        → ((c d : Cut R) (len : ℕ) → length (drop len bytes) < length bytes → E c d
        → fields_left g tell c (at + len) (drop len bytes) ≡ fields_left g tell d (at + len) (drop len bytes))
        → (s : Step) → Takes bytes s → Allowed a s → after_step a at bytes s ≡ after_step b at bytes s
    same_after a b at bytes e again stop takes allowed = refl
    same_after a b at bytes e again (invalid code) takes allowed = refl
    same_after a b at bytes e again (field value len) takes allowed =
        let left =
        again (with_value g a value) (with_value g b value) len (omega (arith, takes.0, takes.1, length-drop len bytes)) (k.keeps a b value e allowed) in
        rw (k.tells a b at value e, left) refl

    same_for : (turns : ℕ) (a b : Cut R) (at : ℕ) (bytes : List ℕ) → length bytes < turns → E a b
        → fields_left g tell a at bytes ≡ fields_left g tell b at bytes
    same_for zero a b at bytes few e = absurd (omega arith)
    same_for (suc turns) a b at bytes few e =
        let s = step g a.whole a.begun bytes in
        let o = g.form a.whole a.begun in
        let same : s ≡ step g b.whole b.begun bytes = same_step a b bytes o e ∙ ap (step_in g b.whole b.begun bytes) (k.form a b e) in
        fields_left-step a at bytes
        ∙ same_after a b at bytes e (λ c d len less f. same_for turns c d (at + len) (drop len bytes) (omega (arith, few, less)) f) s
        (takes_in g a.whole a.begun bytes o) (allowed_in a bytes o)
        ∙ ap (after_step b at bytes) same ∙ sym (fields_left-step b at bytes)

    -- What is left depends on the place through E alone.
    pub fields_left-alike : (a b : Cut R) (at : ℕ) (bytes : List ℕ) → E a b → fields_left g tell a at bytes ≡ fields_left g tell b at bytes
    fields_left-alike a b at bytes e = same_for (suc (length bytes)) a b at bytes (omega arith) e
