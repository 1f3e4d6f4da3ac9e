-- How the parts of a name are joined, a part at a time.
use Rattle.std.{proofs.Common.{◌≡◌, ℕ, List, [], ◌∷◌, ◌++◌, Option, Some, None, Ok, Err, refl, sym, ap, subst, ◌∙◌, append_assoc, append-nil}, specs.List.{flat_map}}
use Rattle.std.specs.{List.{join_by}, Borrow.{Bor}}
use Rattle.ppdb_base.specs.declared.BlobFault.{BlobFault}
use Rattle.blob_grammar.specs.{Reading.{Reading}, Reader.{Left, answer_from, answer, rest_of, tail}}
use Rattle.ppdb_heaps.specs.{declared.join.NameError.TheVariants.{Blob}, Names.{separator, names, without_zero, IsName, NameReading}, Cursor.{lent}}
use Rattle.ppdb_heaps.specs.Joining.{IsRefusal, HasAppended}

some-of : {X : Type 0} (items : List X) (fault : Option BlobFault) (x : X) → Ok (Some x) ≡ answer_from items fault → items ≡ x ∷ tail items
some-of (y ∷ items) fault x e = let s : x ≡ y = cc in cc
some-of [] None x e = absurd cc
some-of [] (Some f) x e = absurd cc

err-of : {X : Type 0} (items : List X) (fault : Option BlobFault) (f : BlobFault) → Err f ≡ answer_from items fault → fault ≡ Some f
err-of (y ∷ items) fault f e = absurd cc
err-of [] None f e = absurd cc
err-of [] (Some g) f e = cc

none-of : {X : Type 0} (items : List X) (fault : Option BlobFault) → Ok None ≡ answer_from items fault → (items ≡ []) × (fault ≡ None)
none-of (y ∷ items) fault e = absurd cc
none-of [] None e = (refl, refl)
none-of [] (Some f) e = absurd cc

abbrev after_separator : List ℕ → List (List ℕ) → List ℕ
after_separator sep contents = flat_map (λ content. sep ++ content) contents

-- What was joined so far, and the parts left after it, are the name.
pub record Joining (blobs blob old sep into : List ℕ) (left : Left (List ℕ)) : Type 0 where
  pub contents : List (List ℕ)
  pub reading : NameReading blobs blob sep contents left.fault
  pub goes_on : into ++ after_separator sep left.items ≡ old ++ join_by (λ content. content) sep contents

pub joining-first : (blobs blob old sep : List ℕ) (left : Left (List ℕ)) (x : List ℕ) → NameReading blobs blob sep left.items left.fault
    → Ok (Some x) ≡ answer left
    → Joining blobs blob old sep (old ++ x) (rest_of left)
joining-first blobs blob old sep left x h e =
    let items : left.items ≡ x ∷ tail left.items = some-of left.items left.fault x e in
    record {
      contents = left.items;
      reading = h;
      goes_on = append_assoc old x (after_separator sep (tail left.items)) ∙ ap (λ contents. old ++ join_by (λ content. content) sep contents) (sym items);
    }

pub joining-fault : (blobs blob sep : List ℕ) (contents : List (List ℕ)) (left : Left (List ℕ)) (fault : BlobFault)
    → NameReading blobs blob sep contents left.fault → Err fault ≡ answer left → IsRefusal blobs blob (Blob fault)
joining-fault blobs blob sep contents left fault h e =
    (separator h.bytes ∷ h.parts, subst (λ f. Reading (names blobs) blob (separator h.bytes ∷ h.parts) f) (err-of left.items left.fault fault e) h.reading)

-- The same with equations for what the code has.
pub joining-starts : (blobs blob old into sep own : List ℕ) (before left : Left (List ℕ)) (x : List ℕ) → NameReading blobs blob own before.items before.fault
    → sep ≡ own → Ok (Some x) ≡ answer before → left ≡ rest_of before → into ≡ old ++ x
    → Joining blobs blob old sep into left
joining-starts blobs blob old into sep own before left x h s e l i =
    let h' : NameReading blobs blob sep before.items before.fault = subst (λ (t : List ℕ). NameReading blobs blob t before.items before.fault) (sym s) h in
    subst (λ (t : List ℕ). Joining blobs blob old sep t left) (sym i) (subst (λ (t : Left (List ℕ)). Joining blobs blob old sep (old ++ x) t) (sym l)
    (joining-first blobs blob old sep before x h' e))

-- An answer turned over, where its slice is known.
pub answer-is : (left : Left (List ℕ)) (o p : Option (Bor (List ℕ))) → lent (Ok o) ≡ answer left → o ≡ p → lent (Ok p) ≡ answer left
answer-is left o p e i = sym (ap (λ (q : Option (Bor (List ℕ))). lent (Ok q)) i) ∙ e

-- A reading with no fault is a whole name, and its text is the contents with the separator between them.
is-name : (blobs blob sep : List ℕ) (contents : List (List ℕ)) (fault : Option BlobFault) → NameReading blobs blob sep contents fault → fault ≡ None
    → IsName blobs blob (join_by (λ content. content) sep contents)
is-name blobs blob sep contents fault h e = record {
  parts = separator h.bytes ∷ h.parts;
  whole = subst (λ f. Reading (names blobs) blob (separator h.bytes ∷ h.parts) f) e h.reading;
  text = ap (λ t. join_by (λ content. content) t contents) h.separator_is
      ∙ ap (λ all. join_by (λ content. content) (without_zero h.bytes) all) h.contents_are;
}

-- Nothing is left of the parts: what was joined is the name.
pub joining-ends : (blobs blob old sep into : List ℕ) (left : Left (List ℕ)) → Joining blobs blob old sep into left → Ok None ≡ answer left
    → HasAppended blobs blob old into
joining-ends blobs blob old sep into left h e =
    let n = none-of left.items left.fault e in (
      join_by (λ content. content) sep h.contents,
      is-name blobs blob sep h.contents left.fault h.reading n.1,
      sym (append-nil into) ∙ ap (λ items. into ++ after_separator sep items) (sym n.0) ∙ h.goes_on,
    )

-- There is no part: the name is empty.
pub joining-none : (blobs blob old sep : List ℕ) (left : Left (List ℕ)) → NameReading blobs blob sep left.items left.fault → Ok None ≡ answer left
    → HasAppended blobs blob old old
joining-none blobs blob old sep left h e =
    let n = none-of left.items left.fault e in (
      join_by (λ content. content) sep left.items,
      is-name blobs blob sep left.items left.fault h n.1,
      sym (append-nil old) ∙ ap (λ items. old ++ join_by (λ content. content) sep items) (sym n.0),
    )
