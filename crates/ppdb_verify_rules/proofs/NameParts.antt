-- How the parts of a name are joined, a part at a time.
use Rattle.std.{proofs.Common.{◌≡◌, ℕ, List, [], ◌∷◌, ◌++◌, Option, Some, None, Ok, refl, sym, ap, subst, ◌∙◌, append_assoc, append-nil}, specs.List.{flat_map}}
use Rattle.std.specs.List.{join_by}
use Rattle.ppdb_base.specs.declared.fault.BlobFault.{BlobFault}
use Rattle.blob_grammar.specs.{Reading.{Reading}, Reader.{Left, answer_from, answer, rest_of, tail}}
use Rattle.ppdb_heaps.{specs.Names.{separator, names, without_zero, IsName, NameReading}, specs.Joining.{HasAppended}, proofs.Joins.{Joining}}

abbrev after_separator : List ℕ → List (List ℕ) → List ℕ
after_separator sep contents = flat_map (λ content. sep ++ content) contents

some-of : {X : Type 0} (items : List X) (fault : Option BlobFault) (x : X) → Ok (Some x) ≡ answer_from items fault → items ≡ x ∷ tail items
some-of (y ∷ items) fault x e = let s : x ≡ y = cc in cc
some-of [] None x e = absurd cc
some-of [] (Some f) x e = absurd cc

none-of : {X : Type 0} (items : List X) (fault : Option BlobFault) → let none : Option X =
    None in Ok none ≡ answer_from items fault → (items ≡ []) × (fault ≡ None)
none-of (y ∷ items) fault e = absurd cc
none-of [] None e = (refl, refl)
none-of [] (Some f) e = absurd cc

joining-next : (blobs blob old sep into : List ℕ) (left : Left (List ℕ)) (x : List ℕ) → Joining blobs blob old sep into left → Ok (Some x) ≡ answer left
    → Joining blobs blob old sep ((into ++ sep) ++ x) (rest_of left)
joining-next blobs blob old sep into left x h e =
    let items : left.items ≡ x ∷ tail left.items = some-of left.items left.fault x e in
    let more = after_separator sep (tail left.items) in
    record {
      contents = h.contents;
      reading = h.reading;
      goes_on =
          append_assoc (into ++ sep) x more ∙ append_assoc into sep (x ++ more) ∙ ap (λ t. into ++ t) (sym (append_assoc sep x more))
          ∙ ap (λ contents. into ++ after_separator sep contents) (sym items) ∙ h.goes_on;
    }

name-whole : (blobs blob sep : List ℕ) (contents : List (List ℕ)) (fault : Option BlobFault) → NameReading blobs blob sep contents fault → fault ≡ None
    → IsName blobs blob (join_by (λ content. content) sep contents)
name-whole blobs blob sep contents fault h whole = record {
  parts = separator h.bytes ∷ h.parts;
  whole = subst (λ f. Reading (names blobs) blob (separator h.bytes ∷ h.parts) f) whole h.reading;
  text = ap (λ s. join_by (λ content. content) s contents) h.separator_is ∙ ap (λ c. join_by (λ content. content) (without_zero h.bytes) c) h.contents_are;
}

pub joining-end : (blobs blob old sep into : List ℕ) (left : Left (List ℕ)) → let none : Option (List ℕ) =
    None in Joining blobs blob old sep into left → Ok none ≡ answer left → HasAppended blobs blob old into
joining-end blobs blob old sep into left h e =
    let ends = none-of left.items left.fault e in (
      join_by (λ content. content) sep h.contents,
      name-whole blobs blob sep h.contents left.fault h.reading ends.1,
      sym (append-nil into) ∙ ap (λ contents. into ++ after_separator sep contents) (sym ends.0) ∙ h.goes_on,
    )

pub joining-goes : (blobs blob old sep into then_into now : List ℕ) (before left : Left (List ℕ)) (x : List ℕ) → Joining blobs blob old sep into before
    → Ok (Some x) ≡ answer before → left ≡ rest_of before → then_into ≡ into ++ sep → now ≡ then_into ++ x
    → Joining blobs blob old sep now left
joining-goes blobs blob old sep into then_into now before left x h e l i j =
    let k : now ≡ (into ++ sep) ++ x = j ∙ ap (λ (t : List ℕ). t ++ x) i in
    subst (λ (t : List ℕ). Joining blobs blob old sep t left) (sym k) (subst (λ (t : Left (List ℕ)). Joining blobs blob old sep ((into ++ sep) ++ x) t) (sym l)
    (joining-next blobs blob old sep into before x h e))
