-- The first document with a name.
use Rattle.std.proofs.Common.{◌≡◌, ℕ, zero, suc, ◌+◌, ◌<◌, ◌∙◌, Bool, true, false, cond, List, [], ◌∷◌, length, get_or, refl, sym, ap, arith, Some, None, ltb}
use Rattle.std.{proofs.Common.{ltb-true}, specs.Prelude.{position}, specs.List.{position_or_len}, specs.Option.{option_map}, specs.Str.{bytes_eq}}
use Rattle.std.proofs.lemmas.{Bool.{lt-ltb, le-ltb, ltb-false}, List.{get_or-map, length-map}, List.Sums.{position_or_len_is}, Option.{get_or_from_slice_get}}
use Rattle.std.proofs.lemmas.Option.{slice_get_within}
use Rattle.ppdb_tables.specs.{declared.rows.DocumentRow.{DocumentRow}, RawTables.{row_at}}
use Rattle.ppdb_values.specs.{declared.file.DocumentValue.{DocumentValue}, Documents.{document_of}, RawFile.{RawFile}, Value.{value_of}}
use Rattle.break_lines.specs.Breaks.{document_named}

passes_at : {A : Type 0} (p : A → Bool) (xs : List A) (i : ℕ) (d : A) → i < length xs → ((k : ℕ) → k < i → p (get_or xs k d) ≡ false)
    → p (get_or xs i d) ≡ true → position p xs ≡ Some i
passes_at p xs i d less others is =
    let at : position_or_len p xs ≡ i = position_or_len_is p xs i d (omega arith) others (λ within. is) in
    ap (λ n. cond (ltb n (length xs)) (Some n) None) at ∙ ap (λ b. cond b (Some i) None) (lt-ltb i (length xs) less)

passes_nowhere : {A : Type 0} (p : A → Bool) (xs : List A) → ((k : ℕ) (d : A) → k < length xs → p (get_or xs k d) ≡ false) → position p xs ≡ None
passes_nowhere p [] others = refl
passes_nowhere p (x ∷ xs) others =
    let at : position_or_len p (x ∷ xs) ≡ length (x ∷ xs) = position_or_len_is p (x ∷ xs) (length (x ∷ xs)) x (omega arith) (λ k less. others k x less)
    (λ within. absurd (omega (arith, within))) in
    ap (λ n. cond (ltb n (length (x ∷ xs))) (Some n) None) at
    ∙ ap (λ b. cond b (Some (length (x ∷ xs))) None) (le-ltb (length (x ∷ xs)) (length (x ∷ xs)) (omega arith))

-- the document of a row
pub document_at : (raw : RawFile) (row : ℕ) (cells : DocumentRow) (d : DocumentValue) → row_at raw.tables.documents (suc row) ≡ Some cells
    → get_or (value_of raw).documents row d ≡ document_of raw.tables cells
document_at raw row cells d there =
    let inside = slice_get_within raw.tables.documents row cells there in
    get_or-map (document_of raw.tables) raw.tables.documents row cells d inside
    ∙ ap (document_of raw.tables) (get_or_from_slice_get raw.tables.documents row cells cells there)

pub documents_many : (raw : RawFile) → length (value_of raw).documents ≡ length raw.tables.documents
documents_many raw = length-map raw.tables.documents (document_of raw.tables)

pub named_here : (raw : RawFile) (name : List ℕ) (row : ℕ) (cells : DocumentRow) → row_at raw.tables.documents row ≡ Some cells
    → ((k : ℕ) (d : DocumentValue) → k + 1 < row → bytes_eq (get_or (value_of raw).documents k d).name name ≡ false)
    → bytes_eq (document_of raw.tables cells).name name ≡ true
    → Some row ≡ document_named (value_of raw) name
named_here raw name zero cells there others is = cc
named_here raw name (suc i) cells there others is =
    let d = document_of raw.tables cells in
    let inside = slice_get_within raw.tables.documents i cells there in
    sym (ap (option_map suc) (passes_at (λ (document : DocumentValue). bytes_eq document.name name) (value_of raw).documents i d
    (omega (arith, inside, documents_many raw))
    (λ k less. others k d (omega (arith, less)))
    (ap (λ (document : DocumentValue). bytes_eq document.name name) (document_at raw i cells d there) ∙ is)))

pub named_nowhere : (raw : RawFile) (name : List ℕ) (row : ℕ) → length raw.tables.documents < row
    → ((k : ℕ) (d : DocumentValue) → k + 1 < row → bytes_eq (get_or (value_of raw).documents k d).name name ≡ false)
    → None ≡ document_named (value_of raw) name
named_nowhere raw name row past others =
    sym (ap (option_map suc) (passes_nowhere (λ (document : DocumentValue). bytes_eq document.name name) (value_of raw).documents
    (λ k d less. others k d (omega (arith, less, documents_many raw, past)))))

-- one document more has another name
pub others_more : (raw : RawFile) (name : List ℕ) (row : ℕ) (cells : DocumentRow) → row_at raw.tables.documents row ≡ Some cells
    → ((k : ℕ) (d : DocumentValue) → k + 1 < row → bytes_eq (get_or (value_of raw).documents k d).name name ≡ false)
    → bytes_eq (document_of raw.tables cells).name name ≡ false
    → (k : ℕ) (d : DocumentValue) → k + 1 < row + 1 → bytes_eq (get_or (value_of raw).documents k d).name name ≡ false
others_more raw name zero cells there others is k d less = cc
others_more raw name (suc i) cells there others is k d less = step (ltb (k + 1) (suc i)) refl
  where
    step : (b : Bool) → ltb (k + 1) (suc i) ≡ b → bytes_eq (get_or (value_of raw).documents k d).name name ≡ false
    step true t = others k d (ltb-true (k + 1) (suc i) t)
    step false t =
        let same : k ≡ i = omega (arith, less, ltb-false (k + 1) (suc i) t) in
        ap (λ n. bytes_eq (get_or (value_of raw).documents n d).name name) same
        ∙ ap (λ (document : DocumentValue). bytes_eq document.name name) (document_at raw i cells d there) ∙ is
