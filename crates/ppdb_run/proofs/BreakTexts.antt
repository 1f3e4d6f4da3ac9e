-- The document of a name is there, and the text of its breaks is what is due.
use Rattle.std.{proofs.Common.{ℕ, suc, ◌≡◌, ◌≤◌, ◌<◌, List, [], ◌∷◌, length, Bool, Option, Some, None, refl, sym, ◌∙◌, ap, subst, arith}, specs.Prelude.{option_map}}
use Rattle.std.{specs.Prelude.{position}, specs.Str.{bytes_eq}, proofs.lemmas.List.Quantifiers.{position-Some}}
use Rattle.ppdb_base.specs.Written.{appended}
use Rattle.ppdb_values.specs.{declared.file.DocumentValue.{DocumentValue}, declared.file.FileValue.{FileValue}, RawFile.{RawFile}, Value.{value_of}}
use Rattle.break_lines.{specs.declared.item.Break.{Break}, specs.Breaks.{breaks_in, document_named}, proofs.Documents.{documents_many}}
use Rattle.ppdb_show_lines.specs.declared.form.Form.{Form}
use Rattle.ppdb_show_sources.specs.Breaks.{text_of_breaks}
use Rattle.ppdb_run.specs.Outcome.{breaks_answer, outcome_of}

pub named_there : (raw : RawFile) (name : List ℕ) (row : ℕ) → document_named (value_of raw) name ≡ Some row → (1 ≤ row) × (row ≤ length raw.tables.documents)
named_there raw name row e = by_place (position test (value_of raw).documents) refl
  where
    test : DocumentValue → Bool
    test document = bytes_eq document.name name

    within : (documents : List DocumentValue) (i : ℕ) → position test documents ≡ Some i → i < length documents
    within [] i is = absurd cc
    within (d ∷ documents) i is = (position-Some test (d ∷ documents) i d is).0

    by_place : (place : Option ℕ) → position test (value_of raw).documents ≡ place → (1 ≤ row) × (row ≤ length raw.tables.documents)
    by_place None is = absurd (let both : None ≡ Some row = sym (ap (option_map suc) is) ∙ e in cc)
    by_place (Some i) is =
        let row_is : suc i ≡ row = let both : Some (suc i) ≡ Some row = sym (ap (option_map suc) is) ∙ e in cc in
        let inside = within (value_of raw).documents i is in
        (omega (arith, row_is), omega (arith, row_is, inside, documents_many raw))

pub breaks_text : (form : Form) (document : List ℕ) (line row : ℕ) (value : FileValue) (items : List Break) (old new : Option (List ℕ))
    → document_named value document ≡ Some row
    → items ≡ breaks_in value row line → new ≡ appended old (text_of_breaks form items)
    → new ≡ appended old (outcome_of (breaks_answer form document line value (document_named value document))).text
breaks_text form document line row value items old new named are put =
    subst (λ found. new ≡ appended old (outcome_of (breaks_answer form document line value found)).text) (sym named)
    (subst (λ breaks. new ≡ appended old (text_of_breaks form breaks)) are put)
