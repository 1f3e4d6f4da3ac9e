-- What a lookup prints of a question is what its query prints.
use Rattle.std.{proofs.Common.{ℕ, ◌≡◌, ◌++◌, Bool, true, false, List, [], ◌∷◌, refl, sym, ap, ◌∙◌}, specs.Prelude.{Err, if◌then◌else◌}}
use Rattle.std.proofs.lemmas.List.{append-nil}
use Rattle.ppdb_queries_list.specs.declared.line.MethodOffset.{MethodOffset}
use Rattle.ppdb_show.specs.{Lookup.{answer_lines, at_line, has_method, lookup_text_of, no_method_line}, Query.{query_lines, query_text_of}}
use Rattle.ppdb_show.proofs.Looked.{found_lines, one_answer, text_first, text_none}
use Rattle.ppdb_show_lines.specs.{declared.form.Form.{Form}, declared.form.Form.TheVariants.{Text, Json}, Forms.{lines_as, put_as}}
use Rattle.ppdb_show_lines.proofs.Texts.{one_line}
use Rattle.ppdb_values.specs.RawFile.{RawFile}
use Rattle.ppdb_run.specs.Outcome.{answer_of, done, outcome_of}
use Rattle.ppdb_run_stops.specs.Refusals.{no_method}
use Rattle.ppdb_run_words.specs.Words.{Query}

pub one_asked : (form : Form) (raw : RawFile) (at : MethodOffset)
    → lookup_text_of form raw (at ∷ []) ≡ put_as form (at_line at) ++ lines_as form (found_lines raw at)
one_asked form raw at =
    text_first form raw at [] ∙ ap (λ (t : List ℕ). lines_as form (answer_lines raw at) ++ t) (text_none form raw)
    ∙ append-nil (lines_as form (answer_lines raw at)) ∙ one_answer form raw at
    ∙ ap (λ (t : List ℕ). t ++ lines_as form (found_lines raw at)) (one_line form (at_line at))

found_text : (raw : RawFile) (m x : ℕ) (has : Bool)
    → lines_as Text (if has then query_lines raw m x else no_method_line m ∷ [])
    ≡ (outcome_of (if has then done (query_text_of Text raw m x) else Err (no_method m))).text
unfolding query_text_of
found_text raw m x true = refl
found_text raw m x false = one_line Text (no_method_line m)

pub as_text : (raw : RawFile) (file : List ℕ) (at : MethodOffset)
    → lookup_text_of Text raw (at ∷ []) ≡ put_as Text (at_line at) ++ (outcome_of (answer_of (Query at.method at.offset false) file raw)).text
as_text raw file at =
    one_asked Text raw at ∙ ap (λ (t : List ℕ). put_as Text (at_line at) ++ t) (found_text raw at.method at.offset (has_method raw.tables at.method))

found_json : (raw : RawFile) (m x : ℕ) (has : Bool) → has ≡ true
    → lines_as Json (if has then query_lines raw m x else no_method_line m ∷ [])
    ≡ (outcome_of (if has then done (query_text_of Json raw m x) else Err (no_method m))).text
unfolding query_text_of
found_json raw m x true e = refl
found_json raw m x false e = absurd cc

pub as_json : (raw : RawFile) (file : List ℕ) (at : MethodOffset) → has_method raw.tables at.method ≡ true
    → lookup_text_of Json raw (at ∷ []) ≡ put_as Json (at_line at) ++ (outcome_of (answer_of (Query at.method at.offset true) file raw)).text
as_json raw file at has =
    one_asked Json raw at ∙ ap (λ (t : List ℕ). put_as Json (at_line at) ++ t) (found_json raw at.method at.offset (has_method raw.tables at.method) has)

pub one_each : (form : Form) (raw : RawFile) (at : MethodOffset) (asked : List MethodOffset)
    → lookup_text_of form raw (at ∷ asked) ≡ lookup_text_of form raw (at ∷ []) ++ lookup_text_of form raw asked
one_each form raw at asked =
    text_first form raw at asked ∙ ap (λ (t : List ℕ). t ++ lookup_text_of form raw asked)
    (sym (text_first form raw at [] ∙ ap (λ (t : List ℕ). lines_as form (answer_lines raw at) ++ t) (text_none form raw)
    ∙ append-nil (lines_as form (answer_lines raw at))))
