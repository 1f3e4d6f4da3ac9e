use Rattle.std.{proofs.Common.{◌≡◌, ℕ, List, [], ◌∷◌, sym, ap, ◌∙◌}, specs.Prelude.{codes}, proofs.lemmas.Slice.Eq.{bytes_eq-Decides}}
use Rattle.ppdb_run_words.proofs.WordList.{one_word}
use Rattle.ppdb_run_words.proofs.words.asks_json.Goals as goal

pub returns-in-len1-clause-json : goal.returns-in-len1-clause-json
returns-in-len1-clause-json c =
    let is_json : c.as_str.result.now ≡ codes "--json" = (bytes_eq-Decides c.as_str.result.now (codes "--json")).0 (sym c.if-eq.ensures) in
    let whole = one_word c.args.words.now c.form-item.result c.in-len1.len_at_least c.in-len1.len_below c.form-item.is in
    whole ∙ ap (λ (word : List ℕ). word ∷ []) (sym c.as_str.ensures.value ∙ is_json)
