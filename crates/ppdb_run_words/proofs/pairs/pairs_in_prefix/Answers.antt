use Rattle.std.{proofs.Common.{◌≡◌, ◌-◌, ◌∷◌, length, string_bytes, sym, ◌∙◌, ap, subst, arith}, specs.Prelude.{IsTrue}, proofs.lemmas.List.{length-map}}
use Rattle.ppdb_run_words.{specs.Words.{is_file_word, texts}, proofs.PairWords.{prefix_even, prefix_next, prefix_taken, two_of}}
use Rattle.ppdb_run_words.proofs.pairs.pairs_in_prefix.Goals as goal

pub loop-rest-preserved : goal.loop-rest-preserved
loop-rest-preserved c =
    let whole =
    two_of c.loop-rest.rest.now c.file-item.result c.map-item.result c.in-len2-up.len_at_least c.file-item.is c.map-item.is
    ∙ ap (λ r. string_bytes c.file-item.result ∷ string_bytes c.map-item.result ∷ texts r) (sym c.split_at.ensures.back) in
    let file : IsTrue (is_file_word (string_bytes c.file-item.result)) =
    subst (λ w. IsTrue (is_file_word w)) c.deref.ensures (sym c.names_file.ensures ∙ c.if-not-names_file.false) in
    let map_file : IsTrue (is_file_word (string_bytes c.map-item.result)) =
    subst (λ w. IsTrue (is_file_word w)) c.deref-else-not-names_file.ensures
    (sym c.names_file-else-not-names_file.ensures ∙ c.if-not-names_file-2.false) in
    let behind = c.split_at.ensures.back_len in
    let fits = c.loop-rest.invariant.fits in
    record {
      fits = omega (arith, behind, fits);
      prefix = prefix_next (texts c.args.words.now) (texts c.loop-rest.rest.now) (texts c.split_at.result.1.now) _ _ whole file map_file
          c.loop-rest.invariant.prefix;
    }

pub returns-clause-even : goal.returns-clause-even
returns-clause-even c =
    let all = length-map c.args.words.now string_bytes in
    let left = length-map c.loop-rest.rest.now string_bytes in
    let n : length c.args.words.now - length c.loop-rest.rest.now ≡ length (texts c.args.words.now) - length (texts c.loop-rest.rest.now) =
    omega (arith, all, left) in
    prefix_even _ c.loop-rest.invariant.prefix.inputs
    (prefix_taken (texts c.args.words.now) (texts c.loop-rest.rest.now) (length c.args.words.now - length c.loop-rest.rest.now) n
    c.loop-rest.invariant.prefix).0
