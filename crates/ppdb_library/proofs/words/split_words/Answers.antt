use Rattle.std.proofs.{Common.{rules, ◌≡◌, ◌≢◌, ◌∙◌, ◌++◌, [], ◌∷◌, append-nil, string_bytes, ap, sym, arith}, lemmas.List.{map-append}}
use Rattle.std.{proofs.lemmas.List.Elements.{All-from_get_or, All-push}, proofs.lemmas.Str.Pattern.{split_parts}, specs.List.{All}}
use Rattle.ppdb_run_words.specs.Words.{texts}
use Rattle.ppdb_library.{specs.Words.{ended}, proofs.Splits.{nothing_left, one_word}}
use Rattle.ppdb_library.proofs.words.split_words.Goals as goal

pub loop-word-preserved : goal.loop-word-preserved
loop-word-preserved c =
    let parts = rw c.in-Some.is at (split_parts 0 c.loop-word.rest.now c.split_once.result c.split_once.ensures.cases (omega arith)) in
    let more = texts c.loop-word.words.items ++ c.in-Some.word.now ∷ [] in
    let now : texts c.push.new.self.items ≡ more =
    ap texts c.in_ok-push.ensures.items ∙ (map-append string_bytes c.loop-word.words.items (c.in_ok-from_str.field-0 ∷ []) ∙
    ap (λ word. texts c.loop-word.words.items ++ word ∷ []) c.in_ok-from_str.ensures.ok) in
    record {
      text = search rules;
      all = one_word c.args.text.now (texts c.loop-word.words.items) c.loop-word.rest.now c.in-Some.word.now c.in-Some.others.now
          c.loop-word.invariant.all parts.0
          ∙ ap (λ words. ended words ++ c.in-Some.others.now) (sym now);
      whole = rw now (All-push (λ word. All (λ byte. byte ≢ 0) word) (texts c.loop-word.words.items) c.in-Some.word.now c.loop-word.invariant.whole
          (All-from_get_or (λ byte. byte ≢ 0) c.in-Some.word.now 0 parts.1));
    }

pub returns : goal.returns
returns c =
    let parts = rw c.in_default.is at (split_parts 0 c.loop-word.rest.now c.split_once.result c.split_once.ensures.cases (omega arith)) in
    let words = texts c.loop-word.words.items in
    record {
      are = c.loop-word.invariant.all ∙ (ap (λ rest. ended words ++ rest) (nothing_left c.args.text.now (ended words) c.loop-word.rest.now c.requires
          c.loop-word.invariant.all parts) ∙ append-nil (ended words));
      whole = c.loop-word.invariant.whole;
    }
