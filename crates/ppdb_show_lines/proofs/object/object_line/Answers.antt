use Rattle.std.{proofs.Common.{◌≡◌, ℕ, List, [], ◌∷◌, ◌++◌, ◌∙◌, ap, arith}, specs.List.{flat_map}, proofs.lemmas.List.{take_all}}
use Rattle.json.specs.Token.{Token, begin_object, end_object}
use Rattle.serde_json.specs.{Data.{object}, Written.{compact_text}}
use Rattle.ppdb_show_lines.{specs.Lines.{json_of, members_of}, specs.Tokens.{member_tokens, object_tokens}, specs.Views.{line_of}, proofs.Printed.{object_printed}}
use Rattle.ppdb_show_lines.proofs.object.object_line.Goals as goal

pub returns : goal.returns
unfolding json_of
returns c =
    let shown = line_of c.args.word.now c.args.parts.now in
    let all = take_all c.loop-place.place-index c.args.order.now (omega arith) in
    let put : c.end_object.new.self.tokens ≡ object_tokens c.args.order.now shown =
    c.in_ok-end_object.ensures.ok
    ∙ ap (λ (ts : List Token). ts ++ end_object ∷ []) (c.loop-place.invariant.tokens
    ∙ ap (λ (places : List ℕ). begin_object ∷ flat_map (member_tokens shown) places) all) in
    let before : c.end_object.new.self.before ≡ [] = c.end_object.ensures.room.0 ∙ c.loop-place.invariant.before in
    c.in_ok-push.ensures.items
    ∙ ap (λ (text : List ℕ). text ++ 10 ∷ []) {y = compact_text (object (members_of shown))}
    (c.into_inner-text.ensures.items ∙ rw (before, put) (object_printed c.args.order.now shown c.requires))
