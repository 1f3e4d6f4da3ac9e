use Rattle.std.proofs.{Common.{◌≡◌, ◌-◌, ◌<◌, ◌≤◌, length, take, drop, arith, ◌∙◌, ap}, lemmas.List.{take_rest, length-drop, length-take-le}}
use Rattle.blob_grammar.{specs.Reader.{character_len}, proofs.Characters.{character_len-within, character-there}}
use Rattle.blob_grammar.proofs.character.character_field.Goals as goal

pub slice_bounds-result-end : goal.slice_bounds-result-end
slice_bounds-result-end c =
    let left = take (length c.args.blob.now - c.args.at) (drop c.args.at c.args.blob.now) in
    let len : c.character_len-len.result ≤ length left = omega (arith, c.character_len-len.ensures, character_len-within left) in
    omega (arith, length-take-le c.character_len-len.result left len)

pub returns-clause-found : goal.returns-clause-found
returns-clause-found c =
    let left = drop c.args.at c.args.blob.now in
    let e = take_rest c.args.blob.now c.args.at in
    let is : c.character_len-len.result ≡ character_len left = c.character_len-len.ensures ∙ ap character_len e in
    let some : 0 < c.character_len-len.result = omega (arith, c.if-len-eq0.false) in
    let len : c.character_len-len.result ≤ length left = omega (arith, is, character_len-within left) in
    rw e (
      character-there left c.character_len-len.result is some,
      omega (arith, length-take-le c.character_len-len.result left len, length-drop c.args.at c.args.blob.now),
    )
