use Rattle.std.proofs.Common.{arith, sym, ap, subst, ◌∙◌, ◌≡◌, ◌≤◌, length}
use Rattle.ppdb_maps_text.specs.MapTexts.{map_text}
use Rattle.ppdb_maps.specs.Text.{IsMapOf}
use Rattle.map_compose.{specs.Composed.{composed}, specs.Composition.{IsTextOfBoth}, proofs.Readable.{composed_is_readable, text_of_both}}
use Rattle.map_compose.proofs.compose.compose_maps.Goals as goal

pub returns-then-bytes-clause-refused : goal.returns-then-bytes-clause-refused
returns-then-bytes-clause-refused c =
    let counts = c.in_ok-text.ensures in
    let long = c.if-bytes.true in (
      c.in_default.ensures,
      (
        map_text (composed c.args.first.now c.args.second.now),
        text_of_both c.args.first.now c.args.second.now c.facts.ensures c.facts-2.ensures c.in_default.ensures,
        c.len-bytes.ensures ∙ counts.length,
      ),
      omega (arith, long),
    )

pub returns-clause-read : goal.returns-clause-read
returns-clause-read c =
    let counts = c.in_ok-text.ensures in
    let few : c.in_ok-text.text.length ≤ 134217728 = (let test = c.if-bytes.false in let len = c.len-bytes.ensures in omega (arith, test, len)) in
    let is : c.into_text.result ≡ map_text (composed c.args.first.now c.args.second.now) = c.into_text.ensures ∙ counts.kept few in
    subst (λ text. IsMapOf text (composed c.args.first.now c.args.second.now)) (sym is)
    (c.texts_are_read.ensures (composed c.args.first.now c.args.second.now)
    (composed_is_readable c.args.first.now c.args.second.now c.facts.ensures c.facts-2.ensures c.in_default.ensures))

pub returns-clause-both : goal.returns-clause-both
returns-clause-both c =
    let counts = c.in_ok-text.ensures in
    let few : c.in_ok-text.text.length ≤ 134217728 = (let test = c.if-bytes.false in let len = c.len-bytes.ensures in omega (arith, test, len)) in
    let is : c.into_text.result ≡ map_text (composed c.args.first.now c.args.second.now) = c.into_text.ensures ∙ counts.kept few in
    subst (IsTextOfBoth c.args.first.now c.args.second.now) (sym is)
    (text_of_both c.args.first.now c.args.second.now c.facts.ensures c.facts-2.ensures c.in_default.ensures)

pub returns-clause-short : goal.returns-clause-short
returns-clause-short c =
    let counts = c.in_ok-text.ensures in
    let long = counts.length in
    let test = c.if-bytes.false in
    let len = c.len-bytes.ensures in
    let few : c.in_ok-text.text.length ≤ 134217728 = omega (arith, test, len) in
    let is : c.into_text.result ≡ map_text (composed c.args.first.now c.args.second.now) = c.into_text.ensures ∙ counts.kept few in
    let same = ap length is in
    omega (arith, same, long, few)
