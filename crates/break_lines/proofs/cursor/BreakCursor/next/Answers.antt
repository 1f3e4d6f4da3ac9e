use Rattle.std.proofs.Common.{◌≡◌, ◌<◌, ◌∙◌, ◌+◌, ◌≤◌, [], length, refl, sym, ap, arith}
use Rattle.blob_grammar.specs.Reader.{tail}
use Rattle.sequence_points.specs.Written.{first_of}
use Rattle.ppdb_tables.specs.RawOf.{raw_of}
use Rattle.ppdb_verify.specs.Views.{tables_of}
use Rattle.break_lines.{specs.Walks.{breaks_now}, proofs.Methods.{method_next, none_after, none_left}}
use Rattle.break_lines.proofs.cursor.BreakCursor.next.Goals as goal

pub methods-preserved : goal.methods-preserved
methods-preserved g c =
    let s = c.methods.self-inside in
    let raw = raw_of (tables_of s.file) in
    let shape = c.facts.ensures.rules.shape.methods in
    let count = c.count.ensures.rows in
    let less : s.done < length raw.methods = omega arith in
    let within = c.methods.invariant.within in
    let before = c.methods.invariant.cost in
    let step = c.method_breaks-self-inside.ensures.step in
    record {
      within = omega (arith, less);
      same = method_next raw s.document s.line s.done (s.done + 1) s.current c.method_breaks-self-inside.result refl less
          (none_left (breaks_now s.current) c.next_now.result c.next_now.ensures.answer c.in_default.not-Some)
          c.method_breaks-self-inside.ensures.breaks
          ∙ c.methods.invariant.same;
      cost = omega (arith, less, before, step);
      later = omega (arith, step);
    }

pub returns-then-self-count-clause-answer : goal.returns-then-self-count-clause-answer
returns-then-self-count-clause-answer g c =
    let s = c.methods.self-inside in
    let raw = raw_of (tables_of s.file) in
    let shape = c.facts.ensures.rules.shape.methods in let count = c.count.ensures.rows in let all = c.if-self-count.true in
    let past : length raw.methods ≤ s.done = omega (arith, shape, count, all) in
    let none = none_left (breaks_now s.current) c.next_now.result c.next_now.ensures.answer c.in_default.not-Some in
    let items : c.args.self.now.items ≡ [] = sym c.methods.invariant.same ∙ none_after raw s.document s.line s.done s.current past none in
    ap first_of (sym items)

pub returns-then-self-count-clause-left : goal.returns-then-self-count-clause-left
returns-then-self-count-clause-left g c =
    let s = c.methods.self-inside in
    let raw = raw_of (tables_of s.file) in
    let shape = c.facts.ensures.rules.shape.methods in let count = c.count.ensures.rows in let all = c.if-self-count.true in
    let past : length raw.methods ≤ s.done = omega (arith, shape, count, all) in
    let none = none_left (breaks_now s.current) c.next_now.result c.next_now.ensures.answer c.in_default.not-Some in
    let items : c.args.self.now.items ≡ [] = sym c.methods.invariant.same ∙ none_after raw s.document s.line s.done s.current past none in
    none_after raw s.document s.line s.done c.next_now.new.current past (c.next_now.ensures.left ∙ ap tail none) ∙ ap tail (sym items)
