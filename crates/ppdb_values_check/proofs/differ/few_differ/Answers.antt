use Rattle.std.{proofs.Common.{◌≡◌, ◌∙◌, sym, ap, true}, specs.Ordering.{is_eq}}
use Rattle.ppdb_values_check.{proofs.Listed.{says_no}, proofs.Pairs.{not_pairs}, specs.Pairs.{AreApart}}
use Rattle.ppdb_values_check.proofs.differ.few_differ.Goals as goal

pub returns-then-is_eq : goal.returns-then-is_eq
returns-then-is_eq g c = says_no (not_pairs (AreApart g.K.Ord.cmp) c.args.keys.now c.loop-j.j c.loop-i.i c.index-keys-j.result c.index-keys-i.result
    c.loop-j-test.true c.loop-i-test.true c.index-keys-j.is c.index-keys-i.is
    (λ apart. let equal : is_eq (g.K.Ord.cmp c.index-keys-j.result c.index-keys-i.result) ≡ true = ap is_eq (sym c.cmp.ensures)
    ∙ (sym c.is_eq.ensures ∙ c.if-is_eq.true) in cc))
