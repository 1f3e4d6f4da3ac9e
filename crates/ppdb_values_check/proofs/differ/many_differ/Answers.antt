use Rattle.std.{proofs.Common.{◌≡◌, Bool, true, false, not, refl}, specs.BTreeSet.{contains}}
use Rattle.ppdb_values_check.{proofs.Keys.{repeated, differs, seen_next}, proofs.Listed.{says_no}, proofs.Pairs.{pairs_more}, specs.Pairs.{AreApart}}
use Rattle.ppdb_values_check.proofs.differ.many_differ.Goals as goal

old_key : (added has : Bool) → added ≡ not has → added ≡ false → has ≡ true
old_key added true e no_key = refl
old_key added false e no_key = cc

new_key : (added has : Bool) → added ≡ not has → added ≡ true → has ≡ false
new_key added true e is_new = cc
new_key added false e is_new = refl

pub returns-then-not-is_new : goal.returns-then-not-is_new
returns-then-not-is_new g c = says_no (repeated g.K.Ord.cmp c.args.keys.now c.loop-i.i c.index-keys-i.result c.loop-i-test.true c.index-keys-i.is
    c.loop-i.seen c.loop-i.invariant.seen
    (old_key c.in_ok-is_new.is_new (contains g.K.Ord.cmp c.loop-i.seen c.index-keys-i.result) c.in_ok-is_new.ensures.added c.if-not-is_new.true))

pub loop-i-preserved : goal.loop-i-preserved
loop-i-preserved g c = record {
  apart = pairs_more (AreApart g.K.Ord.cmp) c.args.keys.now c.loop-i.i c.loop-i.invariant.apart
      (differs g.K.Ord.cmp c.args.keys.now c.loop-i.i c.index-keys-i.result c.loop-i-test.true c.index-keys-i.is c.loop-i.seen c.loop-i.invariant.seen
      (new_key c.in_ok-is_new.is_new (contains g.K.Ord.cmp c.loop-i.seen c.index-keys-i.result) c.in_ok-is_new.ensures.added c.if-not-is_new.false));
  seen = seen_next g.K.Ord.cmp c.args.keys.now c.loop-i.i c.index-keys-i.result c.loop-i-test.true c.index-keys-i.is c.loop-i.seen c.loop-i.invariant.seen
      c.insert.new.self c.in_ok-is_new.ensures.updates;
}
