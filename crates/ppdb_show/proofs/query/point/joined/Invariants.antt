use Rattle.std.{proofs.Common.{◌≡◌, ◌++◌, length}, specs.Prelude.{None}, specs.List.{join_by}}
use Rattle.ppdb_show.proofs.Names.{parts_after}
use Rattle.ppdb_show.proofs.query.point.joined.Given as goal

abbrev pub invariant-parts : goal.invariant-parts
invariant-parts l = record {
  whole : l.name.left.fault ≡ None;
  separator : l.separator ≡ l.fn.name.separator;
  made : l.joined ++ parts_after l.separator l.between l.name.left.items
      ≡ join_by (λ part. part) l.fn.name.separator l.fn.name.left.items;
}

abbrev pub decreases-parts : goal.decreases-parts
decreases-parts l = length l.name.left.items
