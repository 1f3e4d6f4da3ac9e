use Rattle.std.proofs.Common.{inl, inr}
use Rattle.metadata_root.proofs.{Listings.{none_from}, FirstOfRoot.{found_at}, FirstOfPrefix.{missing_is_first, outside_is_first, streams_accepted, all_inside}}
use Rattle.metadata_root.proofs.root.judge_streams.Goals as goal
use Rattle.metadata_root.proofs.root.judge_streams.Goals.{then-is_none-via-then-is_none, then-is_none-via-else-is_none+then-is_none-2}

pub returns-then-is_none-clause-first : goal.returns-then-is_none-clause-first
returns-then-is_none-clause-first c =
    missing_is_first c.args.bytes.now c.args.listing.now c.requires c.fault_at.result c.fault_at.ensures
    (elim c.then-is_none.branch [
      | then-is_none-via-then-is_none w ↦ inl (none_from c.args.listing.now.pdb w.if-is_none.ensures)
      | then-is_none-via-else-is_none+then-is_none-2 w ↦ inr (none_from c.args.listing.now.tables w.if-is_none-2.ensures)
    ])

pub returns-in-Some-clause-first : goal.returns-in-Some-clause-first
returns-in-Some-clause-first c =
    outside_is_first c.args.bytes.now c.args.listing.now c.requires c.if-is_none.ensures c.if-is_none-2.ensures c.in-Some.header c.fault_at-in-Some.result
    c.fault_at-in-Some.ensures
    (found_at c.args.listing.now.outside _ _ c.requires.outside c.in-Some.header c.in-Some.is)

pub returns-clause-accepted : goal.returns-clause-accepted
returns-clause-accepted c =
    streams_accepted c.args.bytes.now c.args.listing.now c.requires c.if-is_none.ensures c.if-is_none-2.ensures c.in_default.is

pub returns-clause-inside : goal.returns-clause-inside
returns-clause-inside c =
    all_inside c.args.bytes.now c.args.listing.now c.requires c.in_default.is
