use Rattle.std.proofs.Common.{sym, ◌∙◌}
use Rattle.ppdb_verify.specs.Views.{raw_file}
use Rattle.ppdb_merge_names.{specs.References.{of_entry}, proofs.Going.{goes-none}, proofs.RowNames.{entry_later, entry_dropped}}
use Rattle.ppdb_merge_names.proofs.rows.add_entry.Goals as goal

pub returns-then-not-first : goal.returns-then-not-first
returns-then-not-first c =
    goes-none c.args.imager.now (of_entry c.args.first c.args.imager.now.map (raw_file c.args.file.now).entry)
    (entry_later c.args.first c.args.imager.now.map (raw_file c.args.file.now).entry c.if-not-first.true)

pub returns-then-drops : goal.returns-then-drops
returns-then-drops c =
    goes-none c.args.imager.now (of_entry c.args.first c.args.imager.now.map (raw_file c.args.file.now).entry)
    (entry_dropped c.args.first c.args.imager.now.map (raw_file c.args.file.now).entry c.if-not-first.false
    (rw c.head.ensures.head at (sym c.drops.ensures ∙ c.if-drops.true)))
