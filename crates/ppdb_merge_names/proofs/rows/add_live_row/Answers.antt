use Rattle.std.proofs.Common.{sym, ◌∙◌, [], ◌∷◌}
use Rattle.ppdb_merge_names.{specs.References.{inside}, proofs.Going.{goes-as, goes-none}, proofs.Walked.{live_inside, live_gone, live_there}}
use Rattle.ppdb_merge_names.proofs.rows.add_live_row.Goals as goal

pub returns-then-not-is_live : goal.returns-then-not-is_live
returns-then-not-is_live c =
    let s = c.args.imager.now in
    rw c.is_live.ensures.same
    (goes-none s (live_inside s.map c.args.table c.args.row c.args.column (c.args.named ∷ []))
    (live_gone s.map c.args.table c.args.row c.args.column c.args.named (sym c.is_live.ensures.live ∙ c.if-not-is_live.true)))

pub returns : goal.returns
returns c =
    let s = c.args.imager.now in
    goes-as s c.add.new.self (inside c.args.table c.args.row c.args.column (c.args.named ∷ []))
    (live_inside s.map c.args.table c.args.row c.args.column (c.args.named ∷ [])) c.add.result
    (sym (live_there s.map c.args.table c.args.row c.args.column c.args.named (sym c.is_live.ensures.live ∙ c.if-not-is_live.false)))
    (rw (c.is_live.ensures.same, c.byte_of.ensures) at c.add.ensures)
