use Rattle.std.proofs.Common.{arith}
use Rattle.ppdb_tables.{specs.RawOf.{raw_of}, proofs.NumberedRows.{row_within}}
use Rattle.ppdb_verify_rules.proofs.scopes.is_list_out.Goals as goal

pub scope-requires : goal.scope-requires
scope-requires g c =
    let w = row_within (raw_of c.args.tables.now).scopes c.args.row c.args.scope.now c.requires.there in
    record { there = (omega (arith, w.0), omega (arith, w.1, c.shape.ensures.scopes)) }
