use Rattle.std.proofs.Common.{arith}
use Rattle.ppdb_verify_rules.specs.Blobs.{in_blob}
use Rattle.ppdb_verify_total.proofs.Sums.{one-over, one-within}
use Rattle.ppdb_verify_total.proofs.sum.add.Goals as goal

pub returns-then-total-len-clause-sum : goal.returns-then-total-len-clause-sum
returns-then-total-len-clause-sum c =
    one-over c.args.total (record { at = in_blob c.args.table c.args.row c.args.column c.args.byte; len = c.args.len }) (omega arith)

pub returns-clause-sum : goal.returns-clause-sum
returns-clause-sum c = one-within c.args.total (record { at = in_blob c.args.table c.args.row c.args.column c.args.byte; len = c.args.len }) (omega arith)
