use Rattle.std.proofs.Common.{◌∙◌, sym}
use Rattle.ppdb_show_lines.proofs.{Hexed.{hex_some, hex_none, digits_nil, digits_parts}, Putting.{put_none, put_piece, put_prefix, put_whole}}
use Rattle.ppdb_show_lines.proofs.values.put_hex.Goals as goal

pub returns-then-is_empty : goal.returns-then-is_empty
returns-then-is_empty g c = rw (hex_none c.args.bytes.now (sym c.is_empty.ensures ∙ c.if-is_empty.true)) c.put.ensures

pub runs-init : goal.runs-init
runs-init g c = put_none _ _ _

pub returns-in_err-put_run : goal.returns-in_err-put_run
returns-in_err-put_run g c =
    rw (hex_some c.args.bytes.now (sym c.is_empty.ensures ∙ c.if-is_empty.false))
    (put_prefix _ _ _ _ _ _ _ _ _ _ _ (rw (digits_parts c.runs.rest.now _ _ _ c.split_at.ensures.front c.split_at.ensures.back) at c.runs.invariant)
    c.from_residual.ensures.1 c.in_err-put_run.ensures)

pub runs-preserved : goal.runs-preserved
runs-preserved g c =
    put_piece _ _ _ _ _ _ _ _ _ (rw (digits_parts c.runs.rest.now _ _ _ c.split_at.ensures.front c.split_at.ensures.back) at c.runs.invariant)
    c.in_ok-put_run.ensures

pub returns : goal.returns
returns g c =
    rw (hex_some c.args.bytes.now (sym c.is_empty.ensures ∙ c.if-is_empty.false))
    (put_whole _ _ _ _ _ (rw (digits_nil c.runs.rest.now (sym c.is_empty-in-runs.ensures ∙ c.runs-test.false)) at c.runs.invariant))
