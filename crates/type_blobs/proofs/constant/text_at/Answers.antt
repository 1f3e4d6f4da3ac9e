use Rattle.std.proofs.Common.{sym, refl, drop}
use Rattle.type_blobs.proofs.BodiesTaken.{slice-from, text_whole, text_odd}
use Rattle.type_blobs.proofs.constant.text_at.Goals as goal

pub returns-then-is_text : goal.returns-then-is_text
returns-then-is_text c =
    let same = slice-from c.args.blob.now c.args.at in
    rw same (text_whole c.args.limits c.args.blob.now c.args.at (drop c.args.at c.args.blob.now) c.requires.within refl (rw same at (sym c.if-is_text.ensures)))

pub returns-else-is_text : goal.returns-else-is_text
returns-else-is_text c =
    let same = slice-from c.args.blob.now c.args.at in
    rw c.out_of_range.ensures (text_odd c.args.limits c.args.blob.now c.args.at (drop c.args.at c.args.blob.now) refl (rw same at (sym c.if-is_text.ensures)))
