use Rattle.std.proofs.{Common.{◌++◌, take, drop, ap, ◌∙◌}, lemmas.List.{drop-drop}}
use Rattle.ppdb_build_bytes.proofs.layout.set_id.Goals as goal

pub returns : goal.returns
returns c =
    ap (λ bytes. take 112 c.args.file.now ++ (bytes ++ drop 20 (drop 112 c.args.file.now))) c.copy_from_slice.ensures.after
    ∙ ap (λ rest. take 112 c.args.file.now ++ (c.args.id.now ++ rest)) (drop-drop 20 112 c.args.file.now)
