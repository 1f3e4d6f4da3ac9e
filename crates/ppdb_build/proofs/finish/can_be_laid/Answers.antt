use Rattle.std.proofs.Common.{◌≡◌, ℕ, List, length, sym, ap, subst, ◌∙◌, arith}
use Rattle.ppdb_build_canon.specs.Canonical.{counts}
use Rattle.ppdb_build_bytes.{specs.Drafts.{file_from, CanBeLaid}, proofs.Laid.{draft_length, draft_file, draft_fit}}
use Rattle.ppdb_build.proofs.{Counted.{draft_guids}, Finished.{counts_are}}
use Rattle.ppdb_build.proofs.finish.can_be_laid.Goals as goal

pub returns-clause-laid : goal.returns-clause-laid
returns-clause-laid c =
    let value = c.requires.value.value in
    let is = c.requires.value.is in
    let head = c.args.head.now in
    let draft = c.args.draft.now in
    let none = c.requires.none value is in
    let all : c.args.counts.now ≡ counts value = c.requires.counts ∙ counts_are value head draft is in
    let reread = λ (id : List ℕ) (long : length id ≡ 20). c.canonical_rows_are_reread.ensures value id is.sound is.types none long in
    let own = reread value.id is.types.id in
    let long = draft_guids value draft is.types is.is_draft in
    let laid : CanBeLaid value.entry c.args.counts.now draft = record {
      entry_fits = let most = own.laid.shape.small 0x06 in let at = own.laid.entry in omega (arith, most, at);
      guids = long;
      fit = draft_fit value draft c.args.counts.now is.is_draft all long own.laid.cells;
      size = λ id is_long. let most = (reread id is_long).laid.size in omega
          (arith, draft_length value draft c.args.counts.now id id is.is_draft all is_long is_long, most);
    } in
    subst (λ entry. CanBeLaid entry c.args.counts.now draft) (sym is.entry) laid

pub returns-clause-file : goal.returns-clause-file
returns-clause-file c = λ value is id long.
    let draft = c.args.draft.now in
    let all : c.args.counts.now ≡ counts value = c.requires.counts ∙ counts_are value c.args.head.now draft is in
    let reread = c.canonical_rows_are_reread.ensures value id is.sound is.types (c.requires.none value is) long in
    ap (λ entry. file_from id entry c.args.counts.now draft) is.entry
    ∙ draft_file value draft c.args.counts.now id is.is_draft all reread.laid.cells
