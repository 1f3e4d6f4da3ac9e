use Rattle.std.{proofs.Common.{◌∙◌, ap, cond, Some}, specs.Prelude.{bytes_eq}, specs.BTreeMap.{is_at}, specs.Map.{lookup}}
use Rattle.ppdb_merge_fits.specs.Names.{row_of}
use Rattle.ppdb_merge_fits.proofs.documents.Names.add.Goals as goal
use Rattle.ppdb_maps.proofs.Named.{Name, names, found_after}

pub returns : goal.returns
returns c = λ other.
    ap (lookup (is_at (λ (x : Name). names other x.items))) c.in_ok-insert.ensures.entries
    ∙ found_after c.args.self.now.rows.entries c.in_ok-name.name c.args.row other
    ∙ ap (λ n. cond (bytes_eq n other) (Some c.args.row) (row_of c.args.self.now other)) c.in_ok-name.ensures.items
