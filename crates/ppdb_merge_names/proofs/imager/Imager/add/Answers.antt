use Rattle.std.proofs.Common.{sym, ap, ◌∙◌, [], ◌∷◌, ◌++◌}
use Rattle.ppdb_merge_names.{specs.References.{names}, specs.Imaging.{Imaging}, proofs.Going.{one-none, one-is}}
use Rattle.ppdb_merge_names.proofs.imager.Imager.add.Goals as goal

pub returns-in_default : goal.returns-in_default
returns-in_default c = one-none c.args.self.now (names c.args.place c.args.table c.args.row) c.image_of.result (sym c.image_of.ensures.image)
    (λ to image e. c.in_default.not-Row to image e)

pub returns : goal.returns
returns c = one-is c.args.self.now _ (names c.args.place c.args.table c.args.row) c.in-Row.to c.in-Row.image (sym c.in-Row.ensures.image)
    (rw c.in_ok-push.ensures.ok
    (ap (λ (s : Imaging). record {
      map = s.map;
      images = s.images ++ record { table = c.args.table; row = c.args.row; to = c.in-Row.to; image = c.in-Row.image } ∷ [];
    }) (c.self.view_is ∙ c.image_of.ensures.same)))
