-- Lines, one after the other, in a form.
use Rattle.std.proofs.{Common.{◌≡◌, List, [], ◌∷◌, ◌++◌, refl}, lemmas.List.{append-nil}, lemmas.Grind.{flat_map-append}}
use Rattle.ppdb_show_lines.specs.{declared.form.Form.{Form}, Lines.{Line}, Forms.{put_as, lines_as}}

pub one_line : (form : Form) (shown : Line) → lines_as form (shown ∷ []) ≡ put_as form shown
unfolding lines_as
one_line form shown = append-nil (put_as form shown)

pub no_lines : (form : Form) → lines_as form [] ≡ []
unfolding lines_as
no_lines form = refl

pub more_lines : (form : Form) (xs ys : List Line) → lines_as form (xs ++ ys) ≡ lines_as form xs ++ lines_as form ys
unfolding lines_as
more_lines form xs ys = flat_map-append (put_as form) xs ys
