-- The point that was found, and the name of its document.
use Rattle.std.{proofs.Common.{◌≡◌, ℕ, ◌++◌, List, [], ◌∷◌, sym, ap, ◌∙◌}, specs.Prelude.{Option, Some, None, flat_map, unwrap_or, option_map}}
use Rattle.ppdb_tables.specs.declared.rows.DocumentRow.{DocumentRow}
use Rattle.ppdb_values.specs.{Documents.{document_of}, Parts.{last_point, points_of}, RawFile.{RawFile}, Value.{value_of}}
use Rattle.ppdb_queries.specs.{declared.points.PointAt.{PointAt}, Points.{PointIs}}
use Rattle.ppdb_show.specs.{Query.{document_name, line_of_point, point_found}, QueryWalk.{HasWholeName, found_line}}

-- the line of the point that was found is that of the method's last point
pub found_is : (raw : RawFile) (m x : ℕ) (found : Option PointAt) → PointIs raw m x found
    → found_line found ≡ line_of_point raw m (last_point (points_of (value_of raw) m) x)
found_is raw m x None is = sym (ap (line_of_point raw m) is)
found_is raw m x (Some at) is =
    let called : document_name raw.tables at.point.document ≡ (document_of raw.tables is.document).name =
    ap (λ (o : Option DocumentRow). unwrap_or (option_map (λ (document : DocumentRow). (document_of raw.tables document).name) o) []) is.document_there in
    ap (λ (name : List ℕ). point_found at.point at.signature name) (sym (called ∙ is.name.text))
    ∙ ap (λ (signature : ℕ). point_found at.point signature (document_name raw.tables at.point.document)) is.signature ∙ sym (ap (line_of_point raw m) is.point)

pub found_whole : (raw : RawFile) (m x : ℕ) (found : Option PointAt) → PointIs raw m x found → HasWholeName found
found_whole raw m x None is = tt
found_whole raw m x (Some at) is = is.name.whole

-- ---- the parts of a name, joined one after the other

-- what the parts that are left make, the first after these bytes and each other after the separator
abbrev pub parts_after : List ℕ → List ℕ → List (List ℕ) → List ℕ
parts_after sep between [] = []
parts_after sep between (part ∷ parts) = between ++ (part ++ flat_map (λ part. sep ++ part) parts)
