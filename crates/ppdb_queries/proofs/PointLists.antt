-- The last point of a method that is not after an offset.
use Rattle.std.{proofs.Common.{◌≡◌, ℕ, suc, List, [], ◌∷◌, sym, ap, subst, ◌∙◌, arith}, specs.Prelude.{Option, Some, None, All, nat_le, IfSome}, specs.List.{filter}}
use Rattle.std.{specs.List.{last_or}, specs.Option.{option_map_or}, proofs.lemmas.List.Elements.{All-filter}}
use Rattle.sequence_points.specs.{declared.point.Point.{Point}, Places.{Shown}}
use Rattle.ppdb_tables.specs.RawTables.{RawTables}
use Rattle.ppdb_values.specs.{declared.file.MethodValue.{MethodValue}, Parts.{last_point, points_of, signature_of}, RawFile.{RawFile}, Rules.{HasRow}}
use Rattle.ppdb_values.specs.Value.{value_of}
use Rattle.ppdb_verify_rows.specs.Points.{PointsAre}

-- what a cursor has are the points and the signature of the value
pub points_held : (raw : RawFile) (m : ℕ) (shown : Shown) → PointsAre raw m (Some shown) → shown.left.items ≡ points_of (value_of raw) m
points_held raw m shown are = sym (ap (λ (o : Option MethodValue). option_map_or (λ (e : MethodValue). e.points) o []) are.0)

pub signature_held : (raw : RawFile) (m : ℕ) (shown : Shown) → PointsAre raw m (Some shown) → shown.signature ≡ signature_of (value_of raw) m
signature_held raw m shown are = sym (ap (λ (o : Option MethodValue). option_map_or (λ (e : MethodValue). e.signature) o 0) are.0)

last_all : {X : Type 0} (P : X → Type 0) (found : Option X) (xs : List X) (x : X) → IfSome found P → All P xs → last_or found xs ≡ Some x → P x
last_all P (Some y) [] x h all is = let same : y ≡ x = cc in subst P same h
last_all P None [] x h all is = cc
last_all P found (y ∷ ys) x h all is = last_all P (Some y) ys x (all 0 y (omega arith)) (λ k d inside. all (suc k) d (omega arith)) is

-- the last point names a document that is there
pub last_there : (raw : RawTables) (items : List Point) (x : ℕ) (point : Point) → All (λ p. HasRow raw 0x30 p.document) items → last_point items x ≡ Some point
    → HasRow raw 0x30 point.document
last_there raw items x point all is =
    let P : Point → Type 0 = λ p. HasRow raw 0x30 p.document in
    last_all P None (filter (λ p. nat_le p.offset x) items) point tt (All-filter (λ p. nat_le p.offset x) P items all) is

pub last_is : (raw : RawFile) (m x : ℕ) (items : List Point) (found answer : Option Point) → items ≡ points_of (value_of raw) m → found ≡ last_point items x
    → found ≡ answer
    → last_point (points_of (value_of raw) m) x ≡ answer
last_is raw m x items found answer same is e = ap (λ (points : List Point). last_point points x) (sym same) ∙ sym is ∙ e
