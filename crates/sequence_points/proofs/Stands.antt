-- What records say of the points that they make: their sums are the last point's offset, and the start of the last one that is not hidden.
use Rattle.std.{proofs.Common.{◌≡◌, ℕ, ◌+◌, List, [], ◌∷◌, ◌++◌, Option, Some, None, ℤ, pos, ◌+ℤ◌, refl, ap, ◌∙◌, arith}, specs.Prelude.{is_some}}
use Rattle.std.specs.Option.{option_map_or}
use Rattle.sequence_points.specs.{declared.point.Point.{Point}, declared.place.Start.{Start}, Records.{Entry, header, hidden, visible, in_document, Sums, sums}}
use Rattle.sequence_points.{specs.Points.{document_after}, proofs.Sums.{IsStarted, sums-push, document-push, started-push}}

-- the offset of the last point
abbrev pub last_offset : Option Point → ℕ
last_offset last = option_map_or (λ q. q.offset) last 0

abbrev pub line_of : Option Start → ℕ
line_of None = 0
line_of (Some start) = start.line

abbrev pub column_of : Option Start → ℕ
column_of None = 0
column_of (Some start) = start.column

pub record Stands (entries : List Entry) (last : Option Point) (start : Option Start) (document : ℕ) : Type 0 where
  pub started : IsStarted entries
  pub has_point : (sums entries).has_point ≡ is_some last
  pub has_visible : (sums entries).has_visible ≡ is_some start
  pub offset : (sums entries).offset ≡ last_offset last
  pub line : (sums entries).line ≡ pos (line_of start)
  pub column : (sums entries).column ≡ pos (column_of start)
  pub document_is : document_after entries ≡ document

pub stands_header : (signature row : ℕ) → Stands (header signature row ∷ []) None None row
stands_header signature row = record { started = tt; has_point = refl; has_visible = refl; offset = refl; line = refl; column = refl; document_is = refl }

pub stands_document : (es : List Entry) (last : Option Point) (start : Option Start) (document row : ℕ) → Stands es last start document
    → Stands (es ++ in_document row ∷ []) last start row
stands_document es last start document row s =
    let push = sums-push es (in_document row) in
    record {
      started = started-push es (in_document row);
      has_point = ap (λ (x : Sums). x.has_point) push ∙ s.has_point;
      has_visible = ap (λ (x : Sums). x.has_visible) push ∙ s.has_visible;
      offset = ap (λ (x : Sums). x.offset) push ∙ s.offset;
      line = ap (λ (x : Sums). x.line) push ∙ s.line;
      column = ap (λ (x : Sums). x.column) push ∙ s.column;
      document_is = document-push es (in_document row);
    }

pub stands_hidden : (es : List Entry) (last : Option Point) (start : Option Start) (document step : ℕ) (p : Point) → Stands es last start document
    → last_offset last + step ≡ p.offset → Stands (es ++ hidden step ∷ []) (Some p) start document
stands_hidden es last start document step p s o =
    let push = sums-push es (hidden step) in
    record {
      started = started-push es (hidden step);
      has_point = ap (λ (x : Sums). x.has_point) push;
      has_visible = ap (λ (x : Sums). x.has_visible) push ∙ s.has_visible;
      offset = ap (λ (x : Sums). x.offset) push ∙ (let e = s.offset in omega arith);
      line = ap (λ (x : Sums). x.line) push ∙ s.line;
      column = ap (λ (x : Sums). x.column) push ∙ s.column;
      document_is = document-push es (hidden step) ∙ s.document_is;
    }

pub stands_visible : (es : List Entry) (last : Option Point) (start : Option Start) (document step lines : ℕ) (columns line column : ℤ) (p : Point) (at : Start)
    → Stands es last start document → last_offset last + step ≡ p.offset
    → pos (line_of start) +ℤ line ≡ pos at.line → pos (column_of start) +ℤ column ≡ pos at.column → Stands (es ++ visible step lines columns line column ∷ [])
    (Some p) (Some at) document
stands_visible es last start document step lines columns line column p at s o l k =
    let e = visible step lines columns line column in
    let push = sums-push es e in
    record {
      started = started-push es e;
      has_point = ap (λ (x : Sums). x.has_point) push;
      has_visible = ap (λ (x : Sums). x.has_visible) push;
      offset = ap (λ (x : Sums). x.offset) push ∙ (let f = s.offset in omega arith);
      line = ap (λ (x : Sums). x.line) push ∙ ap (λ z. z +ℤ line) s.line ∙ l;
      column = ap (λ (x : Sums). x.column) push ∙ ap (λ z. z +ℤ column) s.column ∙ k;
      document_is = document-push es e ∙ s.document_is;
    }
