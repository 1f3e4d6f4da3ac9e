-- Points that were read have no step from line to line without a form: each step is a number that was stored.
use Rattle.std.proofs.Common.{◌≡◌, ℕ, zero, suc, ◌+◌, ◌*◌, ◌^◌, ◌<◌, Bool, true, false, List, [], ◌∷◌, ◌++◌, length, Option, Some, None, ℤ, pos, negsuc, ◌+ℤ◌, refl}
use Rattle.std.{proofs.Common.{sym, ap, subst, ◌∙◌, append_assoc, append-nil, arith}, specs.Prelude.{is_some, unsigned_abs, ◌-ℤ◌, if◌then◌else◌}}
use Rattle.std.{specs.Option.{option_map, option_to_list}, proofs.lemmas.Int.{ints}, proofs.lemmas.Bool.{and_parts}}
use Rattle.cli_ints.specs.{Compressed.{SpellsSigned, unrotated}, Shortest.{fits_half}}
use Rattle.ppdb_base.specs.declared.fault.BlobFault.{BlobFault}
use Rattle.blob_grammar.specs.Grammar.{Value, number, integer, octets, Form, unsigned, signed, Spells, Field, Cut, with_value, closed, IsAllowed}
use Rattle.blob_grammar.proofs.ReadRecords.{of_reading}
use Rattle.sequence_points.specs.declared.{point.Point.{Point}, point.PointLimits.{PointLimits}, point.Span.TheVariants.{Hidden, Lines}, place.Start.{Start}}
use Rattle.sequence_points.specs.Records.{Entry, header, hidden, visible, in_document, Sums, with_entry, sums, int_of, header_of, document_record, hidden_point}
use Rattle.sequence_points.specs.{Records.{visible_point, point_of_fields, record_of, sequence_points}, Ranges.{is_line}, Points.{PointsReading, document_after}}
use Rattle.sequence_points.specs.{Points.{point_of, points_after}, Places.{start_after}, Written.{last_start, if_large, large_step, large_steps, numbered}}
use Rattle.sequence_points.proofs.{Before.{last_start-push}, Stands.{line_of}, Sums.{sums-push}, WellRead.{points-push}}

-- ---- a number that is stored has a form

unrotated_fits : (half u : ℕ) → u < 2 * half → fits_half half (unrotated half u) ≡ true
unrotated_fits half u less = grind (arith, ints)

fits_more : (few many : ℕ) (z : ℤ) → few < many → fits_half few z ≡ true → fits_half many z ≡ true
fits_more few many (pos n) less h = grind arith
fits_more few many (negsuc n) less h = grind arith

signed_fits : (bytes : List ℕ) (z : ℤ) → SpellsSigned bytes z → fits_half (2 ^ 28) z ≡ true
signed_fits [] z h = absurd h.1
signed_fits (b ∷ []) z h = fits_more (2 ^ 6) (2 ^ 28) z (omega arith) (rw h.2 (unrotated_fits (2 ^ 6) h.0 (omega (arith, h.1.0, h.1.1))))
signed_fits (b ∷ c ∷ []) z h = fits_more (2 ^ 13) (2 ^ 28) z (omega arith) (rw h.2 (unrotated_fits (2 ^ 13) h.0 (omega (arith, h.1.1, h.1.2, h.1.3))))
signed_fits (b ∷ c ∷ d ∷ []) z h = absurd h.1
signed_fits (b ∷ c ∷ d ∷ e ∷ []) z h = rw h.2 (unrotated_fits (2 ^ 28) h.0 (omega (arith, h.1.1, h.1.2, h.1.3, h.1.4, h.1.5)))
signed_fits (b ∷ c ∷ d ∷ e ∷ f ∷ bs) z h = absurd h.1

-- the value of a signed field has one
signed_read : (form : Form) (bytes : List ℕ) (v : Value) (after : List ℕ) → Some signed ≡ Some form → Spells form bytes v after
    → fits_half (2 ^ 28) (int_of v) ≡ true
signed_read form bytes v after e s = let same : form ≡ signed = cc in by_value v (subst (λ (f : Form). Spells f bytes v after) same s)
  where
    by_value : (w : Value) → Spells signed bytes w after → fits_half (2 ^ 28) (int_of w) ≡ true
    by_value (number n) t = absurd t
    by_value (integer z) t = signed_fits bytes z t
    by_value (octets xs) t = absurd t

-- ---- one more point

steps_push_from : (before ps : List Point) (p : Point)
    → large_steps before (ps ++ p ∷ []) ≡ large_steps before ps ++ option_to_list
    (option_map (numbered (length (before ++ ps) + 1)) (large_step (last_start (before ++ ps)) p.span))
steps_push_from before [] p =
    append-nil (option_to_list (option_map (numbered (length before + 1)) (large_step (last_start before) p.span)))
    ∙ ap (λ (b : List Point). option_to_list (option_map (numbered (length b + 1)) (large_step (last_start b) p.span))) (sym (append-nil before))
steps_push_from before (q ∷ ps) p =
    let first = option_to_list (option_map (numbered (length before + 1)) (large_step (last_start before) q.span)) in
    ap (λ steps. first ++ steps)
    (steps_push_from (before ++ q ∷ []) ps p
    ∙ ap (λ (b : List Point). large_steps (before ++ q ∷ []) ps ++ option_to_list (option_map (numbered (length b + 1)) (large_step (last_start b) p.span)))
    (append_assoc before (q ∷ []) ps))
    ∙ sym (append_assoc first (large_steps (before ++ q ∷ []) ps) (option_to_list
    (option_map (numbered (length (before ++ q ∷ ps) + 1)) (large_step (last_start (before ++ q ∷ ps)) p.span))))

-- ---- records after which no step is large, and whose sums report the last start

record IsSteady (es : List Entry) : Type 0 where
  steps : large_steps [] (points_after [] es) ≡ []
  line : (sums es).line ≡ pos (line_of (last_start (points_after [] es)))
  starts : (sums es).has_visible ≡ is_some (last_start (points_after [] es))

-- a record that makes no point
no_point : (es : List Entry) (e : Entry) → point_of es e ≡ None → with_entry (sums es) e ≡ sums es → IsSteady es → IsSteady (es ++ e ∷ [])
no_point es e none stay h =
    let push = sums-push es e ∙ stay in
    let same : points_after [] (es ++ e ∷ []) ≡ points_after [] es = points-push [] es e
    ∙ ap (λ (o : Option Point). points_after [] es ++ option_to_list o) none ∙ append-nil (points_after [] es) in
    let line_is : (sums (es ++ e ∷ [])).line ≡ (sums es).line = ap (λ (x : Sums). x.line) push in
    let starts_is : (sums (es ++ e ∷ [])).has_visible ≡ (sums es).has_visible = ap (λ (x : Sums). x.has_visible) push in
    record {
      steps = ap (λ (ps : List Point). large_steps [] ps) same ∙ h.steps;
      line = line_is ∙ h.line ∙ ap (λ (ps : List Point). pos (line_of (last_start ps))) (sym same);
      starts = starts_is ∙ h.starts ∙ ap (λ (ps : List Point). is_some (last_start ps)) (sym same);
    }

-- a record that makes a point
one_point : (es : List Entry) (e : Entry) (p : Point) → point_of es e ≡ Some p → large_step (last_start (points_after [] es)) p.span ≡ None
    → (sums (es ++ e ∷ [])).line ≡ pos (line_of (start_after (last_start (points_after [] es)) p.span))
    → (sums (es ++ e ∷ [])).has_visible ≡ is_some (start_after (last_start (points_after [] es)) p.span) → IsSteady es → IsSteady (es ++ e ∷ [])
one_point es e p is small line starts h =
    let ps = points_after [] es in
    let same : points_after [] (es ++ e ∷ []) ≡ ps ++ p ∷ [] = points-push [] es e ∙ ap (λ (o : Option Point). ps ++ option_to_list o) is in
    let start : last_start (points_after [] (es ++ e ∷ [])) ≡ start_after (last_start ps) p.span = ap (λ (qs : List Point). last_start qs) same
    ∙ last_start-push ps p in
    record {
      steps = ap (λ (qs : List Point). large_steps [] qs) same ∙ steps_push_from [] ps p
          ∙ ap (λ (o : Option ℤ). large_steps [] ps ++ option_to_list (option_map (numbered (length ps + 1)) o)) small ∙ append-nil (large_steps [] ps)
          ∙ h.steps;
      line = line ∙ ap (λ (o : Option Start). pos (line_of o)) (sym start);
      starts = starts ∙ ap (λ (o : Option Start). is_some o) (sym start);
    }

no_step : (o : Option Start) → large_step o Hidden ≡ None
no_step None = refl
no_step (Some start) = refl

hidden_steady : (es : List Entry) (step : ℕ) → IsSteady es → IsSteady (es ++ hidden step ∷ [])
hidden_steady es step h =
    let push = sums-push es (hidden step) in
    one_point es (hidden step) (record { offset = (sums es).offset + step; document = document_after es; span = Hidden }) refl
    (no_step (last_start (points_after [] es)))
    (ap (λ (x : Sums). x.line) push ∙ h.line)
    (ap (λ (x : Sums). x.has_visible) push ∙ h.starts) h

-- the line of a point, read after records with these sums
abbrev LineIsRead : Sums → ℤ → Type 0
LineIsRead s line = (is_line (s.line +ℤ line) ≡ true) × (s.has_visible ≡ true → fits_half (2 ^ 28) line ≡ true)

a_line : (z : ℤ) → is_line z ≡ true → z ≡ pos (unsigned_abs z)
a_line (pos n) e = refl
a_line (negsuc n) e = cc

step_small : (o : Option Start) (sum line : ℤ) (b c d e : ℕ) → sum ≡ pos (line_of o) → sum +ℤ line ≡ pos b
    → (is_some o ≡ true → fits_half (2 ^ 28) line ≡ true) → large_step o (Lines b c d e) ≡ None
step_small None sum line b c d e is next fits = refl
step_small (Some last) sum line b c d e is next fits =
    let same : pos b -ℤ pos last.line ≡ line = omega (arith, ints) in
    ap if_large same ∙ ap (λ (t : Bool). let o : Option ℤ = if t then None else Some line in o) (fits refl)

visible_steady : (es : List Entry) (step lines : ℕ) (columns line column : ℤ) → LineIsRead (sums es) line → IsSteady es
    → IsSteady (es ++ visible step lines columns line column ∷ [])
visible_steady es step lines columns line column read h =
    let e = visible step lines columns line column in
    let push = sums-push es e in
    let s = sums es in
    let next : s.line +ℤ line ≡ pos (unsigned_abs (s.line +ℤ line)) = a_line (s.line +ℤ line) read.0 in
    one_point es e
    (record {
      offset = s.offset + step;
      document = document_after es;
      span = Lines (unsigned_abs (s.line +ℤ line)) (unsigned_abs (s.column +ℤ column))
          (unsigned_abs ((s.line +ℤ line) +ℤ pos lines)) (unsigned_abs ((s.column +ℤ column) +ℤ columns));
    })
    refl
    (step_small (last_start (points_after [] es)) s.line line (unsigned_abs (s.line +ℤ line)) (unsigned_abs (s.column +ℤ column))
    (unsigned_abs ((s.line +ℤ line) +ℤ pos lines)) (unsigned_abs ((s.column +ℤ column) +ℤ columns))
    h.line next (λ some. read.1 (h.starts ∙ some)))
    (ap (λ (x : Sums). x.line) push ∙ next)
    (ap (λ (x : Sums). x.has_visible) push) h

-- ---- while the fields are read

abbrev Begun : List Entry → List Value → Type 0
Begun [] begun = Unit {0}
Begun (e ∷ es) (offset ∷ lines ∷ columns ∷ line ∷ begun) = LineIsRead (sums (e ∷ es)) (int_of line)
Begun (e ∷ es) _ = Unit {0}

abbrev Holds : Cut Entry → Type 0
Holds c = IsSteady c.whole × Begun c.whole c.begun

start_read : (b : Bool) (form : Form) (bytes : List ℕ) (v : Value) (after : List ℕ) → b ≡ true → Some (if b then signed else unsigned) ≡ Some form
    → Spells form bytes v after → fits_half (2 ^ 28) (int_of v) ≡ true
start_read true form bytes v after e expected spelled = signed_read form bytes v after expected spelled
start_read false form bytes v after e expected spelled = cc

abbrev Allowed : ℕ → PointLimits → List Entry → List Value → Value → List ℕ → List ℕ → Type 0
Allowed column limits whole begun value bytes after = IsAllowed (sequence_points column limits) (record { whole = whole; begun = begun })
    (record { bytes = bytes; value = value }) after

begun_more : (column : ℕ) (limits : PointLimits) (whole : List Entry) (begun : List Value) (value : Value) (bytes after : List ℕ)
    → Allowed column limits whole begun value bytes after → Begun whole begun → Begun whole (begun ++ value ∷ [])
begun_more column limits [] begun value bytes after a b = tt
begun_more column limits (e ∷ es) [] value bytes after a b = tt
begun_more column limits (e ∷ es) (offset ∷ []) value bytes after a b = tt
begun_more column limits (e ∷ es) (offset ∷ lines ∷ []) value bytes after a b = tt
begun_more column limits (e ∷ es) (offset ∷ lines ∷ columns ∷ []) value bytes after a b =
    let s = sums (e ∷ es) in
    let both = and_parts (is_line (s.line +ℤ int_of value)) (is_line ((s.line +ℤ int_of value) +ℤ int_of lines)) a.allowed in
    (both.0, λ some. start_read s.has_visible a.form bytes value after some a.expected a.spelled)
begun_more column limits (e ∷ es) (offset ∷ lines ∷ columns ∷ line ∷ begun) value bytes after a b = b

-- ---- the record that fields make

header_made : (column : ℕ) (begun : List Value) (made : Entry) → header_of column begun ≡ Some made → IsSteady [] → IsSteady (made ∷ [])
header_made column [] made e h = cc
header_made zero (number signature ∷ []) made e h = cc
header_made (suc column) (number signature ∷ []) made e h =
    let same : header signature (suc column) ≡ made = cc in subst (λ (x : Entry). IsSteady (x ∷ [])) same
    (no_point [] (header signature (suc column)) refl refl h)
header_made column (number signature ∷ number row ∷ []) made e h =
    let same : header signature row ≡ made = cc in subst (λ (x : Entry). IsSteady (x ∷ [])) same (no_point [] (header signature row) refl refl h)
header_made column (number signature ∷ number row ∷ v ∷ vs) made e h = cc
header_made column (number signature ∷ integer z ∷ vs) made e h = cc
header_made column (number signature ∷ octets xs ∷ vs) made e h = cc
header_made column (integer z ∷ vs) made e h = cc
header_made column (octets xs ∷ vs) made e h = cc

document_made : (es : List Entry) (b : Bool) (first second : Value) (made : Entry) → document_record b first second ≡ Some made → IsSteady es
    → IsSteady (es ++ made ∷ [])
document_made es true (number zero) (number row) made e h =
    let same : in_document row ≡ made = cc in subst (λ (x : Entry). IsSteady (es ++ x ∷ [])) same (no_point es (in_document row) refl refl h)
document_made es true (number zero) (integer z) made e h = cc
document_made es true (number zero) (octets xs) made e h = cc
document_made es true (number (suc n)) second made e h = cc
document_made es true (integer z) second made e h = cc
document_made es true (octets xs) second made e h = cc
document_made es false first second made e h = cc

hidden_made : (es : List Entry) (offset lines columns : Value) (made : Entry) → hidden_point offset lines columns ≡ Some made → IsSteady es
    → IsSteady (es ++ made ∷ [])
hidden_made es (number offset) (number zero) (number zero) made e h =
    let same : hidden offset ≡ made = cc in subst (λ (x : Entry). IsSteady (es ++ x ∷ [])) same (hidden_steady es offset h)
hidden_made es (number offset) (number zero) (number (suc n)) made e h = cc
hidden_made es (number offset) (number zero) (integer z) made e h = cc
hidden_made es (number offset) (number zero) (octets xs) made e h = cc
hidden_made es (number offset) (number (suc n)) columns made e h = cc
hidden_made es (number offset) (integer z) columns made e h = cc
hidden_made es (number offset) (octets xs) columns made e h = cc
hidden_made es (integer z) lines columns made e h = cc
hidden_made es (octets xs) lines columns made e h = cc

visible_made : (es : List Entry) (offset lines columns line column : Value) (made : Entry) → LineIsRead (sums es) (int_of line)
    → visible_point offset lines columns line column ≡ Some made → IsSteady es → IsSteady (es ++ made ∷ [])
visible_made es (number offset) (number lines) columns line column made read e h =
    let same : visible offset lines (int_of columns) (int_of line) (int_of column) ≡ made = cc in
    subst (λ (x : Entry). IsSteady (es ++ x ∷ [])) same (visible_steady es offset lines (int_of columns) (int_of line) (int_of column) read h)
visible_made es (number offset) (integer z) columns line column made read e h = cc
visible_made es (number offset) (octets xs) columns line column made read e h = cc
visible_made es (integer z) lines columns line column made read e h = cc
visible_made es (octets xs) lines columns line column made read e h = cc

point_made : (x : Entry) (xs : List Entry) (begun : List Value) (made : Entry) → Begun (x ∷ xs) begun → point_of_fields (sums (x ∷ xs)) begun ≡ Some made
    → IsSteady (x ∷ xs) → IsSteady ((x ∷ xs) ++ made ∷ [])
point_made x xs [] made b e h = cc
point_made x xs (first ∷ []) made b e h = cc
point_made x xs (first ∷ second ∷ []) made b e h = document_made (x ∷ xs) (sums (x ∷ xs)).has_point first second made e h
point_made x xs (offset ∷ lines ∷ columns ∷ []) made b e h = hidden_made (x ∷ xs) offset lines columns made e h
point_made x xs (offset ∷ lines ∷ columns ∷ line ∷ []) made b e h = cc
point_made x xs (offset ∷ lines ∷ columns ∷ line ∷ column ∷ []) made b e h = visible_made (x ∷ xs) offset lines columns line column made b e h
point_made x xs (offset ∷ lines ∷ columns ∷ line ∷ column ∷ v ∷ vs) made b e h = cc

record_made : (column : ℕ) (whole : List Entry) (begun : List Value) (made : Entry) → Begun whole begun → record_of column whole begun ≡ Some made
    → IsSteady whole → IsSteady (whole ++ made ∷ [])
record_made column [] begun made b e h = header_made column begun made e h
record_made column (x ∷ xs) begun made b e h = point_made x xs begun made b e h

begun_none : (whole : List Entry) → Begun whole []
begun_none [] = tt
begun_none (x ∷ xs) = tt

kept : (column : ℕ) (limits : PointLimits) (c : Cut Entry) (f : Field) (after : List ℕ) → IsAllowed (sequence_points column limits) c f after → Holds c
    → Holds (with_value (sequence_points column limits) c f.value)
kept column limits c f after a h = by (record_of column c.whole (c.begun ++ f.value ∷ [])) refl
  where
    more : Begun c.whole (c.begun ++ f.value ∷ [])
    more = begun_more column limits c.whole c.begun f.value f.bytes after a h.1

    by : (o : Option Entry) → record_of column c.whole (c.begun ++ f.value ∷ []) ≡ o → Holds (closed o c.whole (c.begun ++ f.value ∷ []))
    by None e = (h.0, more)
    by (Some made) e = (record_made column c.whole (c.begun ++ f.value ∷ []) made more e h.0, begun_none (c.whole ++ made ∷ []))

-- the points of a blob have no large step
pub no_large_steps : (column : ℕ) (limits : PointLimits) (blob : List ℕ) (signature : ℕ) (points : List Point) (fault : Option BlobFault)
    → PointsReading column limits blob signature points fault → large_steps [] points ≡ []
no_large_steps column limits blob signature points fault r =
    let g = sequence_points column limits in
    let start : IsSteady [] = record { steps = refl; line = refl; starts = refl } in
    let h = of_reading g Holds (kept column limits) (start, tt) blob r.entries fault r.reading in
    let steady : IsSteady r.entries = subst IsSteady (sym r.reading.made) h.0 in
    ap (λ (ps : List Point). large_steps [] ps) r.points_are ∙ steady.steps
