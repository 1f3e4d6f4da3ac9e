-- A walk over points that are written one after another.
use Rattle.std.proofs.Common.{◌≡◌, ℕ, ◌+◌, ◌<◌, Bool, true, false, List, [], ◌∷◌, ◌++◌, length, sym, ap, subst, ◌∙◌, append_assoc, append-nil, arith, Option, Some}
use Rattle.std.{proofs.Common.{None}, specs.Prelude.{All, AllPairs}, specs.Option.{option_map, option_to_list}, proofs.lemmas.List.{length-append}}
use Rattle.std.proofs.lemmas.List.Elements.{All-head, All-tail, All-push}
use Rattle.sequence_points.specs.declared.{point.Point.{Point}, point.Span.{Span}, point.Span.TheVariants.{Hidden, Lines}, place.Start.{Start}}
use Rattle.sequence_points.specs.{declared.writer.PointError.{PointError}, declared.writer.PointError.TheVariants.{Step, Memory}, Places.{start_after}}
use Rattle.sequence_points.specs.{Points.{common_document}, Ranges.{IsOffset, IsDocument}, Following.{IsStart, IsBehind}, Written.{CanBeWritten, IsSpan, last_of}}
use Rattle.sequence_points.{specs.Written.{last_start, large_step, large_steps, numbered, first_of, bytes_after, points_bytes}, proofs.Before.{last_of-push}}
use Rattle.sequence_points.proofs.{Before.{last_start-push}, Follows.{pairs-head, pairs-tail, few_points}}
use Rattle.sequence_points_moved.specs.{declared.writer.Written.{Written}, MovedBlob.{IsFirstStep}, Writing.{HasWritten, MayCome, IsStepOf, IsWalked}}
use Rattle.sequence_points_moved.proofs.{Joins.{steps-append, bytes-append, at_cut}, Documents.{common_one, common_several}}

-- Some of the points are written, and these are left.
pub record Progress (in_one : Bool) (first : Point) (all left : List Point) (w : Written) (old into : List ℕ) : Type 0 where
  pub before : List Point
  pub cut : all ≡ before ++ left
  pub written : HasWritten before w
  pub bytes : into ≡ old ++ points_bytes [] before
  pub steps : large_steps [] before ≡ []
  pub one : in_one ≡ true → All (λ p. p.document ≡ first.document) before
  pub rise : AllPairs (λ p q. p.offset < q.offset) left
  pub offsets : All (λ p. IsOffset p.offset) left
  pub documents : All (λ p. IsDocument p.document) left
  pub spans : All (λ p. IsSpan p.span) left
  pub behind : All (IsBehind w.last) left
  pub start : IsStart w.start

start_kept : (start : Option Start) (span : Span) → IsStart start → IsSpan span → IsStart (start_after start span)
start_kept start Hidden h s = h
start_kept start (Lines a b c d) h s = (s.0, s.1)

pub may_come : (in_one : Bool) (first : Point) (all : List Point) (p : Point) (ps : List Point) (w : Written) (old into : List ℕ) → CanBeWritten 0 all
    → Progress in_one first all (p ∷ ps) w old into → MayCome w p
may_come in_one first all p ps w old into can now =
    let few : length all < 4294967296 = few_points all can.offsets can.rise in
    let count : w.count ≡ length now.before = now.written.count in
    record {
      count = omega (arith, few, count, ap length now.cut, length-append now.before (p ∷ ps));
      offset = All-head (λ (q : Point). IsOffset q.offset) p ps now.offsets;
      document = All-head (λ (q : Point). IsDocument q.document) p ps now.documents;
      span = All-head (λ (q : Point). IsSpan q.span) p ps now.spans;
      behind = All-head (IsBehind w.last) p ps now.behind;
      start = now.start;
    }

no_step : (before : List Point) (p : Point) → large_step (last_start before) p.span ≡ None → large_steps before (p ∷ []) ≡ []
no_step before p none = ap (λ o. option_to_list (option_map (numbered (length before + 1)) o) ++ []) none

-- one more point
pub onward : (in_one : Bool) (first : Point) (all : List Point) (p : Point) (ps : List Point) (w next : Written) (old into more : List ℕ)
    → Progress in_one first all (p ∷ ps) w old into
    → (in_one ≡ true → p.document ≡ first.document) → more ≡ into ++ bytes_after w.last w.start p → large_step w.start p.span ≡ None
    → next.count ≡ w.count + 1 → next.last ≡ Some p → next.start ≡ start_after w.start p.span
    → Progress in_one first all ps next old more
onward in_one first all p ps w next old into more now one bytes small count last start =
    let before = now.before in
    let small_before : large_step (last_start before) p.span ≡ None = ap (λ o. large_step o p.span) (sym now.written.start) ∙ small in
    let counted : w.count ≡ length before = now.written.count in
    record {
      before = before ++ p ∷ [];
      cut = now.cut ∙ sym (append_assoc before (p ∷ []) ps);
      written = record {
        count = count ∙ omega (arith, counted, length-append before (p ∷ []));
        last = last ∙ sym (last_of-push before p);
        start = start ∙ ap (λ o. start_after o p.span) now.written.start ∙ sym (last_start-push before p);
      };
      bytes = bytes ∙ ap (λ xs. xs ++ bytes_after w.last w.start p) now.bytes
          ∙ append_assoc old (points_bytes [] before) (bytes_after w.last w.start p)
          ∙ ap (λ o. old ++ (points_bytes [] before ++ bytes_after o w.start p)) now.written.last
          ∙ ap (λ o. old ++ (points_bytes [] before ++ bytes_after (last_of before) o p)) now.written.start
          ∙ ap (λ xs. old ++ (points_bytes [] before ++ xs)) (sym (append-nil (bytes_after (last_of before) (last_start before) p)))
          ∙ ap (λ xs. old ++ xs) (sym (bytes-append [] before (p ∷ [])));
      steps = steps-append [] before (p ∷ []) ∙ ap (λ xs. xs ++ large_steps before (p ∷ [])) now.steps ∙ no_step before p small_before;
      one = λ e. All-push (λ (q : Point). q.document ≡ first.document) before p (now.one e) (one e);
      rise = pairs-tail p ps now.rise;
      offsets = All-tail (λ (q : Point). IsOffset q.offset) p ps now.offsets;
      documents = All-tail (λ (q : Point). IsDocument q.document) p ps now.documents;
      spans = All-tail (λ (q : Point). IsSpan q.span) p ps now.spans;
      behind = subst (λ (o : Option Point). All (IsBehind o) ps) (sym last) (pairs-head p ps now.rise);
      start = subst IsStart (sym start) (start_kept w.start p.span now.start (All-head (λ (q : Point). IsSpan q.span) p ps now.spans));
    }

-- a step that no number says
pub refused : (in_one : Bool) (first : Point) (all : List Point) (p : Point) (ps : List Point) (w : Written) (old into : List ℕ) (e : PointError)
    → Progress in_one first all (p ∷ ps) w old into → IsStepOf w p e → IsFirstStep all e
refused in_one first all p ps w old into Memory now is = tt
refused in_one first all p ps w old into (Step index step) now is =
    let before = now.before in
    let counted : w.count ≡ length before = now.written.count in
    let at : index ≡ length before + 1 = omega (arith, is.0, counted) in
    let large : large_step (last_start before) p.span ≡ Some step = ap (λ o. large_step o p.span) (sym now.written.start) ∙ is.1 in
    ap (λ xs. first_of (large_steps [] xs)) now.cut ∙ ap first_of (steps-append [] before (p ∷ ps))
    ∙ ap (λ xs. first_of (xs ++ large_steps before (p ∷ ps))) now.steps
    ∙ ap (λ o. first_of (option_to_list (option_map (numbered (length before + 1)) o) ++ large_steps (before ++ p ∷ []) ps)) large
    ∙ ap (λ n. Some (numbered n step)) (sym at)

-- all are written
pub walked : (in_one : Bool) (first : Point) (ps : List Point) (w : Written) (old into : List ℕ) → IsDocument first.document
    → Progress in_one first (first ∷ ps) [] w old into → IsWalked in_one (first ∷ ps) old into true
walked in_one first ps w old into row now =
    let same : first ∷ ps ≡ now.before = now.cut ∙ append-nil now.before in (
      now.bytes ∙ ap (λ xs. old ++ points_bytes [] xs) (sym same),
      ap (large_steps []) same ∙ now.steps,
      λ e zero.
          let one : common_document (first ∷ ps)
          ≡ first.document = common_one first ps (subst (All (λ (q : Point). q.document ≡ first.document)) (sym same) (now.one e)) in
          omega (arith, one, zero, row.0),
    )

-- a point of another document
pub stopped : (in_one : Bool) (first : Point) (ps : List Point) (p : Point) (left : List Point) (w : Written) (old into : List ℕ) → in_one ≡ true
    → (p.document ≡ first.document → ⊥)
    → Progress in_one first (first ∷ ps) (p ∷ left) w old into → IsWalked in_one (first ∷ ps) old into false
stopped in_one first ps p left w old into e differ now = (
  e,
  common_several first ps
      (λ all. differ (at_cut (λ (q : Point). q.document ≡ first.document) now.before p left
      (subst (All (λ (q : Point). q.document ≡ first.document)) now.cut all))),
)
