-- What was put of the answers to a list, and what is left.
use Rattle.std.{proofs.Common.{ℕ, ◌≡◌, ◌+◌, ◌≤◌, ◌&&◌, Bool, true, false, List, [], ◌∷◌, ◌++◌, refl, sym, ap, ◌∙◌, subst, arith, inl, inr}, specs.Prelude.{Option}}
use Rattle.std.{specs.Prelude.{Result, Ok, Err, IsErrAnd, IsErrOf, if◌then◌else◌, nat_le}, specs.List.{flat_map}, proofs.lemmas.Bool.{cases_lt, le-leb, lt-leb}}
use Rattle.ppdb_base.specs.{Written.{Puts}, declared.sink.WriteError.{WriteError}}
use Rattle.ppdb_base.specs.declared.sink.WriteError.TheVariants as write_errors
use Rattle.ppdb_base.proofs.Written.{appended_nothing, puts_then}
use Rattle.ppdb_maps.specs.Words.{IsSilent}
use Rattle.ppdb_queries.specs.Runs.{IsNoMethod}
use Rattle.ppdb_queries_list.specs.{Lists.{Asks, IsListed, Lists, none, silent, asks}, Said.{IsSaid}, declared.line.MethodOffset.{MethodOffset}}
use Rattle.ppdb_queries_list.specs.declared.line.Said.{Said}
use Rattle.ppdb_queries_list.specs.declared.line.Said.TheVariants as answers
use Rattle.ppdb_queries_list.proofs.Lists.{one_asked}
use Rattle.ppdb_show_lines.{specs.declared.form.Form.{Form}, specs.Forms.{lines_as}, specs.Lines.{Line}, proofs.Putting.{Putting, put_none, put_piece, put_prefix}}
use Rattle.ppdb_show_lines.proofs.{Putting.{put_whole}, Texts.{more_lines, no_lines}}
use Rattle.ppdb_tables.specs.RawTables.{RawTables, count}
use Rattle.ppdb_values.specs.RawFile.{RawFile}
use Rattle.ppdb_show.specs.{Bound.{query_rows}, Lookup.{answer_lines, at_line, has_method, lookup_rows, lookup_text_of, no_method_line}, Query.{query_lines}}
use Rattle.ppdb_show.{specs.Query.{query_text_of}, proofs.Added.{sum_first}}

-- ---- one question

-- why a call failed
pub error_is : {T E : Type 0} {r : Result T E} {e x : E} → r ≡ Err e → e ≡ x → IsErrOf r x
error_is is same = is ∙ ap Err same

pub other_error : {T E : Type 0} {r : Result T E} {e x y : E} → r ≡ Err e → e ≡ x → IsErrOf r y → (x ≡ y → ⊥) → ⊥
other_error {e = e} {y = y} is same other differ = let both : Err e ≡ Err y = sym is ∙ other in let one : e ≡ y = cc in differ (sym same ∙ one)

pub there : (raw : RawTables) (m : ℕ) → (IsNoMethod raw m → ⊥) → has_method raw m ≡ true
there raw m has = elim (cases_lt m 1) [
  | inl zero ↦ absurd (has (inl (let e : m ≡ 0 = omega (arith, zero) in e)))
  | inr some ↦ elim (cases_lt (count raw 0x06) m) [
    | inl above ↦ absurd (has (inr above))
    | inr within ↦ rw (le-leb 1 m some, le-leb m (count raw 0x06) within) refl
  ]
]

pub not_there : (raw : RawTables) (m : ℕ) → IsNoMethod raw m → has_method raw m ≡ false
not_there raw m (inl zero) = rw zero refl
not_there raw m (inr above) = rw (lt-leb m (count raw 0x06) above) (and_false (nat_le 1 m))
  where
    and_false : (b : Bool) → (b && false) ≡ false
    and_false true = refl
    and_false false = refl

pub ok_is_no_error : {T E : Type 0} {r : Result T E} {x : T} {y : E} → r ≡ Ok x → IsErrOf r y → ⊥
ok_is_no_error {x = x} {y = y} is other = let both : Ok x ≡ Err y = sym is ∙ other in absurd cc

pub not_failed : {T A : Type 0} → IsErrOf {T = T} (Err write_errors.Memory) write_errors.Failed → A
not_failed f = absurd cc

pub ok_not_failed : {T A : Type 0} (x : T) → IsErrOf (Ok x) write_errors.Failed → A
ok_not_failed x f = absurd cc

-- the lines of the query, or that there is no such method
abbrev pub found_lines : RawFile → MethodOffset → List Line
found_lines raw at = if has_method raw.tables at.method then query_lines raw at.method at.offset else no_method_line at.method ∷ []

pub one_answer : (form : Form) (raw : RawFile) (at : MethodOffset)
    → lines_as form (answer_lines raw at) ≡ lines_as form (at_line at ∷ []) ++ lines_as form (found_lines raw at)
one_answer form raw at = more_lines form (at_line at ∷ []) (found_lines raw at)

-- the lines of the query were put, or a prefix of them
pub found_put : (r : Result (Unit {0}) WriteError) (form : Form) (raw : RawFile) (at : MethodOffset) (old new : Option (List ℕ)) (before after : ℕ)
    → (IsNoMethod raw.tables at.method → ⊥) → Puts r old new before after (query_text_of form raw at.method at.offset)
    → Puts r old new before after (lines_as form (found_lines raw at))
unfolding query_text_of
found_put r form raw at old new before after some put = rw (there raw.tables at.method some) put

pub none_put : (r : Result (Unit {0}) WriteError) (form : Form) (raw : RawFile) (at : MethodOffset) (old mid new : Option (List ℕ)) (before between after : ℕ)
    → IsNoMethod raw.tables at.method → mid ≡ old → before ≤ between → Puts r mid new between after (lines_as form (no_method_line at.method ∷ []))
    → Puts r old new before after (lines_as form (found_lines raw at))
none_put r form raw at old mid new before between after lacks same later put =
    rw (not_there raw.tables at.method lacks) (puts_then r old mid new before between after [] (lines_as form (no_method_line at.method ∷ []))
    (record { ok = same ∙ sym (appended_nothing old); err = tt; failed = λ f. absurd cc; later = later }) put)

-- ---- the questions of a list

-- what is read of a line
pub said_asks : (line : List ℕ) (s : Said) (at : MethodOffset) → IsSaid line s → s ≡ answers.Asks at → Asks line at
said_asks line s at said is = subst (IsSaid line) is said

pub said_nothing : (line : List ℕ) (s : Said) → IsSaid line s → s ≡ answers.Nothing → IsSilent line
said_nothing line s said is = subst (IsSaid line) is said

-- lines ask no more than what is left, what they ask is still to be put, and the rows read leave those of what is left
pub record Left (form : Form) (raw : RawFile) (all : List MethodOffset) (rest : List (List ℕ)) (old new : Option (List ℕ)) (faults faults_now before after : ℕ)
    : Type 0 where
  pub asked : List MethodOffset
  pub lists : Lists rest asked
  pub put : Putting old new faults faults_now (lookup_text_of form raw asked) (lookup_text_of form raw all)
  pub read : after + lookup_rows raw.tables asked ≤ before + lookup_rows raw.tables all

pub left_all : (form : Form) (raw : RawFile) (all : List MethodOffset) (lines : List (List ℕ)) (old : Option (List ℕ)) (faults steps : ℕ) → Lists lines all
    → Left form raw all lines old old faults faults steps steps
left_all form raw all lines old faults steps lists =
    record { asked = all; lists = lists; put = put_none old faults (lookup_text_of form raw all); read = omega arith }

-- a line says nothing
pub left_silent : (form : Form) (raw : RawFile) (all : List MethodOffset) (line : List ℕ) (rest others : List (List ℕ)) (old new : Option (List ℕ))
    (faults faults_now before after : ℕ)
    → Left form raw all rest old new faults faults_now before after → rest ≡ line ∷ others → IsSilent line
    → Left form raw all others old new faults faults_now before after
left_silent form raw all line rest others old new faults faults_now before after left cut quiet =
    let lists = subst (λ r. Lists r left.asked) cut left.lists in
    record { asked = left.asked; lists = of left.asked lists; put = left.put; read = left.read }
  where
    of : (asked : List MethodOffset) → Lists (line ∷ others) asked → Lists others asked
    of _ (silent s h) = h
    of _ (asks a h) = absurd (a.speaks quiet)

-- a line asks, and others follow
pub record Asking (line : List ℕ) (others : List (List ℕ)) (at : MethodOffset) (asked : List MethodOffset) : Type 0 where
  pub more : List MethodOffset
  pub is : asked ≡ at ∷ more
  pub lists : Lists others more

pub asking : (line : List ℕ) (others : List (List ℕ)) (at : MethodOffset) (asked : List MethodOffset) → Lists (line ∷ others) asked → Asks line at
    → Asking line others at asked
asking line others at _ (silent s h) asks_it = absurd (asks_it.speaks s)
asking line others at _ (asks {at = x} {asked = more} a h) asks_it =
    record { more = more; is = ap (λ (y : MethodOffset). y ∷ more) (one_asked line x at a asks_it); lists = h }

pub text_first : (form : Form) (raw : RawFile) (at : MethodOffset) (more : List MethodOffset)
    → lookup_text_of form raw (at ∷ more) ≡ lines_as form (answer_lines raw at) ++ lookup_text_of form raw more
unfolding lookup_text_of
text_first form raw at more = more_lines form (answer_lines raw at) (flat_map (answer_lines raw) more)

pub text_none : (form : Form) (raw : RawFile) → lookup_text_of form raw [] ≡ []
unfolding lookup_text_of
text_none form raw = no_lines form

pub rows_first : (raw : RawTables) (at : MethodOffset) (more : List MethodOffset)
    → lookup_rows raw (at ∷ more) ≡ query_rows raw at.method at.offset + lookup_rows raw more
rows_first raw at more = sum_first (λ (x : MethodOffset). query_rows raw x.method x.offset) at more

-- the text that is left begins with the answer
pub to_come : (form : Form) (raw : RawFile) (all : List MethodOffset) (at : MethodOffset) (asked more : List MethodOffset) (old new : Option (List ℕ))
    (faults faults_now : ℕ)
    → asked ≡ at ∷ more → Putting old new faults faults_now (lookup_text_of form raw asked) (lookup_text_of form raw all)
    → Putting old new faults faults_now (lines_as form (answer_lines raw at) ++ lookup_text_of form raw more) (lookup_text_of form raw all)
to_come form raw all at asked more old new faults faults_now is put =
    subst (λ (text : List ℕ). Putting old new faults faults_now text (lookup_text_of form raw all))
    (ap (lookup_text_of form raw) is ∙ text_first form raw at more) put

-- the answer was put
pub left_next : (form : Form) (raw : RawFile) (all : List MethodOffset) (line : List ℕ) (rest others : List (List ℕ)) (at : MethodOffset)
    (old mid new : Option (List ℕ)) (faults faults_mid faults_now before between after : ℕ)
    → Left form raw all rest old mid faults faults_mid before between → rest ≡ line ∷ others → Asks line at
    → Puts {T = Unit {0}} (Ok tt) mid new faults_mid faults_now (lines_as form (answer_lines raw at))
    → after ≤ between + query_rows raw.tables at.method at.offset
    → Left form raw all others old new faults faults_now before after
left_next form raw all line rest others at old mid new faults faults_mid faults_now before between after left cut asks_it put cost =
    let next = asking line others at left.asked (subst (λ r. Lists r left.asked) cut left.lists) asks_it in
    let read = left.read in
    let rows = ap (lookup_rows raw.tables) next.is ∙ rows_first raw.tables at next.more in
    record {
      asked = next.more;
      lists = next.lists;
      put = put_piece old mid new faults faults_mid faults_now (lines_as form (answer_lines raw at)) (lookup_text_of form raw next.more)
          (lookup_text_of form raw all) (to_come form raw all at left.asked next.more old mid faults faults_mid next.is left.put) put;
      read = omega (arith, read, rows, cost);
    }

-- a prefix of the answer was put
pub left_cut : {T U : Type 0} (e : WriteError) (r : Result T WriteError) (form : Form) (raw : RawFile) (all : List MethodOffset) (line : List ℕ)
    (rest others : List (List ℕ)) (at : MethodOffset)
    (old mid new : Option (List ℕ)) (faults faults_mid faults_now before between : ℕ)
    → Left form raw all rest old mid faults faults_mid before between → rest ≡ line ∷ others → Asks line at → IsErrAnd r (λ d. d ≡ e)
    → Puts {T = U} (Err e) mid new faults_mid faults_now (lines_as form (answer_lines raw at))
    → Puts r old new faults faults_now (lookup_text_of form raw all)
left_cut e r form raw all line rest others at old mid new faults faults_mid faults_now before between left cut asks_it is put =
    let next = asking line others at left.asked (subst (λ r. Lists r left.asked) cut left.lists) asks_it in
    put_prefix e r old mid new faults faults_mid faults_now (lines_as form (answer_lines raw at)) (lookup_text_of form raw next.more)
    (lookup_text_of form raw all) (to_come form raw all at left.asked next.more old mid faults faults_mid next.is left.put) is put

pub left_cost : (form : Form) (raw : RawFile) (all : List MethodOffset) (line : List ℕ) (rest others : List (List ℕ)) (at : MethodOffset)
    (old mid : Option (List ℕ)) (faults faults_mid before between after : ℕ)
    → Left form raw all rest old mid faults faults_mid before between → rest ≡ line ∷ others → Asks line at
    → after ≤ between + query_rows raw.tables at.method at.offset → after ≤ before + lookup_rows raw.tables all
left_cost form raw all line rest others at old mid faults faults_mid before between after left cut asks_it cost =
    let next = asking line others at left.asked (subst (λ r. Lists r left.asked) cut left.lists) asks_it in
    let read = left.read in
    let rows = ap (lookup_rows raw.tables) next.is ∙ rows_first raw.tables at next.more in
    omega (arith, read, rows, cost)

-- no line is left
pub left_none : (form : Form) (raw : RawFile) (all : List MethodOffset) (rest : List (List ℕ)) (old new : Option (List ℕ)) (faults faults_now before after : ℕ)
    → Left form raw all rest old new faults faults_now before after → rest ≡ [] → Puts {T = Unit {0}} (Ok tt) old new faults faults_now (lookup_text_of form raw all)
left_none form raw all rest old new faults faults_now before after left empty =
    let done = of left.asked (subst (λ r. Lists r left.asked) empty left.lists) in
    put_whole old new faults faults_now (lookup_text_of form raw all)
    (subst (λ (text : List ℕ). Putting old new faults faults_now text (lookup_text_of form raw all))
    (ap (lookup_text_of form raw) done ∙ text_none form raw) left.put)
  where
    of : (asked : List MethodOffset) → Lists [] asked → asked ≡ []
    of _ none = refl

pub left_read : (form : Form) (raw : RawFile) (all : List MethodOffset) (rest : List (List ℕ)) (old new : Option (List ℕ)) (faults faults_now before after : ℕ)
    → Left form raw all rest old new faults faults_now before after → after ≤ before + lookup_rows raw.tables all
left_read form raw all rest old new faults faults_now before after left = let read = left.read in omega (arith, read)

-- a line that is left is one of a list's
pub left_listed : (lines : List (List ℕ)) (line : List ℕ) (others : List (List ℕ)) (asked : List MethodOffset) → Lists lines asked → lines ≡ line ∷ others
    → IsListed line
left_listed lines line others asked lists cut = of asked (subst (λ r. Lists r asked) cut lists)
  where
    of : (asked : List MethodOffset) → Lists (line ∷ others) asked → IsListed line
    of _ (silent s h) = inl s
    of _ (asks {at = x} a h) = inr (x, a)
