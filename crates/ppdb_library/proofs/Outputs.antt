-- The file that a command makes, by the name that its words have for it.
use Rattle.std.{proofs.Common.{ℕ, ◌≡◌, inl, inr, List, [], Bool, true, cond, sym, ◌∙◌, ap, subst}, specs.Prelude.{Option, Some, None, Result, Ok, Err}}
use Rattle.std.specs.{Ordering.{eq_by_cmp, is_eq, nat_cmp}, Cmp.Lexicographic.{slice_cmp, nat_list_cmp_total}, FinMap.{get, get-insert, insert}, Option.{option_map}}
use Rattle.std.{specs.Option.{unwrap_or}, proofs.lemmas.Cmp.{tied_itself}}
use Rattle.ppdb_base.specs.{declared.limits.Limit.{Limit}, declared.limits.TheConstants.{MAX_FILE_BYTES}, Files.{Files, Reading, Missing, Longer, Contents, reading}}
use Rattle.ppdb_maps.specs.Map.{Map}
use Rattle.ppdb_run_stops.specs.{declared.status.Status.TheVariants.{Done}, Refusals.{Outcome, absent, limited, prints, too_long}}
use Rattle.ppdb_run.specs.{Means.{WritesMeaning}, Outcome.{IsOutcome, composed_text, done, input_of, map_at, unless, written}, Writes.{WritesAll}}
use Rattle.ppdb_run.proofs.{Kept.{writes_none}, Lookups.{lookup_writes}}
use Rattle.ppdb_run_words.specs.Words.{Task, Ask, Lookup, Rebuild, Compose, Merge, Sample, written_file}
use Rattle.ppdb_library.specs.{Calls.{made_bytes}, Ended.{held}}

-- where the task makes a file, the outcome writes one of its name
abbrev pub HasOutput : Option (List ℕ) → Option (List ℕ × List ℕ) → Type 0
HasOutput None writes = writes ≡ None
HasOutput (Some name) writes = (bytes : List ℕ) × (writes ≡ Some (name, bytes))

abbrev Same : Result Outcome Outcome → Result Outcome Outcome → Type 0
Same r t = r ≡ t

one_answer : (a b : Outcome) → Same (Ok a) (Ok b) → a ≡ b
one_answer a b e = cc e

one_refusal : (a b : Outcome) → Same (Err a) (Err b) → a ≡ b
one_refusal a b e = cc e

mixed : {A : Type 0} (a b : Outcome) → Same (Ok a) (Err b) → A
mixed a b e = absurd cc

-- a refusal is not done
abbrev IsNotDone : Outcome → Type 0
IsNotDone due = due.status ≡ Done → ⊥

unread_not_done : (name : List ℕ) (r : Reading) (refusal : Outcome) → Err refusal ≡ input_of name r → IsNotDone refusal
unread_not_done name Missing refusal e = λ is.
    let same : refusal ≡ absent name = cc in let status = ap (λ (o : Outcome). o.status) same in absurd cc
unread_not_done name Longer refusal e = λ is.
    let same : refusal ≡ too_long name = cc in let status = ap (λ (o : Outcome). o.status) same in absurd cc
unread_not_done name (Contents bytes) refusal e = λ is. absurd cc

map_not_done : (files : Files) (name : List ℕ) (refusal : Outcome) → map_at files name (Err refusal) → IsNotDone refusal
map_not_done files name refusal (inl (text, read, (n, kind, refused, e))) = λ is. let status = ap (λ (o : Outcome). o.status) e in absurd cc
map_not_done files name refusal (inr (first, read, e)) =
    let same : refusal ≡ first = cc in
    subst IsNotDone (sym same) (unread_not_done name (reading files name MAX_FILE_BYTES) first read)

composed_not_done : (f s : Map) (refusal : Outcome) → composed_text f s (Err refusal) → IsNotDone refusal
composed_not_done f s refusal (inl (method, first, second, differs, e)) = λ is. let status = ap (λ (o : Outcome). o.status) e in absurd cc
composed_not_done f s refusal (inr (agree, (text, both, long, e))) = λ is. let status = ap (λ (o : Outcome). o.status) e in absurd cc

composed_output : (first second output : List ℕ) (files : Files) (due : Outcome) → IsOutcome (Some (Compose first second output)) files due → due.status ≡ Done
    → HasOutput (Some output) due.writes
composed_output first second output files due (inl (inl (f, one, inl (s, two, inl (text, both, e))))) is =
    (text, ap (λ (o : Outcome). o.writes) (one_answer due (written output text) e))
composed_output first second output files due (inl (inl (f, one, inl (s, two, inr (refusal, both, e))))) is = mixed due refusal e
composed_output first second output files due (inl (inl (f, one, inr (refusal, two, e)))) is = mixed due refusal e
composed_output first second output files due (inl (inr (refusal, one, e))) is = mixed due refusal e
composed_output first second output files due (inr (inl (f, one, inl (s, two, inl (text, both, e))))) is = mixed (written output text) due (sym e)
composed_output first second output files due (inr (inl (f, one, inl (s, two, inr (refusal, both, e))))) is =
    absurd (composed_not_done f s refusal both (ap (λ (o : Outcome). o.status) (sym (one_refusal due refusal e)) ∙ is))
composed_output first second output files due (inr (inl (f, one, inr (refusal, two, e)))) is =
    absurd (map_not_done files second refusal two (ap (λ (o : Outcome). o.status) (sym (one_refusal due refusal e)) ∙ is))
composed_output first second output files due (inr (inr (refusal, one, e))) is =
    absurd (map_not_done files first refusal one (ap (λ (o : Outcome). o.status) (sym (one_refusal due refusal e)) ∙ is))

sample_output : (limit : Option Limit) (text : List ℕ) (due : Outcome) → Same (Ok due) (unless (option_map limited limit) (done text)) → due.writes ≡ None
sample_output None text due e = ap (λ (o : Outcome). o.writes) (one_answer due (prints Done text) e)
sample_output (Some limit) text due e = mixed due (limited limit) e

sample_refusal : (limit : Option Limit) (text : List ℕ) (due : Outcome) → Same (Err due) (unless (option_map limited limit) (done text)) → due.writes ≡ None
sample_refusal None text due e = mixed (prints Done text) due (sym e)
sample_refusal (Some limit) text due e = ap (λ (o : Outcome). o.writes) (one_refusal due (limited limit) e)

pub has_output : (task : Task) (files : Files) (due : Outcome) → IsOutcome (Some task) files due → due.status ≡ Done
    → WritesMeaning (Some files) (Some task) due → HasOutput (written_file task) due.writes
has_output (Ask question file) files due is status means = writes_none question file files due is
has_output (Lookup file list json) files due is status means = lookup_writes file list json files due is
has_output (Rebuild input output options) files due is status means = (means.0, means.1)
has_output (Compose first second output) files due is status means = composed_output first second output files due is status
has_output (Merge inputs output options) files due is status means = (means.0, means.1)
has_output (Sample n) files due (inl e) status means = sample_output _ _ due e
has_output (Sample n) files due (inr e) status means = sample_refusal _ _ due e

same_name : (name : List ℕ) → eq_by_cmp (slice_cmp nat_cmp) name name ≡ true
same_name name = ap is_eq (tied_itself nat_list_cmp_total name)

-- what the written file holds after it was written
pub output_held : (output : Option (List ℕ)) (writes : Option (List ℕ × List ℕ)) (old new : Files) → HasOutput output writes
    → WritesAll writes (Some old) (Some new) → held output new ≡ made_bytes Done writes
output_held None writes old new none all = sym (ap (made_bytes Done) none)
output_held (Some name) writes old new (bytes, some) all =
    let now : Some new ≡ Some (insert old name bytes) = subst (λ w. WritesAll w (Some old) (Some new)) some all in
    let same : new ≡ insert old name bytes = cc in
    let found : get (insert old name bytes) name ≡ Some bytes =
    get-insert nat_list_cmp_total old name bytes name ∙ ap (λ (b : Bool). cond b (Some bytes) (get old name)) (same_name name) in
    ap (λ files. unwrap_or (get files name) []) same ∙ (ap (λ o. unwrap_or o []) found ∙ sym (ap (made_bytes Done) some))
