-- The steps of the map of two maps: each gives one thing, and something.
use Rattle.std.{proofs.Common.{ℕ, ◌≡◌, ◌<◌, ◌≤◌, inl, inr, List, length, refl, sym, ◌∙◌, ap, arith}, specs.Prelude.{Some, Result, Ok, Err}}
use Rattle.std.proofs.lemmas.Bool.{cases_lt}
use Rattle.ppdb_base.specs.{Files.{Files, Reading, Missing, Longer, Contents, reading}, declared.limits.TheConstants.{MAX_FILE_BYTES}}
use Rattle.map_compose.{specs.Composed.{composed}, specs.Composition.{IsTextOfBoth}, proofs.Differing.{sizes_are_judged}, proofs.Readable.{text_of_both}}
use Rattle.map_compose_determined_laws.proofs.Determined.{texts_of_both_are_one}
use Rattle.ppdb_maps_text.{specs.MapTexts.{map_text}, proofs.Judged.{texts_are_judged}}
use Rattle.ppdb_maps.{specs.Map.{Map}, specs.Readable.{IsReadable}, proofs.OneMap.{texts_have_one_map}, proofs.Readable.{maps_are_readable}}
use Rattle.ppdb_maps.proofs.Refusals.{refusals_are_one}
use Rattle.ppdb_run_stops.specs.Refusals.{Outcome, absent, map_limited, no_map, sizes_differ, too_long}
use Rattle.ppdb_run.{specs.Outcome.{IsOutcome, composed_text, file_at, input_of, map_at, map_in, steps_of, written}, proofs.Steps.{GivesOne, is_one, one_given}}
use Rattle.ppdb_run.proofs.Steps.{one_then}
use Rattle.ppdb_run_words.specs.Words.{Compose}

-- ---- one thing

-- a text has one map or one refused line
pub one_text : (name text : List ℕ) → GivesOne (λ x y. x ≡ y) (map_in name text)
one_text name text (Ok f) (Ok g) h k = texts_have_one_map text f g h k
one_text name text (Ok f) (Err b) h k = refusals_are_one.apart text f k.0 k.1 h k.2
one_text name text (Err a) (Ok g) h k = refusals_are_one.apart text g h.0 h.1 k h.2
one_text name text (Err a) (Err b) h k =
    let one = refusals_are_one.refusal text h.0 h.1 k.0 k.1 h.2 k.2 in
    h.3 ∙ (ap (λ n. no_map name n h.1) one.0 ∙ ap (no_map name k.0) one.1) ∙ sym k.3

pub one_map : (files : Files) (name : List ℕ) → GivesOne (λ x y. x ≡ y) (map_at files name)
one_map files name = one_then (file_at files name) (map_in name) (one_given (input_of name (reading files name MAX_FILE_BYTES))) (one_text name)

within : (f s : Map) (text other : List ℕ) → IsTextOfBoth f s text → IsTextOfBoth f s other → length text ≤ MAX_FILE_BYTES → MAX_FILE_BYTES < length other → ⊥
within f s text other is also short long =
    let same : length text ≡ length other = ap length (texts_of_both_are_one f s text other is also) in omega (arith, short, long, same)

-- the sizes agree or do not, and the text is too long or is not
one_text_of : (f s : Map) → GivesOne (λ x y. x ≡ y) (composed_text f s)
one_text_of f s (Ok x) (Ok y) h k = texts_of_both_are_one f s x y h.1 k.1
one_text_of f s (Ok x) (Err b) h (inl k) = sizes_are_judged.apart f s k.0 k.1 k.2 h.0 k.3
one_text_of f s (Ok x) (Err b) h (inr k) = within f s x k.1.0 h.1 k.1.1 h.2 k.1.2
one_text_of f s (Err a) (Ok y) (inl h) k = sizes_are_judged.apart f s h.0 h.1 h.2 k.0 h.3
one_text_of f s (Err a) (Ok y) (inr h) k = within f s y h.1.0 k.1 h.1.1 k.2 h.1.2
one_text_of f s (Err a) (Err b) (inl h) (inl k) =
    let one = sizes_are_judged.one f s h.0 h.1 h.2 k.0 k.1 k.2 h.3 k.3 in
    h.4 ∙ (ap (λ m. sizes_differ m h.1 h.2) one.0 ∙ (ap (λ n. sizes_differ k.0 n h.2) one.1 ∙ ap (sizes_differ k.0 k.1) one.2)) ∙ sym k.4
one_text_of f s (Err a) (Err b) (inl h) (inr k) = absurd (sizes_are_judged.apart f s h.0 h.1 h.2 k.0 h.3)
one_text_of f s (Err a) (Err b) (inr h) (inl k) = absurd (sizes_are_judged.apart f s k.0 k.1 k.2 h.0 k.3)
one_text_of f s (Err a) (Err b) (inr h) (inr k) =
    h.1.3 ∙ (ap (λ text. map_limited (length text)) (texts_of_both_are_one f s h.1.0 k.1.0 h.1.1 k.1.1) ∙ sym k.1.3)

pub one_composed : (first second output : List ℕ) (files : Files) (r t : Result Outcome Outcome) → steps_of (Compose first second output) files r
    → steps_of (Compose first second output) files t → r ≡ t
one_composed first second output files r t h k =
    is_one r t (one_then (map_at files first) _ (one_map files first)
    (λ f. one_then (map_at files second) _ (one_map files second)
    (λ s. one_then (composed_text f s) _ (one_text_of f s) (λ text. one_given (Ok (written output text))))) r t h k)

-- ---- something

-- a file has a map, or is refused
map_given : (name : List ℕ) (files : Files) → ((m : Map) → map_at files name (Ok m) → IsReadable m → ⊥)
    → ((refusal : Outcome) → map_at files name (Err refusal) → ⊥) → ⊥
map_given name files given refuses = by_reading (reading files name MAX_FILE_BYTES) refl
  where
    by_reading : (r : Reading) → reading files name MAX_FILE_BYTES ≡ r → ⊥
    by_reading Missing is = refuses (absent name) (inr (absent name, sym (ap (input_of name) is), refl))
    by_reading Longer is = refuses (too_long name) (inr (too_long name, sym (ap (input_of name) is), refl))
    by_reading (Contents text) is =
        let read = sym (ap (input_of name) is) in
        texts_are_judged text (λ m has. given m (inl (text, read, has)) (maps_are_readable text m has))
        (λ n kind invalid. refuses (no_map name n kind) (inl (text, read, (n, kind, invalid, refl))))

-- two maps have a text, or are refused
text_given : (f s : Map) → IsReadable f → IsReadable s → ((text : List ℕ) → composed_text f s (Ok text) → ⊥)
    → ((refusal : Outcome) → composed_text f s (Err refusal) → ⊥) → ⊥
text_given f s readable also given refuses = elim (sizes_are_judged.judged f s readable) [
  | inl agree ↦ elim (cases_lt MAX_FILE_BYTES (length (map_text (composed f s)))) [
    | inl long ↦ refuses (map_limited (length (map_text (composed f s))))
        (inr (agree, (map_text (composed f s), text_of_both f s readable also agree, long, refl)))
    | inr short ↦ given (map_text (composed f s)) (agree, text_of_both f s readable also agree, short)
  ]
  | inr differ ↦ refuses (sizes_differ differ.method differ.first differ.second) (inl (differ.method, differ.first, differ.second, differ.is, refl))
]

pub some_composed : (first second output : List ℕ) (files : Files)
    → ((due : Outcome) → IsOutcome (Some (Compose first second output)) files due → ⊥) → ⊥
some_composed first second output files none =
    map_given first files
    (λ f one readable. map_given second files
    (λ s other also. text_given f s readable also
    (λ text is. none (written output text) (inl (inl (f, one, inl (s, other, inl (text, is, refl))))))
    (λ refusal is. none refusal (inr (inl (f, one, inl (s, other, inr (refusal, is, refl)))))))
    (λ refusal is. none refusal (inr (inl (f, one, inr (refusal, is, refl))))))
    (λ refusal is. none refusal (inr (inr (refusal, is, refl))))
