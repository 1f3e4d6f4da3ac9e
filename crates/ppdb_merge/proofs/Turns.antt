-- Inputs that were added one after the other are inputs that fit.
use Rattle.std.proofs.Common.{◌≡◌, ◌≢◌, ℕ, suc, ◌+◌, ◌<◌, ◌≤◌, Bool, true, false, List, [], ◌∷◌, ◌++◌, Option, Some, None, map, length, refl, sym, ◌∙◌, ap, subst}
use Rattle.std.{proofs.Common.{arith, append_assoc, append-nil}, specs.Prelude.{Ok, Contains, nat_eq, slice_get}, specs.Option.{option_or}}
use Rattle.std.proofs.lemmas.{Bool.{ne_eqb}, List.{length-append}}
use Rattle.ppdb_base.specs.declared.merge_error.MergeError.{MergeError}
use Rattle.ppdb_maps.specs.{Map.{row_image, row_within}, declared.image.RowImage.TheVariants.{Row}}
use Rattle.ppdb_values.specs.{RawFile.{RawFile}, Rules.{KeepsRules}, Value.{value_of}}
use Rattle.ppdb_values_sound_laws.specs.Sound.{IsSound}
use Rattle.ppdb_merge_items.specs.{Each.{Each, Pairs}, Laws.{SoundnessIsAnnotated}, NamedRows.{names, named_rows}, Annotated.{annotated_file}}
use Rattle.ppdb_merge_items.proofs.{Lists.{Each-append, Each-map, Each-weaker, Pairs-map, Pairs-unmap}, Mapped.{map_map_both}}
use Rattle.ppdb_merge_names_laws.specs.Laws.{ReferencesAreNamed}
use Rattle.ppdb_merge_names.specs.declared.imaged.Imaged.{Imaged}
use Rattle.ppdb_merge_joined.specs.Joinable.{AgreeOnDocuments}
use Rattle.ppdb_merge_moved.proofs.{Elements.{each_left, in_each}, ImageRows.{within_is}}
use Rattle.ppdb_merge_meaning_laws.specs.Kept.{Input, FitsAlone, MethodsApart, InputsFit, in_turn, moved_input}
use Rattle.ppdb_merge_fits.specs.{Clashes.{first_clash}, Laws.{NothingClashes}, Rows.{imaged_rows}}
use Rattle.ppdb_merge.specs.{declared.trace.Trace.{Trace}, Inputs.{ReadInput, IsValidInput, AreAdded, IsFitting, AreFitting, moved_by, trace_by, traces_of}}
use Rattle.ppdb_merge.specs.{Kept.{AreInputs}, Merged.{trace_of, is_first, unless}, Refusals.{added, clashes_before, methods_in, refusal_of}, Sound.{SoundTraces}}
use Rattle.ppdb_merge.{specs.Sound.{AreMethodsApart}, proofs.Adding.{added_sound}, proofs.Counted.{can_be_joined}, proofs.Given.{row_in_all}}
use Rattle.ppdb_merge.proofs.Imaged.{named_in_rows}

-- ---- inputs in turn

abbrev pub input_by : Bool × ReadInput → Input
input_by x = (x.0, moved_by x.1)

map_next : {A B : Type 0} (f : A → B) (xs : List A) (x : A) → map f (xs ++ x ∷ []) ≡ map f xs ++ f x ∷ []
map_next f [] x = refl
map_next f (y ∷ xs) x = ap (λ l. f y ∷ l) (map_next f xs x)

is_later : (t : Trace) (ts : List Trace) → is_first (t ∷ ts) ≡ false
is_later t ts = ne_eqb (length (t ∷ ts)) 0 (λ e. omega (arith, e))

turns_more : (inputs : List ReadInput) (input : ReadInput) → in_turn (inputs ++ input ∷ []) ≡ in_turn inputs ++ (is_first (traces_of inputs), input) ∷ []
turns_more [] input = refl
turns_more (first ∷ others) input =
    ap (λ l. (true, first) ∷ l) (map_next (λ i. (false, i)) others input)
    ∙ ap (λ b. (true, first) ∷ (map (λ i. (false, i)) others ++ (b, input) ∷ []))
    (sym (is_later (trace_by (true, first)) (map trace_by (map (λ i. (false, i)) others))))

pub traces_more : (inputs : List ReadInput) (input : ReadInput)
    → traces_of (inputs ++ input ∷ []) ≡ traces_of inputs ++ trace_of (is_first (traces_of inputs)) input.map input.raw ∷ []
traces_more inputs input = ap (map trace_by) (turns_more inputs input) ∙ map_next trace_by (in_turn inputs) (is_first (traces_of inputs), input)

pub length_turns : (inputs : List ReadInput) → length (traces_of inputs) ≡ length inputs
length_turns [] = refl
length_turns (first ∷ others) = ap suc (later others)
  where
    later : (is : List ReadInput) → length (map trace_by (map (λ i. (false, i)) is)) ≡ length is
    later [] = refl
    later (i ∷ is) = ap suc (later is)

pub turns_moved : (inputs : List ReadInput) → in_turn (map moved_by inputs) ≡ map input_by (in_turn inputs)
turns_moved [] = refl
turns_moved (first ∷ others) =
    ap (λ l. (true, moved_by first) ∷ l)
    (map_map_both (λ m. (false, m)) moved_by others ∙ sym (map_map_both input_by (λ i. (false, i)) others))

-- ---- one more

not_refused : (marks : List (List ℕ)) (traces : List Trace) (input : ReadInput) → refusal_of marks traces input.map input.raw ≡ None
    → first_clash marks (is_first traces) input.map input.raw ≡ None
not_refused marks traces input is = by (first_clash marks (is_first traces) input.map input.raw) is
  where
    by : (o : Option MergeError)
        → option_or o (slice_get (clashes_before traces input.map (trace_of (is_first traces) input.map input.raw).rows (value_of input.raw)) 0) ≡ None → o ≡ None
    by None e = refl
    by (Some told) e = absurd cc

-- where an input was added
record IsAdded (marks : List (List ℕ)) (traces : List Trace) (input : ReadInput) (more : List Trace) : Type 0 where
  fits : refusal_of marks traces input.map input.raw ≡ None
  is : more ≡ traces ++ trace_of (is_first traces) input.map input.raw ∷ []

is_added : (marks : List (List ℕ)) (traces : List Trace) (input : ReadInput) (more : List Trace) → added marks traces input.map input.raw ≡ Ok more
    → IsAdded marks traces input more
is_added marks traces input more e = by (refusal_of marks traces input.map input.raw) refl e
  where
    by : (o : Option MergeError) → refusal_of marks traces input.map input.raw ≡ o
        → unless o (Ok (traces ++ trace_of (is_first traces) input.map input.raw ∷ [])) ≡ Ok more → IsAdded marks traces input more
    by None none e = record { fits = none; is = sym cc }
    by (Some told) some e = absurd cc

-- ---- the row of the same table

module _ (sounds : (raw : RawFile) → KeepsRules raw → IsSound (value_of raw)) (annotated : SoundnessIsAnnotated) (named : ReferencesAreNamed)
    (clashes : NothingClashes) (marks : List (List ℕ)) where
  none_fit : AreFitting marks []
  none_fit = record { sound = record { few = omega arith; each = tt; methods_apart = tt; documents_agree = tt; entry = tt }; each = tt }

  pub one_fits : (inputs : List ReadInput) (input : ReadInput) → AreFitting marks inputs → IsValidInput input → length inputs < 256
      → refusal_of marks (traces_of inputs) input.map input.raw ≡ None → AreFitting marks (inputs ++ input ∷ [])
  one_fits inputs input fit valid few none =
      let traces = traces_of inputs in
      let first = is_first (traces_of inputs) in
      let clash = clashes marks first input.map input.raw valid.rules valid.ready (not_refused marks traces input none) in
      let sound = added_sound annotated named input.map input.raw valid.rules (sounds input.raw valid.rules) valid.ready marks traces fit.sound
      (let same = length_turns inputs in omega (arith, few, same)) clash.fits none in
      record {
        sound = subst SoundTraces (sym (traces_more inputs input)) sound;
        each = subst (Each (IsFitting marks)) (sym (turns_more inputs input))
            (Each-append (IsFitting marks) (in_turn inputs) ((first, input) ∷ []) fit.each (record { valid = valid; clash = clash }, tt));
      }

  one_more : (inputs : List ReadInput) (input : ReadInput) (more : List Trace) → AreFitting marks inputs → IsValidInput input → length inputs < 256
      → added marks (traces_of inputs) input.map input.raw ≡ Ok more → (more ≡ traces_of (inputs ++ input ∷ [])) × AreFitting marks (inputs ++ input ∷ [])
  one_more inputs input more fit valid few e =
      let is = is_added marks (traces_of inputs) input more e in
      (is.is ∙ sym (traces_more inputs input), one_fits inputs input fit valid few is.fits)

  all_more : (inputs rest : List ReadInput) (there traces : List Trace) → there ≡ traces_of inputs → AreFitting marks inputs → Each IsValidInput rest
      → length inputs + length rest ≤ 256 → AreAdded marks there rest traces → (traces ≡ traces_of (inputs ++ rest)) × AreFitting marks (inputs ++ rest)
  all_more inputs [] there traces same fit valid few is =
      (is ∙ same ∙ ap traces_of (sym (append-nil inputs)), subst (AreFitting marks) (sym (append-nil inputs)) fit)
  all_more inputs (input ∷ rest) there traces same fit valid few (more, e, others) =
      let step = one_more inputs input more fit valid.0 (omega (arith, few)) (subst (λ l. added marks l input.map input.raw ≡ Ok more) same e) in
      let all = all_more (inputs ++ input ∷ []) rest more traces step.0 step.1 valid.1
      (let long = length-append inputs (input ∷ []) in omega (arith, few, long)) others in
      let whole = append_assoc inputs (input ∷ []) rest in
      (all.0 ∙ ap traces_of whole, subst (AreFitting marks) whole all.1)

  pub all_fit : (inputs : List ReadInput) (traces : List Trace) → length inputs ≤ 256 → Each IsValidInput inputs → AreAdded marks [] inputs traces
      → (traces ≡ traces_of inputs) × AreFitting marks inputs
  all_fit inputs traces few valid are = all_more [] inputs [] traces refl none_fit valid (omega (arith, few)) are

  -- ---- what fits is apart

  alone : (x : Bool × ReadInput) → (IsFitting marks) x → FitsAlone (input_by x)
  alone x fits = record { sound = sounds x.1.raw fits.valid.rules; ready = fits.valid.ready; fits = fits.clash.fits }

  abbrev Of : ℕ → ℕ → Imaged
  Of method image = record { table = 0x06; row = method; to = 0x06; image = image }

  stands : (x : Bool × ReadInput) → (IsFitting marks) x → (method image : ℕ) → Contains (named_rows x.0 x.1.map (annotated_file (value_of x.1.raw))) (names 0x06 method)
      → row_within x.1.map 0x06 method ≡ Some image → Contains (trace_by x).rows (Of method image)
  stands x fits method image there is =
      row_in_all x.0 x.1.map x.1.raw (Of method image)
      (in_each (λ n. (to image : ℕ) → row_image x.1.map n.table n.row ≡ Row to image
      → Contains (imaged_rows x.0 x.1.map x.1.raw) (record { table = n.table; row = n.row; to = to; image = image }))
      (named_rows x.0 x.1.map (annotated_file (value_of x.1.raw))) (names 0x06 method)
      (named_in_rows x.0 x.1.map x.1.raw named fits.valid.rules) there 0x06 image (within_is x.1.map 0x06 method image is))

  apart : (a b : Bool × ReadInput) → (IsFitting marks) a → (IsFitting marks) b → AreMethodsApart (trace_by a) (trace_by b) → MethodsApart (input_by a) (input_by b)
  apart a b fits_a fits_b differ method other image names_a names_b is_a is_b =
      let of_a = in_each (λ (i : Imaged). nat_eq i.to 0x06 ≡ true → Each (λ (j : Imaged). i.image ≢ j.image) (methods_in (trace_by b).rows))
      (trace_by a).rows (Of method image) (each_left (λ (i : Imaged). Each (λ (j : Imaged). i.image ≢ j.image) (methods_in (trace_by b).rows))
      (λ i. nat_eq i.to 0x06) (trace_by a).rows differ) (stands a fits_a method image names_a is_a) refl in
      in_each (λ (j : Imaged). nat_eq j.to 0x06 ≡ true → image ≢ j.image) (trace_by b).rows (Of other image)
      (each_left (λ (j : Imaged). image ≢ j.image) (λ j. nat_eq j.to 0x06) (trace_by b).rows of_a) (stands b fits_b other image names_b is_b) refl refl

  all_apart : (xs : List (Bool × ReadInput)) → Each (IsFitting marks) xs → Pairs AreMethodsApart (map trace_by xs) → Pairs (λ a b. MethodsApart (input_by a) (input_by b)) xs
  all_apart [] each pairs = tt
  all_apart (x ∷ xs) each pairs = (from_one each.0 xs each.1 pairs.0, all_apart xs each.1 pairs.1)
    where
      from_one : (IsFitting marks) x → (ys : List (Bool × ReadInput)) → Each (IsFitting marks) ys → Each (AreMethodsApart (trace_by x)) (map trace_by ys)
          → Each (λ y. MethodsApart (input_by x) (input_by y)) ys
      from_one here [] each differ = tt
      from_one here (y ∷ ys) each differ = (apart x y here each.0 differ.0, from_one here ys each.1 differ.1)

  abbrev Agree : Input → Input → Type 0
  Agree a b = AgreeOnDocuments (moved_input a) (moved_input b)

  pub fit_inputs : (inputs : List ReadInput) → AreFitting marks inputs → InputsFit (map moved_by inputs)
  fit_inputs inputs fit = record {
    each = subst (Each FitsAlone) (sym (turns_moved inputs)) (Each-map input_by FitsAlone (in_turn inputs) (Each-weaker (IsFitting marks)
        (λ x. FitsAlone (input_by x)) alone (in_turn inputs) fit.each));
    methods_apart = subst (Pairs MethodsApart) (sym (turns_moved inputs)) (Pairs-map input_by MethodsApart (in_turn inputs)
        (all_apart (in_turn inputs) fit.each fit.sound.methods_apart));
    documents_agree = subst (Pairs Agree) (sym (turns_moved inputs)) (Pairs-map input_by Agree (in_turn inputs)
        (Pairs-unmap trace_by (λ (s t : Trace). AgreeOnDocuments s.moved t.moved) (in_turn inputs)
        (Pairs-unmap (λ (t : Trace). t.moved) AgreeOnDocuments (traces_of inputs) (can_be_joined (traces_of inputs) fit.sound).documents_agree)));
  }

  pub are_inputs_of : (inputs : List ReadInput) → AreFitting marks inputs → AreInputs (traces_of inputs) (map moved_by inputs)
  are_inputs_of inputs fit = record {
    fit = fit_inputs inputs fit;
    moved = map_map_both (λ (t : Trace). t.moved) trace_by (in_turn inputs) ∙ sym (map_map_both moved_input input_by (in_turn inputs))
        ∙ ap (map moved_input) (sym (turns_moved inputs));
  }

  pub are_inputs : (inputs : List ReadInput) (traces : List Trace) → length inputs ≤ 256 → Each IsValidInput inputs → AreAdded marks [] inputs traces
      → AreInputs traces (map moved_by inputs)
  are_inputs inputs traces few valid are =
      let all = all_fit inputs traces few valid are in
      subst (λ l. AreInputs l (map moved_by inputs)) (sym all.0) (are_inputs_of inputs all.1)
