-- What async_into writes is read again.
use Rattle.std.{proofs.Common.{◌≡◌, ℕ, ◌<◌, ◌≤◌, true, List, [], ◌∷◌, ◌++◌, map, Option, Some, None, refl, sym, ap, subst, arith}, specs.Prelude.{All}}
use Rattle.std.{specs.List.{flat_map}, specs.Int.{w32, to_le_bytes}, proofs.lemmas.List.Elements.{All-head, All-tail}}
use Rattle.std.proofs.lemmas.Nat.{from_le_bytes-to_le_bytes_4}
use Rattle.cli_ints.{specs.Shortest.{short_unsigned}, proofs.Shortest.{short_unsigned-shortest}}
use Rattle.blob_grammar.{specs.Grammar.{number, word, unsigned, Field, bytes_of}, specs.Reading.{Reading}, proofs.Written.{Writes, FollowFrom, cut_from, EachMayAdd}}
use Rattle.blob_grammar.proofs.Written.{fields_after, records_read}
use Rattle.custom_info.specs.{declared.stepping.AsyncStep.{AsyncStep}, Fields.{is_offset}, AsyncStepping.{async_stepping, Entry, catch_handler, await_step}}
use Rattle.custom_info.specs.AsyncStepping.{entries_of, IsHandler, IsStep, is_stored, stored_of, handler_of, step_spelling, async_spelling}
use Rattle.custom_info.proofs.{WrittenRows.{inside}, WrittenSlots.{word_field}}

abbrev fields_of : List Entry → Entry → List Field
fields_of whole (catch_handler handler) = word_field (stored_of handler) ∷ []
fields_of whole (await_step step) =
    word_field step.pause ∷ word_field step.resume ∷ record { bytes = short_unsigned step.method; value = number step.method } ∷ []

-- The handler comes first, and steps come after it.
abbrev MayAdd : ℕ → List Entry → Entry → Type 0
MayAdd methods [] (catch_handler handler) = IsHandler handler
MayAdd methods [] (await_step step) = ⊥
MayAdd methods (first ∷ others) (catch_handler handler) = ⊥
MayAdd methods (first ∷ others) (await_step step) = IsStep step × (step.method ≤ methods)

stored_fits : (handler : Option ℕ) → IsHandler handler → stored_of handler ≤ 2147483648
stored_fits None h = omega arith
stored_fits (Some offset) h = omega arith

at_most : (n : ℕ) → n ≤ 2147483648 → is_stored n ≡ true
at_most n h = grind arith

below : (n : ℕ) → n < 2147483648 → is_offset n ≡ true
below n h = grind arith

same_handler : (handler : Option ℕ) → handler_of (stored_of handler) ≡ handler
same_handler None = refl
same_handler (Some offset) = refl

word_fits : (n : ℕ) → n ≤ 2147483648 → n < 4294967296
word_fits n h = omega arith

follow : (methods : ℕ) (whole : List Entry) (r : Entry) (left : List ℕ) → MayAdd methods whole r
    → FollowFrom (async_stepping methods) (record { whole = whole; begun = [] }) (fields_of whole r) left
follow methods [] (catch_handler handler) left h =
    let f = stored_fits handler h in (
      record {
        form = word;
        expected = refl;
        spelled = (refl, sym (from_le_bytes-to_le_bytes_4 (stored_of handler) (word_fits (stored_of handler) f)));
        allowed = at_most (stored_of handler) f;
      },
      tt,
    )
follow methods [] (await_step step) left h = absurd h
follow methods (x ∷ xs) (catch_handler handler) left h = absurd h
follow methods (x ∷ xs) (await_step step) left h =
    let pause : step.pause < 2147483648 = h.0.0 in
    let resume : step.resume < 2147483648 = h.0.1 in (
      record { form = word; expected = refl; spelled = (refl, sym (from_le_bytes-to_le_bytes_4 step.pause (omega arith))); allowed = below step.pause pause },
      (
        record {
          form = word;
          expected = refl;
          spelled = (refl, sym (from_le_bytes-to_le_bytes_4 step.resume (omega arith)));
          allowed = below step.resume resume;
        },
        (
          record {
            form = unsigned;
            expected = refl;
            spelled = (short_unsigned-shortest step.method h.0.3).spelled;
            allowed = inside methods step.method h.0.2 h.1;
          },
          tt,
        ),
      ),
    )

makes : (methods : ℕ) (whole : List Entry) (r : Entry) → MayAdd methods whole r → cut_from (async_stepping methods) (record { whole = whole; begun = [] })
    (fields_of whole r) ≡ record { whole = whole ++ r ∷ []; begun = [] }
makes methods [] (catch_handler handler) h = ap (λ (o : Option ℕ). record { whole = catch_handler o ∷ []; begun = [] }) (same_handler handler)
makes methods [] (await_step step) h = absurd h
makes methods (x ∷ xs) (catch_handler handler) h = absurd h
makes methods (x ∷ xs) (await_step step) h = refl

writes : (methods : ℕ) → Writes (async_stepping methods) fields_of (MayAdd methods)
writes methods = record { follow = follow methods; makes = makes methods }

each : (methods : ℕ) (first : Entry) (others : List Entry) (steps : List AsyncStep) → All IsStep steps → All (λ step. step.method ≤ methods) steps
    → EachMayAdd (MayAdd methods) (first ∷ others) (map await_step steps)
each methods first others [] a b = tt
each methods first others (step ∷ steps) a b = (
  (All-head IsStep step steps a, All-head (λ (s : AsyncStep). s.method ≤ methods) step steps b),
  each methods first (others ++ await_step step ∷ []) steps (All-tail IsStep step steps a) (All-tail (λ (s : AsyncStep). s.method ≤ methods) step steps b),
)

steps_spelled : (whole : List Entry) (steps : List AsyncStep) → bytes_of (fields_after fields_of whole (map await_step steps)) ≡ flat_map step_spelling steps
steps_spelled whole [] = refl
steps_spelled whole (step ∷ steps) = ap (λ bs. step_spelling step ++ bs) (steps_spelled (whole ++ await_step step ∷ []) steps)

pub written_steps : (methods : ℕ) (handler : Option ℕ) (steps : List AsyncStep) → IsHandler handler → All IsStep steps
    → All (λ step. step.method ≤ methods) steps
    → Reading (async_stepping methods) (async_spelling handler steps) (entries_of handler steps) None
written_steps methods handler steps h a b =
    subst (λ blob. Reading (async_stepping methods) blob (entries_of handler steps) None)
    (ap (λ bs. to_le_bytes w32 (stored_of handler) ++ bs) (steps_spelled (catch_handler handler ∷ []) steps))
    (records_read (async_stepping methods) fields_of (MayAdd methods) (writes methods) (entries_of handler steps)
    (h, each methods (catch_handler handler) [] steps a b) refl)
