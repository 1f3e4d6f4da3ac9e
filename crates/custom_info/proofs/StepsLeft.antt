-- What a cursor of async stepping information has left, a field at a time.
use Rattle.std.proofs.Common.{◌≡◌, ℕ, ◌+◌, ◌<◌, true, ◌&&◌, List, [], ◌∷◌, ◌++◌, length, drop, Some, None, Ok, Err, refl, ap, subst, ◌∙◌, zero-add}
use Rattle.std.specs.Option.{option_map}
use Rattle.blob_grammar.specs.{Reader.{unsigned_at, Left, placed, word_at, push, is_empty}, Grammar.{Value, number, unsigned, word}, Reading.{Reading}}
use Rattle.blob_grammar.{proofs.Readers.{read_from-reads}, proofs.Steps.{Alike, read_from-alike, nothing_left, left_at, left-end, not_empty}, specs.Allowed.{is_row}}
use Rattle.ppdb_base.specs.declared.BlobFault.{BlobFault}
use Rattle.custom_info.specs.{declared.stepping.AsyncStep.{AsyncStep}, Fields.{is_offset, checked}, AsyncStepping.{async_steps, steps_left, async_stepping, Entry}}
use Rattle.custom_info.{specs.AsyncStepping.{catch_handler, await_step, is_stored, handler_of, entries_of}, proofs.Checked.{left-kept, left-refused, and-false}}
use Rattle.custom_info.proofs.Mapped.{Renames, renamed, read_from-renamed}

Any : List AsyncStep → List AsyncStep → Type 0
Any a b = Unit {0}

-- the steps' grammar asks nothing of the steps before
alike : (methods : ℕ) → Alike (async_steps methods) (async_steps methods) Any
unfolding Any
alike methods = record { form = λ a b vs e. refl; allows = λ a b vs v e. refl; record_of = λ a b vs e. refl; may_stop = λ a b vs e. refl; push = λ a b r e. tt }

-- ---- the steps

pub at_end : (methods : ℕ) (blob : List ℕ) (at : ℕ) → at ≡ length blob → steps_left methods blob at ≡ nothing_left None
unfolding steps_left
at_end methods blob at e = left-end (async_steps methods) [] [] blob at word refl e refl

pub no_pause : (methods : ℕ) (blob : List ℕ) (at : ℕ) (fault : BlobFault) → at < length blob
    → checked is_offset at (placed at (word_at (drop at blob))) ≡ Err fault → steps_left methods blob at ≡ nothing_left (Some fault)
unfolding steps_left
no_pause methods blob at fault less e =
    left-refused (async_steps methods) [] [] blob at word (word_at (drop at blob)) fault refl refl (ap (λ b. b && true) (not_empty blob at less)) e

pause_in : (methods : ℕ) (blob : List ℕ) (at pause len : ℕ) → checked is_offset at (placed at (word_at (drop at blob))) ≡ Ok (pause, len)
    → steps_left methods blob at ≡ left_at (async_steps methods) [] (number pause ∷ []) blob (at + len)
unfolding steps_left
pause_in methods blob at pause len e = left-kept (async_steps methods) [] [] blob at word (word_at (drop at blob)) pause len refl refl e

pub no_resume : (methods : ℕ) (blob : List ℕ) (at pause len : ℕ) (fault : BlobFault) → checked is_offset at (placed at (word_at (drop at blob))) ≡ Ok (
  pause,
  len,
)
    → checked is_offset (at + len) (placed (at + len) (word_at (drop (at + len) blob))) ≡ Err fault → steps_left methods blob at ≡ nothing_left (Some fault)
no_resume methods blob at pause len fault p e =
    pause_in methods blob at pause len p
    ∙ left-refused (async_steps methods) [] (number pause ∷ []) blob (at + len) word (word_at (drop (at + len) blob)) fault refl refl
    (and-false (is_empty (drop (at + len) blob))) e

resume_in : (methods : ℕ) (blob : List ℕ) (at pause len resume more : ℕ) → checked is_offset at (placed at (word_at (drop at blob))) ≡ Ok (pause, len)
    → checked is_offset (at + len) (placed (at + len) (word_at (drop (at + len) blob))) ≡ Ok (resume, more)
    → steps_left methods blob at ≡ left_at (async_steps methods) [] (number pause ∷ number resume ∷ []) blob (at + len + more)
resume_in methods blob at pause len resume more p e =
    pause_in methods blob at pause len p
    ∙ left-kept (async_steps methods) [] (number pause ∷ []) blob (at + len) word (word_at (drop (at + len) blob)) resume more refl refl e

pub no_method : (methods : ℕ) (blob : List ℕ) (at pause len resume more : ℕ) (fault : BlobFault)
    → checked is_offset at (placed at (word_at (drop at blob))) ≡ Ok (pause, len)
    → checked is_offset (at + len) (placed (at + len) (word_at (drop (at + len) blob))) ≡ Ok (resume, more)
    → checked (is_row methods) (at + len + more) (placed (at + len + more) (unsigned_at (drop (at + len + more) blob))) ≡ Err fault
    → steps_left methods blob at ≡ nothing_left (Some fault)
no_method methods blob at pause len resume more fault p r e =
    resume_in methods blob at pause len resume more p r
    ∙ left-refused (async_steps methods) [] (number pause ∷ number resume ∷ []) blob (at + len + more) unsigned (unsigned_at (drop (at + len + more) blob))
    fault refl refl (and-false (is_empty (drop (at + len + more) blob))) e

pub a_step : (methods : ℕ) (blob : List ℕ) (at pause len resume more method last : ℕ) → checked is_offset at (placed at (word_at (drop at blob))) ≡ Ok (
  pause,
  len,
)
    → checked is_offset (at + len) (placed (at + len) (word_at (drop (at + len) blob))) ≡ Ok (resume, more)
    → checked (is_row methods) (at + len + more) (placed (at + len + more) (unsigned_at (drop (at + len + more) blob))) ≡ Ok (method, last)
    → steps_left methods blob at ≡ push (record { pause = pause; resume = resume; method = method }) (steps_left methods blob (at + len + more + last))
unfolding steps_left Any
a_step methods blob at pause len resume more method last p r e =
    let step : AsyncStep = record { pause = pause; resume = resume; method = method } in
    resume_in methods blob at pause len resume more p r
    ∙ left-kept (async_steps methods) [] (number pause ∷ number resume ∷ []) blob (at + len + more) unsigned (unsigned_at (drop (at + len + more) blob)) method
    last refl refl e
    ∙ ap (push step) (read_from-alike (async_steps methods) (async_steps methods) Any (alike methods) (step ∷ []) [] [] (at + len + more + last)
    (drop (at + len + more + last) blob) tt)

-- ---- the whole blob

-- something has been read before the steps
HasHandler : List Entry → List AsyncStep → Type 0
HasHandler [] steps = ⊥
HasHandler (first ∷ others) steps = Unit {0}

after_handler : (methods : ℕ) → Renames (async_stepping methods) (async_steps methods) await_step HasHandler
unfolding HasHandler
after_handler methods = record {
  form = form_is;
  allows = allows_is;
  record_of = record_is;
  may_stop = stop_is;
  push = push_is;
}
  where
    form_is : (a : List Entry) (b : List AsyncStep) (vs : List Value) → HasHandler a b → (async_stepping methods).form a vs ≡ (async_steps methods).form b vs
    form_is [] b vs e = absurd e
    form_is (x ∷ xs) b vs e = refl

    allows_is : (a : List Entry) (b : List AsyncStep) (vs : List Value) (v : Value) → HasHandler a b
        → (async_stepping methods).allows a vs v ≡ (async_steps methods).allows b vs v
    allows_is [] b vs v e = absurd e
    allows_is (x ∷ xs) b vs v e = refl

    record_is : (a : List Entry) (b : List AsyncStep) (vs : List Value) → HasHandler a b
        → (async_stepping methods).record_of a vs ≡ option_map await_step ((async_steps methods).record_of b vs)
    record_is [] b vs e = absurd e
    record_is (x ∷ xs) b vs e = refl

    stop_is : (a : List Entry) (b : List AsyncStep) (vs : List Value) → HasHandler a b
        → (async_stepping methods).may_stop a vs ≡ (async_steps methods).may_stop b vs
    stop_is [] b vs e = absurd e
    stop_is (x ∷ xs) b vs e = refl

    push_is : (a : List Entry) (b : List AsyncStep) (s : AsyncStep) → HasHandler a b → HasHandler (a ++ await_step s ∷ []) (b ++ s ∷ [])
    push_is [] b s e = absurd e
    push_is (x ∷ xs) b s e = tt

reads : (methods : ℕ) (blob : List ℕ) (left : Left Entry) → left_at (async_stepping methods) [] [] blob 0 ≡ left
    → Reading (async_stepping methods) blob left.items left.fault
reads methods blob left e = subst (λ (l : Left Entry). Reading (async_stepping methods) blob l.items l.fault) e (read_from-reads (async_stepping methods) blob)

-- The blob is at fault at its handler.
pub no_handler : (methods : ℕ) (blob : List ℕ) (fault : BlobFault) → checked is_stored 0 (placed 0 (word_at blob)) ≡ Err fault
    → Reading (async_stepping methods) blob [] (Some fault)
no_handler methods blob fault e =
    reads methods blob (nothing_left (Some fault))
    (left-refused (async_stepping methods) [] [] blob 0 word (word_at blob) fault refl refl (and-false (is_empty (drop 0 blob))) e)

-- A handler is there, and what is left after it are the steps.
pub a_handler : (methods : ℕ) (blob : List ℕ) (stored len : ℕ) → checked is_stored 0 (placed 0 (word_at blob)) ≡ Ok (stored, len)
    → Reading (async_stepping methods) blob (entries_of (handler_of stored) (steps_left methods blob len).items) (steps_left methods blob len).fault
unfolding steps_left HasHandler
a_handler methods blob stored len e =
    let after = λ (at : ℕ). push (catch_handler (handler_of stored)) (renamed await_step (steps_left methods blob at)) in
    reads methods blob (after len)
    (left-kept (async_stepping methods) [] [] blob 0 word (word_at blob) stored len refl refl e
    ∙ ap (push (catch_handler (handler_of stored)))
    (read_from-renamed (async_stepping methods) (async_steps methods) await_step HasHandler (after_handler methods)
    (catch_handler (handler_of stored) ∷ []) [] [] (0 + len) (drop (0 + len) blob) tt)
    ∙ ap after (zero-add len))
