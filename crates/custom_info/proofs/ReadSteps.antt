-- The handler and the steps that a blob is read as can be written, and the methods are there.
use Rattle.std.{proofs.Common.{◌≡◌, ℕ, zero, suc, ◌<◌, ◌≤◌, true, false, List, [], ◌∷◌, map, Option, sym, subst, arith}, specs.Prelude.{All}}
use Rattle.std.proofs.lemmas.{Bool.{ltb-true, leb-true}, List.Elements.{All-push, All-nil, All-head, All-tail, All-cons}}
use Rattle.ppdb_base.specs.declared.BlobFault.{BlobFault}
use Rattle.cli_ints.proofs.Shortest.{unsigned-below}
use Rattle.blob_grammar.{specs.Grammar.{Value, number, integer, octets, Field, Cut, with_value, IsAllowed}, specs.Reading.{Reading}, proofs.ReadRecords.{of_reading}}
use Rattle.custom_info.specs.{declared.stepping.AsyncStep.{AsyncStep}, AsyncStepping.{async_stepping, Entry, catch_handler, await_step, entries_of, handler_of}}
use Rattle.custom_info.{specs.AsyncStepping.{is_stored, IsHandler, IsStep}, specs.Fields.{is_offset}, proofs.ReadRows.{row-there, unsigned-spelled}}

abbrev IsRead : ℕ → Entry → Type 0
IsRead methods (catch_handler handler) = IsHandler handler
IsRead methods (await_step step) = IsStep step × (step.method ≤ methods)

-- Nothing has begun; or, after the handler, a pause, or a pause and where the method resumes.
abbrev Begun : List Entry → List Value → Type 0
Begun whole [] = Unit {0}
Begun (first ∷ others) (number pause ∷ []) = pause < 2147483648
Begun (first ∷ others) (number pause ∷ number resume ∷ []) = (pause < 2147483648) × (resume < 2147483648)
Begun _ _ = ⊥

abbrev Holds : ℕ → Cut Entry → Type 0
Holds methods c = All (IsRead methods) c.whole × Begun c.whole c.begun

below : (n : ℕ) → is_offset n ≡ true → n < 2147483648
below n e = ltb-true n 2147483648 e

handler-read : (stored : ℕ) → is_stored stored ≡ true → IsHandler (handler_of stored)
handler-read zero e = tt
handler-read (suc offset) e = let at_most : suc offset ≤ 2147483648 = leb-true (suc offset) 2147483648 e in omega arith

one : (methods : ℕ) (whole : List Entry) (begun : List Value) (bytes : List ℕ) (value : Value) (after : List ℕ)
    → IsAllowed (async_stepping methods) (record { whole = whole; begun = begun }) (record { bytes = bytes; value = value }) after
    → All (IsRead methods) whole → Begun whole begun → Holds methods (with_value (async_stepping methods) (record { whole = whole; begun = begun }) value)
one methods [] [] bytes (number stored) after a h b = (All-push (IsRead methods) [] (catch_handler (handler_of stored)) h (handler-read stored a.allowed), tt)
one methods [] [] bytes (integer z) after a h b = let e : false ≡ true = a.allowed in absurd cc
one methods [] [] bytes (octets o) after a h b = let e : false ≡ true = a.allowed in absurd cc
one methods [] (v ∷ vs) bytes value after a h b = absurd b
one methods (x ∷ xs) [] bytes (number pause) after a h b = (h, below pause a.allowed)
one methods (x ∷ xs) [] bytes (integer z) after a h b = let e : false ≡ true = a.allowed in absurd cc
one methods (x ∷ xs) [] bytes (octets o) after a h b = let e : false ≡ true = a.allowed in absurd cc
one methods (x ∷ xs) (number pause ∷ []) bytes (number resume) after a h b = (h, (b, below resume a.allowed))
one methods (x ∷ xs) (number pause ∷ []) bytes (integer z) after a h b = let e : false ≡ true = a.allowed in absurd cc
one methods (x ∷ xs) (number pause ∷ []) bytes (octets o) after a h b = let e : false ≡ true = a.allowed in absurd cc
one methods (x ∷ xs) (number pause ∷ number resume ∷ []) bytes (number method) after a h b =
    let there = row-there methods method a.allowed in
    let step : AsyncStep = record { pause = pause; resume = resume; method = method } in
    let spelled : method < 536870912 = unsigned-below bytes method (unsigned-spelled a.form bytes method after a.expected a.spelled) in
    (All-push (IsRead methods) (x ∷ xs) (await_step step) h ((b.0, b.1, there.0, spelled), there.1), tt)
one methods (x ∷ xs) (number pause ∷ number resume ∷ []) bytes (integer z) after a h b = let e : false ≡ true = a.allowed in absurd cc
one methods (x ∷ xs) (number pause ∷ number resume ∷ []) bytes (octets o) after a h b = let e : false ≡ true = a.allowed in absurd cc
one methods (x ∷ xs) (number pause ∷ number resume ∷ v ∷ vs) bytes value after a h b = absurd b
one methods (x ∷ xs) (number pause ∷ integer z ∷ vs) bytes value after a h b = absurd b
one methods (x ∷ xs) (number pause ∷ octets o ∷ vs) bytes value after a h b = absurd b
one methods (x ∷ xs) (integer z ∷ vs) bytes value after a h b = absurd b
one methods (x ∷ xs) (octets o ∷ vs) bytes value after a h b = absurd b

kept : (methods : ℕ) (c : Cut Entry) (f : Field) (after : List ℕ) → IsAllowed (async_stepping methods) c f after → Holds methods c
    → Holds methods (with_value (async_stepping methods) c f.value)
kept methods c f after a h = one methods c.whole c.begun f.bytes f.value after a h.0 h.1

steps-of : (methods : ℕ) (steps : List AsyncStep) → All (IsRead methods) (map await_step steps) → All (λ step. IsStep step × (step.method ≤ methods)) steps
steps-of methods [] h = All-nil (λ (step : AsyncStep). IsStep step × (step.method ≤ methods))
steps-of methods (step ∷ steps) h =
    All-cons (λ (s : AsyncStep). IsStep s × (s.method ≤ methods)) step steps (All-head (IsRead methods) (await_step step) (map await_step steps) h)
    (steps-of methods steps (All-tail (IsRead methods) (await_step step) (map await_step steps) h))

pub read_steps : (methods : ℕ) (blob : List ℕ) (handler : Option ℕ) (steps : List AsyncStep) (fault : Option BlobFault)
    → Reading (async_stepping methods) blob (entries_of handler steps) fault
    → IsHandler handler × All (λ step. IsStep step × (step.method ≤ methods)) steps
read_steps methods blob handler steps fault r =
    let all : All (IsRead methods) (entries_of handler steps) =
    subst (λ (xs : List Entry). All (IsRead methods) xs) (sym r.made) (of_reading (async_stepping methods) (Holds methods) (kept methods)
    (All-nil (IsRead methods), tt) blob (entries_of handler steps) fault r).0
    in (
      All-head (IsRead methods) (catch_handler handler) (map await_step steps) all,
      steps-of methods steps (All-tail (IsRead methods) (catch_handler handler) (map await_step steps) all),
    )
