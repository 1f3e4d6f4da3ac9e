-- A text that is put piece by piece: its start, its pieces, its end, and a piece that fails.
use Rattle.std.{proofs.Common.{ℕ, ◌≡◌, List, [], ◌++◌, refl, sym, ◌∙◌, append_assoc, arith}, proofs.lemmas.List.{append-nil}, specs.Prelude.{Option, Result, Ok}}
use Rattle.std.specs.Prelude.{Err, IsErrAnd}
use Rattle.ppdb_base.specs.{Written.{Puts}, declared.sink.WriteError.{WriteError}, declared.sink.WriteError.TheVariants.{Memory}}
use Rattle.ppdb_base.proofs.Written.{appended_nothing, prefix_nothing, puts_then, puts_cut}

-- a part of the whole was put, and the rest is still to come
pub record Putting (old new : Option (List ℕ)) (before after : ℕ) (rest whole : List ℕ) : Type 0 where
  pub done : List ℕ
  pub put : Puts {T = Unit {0}} (Ok tt) old new before after done
  pub is_whole : whole ≡ done ++ rest

-- nothing was put
pub puts_nothing : (old : Option (List ℕ)) (before : ℕ) → Puts {T = Unit {0}} (Ok tt) old old before before []
puts_nothing old before = record { ok = sym (appended_nothing old); err = tt; failed = λ f. absurd cc; later = omega arith }

-- there was no memory, and nothing was put
pub puts_memory : {T : Type 0} (r : Result T WriteError) (old : Option (List ℕ)) (before : ℕ) (text : List ℕ)
    → IsErrAnd r (λ e. e ≡ Memory) → Puts r old old before before text
puts_memory (Ok x) old before text is = absurd is
puts_memory (Err e) old before text is =
    record { ok = tt; err = prefix_nothing old text; failed = λ f. absurd (let same : e ≡ Memory = is in cc); later = omega arith }

pub put_none : (old : Option (List ℕ)) (before : ℕ) (whole : List ℕ) → Putting old old before before whole whole
put_none old before whole = record { done = []; put = puts_nothing old before; is_whole = refl }

pub put_piece : (old mid new : Option (List ℕ)) (before between after : ℕ) (piece rest whole : List ℕ)
    → Putting old mid before between (piece ++ rest) whole → Puts {T = Unit {0}} (Ok tt) mid new between after piece
    → Putting old new before after rest whole
put_piece old mid new before between after piece rest whole h p = record {
  done = h.done ++ piece;
  put = puts_then (Ok tt) old mid new before between after h.done piece h.put p;
  is_whole = h.is_whole ∙ sym (append_assoc h.done piece rest);
}

pub put_whole : (old new : Option (List ℕ)) (before after : ℕ) (whole : List ℕ)
    → Putting old new before after [] whole → Puts {T = Unit {0}} (Ok tt) old new before after whole
put_whole old new before after whole h = rw (h.is_whole ∙ append-nil h.done) h.put

-- a prefix of the next piece was put
pub put_prefix : {T U : Type 0} (e : WriteError) (r : Result T WriteError) (old mid new : Option (List ℕ)) (before between after : ℕ) (piece rest whole : List ℕ)
    → Putting old mid before between (piece ++ rest) whole → IsErrAnd r (λ d. d ≡ e) → Puts {T = U} (Err e) mid new between after piece
    → Puts r old new before after whole
put_prefix e r old mid new before between after piece rest whole h is p =
    rw h.is_whole (puts_then r old mid new before between after h.done (piece ++ rest) h.put (puts_cut e r mid new between after piece rest is p))
