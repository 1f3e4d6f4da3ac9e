-- A grammar whose records are those of another one under another name: what is left by the one is what is left by the other.
use Rattle.std.proofs.Common.{◌≡◌, ℕ, zero, suc, ◌+◌, ◌&&◌, List, [], ◌∷◌, ◌++◌, length, drop, map, Option, Some, None, Result, Ok, Err, refl, ap, ◌∙◌}
use Rattle.std.specs.Option.{option_map}
use Rattle.ppdb_base.specs.declared.{Code.{Code}, Code.TheVariants.{BlobEnd}}
use Rattle.blob_grammar.specs.{Grammar.{Value, Form, Grammar}, Reader.{Left, field_at, is_empty, Step, field, stop, invalid, stop_or, if_allowed, step_at, step_in}}
use Rattle.blob_grammar.specs.Reader.{step, push, close_and, take_step, read_for, read_from}

-- what is left, each item under its other name
abbrev pub renamed : {R S : Type 0} → (S → R) → Left S → Left R
renamed name left = record { items = map name left.items; fault = left.fault }

-- After lists of records that E relates, the grammar g asks what h asks, and makes the records that h makes, renamed.
pub record Renames {R S : Type 0} (g : Grammar R) (h : Grammar S) (name : S → R) (E : List R → List S → Type 0) : Type 0 where
  pub form : (a : List R) (b : List S) (vs : List Value) → E a b → g.form a vs ≡ h.form b vs
  pub allows : (a : List R) (b : List S) (vs : List Value) (v : Value) → E a b → g.allows a vs v ≡ h.allows b vs v
  pub record_of : (a : List R) (b : List S) (vs : List Value) → E a b → g.record_of a vs ≡ option_map name (h.record_of b vs)
  pub may_stop : (a : List R) (b : List S) (vs : List Value) → E a b → g.may_stop a vs ≡ h.may_stop b vs
  pub push : (a : List R) (b : List S) (s : S) → E a b → E (a ++ name s ∷ []) (b ++ s ∷ [])

step_at-renamed : {R S : Type 0} (g : Grammar R) (h : Grammar S) (name : S → R) (E : List R → List S → Type 0) → Renames g h name E
    → (a : List R) (b : List S) (vs : List Value) (bytes : List ℕ) (r : Result (Value × ℕ) Code) → E a b
    → step_at g a vs bytes r ≡ step_at h b vs bytes r
step_at-renamed g h name E k a b vs bytes (Ok x) e = ap (λ t. if_allowed t x.0 x.1) (k.allows a b vs x.0 e)
step_at-renamed g h name E k a b vs bytes (Err code) e = ap (λ t. stop_or (is_empty bytes && t) code) (k.may_stop a b vs e)

step_in-renamed : {R S : Type 0} (g : Grammar R) (h : Grammar S) (name : S → R) (E : List R → List S → Type 0) → Renames g h name E
    → (a : List R) (b : List S) (vs : List Value) (bytes : List ℕ) (o : Option Form) → E a b
    → step_in g a vs bytes o ≡ step_in h b vs bytes o
step_in-renamed g h name E k a b vs bytes (Some form) e = step_at-renamed g h name E k a b vs bytes (field_at form bytes) e
step_in-renamed g h name E k a b vs [] None e = ap (λ t. stop_or t BlobEnd) (k.may_stop a b vs e)
step_in-renamed g h name E k a b vs (x ∷ bytes) None e = refl

take-renamed : {R S : Type 0} (g : Grammar R) (h : Grammar S) (name : S → R) (E : List R → List S → Type 0) → Renames g h name E
    → (on_g : ℕ → List R → List Value → Left R) (on_h : ℕ → List S → List Value → Left S) (a : List R) (b : List S) (vs : List Value) (at : ℕ) (s : Step)
    → E a b
    → ((len : ℕ) (c : List R) (d : List S) (ws : List Value) → E c d → on_g len c ws ≡ renamed name (on_h len d ws))
    → take_step g on_g a vs at s ≡ renamed name (take_step h on_h b vs at s)
take-renamed g h name E k on_g on_h a b vs at stop e again = refl
take-renamed g h name E k on_g on_h a b vs at (invalid code) e again = refl
take-renamed {R = R} {S = S} g h name E k on_g on_h a b vs at (field value len) e again =
    ap (close_and (on_g len) a (vs ++ value ∷ [])) (k.record_of a b (vs ++ value ∷ []) e) ∙ close-renamed (h.record_of b (vs ++ value ∷ []))
  where
    close-renamed : (o : Option S) → close_and (on_g len) a (vs ++ value ∷ []) (option_map name o) ≡ renamed name (close_and (on_h len) b (vs ++ value ∷ []) o)
    close-renamed None = again len a b (vs ++ value ∷ []) e
    close-renamed (Some s) = ap (push (name s)) (again len (a ++ name s ∷ []) (b ++ s ∷ []) [] (k.push a b s e))

read_for-renamed : {R S : Type 0} (g : Grammar R) (h : Grammar S) (name : S → R) (E : List R → List S → Type 0) → Renames g h name E
    → (turns : ℕ) (a : List R) (b : List S) (vs : List Value) (at : ℕ) (bytes : List ℕ) → E a b
    → read_for turns g a vs at bytes ≡ renamed name (read_for turns h b vs at bytes)
unfolding read_for
read_for-renamed g h name E k zero a b vs at bytes e = refl
read_for-renamed {R = R} {S = S} g h name E k (suc turns) a b vs at bytes e =
    let on_g = λ (len : ℕ) (w : List R) (t : List Value). read_for turns g w t (at + len) (drop len bytes) in
    let on_h = λ (len : ℕ) (w : List S) (t : List Value). read_for turns h w t (at + len) (drop len bytes) in
    ap (take_step g on_g a vs at) (ap (step_in g a vs bytes) (k.form a b vs e) ∙ step_in-renamed g h name E k a b vs bytes (h.form b vs) e)
    ∙ take-renamed g h name E k on_g on_h a b vs at (step h b vs bytes) e (λ len c d ws f. read_for-renamed g h name E k turns c d ws (at + len)
    (drop len bytes) f)

pub read_from-renamed : {R S : Type 0} (g : Grammar R) (h : Grammar S) (name : S → R) (E : List R → List S → Type 0) → Renames g h name E
    → (a : List R) (b : List S) (vs : List Value) (at : ℕ) (bytes : List ℕ) → E a b
    → read_from g a vs at bytes ≡ renamed name (read_from h b vs at bytes)
unfolding read_from
read_from-renamed g h name E k a b vs at bytes e = read_for-renamed g h name E k (suc (length bytes)) a b vs at bytes e
