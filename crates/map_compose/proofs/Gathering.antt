-- Runs that are taken one by one, by their indexes.
use Rattle.std.proofs.Common.{ℕ, zero, suc, ◌≡◌, ◌+◌, ◌≤◌, ◌++◌, List, [], ◌∷◌, length, take, refl, sym, ap, ◌∙◌, arith, subst, Option, Some, None}
use Rattle.std.{specs.Prelude.{option_to_list}, specs.List.{filter_map, slice_get, AllByRecursion}, proofs.lemmas.List.{append_assoc, append-nil}}
use Rattle.ppdb_base.specs.{declared.offsets.Run.{Run}, Offsets.{RiseFrom, end_of, new_end_of}, declared.limits.TheConstants.{MAX_OFFSET}}
use Rattle.ppdb_maps_text.specs.declared.counted.Counted.{Counted}
use Rattle.map_compose.{specs.Runs.{meet, met, longest}, specs.Joining.{IsShort, AreRuns, Holding, JoinsRuns, JoinsOne, Joins}, proofs.JoinedRuns.{joins_same}}
use Rattle.map_compose.proofs.{JoinedRuns.{joins_then, holding_same}, Putting.{take_more, take_past, flat_join}}

-- ---- bounds

pub all_get : {X : Type 0} (P : X → Type 0) (xs : List X) (i : ℕ) (x : X) → AllByRecursion P xs → slice_get xs i ≡ Some x → P x
all_get P [] i x all is = absurd (cc)
all_get P (y ∷ ys) zero x all is = let e : y ≡ x = cc in subst P e all.0
all_get P (y ∷ ys) (suc i) x all is = all_get P ys i x all.1 is

pub run_short : (rs : List Run) (i : ℕ) (r : Run) → AreRuns rs → slice_get rs i ≡ Some r → IsShort r
run_short rs i r are is = all_get IsShort rs i r are.short is

few_from : (a b : ℕ) (rs : List Run) → a ≤ MAX_OFFSET → RiseFrom a b rs → AllByRecursion IsShort rs → a + length rs ≤ MAX_OFFSET
few_from a b [] le rise short = omega (arith, le)
few_from a b (r ∷ rs) le rise short = omega (arith, rise.0, rise.1, few_from (end_of r) (new_end_of r) rs short.0.1 rise.3 short.1)

pub few_runs : (rs : List Run) → AreRuns rs → length rs ≤ MAX_OFFSET
few_runs rs are = omega (arith, few_from 0 0 rs (omega arith) are.rise are.short)

-- ---- one run more

pub joins_next : (a b c : Option Run) (s t u : Counted) (rs : List Run) (i : ℕ) (r : Run) → slice_get rs i ≡ Some r → Joins a b s t (take i rs)
    → Joins b c t u (r ∷ [])
    → Joins a c s u (take (i + 1) rs)
joins_next a b c s t u rs i r is h k = joins_same a c s u (take i rs ++ r ∷ []) (take (i + 1) rs) (sym (take_more rs i r is))
    (joins_then a b c s t u (take i rs) (r ∷ []) h k)

pub met_next : (a b c : Option Run) (s t u : Counted) (rs qs : List Run) (i : ℕ) (r : Run) → slice_get rs i ≡ Some r → Joins a b s t (met (take i rs) qs)
    → Joins b c t u (filter_map (meet r) qs) → Joins a c s u (met (take (i + 1) rs) qs)
met_next a b c s t u rs qs i r is h k =
    joins_same a c s u (met (take i rs) qs ++ filter_map (meet r) qs) (met (take (i + 1) rs) qs)
    (sym (ap (λ l. met l qs) (take_more rs i r is) ∙ flat_join (λ p. filter_map (meet p) qs) (take i rs) (r ∷ [])
    ∙ ap (λ l. met (take i rs) qs ++ l) (append-nil (filter_map (meet r) qs))))
    (joins_then a b c s t u (met (take i rs) qs) (filter_map (meet r) qs) h k)

pub joins_past : (a b : Option Run) (s t : Counted) (rs : List Run) (i : ℕ) → slice_get rs i ≡ None → Joins a b s t (take i rs) → Joins a b s t rs
joins_past a b s t rs i is h = joins_same a b s t (take i rs) rs (take_past rs i is) h

pub met_past : (a b : Option Run) (s t : Counted) (rs qs : List Run) (i : ℕ) → slice_get rs i ≡ None → Joins a b s t (met (take i rs) qs)
    → Joins a b s t (met rs qs)
met_past a b s t rs qs i is h = joins_same a b s t (met (take i rs) qs) (met rs qs) (ap (λ l. met l qs) (take_past rs i is)) h

-- ---- runs that are kept in a list

pub record Gathers (old new : List Run) (held : Option Run) (runs : List Run) : Type 0 where
  pub given : List Run
  pub are : new ≡ old ++ given
  pub joins : JoinsRuns None held given runs

pub gathers_none : (old : List Run) → Gathers old old None []
gathers_none old = record {
  given = [];
  are = sym (append-nil old);
  joins = λ came prefix hold. holding_same came (came ++ []) prefix (prefix ++ []) None (sym (append-nil came)) (sym (append-nil prefix)) hold;
}

pub gathers_next : (old mid new : List Run) (held : Option Run) (next : Run) (given : Option Run) (rs : List Run) (i : ℕ) (r : Run) → slice_get rs i ≡ Some r
    → Gathers old mid held (take i rs) → JoinsOne held next given r → new ≡ mid ++ option_to_list given → Gathers old new (Some next) (take (i + 1) rs)
gathers_next old mid new held next given rs i r is h one are = record {
  given = h.given ++ option_to_list given;
  are = are ∙ ap (λ l. l ++ option_to_list given) h.are ∙ append_assoc old h.given (option_to_list given);
  joins = λ came prefix hold.
      holding_same ((came ++ take i rs) ++ r ∷ []) (came ++ take (i + 1) rs) ((prefix ++ h.given) ++ option_to_list given)
      (prefix ++ (h.given ++ option_to_list given)) (Some next)
      (append_assoc came (take i rs) (r ∷ []) ∙ ap (λ l. came ++ l) (sym (take_more rs i r is))) (append_assoc prefix h.given (option_to_list given))
      (one (came ++ take i rs) (prefix ++ h.given) (h.joins came prefix hold));
}

pub gathers_all : (old mid new : List Run) (held : Option Run) (rs : List Run) (i : ℕ) → slice_get rs i ≡ None → Gathers old mid held (take i rs)
    → new ≡ mid ++ option_to_list held → new ≡ old ++ longest rs
gathers_all old mid new held rs i is h are =
    let start : Holding [] [] None = record { are = refl; none = λ e. refl } in
    let end = h.joins [] [] start in
    are ∙ ap (λ l. l ++ option_to_list held) h.are ∙ append_assoc old h.given (option_to_list held)
    ∙ ap (λ l. old ++ l) (sym end.are ∙ ap longest (take_past rs i is))
