-- What is known of the text of the map of two maps.
use Rattle.std.{proofs.Common.{ℕ, ◌≡◌, List, refl, subst}, specs.Prelude.{Option, Some, None, Result, Ok, Err, IfSome}}
use Rattle.ppdb_base.specs.Files.{Files}
use Rattle.ppdb_maps.specs.Map.{Map}
use Rattle.ppdb_run_stops.specs.{declared.stop.Stop.{Stop}, Refusals.{Outcome}}
use Rattle.ppdb_run.{specs.Outcome.{Step, ◌>>=◌, composed_text, gives, map_at, steps_of, written}, specs.Stops.{Gives}, proofs.Steps.{gives_stop, gives_next}}
use Rattle.ppdb_run_words.specs.Words.{Compose}

-- ---- two maps are read

module _ (first second output : List ℕ) where
  abbrev after : Files → Map → Step Outcome
  after all f = map_at all second >>= (λ s. composed_text f s >>= (λ text. gives (Ok (written output text))))

  -- where the second is no map, nothing is written
  pub no_second : (files later : Option Files) (f : Map) (stop : Stop) → later ≡ files → IfSome files (λ all. map_at all first (Ok f))
      → IfSome later (λ all. Gives (λ (m : Map). m) (Err stop) (map_at all second))
      → IfSome files (λ all. Gives (written output) (Err stop) (steps_of (Compose first second output) all))
  no_second files later f stop same h k = of files h (subst (λ fs. IfSome fs (λ all. Gives (λ (m : Map). m) (Err stop) (map_at all second))) same k)
    where
      of : (files : Option Files) → IfSome files (λ all. map_at all first (Ok f)) → IfSome files (λ all. Gives (λ (m : Map). m) (Err stop) (map_at all second))
          → IfSome files (λ all. Gives (written output) (Err stop) (steps_of (Compose first second output) all))
      of None h k = tt
      of (Some all) h k =
          gives_next (written output) (Err stop) (map_at all first) (after all) f h
          (gives_stop (λ (m : Map). m) (written output) stop (map_at all second) (λ s. composed_text f s >>= (λ text. gives (Ok (written output text)))) k)

  -- else their text is written
  pub both_read : (files later : Option Files) (f s : Map) (result : Result (List ℕ) Stop) → later ≡ files → IfSome files (λ all. map_at all first (Ok f))
      → IfSome later (λ all. map_at all second (Ok s)) → Gives (λ (text : List ℕ). text) result (composed_text f s)
      → IfSome files (λ all. Gives (written output) result (steps_of (Compose first second output) all))
  both_read files later f s result same h k t = by_files files h (subst (λ fs. IfSome fs (λ all. map_at all second (Ok s))) same k)
    where
      of : (result : Result (List ℕ) Stop) → Gives (λ (text : List ℕ). text) result (composed_text f s)
          → Gives (written output) result (composed_text f s >>= (λ text. gives (Ok (written output text))))
      of (Ok text) t = gives_next (written output) (Ok text) (composed_text f s) (λ text. gives (Ok (written output text))) text t refl
      of (Err stop) t = gives_stop (λ (text : List ℕ). text) (written output) stop (composed_text f s) (λ text. gives (Ok (written output text))) t

      by_files : (files : Option Files) → IfSome files (λ all. map_at all first (Ok f)) → IfSome files (λ all. map_at all second (Ok s))
          → IfSome files (λ all. Gives (written output) result (steps_of (Compose first second output) all))
      by_files None h k = tt
      by_files (Some all) h k =
          gives_next (written output) result (map_at all first) (after all) f h
          (gives_next (written output) result (map_at all second) (λ s. composed_text f s >>= (λ text. gives (Ok (written output text)))) s k (of result t))
