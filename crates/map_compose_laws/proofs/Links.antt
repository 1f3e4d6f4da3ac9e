-- The image of the image of what is linked to a method is its image by the map of both.
use Rattle.std.proofs.Common.{◌≡◌, ℕ, ◌≤◌, ◌&&◌, ◌||◌, Bool, true, false, cond, Option, Some, None, refl, sym, ◌∙◌, ap, arith, map, zero, suc}
use Rattle.std.specs.{Prelude.{unwrap_or}, Option.{option_map, option_and_then}}
use Rattle.custom_info.specs.declared.stepping.AsyncStep.{AsyncStep}
use Rattle.ppdb_base.specs.Offsets.{moved}
use Rattle.ppdb_maps.specs.Map.{Map, row_within, moved_row, offsets_in, is_dropped}
use Rattle.map_compose.{specs.Composed.{composed, drops_one, of_image}, specs.Composition.{IsComposition}, proofs.Equations.{composed_composes}}
use Rattle.ppdb_values.specs.declared.custom.{CustomBody.{CustomBody}, CustomBody.TheVariants.{Async, Hoisted, TypeDocuments, Unread}}
use Rattle.ppdb_values.specs.{declared.annotation.Custom.{Custom}, Links.{Links}}
use Rattle.ppdb_merge_moved.specs.{Images.{partner_image, links_image}, Moved.{moved_body, moved_step}}
use Rattle.map_compose_laws.{specs.Links.{StepComposes, HandlerComposes, BodyComposes, IsPartner, LinksMay, LinksCompose}, proofs.Images.{row_on, row_there}}
use Rattle.map_compose_laws.proofs.{Images.{map_map_each}, Rows.{KeepsRows, keeps_rows, drops_from_one}}

module _ (f s : Map) (composes : IsComposition f s (composed f s)) (keeps : KeepsRows f) (from_one : is_dropped s 0 ≡ false) where
  abbrev c : Map
  c = composed f s

  partner_on : (k : ℕ) → 1 ≤ k → option_and_then (partner_image s) (partner_image f k) ≡ partner_image c k
  partner_on zero le = absurd (omega (arith, le))
  partner_on (suc n) le =
      of (is_dropped f (suc n)) refl
      ∙ ap (λ b. cond b None (Some (moved_row c 0x06 (suc n)))) (sym (composes.drops (suc n)))
    where
      -- the second map drops the image, or there is none
      image_drops : (o : Option ℕ) → row_within f 0x06 (suc n) ≡ o → is_dropped s (unwrap_or o 0) ≡ of_image false (is_dropped s) o
      image_drops None is = from_one
      image_drops (Some i) is = refl

      of : (b : Bool) → is_dropped f (suc n) ≡ b
          → option_and_then (partner_image s) (partner_image f (suc n)) ≡ cond (drops_one f s (suc n)) None (Some (moved_row c 0x06 (suc n)))
      of true is =
          ap (λ b. option_and_then (partner_image s) (cond b None (Some (moved_row f 0x06 (suc n))))) is
          ∙ sym (ap (λ b. cond (b || of_image false (is_dropped s) (row_within f 0x06 (suc n))) None (Some (moved_row c 0x06 (suc n)))) is)
      of false is =
          ap (λ b. option_and_then (partner_image s) (cond b None (Some (moved_row f 0x06 (suc n))))) is
          ∙ ap (λ b. cond b None (Some (moved_row s 0x06 (moved_row f 0x06 (suc n)))))
          (ap (is_dropped s) (row_there f 0x06 n) ∙ image_drops (row_within f 0x06 (suc n)) refl)
          ∙ ap (λ r. cond (of_image false (is_dropped s) (row_within f 0x06 (suc n))) None (Some r)) (row_on f s 0x06 composes.methods keeps (suc n))
          ∙ sym (ap (λ b. cond (b || of_image false (is_dropped s) (row_within f 0x06 (suc n))) None (Some (moved_row c 0x06 (suc n)))) is)

  partners_on : (o : Option ℕ) → IsPartner o → option_and_then (partner_image s) (option_and_then (partner_image f) o) ≡ option_and_then (partner_image c) o
  partners_on None is = refl
  partners_on (Some k) is = partner_on k is

  step_on : (method image : ℕ) (step : AsyncStep) → StepComposes f s method image step
      → moved_step s image (moved_step f method step) ≡ moved_step c method step
  step_on method image step composed =
      ap (λ p. record {
        pause = p;
        resume = moved (offsets_in s (moved_row f 0x06 step.method)) (moved (offsets_in f step.method) step.resume);
        method = moved_row s 0x06 (moved_row f 0x06 step.method);
      }) composed.pause
      ∙ ap (λ r. record { pause = moved (offsets_in c method) step.pause; resume = r; method = moved_row s 0x06 (moved_row f 0x06 step.method) })
      composed.resume
      ∙ ap (λ m. record { pause = moved (offsets_in c method) step.pause; resume = moved (offsets_in c step.method) step.resume; method = m })
      (row_on f s 0x06 composes.methods keeps step.method)

  handler_on : (method image : ℕ) (o : Option ℕ) → HandlerComposes f s method image o
      → option_map (moved (offsets_in s image)) (option_map (moved (offsets_in f method)) o) ≡ option_map (moved (offsets_in c method)) o
  handler_on method image None composed = refl
  handler_on method image (Some offset) composed = ap Some composed

  record_on : (method image : ℕ) (b : CustomBody) → BodyComposes f s method image b → moved_body s image (moved_body f method b) ≡ moved_body c method b
  record_on method image (Async handler steps) composed =
      ap (λ h. Async h (map (moved_step s image) (map (moved_step f method) steps))) (handler_on method image handler composed.0)
      ∙ ap (Async (option_map (moved (offsets_in c method)) handler))
      (map_map_each (moved_step s image) (moved_step f method) (moved_step c method) _ (step_on method image) steps composed.1)
  record_on method image (Hoisted slots) none = absurd none
  record_on method image (TypeDocuments rows) composed = refl
  record_on method image (Unread bytes) composed = refl

  abbrev with_body : Map → ℕ → Custom → Custom
  with_body m method x = record x { value = moved_body m method x.value }

  and_true : (b : Bool) → ((b && true) && true) ≡ (b && true)
  and_true true = refl
  and_true false = refl

  pub links_on : (method image : ℕ) (l : Links) → LinksMay f s method image l
      → links_image true s image (links_image true f method l) ≡ links_image true c method l
  links_on method image l may =
      ap (λ k. record {
        kickoff = k;
        move_next = option_and_then (partner_image s) (option_and_then (partner_image f) l.move_next);
        is_entry = (l.is_entry && true) && true;
        customs = map (with_body s image) (map (with_body f method) l.customs);
      })
      (partners_on l.kickoff may.kickoff)
      ∙ ap (λ k. record {
        kickoff = option_and_then (partner_image c) l.kickoff;
        move_next = k;
        is_entry = (l.is_entry && true) && true;
        customs = map
            (with_body s image) (map (with_body f method) l.customs);
      }) (partners_on l.move_next may.move_next)
      ∙ ap (λ b. record {
        kickoff = option_and_then (partner_image c) l.kickoff;
        move_next = option_and_then (partner_image c) l.move_next;
        is_entry = b;
        customs = map (with_body s image) (map (with_body f method) l.customs);
      }) (and_true l.is_entry)
      ∙ ap (λ x. record {
        kickoff = option_and_then (partner_image c) l.kickoff;
        move_next = option_and_then (partner_image c) l.move_next;
        is_entry = l.is_entry && true;
        customs = x;
      })
      (map_map_each (with_body s image) (with_body f method) (with_body c method) _
      (λ x composed. ap (λ v. record { kind = x.kind; value = v }) (record_on method image x.value composed)) l.customs may.customs)

pub links_compose : LinksCompose
links_compose = λ f s method image l first second may.
    links_on f s (composed_composes f s first second) (keeps_rows f first) (drops_from_one s second) method image l may
