-- The name of a document and the value of a Source Link record by both maps are those by the map of both.
use Rattle.std.{proofs.Common.{◌≡◌, ℕ, Bool, true, false, cond, List, Option, Some, None, refl, sym, ap}, specs.Prelude.{unwrap_or}, specs.Option.{option_map}}
use Rattle.std.specs.Option.{option_or}
use Rattle.ppdb_maps.specs.Map.{Map}
use Rattle.map_compose.{specs.Composed.{composed}, specs.Composition.{IsComposition}, proofs.Equations.{composed_composes}}
use Rattle.ppdb_values.specs.declared.custom.{CustomBody.{CustomBody}, CustomBody.TheVariants.{Unread}, CustomValue.{CustomValue}}
use Rattle.ppdb_values.specs.{declared.file.DocumentValue.{DocumentValue}, Parts.{is_link}}
use Rattle.ppdb_merge_moved.specs.Moved.{linked, moved_document}
use Rattle.map_compose_laws.specs.Names.{NamesCompose}

pub document_on : (f s : Map) → IsComposition f s (composed f s) → (d : DocumentValue) → moved_document s (moved_document f d) ≡ moved_document (composed f s) d
document_on f s composes d = ap (λ n. record d { name = n }) (sym (composes.names d.name))

pub documents_on : (f s : Map) → IsComposition f s (composed f s) → (o : Option DocumentValue)
    → option_map (moved_document s) (option_map (moved_document f) o) ≡ option_map (moved_document (composed f s)) o
documents_on f s composes None = refl
documents_on f s composes (Some d) = ap Some (document_on f s composes d)

-- the second map's value stands before the first's
value_on : (b : Bool) (first second : Option (List ℕ)) (own : CustomBody)
    → unwrap_or (option_map Unread (cond b second None)) (unwrap_or (option_map Unread (cond b first None)) own)
    ≡ unwrap_or (option_map Unread (cond b (option_or second first) None)) own
value_on false first second own = refl
value_on true first None own = refl
value_on true first (Some value) own = refl

linked_on : (f s : Map) (c : CustomValue) → linked s (linked f c) ≡ linked (composed f s) c
linked_on f s c = ap (λ v. record c { value = v }) (value_on (is_link c) f.link s.link c.value)

pub names_compose : NamesCompose
names_compose = record {
  documents = λ f s d first second. document_on f s (composed_composes f s first second) d;
  values = λ f s c first second. linked_on f s c;
}
