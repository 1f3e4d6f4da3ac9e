-- Names of parts of a map's text.
use Rattle.std.specs.Prelude.{ℕ, ◌||◌, Bool, cond, List, [], ◌∷◌, Option, is_some, map, option_to_list}
use Rattle.ppdb_maps.specs.declared.{entries.SlotImage.{SlotImage}, entries.SignatureImage.{SignatureImage}, line.Line.{Line}, line.Line.TheVariants.{Slot}}
use Rattle.ppdb_maps.specs.{declared.line.Line.TheVariants.{Signature, Link, Shares}, Map.{Map}}
use Rattle.ppdb_maps_text.specs.MapTexts.{has_items}

abbrev pub slot_says : SlotImage → Line
slot_says s = Slot s.method s.old s.new

abbrev pub signature_says : SignatureImage → Line
signature_says s = Signature s.method s.new

abbrev pub link_says : Option (List ℕ) → List Line
link_says link = map Link (option_to_list link)

abbrev pub shares_says : Bool → List Line
shares_says shares = cond shares (Shares ∷ []) []

abbrev pub has_newer : Map → Bool
has_newer m = m.shares || (is_some m.link || (has_items m.crossed || (has_items m.gone || (has_items m.signatures || has_items m.documents))))
