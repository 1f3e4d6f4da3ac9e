-- The whole text of the map of two maps is counted, and kept where it is not too long.
use Rattle.std.{proofs.Common.{ℕ, ◌≡◌, ◌<◌, ◌≤◌, ◌||◌, ◌++◌, Bool, true, false, cond, List, [], length, sym, ap, ◌∙◌, arith, subst}, specs.List.{flat_map}}
use Rattle.ppdb_maps.specs.{Map.{Map}, Readable.{IsReadable}}
use Rattle.ppdb_maps_text.specs.{declared.counted.Counted.{Counted}, MapTexts.{ended, map_text, version_of, head_text}, Putting.{Puts}}
use Rattle.ppdb_maps_text.proofs.{Parts.{link_says, shares_says, has_newer}, Putting.{puts_then}}
use Rattle.map_compose.specs.{declared.part.Part.{Part}, declared.part.Part.TheVariants.{Drops, Slots, Signatures, Methods}, Composed.{tables, composed}}
use Rattle.map_compose.specs.{Composed.{composed_link}, Fits.{NamesFit}, Parts.{part_says, all_numbers}, Refused.{Counts}, Says.{lines_text, table_says}}
use Rattle.map_compose.{specs.Says.{documents_say, PutsLines}, specs.Sizes.{SizesAgree}, proofs.Lengths.{text_short}, proofs.Named.{composed_fits}}
use Rattle.map_compose.proofs.{Readable.{composed_is_readable}, Saying.{text_is}}

counts_text : (start end : Counted) (text : List ℕ) → start.length ≡ 0 → start.text ≡ [] → length text < 0xffffffffffffffff → Puts start end text
    → Counts end text
counts_text start end text none empty short puts =
    let counted = puts.counted in
    record {
      length = omega (arith, counted, none, short);
      kept = λ few. puts.kept few ∙ ap (λ prefix. prefix ++ text) empty;
    }

pub version_few : (m : Map) (version : ℕ) → version ≡ version_of m → version ≤ 9
version_few m version is = of (has_newer m) is
  where
    of : (b : Bool) → version ≡ cond b 4 3 → version ≤ 9
    of true is = omega (arith, is)
    of false is = omega (arith, is)

abbrev part_text : Map → Map → Part → List ℕ
part_text f s part = lines_text (flat_map (part_says part f s) (all_numbers part f s))

pub counts_all : (f s : Map) → IsReadable f → IsReadable s → NamesFit 134217728 f → NamesFit 134217728 s → SizesAgree f s → (version : ℕ)
    → version ≡ version_of (composed f s)
    → (t0 t t1 t2 t3 t4 t5 t6 t7 t8 : Counted) → t0.length ≡ 0 → t0.text ≡ []
    → Puts t0 t (ended (head_text version)) → PutsLines t t1 (shares_says (f.shares || s.shares)) → PutsLines t1 t2 (link_says (composed_link f s))
    → PutsLines t2 t3 (flat_map (table_says f s) tables)
    → PutsLines t3 t4 (flat_map (part_says Drops f s) (all_numbers Drops f s)) → PutsLines t4 t5 (flat_map (part_says Slots f s) (all_numbers Slots f s))
    → PutsLines t5 t6 (flat_map (part_says Signatures f s) (all_numbers Signatures f s)) → PutsLines t6 t7 (documents_say f s)
    → PutsLines t7 t8 (flat_map (part_says Methods f s) (all_numbers Methods f s)) → Counts t8 (map_text (composed f s))
counts_all f s f_readable s_readable own other agree version is t0 t t1 t2 t3 t4 t5 t6 t7 t8 none empty head shares value rows drops slots signatures names lines =
    let c : Map = composed f s in
    let first : Puts t0 t (ended (head_text (version_of c))) = subst (λ v. Puts t0 t (ended (head_text v))) is head in
    let a0 = first.counted in
    let shared = shares.puts (omega (arith, a0)) in
    let a = shared.counted in
    let valued = value.puts (omega (arith, a)) in
    let a1 = valued.counted in
    let one = rows.puts (omega (arith, a1)) in
    let b = one.counted in
    let two = drops.puts (omega (arith, b)) in
    let d = two.counted in
    let three = slots.puts (omega (arith, d)) in
    let e = three.counted in
    let four = signatures.puts (omega (arith, e)) in
    let g = four.counted in
    let five = names.puts (omega (arith, g)) in
    let h = five.counted in
    let six = lines.puts (omega (arith, h)) in
    counts_text t0 t8 (map_text c) none empty
    (text_short c (composed_is_readable f s f_readable s_readable agree) (composed_fits f s own other))
    (subst (Puts t0 t8) (sym (text_is f s f_readable s_readable))
    (puts_then t0 t t8 (ended (head_text (version_of c))) _ first
    (puts_then t t1 t8 (lines_text (shares_says (f.shares || s.shares))) _ shared
    (puts_then t1 t2 t8 (lines_text (link_says (composed_link f s))) _ valued
    (puts_then t2 t3 t8 (lines_text (flat_map (table_says f s) tables)) _ one
    (puts_then t3 t4 t8 (part_text f s Drops) _ two
    (puts_then t4 t5 t8 (part_text f s Slots) _ three
    (puts_then t5 t6 t8 (part_text f s Signatures) _ four
    (puts_then t6 t7 t8 (lines_text (documents_say f s)) (part_text f s Methods) five six)))))))))
