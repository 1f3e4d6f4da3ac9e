-- Which `document` line is that of a name, and how long the names of these lines are, spelled.
use Rattle.std.proofs.Common.{ℕ, zero, suc, ◌≡◌, ◌+◌, ◌<◌, ◌++◌, ◌||◌, Bool, true, false, cond, List, [], ◌∷◌, Option, Some, None, length, take, drop, map, refl}
use Rattle.std.{proofs.Common.{sym, ap, ◌∙◌, subst, arith, add-one}, specs.Prelude.{codes, is_some, unwrap_or, slice_index_or}, specs.Str.{bytes_eq}}
use Rattle.std.specs.{Cmp.Lexicographic.{nat_list_cmp_total}, List.{AllByRecursion, flat_map, slice_get}, List.Sorted.{IsStrictlySortedBy}, Option.{option_map}}
use Rattle.std.specs.{Ordering.{is_eq, is_lt}, declared.cmp.Ordering.{Ordering}, declared.cmp.Ordering.TheVariants.{Less, Greater}}
use Rattle.std.proofs.lemmas.{List.{length-append, map-append}, Map.Text.{is_eq-slice_cmp}, Option.{slice_get-map, get_or_from_slice_get}}
use Rattle.ppdb_base.specs.Escaped.{is_plain, escaped_byte, escaped}
use Rattle.ppdb_maps.specs.{declared.entries.NameLine.{NameLine}, declared.line.Line.TheVariants.{Document}, Map.{Map, document_line, moved_name}}
use Rattle.ppdb_maps.{specs.Readable.{IsReadable}, proofs.Halving.{parted, at_there}, proofs.Spelled.{plain_text, code_text}}
use Rattle.ppdb_maps_text.specs.MapTexts.{ended, line_text}
use Rattle.map_compose.specs.{declared.part.Passed.{Passed}, Composed.{named}, Fits.{IsShort, NamesFit}, Names.{name_cmp}, Parts.{names_left}}
use Rattle.map_compose.{specs.Spelled.{spelled_length, new_lengths}, proofs.Lengths.{two_words}, proofs.Named.{has_line, found_holds, olds_hold, both_hold}}
use Rattle.map_compose.proofs.{Names.{Up, Above, below, above, same, eq_itself, has, ascending_hold}, Prefixes.{all_drop}, Putting.{take_more, within}}

-- ---- one byte more

byte_length : (byte : ℕ) → length (escaped_byte byte) ≡ cond (is_plain byte) 1 4
byte_length byte = of (is_plain byte) refl
  where
    of : (b : Bool) → is_plain byte ≡ b → length (escaped_byte byte) ≡ cond b 1 4
    of true is = ap length (plain_text byte is)
    of false is = ap length (code_text byte is)

pub spelled_next : (bytes : List ℕ) (i d : ℕ) → i < length bytes
    → length (flat_map escaped_byte (take (i + 1) bytes)) ≡ length (flat_map escaped_byte (take i bytes)) + cond (is_plain (slice_index_or bytes i d)) 1 4
spelled_next (b ∷ bytes) zero d less =
    omega (arith, byte_length b, length-append (escaped_byte b) [])
spelled_next (b ∷ bytes) (suc i) d less = rw (add-one (suc i)) (
    let rest = spelled_next bytes i d (omega (arith, less)) in
    let same = ap (λ n. length (flat_map escaped_byte (take n bytes))) (add-one i) in
    omega (
      arith,
      rest,
      same,
      length-append (escaped_byte b) (flat_map escaped_byte (take (suc i) bytes)),
      length-append (escaped_byte b) (flat_map escaped_byte (take i bytes)),
    ))
spelled_next [] i d less = absurd (omega (arith, less))

-- ---- one line more

abbrev pub both_names : NameLine → List ℕ × List ℕ
both_names d = (d.old, d.new)

names_at : (ds : List NameLine) (i : ℕ) (old new : List ℕ) → option_map both_names (slice_get ds i) ≡ Some (old, new)
    → (d : NameLine) × ((slice_get ds i ≡ Some d) × (d.old ≡ old) × (d.new ≡ new))
names_at ds i old new is = of (slice_get ds i) refl is
  where
    of : (o : Option NameLine) → slice_get ds i ≡ o → option_map both_names o ≡ Some (old, new)
        → (d : NameLine) × ((slice_get ds i ≡ Some d) × (d.old ≡ old) × (d.new ≡ new))
    of None at is = absurd (cc)
    of (Some d) at is =
        let e : ◌≡◌ {A = List ℕ × List ℕ} (d.old, d.new) (old, new) = cc in
        (d, (at, ap (λ (p : List ℕ × List ℕ). p.0) e, ap (λ (p : List ℕ × List ℕ). p.1) e))

pub line_inside : (ds : List NameLine) (i : ℕ) (old new : List ℕ) → option_map both_names (slice_get ds i) ≡ Some (old, new) → i < length ds
line_inside ds i old new is = let d = names_at ds i old new is in within ds i d.0 d.1.0

pub name_there : (m : Map) (i : ℕ) (old new : List ℕ) → option_map both_names (slice_get m.documents i) ≡ Some (old, new) → slice_get (named m) i ≡ Some old
name_there m i old new is =
    let d = names_at m.documents i old new is in
    slice_get-map (λ (x : NameLine). x.old) m.documents i ∙ ap (option_map (λ (x : NameLine). x.old)) d.1.0 ∙ ap Some d.1.1

pub no_line_past : (ds : List NameLine) (i : ℕ) → option_map both_names (slice_get ds i) ≡ None → slice_get ds i ≡ None
no_line_past ds i is = of (slice_get ds i) is
  where
    of : (o : Option NameLine) → option_map both_names o ≡ None → o ≡ None
    of None is = refl
    of (Some d) is = absurd (cc)

abbrev pub lengths_of : List NameLine → List ℕ
lengths_of ds = map (λ (d : NameLine). spelled_length d.new) ds

pub lengths_next : (ds : List NameLine) (i one : ℕ) (name new : List ℕ) (was lengths : List ℕ)
    → option_map both_names (slice_get ds i) ≡ Some (name, new) → was ≡ lengths_of (take i ds) → one ≡ spelled_length new → lengths ≡ was ++ one ∷ []
    → lengths ≡ lengths_of (take (i + 1) ds)
lengths_next ds i one name new was lengths is before made are =
    let d = names_at ds i name new is in
    are ∙ ap (λ l. l ++ one ∷ []) before ∙ ap (λ n. lengths_of (take i ds) ++ n ∷ []) (made ∙ ap spelled_length (sym d.1.2))
    ∙ sym (ap lengths_of (take_more ds i d.0 d.1.0) ∙ map-append (λ (x : NameLine). spelled_length x.new) (take i ds) (d.0 ∷ []))

-- ---- halving

-- each name is less than this one
abbrev pub Below : List ℕ → List (List ℕ) → Type 0
Below name ns = AllByRecursion (λ k. name_cmp k name ≡ Less) ns

-- and greater
abbrev pub Beyond : List ℕ → List (List ℕ) → Type 0
Beyond name ns = AllByRecursion (λ k. name_cmp k name ≡ Greater) ns

above_at : (n x : List ℕ) (ns : List (List ℕ)) (i : ℕ) → Above n ns → slice_get ns i ≡ Some x → name_cmp n x ≡ Less
above_at n x [] i all is = absurd (cc)
above_at n x (k ∷ ks) zero all is = let e : k ≡ x = cc in subst (λ q. name_cmp n q ≡ Less) e all.0
above_at n x (k ∷ ks) (suc i) all is = above_at n x ks i all.1 is

-- so are all up to one that is less
pub below_middle : (name x : List ℕ) (ns : List (List ℕ)) (i : ℕ) → Up ns → slice_get ns i ≡ Some x → name_cmp x name ≡ Less → Below name (take (i + 1) ns)
unfolding IsStrictlySortedBy
below_middle name x [] i up is less = absurd (cc)
below_middle name x (n ∷ ns) zero up is less = let e : n ≡ x = cc in (subst (λ k. name_cmp k name ≡ Less) (sym e) less, tt)
below_middle name x (n ∷ ns) (suc i) up is less = rw (add-one (suc i)) (
  nat_list_cmp_total.trans n x name (above_at n x ns i up.0 is) less,
  subst (λ k. Below name (take k ns)) (add-one i) (below_middle name x ns i up.1 is less),
)

beyond_above : (name n : List ℕ) (ns : List (List ℕ)) → name_cmp name n ≡ Less → Above n ns → Beyond name ns
beyond_above name n [] less all = tt
beyond_above name n (k ∷ ks) less all = (above name k (nat_list_cmp_total.trans name n k less all.0), beyond_above name n ks less all.1)

-- and all from one that is greater
pub beyond_middle : (name x : List ℕ) (ns : List (List ℕ)) (i : ℕ) → Up ns → slice_get ns i ≡ Some x → name_cmp x name ≡ Greater → Beyond name (drop i ns)
unfolding IsStrictlySortedBy
beyond_middle name x [] i up is more = absurd (cc)
beyond_middle name x (n ∷ ns) zero up is more =
    let e : n ≡ x = cc in
    let here : name_cmp n name ≡ Greater = subst (λ k. name_cmp k name ≡ Greater) (sym e) more in
    (here, beyond_above name n ns (below n name here) up.0)
beyond_middle name x (n ∷ ns) (suc i) up is more = beyond_middle name x ns i up.1 is more

not_equal : (k name : List ℕ) (o : Ordering) → name_cmp k name ≡ o → is_eq o ≡ false → bytes_eq k name ≡ false
not_equal k name o is apart = sym (is_eq-slice_cmp k name) ∙ ap is_eq is ∙ apart

none_beyond : (name : List ℕ) (ns : List (List ℕ)) → Beyond name ns → has name ns ≡ false
none_beyond name [] all = refl
none_beyond name (n ∷ ns) all = ap (λ b. b || has name ns) (not_equal n name Greater all.0 refl) ∙ none_beyond name ns all.1

none_between : (name : List ℕ) (ns : List (List ℕ)) (i : ℕ) → Below name (take i ns) → Beyond name (drop i ns) → has name ns ≡ false
none_between name [] i less more = refl
none_between name (n ∷ ns) zero less more = none_beyond name (n ∷ ns) more
none_between name (n ∷ ns) (suc i) less more =
    ap (λ b. b || has name ns) (not_equal n name Less less.0 refl) ∙ none_between name ns i less.1 more

-- a name between others has no line
pub no_line : (m : Map) (name : List ℕ) (i : ℕ) → Below name (take i (named m)) → Beyond name (drop i (named m)) → document_line m name ≡ None
no_line m name i less more = of (document_line m name) (sym (has_line m name) ∙ none_between name (named m) i less more)
  where
    of : (o : Option (List ℕ)) → is_some o ≡ false → o ≡ None
    of None is = refl
    of (Some new) is = absurd (cc)

-- ---- the line of a name

abbrev pub LineAt : Map → List ℕ → ℕ → NameLine → Type 0
LineAt m name i d = (slice_get m.documents i ≡ Some d) × (d.old ≡ name)

line_at : (m : Map) (name : List ℕ) (i : ℕ) → slice_get (named m) i ≡ Some name → (d : NameLine) × LineAt m name i d
line_at m name i is = of (slice_get m.documents i) refl (sym (slice_get-map (λ (d : NameLine). d.old) m.documents i) ∙ is)
  where
    of : (o : Option NameLine) → slice_get m.documents i ≡ o → option_map (λ (d : NameLine). d.old) o ≡ Some name → (d : NameLine) × LineAt m name i d
    of None at is = absurd (cc)
    of (Some d) at is = let e : d.old ≡ name = cc in (d, (at, e))

-- the name that it gives is that of the map
line_moves : (m : Map) (name : List ℕ) (i : ℕ) (d : NameLine) → IsReadable m → LineAt m name i d → moved_name m name ≡ d.new
line_moves m name i d readable is = ap (λ o. unwrap_or (option_map (λ (x : NameLine). x.new) o) name) (at_there
    (λ (x : NameLine). is_lt (name_cmp x.old name)) (λ (x : NameLine). bytes_eq x.old name) m.documents i d
    (parted nat_list_cmp_total (λ (x : NameLine). x.old) name (λ (x : NameLine). is_lt (name_cmp x.old name)) (λ (x : NameLine). bytes_eq x.old name)
    (λ x. refl) (λ x is. same x.old name is) m.documents readable.ascends.documents) is.0 (ap (λ k. bytes_eq k name) is.1 ∙ eq_itself name))

pub counted_name : (m : Map) (lengths : List ℕ) (name : List ℕ) (i e : ℕ) → IsReadable m → lengths ≡ new_lengths m → slice_get (named m) i ≡ Some name
    → slice_index_or lengths i e ≡ spelled_length (moved_name m name)
counted_name m lengths name i e readable are is =
    let d = line_at m name i is in
    ap (λ l. slice_index_or l i e) are
    ∙ get_or_from_slice_get (new_lengths m) i (spelled_length d.0.new) e
    (slice_get-map (λ (x : NameLine). spelled_length x.new) m.documents i ∙ ap (option_map (λ (x : NameLine). spelled_length x.new)) d.1.0)
    ∙ ap spelled_length (sym (line_moves m name i d.0 readable d.1))

-- ---- what is counted of a line

pub line_counted : (d : NameLine) (old new : ℕ) → old ≡ spelled_length d.old → new ≡ spelled_length d.new
    → length (ended (line_text (Document d))) ≡ 11 + old + new
line_counted d old new a b =
    let long : length (ended (line_text (Document d))) ≡ 8 + spelled_length d.old + spelled_length d.new + 3 =
    two_words (codes "document") (escaped d.old) (escaped d.new) in
    omega (arith, a, b, long)

-- ---- short names

pub moved_short : (most : ℕ) (m : Map) (name : List ℕ) → NamesFit most m → IsShort name → IsShort (moved_name m name)
moved_short most m name fit short = found_holds IsShort name m.documents fit.short short

pub left_short : (most : ℕ) (f s : Map) (passed : Passed) (name : List ℕ) (rest : List (List ℕ)) → NamesFit most f → NamesFit most s
    → names_left f s passed ≡ name ∷ rest → IsShort name
left_short most f s passed name rest a b is = (subst (AllByRecursion IsShort) is (ascending_hold IsShort (drop passed.own (named f) ++ drop passed.other (named s))
    (both_hold IsShort (drop passed.own (named f)) (drop passed.other (named s))
    (all_drop IsShort (named f) passed.own (olds_hold IsShort f.documents a.short))
    (all_drop IsShort (named s) passed.other (olds_hold IsShort s.documents b.short))))).0
