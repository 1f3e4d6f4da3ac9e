-- A text with a map has no refused line, and a refused line and its number are one.
use Rattle.std.proofs.Common.{◌≡◌, ℕ, ◌+◌, ◌≤◌, ◌++◌, List, [], ◌∷◌, refl, sym, ◌∙◌, ap, arith, subst, length}
use Rattle.ppdb_maps.specs.{declared.line.Line.{Line}, declared.rule.Rule.{Rule}, Forms.{IsHead}, Map.{Map}, Rules.{BreaksFirst, BreaksLine, Keeps, kind_of}}
use Rattle.ppdb_maps.{specs.Text.{Read, start, further, Refused, at_head, at_line, IsMapOf}, specs.Readable.{RefusalsAreOne}, proofs.OneReading.{read_same}}
use Rattle.ppdb_maps.proofs.{OneReading.{snoc_same}, OneMap.{version_same}}

record HasLast {A : Type 0} (xs : List A) : Type 0 where
  prefix : List A
  item : A
  is : xs ≡ prefix ++ item ∷ []

last_of : {A : Type 0} (x : A) (xs : List A) → HasLast (x ∷ xs)
last_of x [] = record { prefix = []; item = x; is = refl }
last_of x (y ∷ ys) = let l = last_of y ys in record { prefix = x ∷ l.prefix; item = l.item; is = ap (λ t. x ∷ t) l.is }

none_ends : {A : Type 0} (prefix : List A) (x : A) (back : List A) → [] ≡ prefix ++ x ∷ back → ⊥
none_ends [] x back e = absurd (cc)
none_ends (y ∷ ys) x back e = absurd (cc)

moved_back : {A : Type 0} (prefix : List A) (x : A) (middle : List A) (y : A) → prefix ++ x ∷ (middle ++ y ∷ []) ≡ (prefix ++ x ∷ middle) ++ y ∷ []
moved_back [] x middle y = refl
moved_back (z ∷ zs) x middle y = ap (λ t. z ∷ t) (moved_back zs x middle y)

-- the lines before a line that was read are read, and it keeps the rules after them
record PrefixRead (version : ℕ) (prefix : List (List ℕ)) (line : List ℕ) : Type 0 where
  before : List Line
  read : Read version prefix before
  keeps : Keeps version before line

read_prefix : (version : ℕ) (texts : List (List ℕ)) (said : List Line) → Read version texts said
    → (prefix : List (List ℕ)) (line : List ℕ) (back : List (List ℕ)) → texts ≡ prefix ++ line ∷ back → PrefixRead version prefix line
read_prefix version texts said start prefix line back e = absurd (none_ends prefix line back e)
read_prefix version texts said (further {texts = read} {before} {text} r tells keeps) prefix line [] e =
    let parts = snoc_same read prefix text line e in
    record { before = before; read = subst (λ t. Read version t before) parts.0 r; keeps = subst (Keeps version before) parts.1 keeps }
read_prefix version texts said (further {texts = read} {before} {text} r tells keeps) prefix line (b ∷ bs) e =
    let l = last_of b bs in
    let whole : read ++ text ∷ [] ≡ (prefix ++ line ∷ l.prefix) ++ l.item ∷ [] = e ∙ ap (λ t. prefix ++ line ∷ t) l.is ∙ moved_back prefix line l.prefix l.item in
    read_prefix version read before r prefix line l.prefix (snoc_same read (prefix ++ line ∷ l.prefix) text l.item whole).0

-- two places in a list: one and the same, or one before the other
data Places {A : Type 0} (prefix other : List A) (x y : A) : Type 0 where
  one : prefix ≡ other → x ≡ y → Places prefix other x y
  first : (middle : List A) → other ≡ prefix ++ x ∷ middle → Places prefix other x y
  later : (middle : List A) → prefix ≡ other ++ y ∷ middle → Places prefix other x y

places : {A : Type 0} (prefix other : List A) (x y : A) (back more : List A) → prefix ++ x ∷ back ≡ other ++ y ∷ more → Places prefix other x y
places [] [] x y back more e = let h : x ≡ y = cc in one refl h
places [] (z ∷ zs) x y back more e = let h : z ≡ x = cc in first zs (ap (λ t. t ∷ zs) h)
places (z ∷ zs) [] x y back more e = let h : z ≡ y = cc in later zs (ap (λ t. t ∷ zs) h)
places (z ∷ zs) (w ∷ ws) x y back more e =
    let h : z ≡ w = cc in
    let rest : zs ++ x ∷ back ≡ ws ++ y ∷ more = cc in
    of h (places zs ws x y back more rest)
  where
    of : z ≡ w → Places zs ws x y → Places (z ∷ zs) (w ∷ ws) x y
    of h (one a b) = one (ap (λ t. t ∷ zs) h ∙ ap (λ t. w ∷ t) a) b
    of h (first middle a) = first middle (ap (λ t. w ∷ t) a ∙ ap (λ t. t ∷ (zs ++ x ∷ middle)) (sym h))
    of h (later middle a) = later middle (ap (λ t. z ∷ t) a ∙ ap (λ t. t ∷ (ws ++ y ∷ middle)) h)

-- a line that was read breaks no rule
read_breaks : (version : ℕ) (texts : List (List ℕ)) (said : List Line) → Read version texts said
    → (prefix : List (List ℕ)) (line : List ℕ) (back : List (List ℕ))
    → texts ≡ prefix ++ line ∷ back → (before : List Line) (rule : Rule) → Read version prefix before → BreaksFirst version before line rule → ⊥
read_breaks version texts said read prefix line back e before rule also breaks =
    let f = read_prefix version texts said read prefix line back e in
    let same : f.before ≡ before = read_same version prefix prefix f.before before refl f.read also in
    f.keeps rule (subst (λ b. BreaksLine version b line rule) (sym same) breaks.broken)

heads : (head other : List ℕ) (rest more : List (List ℕ)) → ◌≡◌ {A = List (List ℕ)} (head ∷ rest) (other ∷ more) → (head ≡ other) × (rest ≡ more)
heads head other rest more e = (cc, cc)

refused_apart : (text : List ℕ) (a : Map) (line kind : ℕ) → IsMapOf text a → Refused text line kind → ⊥
refused_apart text a line kind x (at_head {head} {rest} e none) =
    let h = heads x.head head x.rest rest (sym x.lines ∙ e) in none x.version (subst (λ t. IsHead t x.version) h.0 x.begins)
refused_apart text a line kind x (at_line {head} {line = invalid} {prefix} back {version} {before} {rule} e begins read breaks) =
    let h = heads x.head head x.rest (prefix ++ invalid ∷ back) (sym x.lines ∙ e) in
    let v : x.version ≡ version = version_same head x.version version (sym h.0 ∙ x.begins.spelled) begins.spelled in
    read_breaks version x.rest x.said (subst (λ n. Read n x.rest x.said) v x.read) prefix invalid back h.1 before rule read breaks

refusal_one : (text : List ℕ) (line kind other least : ℕ) → Refused text line kind → Refused text other least → (line ≡ other) × (kind ≡ least)
refusal_one text line kind other least (at_head e none) (at_head f none2) = (refl, refl)
refusal_one text line kind other least (at_head {head} {rest} e none) (at_line {head = head2} {line = invalid} {prefix} back {version} f begins read breaks) =
    let h = heads head head2 rest (prefix ++ invalid ∷ back) (sym e ∙ f) in absurd (none version (subst (λ t. IsHead t version) (sym h.0) begins))
refusal_one text line kind other least (at_line {head} {line = invalid} {prefix} back {version} e begins read breaks) (at_head {head = head2} {rest} f none) =
    let h = heads head head2 (prefix ++ invalid ∷ back) rest (sym e ∙ f) in absurd (none version (subst (λ t. IsHead t version) h.0 begins))
refusal_one text line kind other least (at_line {head} {line = invalid} {prefix} back {version} {before} {rule} e begins read breaks)
    (at_line {head = head2} {line = invalid2} {prefix = prefix2} back2 {version = version2} {before = before2} {rule = rule2} f begins2 read2 breaks2) =
    let h = heads head head2 (prefix ++ invalid ∷ back) (prefix2 ++ invalid2 ∷ back2) (sym e ∙ f) in
    let v : version ≡ version2 = version_same head2 version version2 (sym h.0 ∙ begins.spelled) begins2.spelled in
    of (subst (λ n. Read n prefix before) v read) (subst (λ n. BreaksFirst n before invalid rule) v breaks) (places prefix prefix2 invalid invalid2 back back2 h.1)
  where
    of : Read version2 prefix before → BreaksFirst version2 before invalid rule → Places prefix prefix2 invalid invalid2 → (length prefix + 2 ≡ length prefix2 + 2)
        × (kind_of rule ≡ kind_of rule2)
    of r b (first middle is) = absurd (read_breaks version2 prefix2 before2 read2 prefix invalid middle is before rule r b)
    of r b (later middle is) = absurd (read_breaks version2 prefix before r prefix2 invalid2 middle is before2 rule2 read2 breaks2)
    of r b (one prefixes lines) =
        let befores : before ≡ before2 = read_same version2 prefix prefix2 before before2 prefixes r read2 in
        let mine : BreaksFirst version2 before2 invalid2 rule = subst (λ l. BreaksFirst version2 before2 l rule) lines
        (subst (λ t. BreaksFirst version2 t invalid rule) befores b) in
        let up : kind_of rule ≤ kind_of rule2 = mine.least rule2 breaks2.broken in
        let down : kind_of rule2 ≤ kind_of rule = breaks2.least rule mine.broken in
        (ap (λ t. length t + 2) prefixes, omega (arith, up, down))

pub refusals_are_one : RefusalsAreOne
refusals_are_one = record { apart = refused_apart; refusal = refusal_one }
