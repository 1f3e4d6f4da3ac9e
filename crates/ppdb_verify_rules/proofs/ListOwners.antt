-- Which scope owns an item, and what it has seen of its items.
use Rattle.std.proofs.Common.{◌≡◌, ℕ, ◌+◌, ◌-◌, ◌<◌, ◌≤◌, ◌⊎◌, List, [], length, Some, None, refl, sym, subst, ◌∙◌, arith, inl, inr, zero, suc, ap, slice_index, ◌≢◌}
use Rattle.std.proofs.lemmas.Bool.{cases_lt, cases_eq}
use Rattle.ppdb_base.specs.{declared.code.Code.TheVariants.{ListRange}, Place.{cell}}
use Rattle.ppdb_heaps.specs.Heaps.{text_at}
use Rattle.ppdb_tables.specs.declared.rows.{ScopeRow.{ScopeRow}, ConstantRow.{ConstantRow}, VariableRow.{VariableRow}}
use Rattle.ppdb_tables.{specs.RawTables.{RawTables, row_at, count}, proofs.NumberedRows.{row_there, row_within, same_row}}
use Rattle.ppdb_verify_rules.specs.{declared.lists.ScopeList.{ScopeList}, declared.lists.ScopeList.TheVariants.{Variables, Constants}, Earlier.{HasEarlier}}
use Rattle.ppdb_verify_rules.specs.{Judged.{ToCell, ToTable}, Lists.{list_of}, Rows.RowFaults.{in_scope, in_variable, in_constant}, Rows.ScopeFault.{no_variables}}
use Rattle.ppdb_verify_rules.specs.Rows.{ScopeFault.{no_constants}, VariableFault.{alone as variables_alone}, ConstantFault.{alone as constants_alone}}
use Rattle.ppdb_verify_rules.specs.{Scopes.{AreSameText, Owns, ShareOwner}, Seen.{AreSlots, AreTexts, HasText, HasNoTexts, HasEarlierOf, HaveLists, OwnsBefore}}
use Rattle.ppdb_verify_rules.{specs.declared.seen.Texts.{Texts}, proofs.CellFaults.{earlier_here, earlier_next, earlier_on, none_earlier}}
use Rattle.ppdb_verify_rules.proofs.SeenSets.{has_no_text}

-- past LocalScope, no list is out of range
pub lists_of_variables : (raw : RawTables) → ToTable raw 0x33 → HaveLists raw Variables
lists_of_variables raw judged n x there out = judged ListRange (cell 0x32 n 2) (in_scope there (no_variables out)) (inr (refl, inl (omega arith)))

pub lists_of_constants : (raw : RawTables) → ToTable raw 0x34 → HaveLists raw Constants
lists_of_constants raw judged n x there out = judged ListRange (cell 0x32 n 3) (in_scope there (no_constants out)) (inr (refl, inl (omega arith)))

module _ (raw : RawTables) (list : ScopeList) (lists : HaveLists raw list) where
  rises : (d i : ℕ) (x y : ScopeRow) → row_at raw.scopes i ≡ Some x → row_at raw.scopes (i + d) ≡ Some y → list_of list x ≤ list_of list y
  rises zero i x y a b =
      let same : x ≡ y = same_row raw.scopes i x y a (subst (λ (n : ℕ). row_at raw.scopes n ≡ Some y) (let e : i + 0 ≡ i = omega arith in e) b) in
      subst (λ (z : ScopeRow). list_of list x ≤ list_of list z) same (omega arith)
  rises (suc d) i x y a b =
      let p = row_within raw.scopes i x a in
      let top = row_within raw.scopes (i + suc d) y b in
      let z = row_there raw.scopes (i + d) (omega (arith, p.0)) (omega (arith, top.1)) in
      let up : list_of list x ≤ list_of list z.0 = rises d i x z.0 a z.1 in
      let before : row_at raw.scopes (i + suc d - 1) ≡ Some z.0 =
      subst (λ (n : ℕ). row_at raw.scopes n ≡ Some z.0) (let e : i + d ≡ i + suc d - 1 = omega arith in e) z.1 in
      elim (cases_lt (list_of list y) (list_of list z.0)) [
        | inl falls ↦ absurd (lists (i + suc d) y b (inr (inr (z.0, before, falls))))
        | inr on ↦ omega (arith, up, on)
      ]

  lists_rise : (i j : ℕ) (x y : ScopeRow) → row_at raw.scopes i ≡ Some x → row_at raw.scopes j ≡ Some y → i ≤ j → list_of list x ≤ list_of list y
  lists_rise i j x y a b le = rises (j - i) i x y a (subst (λ (n : ℕ). row_at raw.scopes n ≡ Some y) (let e : j ≡ i + (j - i) = omega arith in e) b)

  -- the first scope's list begins at 1
  first_list : (x : ScopeRow) → row_at raw.scopes 1 ≡ Some x → list_of list x ≡ 1
  first_list x a = elim (cases_eq (list_of list x) 1) [ inl e ↦ e | inr other ↦ absurd (lists 1 x a (inr (inl (refl, other)))) ]

  -- the owner, where the next scope's list begins later
  pub owner_found : (row owner : ℕ) → 0 < length raw.scopes → 0 < row → owner ≤ length raw.scopes
      → ((s : ScopeRow) → row_at raw.scopes owner ≡ Some s → list_of list s ≤ row)
      → ((s : ScopeRow) → row_at raw.scopes (owner + 1) ≡ Some s → row < list_of list s)
      → Owns (list_of list) raw.scopes owner row
  owner_found row owner some low within begun next =
      elim (cases_eq owner 0) [
        | inl none ↦
            let f = row_there raw.scopes 1 (omega arith) (omega (arith, some)) in
            let later : row < list_of list f.0 = next f.0 (subst (λ (n : ℕ). row_at raw.scopes n ≡ Some f.0) (let e : 1 ≡ owner + 1 = omega arith in e) f.1) in
            absurd (omega (arith, first_list f.0 f.1, later))
        | inr there ↦
            let o = row_there raw.scopes owner (omega arith) within in
            record {
              scope = o.0;
              there = o.1;
              begun = begun o.0 o.1;
              last = λ later other at begins. elim (cases_lt owner later) [
                | inl past ↦
                    let n = row_there raw.scopes (owner + 1) (omega arith) (let w = row_within raw.scopes later other at in omega (arith, w.1)) in
                    let up : list_of list n.0 ≤ list_of list other = lists_rise (owner + 1) later n.0 other n.1 at (omega arith) in
                    let from = next n.0 n.1 in
                    absurd (omega (arith, up, from, begins))
                | inr le ↦ le
              ];
            }
      ]

-- the owner of the row before has a list that begins at or before the row
pub before_begun : (list : ScopeRow → ℕ) (scopes : List ScopeRow) (row owner : ℕ) → OwnsBefore list scopes owner row
    → (owner ≤ length scopes) × ((s : ScopeRow) → row_at scopes owner ≡ Some s → list s ≤ row)
before_begun list scopes row owner (inl none) =
    (omega (arith, none.0), λ s there. let p = row_within scopes owner s there in absurd (omega (arith, p.0, none.0)))
before_begun list scopes row owner (inr o) = (
  (row_within scopes owner o.scope o.there).1,
  λ s there.
      let b : list o.scope ≤ row - 1 = o.begun in
      subst (λ (z : ScopeRow). list z ≤ row) (same_row scopes owner o.scope s o.there there) (omega (arith, b)),
)

-- an item has one owner
pub one_owner : (list : ScopeRow → ℕ) (scopes : List ScopeRow) (a b item : ℕ) → Owns list scopes a item → Owns list scopes b item → a ≡ b
one_owner list scopes a b item x y =
    let up = x.last b y.scope y.there y.begun in
    let down = y.last a x.scope x.there x.begun in
    omega (arith, up, down)

-- the owner of the row is that of the next row's row before
pub owner_before : (list : ScopeRow → ℕ) (scopes : List ScopeRow) (owner row : ℕ) → Owns list scopes owner row → OwnsBefore list scopes owner (row + 1)
owner_before list scopes owner row owns = inr (subst (λ (n : ℕ). Owns list scopes owner n) (let e : row ≡ row + 1 - 1 = omega arith in e) owns)

module _ {X : Type 0} (list : ScopeRow → ℕ) (scopes : List ScopeRow) (rows : List X) where
  -- a scope that is reached first has no earlier item
  pub new_owner : (row before owner : ℕ) (Has_it : X → Type 0) → OwnsBefore list scopes before row → before < owner
      → HasEarlierOf list scopes rows row owner Has_it → ⊥
  new_owner row before owner Has_it (inl none) past h =
      let p = row_within rows h.before h.earlier h.there in let s = h.sooner in omega (arith, p.0, s, none.1)
  new_owner row before owner Has_it (inr o) past h =
      let s = h.sooner in
      let owned : Owns list scopes owner h.before = h.forbidden.0 in
      let b : list owned.scope ≤ h.before = owned.begun in
      let late = o.last owner owned.scope owned.there (omega (arith, s, b)) in
      omega (arith, late, past)

  -- what an earlier item of the scope has is what one of the owner has
  pub of_owner : (row owner : ℕ) (Has_it : X → Type 0) → Owns list scopes owner row
      → HasEarlier (λ before (e : X). ShareOwner list scopes before row × Has_it e) rows row → HasEarlierOf list scopes rows row owner Has_it
  of_owner row owner Has_it owns h =
      let shared : ShareOwner list scopes h.before row = h.forbidden.0 in
      record {
        before = h.before;
        earlier = h.earlier;
        there = h.there;
        sooner = h.sooner;
        forbidden = (
          subst (λ (o : ℕ). Owns list scopes o h.before) (one_owner list scopes shared.0 owner row shared.2 owns) shared.1,
          h.forbidden.1,
        );
      }

  pub of_scope : (row owner : ℕ) (Has_it : X → Type 0) → Owns list scopes owner row → HasEarlierOf list scopes rows row owner Has_it
      → HasEarlier (λ before (e : X). ShareOwner list scopes before row × Has_it e) rows row
  of_scope row owner Has_it owns h = record {
    before = h.before;
    earlier = h.earlier;
    there = h.there;
    sooner = h.sooner;
    forbidden = ((owner, h.forbidden.0, owns), h.forbidden.1);
  }

pub slots_at_first : (scopes : List ScopeRow) (variables : List VariableRow) (owner : ℕ) (marks : List ℕ) → marks ≡ [] → AreSlots scopes variables 1 owner marks
slots_at_first scopes variables owner marks empty = record {
  reached = λ n. rw empty (omega arith);
  sound = λ n some marked. absurd (let zero : slice_index marks n ≡ 0 = rw empty refl in omega (arith, some, marked, zero));
  complete = λ n h. absurd (none_earlier variables h);
}

module _ {X : Type 0} (list : ScopeRow → ℕ) (scopes : List ScopeRow) (texts : List ℕ) (name_of : X → ℕ) (rows : List X) where
  pub texts_at_new : (row before owner : ℕ) (seen : Texts) → OwnsBefore list scopes before row → before < owner → HasNoTexts seen
      → AreTexts list scopes texts name_of rows row owner seen
  texts_at_new row before owner seen owns past empty = record {
    sound = λ t has. absurd (has_no_text seen t empty has);
    complete = λ t h. absurd (new_owner list scopes rows row before owner (λ (e : X). text_at texts (name_of e) ≡ Some t) owns past h);
  }

  pub texts_at_first : (owner : ℕ) (seen : Texts) → HasNoTexts seen → AreTexts list scopes texts name_of rows 1 owner seen
  texts_at_first owner seen empty = record {
    sound = λ t has. absurd (has_no_text seen t empty has);
    complete = λ t h. absurd (none_earlier rows h);
  }

  -- the name of an earlier item of the scope is in the set of its owner
  pub repeated_text : (row owner index : ℕ) (text : List ℕ) → text_at texts index ≡ Some text → Owns list scopes owner row
      → HasEarlierOf list scopes rows row owner (λ e. text_at texts (name_of e) ≡ Some text)
      → HasEarlier (λ before (e : X). ShareOwner list scopes before row × AreSameText texts (name_of e) index) rows row
  repeated_text row owner index text there owns h = record {
    before = h.before;
    earlier = h.earlier;
    there = h.there;
    sooner = h.sooner;
    forbidden = ((owner, h.forbidden.0, owns), (text, h.forbidden.1, there));
  }

  pub annotated_text : (row owner index : ℕ) (text : List ℕ) → text_at texts index ≡ Some text → Owns list scopes owner row
      → HasEarlier (λ before (e : X). ShareOwner list scopes before row × AreSameText texts (name_of e) index) rows row
      → HasEarlierOf list scopes rows row owner (λ e. text_at texts (name_of e) ≡ Some text)
  annotated_text row owner index text there owns h =
      let shared : ShareOwner list scopes h.before row = h.forbidden.0 in
      let same : AreSameText texts (name_of h.earlier) index = h.forbidden.1 in
      let equal : same.0 ≡ text = cc (same.2, there) in
      record {
        before = h.before;
        earlier = h.earlier;
        there = h.there;
        sooner = h.sooner;
        forbidden = (
          subst (λ (o : ℕ). Owns list scopes o h.before) (one_owner list scopes shared.0 owner row shared.2 owns) shared.1,
          same.1 ∙ ap Some equal,
        );
      }

-- what the sets have past an item
pub slots_after : (scopes : List ScopeRow) (variables : List VariableRow) (row owner : ℕ) (variable : VariableRow) (old new : List ℕ)
    → AreSlots scopes variables row owner old → row_at variables row ≡ Some variable → Owns (λ s. s.variables) scopes owner row
    → slice_index new variable.slot ≡ owner → ((n : ℕ) → n ≢ variable.slot → slice_index new n ≡ slice_index old n)
    → AreSlots scopes variables (row + 1) owner new
slots_after scopes variables row owner variable old new seen there owns marked others = record {
  reached = λ n. elim (cases_eq n variable.slot) [
    | inl same ↦ rw (same, marked) (omega arith)
    | inr other ↦ rw (others n other) (seen.reached n)
  ];
  sound = λ n some mark. elim (cases_eq n variable.slot) [
    | inl same ↦ earlier_here (λ before (v : VariableRow). Owns (λ s. s.variables) scopes owner before × (v.slot ≡ n)) variables row variable there (
      owns,
      sym same,
    )
    | inr other ↦ earlier_on (λ before (e : VariableRow). Owns (λ s. s.variables) scopes owner before × (e.slot ≡ n)) variables row
        (seen.sound n some (sym (others n other) ∙ mark))
  ];
  complete = λ n h. elim (cases_eq n variable.slot) [
    | inl same ↦ rw same marked
    | inr other ↦ elim (earlier_next (λ before (e : VariableRow). Owns (λ s. s.variables) scopes owner before × (e.slot ≡ n)) variables row variable there h) [
      | inl early ↦ others n other ∙ seen.complete n early
      | inr here ↦ absurd (other (sym here.1))
    ]
  ];
}

pub texts_after : {X : Type 0} (list : ScopeRow → ℕ) (scopes : List ScopeRow) (texts : List ℕ) (name_of : X → ℕ) (rows : List X) (row owner : ℕ) (x : X)
    (text : List ℕ)
    (old new : Texts) → AreTexts list scopes texts name_of rows row owner old → row_at rows row ≡ Some x → Owns list scopes owner row
    → text_at texts (name_of x) ≡ Some text
    → ((t : List ℕ) → HasText old t → HasText new t) → HasText new text → ((t : List ℕ) → HasText new t → HasText old t ⊎ (t ≡ text))
    → AreTexts list scopes texts name_of rows (row + 1) owner new
texts_after {X} list scopes texts name_of rows row owner x text old new seen there owns named kept added only = record {
  sound = λ t has. elim (only t has) [
    | inl o ↦ earlier_on (λ before (e : X). Owns list scopes owner before × (text_at texts (name_of e) ≡ Some t)) rows row (seen.sound t o)
    | inr e ↦ earlier_here (λ before (v : X). Owns list scopes owner before × (text_at texts (name_of v) ≡ Some t)) rows row x there (
      owns,
      named
          ∙ ap Some (sym e),
    )
  ];
  complete = λ t h. elim (earlier_next (λ before (e : X). Owns list scopes owner before × (text_at texts (name_of e) ≡ Some t)) rows row x there h) [
    | inl early ↦ kept t (seen.complete t early)
    | inr here ↦
        let named_t : text_at texts (name_of x) ≡ Some t = here.1 in
        let same : text ≡ t = cc (named, named_t) in
        subst (λ (u : List ℕ). HasText new u) same added
  ];
}

-- items without scopes are a fault of row 1 alone
pub variables_from_1 : (raw : RawTables) (row : ℕ) (variable : VariableRow) → row_at raw.variables row ≡ Some variable → ToCell raw 0x33 row 0
    → count raw 0x32 ≡ 0 → row ≡ 1
variables_from_1 raw row variable there judged none = elim (cases_eq row 1) [
  | inl e ↦ e
  | inr other ↦
      let w = row_within raw.variables row variable there in
      let first = row_there raw.variables 1 (omega arith) (omega (arith, w.0, w.1)) in
      absurd (judged ListRange (cell 0x33 1 0) (in_variable first.1 (variables_alone (refl, none))) (inr (refl, inr (refl, inl (omega (arith, w.0, other))))))
]

pub constants_from_1 : (raw : RawTables) (row : ℕ) (constant : ConstantRow) → row_at raw.constants row ≡ Some constant → ToCell raw 0x34 row 0
    → count raw 0x32 ≡ 0 → row ≡ 1
constants_from_1 raw row constant there judged none = elim (cases_eq row 1) [
  | inl e ↦ e
  | inr other ↦
      let w = row_within raw.constants row constant there in
      let first = row_there raw.constants 1 (omega arith) (omega (arith, w.0, w.1)) in
      absurd (judged ListRange (cell 0x34 1 0) (in_constant first.1 (constants_alone (refl, none))) (inr (refl, inr (refl, inl (omega (arith, w.0, other))))))
]

-- a text that is there
pub text_there : (texts : List ℕ) (index : ℕ) (text : List ℕ) → text_at texts index ≡ Some text → text_at texts index ≡ None → ⊥
text_there texts index text there none = cc
