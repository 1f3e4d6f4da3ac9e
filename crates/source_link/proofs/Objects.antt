-- The members of an object that was read, and what a record says by them.
use Rattle.std.proofs.Common.{◌≡◌, ℕ, ◌∙◌, Bool, true, false, cond, List, refl, sym, ap, Option, Some, None, Result, Ok, Err, String, Global, BTreeMap, string_bytes}
use Rattle.std.specs.{Prelude.{IsUtf8, IfOk, codes, ok_or}, BTreeMap.{is_at}, Cmp.Lexicographic.{slice_cmp}, Map.{lookup}, Option.{option_map, option_and_then}}
use Rattle.std.{specs.Ordering.{nat_cmp}, specs.Str.{is_utf8}, proofs.lemmas.Str.{is_utf8-from_IsUtf8, IsUtf8-from_is_utf8}}
use Rattle.serde_json.specs.{Data.{Data}, Find.{as_object, get_member}, Read.{read}, View.{view, members_view}, declared.value.Value.{Value}}
use Rattle.serde_json.proofs.Views.{view-lookup}
use Rattle.ppdb_base.specs.declared.link_error.{LinkError.{LinkError}, LinkError.TheVariants.{NotJson, Shape}}
use Rattle.source_link.specs.{declared.pair.Pair.{Pair}, Record.{pairs_in, documents_in, pairs_of, judged, links_of}}

-- what an object says is said by its member `documents`
pub documents_said : (value : Value) (members : BTreeMap (String Global) Value) (found : Option Value)
    → Some (members_view members.entries) ≡ as_object (view value)
    → found ≡ lookup (is_at (λ k. slice_cmp nat_cmp (codes "documents") (string_bytes k))) members.entries
    → pairs_of (view value) ≡ documents_in (option_map view found)
documents_said value members found is there =
    ap (λ o. option_and_then (λ members. documents_in (get_member (codes "documents") members)) o) (sym is)
    ∙ ap documents_in (sym (view-lookup (codes "documents") members.entries)) ∙ ap (λ o. documents_in (option_map view o)) (sym there)

pub documents_object : (value : Value) (members : BTreeMap (String Global) Value) → Some (members_view members.entries) ≡ as_object (view value)
    → documents_in (Some (view value)) ≡ pairs_in (members_view members.entries)
documents_object value members is = ap (option_and_then pairs_in) (sym is)

pub documents_none : (value : Value) → None ≡ as_object (view value) → documents_in (Some (view value)) ≡ None
documents_none value is = ap (option_and_then pairs_in) (sym is)

-- ---- bytes

pub not_text : (bytes : List ℕ) → (IsUtf8 bytes → ⊥) → links_of bytes ≡ Err NotJson
not_text bytes other = step (is_utf8 bytes) refl
  where
    step : (b : Bool) → is_utf8 bytes ≡ b → judged (cond b (read bytes) None) ≡ Err NotJson
    step true is = absurd (other (IsUtf8-from_is_utf8 bytes is))
    step false is = refl

pub text_said : (bytes text : List ℕ) (d : Option Data) → text ≡ bytes → IsUtf8 bytes → read text ≡ d → links_of bytes ≡ judged d
text_said bytes text d same utf8 is =
    ap (λ b. judged (cond b (read bytes) None)) (is_utf8-from_IsUtf8 bytes utf8) ∙ ap (λ t. judged (read t)) (sym same) ∙ ap judged is

pub ok_said : (r : Result (List Pair) LinkError) (o : Option (List Pair)) (said : Result (List Pair) LinkError) → said ≡ ok_or o Shape
    → IfOk r (λ pairs. o ≡ Some pairs) → IfOk r (λ pairs. said ≡ Ok pairs)
ok_said (Ok pairs) o said is h = is ∙ ap (λ (o : Option (List Pair)). ok_or o Shape) h
ok_said (Err e) o said is h = tt
