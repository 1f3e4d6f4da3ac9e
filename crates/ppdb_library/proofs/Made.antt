-- What a folder with a written file holds under a name.
use Rattle.std.{proofs.Common.{ℕ, ◌≡◌, List, Bool, true, false, cond, Some, None, sym, ◌∙◌, ap, string_bytes}, specs.Bool.{nat_eq}, specs.Prelude.{Option}}
use Rattle.std.specs.{Cmp.Lexicographic.{pointwise, nat_list_cmp_total, texts_ties}, FinMap.{get, get-insert}}
use Rattle.ppdb_base.specs.Files.{Files}
use Rattle.ppdb_library.specs.{declared.folder.MadeFile.{MadeFile}, Folder.{with_made}}

pub made_or_lent : (files : Files) (made : MadeFile) (name : List ℕ)
    → get (with_made files (Some made)) name ≡ cond (pointwise nat_eq name (string_bytes made.name)) (Some made.bytes) (get files name)
made_or_lent files made name =
    get-insert nat_list_cmp_total files (string_bytes made.name) made.bytes name
    ∙ ap (λ (same : Bool). cond same (Some made.bytes) (get files name)) (sym (texts_ties name (string_bytes made.name)))

-- the written file, where it has the name
pub made_here : (all files : Files) (made : Option MadeFile) (file : MadeFile) (name text : List ℕ) → with_made files made ≡ all → made ≡ Some file
    → text ≡ string_bytes file.name → true ≡ pointwise nat_eq name text → Some file.bytes ≡ get all name
made_here all files made file name text is some named same =
    sym (ap (λ m. get m name) (sym is ∙ ap (with_made files) some) ∙ (made_or_lent files file name
    ∙ ap (λ (b : Bool). cond b (Some file.bytes) (get files name)) (ap (pointwise nat_eq name) (sym named) ∙ sym same)))

-- a file that is lent, where the written file has another name
pub lent_other : (all files : Files) (made : Option MadeFile) (file : MadeFile) (name text : List ℕ) → with_made files made ≡ all → made ≡ Some file
    → text ≡ string_bytes file.name → false ≡ pointwise nat_eq name text → get files name ≡ get all name
lent_other all files made file name text is some named same =
    sym (ap (λ m. get m name) (sym is ∙ ap (with_made files) some) ∙ (made_or_lent files file name
    ∙ ap (λ (b : Bool). cond b (Some file.bytes) (get files name)) (ap (pointwise nat_eq name) (sym named) ∙ sym same)))

pub lent_alone : (all files : Files) (made : Option MadeFile) (name : List ℕ) → with_made files made ≡ all → made ≡ None → get files name ≡ get all name
lent_alone all files made name is none = sym (ap (λ m. get m name) (sym is ∙ ap (with_made files) none))
