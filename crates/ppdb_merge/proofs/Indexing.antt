-- The index of inputs, with one further input.
use Rattle.std.{proofs.Common.{◌≡◌, ℕ, suc, ◌+◌, List, [], ◌∷◌, ◌++◌, length, map, flat_map, sym, ◌∙◌, ap, subst, arith}, specs.List.{enumerate_from}}
use Rattle.std.proofs.lemmas.List.{append-nil, append_assoc}
use Rattle.ppdb_values.specs.declared.file.DocumentValue.{DocumentValue}
use Rattle.ppdb_merge_items.specs.{declared.file.AnnotatedFile.{AnnotatedFile}, Annotated.{items_of}}
use Rattle.ppdb_merge_names.specs.declared.imaged.Imaged.{Imaged}
use Rattle.ppdb_merge_joined.specs.Joined.{firsts}
use Rattle.ppdb_merge.specs.{declared.index.Index.{Index}, declared.trace.Trace.{Trace}, Indexes.{Indexes, HoldsMethods, HoldsDocuments, claims_of}}
use Rattle.ppdb_merge.specs.{Merged.{moved_files}, Refusals.{claims, methods_in}}

claims_from : ℕ → List Trace → List (ℕ × Imaged)
claims_from n traces = flat_map (λ (t : ℕ × Trace). map (λ i. (t.0, i)) (methods_in t.1.rows)) (enumerate_from n traces)

claims_more : (n : ℕ) (traces : List Trace) (t : Trace)
    → claims_from n (traces ++ t ∷ []) ≡ claims_from n traces ++ claims_of (n + length traces) t.rows
unfolding claims_from
claims_more n [] t = let same : n ≡ n + 0 = omega arith in append-nil (claims_of n t.rows) ∙ ap (λ m. claims_of m t.rows) same
claims_more n (x ∷ traces) t =
    let same : n + 1 + length traces ≡ n + suc (length traces) = omega arith in
    ap (λ l. claims_of n x.rows ++ l) (claims_more (n + 1) traces t ∙ ap (λ m. claims_from (n + 1) traces ++ claims_of m t.rows) same)
    ∙ sym (append_assoc (claims_of n x.rows) (claims_from (n + 1) traces) (claims_of (n + suc (length traces)) t.rows))

pub claims_next : (traces : List Trace) (t : Trace) → claims (traces ++ t ∷ []) ≡ claims traces ++ claims_of (1 + length traces) t.rows
unfolding claims_from
claims_next traces t = claims_more 1 traces t

abbrev documents_in : List Trace → List DocumentValue
documents_in traces = flat_map (λ (file : AnnotatedFile). items_of file.documents) (moved_files traces)

pub documents_more : (traces : List Trace) (t : Trace) → documents_in (traces ++ t ∷ []) ≡ documents_in traces ++ items_of t.moved.documents
documents_more [] t = append-nil (items_of t.moved.documents)
documents_more (x ∷ traces) t =
    ap (λ l. items_of x.moved.documents ++ l) (documents_more traces t)
    ∙ sym (append_assoc (items_of x.moved.documents) (documents_in traces) (items_of t.moved.documents))

length_next : {A : Type 0} (xs : List A) (x : A) → length xs + 1 ≡ length (xs ++ x ∷ [])
length_next [] x = omega arith
length_next (y ∷ ys) x = let rest = length_next ys x in omega (arith, rest)

pub index_more : (traces : List Trace) (t : Trace) (index after : Index) → Indexes traces index → after.inputs ≡ index.inputs + 1
    → ((claimed : List (ℕ × Imaged)) → HoldsMethods claimed index.methods → HoldsMethods (claimed ++ claims_of (index.inputs + 1) t.rows) after.methods)
    → ((all : List DocumentValue) → HoldsDocuments (firsts [] all) index.documents
    → HoldsDocuments (firsts [] (all ++ items_of t.moved.documents)) after.documents)
    → Indexes (traces ++ t ∷ []) after
index_more traces t index after holds counted methods documents = record {
  inputs = counted ∙ ap (λ n. n + 1) holds.inputs ∙ length_next traces t;
  methods = subst (λ l. HoldsMethods l after.methods)
      (ap (λ n. claims traces ++ claims_of n t.rows) place ∙ sym (claims_next traces t)) (methods (claims traces) holds.methods);
  documents = subst (λ l. HoldsDocuments (firsts [] l) after.documents) (sym (documents_more traces t)) (documents (documents_in traces) holds.documents);
}
  where
    place : index.inputs + 1 ≡ 1 + length traces
    place = let inputs = holds.inputs in omega (arith, inputs)
