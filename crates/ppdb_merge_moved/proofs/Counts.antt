-- The row counts of the output, one more at a time.
use Rattle.std.proofs.{Common.{◌≡◌, ℕ, ◌+◌, ◌<◌, ◌++◌, List, [], ◌∷◌, length, take, set, get_or, sym, ap, ◌∙◌, arith}, lemmas.List.{take_more, take_more_set}}
use Rattle.std.{proofs.lemmas.List.{length-take-le}, specs.Prelude.{unwrap_or}}
use Rattle.ppdb_maps.specs.Map.{Map, count_of}
use Rattle.ppdb_merge_moved.specs.Moved.{moved_counts}

counts-push : (m : Map) (table : ℕ) (ns : List ℕ) (n : ℕ)
    → moved_counts m table (ns ++ n ∷ []) ≡ moved_counts m table ns ++ unwrap_or (count_of m (table + length ns)) n ∷ []
counts-push m table [] n = ap (λ t. unwrap_or (count_of m t) n ∷ []) (let e : table ≡ table + 0 = omega arith in e)
counts-push m table (x ∷ ns) n =
    ap (λ more. unwrap_or (count_of m table) x ∷ more)
    (counts-push m (table + 1) ns n
    ∙ ap (λ t. moved_counts m (table + 1) ns ++ unwrap_or (count_of m t) n ∷ []) (let e : (table + 1) + length ns ≡ table + length (x ∷ ns) = omega arith in e))

pub counts_more : (m : Map) (rows moved : List ℕ) (i n : ℕ) → i < length rows → length moved ≡ length rows → take i moved ≡ moved_counts m 0 (take i rows)
    → n ≡ unwrap_or (count_of m i) (get_or rows i 0)
    → take (i + 1) (set moved i n) ≡ moved_counts m 0 (take (i + 1) rows)
counts_more m rows moved i n less same prefix is =
    let at : length (take i rows) ≡ i = length-take-le i rows (omega arith) in
    take_more_set moved i n (omega arith) ∙ ap (λ xs. xs ++ n ∷ []) prefix
    ∙ ap (λ k. moved_counts m 0 (take i rows) ++ k ∷ [])
    (is ∙ ap (λ t. unwrap_or (count_of m t) (get_or rows i 0)) (let e : i ≡ 0 + length (take i rows) = omega arith in e))
    ∙ sym (counts-push m 0 (take i rows) (get_or rows i 0)) ∙ ap (moved_counts m 0) (sym (take_more rows i 0 less))
