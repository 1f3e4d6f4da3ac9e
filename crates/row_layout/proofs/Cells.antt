-- Cells that are written are the cells that are read.
use Rattle.std.proofs.Common.{◌≡◌, ℕ, zero, suc, ◌+◌, ◌<◌, ◌≤◌, ◌^◌, List, [], ◌∷◌, ◌++◌, take, drop, length, sum, inl, inr, get_or, All, refl, ap, ◌∙◌, sym, subst}
use Rattle.std.proofs.{Common.{append_assoc, length-append, add-one, arith}, lemmas.List.{take_more, drop_at, drop-drop, length-take-le, append-nil, take-append-le}}
use Rattle.std.proofs.{Math.Seq.{take-append-add}, lemmas.List.Elements.{AllZip-get_or}}
use Rattle.ppdb_base.proofs.Fields.{sum_append, sum_cons}
use Rattle.byteorder.{specs.Endian.{little_number, little_bytes}, proofs.Bytes.{take-bytes_low_first}, specs.Numbers.{little_number-reads_back}}
use Rattle.byteorder.specs.Numbers.{length-bytes_low_first}
use Rattle.row_layout.specs.Rows.{Fit, row_bytes, cell_in, cell_place, places_from, IsWidth}

-- one more cell
pub row_bytes_push : (widths cells : List ℕ) (width cell : ℕ) → length widths ≡ length cells
    → row_bytes (widths ++ width ∷ []) (cells ++ cell ∷ []) ≡ row_bytes widths cells ++ little_bytes width cell
row_bytes_push [] [] width cell e = append-nil (little_bytes width cell)
row_bytes_push [] (c ∷ cs) width cell e = absurd (omega (arith, e))
row_bytes_push (w ∷ ws) [] width cell e = absurd (omega (arith, e))
row_bytes_push (w ∷ ws) (c ∷ cs) width cell e =
    ap (λ rest. little_bytes w c ++ rest) (row_bytes_push ws cs width cell (omega (arith, e)))
    ∙ sym (append_assoc (little_bytes w c) (row_bytes ws cs) (little_bytes width cell))

pub row_bytes_more : (widths cells : List ℕ) (i : ℕ) → i < length widths → length widths ≡ length cells
    → row_bytes (take (i + 1) widths) (take (i + 1) cells) ≡ row_bytes (take i widths) (take i cells) ++ little_bytes (get_or widths i 0) (get_or cells i 0)
row_bytes_more widths cells i h e =
    let there : i < length cells = omega arith in
    rw (take_more widths i 0 h, take_more cells i 0 there)
    (row_bytes_push (take i widths) (take i cells) (get_or widths i 0) (get_or cells i 0) (length-take-le i widths (omega arith)
    ∙ sym (length-take-le i cells (omega arith))))

-- a cell that is written in four bytes, of which those of its width count
pub cell_written : (widths cells row bytes rest post : List ℕ) (i len : ℕ) → i < length widths → length widths ≡ length cells → len ≤ length row
    → get_or widths i 0 ≤ 4 → bytes ≡ little_bytes 4 (get_or cells i 0) ++ rest → take len row ≡ row_bytes (take i widths) (take i cells)
    → take (len + get_or widths i 0) (take len row ++ (bytes ++ post)) ≡ row_bytes (take (i + 1) widths) (take (i + 1) cells)
cell_written widths cells row bytes rest post i len less same room few is before =
    let width = get_or widths i 0 in
    let cell = get_or cells i 0 in
    let four : length (little_bytes 4 cell) ≡ 4 = length-bytes_low_first 0 4 cell in
    let long : length bytes ≡ 4 + length rest = ap length is ∙ length-append (little_bytes 4 cell) rest ∙ ap (λ n. n + length rest) four in
    ap (λ n. take (n + width) (take len row ++ (bytes ++ post))) (sym (length-take-le len row room))
    ∙ take-append-add (take len row) (bytes ++ post) width
    ∙ ap (λ bs. take len row ++ bs)
    (take-append-le width bytes post (omega (arith, long, few)) ∙ ap (take width) is ∙ take-append-le width (little_bytes 4 cell) rest (omega (arith, four, few))
    ∙ take-bytes_low_first 0 4 width cell few)
    ∙ ap (λ bs. bs ++ little_bytes width cell) before
    ∙ sym (row_bytes_more widths cells i less same)

-- a row has the sum of the widths
pub length-row_bytes : (widths cells : List ℕ) → length widths ≡ length cells → length (row_bytes widths cells) ≡ sum widths
length-row_bytes [] [] e = refl
length-row_bytes [] (c ∷ cs) e = absurd (omega (arith, e))
length-row_bytes (w ∷ ws) [] e = absurd (omega (arith, e))
length-row_bytes (w ∷ ws) (c ∷ cs) e =
    length-append (little_bytes w c) (row_bytes ws cs)
    ∙ ap (λ n. n + length (row_bytes ws cs)) (length-bytes_low_first 0 w c)
    ∙ ap (λ n. w + n) (length-row_bytes ws cs (omega (arith, e)))
    ∙ sym (sum_cons w ws)

-- the cells of a row, whatever stands after it
pub cell-row_bytes : (widths cells rest : List ℕ) → Fit widths cells → (k : ℕ) → k < length widths
    → cell_in widths (row_bytes widths cells ++ rest) k ≡ get_or cells k 0
cell-row_bytes [] cells rest fit k h = absurd (omega (arith, h))
cell-row_bytes (w ∷ ws) [] rest fit k h = absurd fit
cell-row_bytes (w ∷ ws) (c ∷ cs) rest fit zero h =
    rw (append_assoc (little_bytes w c) (row_bytes ws cs) rest) (little_number-reads_back w c (row_bytes ws cs ++ rest) fit.0)
cell-row_bytes (w ∷ ws) (c ∷ cs) rest fit (suc k) h =
    ap (λ bytes. little_number (get_or ws k 0) bytes) (moved (little_bytes w c) (row_bytes ws cs) rest w (sum (take k ws)) (sum (w ∷ take k ws))
    (length-bytes_low_first 0 w c) (sum_cons w (take k ws)))
    ∙ cell-row_bytes ws cs rest fit.1 k (omega (arith, h))
  where
    moved : (prefix row rest : List ℕ) (w n m : ℕ) → length prefix ≡ w → m ≡ w + n → drop m ((prefix ++ row) ++ rest) ≡ drop n (row ++ rest)
    moved prefix row rest w n m e at = rw (at, append_assoc prefix row rest, ← drop-drop n w (prefix ++ (row ++ rest)), drop_at prefix (row ++ rest) w e) refl

-- one more cell that fits, and one that does not
pub fit_more : (widths cells : List ℕ) (i : ℕ) → i < length widths → length widths ≡ length cells → Fit (take i widths) (take i cells)
    → get_or cells i 0 < 256 ^ get_or widths i 0 → Fit (take (i + 1) widths) (take (i + 1) cells)
fit_more [] cells i h e fit below = absurd (omega (arith, h))
fit_more (w ∷ ws) [] i h e fit below = absurd (omega (arith, e))
fit_more (w ∷ ws) (c ∷ cs) zero h e fit below = (below, tt)
fit_more (w ∷ ws) (c ∷ cs) (suc i) h e fit below =
    rw add-one (fit.0, subst (λ n. Fit (take n ws) (take n cs)) (add-one i) (fit_more ws cs i (omega (arith, h)) (omega (arith, e)) fit.1 below))

pub fit_at : (widths cells : List ℕ) (i : ℕ) → i < length widths → Fit widths cells → get_or cells i 0 < 256 ^ get_or widths i 0
fit_at widths cells i h fit = AllZip-get_or (λ width cell. cell < 256 ^ width) widths cells i 0 0 fit h

-- ---- where the cells begin

place_from : (widths : List ℕ) (at k : ℕ) → k < length widths → get_or (places_from at widths) k 0 ≡ at + sum (take k widths)
place_from [] at k h = absurd (omega (arith, h))
place_from (w ∷ ws) at zero h = omega arith
place_from (w ∷ ws) at (suc k) h = omega (arith, place_from ws (at + w) k (omega (arith, h)), sum_cons w (take k ws))

pub place_is : (widths : List ℕ) (k : ℕ) → k < length widths → get_or (places_from 0 widths) k 0 ≡ cell_place widths k
place_is widths k h = omega (arith, place_from widths 0 k h)

-- a cell ends within the row
pub place_fits : (widths : List ℕ) (k : ℕ) → k < length widths → cell_place widths k + get_or widths k 0 ≤ sum widths
place_fits [] k h = absurd (omega (arith, h))
place_fits (w ∷ ws) zero h = omega (arith, sum_cons w ws)
place_fits (w ∷ ws) (suc k) h = omega (arith, sum_cons w ws, sum_cons w (take k ws), place_fits ws k (omega (arith, h)))

places_push : (widths : List ℕ) (at w : ℕ) → places_from at (widths ++ w ∷ []) ≡ places_from at widths ++ (at + sum widths) ∷ []
places_push [] at w = ap (λ n. n ∷ []) (omega arith)
places_push (v ∷ vs) at w =
    let e : at + v + sum vs ≡ at + sum (v ∷ vs) = omega (arith, sum_cons v vs) in
    ap (λ rest. at ∷ rest) (places_push vs (at + v) w ∙ ap (λ n. places_from (at + v) vs ++ n ∷ []) e)

pub sum_more : (widths : List ℕ) (i : ℕ) → i < length widths → sum (take (i + 1) widths) ≡ sum (take i widths) + get_or widths i 0
sum_more widths i h = rw (take_more widths i 0 h) (sum_append (take i widths) (get_or widths i 0 ∷ []) ∙ omega arith)

pub width_below : (widths : List ℕ) (i : ℕ) → i < length widths → All IsWidth widths → get_or widths i 0 ≤ 4
width_below widths i h all =
    elim (all i 0 h) [
      | inl two ↦ omega (arith, two)
      | inr four ↦ omega (arith, four)
    ]

-- one more cell
pub places_more : (widths : List ℕ) (i : ℕ) → i < length widths → places_from 0 (take (i + 1) widths) ≡ places_from 0 (take i widths)
    ++ sum (take i widths) ∷ []
places_more widths i h =
    rw (take_more widths i 0 h) (places_push (take i widths) 0 (get_or widths i 0) ∙ ap (λ n. places_from 0 (take i widths) ++ n ∷ []) (omega arith))
