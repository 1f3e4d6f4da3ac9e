-- Pieces that lie one after the other, and the file of a name among them.
use Rattle.std.proofs.Common.{ℕ, ◌≡◌, ◌<◌, ◌≤◌, ◌+◌, List, [], ◌∷◌, length, drop, get_or, Bool, cond, Some, sym, ◌∙◌, ap, subst, zero, suc, add-one, arith}
use Rattle.std.{proofs.Math.Seq.{drop-cons}, proofs.lemmas.List.Elements.{All-from_get_or}, specs.FinMap.{get, get-insert}, specs.Bool.{nat_eq}}
use Rattle.std.specs.Cmp.Lexicographic.{pointwise, nat_list_cmp_total, texts_ties}
use Rattle.ppdb_library.specs.{declared.piece.PpdbPiece.{PpdbPiece}, Pieces.{AreApart, AreWithin, contents_in, end_of, files_in, name_in}}

-- the piece that stands for a place where none is
abbrev pub no_piece : PpdbPiece
no_piece = record { start = 0; name_length = 0; length = 0 }

pub apart_within : (from total : ℕ) (pieces : List PpdbPiece) → AreApart from pieces total → from ≤ total
apart_within from total [] h = h
apart_within from total (piece ∷ pieces) h = let below : end_of piece ≤ total = apart_within (end_of piece) total pieces h.1 in omega (arith, below, h.0)

-- the pieces from a place on: the one there, and those after it
pub from_here : (pieces : List PpdbPiece) (i : ℕ) → i < length pieces → drop i pieces ≡ get_or pieces i no_piece ∷ drop (i + 1) pieces
from_here pieces i below = rw add-one (drop-cons pieces i no_piece below)

-- pieces of which one ends too far or begins too early are not apart
pub not_apart : (from total : ℕ) (pieces : List PpdbPiece) (i : ℕ) → i < length pieces
    → ((from ≤ (get_or pieces i no_piece).start) × (end_of (get_or pieces i no_piece) ≤ total) → ⊥) → AreApart from (drop i pieces) total → ⊥
not_apart from total pieces i below none h =
    let both : AreApart from (get_or pieces i no_piece ∷ drop (i + 1) pieces) total = subst (λ rest. AreApart from rest total) (from_here pieces i below) h in
    none (both.0, apart_within (end_of (get_or pieces i no_piece)) total (drop (i + 1) pieces) both.1)

-- each of pieces that lie apart ends among the bytes
pub each_within : (from total : ℕ) (pieces : List PpdbPiece) → AreApart from pieces total → (i : ℕ) → i < length pieces
    → end_of (get_or pieces i no_piece) ≤ total
each_within from total [] h i below = absurd (omega arith)
each_within from total (piece ∷ pieces) h zero below = apart_within (end_of piece) total pieces h.1
each_within from total (piece ∷ pieces) h (suc i) below = each_within (end_of piece) total pieces h.1 i (omega arith)

pub all_within : (total : ℕ) (pieces : List PpdbPiece) → AreApart 0 pieces total → AreWithin pieces total
all_within total pieces h = All-from_get_or (λ piece. end_of piece ≤ total) pieces no_piece (each_within 0 total pieces h)

-- the file of a name, from a piece on: that of the piece where it has the name, and else that of the others
pub file_from : (files : List ℕ) (pieces : List PpdbPiece) (name : List ℕ) (i : ℕ) → i < length pieces
    → get (files_in files (drop i pieces)) name
    ≡ cond (pointwise nat_eq name (name_in files (get_or pieces i no_piece))) (Some (contents_in files (get_or pieces i no_piece)))
    (get (files_in files (drop (i + 1) pieces)) name)
file_from files pieces name i below =
    let piece = get_or pieces i no_piece in
    ap (λ rest. get (files_in files rest) name) (from_here pieces i below)
    ∙ (get-insert nat_list_cmp_total (files_in files (drop (i + 1) pieces)) (name_in files piece) (contents_in files piece) name
    ∙ ap (λ (same : Bool). cond same (Some (contents_in files piece)) (get (files_in files (drop (i + 1) pieces)) name))
    (sym (texts_ties name (name_in files piece))))
