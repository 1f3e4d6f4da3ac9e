-- A walk that looks at each point.
use Rattle.std.{proofs.Common.{◌≡◌, List, [], ◌∷◌, ◌++◌, Option, Some, None, Ok, refl, sym, subst, ◌∙◌, append_assoc, append-nil}, specs.Prelude.{All}}
use Rattle.std.proofs.lemmas.List.Elements.{All-push}
use Rattle.ppdb_base.specs.declared.BlobFault.{BlobFault}
use Rattle.blob_grammar.specs.Reader.{Left, answer, answer_from, rest_of, tail}
use Rattle.sequence_points.specs.declared.point.Point.{Point}
use Rattle.sequence_points_moved.specs.Conditions.{Seen}

by_items : (P : Point → Type 0) (all : List Point) (p : Point) (items : List Point) (fault : Option BlobFault) → answer_from items fault ≡ Ok (Some p)
    → Seen P all items → P p → Seen P all (tail items)
by_items P all p [] None e seen h = absurd cc
by_items P all p [] (Some fault) e seen h = absurd cc
by_items P all p (x ∷ xs) fault e seen h =
    let same : p ≡ x = cc in
    record {
      prefix = seen.prefix ++ x ∷ [];
      cut = seen.cut
          ∙ sym (append_assoc seen.prefix (x ∷ []) xs);
      hold = All-push P seen.prefix x seen.hold (subst P same h);
    }

pub seen_next : (P : Point → Type 0) (all : List Point) (p : Point) (left : Left Point) → answer left ≡ Ok (Some p) → Seen P all left.items → P p
    → Seen P all (rest_of left).items
seen_next P all p left e seen h = by_items P all p left.items left.fault e seen h

none_left : (items : List Point) (fault : Option BlobFault) → answer_from items fault ≡ Ok None → items ≡ []
none_left [] fault e = refl
none_left (x ∷ xs) fault e = absurd cc

pub seen_all : (P : Point → Type 0) (all : List Point) (left : Left Point) → answer left ≡ Ok None → Seen P all left.items → All P all
seen_all P all left e seen =
    let none : left.items ≡ [] = none_left left.items left.fault e in
    subst (All P) (sym (seen.cut ∙ subst (λ (xs : List Point). seen.prefix ++ xs ≡ seen.prefix) (sym none) (append-nil seen.prefix))) seen.hold
