-- The last offset that is a number of 32 bits is kept where all are.
use Rattle.std.{proofs.Common.{◌≡◌, ℕ, ◌≤◌, ◌&&◌, Bool, true, false, cond, List, Option, Some, None, refl, arith}, specs.Prelude.{is_some, not, IfSome, nat_eq}}
use Rattle.ppdb_base.{specs.declared.offsets.Run.{Run}, specs.Offsets.{Rise, gone, lined, is_kept_between, KeepsBetween}, proofs.Moved.{is_kept, kept_below}}
use Rattle.ppdb_maps.specs.{Map.{Map, MethodLine, offsets_in, method_line, is_dropped}, Readable.{IsReadable, IsLineOf}, Says.{sizes_of}}
use Rattle.ppdb_maps.proofs.Parts.{line_offsets}
use Rattle.ppdb_merge_moved.proofs.RowImages.{found_holds}

in_line : (runs : List Run) (old new : ℕ) → Rise (lined runs old new) → old ≤ 2147483647 → (b : Bool)
    → is_kept_between (lined runs old new) 4294967295 4294967296 ≡ b → b ≡ false
in_line runs old new rise small true is =
    let kept : KeepsBetween (lined runs old new) 4294967295 4294967296 = is_kept (lined runs old new) rise 4294967295 4294967296 is in
    absurd (omega (arith, kept.after, kept_below runs old new rise kept.offset kept.image kept.moves, small))
in_line runs old new rise small false is = refl

pub far_is : (m : Map) → IsReadable m → (method : ℕ)
    → is_kept_between (offsets_in m method) 4294967295 4294967296 ≡ (not (is_some (sizes_of (offsets_in m method))) && not (is_dropped m method))
far_is m ready method = by_drop (is_dropped m method)
  where
    by_line : (o : Option MethodLine) → IfSome o (IsLineOf m)
        → is_kept_between (line_offsets o) 4294967295 4294967296 ≡ (not (is_some (sizes_of (line_offsets o))) && true)
    by_line None holds = refl
    by_line (Some line) holds = in_line line.runs line.old_size line.new_size holds.3 holds.1 _ refl

    by_drop : (b : Bool) → is_kept_between (cond b gone (line_offsets (method_line m method))) 4294967295 4294967296
        ≡ (not (is_some (sizes_of (cond b gone (line_offsets (method_line m method))))) && not b)
    by_drop true = refl
    by_drop false = by_line (method_line m method) (found_holds (IsLineOf m) (λ l. nat_eq l.method method) m.methods ready.methods)
