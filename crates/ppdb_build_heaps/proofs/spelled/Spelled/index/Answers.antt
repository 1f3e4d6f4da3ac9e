use Rattle.std.proofs.Common.{◌≡◌, ◌+◌, ◌<◌, length, take, get_or, ap, sym, subst, ◌∙◌, arith}
use Rattle.ppdb_base.specs.Told.{told}
use Rattle.ppdb_build_heaps.{specs.Interned.{Contents, length_of}, specs.Spelled.{items_in}, proofs.Spellings.{few, item_at}}
use Rattle.ppdb_build_heaps.proofs.spelled.Spelled.index.Goals as goal

pub offset_bounds-as_slice-number : goal.offset_bounds-as_slice-number
offset_bounds-as_slice-number c =
    let less = few c.self.inside.kind c.args.number c.self.inside.bytes c.self.inside.starts c.as_slice.result.now c.args.self.now c.requires c.self.view_is
    c.as_slice.ensures in
    omega (arith, less)

pub bounds-as_slice-number : goal.bounds-as_slice-number
bounds-as_slice-number c =
    few c.self.inside.kind c.args.number c.self.inside.bytes c.self.inside.starts c.as_slice.result.now c.args.self.now c.requires c.self.view_is
    c.as_slice.ensures

pub returns : goal.returns
returns c =
    let kind = c.self.inside.kind in
    let items = items_in kind c.self.inside.bytes c.self.inside.starts in
    let at = item_at kind c.self.inside.bytes c.self.inside.starts items c.args.number c.self.invariant
    (subst (λ (heap : Contents). c.args.number < length heap.items) (sym c.self.view_is) c.requires) in
    let is : get_or c.as_slice.result.now c.args.number 0 ≡ 0 + length_of kind (take c.args.number items) =
    ap (λ starts. get_or starts c.args.number 0) c.as_slice.ensures ∙ at.begins in
    subst (λ (heap : Contents). get_or c.as_slice.result.now c.args.number 0 ≡ told (length_of heap.kind (take c.args.number heap.items))) c.self.view_is
    (omega (arith, is))
