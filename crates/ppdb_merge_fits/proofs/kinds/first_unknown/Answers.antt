use Rattle.std.{proofs.Common.{List, ◌≤◌, sym, ◌∙◌, ap, subst, cond, [], ◌∷◌, ◌&&◌, length, slice_get}, specs.Prelude.{not}}
use Rattle.custom_info.specs.Kinds.{kind_of}
use Rattle.ppdb_base.specs.declared.merge_error.MergeError.TheVariants.{KindUnknown}
use Rattle.ppdb_values.specs.{Value.{value_of}, declared.custom.CustomValue.{CustomValue}, declared.file.FileValue.{FileValue}}
use Rattle.ppdb_verify.specs.Views.{raw_file}
use Rattle.ppdb_merge_fits.{specs.Clashes.{is_unknown, is_at_gone, if_unknown}, proofs.Counted.{few_customs}, proofs.First.{none_told}}
use Rattle.ppdb_merge_fits.proofs.kinds.first_unknown.Goals as goal

pub returns-then-not-any_unknown : goal.returns-then-not-any_unknown
returns-then-not-any_unknown g c =
    let value = value_of (raw_file c.args.file.now) in
    sym (ap (λ l. slice_get l 0) (none_told (λ (x : CustomValue). is_unknown (kind_of c.args.marks.now x.kind))
    (if_unknown c.args.marks.now c.args.map.now value)
    (λ x known. ap (λ b. cond (b && not (is_at_gone c.args.map.now value x.1.parent)) (KindUnknown x.0 x.1.kind ∷ []) []) known)
    1 value.customs (sym c.any_unknown.ensures ∙ c.if-not-any_unknown.true)))

pub first_in-requires : goal.first_in-requires
first_in-requires g c =
    subst (λ (l : List CustomValue). length l ≤ 16777215)
    (sym (c.as_slice.ensures ∙ ap (λ (v : FileValue). v.customs) c.in_ok-value.ensures.value)) (few_customs (raw_file c.args.file.now) c.keeps.ensures.rules)
