use Rattle.std.{proofs.Common.{rules, refl}, specs.Prelude.{bytes_eq}, specs.Ordering.{nat_cmp, is_lt}, specs.Cmp.Lexicographic.{slice_cmp, nat_list_cmp_total}}
use Rattle.std.proofs.lemmas.Fn.{always_returns_same}
use Rattle.ppdb_maps.{proofs.Halving.{parted}, proofs.Named.{same_bytes}, specs.declared.entries.NameLine.{NameLine}}
use Rattle.ppdb_maps.proofs.search.document_at.Goals as goal

pub returns : goal.returns
returns c =
    c.find_by.ensures (λ (x : NameLine). is_lt (slice_cmp nat_cmp x.old c.args.name.now)) (λ (x : NameLine). bytes_eq x.old c.args.name.now)
    (always_returns_same _ _ _ (λ a r f k. search rules)) (always_returns_same _ _ _ (λ a r f k. search rules))
    (parted nat_list_cmp_total (λ (x : NameLine). x.old) c.args.name.now (λ (x : NameLine). is_lt (slice_cmp nat_cmp x.old c.args.name.now))
    (λ (x : NameLine). bytes_eq x.old c.args.name.now) (λ x. refl) (λ x is. same_bytes x.old c.args.name.now is) c.args.documents.now c.requires)
