use Rattle.std.{proofs.Common.{rules}, specs.Prelude.{nat_eq, nat_lt}, proofs.lemmas.Fn.{always_returns_same}}
use Rattle.ppdb_maps.{proofs.Halving.{by_number}, specs.declared.entries.SignatureImage.{SignatureImage}}
use Rattle.ppdb_maps.proofs.search.signature_at.Goals as goal

pub returns : goal.returns
returns c = c.find_by.ensures (λ (x : SignatureImage). nat_lt x.method c.args.method) (λ (x : SignatureImage). nat_eq x.method c.args.method)
    (always_returns_same _ _ _ (λ a r f k. search rules)) (always_returns_same _ _ _ (λ a r f k. search rules))
    (by_number (λ (x : SignatureImage). x.method) c.args.method c.args.signatures.now c.requires)
