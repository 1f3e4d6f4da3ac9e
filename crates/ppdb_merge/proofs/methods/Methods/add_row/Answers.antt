use Rattle.std.proofs.{Common.{sym, ◌∙◌}, lemmas.Bool.{eq-eqb}}
use Rattle.ppdb_merge.proofs.Taken.{kept_method, added_method}
use Rattle.ppdb_merge.proofs.methods.Methods.add_row.Goals as goal

pub returns-then-contains_key : goal.returns-then-contains_key
returns-then-contains_key c = λ claimed holds.
    kept_method claimed c.args.self.now c.args.input c.args.imaged.now (eq-eqb c.args.imaged.now.to 0x06 c.if-imaged-ne-METHOD_DEF.false)
    (sym c.contains_key.ensures ∙ c.if-contains_key.true) holds

pub returns : goal.returns
returns c = λ claimed holds.
    added_method claimed c.args.self.now (record { by_image = c.insert.new.self }) c.args.input c.args.imaged.now
    (eq-eqb c.args.imaged.now.to 0x06 c.if-imaged-ne-METHOD_DEF.false)
    (sym c.contains_key.ensures ∙ c.if-contains_key.false) c.in_ok-insert.ensures.updates.0 holds
