use Rattle.std.proofs.Common.{sym, ◌∙◌, [], ◌∷◌}
use Rattle.ppdb_maps.specs.declared.line.Line.TheVariants.{Dropped}
use Rattle.map_compose.proofs.Putting.{said_true, said_false, says_one, ok_then}
use Rattle.map_compose.proofs.methods.put_drop.Goals as goal

pub returns-then-drops : goal.returns-then-drops
returns-then-drops c = ok_then c.put_drop.result
    (λ h. said_true c.args.text.now c.put_drop.new.self _ (Dropped c.args.method ∷ []) (sym c.drops.ensures ∙ c.if-drops.true)
    (says_one c.args.text.now c.put_drop.new.self (Dropped c.args.method) h)) c.put_drop.ensures

pub returns-else-drops : goal.returns-else-drops
returns-else-drops c = said_false c.args.text.now _ (Dropped c.args.method ∷ []) (sym c.drops.ensures ∙ c.if-drops.false)
