use Rattle.std.{proofs.Common.{sym, ap, ◌∙◌, ◌+◌, ◌*◌, length}, specs.Fmt.{decimal}}
use Rattle.map_compose.proofs.SlotLines.{slots_long}
use Rattle.map_compose.proofs.slot_blocks.SlotBlock.bytes.Goals as goal

pub returns : goal.returns
returns c = λ slots many digits.
    ap (λ n. n * (8 + c.digits_of.result) + c.args.self.digits) (c.from.ensures ∙ sym many)
    ∙ ap (λ n. length slots * (8 + n) + c.args.self.digits) c.digits_of.ensures.digits
    ∙ ap (λ n. length slots * (8 + length (decimal c.args.method)) + n) (sym digits) ∙ sym (slots_long c.args.method slots)
