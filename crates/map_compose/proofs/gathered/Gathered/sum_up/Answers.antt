use Rattle.map_compose.proofs.{Lined.{few_joined}, Putting.{ok_then}}
use Rattle.map_compose.proofs.gathered.Gathered.sum_up.Goals as goal

pub sum_up-requires : goal.sum_up-requires
sum_up-requires c = record { few = few_joined c.args.self.now.runs c.args.map.now c.facts.ensures c.requires.runs }

pub returns-in-Slots : goal.returns-in-Slots
returns-in-Slots c = ok_then c.count.result (λ h. record { runs = c.requires.runs; slots = h }) c.count.ensures

pub returns-in-Methods : goal.returns-in-Methods
returns-in-Methods c = ok_then c.sum_up.result (λ h. record { runs = h c.args.map.now c.requires.runs; slots = c.requires.slots }) c.sum_up.ensures
