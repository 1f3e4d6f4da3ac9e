use Rattle.std.{proofs.Common.{◌≡◌, ◌++◌}, specs.Option.{option_map}}
use Rattle.serde_json.specs.View.{members_view}
use Rattle.source_link.specs.Record.{pairs_in}
use Rattle.source_link.proofs.record.pairs_in.Given as goal

abbrev pub invariant-loop-key : goal.invariant-loop-key
invariant-loop-key l =
    (goal.iterator-loop-key).can_next l.key-iterator ×
    (goal.iterator-loop-key).is_finite l.key-iterator ×
    (option_map (λ more. l.pairs ++ more) (pairs_in (members_view l.key-iterator)) ≡ pairs_in (members_view l.fn.documents.entries))
