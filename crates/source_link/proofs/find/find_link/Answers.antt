use Rattle.std.proofs.Common.{◌≡◌, ◌-◌, ◌∙◌, ap, length, map, sym, arith}
use Rattle.ppdb_tables.specs.declared.rows.CustomRow.{CustomRow}
use Rattle.ppdb_verify.specs.Views.{raw_file}
use Rattle.ppdb_queries.{specs.Runs.{customs_at}, proofs.Filters.{forward}, proofs.Views.{rows_many}}
use Rattle.source_link.proofs.Records.{no_module, link_all}
use Rattle.source_link.proofs.find.find_link.Goals as goal

pub returns-then-count-eq0-clause-record : goal.returns-then-count-eq0-clause-record
returns-then-count-eq0-clause-record g c = sym (no_module (raw_file c.args.file.now) c.facts.ensures.rules.customs
    (sym c.count.ensures.rows ∙ c.if-count-eq0.true))

pub link_between-requires-clause-forward : goal.link_between-requires-clause-forward
link_between-requires-clause-forward g c =
    let run = c.customs_of-run.ensures.run in
    forward (map (λ (custom : CustomRow). custom.parent) (raw_file c.args.file.now).tables.customs) _ c.customs_of-run.result.first
    c.customs_of-run.result.end run.first run.end

pub returns-clause-record : goal.returns-clause-record
returns-clause-record g c = c.link_between.ensures.record ∙ link_all (raw_file c.args.file.now) c.customs_of-run.result c.customs_of-run.ensures.all

pub returns-clause-cost : goal.returns-clause-cost
returns-clause-cost g c =
    let raw = (raw_file c.args.file.now).tables in
    let many : c.customs_of-run.result.end - c.customs_of-run.result.first ≡ length (customs_at raw 0x00 1) =
    rows_many (λ (custom : CustomRow). custom.parent) _ raw.customs c.customs_of-run.result c.customs_of-run.ensures.run
    ∙ ap length c.customs_of-run.ensures.all in
    let run = c.customs_of-run.ensures.cost in let walk = c.link_between.ensures.cost in
    omega (arith, many, run, walk)
