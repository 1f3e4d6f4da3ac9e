use Rattle.std.{proofs.Common.{◌≡◌, ◌-◌, ◌++◌, ◌∙◌, ap, arith, sym, length, ◌≤◌}, specs.List.{filter_map}, specs.Option.{option_to_list}}
use Rattle.std.proofs.lemmas.List.{append-nil, length-map, take_all}
use Rattle.ppdb_values.specs.{Customs.{custom_of}, Value.{value_of}, declared.custom.CustomValue.{CustomValue}}
use Rattle.ppdb_verify.specs.Views.{raw_file}
use Rattle.ppdb_merge.{specs.Rows.{link_after}, proofs.RowWalks.{given_row, said}}
use Rattle.ppdb_merge.proofs.row_links.add_links.Goals as goal
use Rattle.ppdb_tables.proofs.NumberedRows.{row_there}

pub rows-init : goal.rows-init
rows-init g c = record {
  from = omega arith;
  to = omega arith;
  made = sym (append-nil c.args.links.now);
}

pub rows-preserved : goal.rows-preserved
rows-preserved g c =
    let raw = raw_file c.args.input.now.file in
    let m = c.args.input.now.map in
    let many = length-map raw.tables.customs (custom_of raw.tables) in
    let low : 1 ≤ c.rows.row = c.rows.invariant.from in
    let high : c.rows.row ≤ length (value_of raw).customs = omega (arith, many, c.facts.ensures.rules.shape.customs) in
    let at = row_there (value_of raw).customs c.rows.row low high in
    record {
      from = omega arith;
      to = omega arith;
      made = given_row (link_after m) c.args.links.now c.rows.links c.add_link.new.links (value_of raw).customs c.rows.row at.0 at.1 c.rows.invariant.made
          (said (λ (custom : CustomValue). c.add_link.new.links ≡ c.rows.links ++ option_to_list (link_after m custom)) (value_of raw).customs c.rows.row at.0
          c.in_ok-add_link.ensures at.1);
    }

pub returns : goal.returns
returns g c =
    let raw = raw_file c.args.input.now.file in
    let many = length-map raw.tables.customs (custom_of raw.tables) in
    c.rows.invariant.made
    ∙ ap (λ l. c.args.links.now ++ filter_map (link_after c.args.input.now.map) l)
    (take_all (c.rows.row - 1) (value_of raw).customs (omega (arith, many, c.facts.ensures.rules.shape.customs)))
