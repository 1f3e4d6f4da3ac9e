use Rattle.std.proofs.Common.{◌≡◌, ◌≤◌, ◌+◌, arith, sym, ◌∙◌, length}
use Rattle.ppdb_show_lines.proofs.Putting.{put_none, put_piece, put_prefix, put_whole}
use Rattle.ppdb_verify.specs.Views.{raw_file}
use Rattle.ppdb_values.specs.Owners.{list_end}
use Rattle.ppdb_show.{specs.ShowWalk.{list_by, items_of, lines_of_item}, proofs.Lines.{last_row}, proofs.Numbered.{items_between, split_lines}}
use Rattle.ppdb_show.proofs.ScopeLists.{keeps_lists, begins_first, begins_last, ends_after, ends_within, ends_where_next_begins, owns_between}
use Rattle.ppdb_show.proofs.show.owned.put_owned.Goals as goal

pub lists-init : goal.lists-init
lists-init g c =
    let raw = (raw_file c.args.file.now).tables in
    record {
      from = omega arith;
      to = omega arith;
      first = omega arith;
      begins = sym (begins_first (list_by c.args.owned) raw.scopes (items_of raw c.args.owned)
          (keeps_lists (raw_file c.args.file.now) c.args.owned c.facts.ensures.rules));
      put = rw (items_between raw c.args.owned) (put_none (g.O.Sink.written c.args.out.now) _ _);
    }

pub put_items-requires-clause-forward : goal.put_items-requires-clause-forward
put_items-requires-clause-forward g c =
    let raw = (raw_file c.args.file.now).tables in
    let many : length raw.scopes ≡ c.rows-scopes.result =
    c.facts.ensures.rules.shape.scopes ∙ sym (rw c.tables-tables.ensures.tables at c.rows-scopes.ensures) in
    let within = c.lists-test.true in
    rw (c.lists.invariant.begins, rw c.tables-tables.ensures.tables at c.end_of_list-end.ensures)
    (ends_after (list_by c.args.owned) raw.scopes (items_of raw c.args.owned) c.lists.scope
    (keeps_lists (raw_file c.args.file.now) c.args.owned c.facts.ensures.rules) c.lists.invariant.from (omega (arith, many)))

pub put_items-requires-clause-last : goal.put_items-requires-clause-last
put_items-requires-clause-last g c =
    let raw = (raw_file c.args.file.now).tables in
    rw (rw c.tables-tables.ensures.tables at c.end_of_list-end.ensures)
    (ends_within (list_by c.args.owned) raw.scopes (items_of raw c.args.owned) c.lists.scope
    (keeps_lists (raw_file c.args.file.now) c.args.owned c.facts.ensures.rules))

pub put_items-requires-clause-owner : goal.put_items-requires-clause-owner
put_items-requires-clause-owner g c item from to =
    let raw = (raw_file c.args.file.now).tables in
    let many : length raw.scopes ≡ c.rows-scopes.result =
    c.facts.ensures.rules.shape.scopes ∙ sym (rw c.tables-tables.ensures.tables at c.rows-scopes.ensures) in
    owns_between (list_by c.args.owned) raw.scopes (items_of raw c.args.owned) c.lists.scope item
    (keeps_lists (raw_file c.args.file.now) c.args.owned c.facts.ensures.rules) c.lists.invariant.from (omega (arith, many))
    (rw c.lists.invariant.begins at from) (rw (rw c.tables-tables.ensures.tables at c.end_of_list-end.ensures) at to)

pub returns-in_err-put_items : goal.returns-in_err-put_items
returns-in_err-put_items g c =
    let raw = (raw_file c.args.file.now).tables in
    let keeps = keeps_lists (raw_file c.args.file.now) c.args.owned c.facts.ensures.rules in
    let many : length raw.scopes ≡ c.rows-scopes.result =
    c.facts.ensures.rules.shape.scopes ∙ sym (rw c.tables-tables.ensures.tables at c.rows-scopes.ensures) in
    let end_is : c.end_of_list-end.result ≡ list_end (list_by c.args.owned) raw.scopes c.lists.scope (items_of raw c.args.owned) =
    rw c.tables-tables.ensures.tables at c.end_of_list-end.ensures in
    let forward : c.lists.item ≤ c.end_of_list-end.result =
    rw (c.lists.invariant.begins, end_is) (ends_after (list_by c.args.owned) raw.scopes (items_of raw c.args.owned) c.lists.scope keeps c.lists.invariant.from
    (omega (arith, many))) in
    let last : c.end_of_list-end.result ≤ items_of raw c.args.owned + 1 =
    rw end_is (ends_within (list_by c.args.owned) raw.scopes (items_of raw c.args.owned) c.lists.scope keeps) in
    let split =
    split_lines c.args.printer.form (lines_of_item raw c.args.owned) c.lists.item c.end_of_list-end.result (items_of raw c.args.owned + 1) forward last in
    put_prefix _ _ _ _ _ _ _ _ _ _ _ (rw split at c.lists.invariant.put) c.from_residual.ensures.1 c.in_err-put_items.ensures

pub lists-preserved : goal.lists-preserved
lists-preserved g c =
    let raw = (raw_file c.args.file.now).tables in
    let keeps = keeps_lists (raw_file c.args.file.now) c.args.owned c.facts.ensures.rules in
    let many : length raw.scopes ≡ c.rows-scopes.result =
    c.facts.ensures.rules.shape.scopes ∙ sym (rw c.tables-tables.ensures.tables at c.rows-scopes.ensures) in
    let end_is : c.end_of_list-end.result ≡ list_end (list_by c.args.owned) raw.scopes c.lists.scope (items_of raw c.args.owned) =
    rw c.tables-tables.ensures.tables at c.end_of_list-end.ensures in
    let forward : c.lists.item ≤ c.end_of_list-end.result =
    rw (c.lists.invariant.begins, end_is) (ends_after (list_by c.args.owned) raw.scopes (items_of raw c.args.owned) c.lists.scope keeps c.lists.invariant.from
    (omega (arith, many))) in
    let last : c.end_of_list-end.result ≤ items_of raw c.args.owned + 1 =
    rw end_is (ends_within (list_by c.args.owned) raw.scopes (items_of raw c.args.owned) c.lists.scope keeps) in
    let split =
    split_lines c.args.printer.form (lines_of_item raw c.args.owned) c.lists.item c.end_of_list-end.result (items_of raw c.args.owned + 1) forward last in
    record {
      from = omega arith;
      to = omega arith;
      first = omega (arith, forward);
      begins = end_is ∙ ends_where_next_begins (list_by c.args.owned) raw.scopes (items_of raw c.args.owned) c.lists.scope;
      put = put_piece _ _ _ _ _ _ _ _ _ (rw split at c.lists.invariant.put) c.in_ok-put_items.ensures;
    }

pub returns : goal.returns
returns g c =
    let raw = (raw_file c.args.file.now).tables in
    let many : length raw.scopes ≡ c.rows-scopes.result =
    c.facts.ensures.rules.shape.scopes ∙ sym (rw c.tables-tables.ensures.tables at c.rows-scopes.ensures) in
    let end = c.lists.invariant.begins ∙ begins_last (list_by c.args.owned) raw.scopes (items_of raw c.args.owned) c.lists.scope (omega (arith, many)) in
    put_whole _ _ _ _ _ (rw (last_row c.args.printer.form (lines_of_item raw c.args.owned) c.lists.item (items_of raw c.args.owned + 1) (omega (arith, end))) at
    c.lists.invariant.put)
