use Rattle.std.proofs.Common.{arith, ap, length}
use Rattle.ppdb_tables.specs.RawOf.{raw_of}
use Rattle.ppdb_values.specs.Chains.{chain_of}
use Rattle.ppdb_verify.specs.Views.{tables_of}
use Rattle.ppdb_show.proofs.{Added.{walk_none, walk_next, walk_cut, walk_done, walk_cost, adds_same}, Chains.{IsLink, links_there, lines_of_links, reads_of_links}}
use Rattle.ppdb_show.proofs.Given.{each_first, each_rest, given_next}
use Rattle.ppdb_show.proofs.query.imports.put_imports.Goals as goal
use Rattle.ppdb_queries.proofs.Slots.{none_left}

pub chain-init : goal.chain-init
chain-init g c =
    let raw = raw_of (tables_of c.args.file.now) in
    record {
      each = rw c.imports_of-chain.ensures (links_there raw c.args.import c.facts.ensures.rules.shape.imports);
      walk = walk_none _ _ _ _ _ _ _ c.imports_of-chain.ensures (omega arith);
      later = omega arith;
    }

pub put_import-requires : goal.put_import-requires
put_import-requires g c =
    let raw = raw_of (tables_of c.args.file.now) in
    let e = given_next c.chain.chain c.next.new.self c.in-Some.link c.next.result c.next.ensures.answer c.in-Some.is c.next.ensures.left in
    let h = each_first (IsLink raw) _ _ _ e c.chain.invariant.each in
    record { there = h.0; whole = h.1 }

pub chain-preserved : goal.chain-preserved
chain-preserved g c =
    let raw = raw_of (tables_of c.args.file.now) in
    let e = given_next c.chain.chain c.next.new.self c.in-Some.link c.next.result c.next.ensures.answer c.in-Some.is c.next.ensures.left in
    let len = ap length e in
    record {
      each = each_rest (IsLink raw) _ _ _ e c.chain.invariant.each;
      walk = walk_next _ _ _ _ _ c.in-Some.link _ _ _ _ _ _ c.chain.invariant.walk e c.in_ok-put_import.ensures.ok (omega (arith, len));
      later = omega (arith, len);
    }

pub returns-in_err-put_import-clause-cost : goal.returns-in_err-put_import-clause-cost
returns-in_err-put_import-clause-cost g c =
    let raw = raw_of (tables_of c.args.file.now) in
    let e = given_next c.chain.chain c.next.new.self c.in-Some.link c.next.result c.next.ensures.answer c.in-Some.is c.next.ensures.left in
    let len = ap length e in
    let reads = reads_of_links raw (chain_of (λ scope. scope.parent) raw.imports c.args.import) in
    let h = walk_cut _ _ _ _ _ c.in-Some.link _ _ _ _ c.put_import.new.steps c.chain.invariant.walk e (omega (arith, len)) in
    omega (arith, reads, h)

pub returns-clause-ok : goal.returns-clause-ok
returns-clause-ok g c =
    let raw = raw_of (tables_of c.args.file.now) in
    adds_same c.args.printer.form _ _ _ _ (lines_of_links raw (chain_of (λ scope. scope.parent) raw.imports c.args.import))
    (walk_done _ _ _ _ _ _ _ _ c.chain.invariant.walk (none_left c.chain.chain c.next.result c.next.ensures.answer c.in_default.not-Some))

pub returns-clause-cost : goal.returns-clause-cost
returns-clause-cost g c =
    let raw = raw_of (tables_of c.args.file.now) in
    let none = ap length (none_left c.chain.chain c.next.result c.next.ensures.answer c.in_default.not-Some) in
    let reads = reads_of_links raw (chain_of (λ scope. scope.parent) raw.imports c.args.import) in
    let h = walk_cost _ _ _ _ _ _ _ _ c.chain.invariant.walk in
    omega (arith, none, reads, h)
