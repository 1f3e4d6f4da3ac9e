use Rattle.std.proofs.Common.{◌≡◌, ℕ, arith, ap, sym, ◌∙◌, Bool}
use Rattle.custom_info.specs.declared.slots.Range.{Range}
use Rattle.ppdb_tables.specs.{declared.rows.ScopeRow.{ScopeRow}, RawOf.{raw_of}}
use Rattle.ppdb_values.specs.{Parts.{holds}, Value.{range_of}}
use Rattle.ppdb_verify.specs.Views.{tables_of}
use Rattle.ppdb_queries.proofs.Views.{view_held, view_passed}
use Rattle.ppdb_queries.proofs.scopes.next_scope.Goals as goal

held : (range : Range) (scope : ScopeRow) (x : ℕ) (b c : Bool) → range ≡ range_of scope → b ≡ holds range x → b ≡ c → holds (range_of scope) x ≡ c
held range scope x b c e f g = ap (λ (r : Range). holds r x) (sym e) ∙ sym f ∙ g

pub returns-then-holds-clause-next : goal.returns-then-holds-clause-next
returns-then-holds-clause-next g c =
    let raw = raw_of (tables_of c.args.file.now) in
    let e = view_held raw c.args.offset c.rows.row c.args.end c.scope-scope.result c.scope-scope.ensures.row c.rows-test.true
    (held c.range_of.result c.scope-scope.result c.args.offset c.holds.result _ c.range_of.ensures c.holds.ensures c.if-holds.true) in
    (rw c.view.ensures.view (c.rows.invariant.same ∙ e), omega arith, omega arith)

pub rows-preserved : goal.rows-preserved
rows-preserved g c =
    let raw = raw_of (tables_of c.args.file.now) in
    record {
      from = omega arith;
      to = omega arith;
      same = c.rows.invariant.same ∙ view_passed raw c.args.offset c.rows.row c.args.end c.scope-scope.result c.scope-scope.ensures.row c.rows-test.true
          (held c.range_of.result c.scope-scope.result c.args.offset c.holds.result _ c.range_of.ensures c.holds.ensures c.if-holds.false);
      later = omega arith;
      cost = omega arith;
    }
