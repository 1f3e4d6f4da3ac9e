use Rattle.std.proofs.Common.{◌<◌, ◌≤◌, ◌+◌, subst, arith}
use Rattle.ppdb_tables.{specs.declared.rows.ScopeRow.{ScopeRow}, specs.RawOf.{raw_of}, proofs.NumberedRows.{same_row, row_within}}
use Rattle.ppdb_verify_rules.{specs.Lists.{list_of}, proofs.ListOwners.{before_begun, owner_found}}
use Rattle.ppdb_verify_rules.proofs.owners.owner_of.Goals as goal

pub loop-owner-init : goal.loop-owner-init
loop-owner-init g c =
    let b = before_begun (list_of c.args.list) (raw_of c.args.tables.now).scopes c.args.row c.args.before c.requires.before in
    record { on = omega arith; within = b.0; begun = b.1 }

pub loop-owner-preserved : goal.loop-owner-preserved
loop-owner-preserved g c = record {
  on = let h : c.args.before ≤ c.loop-owner.owner = c.loop-owner.invariant.on in omega (arith, h);
  within = omega (arith, c.row_count-scopes.ensures.all.scopes, c.row_count-scopes.ensures.count, c.loop-owner-test.true);
  begun = λ s there. subst (λ (x : ScopeRow). list_of c.args.list x ≤ c.args.row)
      (same_row (raw_of c.args.tables.now).scopes (c.loop-owner.owner + 1) c.scope-next.result s c.scope-next.ensures.row there)
      (let h : list_of c.args.list c.scope-next.result ≤ c.args.row = rw c.of.ensures at c.if-row-of.false in h);
}

pub returns-after-loop-owner-clause-owns : goal.returns-after-loop-owner-clause-owns
returns-after-loop-owner-clause-owns g c = owner_found (raw_of c.args.tables.now) c.args.list c.requires.lists c.args.row c.loop-owner.owner
    (omega (arith, c.row_count-scopes.ensures.all.scopes, c.requires.some)) c.requires.first
    c.loop-owner.invariant.within c.loop-owner.invariant.begun
    (λ s there. let w = row_within (raw_of c.args.tables.now).scopes (c.loop-owner.owner + 1) s there in
    absurd (omega (arith, w.1, c.row_count-scopes.ensures.count, c.row_count-scopes.ensures.all.scopes)))

pub returns-then-row-of-clause-owns : goal.returns-then-row-of-clause-owns
returns-then-row-of-clause-owns g c = owner_found (raw_of c.args.tables.now) c.args.list c.requires.lists c.args.row c.loop-owner.owner
    (omega (arith, c.row_count-scopes.ensures.all.scopes, c.requires.some)) c.requires.first
    c.loop-owner.invariant.within c.loop-owner.invariant.begun
    (λ s there. subst (λ (x : ScopeRow). c.args.row < list_of c.args.list x)
    (same_row (raw_of c.args.tables.now).scopes (c.loop-owner.owner + 1) c.scope-next.result s c.scope-next.ensures.row there)
    (rw c.of.ensures at c.if-row-of.true))
