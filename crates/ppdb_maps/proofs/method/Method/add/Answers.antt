use Rattle.std.proofs.{Common.{List, ◌<◌, inl, inr, subst, sym, ◌∙◌, arith}, lemmas.Bool.{false≢true}}
use Rattle.ppdb_base.specs.{declared.offsets.Run.{Run}, Offsets.{end_of, new_end_of}}
use Rattle.ppdb_maps.{specs.Rules.{BeginsEarly}, proofs.Rising.{rise_with, not_less}}
use Rattle.ppdb_maps.proofs.method.Method.add.Goals as goal

pub invariant_of-self-2 : goal.invariant_of-self-2
invariant_of-self-2 c =
    let within : (c.self.inside.old_size < end_of c.args.run → ⊥) × (c.self.inside.new_size < new_end_of c.args.run → ⊥) = (
      (λ h. false≢true (sym c.if-ends_beyond.false ∙ c.ends_beyond.ensures.1 (inl h))),
      (λ h. false≢true (sym c.if-ends_beyond.false ∙ c.ends_beyond.ensures.1 (inr h))),
    ) in
    rw c.in_ok-push.ensures.ok
    (rise_with 0 0 c.self.inside.runs c.args.run (record { old = c.self.inside.old_size; new = c.self.inside.new_size; length = 1 }) c.requires
    (not_less _ _ within.0) (not_less _ _ within.1)
    (λ e. false≢true (sym c.if-begins_early.false ∙ c.begins_early.ensures.1 (subst (λ (r : List Run). BeginsEarly c.args.run r) (sym c.as_slice.ensures) e)))
    (λ _. (omega arith, omega arith)) c.self.invariant)
