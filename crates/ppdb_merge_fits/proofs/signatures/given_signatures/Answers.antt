use Rattle.std.proofs.Common.{sym, ◌∙◌, arith}
use Rattle.ppdb_maps.specs.declared.entries.SignatureImage.{SignatureImage}
use Rattle.ppdb_values.specs.Value.{value_of}
use Rattle.ppdb_verify.specs.Views.{raw_file}
use Rattle.ppdb_merge_fits.{specs.Signatures.{given_signature}, proofs.Methods.{none_given}, proofs.NoSlots.{no_seen_line}, proofs.Rows.{given_more, given_all}}
use Rattle.ppdb_merge_fits.proofs.signatures.given_signatures.Goals as goal

pub returns-then-is_none : goal.returns-then-is_none
returns-then-is_none g c =
    c.new-all.ensures.items ∙ sym (none_given c.args.map.now (value_of (raw_file c.args.file.now))
    (no_seen_line (λ (s : SignatureImage). (s.method, s.new)) c.args.map.now.signatures c.signature_line.result c.signature_line.ensures
    c.if-is_none.ensures))

pub rows-preserved : goal.rows-preserved
rows-preserved g c =
    given_more (raw_file c.args.file.now) (given_signature c.args.map.now) c.rows.row c.values_are_rows.ensures
    (omega (arith, c.facts.ensures.rules.shape.methods)) c.rows.all.items _ c.rows.invariant c.in_ok-add_given.ensures

pub returns : goal.returns
returns g c =
    given_all (raw_file c.args.file.now) (given_signature c.args.map.now) c.rows.row c.rows.all.items
    (omega (arith, c.facts.ensures.rules.shape.methods)) c.rows.invariant
