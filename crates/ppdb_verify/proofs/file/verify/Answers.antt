use Rattle.std.{proofs.Common.{◌≡◌, ◌≢◌, ◌≤◌, sym, subst, ap, ◌∙◌}, specs.Prelude.{slice_index}}
use Rattle.ppdb_base.specs.First.{IsFirst}
use Rattle.metadata_root.specs.{declared.kind.StreamKind.TheVariants.{Pdb}, Streams.{bytes_of}}
use Rattle.ppdb_tables.specs.{RawTables.{RawTables, count}, RawOf.{raw_of}}
use Rattle.ppdb_values.specs.RawFile.{raw_in}
use Rattle.ppdb_verify.{specs.Files.{FileFaults, RowsFaults}, proofs.Counted.{methods_fit}, proofs.Families.{fault_is}, proofs.Headed.{entry_within, rows_are}}
use Rattle.ppdb_verify.proofs.Parts.{all_accepted, head_first, rows_first, same_tables, tables_first}
use Rattle.ppdb_verify.proofs.file.verify.Goals as goal

pub returns-in-Err-read_head-clause-first : goal.returns-in-Err-read_head-clause-first
returns-in-Err-read_head-clause-first g c =
    head_first c.args.bytes.now c.in-Ok.root c.in-Ok.ensures.accepted c.in-Ok.ensures.streams c.in-Err-read_head.fault c.in-Err-read_head.ensures.first

pub returns-in-Err-read_tables-clause-first : goal.returns-in-Err-read_tables-clause-first
returns-in-Err-read_tables-clause-first g c =
    tables_first c.args.bytes.now c.in-Ok.root c.in-Ok.ensures.accepted c.in-Ok.ensures.streams c.in-Ok-read_head.head c.in-Ok-read_head.ensures.accepted
    c.in-Ok-read_head.ensures.head
    c.in-Err-read_tables.fault c.in-Err-read_tables.ensures.first

pub invariant_of-result : goal.invariant_of-result
invariant_of-result g c =
    let pdb = bytes_of c.in-Ok.root Pdb in
    let is = c.in-Ok-read_head.ensures.head in
    let raw_is = c.in-Ok-read_tables.ensures.tables in
    record {
      accepted = c.in-Ok-judge_all.ensures.accepted;
      entry = subst (λ (r : RawTables). c.in-Ok-read_head.head.entry ≤ count r 0x06) (sym raw_is)
          (entry_within pdb c.in-Ok-read_head.head is c.in-Ok.root c.in-Ok-read_head.ensures.accepted);
      methods = subst (λ (r : RawTables). count r 0x31 ≢ 0 → count r 0x31 ≡ count r 0x06) (sym raw_is)
          (methods_fit c.in-Ok.root c.in-Ok-read_head.head c.in-Ok-read_tables.ensures.accepted);
      rows = λ table lt. subst (λ (r : RawTables). slice_index c.in-Ok-read_head.head.rows table ≡ count r table) (sym raw_is)
          (rows_are pdb c.in-Ok-read_head.head is c.in-Ok.root table lt);
    }

pub returns-in-Ok-judge_all-clause-accepted : goal.returns-in-Ok-judge_all-clause-accepted
returns-in-Ok-judge_all-clause-accepted g c =
    all_accepted c.args.bytes.now c.in-Ok.root c.in-Ok.ensures.accepted c.in-Ok.ensures.streams c.in-Ok-read_head.head c.in-Ok-read_head.ensures.accepted
    c.in-Ok-read_head.ensures.head
    (raw_of c.in-Ok-read_tables.tables) c.in-Ok-read_tables.ensures.accepted c.in-Ok-read_tables.ensures.tables c.in-Ok-judge_all.ensures.accepted

pub returns-in-Ok-judge_all-clause-file : goal.returns-in-Ok-judge_all-clause-file
returns-in-Ok-judge_all-clause-file g c =
    let is = c.in-Ok-read_head.ensures.head in
    let same =
    same_tables c.args.bytes.now c.in-Ok.root c.in-Ok.ensures.accepted c.in-Ok.ensures.streams c.in-Ok-read_head.head c.in-Ok-read_head.ensures.accepted is
    (raw_of c.in-Ok-read_tables.tables) c.in-Ok-read_tables.ensures.accepted c.in-Ok-read_tables.ensures.tables in
    record {
      streams = c.in-Ok.root;
      are = c.in-Ok.ensures.streams;
      raw_is = ap (λ x. record { id = x; entry = c.in-Ok-read_head.head.entry; tables = raw_of c.in-Ok-read_tables.tables }) is.id
          ∙ (ap (λ x. record { id = (raw_in c.in-Ok.root).id; entry = x; tables = raw_of c.in-Ok-read_tables.tables }) is.entry
          ∙ ap (λ x. record { id = (raw_in c.in-Ok.root).id; entry = (raw_in c.in-Ok.root).entry; tables = x }) same);
    }

pub returns-in-Err-judge_all-clause-first : goal.returns-in-Err-judge_all-clause-first
returns-in-Err-judge_all-clause-first g c =
    fault_is (IsFirst (RowsFaults (raw_of c.in-Ok-read_tables.tables))) (IsFirst (FileFaults c.args.bytes.now))
    (λ f first. rows_first c.args.bytes.now c.in-Ok.root c.in-Ok.ensures.accepted c.in-Ok.ensures.streams c.in-Ok-read_head.head
    c.in-Ok-read_head.ensures.accepted c.in-Ok-read_head.ensures.head
    (raw_of c.in-Ok-read_tables.tables) c.in-Ok-read_tables.ensures.accepted c.in-Ok-read_tables.ensures.tables f first)
    c.in-Err-judge_all.error c.in-Err-judge_all.ensures.first
