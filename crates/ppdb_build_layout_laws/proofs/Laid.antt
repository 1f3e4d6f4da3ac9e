-- A file that is laid out is read as it was.
use Rattle.std.{proofs.Common.{◌≡◌, ℕ, ◌<◌, ◌≤◌, List, length, refl, sym, ap, subst, ◌∙◌, zero-add}, specs.Prelude.{slice_index}}
use Rattle.std.proofs.lemmas.List.FromFn.{get_or-map-range_with_len}
use Rattle.ppdb_base.specs.First.{IsAccepted}
use Rattle.metadata_root.specs.{declared.kind.StreamKind.TheVariants.{Pdb, Tables, Strings, UserStrings, Guids, Blobs}, Streams.{AreStreamsOf, ContainerFaults}}
use Rattle.row_layout.specs.declared.column.Sizes.{Sizes}
use Rattle.ppdb_tables.specs.declared.{head.PdbHead.{PdbHead}, rows.DocumentRow.{DocumentRow}, rows.MethodDebugRow.{MethodDebugRow}, rows.ScopeRow.{ScopeRow}}
use Rattle.ppdb_tables.specs.declared.rows.{VariableRow.{VariableRow}, ConstantRow.{ConstantRow}, ImportRow.{ImportRow}, MachineRow.{MachineRow}}
use Rattle.ppdb_tables.specs.{declared.rows.CustomRow.{CustomRow}, Head.{head_in, pdb_rows}, Layouts.{document_row, document_columns, method_row, method_columns}}
use Rattle.ppdb_tables.specs.Layouts.{scope_row, scope_columns, variable_row, variable_columns, constant_row, constant_columns, import_row, import_columns}
use Rattle.ppdb_tables.specs.{Layouts.{machine_row, machine_columns, custom_row, custom_columns}, RawTables.{RawTables}, Tables.{rows_at, tables_in}}
use Rattle.ppdb_values.specs.RawFile.{RawFile}
use Rattle.ppdb_build_layout.specs.{declared.rows.Rows.{Rows}, declared.rows.HeapLens.{HeapLens}, Bytes.{file_bytes, prefix_bytes, pdb_stream, tables_stream}}
use Rattle.ppdb_build_layout.specs.{Bytes.{rows_of, heaps_of}, Laid.{CanBeLaidOut, IsReadBack, LaidOutFilesAreRead, laid_streams}}
use Rattle.ppdb_build_layout_laws.proofs.{Container.{whole, pdb_is, tables_are, texts_are, guids_are, blobs_are}, Counts.{among}, Head.{head_good, id_back}}
use Rattle.ppdb_build_layout_laws.proofs.{Head.{entry_back, pdb_rows_back}, Rules.{container_good, unlisted}, Tables.{AreCounted, sizes_back, tables_good}}
use Rattle.ppdb_build_layout_laws.proofs.TablesBack.{documents-are, methods-are, scopes-are, variables-are, constants-are, imports-are, machines-are, customs-are}

-- tables whose rows are the same are the same
same_tables : (counts texts guids blobs : List ℕ) (d0 d1 : List DocumentRow) (m0 m1 : List MethodDebugRow) (s0 s1 : List ScopeRow)
    (v0 v1 : List VariableRow) (c0 c1 : List ConstantRow)
    (i0 i1 : List ImportRow) (k0 k1 : List MachineRow) (u0 u1 : List CustomRow)
    → d0 ≡ d1 → m0 ≡ m1 → s0 ≡ s1 → v0 ≡ v1 → c0 ≡ c1 → i0 ≡ i1 → k0 ≡ k1 → u0 ≡ u1
    → ◌≡◌ {A = RawTables} (record {
      counts = counts;
      texts = texts;
      guids = guids;
      blobs = blobs;
      documents = d0;
      methods = m0;
      scopes = s0;
      variables = v0;
      constants = c0;
      imports = i0;
      machines = k0;
      customs = u0;
    })
    (record {
      counts = counts;
      texts = texts;
      guids = guids;
      blobs = blobs;
      documents = d1;
      methods = m1;
      scopes = s1;
      variables = v1;
      constants = c1;
      imports = i1;
      machines = k1;
      customs = u1;
    })
same_tables counts texts guids blobs d0 d1 m0 m1 s0 s1 v0 v1 c0 c1 i0 i1 k0 k1 u0 u1 ed em es ev ec ei ek eu = rw (ed, em, es, ev, ec, ei, ek, eu) refl

module _ (raw : RawFile) (can : CanBeLaidOut raw) where
  abbrev counts : List ℕ
  counts = raw.tables.counts

  abbrev all : Rows
  all = rows_of raw.tables

  abbrev heaps : HeapLens
  heaps = heaps_of raw.tables

  abbrev pdb : List ℕ
  pdb = pdb_stream raw.id raw.entry counts

  abbrev tables : List ℕ
  tables = tables_stream counts all heaps

  abbrev laid : List ℕ
  laid = whole pdb tables raw.tables.texts raw.tables.guids raw.tables.blobs

  same_bytes : file_bytes raw ≡ laid
  unfolding file_bytes prefix_bytes whole
  same_bytes = refl

  small : length laid ≤ 134217728
  small = subst (λ f. length f ≤ 134217728) same_bytes can.size

  few : (t : ℕ) → slice_index counts t ≤ 16777215
  few t = can.shape.small t

  lens : AreCounted counts all
  lens = record {
    documents = can.shape.documents;
    methods = can.shape.methods;
    scopes = can.shape.scopes;
    variables = can.shape.variables;
    constants = can.shape.constants;
    imports = can.shape.imports;
    machines = can.shape.machines;
    customs = can.shape.customs;
  }

  abbrev head : PdbHead
  head = head_in pdb

  heads : (t : ℕ) → t < 64 → slice_index head.rows t ≡ among counts 0 0x2d t
  heads t h = get_or-map-range_with_len (pdb_rows pdb) 0 64 t t 0 h (zero-add t) ∙ pdb_rows_back raw.id raw.entry counts can.id few can.entry t h

  streams : AreStreamsOf laid (laid_streams raw)
  streams Pdb = pdb_is pdb tables raw.tables.texts raw.tables.guids raw.tables.blobs small
  streams Tables = tables_are pdb tables raw.tables.texts raw.tables.guids raw.tables.blobs small
  streams Strings = texts_are pdb tables raw.tables.texts raw.tables.guids raw.tables.blobs small
  streams UserStrings = unlisted pdb tables raw.tables.texts raw.tables.guids raw.tables.blobs small
  streams Guids = guids_are pdb tables raw.tables.texts raw.tables.guids raw.tables.blobs small
  streams Blobs = blobs_are pdb tables raw.tables.texts raw.tables.guids raw.tables.blobs small

  -- the tables, where the sizes are those that are read
  abbrev tables_by : Sizes → RawTables
  tables_by sizes = record {
    counts = sizes.rows;
    texts = raw.tables.texts;
    guids = raw.tables.guids;
    blobs = raw.tables.blobs;
    documents = rows_at document_row sizes tables 0x30 document_columns;
    methods = rows_at method_row sizes tables 0x31 method_columns;
    scopes = rows_at scope_row sizes tables 0x32 scope_columns;
    variables = rows_at variable_row sizes tables 0x33 variable_columns;
    constants = rows_at constant_row sizes tables 0x34 constant_columns;
    imports = rows_at import_row sizes tables 0x35 import_columns;
    machines = rows_at machine_row sizes tables 0x36 machine_columns;
    customs = rows_at custom_row sizes tables 0x37 custom_columns;
  }

  tables_back : tables_in (laid_streams raw) head ≡ raw.tables
  tables_back =
      ap tables_by (sizes_back counts all heaps few head heads can.shape.entries can.between can.above)
      ∙ same_tables counts raw.tables.texts raw.tables.guids raw.tables.blobs _ _ _ _ _ _ _ _ _ _ _ _ _ _ _ _
      (documents-are counts all heaps few lens can.cells) (methods-are counts all heaps few lens can.cells) (scopes-are counts all heaps few lens can.cells)
      (variables-are counts all heaps few lens can.cells) (constants-are counts all heaps few lens can.cells) (imports-are counts all heaps few lens can.cells)
      (machines-are counts all heaps few lens can.cells) (customs-are counts all heaps few lens can.cells)

  pub read_back : IsReadBack raw
  read_back = record {
    container = subst (λ f. IsAccepted (ContainerFaults f)) (sym same_bytes) (container_good pdb tables raw.tables.texts raw.tables.guids raw.tables.blobs small);
    streams = subst (λ f. AreStreamsOf f (laid_streams raw)) (sym same_bytes) streams;
    head = head_good raw.id raw.entry counts can.id few can.entry;
    tables = tables_good counts all heaps few head heads can.shape.entries can.between can.above can.methods lens;
    raw_is =
        ap (λ id. record { id = id; entry = head.entry; tables = tables_in (laid_streams raw) head }) (id_back raw.id raw.entry counts can.id few can.entry)
        ∙ ap (λ entry. record { id = raw.id; entry = entry; tables = tables_in (laid_streams raw) head })
        (entry_back raw.id raw.entry counts can.id few can.entry)
        ∙ ap (λ tables. record { id = raw.id; entry = raw.entry; tables = tables }) tables_back;
  }

pub all-read : LaidOutFilesAreRead
all-read = read_back
