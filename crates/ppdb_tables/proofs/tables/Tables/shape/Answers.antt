use Rattle.std.proofs.{Common.{◌∙◌}, lemmas.List.FromFn.{length-map-range_with_len}}
use Rattle.ppdb_tables.proofs.tables.Tables.shape.Goals as goal

pub returns : goal.returns
returns c =
    let tables = c.args.self.now in
    record {
      entries = tables.entries;
      small = tables.small;
      texts = tables.short_heaps.0;
      guids = tables.short_heaps.1;
      blobs = tables.short_heaps.2;
      documents = length-map-range_with_len _ 0 tables.documents.count ∙ tables.document_count;
      methods = length-map-range_with_len _ 0 tables.methods.count ∙ tables.method_count;
      scopes = length-map-range_with_len _ 0 tables.scopes.count ∙ tables.scope_count;
      variables = length-map-range_with_len _ 0 tables.variables.count ∙ tables.variable_count;
      constants = length-map-range_with_len _ 0 tables.constants.count ∙ tables.constant_count;
      imports = length-map-range_with_len _ 0 tables.imports.count ∙ tables.import_count;
      machines = length-map-range_with_len _ 0 tables.machines.count ∙ tables.machine_count;
      customs = length-map-range_with_len _ 0 tables.customs.count ∙ tables.custom_count;
    }
