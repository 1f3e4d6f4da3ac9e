-- The keys of members in JSON.
use Rattle.std.specs.Prelude.{ℕ, List, codes}
use Rattle.ppdb_show_lines.specs.declared.key.Key.{Key}
use Rattle.ppdb_show_lines.specs.declared.key.Key.TheVariants as keys

abbrev pub key_text : Key → List ℕ
key_text keys.Attributes = codes "attributes"
key_text keys.Document = codes "document"
key_text keys.End = codes "end"
key_text keys.EndColumn = codes "end_column"
key_text keys.EndLine = codes "end_line"
key_text keys.Import = codes "import"
key_text keys.Kind = codes "kind"
key_text keys.Method = codes "method"
key_text keys.Name = codes "name"
key_text keys.Offset = codes "offset"
key_text keys.ParentRow = codes "parent_row"
key_text keys.ParentTable = codes "parent_table"
key_text keys.Row = codes "row"
key_text keys.Scope = codes "scope"
key_text keys.Signature = codes "signature"
key_text keys.Slot = codes "slot"
key_text keys.Start = codes "start"
key_text keys.StartColumn = codes "start_column"
key_text keys.StartLine = codes "start_line"
key_text keys.Value = codes "value"
key_text (keys.Other text) = text.now
key_text keys.None = codes ""
