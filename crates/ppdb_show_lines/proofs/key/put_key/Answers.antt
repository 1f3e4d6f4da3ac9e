use Rattle.ppdb_show_lines.proofs.key.put_key.Goals as goal

pub returns-in-ParentTable : goal.returns-in-ParentTable
returns-in-ParentTable c = rw c.in-ParentTable.is c.key-in-ParentTable.ensures

pub returns-in-StartColumn : goal.returns-in-StartColumn
returns-in-StartColumn c = rw c.in-StartColumn.is c.key-in-StartColumn.ensures
