use Rattle.ppdb_show_lines.proofs.uses.put_use.Goals as goal

pub returns-in-Namespace : goal.returns-in-Namespace
returns-in-Namespace g c = rw c.in-Namespace.is c.put_line.ensures

pub returns-in-AssemblyNamespace : goal.returns-in-AssemblyNamespace
returns-in-AssemblyNamespace g c = rw c.in-AssemblyNamespace.is c.put_line-in-AssemblyNamespace.ensures

pub returns-in-Target : goal.returns-in-Target
returns-in-Target g c = rw c.in-Target.is c.put_line-in-Target.ensures

pub returns-in-Xml : goal.returns-in-Xml
returns-in-Xml g c = rw c.in-Xml.is c.put_line-in-Xml.ensures

pub returns-in-Alias : goal.returns-in-Alias
returns-in-Alias g c = rw c.in-Alias.is c.put_line-in-Alias.ensures

pub returns-in-AssemblyAlias : goal.returns-in-AssemblyAlias
returns-in-AssemblyAlias g c = rw c.in-AssemblyAlias.is c.put_line-in-AssemblyAlias.ensures

pub returns-in-NamespaceAlias : goal.returns-in-NamespaceAlias
returns-in-NamespaceAlias g c = rw c.in-NamespaceAlias.is c.put_line-in-NamespaceAlias.ensures

pub returns-in-AssemblyNamespaceAlias : goal.returns-in-AssemblyNamespaceAlias
returns-in-AssemblyNamespaceAlias g c = rw c.in-AssemblyNamespaceAlias.is c.put_line-in-AssemblyNamespaceAlias.ensures

pub returns-in-TargetAlias : goal.returns-in-TargetAlias
returns-in-TargetAlias g c = rw c.in-TargetAlias.is c.put_line-in-TargetAlias.ensures
