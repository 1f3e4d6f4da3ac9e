use Rattle.ppdb_show_sources.proofs.links.put_address.Goals as goal

pub returns : goal.returns
returns g c = rw c.address_item.ensures at c.put_line.ensures
