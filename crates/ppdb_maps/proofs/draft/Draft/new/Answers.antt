use Rattle.std.proofs.Common.{refl}
use Rattle.ppdb_maps.proofs.Adding.{none_held}
use Rattle.ppdb_maps.proofs.draft.Draft.new.Goals as goal

pub returns : goal.returns
returns c = none_held _ c.new.ensures.empty c.new-2.ensures.items c.new-3.ensures.items c.new-4.ensures.items c.new-5.ensures c.new-6.ensures.items
    c.new-7.ensures refl c.new-8.ensures.empty c.new-9.ensures.empty c.new-10.ensures.empty c.new-11.ensures.items c.new-12.ensures
    c.new-13.ensures.empty refl refl
