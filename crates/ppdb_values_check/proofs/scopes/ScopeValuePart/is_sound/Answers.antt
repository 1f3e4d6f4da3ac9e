use Rattle.ppdb_values_check.proofs.Joined.{beside}
use Rattle.ppdb_values_check.proofs.scopes.ScopeValuePart.is_sound.Goals as goal

pub returns-then-has_sound_place : goal.returns-then-has_sound_place
returns-then-has_sound_place c = beside (c.has_sound_place.ensures.0 c.if-has_sound_place.true) c.has_sound_items.ensures
