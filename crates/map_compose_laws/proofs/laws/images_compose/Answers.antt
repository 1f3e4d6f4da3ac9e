use Rattle.map_compose_laws.proofs.Images.{images_compose}
use Rattle.map_compose_laws.proofs.laws.images_compose.Goals as goal

pub returns : goal.returns
returns c = images_compose
