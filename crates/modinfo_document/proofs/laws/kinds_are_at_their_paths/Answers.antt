use Rattle.modinfo_document.proofs.KindPaths.{found_there}
use Rattle.modinfo_document.proofs.laws.kinds_are_at_their_paths.Goals as goal

pub returns : goal.returns
returns c = λ body at. found_there at body
