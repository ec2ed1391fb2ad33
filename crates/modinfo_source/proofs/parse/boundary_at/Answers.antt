use Rattle.std.proofs.lemmas.Str.{IsCharBoundary-start}
use Rattle.modinfo_source.proofs.parse.boundary_at.Goals as goal

pub returns-else-is_char_boundary : goal.returns-else-is_char_boundary
returns-else-is_char_boundary c = IsCharBoundary-start _ c.utf8.text
