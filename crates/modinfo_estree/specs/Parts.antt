-- What a node is read from, besides the nodes below it.
use Rattle.serde_json.specs.Data.{Members}
use Rattle.deno_graph_base.specs.declared.text.position.SourceRange.{SourceRange}
use Rattle.deno_graph_json.specs.ObjectReader.{readable}
use Rattle.modinfo_estree.specs.Source.{EstreeSource, source_of}
use Rattle.modinfo_estree.specs.declared.reading.Reading.{Reading}
use Rattle.modinfo_estree.specs.declared.role.Role.{Role}

-- The source of a tree, and the role, the members and the range of a node in it.
pub record Parts : Type 0 where
  pub source : EstreeSource
  pub role : Role
  pub members : Members
  pub range : SourceRange

-- The parts that the code has.
abbrev pub parts_of : Reading → Parts
parts_of reading = record {
  source = source_of reading.source.now;
  role = reading.role;
  members = readable reading.members;
  range = reading.range;
}
