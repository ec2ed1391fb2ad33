-- The object that an `ObjectReader` reads.
use Rattle.serde_json.specs.Data.{Data, Members, object}
use Rattle.deno_graph_json.specs.Data.{members_data}
use Rattle.deno_graph_json.specs.declared.object_reader.ObjectReader.{ObjectReader}

module _ {Whole : Type 0} where
  -- the members
  abbrev pub readable : ObjectReader Whole → Members
  readable r = members_data r.members

  -- the object
  abbrev pub value_of : ObjectReader Whole → Data
  value_of r = object (readable r)
