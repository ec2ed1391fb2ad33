-- The members of a node that may have nodes.
use Rattle.std.specs.Prelude.{◌≡◌, ℕ, List, map, Bool, true, false, bytes_eq, filter}
use Rattle.serde_json.specs.Data.{Data, null, boolean, number, string, array, object, Members}
use Rattle.deno_graph_base.specs.TextMap.{IsAscending}
use Rattle.deno_graph_json.specs.Data.{data_of, named_data}
use Rattle.deno_graph_json.specs.declared.flat.Element.{Element}
use Rattle.modinfo_estree.specs.declared.candidates.Candidate.{Candidate}

-- Whether a value is an object or an array.
abbrev pub has_inside : Data → Bool
has_inside null = false
has_inside (boolean _) = false
has_inside (number _) = false
has_inside (string _) = false
has_inside (array _) = true
has_inside (object _) = true

-- The name and the value of a candidate.
abbrev pub entry_of : Candidate → List ℕ × Element
entry_of candidate = (candidate.name.now, candidate.value)

-- Whether a member has this name.
abbrev pub is_named : List ℕ → List ℕ × Element → Bool
is_named name entry = bytes_eq entry.0 name

-- Whether the value of a member is an object or an array.
abbrev pub is_inner : List ℕ × Element → Bool
is_inner entry = has_inside (data_of entry.1)

-- The candidates are the members whose values are objects or arrays, in the order of their names.
pub record AreCandidates (all : Members) (found : List Candidate) : Type 0 where
  pub entries : List (List ℕ × Element)
  pub whole : named_data entries ≡ all
  pub ascending : IsAscending entries
  pub kept : map entry_of found ≡ filter is_inner entries
