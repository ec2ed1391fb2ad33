-- Members in the order of their names.
use Rattle.serde_json.specs.Data.{Members, no_members, member}
use Rattle.deno_graph_json.specs.Data.{named_data, value_data}
use Rattle.deno_graph_json.specs.Value as flat
use Rattle.deno_graph_json.specs.View.{members_of}
use Rattle.deno_graph_info.specs.declared.conversion.ordered.OrderedMembers.{OrderedMembers}
use Rattle.deno_graph_info.specs.declared.conversion.ordered.OrderedMembers.TheVariants.{Listed, Sorted}

-- the members in the order of the text, also where a name comes again
abbrev pub listed : flat.ValueMembers → Members
listed flat.no_members = no_members
listed (flat.member k v ms) = member k (value_data v) (listed ms)

-- the members that are put in order
abbrev pub ordered_data : OrderedMembers → Members
ordered_data (Listed members) = listed (members_of members)
ordered_data (Sorted members) = named_data members
