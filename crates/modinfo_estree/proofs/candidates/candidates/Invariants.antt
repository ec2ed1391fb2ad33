-- The candidates so far are those among the members so far, in which the members that are left are put.
use Rattle.std.proofs.Common.{◌≡◌, List, ℕ, filter, map}
use Rattle.deno_graph_base.specs.TextMap.{IsAscending}
use Rattle.deno_graph_json.specs.Data.{members_data, named_data, put_members}
use Rattle.deno_graph_json.specs.View.{members_of}
use Rattle.deno_graph_json.specs.declared.flat.Element.{Element}
use Rattle.modinfo_estree.specs.internal.Candidates.{entry_of, is_inner}
use Rattle.modinfo_estree.proofs.candidates.candidates.Given as goal

abbrev pub invariant-loop-name : goal.invariant-loop-name
invariant-loop-name l = (goal.iterator-loop-name).can_next l.name-iterator
    × (goal.iterator-loop-name).is_finite l.name-iterator
    × (entries : List (List ℕ × Element)) × IsAscending entries
    × (map entry_of l.found.items ≡ filter is_inner entries)
    × (put_members (members_of l.name-iterator) (named_data entries) ≡ members_data l.fn.members)
