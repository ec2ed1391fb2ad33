use Rattle.std.proofs.Common.{◌≡◌, ◌+◌, ◌*◌, ◌≤◌, ◌++◌, ◌∷◌, List, length, map}
use Rattle.deno_graph_json.specs.Flat.{PlainNode, plain, array, object}
use Rattle.deno_graph_json.proofs.ValueTokens.{ItemsPassed, ItemsLeft, MembersPassed, MembersLeft}
use Rattle.deno_graph_json.proofs.flat.parse.Parser.+read.Given as goal

abbrev pub decreases-value : goal.decreases-value
decreases-value l = 2 * l.depth

abbrev pub decreases-array : goal.decreases-array
decreases-array l = 2 * l.depth + 1

abbrev pub decreases-object : goal.decreases-object
decreases-object l = 2 * l.depth + 1

abbrev pub invariant-array-elements : goal.invariant-array-elements
invariant-array-elements l =
    (length l.self.reader ≤ length l.initial.self.reader) × (l.at ≡ length l.fn.self.nodes.items)
    × ((inside : List PlainNode)
    × (map plain l.self.nodes.items ≡ map plain l.fn.self.nodes.items ++ array 0 0 ∷ inside)
    × (l.elements ≤ length inside)
    × ItemsPassed l.depth l.fn.self.reader l.self.reader inside l.elements)
    × ItemsLeft l.depth l.fn.self.reader l.self.reader

abbrev pub decreases-array-elements : goal.decreases-array-elements
decreases-array-elements l = length l.self.reader

abbrev pub invariant-object-members : goal.invariant-object-members
invariant-object-members l =
    (length l.self.reader ≤ length l.initial.self.reader) × (l.at ≡ length l.fn.self.nodes.items)
    × ((inside : List PlainNode)
    × (map plain l.self.nodes.items ≡ map plain l.fn.self.nodes.items ++ object 0 ∷ inside)
    × MembersPassed l.depth l.fn.self.reader l.self.reader inside)
    × MembersLeft l.depth l.fn.self.reader l.self.reader

abbrev pub decreases-object-members : goal.decreases-object-members
decreases-object-members l = length l.self.reader
