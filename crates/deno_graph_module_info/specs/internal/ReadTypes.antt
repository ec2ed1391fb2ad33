-- The cache of the types that comments name for dependencies.
use Rattle.std.specs.Prelude.{◌≡◌, ℕ, List, Option, Some, IfSome}
use Rattle.std.specs.Ordering.{nat_cmp, ordering_then}
use Rattle.std.specs.declared.cmp.Ordering.{Ordering}
use Rattle.std.specs.BTreeMap.{BTreeMap, get}
use Rattle.deno_graph_source.specs.Source.{IsSpelled}
use Rattle.deno_graph_source.specs.declared.tree.comments.DependencyComment.{DependencyComment}
use Rattle.deno_graph_info.specs.declared.analysis.specifier_with_range.SpecifierWithRange.{SpecifierWithRange}
use Rattle.deno_graph_module_info.specs.Pragma.{dependency_types_pragmas, NamesByFirst}
use Rattle.deno_graph_module_info.specs.Spelled.{CoversAsWritten}

-- ranges by their start, and ranges with one start by their end
abbrev pub range_cmp : ℕ × ℕ → ℕ × ℕ → Ordering
range_cmp a b = ordering_then (nat_cmp a.0 b.0) (nat_cmp a.1 b.1)

-- an entry at the range of a comment of the text has the types that the comment names, and the range of
-- their specifier covers the specifier, as the source spells it
abbrev pub AreRead : List ℕ → BTreeMap (ℕ × ℕ) (Option SpecifierWithRange) → Type 0
AreRead source read = (comment : DependencyComment) (types : Option SpecifierWithRange)
    → IsSpelled source comment
    → get range_cmp read (comment.range.start, comment.range.end) ≡ Some types
    → NamesByFirst source dependency_types_pragmas comment types
    × IfSome types (CoversAsWritten source)
