-- Where values end that by their last bytes alone could be operators or dots: regular expressions without
-- flags, numbers with a dot at the end, and elements of JSX. A node of the tree ends there, and none ends
-- with an operator.
use Rattle.std.specs.Prelude.{ℕ, ◌+◌, ◌==◌, Bool, not, ◌&&◌, ◌||◌, List, codes, length, map, nat_eq}
use Rattle.std.specs.List.{flat_map, list_any, range_with_len, starts_with}
use Rattle.deno_graph_base.specs.SourceRange.{slice_of}
use Rattle.deno_graph_base.specs.declared.text.position.SourceRange.{SourceRange}
use Rattle.deno_graph_source.specs.Node.{nodes_in, range_of}
use Rattle.deno_graph_source.specs.declared.tree.node.Node.{Node}
use Rattle.modinfo_estree.specs.Range.{is_text_range}
use Rattle.modinfo_pieces.specs.Trails.{ends_in}

-- The text of a node is an end tag of JSX, or ends with a tag without children. A `/>` whose `/` ends a
-- comment is none.
abbrev pub is_tag : List ℕ → Bool
is_tag slice = starts_with nat_eq slice (codes "</")
    || (ends_in slice (codes "/>") && not (ends_in slice (codes "*/>")))

-- The text of a node ends with such a value: with the `/` of a regular expression, the dot of a number, or a
-- tag.
abbrev pub is_value : List ℕ → Bool
is_value slice = (ends_in slice (codes "/") || ends_in slice (codes ".")) || is_tag slice

-- A range of a text ends with such a value.
abbrev pub has_value : List ℕ → SourceRange → Bool
has_value text range = is_text_range text range && is_value (slice_of text range)

-- A range of a text ends with such a value at an offset.
abbrev pub ends_value : List ℕ → ℕ → SourceRange → Bool
ends_value text at range = (range.end == at) && has_value text range

-- The ranges of nodes and of all nodes below them.
abbrev pub ranges_in : List Node → List SourceRange
ranges_in nodes = map range_of (flat_map nodes_in nodes)

-- For each offset of a text, and for its end, whether such a value of the tree ends there.
unfoldable pub value_ends : List ℕ → List Node → List Bool
value_ends text body =
    map (λ at. list_any (ends_value text at) (ranges_in body)) (range_with_len 0 (length text + 1))
