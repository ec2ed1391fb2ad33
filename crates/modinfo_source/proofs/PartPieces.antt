-- Literals that are spelled with some pieces are spelled with all pieces of a text.
use Rattle.std.proofs.Common.{◌≡◌, ℕ, zero, suc, ◌<◌, List, [], ◌∷◌, ap, arith, get_or, length, map}
use Rattle.std.specs.List.{All, Contains}
use Rattle.std.proofs.lemmas.List.Elements.{All-contains}
use Rattle.deno_graph_base.specs.declared.text.position.SourceRange.{SourceRange}
use Rattle.deno_graph_source.specs.Node.{children_of, kind_of, range_of}
use Rattle.deno_graph_source.specs.declared.tree.node.Kind.{Kind}
use Rattle.deno_graph_source.specs.declared.tree.node.Kind.TheVariants as kinds
use Rattle.deno_graph_source.specs.declared.tree.node.Node.{Node}
use Rattle.modinfo_pieces.specs.declared.piece.Piece.{Piece}
use Rattle.modinfo_source.specs.Spelled.{CookEach, CooksAt, NodeIsSpelled, ValueIsSpelled}

-- What a function makes of an element is among what it makes of all.
pub contains-mapped : {A B : Type 0} (f : A → B) (xs : List A) (k : ℕ) (x : A) → k < length xs
    → get_or xs k x ≡ x → Contains (map f xs) (f x)
contains-mapped f [] k x below is = absurd (omega arith)
contains-mapped f (y ∷ ys) zero x below is = (zero, omega arith, ap f is)
contains-mapped f (y ∷ ys) (suc k) x below is =
    let rest = contains-mapped f ys k x (omega arith) is in (suc rest.0, omega (arith, rest.1), rest.2)

part-more : (text : List ℕ) (some pieces : List Piece) (range : SourceRange) (value : List ℕ)
    → All (Contains pieces) some → CooksAt text some range value → CooksAt text pieces range value
part-more text some pieces range value all cooks = record {
  is_range = cooks.is_range;
  cooks = cooks.cooks;
  is_piece = All-contains (Contains pieces) some _ all cooks.is_piece;
}

parts-more : (text : List ℕ) (some pieces : List Piece) (parts : List SourceRange) (values : List (List ℕ))
    → All (Contains pieces) some → CookEach text some parts values → CookEach text pieces parts values
parts-more text some pieces [] [] all cook = cook
parts-more text some pieces [] (value ∷ values) all cook = absurd cook
parts-more text some pieces (part ∷ parts) [] all cook = absurd cook
parts-more text some pieces (part ∷ parts) (value ∷ values) all cook =
    (part-more text some pieces part value all cook.0, parts-more text some pieces parts values all cook.1)

value-more : (text : List ℕ) (some pieces : List Piece) (range : SourceRange) (children : List Node)
    (kind : Kind) → All (Contains pieces) some → ValueIsSpelled text some range children kind
    → ValueIsSpelled text pieces range children kind
value-more text some pieces range children (kinds.Template values) all spelled = record {
  parts = spelled.parts;
  are_parts = spelled.are_parts;
  cooked = parts-more text some pieces spelled.parts values all spelled.cooked;
}
value-more text some pieces range children _ all spelled = spelled

node-more : (text : List ℕ) (some pieces : List Piece) (node : Node) → All (Contains pieces) some
    → NodeIsSpelled text some node → NodeIsSpelled text pieces node
node-more text some pieces node all spelled = record {
  literal = spelled.literal;
  value = value-more text some pieces (range_of node) (children_of node) (kind_of node) all spelled.value;
}

pub nodes-more : (text : List ℕ) (some pieces : List Piece) (nodes : List Node) → All (Contains pieces) some
    → All (NodeIsSpelled text some) nodes → All (NodeIsSpelled text pieces) nodes
nodes-more text some pieces nodes all spelled k d below =
    node-more text some pieces _ all (spelled k d below)
