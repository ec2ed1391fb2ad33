-- The text that an expression evaluates to in JavaScript: of a string literal, a template, or a sum
-- that begins with a string, for given texts of the other operands.
use Rattle.std.specs.Prelude.{◌≡◌, ℕ, ◌+◌, if◌then◌else◌, List, [], ◌∷◌, ◌++◌, length, map, All}
use Rattle.deno_graph_source.specs.declared.tree.node.Kind.{Kind}
use Rattle.deno_graph_source.specs.declared.tree.node.Kind.TheVariants.{Str, Template, Binary}
use Rattle.deno_graph_source.specs.declared.tree.node.BinaryOp.TheVariants.{Add}
use Rattle.deno_graph_source.specs.declared.tree.node.Node.{Node}
use Rattle.deno_graph_base.specs.JsString.{lossy_text, IsReadable}
use Rattle.deno_graph_source.specs.Node.{kind_of, children_of}
use Rattle.deno_graph_source.specs.NodePath.{NodePath}
use Rattle.deno_graph_dep.specs.Argument.{Form, text, parts, expression, ArgumentPart, known, unknown}
use Rattle.deno_graph_dep.specs.Argument.{is_string, SpineStep, LeftSpine, operands_of}

-- an assignment: a text for the expression at each path below an argument
abbrev pub Assignment : Type 0
Assignment = NodePath → List ℕ

-- the text of a template: its first quasi, the text of its first child, its second quasi, and so on,
-- where the next child has the index n
abbrev pub template_text : Assignment → NodePath → ℕ → List (List ℕ) → List ℕ
template_text given path n [] = []
template_text given path n (quasi ∷ []) = lossy_text quasi
template_text given path n (quasi ∷ next ∷ rest) =
    lossy_text quasi ++ (given (path ++ n ∷ []) ++ template_text given path (n + 1) (next ∷ rest))

-- the text of an operand: a readable string literal has its own, any other operand the assigned one
abbrev pub ContributesAt : Assignment → NodePath → Kind → List ℕ → Type 0
ContributesAt given path (Str points) contributed =
    IsReadable points × (contributed ≡ lossy_text points)
ContributesAt given path _ contributed = contributed ≡ given path

-- The expression at a path has this text. Expressions with a text are a readable string literal, a
-- template with readable quasis, and a sum whose left child has a text.
pub data HasText (given : Assignment) : NodePath → Node → List ℕ → Type 0 where
  of_string : (path : NodePath) (node : Node) (points : List ℕ)
      → kind_of node ≡ Str points → IsReadable points
      → HasText given path node (lossy_text points)
  of_template : (path : NodePath) (node : Node) (quasis : List (List ℕ))
      → kind_of node ≡ Template quasis → All IsReadable quasis
      → HasText given path node (template_text given path 0 quasis)
  of_sum : (path : NodePath) (node left right : Node) (front back : List ℕ)
      → kind_of node ≡ Binary Add → children_of node ≡ left ∷ right ∷ []
      → HasText given (path ++ 0 ∷ []) left front
      → ContributesAt given (path ++ 1 ∷ []) (kind_of right) back
      → HasText given path node (front ++ back)

-- the parts joined, with the k-th of the texts in place of the k-th unknown
abbrev pub joined : List ArgumentPart → List (List ℕ) → List ℕ
joined [] texts = []
joined (known known_text ∷ ps) texts = known_text ++ joined ps texts
joined (unknown ∷ ps) [] = joined ps []
joined (unknown ∷ ps) (given_text ∷ texts) = given_text ++ joined ps texts

-- the paths of children, where the first has the index n
abbrev pub child_paths : ℕ → List Node → List NodePath
child_paths n [] = []
child_paths n (child ∷ children) = (n ∷ []) ∷ child_paths (n + 1) children

-- the path of an operand if it is unknown, as a list of one or none
abbrev pub unknown_path : NodePath → Node → List NodePath
unknown_path path node = if is_string (kind_of node) then [] else path ∷ []

-- the paths of the unknown operands of a spine at a path, from left to right
abbrev pub unknown_operands : NodePath → List SpineStep → Node → List NodePath
unknown_operands path [] first = unknown_path path first
unknown_operands path (step ∷ below) first =
    unknown_operands (path ++ 0 ∷ []) below first ++ unknown_path (path ++ 1 ∷ []) step.right

-- the paths of the unknowns of a node of this kind: the children of a template, or the operands of a
-- sum that are no string literals
abbrev pub AreUnknownsAt : Kind → Node → List NodePath → Type 0
AreUnknownsAt (Template quasis) node paths = paths ≡ child_paths 0 (children_of node)
AreUnknownsAt (Binary op) node paths =
    (steps : List SpineStep) × (first : Node) × (LeftSpine node steps first)
    × (paths ≡ unknown_operands [] steps first)
AreUnknownsAt _ node paths = paths ≡ []

abbrev pub AreUnknowns : Node → List NodePath → Type 0
AreUnknowns node paths = AreUnknownsAt (kind_of node) node paths

-- the kind is no string literal, or a readable one
abbrev pub IsReadableAt : Kind → Type 0
IsReadableAt (Str points) = IsReadable points
IsReadableAt _ = Unit {0}

-- the literals of an argument of this kind are readable: its own text, its quasis, or its operands
abbrev pub HasReadableLiteralsAt : Kind → Node → Type 0
HasReadableLiteralsAt (Str points) node = IsReadable points
HasReadableLiteralsAt (Template quasis) node = All IsReadable quasis
HasReadableLiteralsAt (Binary op) node =
    (steps : List SpineStep) (first : Node) → LeftSpine node steps first
    → All (λ operand. IsReadableAt (kind_of operand)) (operands_of steps first)
HasReadableLiteralsAt _ node = Unit {0}

abbrev pub HasReadableLiterals : Node → Type 0
HasReadableLiterals node = HasReadableLiteralsAt (kind_of node) node

-- the count of unknown parts
unfoldable pub unknown_count : List ArgumentPart → ℕ
unknown_count [] = 0
unknown_count (known known_text ∷ ps) = unknown_count ps
unknown_count (unknown ∷ ps) = unknown_count ps + 1

-- Under an assignment, a form spells the text of a node: the node has the form's text, or the form's
-- parts joined, with the texts of the node's unknowns in place of the unknown parts. There are as many
-- unknown parts as unknowns. A form with nothing known spells the text of every node.
abbrev pub SpellsUnder : Assignment → Node → Form → Type 0
SpellsUnder given node (text known_text) = HasText given [] node known_text
SpellsUnder given node (parts ps) =
    (unknowns : List NodePath) × (AreUnknowns node unknowns) × (unknown_count ps ≡ length unknowns)
    × (HasText given [] node (joined ps (map given unknowns)))
SpellsUnder given node expression = Unit {0}

-- under each assignment, if the node's literals are readable, the form spells the node's text
abbrev pub SpellsItsText : Node → Form → Type 0
SpellsItsText node form = (given : Assignment) → HasReadableLiterals node → SpellsUnder given node form
