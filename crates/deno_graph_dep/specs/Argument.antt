-- The form of an argument of `import` or `require`: what is known of its text, part by part.
use Rattle.std.specs.Prelude.{◌≡◌, ℕ, Bool, true, false, ◌&&◌, if◌then◌else◌, List, [], ◌∷◌, ◌++◌, map}
use Rattle.std.specs.List.{list_all, flat_map}
use Rattle.deno_graph_source.specs.declared.tree.node.Kind.{Kind}
use Rattle.deno_graph_source.specs.declared.tree.node.Kind.TheVariants.{Str, Template, Binary}
use Rattle.deno_graph_source.specs.declared.tree.node.BinaryOp.{BinaryOp}
use Rattle.deno_graph_source.specs.declared.tree.node.BinaryOp.TheVariants.{Add}
use Rattle.deno_graph_source.specs.declared.tree.node.Node.{Node}
use Rattle.deno_graph_base.specs.JsString.{lossy_text}
use Rattle.deno_graph_source.specs.Node.{kind_of, children_of}
use Rattle.deno_graph_dep.specs.declared.argument.DynamicArgument.{DynamicArgument}
use Rattle.deno_graph_dep.specs.declared.argument.DynamicArgument.TheVariants as argument
use Rattle.deno_graph_dep.specs.declared.argument.DynamicTemplatePart.{DynamicTemplatePart}
use Rattle.deno_graph_dep.specs.declared.argument.DynamicTemplatePart.TheVariants as part

-- a part: a known text, or an expression whose text is not known
pub data ArgumentPart : Type 0 where
  known : List ℕ → ArgumentPart
  unknown : ArgumentPart

-- a form: one text, parts one after another, or nothing known
pub data Form : Type 0 where
  text : List ℕ → Form
  parts : List ArgumentPart → Form
  expression : Form

-- the part of the code, with its text in place of a borrow
abbrev pub part_seen : DynamicTemplatePart → ArgumentPart
part_seen (part.String s) = known s.now
part_seen part.Expr = unknown

-- the form of the code, with its texts in place of borrows
abbrev pub form_seen : DynamicArgument → Form
form_seen (argument.String s) = text s.now
form_seen (argument.Template ps) = parts (map part_seen ps.items)
form_seen argument.Expr = expression

-- a quasi as a part, or no part if the quasi is empty
abbrev pub quasi_part : List ℕ → List ArgumentPart
quasi_part [] = []
quasi_part (c ∷ points) = known (lossy_text (c ∷ points)) ∷ []

-- the parts of a template: its first quasi, then for each child an unknown and the next quasi
abbrev pub template_parts : List (List ℕ) → List ArgumentPart
template_parts [] = []
template_parts (first ∷ rest) =
    quasi_part first ++ flat_map (λ quasi. unknown ∷ quasi_part quasi) rest

-- the form of a template: one quasi alone is a text
abbrev pub template_form : List (List ℕ) → Form
template_form (quasi ∷ []) = text (lossy_text quasi)
template_form quasis = parts (template_parts quasis)

abbrev pub is_binary : Kind → Bool
is_binary (Binary op) = true
is_binary _ = false

abbrev pub is_string : Kind → Bool
is_string (Str points) = true
is_string _ = false

abbrev pub is_add : BinaryOp → Bool
is_add Add = true
is_add _ = false

-- the kind of a sum: a binary expression with the operator plus
abbrev pub is_sum : Kind → Bool
is_sum (Binary op) = is_add op
is_sum _ = false

-- a step down a left spine: the operator and the right child of a binary node
pub record SpineStep : Type 0 where
  pub operator : BinaryOp
  pub right : Node

-- The left spine of a node: the node, its left child, the left child of that child, and so on while
-- they are binary. The steps are those of the binary nodes, the outermost first; `first` is the
-- operand below the innermost.
abbrev pub LeftSpine : Node → List SpineStep → Node → Type 0
LeftSpine node [] first = (node ≡ first) × (is_binary (kind_of node) ≡ false)
LeftSpine node (step ∷ below) first =
    (kind_of node ≡ Binary step.operator)
    × ((left : Node) × (children_of node ≡ left ∷ step.right ∷ []) × LeftSpine left below first)

-- the operands of a spine from left to right: the first, then the right children, the innermost
-- first
abbrev pub operands_of : List SpineStep → Node → List Node
operands_of [] first = first ∷ []
operands_of (step ∷ below) first = operands_of below first ++ step.right ∷ []

-- the part of an operand of this kind: only a string literal is known
abbrev pub part_of_kind : Kind → ArgumentPart
part_of_kind (Str points) = known (lossy_text points)
part_of_kind _ = unknown

abbrev pub part_of : Node → ArgumentPart
part_of node = part_of_kind (kind_of node)

-- the form of a binary node: parts, one for each operand from left to right, if the first operand
-- is a string literal and every operator is a plus
abbrev pub sum_form : List SpineStep → Node → Form
sum_form steps first =
    if is_string (kind_of first) && list_all (λ (step : SpineStep). is_add step.operator) steps
    then parts (map part_of (operands_of steps first)) else expression

-- the form of a node of this kind
abbrev pub HasFormAt : Kind → Node → Form → Type 0
HasFormAt (Str points) node form = form ≡ text (lossy_text points)
HasFormAt (Template quasis) node form = form ≡ template_form quasis
HasFormAt (Binary op) node form =
    (steps : List SpineStep) × (first : Node) × (LeftSpine node steps first)
    × (form ≡ sum_form steps first)
HasFormAt _ node form = form ≡ expression

-- the form of a node as an argument
abbrev pub HasForm : Node → Form → Type 0
HasForm node form = HasFormAt (kind_of node) node form
