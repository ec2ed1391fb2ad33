-- Left spines: their shape in a valid tree, and a descent joined with the spine below it.
use Rattle.std.proofs.Common.{◌≡◌, ℕ, zero, suc, ◌<◌, ◌≤◌, ◌+◌, List, [], ◌∷◌, ◌++◌, map, reverse, length}
use Rattle.std.proofs.Common.{Some, All, slice_get, Bool, true, false, ◌&&◌, arith, ap, sym, refl, ◌∙◌, subst}
use Rattle.std.proofs.Common.{if◌then◌else◌}
use Rattle.std.specs.List.{list_all}
use Rattle.std.proofs.lemmas.List.{reverse-append, map-append}
use Rattle.deno_graph_source.specs.declared.tree.node.Kind.{Kind}
use Rattle.deno_graph_source.specs.declared.tree.node.Kind.TheVariants.{Str, Template, Binary}
use Rattle.deno_graph_source.specs.declared.tree.node.BinaryOp.{BinaryOp}
use Rattle.deno_graph_source.specs.declared.tree.node.Node.{Node, size-Node}
use Rattle.deno_graph_source.specs.Node.{kind_of, children_of, nodes_in, HasCountOfKind, IsShaped}
use Rattle.std.proofs.lemmas.Option.{slice_get_within, get_or_from_slice_get}
use Rattle.deno_graph_source.proofs.ValidSource.{All-child_nodes, node-holds}
use Rattle.deno_graph_dep.specs.Argument.{is_binary, is_sum, is_string, is_add, SpineStep, LeftSpine}
use Rattle.deno_graph_dep.specs.Argument.{operands_of, part_of, sum_form, ArgumentPart, Form, parts}
use Rattle.deno_graph_dep.specs.Argument.{expression, HasFormAt}
use Rattle.deno_graph_dep.proofs.Depth.{child_smaller}

-- the node and all nodes below it have the children that their kinds need
abbrev pub AllShaped : Node → Type 0
AllShaped node = All IsShaped (nodes_in node)

pub keeps_here : (node : Node) → AllShaped node → HasCountOfKind (kind_of node) (length (children_of node))
keeps_here node shaped = (node-holds IsShaped node shaped).count

pub child_shaped : (node child : Node) (k : ℕ) → slice_get (children_of node) k ≡ Some child → AllShaped node
    → AllShaped child
child_shaped node child k is shaped =
    All-child_nodes IsShaped node child (
      k,
      slice_get_within (children_of node) k child is,
      get_or_from_slice_get (children_of node) k child child is,
    ) shaped

pub two_operands : (kind : Kind) (count : ℕ) → is_binary kind ≡ true → HasCountOfKind kind count → count ≡ 2
unfolding HasCountOfKind
two_operands (Binary op) count binary keeps = keeps
two_operands _ count binary keeps = cc

-- a binary kind has an operator
pub operator_of : (kind : Kind) → is_binary kind ≡ true → (op : BinaryOp) × (kind ≡ Binary op)
operator_of (Binary op) is = (op, refl)
operator_of _ is = cc

-- the operator of a sum is a plus
pub plus_of : (kind : Kind) → is_sum kind ≡ true → (op : BinaryOp) × (kind ≡ Binary op) × (is_add op ≡ true)
plus_of (Binary op) is = (op, refl, is)
plus_of _ is = cc

pub string_is_no_binary : (kind : Kind) → is_string kind ≡ true → is_binary kind ≡ false
string_is_no_binary (Str points) is = refl
string_is_no_binary _ is = cc

-- a list of length two has two members
two_of : {A : Type 0} (xs : List A) → length xs ≡ 2 → (x : A) × (y : A) × (xs ≡ x ∷ y ∷ [])
two_of [] two = absurd (omega arith)
two_of (x ∷ []) two = absurd (omega arith)
two_of (x ∷ y ∷ []) two = (x, y, refl)
two_of (x ∷ y ∷ z ∷ xs) two = absurd (omega arith)

-- the children of a binary node that keeps the shape rules
pub children_of-binary : (node : Node) → is_binary (kind_of node) ≡ true → AllShaped node
    → (left : Node) × (right : Node) × (children_of node ≡ left ∷ right ∷ [])
children_of-binary node binary shaped =
    two_of (children_of node)
    (two_operands (kind_of node) (length (children_of node)) binary (keeps_here node shaped))

pub left_at : (node left right : Node) → children_of node ≡ left ∷ right ∷ []
    → slice_get (children_of node) 0 ≡ Some left
left_at node left right is = ap (λ xs. slice_get xs 0) is

abbrev pub step_with : BinaryOp → Node → SpineStep
step_with op node = record { operator = op; right = node }

-- from node down along left children, through nodes that are sums, to operand
abbrev pub Descends : Node → List SpineStep → Node → Type 0
Descends node [] operand = node ≡ operand
Descends node (step ∷ below) operand =
    (kind_of node ≡ Binary step.operator) × (is_add step.operator ≡ true)
    × ((left : Node) × (children_of node ≡ left ∷ step.right ∷ []) × Descends left below operand)

-- a descent with one more step
pub Descends-step : (node operand left : Node) (above : List SpineStep) (step : SpineStep)
    → Descends node above operand → kind_of operand ≡ Binary step.operator → is_add step.operator ≡ true
    → children_of operand ≡ left ∷ step.right ∷ []
    → Descends node (above ++ step ∷ []) left
Descends-step node operand left [] step d is plus at = (
  subst (λ n. kind_of n ≡ Binary step.operator) (sym d) is,
  plus,
  (left, subst (λ n. children_of n ≡ left ∷ step.right ∷ []) (sym d) at, refl),
)
Descends-step node operand left (top ∷ above) step d is plus at =
    (d.0, d.1, (d.2.0, d.2.1, Descends-step d.2.0 operand left above step d.2.2 is plus at))

-- a descent followed by a spine is a spine
pub LeftSpine-join : (node operand first : Node) (above rest : List SpineStep) → Descends node above operand
    → LeftSpine operand rest first → LeftSpine node (above ++ rest) first
LeftSpine-join node operand first [] rest d spine = subst (λ n. LeftSpine n rest first) (sym d) spine
LeftSpine-join node operand first (top ∷ above) rest d spine =
    (d.0, (d.2.0, d.2.1, LeftSpine-join d.2.0 operand first above rest d.2.2 spine))

-- a descent that ends at an operand that is not binary is the whole spine
pub LeftSpine-end : (node operand : Node) (above : List SpineStep) → Descends node above operand
    → is_binary (kind_of operand) ≡ false → LeftSpine node above operand
LeftSpine-end node operand [] d is = (d, subst (λ n. is_binary (kind_of n) ≡ false) (sym d) is)
LeftSpine-end node operand (top ∷ above) d is =
    (d.0, (d.2.0, d.2.1, LeftSpine-end d.2.0 operand above d.2.2 is))

pub Descends-all_sums : (node operand : Node) (above : List SpineStep) → Descends node above operand
    → list_all (λ (step : SpineStep). is_add step.operator) above ≡ true
Descends-all_sums node operand [] d = refl
Descends-all_sums node operand (top ∷ above) d = rw (d.1, Descends-all_sums d.2.0 operand above d.2.2)

-- each node that keeps the shape rules has a left spine
abbrev pub Spine : Node → Type 0
Spine node = (steps : List SpineStep) × (first : Node) × LeftSpine node steps first

spine_by_kind : (node : Node) (b : Bool) → is_binary (kind_of node) ≡ b → AllShaped node
    → ((left : Node) → slice_get (children_of node) 0 ≡ Some left → Spine left) → Spine node
spine_by_kind node false is shaped below = ([], node, (refl, is))
spine_by_kind node true is shaped below =
    let op = operator_of (kind_of node) is in
    let two = children_of-binary node is shaped in
    let rest = below two.0 (left_at node two.0 two.1 two.2) in
    (step_with op.0 two.1 ∷ rest.0, rest.1, (op.1, (two.0, two.2, rest.2)))

has_spine_within : (n : ℕ) (node : Node) → size-Node node ≤ n → AllShaped node → Spine node
has_spine_within zero node small shaped =
    spine_by_kind node (is_binary (kind_of node)) refl shaped
    (λ left at. let h = child_smaller node left 0 at in absurd (omega arith))
has_spine_within (suc n) node small shaped =
    spine_by_kind node (is_binary (kind_of node)) refl shaped
    (λ left at. let h = child_smaller node left 0 at in
    has_spine_within n left (omega arith) (child_shaped node left 0 at shaped))

pub has_spine : (node : Node) → AllShaped node → Spine node
has_spine node shaped = has_spine_within (size-Node node) node (omega arith) shaped

-- the right children that a descent has passed, from the outermost in
abbrev pub rights_of : List SpineStep → List Node
rights_of steps = map (λ (step : SpineStep). step.right) steps

operands_of-reverse : (above : List SpineStep) (first : Node)
    → operands_of above first ≡ first ∷ reverse (rights_of above)
operands_of-reverse [] first = refl
operands_of-reverse (top ∷ above) first =
    ap (λ nodes. nodes ++ top.right ∷ []) (operands_of-reverse above first)
    ∙ ap (λ nodes. first ∷ nodes) (sym (reverse-append (top.right ∷ []) (rights_of above)))

reverse-map : {A B : Type 0} (f : A → B) (xs : List A) → map f (reverse xs) ≡ reverse (map f xs)
reverse-map f [] = refl
reverse-map f (x ∷ xs) =
    ap (map f) (reverse-append (x ∷ []) xs) ∙ map-append f (reverse xs) (x ∷ [])
    ∙ ap (λ ys. ys ++ f x ∷ []) (reverse-map f xs) ∙ sym (reverse-append (f x ∷ []) (map f xs))

pub seen_push : {X : Type 0} (seen : X → ArgumentPart) (ps : List X) (p : X) (above : List SpineStep)
    (step : SpineStep) → map seen ps ≡ map part_of (rights_of above) → seen p ≡ part_of step.right
    → map seen (ps ++ p ∷ []) ≡ map part_of (rights_of (above ++ step ∷ []))
seen_push seen ps p above step so_far here =
    map-append seen ps (p ∷ []) ∙ ap (λ qs. qs ++ seen p ∷ []) so_far
    ∙ ap (λ q. map part_of (rights_of above) ++ q ∷ []) here
    ∙ sym (map-append part_of (rights_of above) (step.right ∷ []))
    ∙ ap (map part_of) (sym (map-append (λ (s : SpineStep). s.right) above (step ∷ [])))

pub seen_reverse : {X : Type 0} (seen : X → ArgumentPart) (ps : List X) (p : X) (above : List SpineStep)
    (operand : Node)
    → map seen ps ≡ map part_of (rights_of above) → seen p ≡ part_of operand
    → map seen (reverse (ps ++ p ∷ [])) ≡ map part_of (operands_of above operand)
seen_reverse seen ps p above operand so_far here =
    reverse-map seen (ps ++ p ∷ [])
    ∙ ap reverse (map-append seen ps (p ∷ []) ∙ ap (λ qs. qs ++ seen p ∷ []) so_far
    ∙ ap (λ q. map part_of (rights_of above) ++ q ∷ []) here)
    ∙ reverse-append (map part_of (rights_of above)) (part_of operand ∷ [])
    ∙ ap (λ ps. part_of operand ∷ ps) (sym (reverse-map part_of (rights_of above)))
    ∙ ap (map part_of) (sym (operands_of-reverse above operand))

-- an operator that is no plus makes the whole unknown
list_all-fails : (above rest : List SpineStep) (step : SpineStep) → is_add step.operator ≡ false
    → list_all (λ (s : SpineStep). is_add s.operator) (above ++ step ∷ rest) ≡ false
list_all-fails [] rest step not_plus = rw not_plus
list_all-fails (top ∷ above) rest step not_plus =
    rw (list_all-fails above rest step not_plus) (and_false (is_add top.operator))
  where
    and_false : (b : Bool) → (b && false) ≡ false
    and_false true = refl
    and_false false = refl

pub sum_form-unknown : (operand first : Node) (above rest : List SpineStep) → LeftSpine operand rest first
    → is_sum (kind_of operand) ≡ false → is_string (kind_of operand) ≡ false
    → sum_form (above ++ rest) first ≡ expression
sum_form-unknown operand first above [] spine no_sum no_string =
    let e : is_string (kind_of first) ≡ false =
    subst (λ n. is_string (kind_of n) ≡ false) spine.0 no_string in rw e
sum_form-unknown operand first above (step ∷ rest) spine no_sum no_string =
    let not_plus : is_add step.operator ≡ false = subst (λ k. is_sum k ≡ false) spine.0 no_sum in
    rw (list_all-fails above rest step not_plus)
    (neither (is_string (kind_of first)) (parts (map part_of (operands_of (above ++ step ∷ rest) first))))
  where
    neither : (b : Bool) (f : Form) → (if b && false then f else expression) ≡ expression
    neither true f = refl
    neither false f = refl

pub sum_form-known : (above : List SpineStep) (operand : Node) → is_string (kind_of operand) ≡ true
    → list_all (λ (step : SpineStep). is_add step.operator) above ≡ true
    → sum_form above operand ≡ parts (map part_of (operands_of above operand))
sum_form-known above operand string sums = rw (string, sums)

-- the form of a binary node is that of its spine
pub HasFormAt-binary : (kind : Kind) (node : Node) (form : Form) → is_binary kind ≡ true
    → (steps : List SpineStep) × (first : Node) × (LeftSpine node steps first) × (form ≡ sum_form steps first)
    → HasFormAt kind node form
HasFormAt-binary (Binary op) node form is spine = spine
HasFormAt-binary _ node form is spine = cc

-- a template has a quasi
pub has_quasi : (kind : Kind) (quasis : List (List ℕ)) (count : ℕ) → kind ≡ Template quasis
    → HasCountOfKind kind count → 0 < length quasis
unfolding HasCountOfKind
has_quasi kind quasis count is keeps =
    let h : length quasis ≡ count + 1 = subst (λ k. HasCountOfKind k count) is keeps in omega (arith, h)
