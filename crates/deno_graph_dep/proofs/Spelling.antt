-- A form spells its node's text.
use Rattle.std.proofs.Common.{◌≡◌, ℕ, ◌+◌, List, [], ◌∷◌, ◌++◌, map, length, All, Some, Bool, true, false}
use Rattle.std.proofs.Common.{◌&&◌, if◌then◌else◌, arith, ap, sym, refl, ◌∙◌, subst, append_assoc}
use Rattle.std.specs.List.{flat_map, list_all}
use Rattle.std.proofs.lemmas.List.{append-nil, map-append, length-append, length-map}
use Rattle.std.proofs.lemmas.List.Elements.{All-head, All-pop}
use Rattle.deno_graph_source.specs.declared.tree.node.Kind.{Kind}
use Rattle.deno_graph_source.specs.declared.tree.node.Kind.TheVariants.{Str, Template, Binary}
use Rattle.deno_graph_source.specs.declared.tree.node.BinaryOp.{BinaryOp}
use Rattle.deno_graph_source.specs.declared.tree.node.BinaryOp.TheVariants.{Add}
use Rattle.deno_graph_source.specs.declared.tree.node.Node.{Node}
use Rattle.deno_graph_base.specs.JsString.{lossy_text, IsReadable}
use Rattle.deno_graph_source.specs.Node.{kind_of, children_of, HasCountOfKind}
use Rattle.deno_graph_source.specs.NodePath.{NodePath}
use Rattle.deno_graph_dep.specs.Argument.{Form, parts, expression, ArgumentPart, known, unknown, quasi_part}
use Rattle.deno_graph_dep.specs.Argument.{template_parts, template_form, is_string, is_add, SpineStep}
use Rattle.deno_graph_dep.specs.Argument.{LeftSpine, operands_of, part_of, HasFormAt, HasForm}
use Rattle.deno_graph_dep.specs.Value.{Assignment, template_text, ContributesAt, HasText, of_string}
use Rattle.deno_graph_dep.specs.Value.{of_template, of_sum, joined, child_paths, unknown_path}
use Rattle.deno_graph_dep.specs.Value.{unknown_operands, AreUnknownsAt, IsReadableAt, HasReadableLiteralsAt}
use Rattle.deno_graph_dep.specs.Value.{SpellsUnder, SpellsItsText, unknown_count}

joined-quasi : (quasi : List ℕ) (ps : List ArgumentPart) (texts : List (List ℕ))
    → joined (quasi_part quasi ++ ps) texts ≡ lossy_text quasi ++ joined ps texts
joined-quasi [] ps texts = refl
joined-quasi (c ∷ points) ps texts = refl

-- a template's parts spell its text
joined-template : (given : Assignment) (n : ℕ) (first : List ℕ) (rest : List (List ℕ)) (children : List Node)
    → length rest ≡ length children
    → joined (template_parts (first ∷ rest)) (map given (child_paths n children))
    ≡ template_text given [] n (first ∷ rest)
joined-template given n first [] [] same = joined-quasi first [] [] ∙ append-nil (lossy_text first)
joined-template given n first [] (child ∷ children) same = absurd (omega (arith, same))
joined-template given n first (next ∷ rest) [] same = absurd (omega (arith, same))
joined-template given n first (next ∷ rest) (child ∷ children) same =
    let below = joined-template given (n + 1) next rest children (omega (arith, same)) in
    joined-quasi first (unknown ∷ template_parts (next ∷ rest)) (map given (child_paths n (child ∷ children)))
    ∙ ap (λ t. lossy_text first ++ (given (n ∷ []) ++ t)) below

joined-append : (ps qs : List ArgumentPart) (texts more : List (List ℕ)) → unknown_count ps ≡ length texts
    → joined (ps ++ qs) (texts ++ more) ≡ joined ps texts ++ joined qs more
unfolding unknown_count
joined-append [] qs [] more same = refl
joined-append [] qs (t ∷ texts) more same = absurd (omega (arith, same))
joined-append (known t ∷ ps) qs texts more same =
    ap (λ u. t ++ u) (joined-append ps qs texts more same)
    ∙ sym (append_assoc t (joined ps texts) (joined qs more))
joined-append (unknown ∷ ps) qs [] more same = absurd (omega (arith, same))
joined-append (unknown ∷ ps) qs (t ∷ texts) more same =
    ap (λ u. t ++ u) (joined-append ps qs texts more (omega (arith, same)))
    ∙ sym (append_assoc t (joined ps texts) (joined qs more))

unknown_count-append : (ps qs : List ArgumentPart)
    → unknown_count (ps ++ qs) ≡ unknown_count ps + unknown_count qs
unfolding unknown_count
unknown_count-append [] qs = omega arith
unknown_count-append (known t ∷ ps) qs = unknown_count-append ps qs
unknown_count-append (unknown ∷ ps) qs = omega (arith, unknown_count-append ps qs)

-- one operand: its part, its path if it is unknown, and its text
length-unknown_path : (path : NodePath) (node : Node) (kind : Kind) → kind_of node ≡ kind
    → unknown_count (part_of node ∷ []) ≡ length (unknown_path path node)
unfolding unknown_count
length-unknown_path path node (Str points) is = rw (is)
length-unknown_path path node _ is = rw (is)

count_paths : (path : NodePath) (steps : List SpineStep) (first : Node)
    → unknown_count (map part_of (operands_of steps first)) ≡ length (unknown_operands path steps first)
unfolding unknown_count
count_paths path [] first = length-unknown_path path first (kind_of first) refl
count_paths path (step ∷ below) first =
    ap unknown_count (map-append part_of (operands_of below first) (step.right ∷ []))
    ∙ omega (
      arith,
      unknown_count-append (map part_of (operands_of below first)) (part_of step.right ∷ []),
      count_paths (path ++ 0 ∷ []) below first,
      length-unknown_path (path ++ 1 ∷ []) step.right (kind_of step.right) refl,
      length-append (unknown_operands (path ++ 0 ∷ []) below first)
          (unknown_path (path ++ 1 ∷ []) step.right),
    )

-- the text of a right operand
contributes : (given : Assignment) (path : NodePath) (node : Node) (kind : Kind) → kind_of node ≡ kind
    → IsReadableAt kind
    → ContributesAt given path kind (joined (part_of node ∷ []) (map given (unknown_path path node)))
contributes given path node (Str points) is readable = (readable, rw is (append-nil (lossy_text points)))
contributes given path node _ is readable = rw is (append-nil (given path))

add_of : (op : BinaryOp) → is_add op ≡ true → op ≡ Add
add_of Add is = refl
add_of _ is = cc

string_points : (kind : Kind) → is_string kind ≡ true → (points : List ℕ) × (kind ≡ Str points)
string_points (Str points) is = (points, refl)
string_points _ is = cc

first_text : (given : Assignment) (path : NodePath) (node : Node) (points : List ℕ)
    → kind_of node ≡ Str points → IsReadable points
    → HasText given path node (joined (part_of node ∷ []) (map given (unknown_path path node)))
first_text given path node points is readable =
    let same : joined (part_of node ∷ []) (map given (unknown_path path node)) ≡ lossy_text points =
    rw is (append-nil (lossy_text points)) in
    subst (HasText given path node) (sym same) (of_string path node points is readable)

both_true : (a b : Bool) → (a && b) ≡ true → (a ≡ true) × (b ≡ true)
both_true true b is = (refl, is)
both_true false b is = cc

-- a sum's parts spell its text
sum_text : (given : Assignment) (path : NodePath) (node : Node) (steps : List SpineStep) (first : Node)
    → LeftSpine node steps first
    → is_string (kind_of first) ≡ true → list_all (λ (step : SpineStep). is_add step.operator) steps ≡ true
    → All (λ operand. IsReadableAt (kind_of operand)) (operands_of steps first)
    → HasText given path node
    (joined (map part_of (operands_of steps first)) (map given (unknown_operands path steps first)))
sum_text given path node [] first spine string sums readable =
    let points = string_points (kind_of first) string in
    let here = subst IsReadableAt points.1
    (All-head (λ operand. IsReadableAt (kind_of operand)) first [] readable) in
    subst (λ n. HasText given path n (joined (part_of first ∷ []) (map given (unknown_path path first))))
    (sym spine.0)
    (first_text given path first points.0 points.1 here)
sum_text given path node (step ∷ below) first spine string sums readable =
    let adds = both_true (is_add step.operator)
    (list_all (λ (s : SpineStep). is_add s.operator) below) sums in
    let split = All-pop (λ operand. IsReadableAt (kind_of operand)) (operands_of (step ∷ below) first)
    (operands_of below first) (Some step.right) refl readable in
    let left = spine.1.0 in
    let right = step.right in
    let front = sum_text given (path ++ 0 ∷ []) left below first spine.1.2 string adds.1 split.0 in
    let back = contributes given (path ++ 1 ∷ []) right (kind_of right) refl split.1 in
    let ps = map part_of (operands_of below first) in
    let paths = unknown_operands (path ++ 0 ∷ []) below first in
    let same : joined (map part_of (operands_of below first ++ right ∷ []))
    (map given (paths ++ unknown_path (path ++ 1 ∷ []) right))
    ≡ joined ps (map given paths)
    ++ joined (part_of right ∷ []) (map given (unknown_path (path ++ 1 ∷ []) right)) =
    ap (λ qs. joined qs (map given (paths ++ unknown_path (path ++ 1 ∷ []) right)))
    (map-append part_of (operands_of below first) (right ∷ []))
    ∙ ap (joined (ps ++ part_of right ∷ [])) (map-append given paths (unknown_path (path ++ 1 ∷ []) right))
    ∙ joined-append ps (part_of right ∷ []) (map given paths)
    (map given (unknown_path (path ++ 1 ∷ []) right))
    (count_paths (path ++ 0 ∷ []) below first ∙ sym (length-map paths given)) in
    subst (HasText given path node) (sym same)
    (of_sum path node left right _ _ (spine.0 ∙ ap Binary (add_of step.operator adds.0)) spine.1.1 front back)

-- a sum of any form spells its text
spells_sum : (given : Assignment) (node : Node) (op : BinaryOp) (steps : List SpineStep) (first : Node)
    (string sums : Bool)
    → kind_of node ≡ Binary op → LeftSpine node steps first
    → is_string (kind_of first) ≡ string → list_all (λ (step : SpineStep). is_add step.operator) steps ≡ sums
    → HasReadableLiteralsAt (Binary op) node
    → SpellsUnder given node
    (if string && sums then parts (map part_of (operands_of steps first)) else expression)
spells_sum given node op steps first false sums is spine string all_sums readable = tt
spells_sum given node op steps first true false is spine string all_sums readable = tt
spells_sum given node op steps first true true is spine string all_sums readable = (
  unknown_operands [] steps first,
  subst (λ k. AreUnknownsAt k node (unknown_operands [] steps first)) (sym is) (steps, first, spine, refl),
  count_paths [] steps first,
  sum_text given [] node steps first spine string all_sums (readable steps first spine),
)

-- a template has as many unknown parts as children
count_quasi : (quasi : List ℕ) (ps : List ArgumentPart)
    → unknown_count (quasi_part quasi ++ ps) ≡ unknown_count ps
unfolding unknown_count
count_quasi [] ps = refl
count_quasi (c ∷ points) ps = refl

count_rest : (rest : List (List ℕ))
    → unknown_count (flat_map (λ quasi. unknown ∷ quasi_part quasi) rest) ≡ length rest
unfolding unknown_count
count_rest [] = refl
count_rest (quasi ∷ rest) =
    omega (
      arith,
      count_quasi quasi (flat_map (λ q. unknown ∷ quasi_part q) rest),
      count_rest rest,
    )

count_template : (first : List ℕ) (rest : List (List ℕ))
    → unknown_count (template_parts (first ∷ rest)) ≡ length rest
count_template first rest =
    count_quasi first (flat_map (λ quasi. unknown ∷ quasi_part quasi) rest) ∙ count_rest rest

length-child_paths : (n : ℕ) (children : List Node) → length (child_paths n children) ≡ length children
length-child_paths n [] = refl
length-child_paths n (child ∷ children) = omega (arith, length-child_paths (n + 1) children)

spells_template : (given : Assignment) (node : Node) (quasis : List (List ℕ)) → kind_of node ≡ Template quasis
    → length quasis ≡ length (children_of node) + 1 → All IsReadable quasis
    → SpellsUnder given node (template_form quasis)
spells_template given node [] is shape readable = absurd (omega (arith, shape))
spells_template given node (quasi ∷ []) is shape readable = of_template [] node (quasi ∷ []) is readable
spells_template given node (first ∷ next ∷ rest) is shape readable =
    let same = joined-template given 0 first (next ∷ rest) (children_of node) (omega (arith, shape)) in (
      child_paths 0 (children_of node),
      subst (λ k. AreUnknownsAt k node (child_paths 0 (children_of node))) (sym is) refl,
      omega (
        arith,
        shape,
        count_template first (next ∷ rest),
        length-child_paths 0 (children_of node),
      ),
      subst (HasText given [] node) (sym same) (of_template [] node (first ∷ next ∷ rest) is readable),
    )

spells_at : (given : Assignment) (node : Node) (form : Form) (kind : Kind) → kind_of node ≡ kind
    → HasCountOfKind kind (length (children_of node)) → HasFormAt kind node form
    → HasReadableLiteralsAt kind node → SpellsUnder given node form
unfolding HasCountOfKind
spells_at given node form (Str points) is shape has readable =
    subst (SpellsUnder given node) (sym has) (of_string [] node points is readable)
spells_at given node form (Template quasis) is shape has readable =
    subst (SpellsUnder given node) (sym has) (spells_template given node quasis is shape readable)
spells_at given node form (Binary op) is shape has readable =
    subst (SpellsUnder given node) (sym has.3)
    (spells_sum given node op has.0 has.1 (is_string (kind_of has.1))
    (list_all (λ (step : SpineStep). is_add step.operator) has.0) is has.2 refl refl readable)
spells_at given node form _ is shape has readable = subst (SpellsUnder given node) (sym has) tt

-- the form of a node spells its text under each assignment
pub spells : (node : Node) (form : Form) → HasCountOfKind (kind_of node) (length (children_of node))
    → HasForm node form → SpellsItsText node form
spells node form shape has given readable = spells_at given node form (kind_of node) refl shape has readable
