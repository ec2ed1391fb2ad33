-- A sum: the descent so far is the upper part of the left spine.
use Rattle.std.proofs.Common.{◌≡◌, true, false, [], ◌∷◌, ◌++◌, map, ap, sym, ◌∙◌, reverse}
use Rattle.deno_graph_source.specs.Node.{kind_of}
use Rattle.deno_graph_dep.specs.Argument.{part_seen, is_sum, is_string, parts}
use Rattle.deno_graph_dep.proofs.Depth.{child_smaller}
use Rattle.deno_graph_dep.proofs.Spine.{plus_of, left_at, Descends-step, child_shaped, seen_push, step_with}
use Rattle.deno_graph_dep.proofs.Spine.{seen_reverse, has_spine, LeftSpine-join, LeftSpine-end}
use Rattle.deno_graph_dep.proofs.Spine.{sum_form-unknown, sum_form-known, HasFormAt-binary, Descends-all_sums}
use Rattle.deno_graph_dep.proofs.Spine.{string_is_no_binary}
use Rattle.deno_graph_dep.proofs.argument.sum_argument.Goals as goal

pub loop-operand-smaller : goal.loop-operand-smaller
loop-operand-smaller c =
    child_smaller c.loop-operand.operand.now c.operands.result.0.now 0
    (left_at c.loop-operand.operand.now c.operands.result.0.now c.operands.result.1.now c.operands.ensures)

pub loop-operand-preserved : goal.loop-operand-preserved
loop-operand-preserved c =
    let so_far = c.loop-operand.invariant in
    let operand = c.loop-operand.operand.now in
    let left = c.operands.result.0.now in
    let right = c.operands.result.1.now in
    let sum : is_sum (kind_of operand) ≡ true = sym c.is_sum.ensures ∙ c.loop-operand-test.true in
    let plus = plus_of (kind_of operand) sum in
    let at = left_at operand left right c.operands.ensures in
    record {
      above = so_far.above ++ step_with plus.0 right ∷ [];
      descends =
          Descends-step c.args.node.now operand left so_far.above (step_with plus.0 right) so_far.descends
          plus.1 plus.2 c.operands.ensures;
      shaped = child_shaped operand left 0 at so_far.shaped;
      parts =
          ap (map part_seen) c.in_ok-push.ensures.items
          ∙ seen_push part_seen c.loop-operand.parts.items c.operand_part.result so_far.above
          (step_with plus.0 right) so_far.parts c.operand_part.ensures;
    }

pub returns-then-not-is_string : goal.returns-then-not-is_string
returns-then-not-is_string c =
    let so_far = c.loop-operand.invariant in
    let operand = c.loop-operand.operand.now in
    let rest = has_spine operand so_far.shaped in
    let no_sum : is_sum (kind_of operand) ≡ false = sym c.is_sum.ensures ∙ c.loop-operand-test.false in
    let no_string : is_string (kind_of operand) ≡ false = sym c.is_string.ensures ∙ c.if-not-is_string.true in
    HasFormAt-binary (kind_of c.args.node.now) c.args.node.now _ c.requires.binary (
      so_far.above ++ rest.0,
      rest.1,
      LeftSpine-join c.args.node.now operand rest.1 so_far.above rest.0 so_far.descends rest.2,
      sym (sum_form-unknown operand rest.1 so_far.above rest.0 rest.2 no_sum no_string),
    )

pub returns : goal.returns
returns c =
    let so_far = c.loop-operand.invariant in
    let operand = c.loop-operand.operand.now in
    let string : is_string (kind_of operand) ≡ true = sym c.is_string.ensures ∙ c.if-not-is_string.false in
    HasFormAt-binary (kind_of c.args.node.now) c.args.node.now _ c.requires.binary (
      so_far.above,
      operand,
      LeftSpine-end c.args.node.now operand so_far.above so_far.descends
          (string_is_no_binary (kind_of operand) string),
      ap parts (ap (map part_seen) (c.reverse.ensures.items ∙ ap reverse c.in_ok-push-2.ensures.items)
          ∙ seen_reverse part_seen c.loop-operand.parts.items c.operand_part-2.result so_far.above operand
          so_far.parts c.operand_part-2.ensures)
          ∙ sym (sum_form-known so_far.above operand string
          (Descends-all_sums c.args.node.now operand so_far.above so_far.descends)),
    )
