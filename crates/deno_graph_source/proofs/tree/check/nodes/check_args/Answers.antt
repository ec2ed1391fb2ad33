use Rattle.std.proofs.Common.{◌≡◌, ℕ, false, get_or}
use Rattle.std.specs.List.{slice_get}
use Rattle.std.specs.Option.{IsSomeAnd}
use Rattle.std.proofs.lemmas.List.{take_all}
use Rattle.std.proofs.lemmas.List.Elements.{All-more}
use Rattle.std.proofs.lemmas.Option.{slice_get-get_or}
use Rattle.deno_graph_source.proofs.Judgements.{returned}
use Rattle.deno_graph_source.proofs.NodePaths.{some_and}
use Rattle.deno_graph_source.specs.FaultPlace.{RangeHas}
use Rattle.deno_graph_base.specs.SourceRange.{IsTextRange}
use Rattle.deno_graph_source.specs.declared.tree.check.finding.PartFinding.{PartFinding}
use Rattle.deno_graph_source.specs.declared.tree.fault_place.NodePart.TheVariants.{Argument}
use Rattle.deno_graph_source.specs.declared.tree.node.Arg.{Arg}
use Rattle.deno_graph_source.proofs.tree.check.nodes.check_args.Goals as goal

-- an index after the end of a list has no element
abbrev no_arg : Arg
no_arg = record { spread = false; range = record { start = 0; end = 0 } }

pub returns-in_err-check_part : goal.returns-in_err-check_part
returns-in_err-check_part c =
    let text = c.args.text.now in
    let args = c.args.args.now in
    let here = c.loop-number.number in
    let G : PartFinding → Type 0 = λ found. (number : ℕ) × (found.part ≡ Argument number)
    × IsSomeAnd (slice_get args number) (λ arg. RangeHas text found.fault arg.range) in
    returned _ G _ _ c.from_residual.ensures.1 (
      here,
      c.in_err-check_part.ensures.0,
      some_and _ (slice_get args here) (get_or args here no_arg)
          (slice_get-get_or args here no_arg c.loop-number-test.true) c.in_err-check_part.ensures.1,
    )

pub loop-number-preserved : goal.loop-number-preserved
loop-number-preserved c =
    All-more (λ a. IsTextRange c.args.text.now a.range) c.args.args.now _ no_arg c.loop-number-test.true
    c.loop-number.invariant c.in_ok-check_part.ensures

pub returns : goal.returns
returns c = rw (take_all _ _ c.loop-number-test.false) at c.loop-number.invariant
