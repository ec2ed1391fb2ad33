-- The ranges of the arguments so far are ranges of the text.
use Rattle.std.proofs.Common.{take}
use Rattle.std.specs.List.{All}
use Rattle.deno_graph_base.specs.SourceRange.{IsTextRange}
use Rattle.deno_graph_source.proofs.tree.check.nodes.check_args.Given as goal

abbrev pub invariant-loop-number : goal.invariant-loop-number
invariant-loop-number l = All (λ arg. IsTextRange l.text arg.range) (take l.number l.args)
