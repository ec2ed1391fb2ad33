-- No split begins in the text that is passed.
use Rattle.std.specs.Str.Iter.{chars_rest}
use Rattle.deno_graph_pragmas.proofs.Attributes.{IsPassed}
use Rattle.deno_graph_pragmas.proofs.finders.references.find_attribute.Given as goal

abbrev pub invariant-loop-c : goal.invariant-loop-c
invariant-loop-c l = record {
  passed : IsPassed l.name l.text (chars_rest l.rest);
}
