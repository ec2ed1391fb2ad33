use Rattle.std.proofs.Common.{refl, sym, subst}
use Rattle.deno_graph_pragmas.specs.Finders.{deno_types_pattern, quoteless_deno_types_pattern}
use Rattle.deno_graph_pragmas.specs.Split.{IsCaptured, IsSliceOf, IsInQuotes}
use Rattle.deno_graph_pragmas.proofs.finders.types.find_deno_types.Goals as goal

pub returns-in-Some-clause-quoted : goal.returns-in-Some-clause-quoted
returns-in-Some-clause-quoted c = λ _.
    subst (IsCaptured deno_types_pattern c.args.text.now) (sym c.new.ensures.part) c.in-Some.ensures.found

pub returns-in-Some-clause-slice : goal.returns-in-Some-clause-slice
returns-in-Some-clause-slice c =
    subst (IsSliceOf c.args.text.now) (sym c.new.ensures.part) c.in-Some.ensures.slice

pub returns-in-Some-clause-quotes : goal.returns-in-Some-clause-quotes
returns-in-Some-clause-quotes c = λ _.
    subst (IsInQuotes c.args.text.now) (sym c.new.ensures.part) c.in-Some.ensures.quotes

pub returns-in_ok-found-in-None-clause-quoteless : goal.returns-in_ok-found-in-None-clause-quoteless
returns-in_ok-found-in-None-clause-quoteless c = λ _. (
  c.in-None.ensures.none.0 refl,
  subst (IsCaptured quoteless_deno_types_pattern c.args.text.now)
      (sym c.new-in-None.ensures.part) c.in_ok-found-in-None.ensures.found,
)

pub returns-in_ok-found-in-None-clause-slice : goal.returns-in_ok-found-in-None-clause-slice
returns-in_ok-found-in-None-clause-slice c =
    subst (IsSliceOf c.args.text.now) (sym c.new-in-None.ensures.part) c.in_ok-found-in-None.ensures.slice
