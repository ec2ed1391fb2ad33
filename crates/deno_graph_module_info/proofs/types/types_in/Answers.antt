use Rattle.std.proofs.Common.{◌≡◌, inr, subst, refl}
use Rattle.deno_graph_pragmas.specs.Finders as finder
use Rattle.deno_graph_pragmas.specs.Match.{IsQuotedIn, IsSliceIn, match_part_of, pragma_part_of}
use Rattle.deno_graph_pragmas.specs.Split.{HasSplit, IsCaptured, IsSliceOf, IsInQuotes}
use Rattle.deno_graph_module_info.proofs.Named.{covers_as_written, deno_types_named, no_types_named}
use Rattle.deno_graph_module_info.proofs.Named.{ts_types_named}
use Rattle.deno_graph_module_info.proofs.types.types_in.Goals as goal

pub specifier_of_match-requires : goal.specifier_of_match-requires
specifier_of_match-requires c = record {
  spelled = c.requires;
  slice = subst (λ t. IsSliceIn t c.in-Some.found) c.as_str-text.ensures c.in-Some.ensures.slice;
  quoted = λ _. subst (λ t. IsQuotedIn t c.in-Some.found) c.as_str-text.ensures c.in-Some.ensures.quotes;
}

pub returns-in-Some : goal.returns-in-Some
returns-in-Some c =
    let part = match_part_of c.in-Some.found in
    record {
      is = ts_types_named c.args.text_info.now c.args.comment.now part _
          (subst (λ t. IsCaptured finder.ts_types_pattern t part) c.as_str-text.ensures
          c.in-Some.ensures.found)
          c.in_ok-specifier.ensures.is;
      covers = inr c.in_ok-specifier.ensures.covers;
    }

pub specifier_with_range-requires-clause-slice : goal.specifier_with_range-requires-clause-slice
specifier_with_range-requires-clause-slice c =
    subst (λ t. IsSliceOf t (pragma_part_of c.in-Some-find_deno_types.found)) c.as_str-text.ensures
    c.in-Some-find_deno_types.ensures.slice

pub specifier_with_range-requires-clause-quoted : goal.specifier_with_range-requires-clause-quoted
specifier_with_range-requires-clause-quoted c = λ is.
    subst (λ t. IsInQuotes t (pragma_part_of c.in-Some-find_deno_types.found)) c.as_str-text.ensures
    (c.in-Some-find_deno_types.ensures.quotes is)

pub returns-in_ok-specifier_with_range-in-Some-find_deno_types :
    goal.returns-in_ok-specifier_with_range-in-Some-find_deno_types
returns-in_ok-specifier_with_range-in-Some-find_deno_types c =
    let found = c.in-Some-find_deno_types.found in
    let part = pragma_part_of found in
    let text : c.as_str-text.result.now ≡ c.args.comment.now.text = c.as_str-text.ensures in
    record {
      is = deno_types_named c.args.text_info.now c.args.comment.now part found.is_quoteless _
          (subst (λ t. ¬ HasSplit finder.ts_types_pattern t) text (c.in_default.ensures.none.0 refl))
          (λ is. subst (λ t. IsCaptured finder.deno_types_pattern t part) text
          (c.in-Some-find_deno_types.ensures.quoted is))
          (λ is. subst (λ t. ¬ HasSplit finder.deno_types_pattern t
          × IsCaptured finder.quoteless_deno_types_pattern t part) text
          (c.in-Some-find_deno_types.ensures.quoteless is))
          (c.in_ok-specifier_with_range-in-Some-find_deno_types).ensures.is;
      covers = covers_as_written c.args.text_info.now found.is_quoteless _
          (c.in_ok-specifier_with_range-in-Some-find_deno_types).ensures.covers;
    }

pub returns-in-None-clause-is : goal.returns-in-None-clause-is
returns-in-None-clause-is c =
    let text : c.as_str-text.result.now ≡ c.args.comment.now.text = c.as_str-text.ensures in
    no_types_named c.args.comment.now
    (subst (λ t. ¬ HasSplit finder.ts_types_pattern t) text (c.in_default.ensures.none.0 refl))
    (subst (λ t. ¬ HasSplit finder.deno_types_pattern t
    × ¬ HasSplit finder.quoteless_deno_types_pattern t) text (c.in-None.ensures.none.0 refl))
