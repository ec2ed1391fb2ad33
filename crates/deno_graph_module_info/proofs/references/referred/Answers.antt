use Rattle.std.proofs.Common.{◌≡◌, subst, refl}
use Rattle.deno_graph_pragmas.specs.Finders as finder
use Rattle.deno_graph_pragmas.specs.Match.{IsCapturedIn, IsQuotedIn, IsSliceIn, match_part_of}
use Rattle.deno_graph_pragmas.specs.Split.{HasSplit}
use Rattle.deno_graph_module_info.specs.References.{IsModeOf}
use Rattle.deno_graph_module_info.proofs.references.referred.Goals as goal

pub specifier_of_match-requires : goal.specifier_of_match-requires
specifier_of_match-requires c = record {
  spelled = c.requires;
  slice = subst (λ t. IsSliceIn t c.in-Some.found) c.as_str-text.ensures c.in-Some.ensures.slice;
  quoted = λ _. subst (λ t. IsQuotedIn t c.in-Some.found) c.as_str-text.ensures c.in-Some.ensures.quotes;
}

pub returns-in-Some-clause-is : goal.returns-in-Some-clause-is
returns-in-Some-clause-is c = record {
  part = match_part_of c.in-Some.found;
  is_captured =
      subst (λ t. IsCapturedIn finder.path_reference_pattern t c.in-Some.found) c.as_str-text.ensures
      c.in-Some.ensures.found;
  is_specifier = c.in_ok-specifier.ensures.is;
}

pub specifier_of_match-requires-in-Some-find_types_reference :
    goal.specifier_of_match-requires-in-Some-find_types_reference
specifier_of_match-requires-in-Some-find_types_reference c =
    let found = c.in-Some-find_types_reference.found in
    record {
      spelled = c.requires;
      slice = subst (λ t. IsSliceIn t found) c.as_str-text.ensures
          c.in-Some-find_types_reference.ensures.slice;
      quoted = λ _. subst (λ t. IsQuotedIn t found) c.as_str-text.ensures
          c.in-Some-find_types_reference.ensures.quotes;
    }

pub returns-in_ok-specifier-in-Some-find_types_reference-clause-is :
    goal.returns-in_ok-specifier-in-Some-find_types_reference-clause-is
returns-in_ok-specifier-in-Some-find_types_reference-clause-is c =
    let found = c.in-Some-find_types_reference.found in
    let text : c.as_str-text.result.now ≡ c.args.comment.now.text = c.as_str-text.ensures in
    let no_path = c.in_default.ensures.none.0 refl in (
      (λ has. subst (λ t. ¬ HasSplit finder.path_reference_pattern t) text no_path has.split),
      record {
        part = match_part_of found;
        is_captured = subst (λ t. IsCapturedIn finder.types_reference_pattern t found) text
            c.in-Some-find_types_reference.ensures.found;
        is_specifier = (c.in_ok-specifier-in-Some-find_types_reference).ensures.is;
      },
      subst (λ t. IsModeOf t c.resolution_mode-resolution_mode.result) text
          c.resolution_mode-resolution_mode.ensures,
    )

pub returns-in-None-clause-is : goal.returns-in-None-clause-is
returns-in-None-clause-is c =
    let text : c.as_str-text.result.now ≡ c.args.comment.now.text = c.as_str-text.ensures in (
      (λ has. subst (λ t. ¬ HasSplit finder.path_reference_pattern t) text
          (c.in_default.ensures.none.0 refl) has.split),
      (λ has. subst (λ t. ¬ HasSplit finder.types_reference_pattern t) text
          (c.in-None.ensures.none.0 refl) has.split),
    )
