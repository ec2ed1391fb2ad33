use Rattle.std.proofs.Common.{◌++◌, ◌∷◌, Some, refl, sym, ap, subst, ◌∙◌}
use Rattle.std.proofs.lemmas.Bool.{false≢true}
use Rattle.std.proofs.lemmas.List.{nil_from_length}
use Rattle.std.proofs.lemmas.List.Elements.{All-cons, All-pop, All-same}
use Rattle.deno_graph_source.specs.Source.{IsSpelled}
use Rattle.deno_graph_pragmas.specs.Finders as finder
use Rattle.deno_graph_pragmas.specs.Match.{IsCapturedIn, IsSliceIn, match_part_of}
use Rattle.deno_graph_pragmas.specs.Split.{HasSplit}
use Rattle.deno_graph_module_info.specs.Pragma.{HasPragma, source_mapping_url_pragma}
use Rattle.deno_graph_module_info.proofs.Named.{no_blocks, whole_at_last}
use Rattle.deno_graph_module_info.proofs.source_map.analyze_source_map_url.Goals as goal

pub specifier_of_match-requires : goal.specifier_of_match-requires
specifier_of_match-requires c = record {
  spelled = (All-pop (IsSpelled c.args.tail.text_info.now) c.search.rest.now c.in-Some.front.now
      (Some c.in-Some.comment.now) c.in-Some.ensures.cases.0 c.search.invariant.spelled).1;
  slice = subst (λ text. IsSliceIn text c.in-Some-find_source_mapping_url.found) c.as_str.ensures
      c.in-Some-find_source_mapping_url.ensures.slice;
  quoted = λ is. absurd (false≢true (sym is));
}

pub returns-in-Some-find_source_mapping_url : goal.returns-in-Some-find_source_mapping_url
returns-in-Some-find_source_mapping_url c =
    let comment = c.in-Some.comment.now in
    let found = c.in-Some-find_source_mapping_url.found in
    let captured = subst (λ text. IsCapturedIn finder.source_mapping_url_pattern text found) c.as_str.ensures
    c.in-Some-find_source_mapping_url.ensures.found in
    record {
      is = (
        comment,
        record {
          before = c.in-Some.front.now;
          after = c.search.invariant.after;
          whole = whole_at_last c.args.tail.comments.now c.search.rest.now c.in-Some.front.now
              c.search.invariant.after comment c.search.invariant.whole c.in-Some.ensures.cases.0;
          none_after = c.search.invariant.none_after;
          has = record { kind = no_blocks comment; split = captured.split };
        },
        record {
          part = match_part_of found;
          is_captured = captured;
          is_specifier = c.in_ok-specifier.ensures.is;
        },
      );
      covers = c.in_ok-specifier.ensures.covers;
    }

pub search-preserved : goal.search-preserved
search-preserved c =
    let comment = c.in-Some.comment.now in
    let after = c.search.invariant.after in
    let none = subst (λ text. ¬ HasSplit finder.source_mapping_url_pattern text) c.as_str.ensures
    (c.in_default-find_source_mapping_url.ensures.none.0 refl) in
    record {
      after = comment ∷ after;
      whole = whole_at_last c.args.tail.comments.now c.search.rest.now c.in-Some.front.now after comment
          c.search.invariant.whole c.in-Some.ensures.cases.0;
      none_after = All-cons (λ comment. ¬ HasPragma source_mapping_url_pragma comment) comment after
          (λ has. none has.split) c.search.invariant.none_after;
      spelled = (All-pop (IsSpelled c.args.tail.text_info.now) c.search.rest.now c.in-Some.front.now
          (Some comment) c.in-Some.ensures.cases.0 c.search.invariant.spelled).0;
    }

pub returns-clause-is : goal.returns-clause-is
returns-clause-is c =
    let empty = nil_from_length c.search.rest.now c.in_default.ensures.cases in
    All-same (λ comment. ¬ HasPragma source_mapping_url_pragma comment) c.args.tail.comments.now
    c.search.invariant.after
    (c.search.invariant.whole ∙ ap (λ rest. rest ++ c.search.invariant.after) empty)
    c.search.invariant.none_after
