use Rattle.std.proofs.Common.{◌≤◌, ◌++◌, length, refl, rules, sym, ap, subst, ◌∙◌}
use Rattle.std.proofs.lemmas.Bool.{both_ways}
use Rattle.std.specs.Str.{chars}
use Rattle.std.specs.Str.Iter.{chars_rest}
use lib.Utf8.{encode}
use Rattle.deno_graph_pragmas.specs.Finders.{attribute}
use Rattle.deno_graph_pragmas.specs.Match.{match_part_of}
use Rattle.deno_graph_pragmas.specs.internal.Reading.{HasNoAttribute}
use Rattle.deno_graph_pragmas.specs.Split.{IsCaptured}
use Rattle.deno_graph_pragmas.proofs.Captured.{attribute_in_quotes, captured_slice}
use Rattle.deno_graph_pragmas.proofs.Attributes.{passed_more, rest_le, found_here, no_more}
use Rattle.deno_graph_pragmas.proofs.Found.{finds_none_in_quotes, some_answer}
use Rattle.deno_graph_pragmas.proofs.finders.references.find_attribute.Goals as goal
use Rattle.deno_graph_pragmas.proofs.finders.references.find_attribute.Goals.{else-is_whitespace-via-else-is_whitespace}
use Rattle.deno_graph_pragmas.proofs.finders.references.find_attribute.Goals.{else-is_whitespace-via-then-is_whitespace+in-None-1}

pub attribute_at-requires-clause-rest : goal.attribute_at-requires-clause-rest
attribute_at-requires-clause-rest c =
    let less = rest_le c.args.name.now c.args.text.now _ _ c.in-Some.c c.utf8.text c.loop-c.invariant.passed
    c.in-Some.ensures.steps.0 in
    subst (λ t. length t ≤ length c.args.text.now) (sym c.as_str.ensures) less

captured : (c : goal.In-Some-attribute_at)
    → IsCaptured (attribute c.args.name.now) c.args.text.now (match_part_of c.in-Some-attribute_at.found)
captured c =
    let here = c.in-Some.ensures.steps.0 ∙ ap (λ t. encode c.in-Some.c ++ t) (sym c.as_str.ensures) in
    found_here c.args.name.now c.args.text.now _ _ c.in-Some.c _ c.utf8.text c.loop-c.invariant.passed here
    (sym c.if-is_whitespace.ensures) c.in-Some-attribute_at.ensures.found

pub returns-in-Some : goal.returns-in-Some
returns-in-Some c =
    let is = captured c in
    record {
      found = is;
      none = some_answer is.split;
      slice = captured_slice (attribute c.args.name.now) _ _ c.utf8.text is;
      quotes = attribute_in_quotes c.args.name.now _ _ c.utf8.text is;
    }

pub loop-c-preserved : goal.loop-c-preserved
loop-c-preserved c =
    let name = c.args.name.now in
    let more = passed_more name c.args.text.now _
    (chars_rest c.next.new.self) c.in-Some.c c.loop-c.invariant.passed c.in-Some.ensures.steps.0 in
    record {
      passed = elim c.else-is_whitespace.branch [
        | else-is_whitespace-via-else-is_whitespace w ↦ more
            (λ white. absurd (both_ways _ (sym w.if-is_whitespace.ensures) white))
        | else-is_whitespace-via-then-is_whitespace+in-None-1 w ↦ more (λ _. subst (λ t. HasNoAttribute name
            (chars t)) w.as_str.ensures (w.attribute_at.ensures.none (search rules)))
      ];
    }

pub returns : goal.returns
returns c =
    finds_none_in_quotes (attribute c.args.name.now) _ _ refl
    (no_more c.args.name.now c.args.text.now _ c.loop-c.invariant.passed c.in_default.ensures.steps.0.0)
