-- The text after each brace is an end of the text.
use Rattle.std.proofs.Common.{lit<, ◌≡◌, List, ℕ, ◌+◌, ◌∷◌, ◌++◌, length, take, sym, ap, ◌∙◌, subst}
use Rattle.std.proofs.Common.{append_assoc, rules}
use Rattle.std.proofs.lemmas.List.Elements.{All-push}
use Rattle.std.proofs.lemmas.Str.{encodes-chars}
use Rattle.std.specs.Str.{IsUtf8, chars}
use Rattle.deno_graph_jsdoc.specs.Characters.{closing_brace}
use Rattle.deno_graph_jsdoc.specs.internal.Cache.{AreCachedSpaces, IsCachedSpace}
use Rattle.deno_graph_jsdoc.specs.declared.grammar.cached_spaces.CachedSpace.{CachedSpace}
use Rattle.deno_graph_jsdoc.proofs.Cached.{OfEnd-one}
use Rattle.deno_graph_jsdoc.proofs.Texts.{rsplit_bytes, after_mark, cut_after_mark}
use Rattle.deno_graph_jsdoc.proofs.grammar.cached_spaces.spaces_from_end.Goals as goal
use Rattle.deno_graph_jsdoc.proofs.grammar.cached_spaces.spaces_from_end.Goals.{In-Some}

-- the brace that was found
split : (c : In-Some)
    → (after : List ℕ) × (c.args.text.now ≡ c.in-Some.sooner.now ++ closing_brace ∷ after)
split c =
    let found = rsplit_bytes closing_brace c.loop-sooner.before.now c.in-Some.sooner.now
    c.in-Some.field-0-1.now (lit< tt) c.in-Some.ensures.cases in (
      found.0 ++ c.loop-sooner.invariant.back,
      c.loop-sooner.invariant.whole ∙ ap (λ t. t ++ c.loop-sooner.invariant.back) found.1
          ∙ append_assoc c.in-Some.sooner.now (closing_brace ∷ found.0) c.loop-sooner.invariant.back,
    )

pub range_from-input-requires : goal.range_from-input-requires
range_from-input-requires c =
    let here = (goal.at.range_from-input-requires c).In-Some in
    λ some. after_mark closing_brace c.args.text.now c.in-Some.sooner.now (split here).0 c.utf8.text
    (lit< tt) (split here).1

pub loop-sooner-preserved-in_ok-push : goal.loop-sooner-preserved-in_ok-push
loop-sooner-preserved-in_ok-push c =
    let text = chars c.args.text.now in
    let next = split (goal.at.loop-sooner-preserved-in_ok-push c).In-Some in
    let input = c.range_from-input.result.now in
    let space : CachedSpace = record { left = length input; rest = c.skip_space-rest.result } in
    let utf8 : IsUtf8 input = search rules in
    let front = chars (take (length c.in-Some.sooner.now + 1) c.args.text.now) in
    let whole : text ≡ front ++ chars input =
    cut_after_mark closing_brace c.args.text.now c.in-Some.sooner.now next.0 c.utf8.text (lit< tt) next.1
    ∙ ap (λ t. front ++ chars t) (sym c.range_from-input.ensures.value) in
    record {
      utf8 = search rules;
      back = closing_brace ∷ next.0;
      whole = next.1;
      cache = subst (AreCachedSpaces text) (sym c.in_ok-push.ensures.items)
          (All-push (IsCachedSpace text) c.loop-sooner.cache.items space c.loop-sooner.invariant.cache
          (OfEnd-one space.left _ text front (chars input) whole (ap length (encodes-chars input utf8))
          c.skip_space-rest.ensures));
    }

pub loop-sooner-preserved : goal.loop-sooner-preserved
loop-sooner-preserved c =
    let next = split (goal.at.loop-sooner-preserved c).In-Some in
    record {
      utf8 = search rules;
      back = closing_brace ∷ next.0;
      whole = next.1;
      cache = c.loop-sooner.invariant.cache;
    }
