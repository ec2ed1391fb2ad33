-- The text after each comma is an end of the text.
use Rattle.std.proofs.Common.{lit<, ◌≡◌, List, ℕ, ◌∷◌, ◌++◌, length, sym, ap, ◌∙◌, subst, append_assoc, rules}
use Rattle.std.proofs.lemmas.List.Elements.{All-push}
use Rattle.std.proofs.lemmas.Str.{encodes-chars}
use Rattle.std.specs.Str.{IsUtf8, chars}
use Rattle.deno_graph_jsdoc.specs.Characters.{comma}
use Rattle.deno_graph_jsdoc.specs.internal.Cache.{AreCached, IsCached}
use Rattle.deno_graph_jsdoc.specs.declared.grammar.cached_lists.CachedList.{CachedList}
use Rattle.deno_graph_jsdoc.proofs.Cached.{AreCached-back, OfEnd-one, after_mark_and_space}
use Rattle.deno_graph_jsdoc.proofs.Texts.{rsplit_bytes, after_mark}
use Rattle.deno_graph_jsdoc.proofs.grammar.cached_lists.lists_from_end.Goals as goal
use Rattle.deno_graph_jsdoc.proofs.grammar.cached_lists.lists_from_end.Goals.{In-Some, After-as_slice}

-- the comma that was found
split : (c : In-Some) → (after : List ℕ) × (c.args.text.now ≡ c.in-Some.sooner.now ++ comma ∷ after)
split c =
    let found = rsplit_bytes comma c.loop-sooner.before.now c.in-Some.sooner.now c.in-Some.field-0-1.now
    (lit< tt) c.in-Some.ensures.cases in (
      found.0 ++ c.loop-sooner.invariant.back,
      c.loop-sooner.invariant.whole ∙ ap (λ t. t ++ c.loop-sooner.invariant.back) found.1
          ∙ append_assoc c.in-Some.sooner.now (comma ∷ found.0) c.loop-sooner.invariant.back,
    )

pub range_from-requires : goal.range_from-requires
range_from-requires c =
    let here = (goal.at.range_from-requires c).In-Some in
    λ some. after_mark comma c.args.text.now c.in-Some.sooner.now (split here).0 c.utf8.text (lit< tt)
    (split here).1

-- the text after the comma and white space is an end of the text
input_at : (c : After-as_slice) → (front : List ℕ)
    × (chars c.args.text.now ≡ front ++ chars c.skip_space-input.result.now)
input_at c =
    let here = split (goal.at.After-as_slice c).In-Some in
    after_mark_and_space comma c.args.text.now c.in-Some.sooner.now here.0 c.range_from.result.now
    c.skip_space-input.result.now c.utf8.text (lit< tt) here.1 c.range_from.ensures.value
    c.skip_space-input.ensures

pub attributes-read-requires : goal.attributes-read-requires
attributes-read-requires c =
    let input = input_at (goal.at.attributes-read-requires c).After-as_slice in
    subst (AreCached (chars c.skip_space-input.result.now)) (sym c.as_slice.ensures.value)
    (AreCached-back (chars c.args.text.now) input.0 (chars c.skip_space-input.result.now)
    c.loop-sooner.cache.items input.1 c.loop-sooner.invariant.cache)

pub loop-sooner-preserved-in_ok-push : goal.loop-sooner-preserved-in_ok-push
loop-sooner-preserved-in_ok-push c =
    let at = goal.at.loop-sooner-preserved-in_ok-push c in
    let text = chars c.args.text.now in
    let input = input_at at.After-as_slice in
    let next = split at.In-Some in
    let list : CachedList = record {
      left = length c.skip_space-input.result.now;
      read = c.attributes-read.result;
    } in
    let utf8 : IsUtf8 c.skip_space-input.result.now = search rules in
    record {
      utf8 = search rules;
      back = comma ∷ next.0;
      whole = next.1;
      cache = subst (AreCached text) (sym c.in_ok-push.ensures.items)
          (All-push (IsCached text) c.loop-sooner.cache.items list c.loop-sooner.invariant.cache
          (OfEnd-one list.left _ text input.0 (chars c.skip_space-input.result.now) input.1
          (ap length (encodes-chars c.skip_space-input.result.now utf8)) c.attributes-read.ensures));
    }

pub loop-sooner-preserved : goal.loop-sooner-preserved
loop-sooner-preserved c =
    let next = split (goal.at.loop-sooner-preserved c).In-Some in
    record {
      utf8 = search rules;
      back = comma ∷ next.0;
      whole = next.1;
      cache = c.loop-sooner.invariant.cache;
    }
