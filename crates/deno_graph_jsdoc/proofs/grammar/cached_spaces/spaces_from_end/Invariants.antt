-- The white space after the braces, from the end of the text back to where the search for the next brace
-- begins.
use Rattle.std.proofs.Common.{◌≡◌, ℕ, List, ◌++◌, length}
use denote.Text.{Utf8}
use denote.Shadow.{shadow}
use Rattle.std.specs.Str.{chars}
use Rattle.deno_graph_jsdoc.specs.internal.Cache.{AreCachedSpaces}
use Rattle.deno_graph_jsdoc.proofs.grammar.cached_spaces.spaces_from_end.Given as goal

abbrev pub invariant-loop-sooner : goal.invariant-loop-sooner
invariant-loop-sooner l = record {
  utf8 : shadow (Utf8 l.before);
  back : List ℕ;
  whole : l.text ≡ l.before ++ back;
  cache : AreCachedSpaces (chars l.text) l.cache.items;
}

abbrev pub decreases-loop-sooner : goal.decreases-loop-sooner
decreases-loop-sooner l = length l.before
