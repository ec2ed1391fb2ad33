-- The attributes that have been read, and the cache of the rest; each attribute leaves less of the text.
use Rattle.std.proofs.Common.{length}
use Rattle.std.specs.Str.{chars}
use denote.Shadow.{shadow}
use denote.Text.{Utf8}
use Rattle.deno_graph_jsdoc.specs.internal.Cache.{AreCached}
use Rattle.deno_graph_jsdoc.specs.internal.Reading.{chars_of}
use Rattle.deno_graph_jsdoc.proofs.Blocks.{SoFar}
use Rattle.deno_graph_jsdoc.proofs.grammar.attributes.attributes.Given as goal

abbrev pub invariant-loop-after : goal.invariant-loop-after
invariant-loop-after l =
    shadow (Utf8 l.rest) × SoFar (chars l.input) (chars l.rest) (chars_of l.name)
    × AreCached (chars l.rest) l.cache

abbrev pub decreases-loop-after : goal.decreases-loop-after
decreases-loop-after l = length (chars l.rest)
