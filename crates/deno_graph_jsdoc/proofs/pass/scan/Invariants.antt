-- The imports found up to where the search for the next `import` begins, and the cache of the next brace
-- from there on.
use Rattle.std.proofs.Common.{◌≡◌, ◌+◌, ◌≤◌, List, ℕ, ◌++◌, length, map}
use denote.Text.{Utf8}
use denote.Shadow.{shadow}
use Rattle.std.specs.Str.{chars}
use Rattle.deno_graph_jsdoc.specs.JsDocImport.{import_of}
use Rattle.deno_graph_jsdoc.specs.internal.Braces.{Keeps}
use Rattle.deno_graph_jsdoc.specs.JsDocImports.{occurrences}
use Rattle.deno_graph_jsdoc.proofs.Passes.{Found}
use Rattle.deno_graph_jsdoc.proofs.Sites.{IsCut, word}
use Rattle.deno_graph_jsdoc.proofs.pass.scan.Given as goal

abbrev pub invariant-loop-before : goal.invariant-loop-before
invariant-loop-before l = record {
  utf8 : shadow (Utf8 l.rest);
  front : List ℕ;
  whole : chars l.text ≡ front ++ chars l.rest;
  cut : IsCut front;
  found : Found (chars l.text) (map import_of l.imports.items) l.dynamic_starts l.decl_starts front front;
  keeps : Keeps (chars l.rest) l.cache;
  few : l.dynamic_starts + occurrences word (chars l.rest) ≤ occurrences word (chars l.text);
}

abbrev pub decreases-loop-before : goal.decreases-loop-before
decreases-loop-before l = length l.rest
