-- No comment after the rest has the pragma.
use Rattle.std.proofs.Common.{◌≡◌, ◌++◌, List, All, length}
use Rattle.deno_graph_source.specs.Source.{IsSpelled}
use Rattle.deno_graph_source.specs.declared.tree.comments.DependencyComment.{DependencyComment}
use Rattle.deno_graph_module_info.specs.Pragma.{HasPragma, source_mapping_url_pragma}
use Rattle.deno_graph_module_info.proofs.source_map.analyze_source_map_url.Given as goal

abbrev pub invariant-search : goal.invariant-search
invariant-search l = record {
  after : List DependencyComment;
  whole : l.tail.comments.now ≡ l.rest ++ after;
  none_after : All (λ comment. ¬ HasPragma source_mapping_url_pragma comment) after;
  spelled : All (IsSpelled l.tail.text_info.now) l.rest;
}

abbrev pub decreases-search : goal.decreases-search
decreases-search l = length l.rest
