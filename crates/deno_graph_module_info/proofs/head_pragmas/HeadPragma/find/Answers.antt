use Rattle.std.proofs.Common.{sym, ◌∙◌}
use Rattle.deno_graph_module_info.specs.internal.HeadPragma.{head_pragma}
use Rattle.deno_graph_module_info.proofs.Named.{block_from_not_line, match_in_comment, none_in_comment}
use Rattle.deno_graph_module_info.proofs.head_pragmas.HeadPragma.find.Goals.{else-is_quoteless-via-then-is_quoteless+else-eq}
use Rattle.deno_graph_module_info.proofs.head_pragmas.HeadPragma.find.Goals.{else-is_quoteless-via-else-is_quoteless}
use Rattle.deno_graph_module_info.proofs.head_pragmas.HeadPragma.find.Goals as goal

pub returns-clause-found : goal.returns-clause-found
returns-clause-found c =
    match_in_comment (head_pragma c.args.self) c.args.comment.now c.as_str.result.now c.find_in.result
    c.as_str.ensures
    (λ in_blocks. elim c.else-is_quoteless.branch [
      | else-is_quoteless-via-then-is_quoteless+else-eq w ↦
          block_from_not_line c.args.comment.now.kind (sym w.eq.ensures ∙ w.if-eq.false)
      | else-is_quoteless-via-else-is_quoteless w ↦ cc
    ])
    c.find_in.ensures.finds c.find_in.ensures.quotes

pub returns-clause-none : goal.returns-clause-none
returns-clause-none c =
    none_in_comment (head_pragma c.args.self) c.args.comment.now c.as_str.result.now c.find_in.result
    c.as_str.ensures c.find_in.ensures.finds
