use Rattle.std.proofs.Common.{refl}
use Rattle.deno_graph_source.proofs.LastSeparator.{split_at_last}
use Rattle.deno_graph_source.proofs.tree.media_type.file_name.split_last.Goals as goal

pub returns-clause-before : goal.returns-clause-before
returns-clause-before c =
    (split_at_last c.args.separator c.requires c.args.text.now _ _ _ c.rsplit_once.ensures.cases refl refl
    c.unwrap_or.ensures).0

pub returns-clause-after : goal.returns-clause-after
returns-clause-after c =
    (split_at_last c.args.separator c.requires c.args.text.now _ _ _ c.rsplit_once.ensures.cases refl refl
    c.unwrap_or.ensures).1
