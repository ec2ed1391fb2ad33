-- A template that keeps the shape rules has a quasi, and the form of a node spells its text.
use Rattle.std.proofs.Common.{length, rules}
use Rattle.std.proofs.lemmas.Result.{IfOk-weaker}
use Rattle.deno_graph_source.specs.Node.{kind_of, children_of}
use Rattle.std.specs.Prelude.{IfOk}
use Rattle.deno_graph_dep.specs.Argument.{HasForm, form_seen, text}
use Rattle.deno_graph_dep.specs.Value.{SpellsItsText}
use Rattle.deno_graph_dep.proofs.Spelling.{spells}
use Rattle.deno_graph_dep.proofs.Spine.{has_quasi, keeps_here}
use Rattle.deno_graph_dep.proofs.argument.argument_of.Goals as goal

pub template_argument-requires : goal.template_argument-requires
unfolding kind_of
template_argument-requires c =
    let node = c.args.node.now in
    rw c.as_slice.ensures (has_quasi (kind_of node) _ (length (children_of node)) c.in-Template.is
    (keeps_here node c.requires))

pub returns-in-Str-clause-spells : goal.returns-in-Str-clause-spells
unfolding kind_of
returns-in-Str-clause-spells c =
    let node = c.args.node.now in
    let has : HasForm node (text c.to_str_lossy.result.now) = search rules in
    spells node (text c.to_str_lossy.result.now) (keeps_here node c.requires) has

pub returns-in-Template-clause-spells : goal.returns-in-Template-clause-spells
unfolding kind_of
returns-in-Template-clause-spells c =
    let node = c.args.node.now in
    let has : IfOk c.template_argument.result (λ a. HasForm node (form_seen a)) = search rules in
    IfOk-weaker c.template_argument.result (λ a. HasForm node (form_seen a))
    (λ a. SpellsItsText node (form_seen a))
    (λ a form. spells node (form_seen a) (keeps_here node c.requires) form) has

pub returns-in-Binary-clause-spells : goal.returns-in-Binary-clause-spells
returns-in-Binary-clause-spells c =
    let node = c.args.node.now in
    IfOk-weaker c.sum_argument.result (λ a. HasForm node (form_seen a))
    (λ a. SpellsItsText node (form_seen a))
    (λ a form. spells node (form_seen a) (keeps_here node c.requires) form) c.sum_argument.ensures
