use Rattle.std.proofs.Common.{◌+◌, arith, sym, ap, ◌∙◌}
use Rattle.deno_graph_json.proofs.FoundMembers.{keep_here, none_left, set_here, whole}
use Rattle.deno_graph_json.proofs.flat.find.set_named.Goals as goal
use Rattle.deno_graph_json.proofs.flat.find.set_named.Goals.{then-eq, else-eq}

pub loop-index-preserved : goal.loop-index-preserved
loop-index-preserved c =
    let index = c.loop-index.index in
    let found = c.loop-index.found in
    let so_far = whole c.args.names.now c.args.key.now c.args.value (index + 1) in
    let of_names = c.loop-index-test.true in
    let of_found = c.if-index-found.true in
    let kept = c.loop-index.invariant in (
      c.if-eq.auto.found ∙ kept.0,
      elim c.if-eq.branch [
        | then-eq w ↦
            ap so_far w.found-is
            ∙ set_here _ _ c.args.value index found _ of_names of_found (sym c.eq.ensures ∙ w.if-eq.true)
            ∙ kept.1
        | else-eq w ↦
            ap so_far w.found-is
            ∙ keep_here _ _ c.args.value index found _ of_names of_found (sym c.eq.ensures ∙ w.if-eq.false)
            ∙ kept.1
      ],
    )

pub returns-else-index-found-clause-found : goal.returns-else-index-found-clause-found
returns-else-index-found-clause-found c =
    sym (none_left c.args.names.now c.args.key.now c.args.value c.loop-index.index c.loop-index.found
    (omega (arith, c.if-index-found.false)))
    ∙ c.loop-index.invariant.1
