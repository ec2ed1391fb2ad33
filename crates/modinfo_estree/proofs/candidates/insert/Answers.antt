use Rattle.std.proofs.Common.{arith, map, refl, sym, ap, ◌∙◌}
use Rattle.deno_graph_base.specs.TextMap.{insert_entry}
use Rattle.modinfo_estree.specs.internal.Candidates.{entry_of}
use Rattle.modinfo_estree.proofs.InnerMembers.{replaced_at}
use Rattle.modinfo_estree.proofs.candidates.insert.Goals as goal

pub returns-in-Equal : goal.returns-in-Equal
returns-in-Equal c =
    let kept = c.loop-at.invariant in
    replaced_at c.loop-at.found.items c.loop-at.at c.args.name.now c.args.value c.index.result.now
    c.index_mut.result.now _ (omega (arith, c.loop-at-test.true, c.len.ensures)) c.index.ensures
    c.index_mut.ensures.value
    (sym c.cmp.ensures ∙ c.in-Equal.is) refl refl
    ∙ sym kept.2 ∙ ap (λ xs. insert_entry (map entry_of xs) c.args.name.now c.args.value) kept.1
