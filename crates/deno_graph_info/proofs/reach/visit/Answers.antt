use Rattle.std.proofs.Common.{◌≡◌, [], ◌∷◌, Some, None, not, cond, bytes_eq, refl, sym, ap, ◌∙◌}
use Rattle.std.proofs.lemmas.List.{map-append}
use Rattle.deno_graph_base.proofs.TextEntries.{lookup-entries}
use Rattle.deno_graph_base.specs.TextMap.{entries_of, value_at}
use Rattle.deno_graph_info.proofs.Reaching.{grows-by, grows-not, none_there, no_key}
use Rattle.deno_graph_info.specs.internal.ReachSteps.{infos_of}
use Rattle.deno_graph_info.proofs.reach.visit.Goals as goal

pub returns-in_ok-insert-in-Some : goal.returns-in_ok-insert-in-Some
returns-in_ok-insert-in-Some c =
    let found : value_at (entries_of c.args.modules.now) c.args.key.now ≡ Some c.in-Some.info.now =
    sym (lookup-entries c.args.key.now c.args.modules.now.entries) ∙ sym c.in-Some.ensures.value in
    let none : value_at c.args.reached.now c.args.key.now ≡ None =
    none_there c.get-in-Some.result (value_at c.args.reached.now c.args.key.now) c.get-in-Some.ensures
    (c.is_none.ensures ∙ ap not c.if-is_none.true) in
    grows-by (entries_of c.args.modules.now) c.args.key.now c.in-Some.info.now tt c.args.reached.now
    c.insert.new.self (infos_of c.args.pending.now.items) (infos_of c.push.new.self.items) found none
    (λ k. c.in_ok-insert-in-Some.ensures.values k
    ∙ ap (λ t. cond (bytes_eq t k) (Some tt) (value_at c.args.reached.now k))
    c.in_ok-from_str-in-Some.ensures)
    (ap infos_of c.in_ok-push-in-Some.ensures.items
    ∙ map-append (λ info. info.now) c.args.pending.now.items (c.in-Some.info ∷ []))

pub returns-in-None : goal.returns-in-None
returns-in-None c =
    let found : value_at (entries_of c.args.modules.now) c.args.key.now ≡ None =
    sym (lookup-entries c.args.key.now c.args.modules.now.entries) ∙ sym c.in-None.ensures.value in
    grows-not (entries_of c.args.modules.now) c.args.key.now c.args.reached.now _
    (infos_of c.args.pending.now.items) _ (λ known. absurd (no_key _ found known)) refl refl
