use Rattle.std.proofs.Common.{[], ◌∷◌, Some, None, length, length-append, sym, ap, subst, ◌∙◌}
use Rattle.serde_json.specs.Data.{array}
use Rattle.serde_json.specs.Find.{at}
use Rattle.deno_graph_json.specs.Data.{data_of, elements_data}
use Rattle.deno_graph_json.specs.Read.Partial.{reads_items}
use Rattle.deno_graph_json.proofs.ArrayElements.{AreFrom, elements_next, from_here, from_next}
use Rattle.deno_graph_json.proofs.Reading.{before, error_around, items_done, items_error, items_more}
use Rattle.modinfo_estree.proofs.required.read_each.Goals as goal

pub loop-value-preserved : goal.loop-value-preserved
loop-value-preserved g c =
    let kept = c.loop-value.invariant in
    let reads = g.T.ReadWith.reads c.args.context.now in
    let all = elements_data c.args.values in
    let left = elements_data c.loop-value.value-iterator in
    let rest = elements_data c.next.new.self in
    let d = data_of c.in-Some.value in
    let items = c.loop-value.items in
    let x = c.in-Ok.item in
    let first = elements_next c.loop-value.value-iterator c.next.new.self (Some c.in-Some.value)
    c.in-Some.ensures.steps in (
      kept.0 ∙ ap (λ ds. before items (reads_items reads ds)) first
          ∙ items_more reads items d rest x c.in-Ok.ensures
          ∙ ap (λ xs. before xs (reads_items reads rest)) (sym c.in_ok-push-in-Ok.ensures.ok),
      subst (λ n. AreFrom n all rest)
          (sym (ap (λ xs. length xs) c.in_ok-push-in-Ok.ensures.ok ∙ length-append items (x ∷ [])))
          (from_next (length items) all left rest d kept.1 first),
    )

pub returns-in-Err : goal.returns-in-Err
returns-in-Err g c =
    let kept = c.loop-value.invariant in
    let reads = g.T.ReadWith.reads c.args.context.now in
    let all = elements_data c.args.values in
    let left = elements_data c.loop-value.value-iterator in
    let rest = elements_data c.next.new.self in
    let d = data_of c.in-Some.value in
    let items = c.loop-value.items in
    let first = elements_next c.loop-value.value-iterator c.next.new.self (Some c.in-Some.value)
    c.in-Some.ensures.steps in
    let here = ap (λ n. at n (array all)) c.len-number.ensures
    ∙ from_here (length items) all left rest d kept.1 first in
    items_error (array all) reads (reads_items reads all) items d rest _
    (kept.0 ∙ ap (λ ds. before items (reads_items reads ds)) first)
    (error_around (array all) d (reads d) c.in-Err.error c.in_item.result
    (c.in_item.ensures.place (array all) d here) c.in_item.ensures.mismatch c.in-Err.ensures)

pub returns : goal.returns
returns g c =
    let reads = g.T.ReadWith.reads c.args.context.now in
    let none = elements_next c.loop-value.value-iterator c.next.new.self None c.in-None.ensures.steps in
    items_done reads _ c.loop-value.items
    (c.loop-value.invariant.0 ∙ ap (λ ds. before c.loop-value.items (reads_items reads ds)) none)
