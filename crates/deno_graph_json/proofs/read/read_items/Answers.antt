use Rattle.std.proofs.Common.{[], ◌∷◌, Some, None, length, length-append, sym, ap, subst, ◌∙◌}
use Rattle.serde_json.specs.Data.{array}
use Rattle.serde_json.specs.Find.{at}
use Rattle.deno_graph_json.specs.Data.{data_of, elements_data}
use Rattle.deno_graph_json.proofs.ArrayElements.{AreFrom, elements_next, from_begin, from_next, from_here}
use Rattle.deno_graph_json.proofs.Reading.{before, before_nil, items_more, items_error, items_done}
use Rattle.deno_graph_json.proofs.Reading.{whole_error}
use Rattle.deno_graph_json.specs.Read.Partial.{reads_items}
use Rattle.deno_graph_json.proofs.read.read_items.Goals as goal

pub loop-value-init : goal.loop-value-init
loop-value-init g c =
    let reads = reads_items g.T.FromJson.reads in
    let same = ap elements_data c.into_iter-value-iterator.ensures.into_iter_gives in (
      tt,
      tt,
      rw (c.in_ok-items.ensures, same) (sym (before_nil (reads (elements_data c.args.values)))),
      from_begin (length c.in_ok-items.items) _ _ (ap (λ xs. length xs) c.in_ok-items.ensures) same,
    )

pub loop-value-preserved : goal.loop-value-preserved
loop-value-preserved g c =
    let kept = c.loop-value.invariant in
    let all = elements_data c.args.values in
    let left = elements_data c.loop-value.value-iterator in
    let rest = elements_data c.next.new.self in
    let d = data_of c.in-Some.value in
    let reads = g.T.FromJson.reads in
    let items = c.loop-value.items in
    let x = c.in_ok-item.item in
    let first = elements_next c.loop-value.value-iterator c.next.new.self (Some c.in-Some.value)
    c.in-Some.ensures.steps in
    let here = ap (λ n. at n (array all)) c.len-number.ensures
    ∙ from_here (length items) all left rest d kept.3 first in (
      tt,
      tt,
      kept.2 ∙ ap (λ ds. before items (reads_items reads ds)) first
          ∙ items_more reads items d rest x (c.in_ok-item.ensures (array all) here)
          ∙ ap (λ xs. before xs (reads_items reads rest)) (sym c.in_ok-push.ensures.ok),
      subst (λ n. AreFrom n all rest)
          (sym (ap (λ xs. length xs) c.in_ok-push.ensures.ok ∙ length-append items (x ∷ [])))
          (from_next (length items) all left rest d kept.3 first),
    )

pub returns-in_err-item : goal.returns-in_err-item
returns-in_err-item g c =
    let kept = c.loop-value.invariant in
    let all = elements_data c.args.values in
    let left = elements_data c.loop-value.value-iterator in
    let rest = elements_data c.next.new.self in
    let d = data_of c.in-Some.value in
    let reads = g.T.FromJson.reads in
    let items = c.loop-value.items in
    let first = elements_next c.loop-value.value-iterator c.next.new.self (Some c.in-Some.value)
    c.in-Some.ensures.steps in
    let here = ap (λ n. at n (array all)) c.len-number.ensures
    ∙ from_here (length items) all left rest d kept.3 first in
    whole_error _ _ _ _ c.from_residual-in_err-item.ensures.1
    (items_error (array all) reads (reads_items reads all) items d rest _
    (kept.2 ∙ ap (λ ds. before items (reads_items reads ds)) first) (c.in_err-item.ensures (array all) here))

pub returns : goal.returns
returns g c =
    let reads = g.T.FromJson.reads in
    let none = elements_next c.loop-value.value-iterator c.next.new.self None c.in-None.ensures.steps in
    items_done reads _ c.loop-value.items
    (c.loop-value.invariant.2 ∙ ap (λ ds. before c.loop-value.items (reads_items reads ds)) none)
