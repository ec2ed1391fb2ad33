use Rattle.std.proofs.Common.{◌-◌, ◌<◌, ◌≤◌, Some, None, arith, slice_get, refl, sym, ap, subst, ◌∙◌}
use Rattle.serde_json.specs.Events.{items_len}
use Rattle.deno_graph_json.specs.Data.{data_of, elements_data}
use Rattle.deno_graph_json.specs.Read.Partial.{◌>>=◌, reads_items}
use Rattle.deno_graph_json.proofs.ArrayElements.{elements_counted, elements_next, from_begin, from_here}
use Rattle.deno_graph_json.proofs.ArrayElements.{from_next}
use Rattle.modinfo_document.specs.Comments.{comments_at, reads_comment, reads_entry}
use Rattle.modinfo_document.proofs.CommentLookup.{comment_leads, elsewhere, entry_array, none_left, past}
use Rattle.modinfo_document.proofs.CommentLookup.{within}
use Rattle.modinfo_document.proofs.lookup.comment_in.Goals as goal

pub loop-entry-init : goal.loop-entry-init
loop-entry-init c = (
  tt,
  tt,
  λ all is. (
    all,
    ap (λ es. reads_items reads_entry
        (elements_data es)) c.into_iter-entry-iterator.ensures.into_iter_gives ∙ is,
    refl,
  ),
  from_begin 0 _ _ refl (ap elements_data c.into_iter-entry-iterator.ensures.into_iter_gives),
  let same = ap (λ es. items_len (elements_data es)) c.into_iter-entry-iterator.ensures.into_iter_gives in
      omega (arith, same),
)

pub overflow_add-passed : goal.overflow_add-passed
overflow_add-passed c =
    let first = elements_next c.loop-entry.entry-iterator c.next.new.self (Some c.in-Some.entry)
    c.in-Some.ensures.steps in
    let counted = elements_counted c.args.entries in
    omega (arith, c.loop-entry.invariant.4, ap items_len first, counted, c.args.entries.count_fits)

pub returns-in_err-value-clause-comment : goal.returns-in_err-value-clause-comment
returns-in_err-value-clause-comment c = λ read is.
    let kept = c.loop-entry.invariant.2 read is in
    let first = elements_next c.loop-entry.entry-iterator c.next.new.self (Some c.in-Some.entry)
    c.in-Some.ensures.steps in
    let here = ap (reads_items reads_entry) (sym first) ∙ kept.1 in
    let count = c.len-filed.ensures in
    rw c.from_residual.ensures (
    ap (λ o. o >>= reads_comment) c.in_err-value.ensures.json
    ∙ within c.args.position (data_of c.in-Some.entry) (elements_data c.next.new.self) kept.0 here
    (elements_data c.in-Some-comments_at.comments) c.in-Some-comments_at.ensures c.loop-entry.left
    (subst (λ n. c.loop-entry.left < n) count c.if-left-filed.true)
    ∙ sym kept.2)

pub returns-then-left-filed-clause-comment : goal.returns-then-left-filed-clause-comment
returns-then-left-filed-clause-comment c = λ read is.
    let kept = c.loop-entry.invariant.2 read is in
    let first = elements_next c.loop-entry.entry-iterator c.next.new.self (Some c.in-Some.entry)
    c.in-Some.ensures.steps in
    let here = ap (reads_items reads_entry) (sym first) ∙ kept.1 in
    let count = c.len-filed.ensures in
    ap (λ o. o >>= reads_comment) c.in_ok-value.ensures.json
    ∙ within c.args.position (data_of c.in-Some.entry) (elements_data c.next.new.self) kept.0 here
    (elements_data c.in-Some-comments_at.comments) c.in-Some-comments_at.ensures c.loop-entry.left
    (subst (λ n. c.loop-entry.left < n) count c.if-left-filed.true)
    ∙ sym kept.2

-- The entry has the index that was counted.
pub returns-then-left-filed-clause-path : goal.returns-then-left-filed-clause-path
returns-then-left-filed-clause-path c =
    let first = elements_next c.loop-entry.entry-iterator c.next.new.self (Some c.in-Some.entry)
    c.in-Some.ensures.steps in
    let entry = data_of c.in-Some.entry in
    let values = elements_data c.in-Some-comments_at.comments in
    comment_leads (elements_data c.args.entries) values c.loop-entry.passed c.loop-entry.left entry
    (data_of c.in_ok-value.value)
    (from_here c.loop-entry.passed _ _ _ entry c.loop-entry.invariant.3 first)
    (entry_array c.args.position entry values c.in-Some-comments_at.ensures)
    (sym c.in_ok-value.ensures.json)

pub loop-entry-preserved-in-Some-comments_at : goal.loop-entry-preserved-in-Some-comments_at
loop-entry-preserved-in-Some-comments_at c =
    let first = elements_next c.loop-entry.entry-iterator c.next.new.self (Some c.in-Some.entry)
    c.in-Some.ensures.steps in (
      tt,
      tt,
      λ all is.
          let kept = c.loop-entry.invariant.2 all is in
          let here = ap (reads_items reads_entry) (sym first) ∙ kept.1 in
          let count = c.len-filed.ensures in
          let later = past c.args.position (data_of c.in-Some.entry) (elements_data c.next.new.self) kept.0
          here
          (elements_data c.in-Some-comments_at.comments) c.in-Some-comments_at.ensures c.loop-entry.left
          (subst (λ n. n ≤ c.loop-entry.left) count c.if-left-filed.false) in (
            later.0,
            later.1,
            kept.2 ∙ later.2 ∙ ap (λ n. slice_get (comments_at c.args.position later.0)
                (c.loop-entry.left - n)) (sym count),
          ),
      from_next c.loop-entry.passed _ _ _ (data_of c.in-Some.entry) c.loop-entry.invariant.3 first,
      omega (arith, c.loop-entry.invariant.4, ap items_len first),
    )

pub loop-entry-preserved : goal.loop-entry-preserved
loop-entry-preserved c =
    let first = elements_next c.loop-entry.entry-iterator c.next.new.self (Some c.in-Some.entry)
    c.in-Some.ensures.steps in (
      tt,
      tt,
      λ all is.
          let kept = c.loop-entry.invariant.2 all is in
          let here = ap (reads_items reads_entry) (sym first) ∙ kept.1 in
          let later = elsewhere c.args.position (data_of c.in-Some.entry)
          (elements_data c.next.new.self) kept.0 here c.in_default.ensures in
          (later.0, later.1, kept.2 ∙ ap (λ comments. slice_get comments c.loop-entry.left) later.2),
      from_next c.loop-entry.passed _ _ _ (data_of c.in-Some.entry) c.loop-entry.invariant.3 first,
      omega (arith, c.loop-entry.invariant.4, ap items_len first),
    )

pub returns-clause-comment : goal.returns-clause-comment
returns-clause-comment c = λ read is.
    let kept = c.loop-entry.invariant.2 read is in
    let none = elements_next c.loop-entry.entry-iterator c.next.new.self None c.in-None.ensures.steps in
    sym (kept.2 ∙ ap (λ rest. slice_get (comments_at c.args.position rest) c.loop-entry.left)
    (sym (none_left (elements_data c.loop-entry.entry-iterator) kept.0 none kept.1)))
