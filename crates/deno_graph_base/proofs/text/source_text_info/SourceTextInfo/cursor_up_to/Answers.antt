use Rattle.std.proofs.Common.{◌≡◌, ◌-◌, rules, of_calls, arith, subst, sym, ap, ◌∙◌, length, leb}
use Rattle.std.specs.Rc.{rc_str_bytes}
use Rattle.std.specs.Str.{IsUtf8}
use Rattle.std.proofs.lemmas.Str.{IsUtf8-string_bytes}
use Rattle.std.proofs.lemmas.Bool.Decides.{nat_tests}
use Rattle.std.proofs.lemmas.List.Sorted.{IsPartitionedBy-leb, IsPartitionPoint-from_clause}
use Rattle.deno_graph_base.specs.internal.Cursor.{IsCursor, AreCheckpoints}
use Rattle.deno_graph_base.specs.declared.text.cursor.Cursor.{Cursor}
use Rattle.deno_graph_base.proofs.CheckpointLemmas.{near_passed}
use Rattle.deno_graph_base.proofs.text.source_text_info.SourceTextInfo.cursor_up_to.Goals as goal

pub returns-in-0-clause-cursor : goal.returns-in-0-clause-cursor
returns-in-0-clause-cursor c =
    let utf8 : IsUtf8 (rc_str_bytes c.self.inside.text) = IsUtf8-string_bytes c.self.inside.text.text.value in
    subst (λ text. IsCursor text c.start.result) c.self.view_is
    (c.start.ensures.cursor (rc_str_bytes c.self.inside.text) utf8)

start : Cursor
start = record { offset = 0; position = record { line = 0; character = 0 } }

pub returns-in_default-clause-before : goal.returns-in_default-clause-before
unfolding start
returns-in_default-clause-before c =
    let cursors = c.as_slice-cursors.result.now in
    let same : cursors ≡ c.self.inside.checkpoints.value.items =
    c.as_slice-cursors.ensures.value ∙ ap (λ v. v.items) c.deref.ensures in
    let are : AreCheckpoints (rc_str_bytes c.self.inside.text) cursors =
    subst (AreCheckpoints (rc_str_bytes c.self.inside.text)) (sym same) c.self.invariant in
    let parts = IsPartitionedBy-leb (λ (cursor : Cursor). cursor.offset) cursors c.args.offset
    are.ordered.ascending in
    let point = IsPartitionPoint-from_clause (λ (cursor : Cursor). leb cursor.offset c.args.offset) cursors
    c.partition_point.result c.partition_point.ensures.partitioned parts
    (λ a r f k. search (rules, of_calls)) in
    let passed = point.0 (c.partition_point.result - 1) start (omega arith) (omega arith) in
    grind (arith, nat_tests)

pub returns-in-0-clause-near : goal.returns-in-0-clause-near
returns-in-0-clause-near c = λ within.
    let cursors = c.as_slice-cursors.result.now in
    let same : cursors ≡ c.self.inside.checkpoints.value.items =
    c.as_slice-cursors.ensures.value ∙ ap (λ v. v.items) c.deref.ensures in
    let are : AreCheckpoints (rc_str_bytes c.self.inside.text) cursors =
    subst (AreCheckpoints (rc_str_bytes c.self.inside.text)) (sym same) c.self.invariant in
    let parts = IsPartitionedBy-leb (λ (cursor : Cursor). cursor.offset) cursors c.args.offset
    are.ordered.ascending in
    let point = IsPartitionPoint-from_clause (λ (cursor : Cursor). leb cursor.offset c.args.offset) cursors
    c.partition_point.result c.partition_point.ensures.partitioned parts
    (λ a r f k. search (rules, of_calls)) in
    let end = near_passed cursors c.partition_point.result (λ (cursor : Cursor). leb cursor.offset
    c.args.offset)
    c.args.offset start are.ordered.ascending point.1 (λ k e inside up. grind (arith, nat_tests))
    c.partition_point.ensures.bound (are.near c.args.offset (omega (
      arith,
      within,
      ap length
          c.self.view_is,
    ))) in
    omega (arith, end.0 c.in-0.is)

pub returns-in_default-clause-near : goal.returns-in_default-clause-near
unfolding start
returns-in_default-clause-near c = λ within.
    let cursors = c.as_slice-cursors.result.now in
    let same : cursors ≡ c.self.inside.checkpoints.value.items =
    c.as_slice-cursors.ensures.value ∙ ap (λ v. v.items) c.deref.ensures in
    let are : AreCheckpoints (rc_str_bytes c.self.inside.text) cursors =
    subst (AreCheckpoints (rc_str_bytes c.self.inside.text)) (sym same) c.self.invariant in
    let parts = IsPartitionedBy-leb (λ (cursor : Cursor). cursor.offset) cursors c.args.offset
    are.ordered.ascending in
    let point = IsPartitionPoint-from_clause (λ (cursor : Cursor). leb cursor.offset c.args.offset) cursors
    c.partition_point.result c.partition_point.ensures.partitioned parts
    (λ a r f k. search (rules, of_calls)) in
    let end = near_passed cursors c.partition_point.result (λ (cursor : Cursor). leb cursor.offset
    c.args.offset)
    c.args.offset start are.ordered.ascending point.1 (λ k e inside up. grind (arith, nat_tests))
    c.partition_point.ensures.bound (are.near c.args.offset (omega (
      arith,
      within,
      ap length
          c.self.view_is,
    ))) in
    end.1 (omega arith)
