use Rattle.std.proofs.Common.{◌≡◌, ◌-◌, rules, of_calls, arith, subst, sym, ap, ◌∙◌, inl, inr, not}
use Rattle.std.specs.Rc.{rc_str_bytes}
use Rattle.std.specs.Str.{IsUtf8}
use Rattle.std.proofs.lemmas.Str.{IsUtf8-string_bytes}
use Rattle.std.proofs.lemmas.Bool.{false≢true}
use Rattle.std.proofs.lemmas.List.Sorted.{IsPartitionPoint-from_clause}
use Rattle.deno_graph_base.specs.internal.Cursor.{IsCursor, AreCheckpoints, is_before}
use Rattle.deno_graph_base.specs.declared.text.cursor.Cursor.{Cursor}
use Rattle.deno_graph_base.specs.Position.{IsAt}
use Rattle.deno_graph_base.proofs.CheckpointLemmas.{partitioned, near_passed, passes_up_to}
use Rattle.deno_graph_base.proofs.PositionLemmas.{is_before-from}
use Rattle.deno_graph_base.proofs.text.source_text_info.SourceTextInfo.cursor_up_to_position.Goals as goal

pub returns-in-0-clause-cursor : goal.returns-in-0-clause-cursor
returns-in-0-clause-cursor c =
    let utf8 : IsUtf8 (rc_str_bytes c.self.inside.text) = IsUtf8-string_bytes c.self.inside.text.text.value in
    subst (λ text. IsCursor text c.start.result) c.self.view_is
    (c.start.ensures.cursor (rc_str_bytes c.self.inside.text) utf8)

pub returns-in-0-clause-before : goal.returns-in-0-clause-before
returns-in-0-clause-before c (inl line) = omega arith
returns-in-0-clause-before c (inr character) = omega arith

start : Cursor
start = record { offset = 0; position = record { line = 0; character = 0 } }

pub returns-in_default-clause-before : goal.returns-in_default-clause-before
unfolding start
returns-in_default-clause-before c =
    let cursors = c.as_slice-cursors.result.now in
    let same : cursors ≡ c.self.inside.checkpoints.value.items =
    c.as_slice-cursors.ensures.value ∙ ap (λ v. v.items) c.deref.ensures in
    let are : AreCheckpoints (rc_str_bytes c.self.inside.text) cursors =
    subst (AreCheckpoints (rc_str_bytes c.self.inside.text)) (sym same) c.self.invariant in
    let utf8 : IsUtf8 (rc_str_bytes c.self.inside.text) = IsUtf8-string_bytes c.self.inside.text.text.value in
    let parts = partitioned (rc_str_bytes c.self.inside.text) cursors c.args.position utf8 are.ordered in
    let point = IsPartitionPoint-from_clause (λ (cursor : Cursor). not
    (is_before c.args.position cursor.position)) cursors c.partition_point.result
    c.partition_point.ensures.partitioned parts (λ a r f k. search (rules, of_calls)) in
    let passed = point.0 (c.partition_point.result - 1) start (omega arith) (omega arith) in
    λ before. false≢true (ap not (sym (is_before-from c.args.position _ before)) ∙ passed)

pub returns-in-0-clause-near : goal.returns-in-0-clause-near
returns-in-0-clause-near c = λ offset is.
    let cursors = c.as_slice-cursors.result.now in
    let same : cursors ≡ c.self.inside.checkpoints.value.items =
    c.as_slice-cursors.ensures.value ∙ ap (λ v. v.items) c.deref.ensures in
    let are : AreCheckpoints (rc_str_bytes c.self.inside.text) cursors =
    subst (AreCheckpoints (rc_str_bytes c.self.inside.text)) (sym same) c.self.invariant in
    let utf8 : IsUtf8 (rc_str_bytes c.self.inside.text) = IsUtf8-string_bytes c.self.inside.text.text.value in
    let parts = partitioned (rc_str_bytes c.self.inside.text) cursors c.args.position utf8 are.ordered in
    let point = IsPartitionPoint-from_clause (λ (cursor : Cursor). not
    (is_before c.args.position cursor.position)) cursors c.partition_point.result
    c.partition_point.ensures.partitioned parts (λ a r f k. search (rules, of_calls)) in
    let found : IsAt (rc_str_bytes c.self.inside.text) c.args.position offset =
    subst (λ text. IsAt text c.args.position offset) (sym c.self.view_is) is in
    let end = near_passed cursors c.partition_point.result
    (λ (cursor : Cursor). not (is_before c.args.position cursor.position)) offset start are.ordered.ascending
    point.1 (passes_up_to (rc_str_bytes c.self.inside.text) cursors c.args.position offset utf8 are.ordered
    found)
    c.partition_point.ensures.bound (are.near offset found.0.0) in
    omega (arith, end.0 c.in-0.is)

pub returns-in_default-clause-near : goal.returns-in_default-clause-near
unfolding start
returns-in_default-clause-near c = λ offset is.
    let cursors = c.as_slice-cursors.result.now in
    let same : cursors ≡ c.self.inside.checkpoints.value.items =
    c.as_slice-cursors.ensures.value ∙ ap (λ v. v.items) c.deref.ensures in
    let are : AreCheckpoints (rc_str_bytes c.self.inside.text) cursors =
    subst (AreCheckpoints (rc_str_bytes c.self.inside.text)) (sym same) c.self.invariant in
    let utf8 : IsUtf8 (rc_str_bytes c.self.inside.text) = IsUtf8-string_bytes c.self.inside.text.text.value in
    let parts = partitioned (rc_str_bytes c.self.inside.text) cursors c.args.position utf8 are.ordered in
    let point = IsPartitionPoint-from_clause (λ (cursor : Cursor). not
    (is_before c.args.position cursor.position)) cursors c.partition_point.result
    c.partition_point.ensures.partitioned parts (λ a r f k. search (rules, of_calls)) in
    let found : IsAt (rc_str_bytes c.self.inside.text) c.args.position offset =
    subst (λ text. IsAt text c.args.position offset) (sym c.self.view_is) is in
    let end = near_passed cursors c.partition_point.result
    (λ (cursor : Cursor). not (is_before c.args.position cursor.position)) offset start are.ordered.ascending
    point.1 (passes_up_to (rc_str_bytes c.self.inside.text) cursors c.args.position offset utf8 are.ordered
    found)
    c.partition_point.ensures.bound (are.near offset found.0.0) in
    end.1 (omega arith)
