-- Each turn is one more piece.
use Rattle.std.proofs.Common.{IsTrue, ap, arith, subst, ◌∙◌}
use Rattle.modinfo_imports.specs.Sights.{watch_of}
use Rattle.modinfo_imports.proofs.Walks.{HasFound-walked, IsWalked-more, IsWalked-none, IsWalked-turns}
use Rattle.modinfo_imports.proofs.find.find.Goals as goal
use Rattle.modinfo_pieces.specs.Spots.{place_of}

pub pieces-init : goal.pieces-init
pieces-init c =
    IsWalked-none c.args.text.now c.args.is_typed c.args.choices.now c.args.claims.now c.args.marks.now _ _ _
    (ap (place_of c.start-spot.result) c.new-around.ensures ∙ c.start-spot.ensures)
    (ap (watch_of c.watch_start-seen.result) c.new-parentheses.ensures ∙ c.watch_start-seen.ensures)
    c.new-filing.ensures

pub pieces-preserved : goal.pieces-preserved
pieces-preserved c =
    let next = rw c.in-Some.is at (c.in_ok-step.ensures c.context_of-context.ensures) in
    let seen = rw c.in-Some-2.is at (c.in_ok-after.ensures
    (omega (arith, next.is_piece.start, next.is_piece.goes_on)) next.is_piece.is_within) in
    IsWalked-turns c.args.text.now c.args.is_typed c.args.choices.now c.args.claims.now c.args.marks.now
    _ _ _ _ _ _ _
    (IsWalked-more c.args.text.now c.args.is_typed c.args.choices.now c.args.claims.now c.args.marks.now
    (place_of c.pieces.spot c.pieces.around) _ c.context_of-context.result
    (watch_of c.pieces.seen c.pieces.parentheses) _ c.pieces.filing _ c.pieces.first _ c.in-Some.step.piece
    c.pieces.invariant next c.context_of-context.ensures seen c.in_ok-add.ensures c.first_after-first.ensures)
    (c.in_ok-reached.ensures.turns c.args.is_typed) (λ none. c.in_ok-reached.ensures.idle (c.is_some.ensures
    ∙ none))

pub returns-then-begins_at : goal.returns-then-begins_at
returns-then-begins_at c =
    HasFound-walked c.args.text.now c.args.is_typed c.args.choices.now c.args.claims.now c.args.marks.now
    (place_of c.pieces.spot c.pieces.around) (watch_of c.pieces.seen c.pieces.parentheses)
    c.pieces.filing c.pieces.first c.args.body _ c.pieces.invariant (c.is_end.ensures c.if-is_end.true)
    (c.is_watch_end.ensures c.if-is_watch_end.true)
    (subst IsTrue c.begins_at.ensures c.if-begins_at.true) c.in_ok-finish.ensures
