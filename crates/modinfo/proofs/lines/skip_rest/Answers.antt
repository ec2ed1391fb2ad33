use Rattle.std.proofs.Common.{◌≤◌, ◌<◌, ◌⊎◌, ℕ, inl, inr, arith, sym, ap, ◌∙◌}
use Rattle.std.specs.Io.BufRead.{ends_with_byte}
use Rattle.modinfo.proofs.LinesTaken.{TakesLines-ended, TakesLines-unended, nonempty_skipped}
use Rattle.modinfo.proofs.lines.skip_rest.Goals as goal

some : (count skipped : ℕ) → (0 < count) ⊎ ((count ≤ 0) × (0 < skipped)) → (0 < count) ⊎ (0 < skipped)
some count skipped (inl h) = inl h
some count skipped (inr h) = inr h.1

pub returns-then-ends_with : goal.returns-then-ends_with
returns-then-ends_with g c before stops consumed =
    TakesLines-ended before _ c.args.first.items consumed stops
    (sym (c.ends_with.ensures ∙ ap (ends_with_byte 10) c.as_slice.ensures.value)
    ∙ c.if-ends_with.true)

pub returns-in-Ok : goal.returns-in-Ok
returns-in-Ok g c before stops consumed =
    TakesLines-unended before _ _ c.args.first.items consumed stops
    (sym (c.ends_with.ensures ∙ ap (ends_with_byte 10) c.as_slice.ensures.value)
    ∙ c.if-ends_with.false)
    c.in-Ok.ensures.rest
    (nonempty_skipped _ c.args.first.items c.len-count.result c.in-Ok.skipped (omega (
      arith,
      c.args.first.ok.0,
    ))
    c.in-Ok.ensures.count (some _ _ c.if-skipped-gt0.either))
