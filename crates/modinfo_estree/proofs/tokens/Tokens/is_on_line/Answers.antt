use Rattle.std.proofs.Common.{◌≡◌, ◌≤◌, ◌<◌, ◌+◌, ◌-◌, ◌/◌, false, length, min, ap, sym, ◌∙◌, arith}
use Rattle.std.proofs.lemmas.List.{get_or_read}
use Rattle.modinfo_estree.specs.Tokens.{is_on_line}
use Rattle.modinfo_estree.specs.internal.Marks.{breaks_of, gaps_of}
use Rattle.modinfo_estree.proofs.Tables.{size_of_table, value_by_number}
use Rattle.modinfo_estree.proofs.TokenTables.{line_at_start, line_at_token, line_broken, line_past, line_same}
use Rattle.modinfo_estree.proofs.TokenTables.{size_of_breaks, size_of_gaps}
use Rattle.modinfo_estree.proofs.tokens.Tokens.is_on_line.Goals as goal

pub loop-at-init : goal.loop-at-init
loop-at-init c =
    let marks = c.as_slice-marks.result.now in
    let gaps = gaps_of marks in
    let breaks = breaks_of marks in
    let last : c.min-end.result ≡ min c.args.offset (length gaps) =
    omega (arith, c.min-end.ensures, size_of_gaps marks) in
    ap (is_on_line breaks gaps) last
    ∙ line_past breaks gaps c.args.offset (size_of_breaks marks ∙ sym (size_of_gaps marks))

pub index-requires : goal.index-requires
index-requires c =
    let marks = c.self.inside.marks.items in
    omega (
      arith,
      c.min-end.ensures,
      ap length c.as_slice-marks.ensures.value,
      size_of_table (is_on_line (breaks_of marks) (gaps_of marks)) (length marks) c.self.inside.on_line.items
          c.self.invariant.each_on_line,
    )

pub loop-at-preserved : goal.loop-at-preserved
loop-at-preserved c =
    let marks = c.as_slice-marks.result.now in
    let gaps = gaps_of marks in
    let breaks = breaks_of marks in
    let i = c.loop-at.at - 1 in
    let next : i + 1 ≡ c.loop-at.at = omega arith in
    let within : i < length gaps = omega (arith, c.min-end.ensures, size_of_gaps marks) in
    sym (line_same breaks gaps i (size_of_breaks marks ∙ sym (size_of_gaps marks)) within
    (sym c.is_gap_at.ensures ∙ c.if-not-is_gap_at.false) (sym c.is_break_at.ensures ∙ c.if-is_break_at.false))
    ∙ ap (is_on_line breaks gaps) next ∙ c.loop-at.invariant

pub returns-then-not-is_gap_at : goal.returns-then-not-is_gap_at
returns-then-not-is_gap_at c =
    let marks = c.as_slice-marks.result.now in
    let gaps = gaps_of marks in
    let breaks = breaks_of marks in
    let i = c.loop-at.at - 1 in
    let next : i + 1 ≡ c.loop-at.at = omega arith in
    let within : i < length gaps = omega (arith, c.min-end.ensures, size_of_gaps marks) in
    sym (line_at_token breaks gaps i (size_of_breaks marks ∙ sym (size_of_gaps marks)) within
    (sym c.is_gap_at.ensures ∙ c.if-not-is_gap_at.true))
    ∙ ap (is_on_line breaks gaps) next ∙ c.loop-at.invariant
    ∙ ap (λ ms. is_on_line (breaks_of ms) (gaps_of ms) c.args.offset) c.as_slice-marks.ensures.value
    ∙ ap (λ layout. is_on_line layout.is_break layout.is_gap c.args.offset) c.self.view_is

pub returns-then-is_break_at : goal.returns-then-is_break_at
returns-then-is_break_at c =
    let marks = c.as_slice-marks.result.now in
    let gaps = gaps_of marks in
    let breaks = breaks_of marks in
    let i = c.loop-at.at - 1 in
    let next : i + 1 ≡ c.loop-at.at = omega arith in
    let within : i < length gaps = omega (arith, c.min-end.ensures, size_of_gaps marks) in
    sym (line_broken breaks gaps i (size_of_breaks marks ∙ sym (size_of_gaps marks)) within
    (sym c.is_gap_at.ensures ∙ c.if-not-is_gap_at.false) (sym c.is_break_at.ensures ∙ c.if-is_break_at.true))
    ∙ ap (is_on_line breaks gaps) next ∙ c.loop-at.invariant
    ∙ ap (λ ms. is_on_line (breaks_of ms) (gaps_of ms) c.args.offset) c.as_slice-marks.ensures.value
    ∙ ap (λ layout. is_on_line layout.is_break layout.is_gap c.args.offset) c.self.view_is

pub returns-then-at-eq0 : goal.returns-then-at-eq0
returns-then-at-eq0 c =
    let all = c.self.inside.marks.items in
    let on_line = c.self.inside.on_line.items in
    let f = is_on_line (breaks_of all) (gaps_of all) in
    let marks = c.as_slice-marks.result.now in
    let gaps = gaps_of marks in
    let breaks = breaks_of marks in
    let same = c.as_slice-marks.ensures.value in
    let table = c.self.invariant.each_on_line in
    let i = c.loop-at.at - 1 in
    let next : i + 1 ≡ c.loop-at.at = omega arith in
    let within : i < length gaps = omega (arith, c.min-end.ensures, size_of_gaps marks) in
    let inside : i ≤ length all = omega (arith, within, size_of_gaps marks, ap length same) in
    let room : i / 32 < length on_line = omega (arith, inside, size_of_table f (length all) on_line table) in
    get_or_read on_line (i / 32) c.index.result.now room c.index.ensures false
    ∙ value_by_number f (length all) on_line i false table inside c.if-at-eq0.true
    ∙ ap (λ ms. is_on_line (breaks_of ms) (gaps_of ms) i) (sym same)
    ∙ sym (line_same breaks gaps i (size_of_breaks marks ∙ sym (size_of_gaps marks)) within
    (sym c.is_gap_at.ensures ∙ c.if-not-is_gap_at.false) (sym c.is_break_at.ensures ∙ c.if-is_break_at.false))
    ∙ ap (is_on_line breaks gaps) next ∙ c.loop-at.invariant
    ∙ ap (λ ms. is_on_line (breaks_of ms) (gaps_of ms) c.args.offset) same
    ∙ ap (λ layout. is_on_line layout.is_break layout.is_gap c.args.offset) c.self.view_is

pub returns : goal.returns
returns c =
    let marks = c.as_slice-marks.result.now in
    let gaps = gaps_of marks in
    let breaks = breaks_of marks in
    let first : 0 ≡ c.loop-at.at = omega (arith, c.loop-at-test.false) in
    sym (line_at_start breaks gaps) ∙ ap (is_on_line breaks gaps) first ∙ c.loop-at.invariant
    ∙ ap (λ ms. is_on_line (breaks_of ms) (gaps_of ms) c.args.offset) c.as_slice-marks.ensures.value
    ∙ ap (λ layout. is_on_line layout.is_break layout.is_gap c.args.offset) c.self.view_is
