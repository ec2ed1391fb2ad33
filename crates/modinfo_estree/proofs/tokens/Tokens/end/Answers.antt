use Rattle.std.proofs.Common.{◌≡◌, ◌≤◌, ◌<◌, ◌+◌, ◌-◌, ◌/◌, length, min, ap, sym, ◌∙◌, arith}
use Rattle.std.proofs.lemmas.List.{get_or_read}
use Rattle.modinfo_estree.specs.Tokens.{token_end}
use Rattle.modinfo_estree.specs.internal.Marks.{gaps_of}
use Rattle.modinfo_estree.proofs.Tables.{size_of_table, value_by_number}
use Rattle.modinfo_estree.proofs.TokenTables.{end_at_gap, end_at_start, end_at_token, end_past, size_of_gaps}
use Rattle.modinfo_estree.proofs.tokens.Tokens.end.Goals as goal

pub loop-at-init : goal.loop-at-init
loop-at-init c =
    let marks = c.as_slice-marks.result.now in
    let gaps = gaps_of marks in
    let last : c.min-end.result ≡ min c.args.offset (length gaps) =
    omega (arith, c.min-end.ensures, size_of_gaps marks) in
    ap (token_end gaps) last ∙ end_past gaps c.args.offset

pub index-requires : goal.index-requires
index-requires c =
    let marks = c.self.inside.marks.items in
    omega (
      arith,
      c.min-end.ensures,
      ap length c.as_slice-marks.ensures.value,
      size_of_table (token_end (gaps_of marks)) (length marks) c.self.inside.ends.items
          c.self.invariant.each_end,
    )

pub loop-at-preserved : goal.loop-at-preserved
loop-at-preserved c =
    let marks = c.as_slice-marks.result.now in
    let gaps = gaps_of marks in
    let i = c.loop-at.at - 1 in
    let next : i + 1 ≡ c.loop-at.at = omega arith in
    let within : i < length gaps = omega (arith, c.min-end.ensures, size_of_gaps marks) in
    sym (end_at_gap gaps i within (sym c.is_gap_at.ensures ∙ c.if-not-is_gap_at.false))
    ∙ ap (token_end gaps) next ∙ c.loop-at.invariant

pub returns-then-not-is_gap_at : goal.returns-then-not-is_gap_at
returns-then-not-is_gap_at c =
    let marks = c.as_slice-marks.result.now in
    let gaps = gaps_of marks in
    let i = c.loop-at.at - 1 in
    let next : i + 1 ≡ c.loop-at.at = omega arith in
    let within : i < length gaps = omega (arith, c.min-end.ensures, size_of_gaps marks) in
    sym (end_at_token gaps i within (sym c.is_gap_at.ensures ∙ c.if-not-is_gap_at.true))
    ∙ ap (token_end gaps) next ∙ c.loop-at.invariant
    ∙ ap (λ ms. token_end (gaps_of ms) c.args.offset) c.as_slice-marks.ensures.value
    ∙ ap (λ layout. token_end layout.is_gap c.args.offset) c.self.view_is

pub returns-then-at-eq0 : goal.returns-then-at-eq0
returns-then-at-eq0 c =
    let all = c.self.inside.marks.items in
    let ends = c.self.inside.ends.items in
    let f = token_end (gaps_of all) in
    let marks = c.as_slice-marks.result.now in
    let gaps = gaps_of marks in
    let same = c.as_slice-marks.ensures.value in
    let table = c.self.invariant.each_end in
    let i = c.loop-at.at - 1 in
    let next : i + 1 ≡ c.loop-at.at = omega arith in
    let within : i < length gaps = omega (arith, c.min-end.ensures, size_of_gaps marks) in
    let inside : i ≤ length all = omega (arith, within, size_of_gaps marks, ap length same) in
    let room : i / 32 < length ends = omega (arith, inside, size_of_table f (length all) ends table) in
    get_or_read ends (i / 32) c.index.result.now room c.index.ensures 0
    ∙ value_by_number f (length all) ends i 0 table inside c.if-at-eq0.true
    ∙ ap (λ ms. token_end (gaps_of ms) i) (sym same)
    ∙ sym (end_at_gap gaps i within (sym c.is_gap_at.ensures ∙ c.if-not-is_gap_at.false))
    ∙ ap (token_end gaps) next ∙ c.loop-at.invariant
    ∙ ap (λ ms. token_end (gaps_of ms) c.args.offset) same
    ∙ ap (λ layout. token_end layout.is_gap c.args.offset) c.self.view_is

pub returns : goal.returns
returns c =
    let marks = c.as_slice-marks.result.now in
    let gaps = gaps_of marks in
    let first : 0 ≡ c.loop-at.at = omega (arith, c.loop-at-test.false) in
    sym (end_at_start gaps) ∙ ap (token_end gaps) first ∙ c.loop-at.invariant
    ∙ ap (λ ms. token_end (gaps_of ms) c.args.offset) c.as_slice-marks.ensures.value
    ∙ ap (λ layout. token_end layout.is_gap c.args.offset) c.self.view_is
