use Rattle.std.proofs.Common.{◌≡◌, ◌≤◌, ◌<◌, ◌/◌, inl, inr, length, max, ap, sym, ◌∙◌, arith}
use Rattle.std.proofs.lemmas.Bool.{cases_lt}
use Rattle.std.proofs.lemmas.List.{get_or_read}
use Rattle.modinfo_estree.specs.Tokens.{token_start}
use Rattle.modinfo_estree.specs.internal.Marks.{gaps_of}
use Rattle.modinfo_estree.proofs.Tables.{size_of_table, value_by_number}
use Rattle.modinfo_estree.proofs.TokenTables.{size_of_gaps, start_at_end, start_at_gap, start_at_token}
use Rattle.modinfo_estree.proofs.tokens.Tokens.start.Goals as goal

pub index-requires : goal.index-requires
index-requires c =
    let marks = c.self.inside.marks.items in
    omega (
      arith,
      c.loop-at-test.true,
      ap length c.as_slice-marks.ensures.value,
      size_of_table (token_start (gaps_of marks)) (length marks) c.self.inside.starts.items
          c.self.invariant.each_start,
    )

pub loop-at-preserved : goal.loop-at-preserved
loop-at-preserved c =
    let marks = c.as_slice-marks.result.now in
    let gaps = gaps_of marks in
    let i = c.loop-at.at in
    let within : i < length gaps = omega (arith, c.loop-at-test.true, size_of_gaps marks) in
    sym (start_at_gap gaps i within (sym c.is_gap_at.ensures ∙ c.if-not-is_gap_at.false))
    ∙ c.loop-at.invariant

pub returns-then-at-eq0 : goal.returns-then-at-eq0
returns-then-at-eq0 c =
    let marks = c.self.inside.marks.items in
    let starts = c.self.inside.starts.items in
    let f = token_start (gaps_of marks) in
    let i = c.loop-at.at in
    let same = c.as_slice-marks.ensures.value in
    let table = c.self.invariant.each_start in
    let within : i ≤ length marks = omega (arith, c.loop-at-test.true, ap length same) in
    let room : i / 32 < length starts = omega (arith, size_of_table f (length marks) starts table) in
    get_or_read starts (i / 32) c.index.result.now room c.index.ensures 0
    ∙ value_by_number f (length marks) starts i 0 table within c.if-at-eq0.true
    ∙ ap (λ ms. token_start (gaps_of ms) i) (sym same) ∙ c.loop-at.invariant
    ∙ ap (λ ms. token_start (gaps_of ms) c.args.offset) same
    ∙ ap (λ layout. token_start layout.is_gap c.args.offset) c.self.view_is

pub returns-then-not-is_gap_at : goal.returns-then-not-is_gap_at
returns-then-not-is_gap_at c =
    let marks = c.as_slice-marks.result.now in
    let gaps = gaps_of marks in
    let i = c.loop-at.at in
    let within : i < length gaps = omega (arith, c.loop-at-test.true, size_of_gaps marks) in
    sym (start_at_token gaps i within (sym c.is_gap_at.ensures ∙ c.if-not-is_gap_at.true))
    ∙ c.loop-at.invariant ∙ ap (λ ms. token_start (gaps_of ms) c.args.offset) c.as_slice-marks.ensures.value
    ∙ ap (λ layout. token_start layout.is_gap c.args.offset) c.self.view_is

pub returns : goal.returns
returns c =
    let marks = c.as_slice-marks.result.now in
    let gaps = gaps_of marks in
    let i = c.loop-at.at in
    let offset = c.args.offset in
    let size = size_of_gaps marks in
    let larger : c.max.result ≡ max offset (length marks) = c.max.ensures in
    let found : c.max.result ≡ token_start gaps offset =
    elim (cases_lt offset (length marks)) [
      | inl inside ↦
          let last : c.max.result ≡ i = omega (arith, larger, c.loop-at-test.false, c.loop-at.auto.at-end) in
          last ∙ sym (start_at_end gaps i (omega (arith, size, last, larger))) ∙ c.loop-at.invariant
      | inr after ↦
          let last : c.max.result ≡ offset = omega (arith, larger) in
          last ∙ sym (start_at_end gaps offset (omega (arith, size)))
    ] in
    found ∙ ap (λ ms. token_start (gaps_of ms) offset) c.as_slice-marks.ensures.value
    ∙ ap (λ layout. token_start layout.is_gap offset) c.self.view_is
