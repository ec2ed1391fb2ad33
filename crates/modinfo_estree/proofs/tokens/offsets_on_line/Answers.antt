use Rattle.std.proofs.Common.{◌≡◌, ◌∷◌, ◌++◌, [], ◌+◌, ◌<◌, ◌&&◌, not, length, get_or, ap, sym, ◌∙◌, arith}
use Rattle.std.proofs.Common.{true, false}
use Rattle.modinfo_estree.specs.Tokens.{is_on_line}
use Rattle.modinfo_estree.specs.internal.Marks.{breaks_of, gaps_of}
use Rattle.modinfo_estree.specs.internal.Tables.{at_32nds}
use Rattle.modinfo_estree.proofs.Tables.{none_more, one_more}
use Rattle.modinfo_estree.proofs.TokenTables.{line_at_gap, line_at_start, line_at_token, size_of_breaks}
use Rattle.modinfo_estree.proofs.TokenTables.{size_of_gaps}
use Rattle.modinfo_estree.proofs.tokens.offsets_on_line.Goals as goal
use Rattle.modinfo_estree.proofs.tokens.offsets_on_line.Goals.{then-not-is_gap}
use Rattle.modinfo_estree.proofs.tokens.offsets_on_line.Goals.{else-not-is_gap+then-is_on_line}
use Rattle.modinfo_estree.proofs.tokens.offsets_on_line.Goals.{else-not-is_gap+else-is_on_line}
use Rattle.modinfo_estree.proofs.tokens.offsets_on_line.Goals.{then-at-eq0+in_ok-push-2, else-at-eq0}

pub loop-at-init : goal.loop-at-init
loop-at-init c =
    let marks = c.args.marks.now in
    let first = sym (line_at_start (breaks_of marks) (gaps_of marks)) in
    record {
      on_line = c.in_ok-push.ensures.items ∙ ap (λ l. l ++ true ∷ []) c.in_ok-on_line.ensures.items
          ∙ ap (λ t. t ∷ []) first;
      is_on_line = first;
    }

pub loop-at-preserved : goal.loop-at-preserved
loop-at-preserved c =
    let marks = c.args.marks.now in
    let gaps = gaps_of marks in
    let breaks = breaks_of marks in
    let f = is_on_line breaks gaps in
    let i = c.loop-at.at in
    let inv = c.loop-at.invariant in
    let size : length breaks ≡ length gaps = size_of_breaks marks ∙ sym (size_of_gaps marks) in
    let within : i < length gaps = omega (arith, c.loop-at-test.true, size_of_gaps marks) in
    let gap = sym c.is_gap_at-is_gap.ensures in
    let break : not c.is_break_at-is_break.result ≡ not (get_or breaks i false) =
    ap not c.is_break_at-is_break.ensures in
    let next : c.if-not-is_gap.is_on_line ≡ f (i + 1) =
    elim c.if-not-is_gap.branch [
      | then-not-is_gap w ↦
          w.is_on_line-is ∙ ap not w.if-not-is_gap.true
          ∙ sym (line_at_token breaks gaps i size within (gap ∙ w.if-not-is_gap.true))
      | else-not-is_gap+then-is_on_line w ↦
          w.is_on_line-is ∙ break
          ∙ ap (λ t. t && not (get_or breaks i false)) (sym w.if-is_on_line.true ∙ inv.is_on_line)
          ∙ sym (line_at_gap breaks gaps i size within (gap ∙ w.if-not-is_gap.false))
      | else-not-is_gap+else-is_on_line w ↦
          w.is_on_line-is ∙ w.if-is_on_line.false
          ∙ ap (λ t. t && not (get_or breaks i false)) (sym w.if-is_on_line.false ∙ inv.is_on_line)
          ∙ sym (line_at_gap breaks gaps i size within (gap ∙ w.if-not-is_gap.false))
    ] in
    record {
      on_line = elim c.if-at-eq0.branch [
        | then-at-eq0+in_ok-push-2 w ↦
            ap (λ v. v.items) w.on_line-is ∙ w.in_ok-push-2.ensures.items
            ∙ one_more f c.loop-at.on_line.items i c.if-not-is_gap.is_on_line inv.on_line w.if-at-eq0.true
            next
        | else-at-eq0 w ↦
            ap (λ v. v.items) w.on_line-is
            ∙ none_more f c.loop-at.on_line.items i inv.on_line w.if-at-eq0.false
      ];
      is_on_line = next;
    }

pub returns : goal.returns
returns c =
    let marks = c.args.marks.now in
    let at_end : c.loop-at.at ≡ length marks = omega arith in
    c.loop-at.invariant.on_line ∙ ap (at_32nds (is_on_line (breaks_of marks) (gaps_of marks))) at_end
