use Rattle.std.proofs.Common.{◌≡◌, ◌∷◌, ◌++◌, [], ◌+◌, ◌<◌, ap, sym, ◌∙◌, arith, length}
use Rattle.modinfo_estree.specs.Tokens.{token_end}
use Rattle.modinfo_estree.specs.internal.Marks.{gaps_of}
use Rattle.modinfo_estree.specs.internal.Tables.{at_32nds}
use Rattle.modinfo_estree.proofs.Tables.{none_more, one_more}
use Rattle.modinfo_estree.proofs.TokenTables.{end_at_gap, end_at_start, end_at_token, size_of_gaps}
use Rattle.modinfo_estree.proofs.tokens.token_ends.Goals as goal
use Rattle.modinfo_estree.proofs.tokens.token_ends.Goals.{then-not-is_gap_at, else-not-is_gap_at}
use Rattle.modinfo_estree.proofs.tokens.token_ends.Goals.{then-at-eq0+in_ok-push-2, else-at-eq0}

pub loop-at-init : goal.loop-at-init
loop-at-init c =
    let zero = sym (end_at_start (gaps_of c.args.marks.now)) in
    record {
      ends = c.in_ok-push.ensures.items ∙ ap (λ l. l ++ 0 ∷ []) c.in_ok-ends.ensures.items
          ∙ ap (λ n. n ∷ []) zero;
      end = zero;
    }

pub loop-at-preserved : goal.loop-at-preserved
loop-at-preserved c =
    let marks = c.args.marks.now in
    let gaps = gaps_of marks in
    let i = c.loop-at.at in
    let inv = c.loop-at.invariant in
    let within : i < length gaps = omega (arith, c.loop-at-test.true, size_of_gaps marks) in
    let gap = sym c.is_gap_at.ensures in
    let next : c.if-not-is_gap_at.end ≡ token_end gaps (i + 1) =
    elim c.if-not-is_gap_at.branch [
      | then-not-is_gap_at w ↦
          w.end-is ∙ sym (end_at_token gaps i within (gap ∙ w.if-not-is_gap_at.true))
      | else-not-is_gap_at w ↦
          w.end-is ∙ inv.end ∙ sym (end_at_gap gaps i within (gap ∙ w.if-not-is_gap_at.false))
    ] in
    record {
      ends = elim c.if-at-eq0.branch [
        | then-at-eq0+in_ok-push-2 w ↦
            ap (λ v. v.items) w.ends-is ∙ w.in_ok-push-2.ensures.items
            ∙ one_more (token_end gaps) c.loop-at.ends.items i c.if-not-is_gap_at.end inv.ends
            w.if-at-eq0.true next
        | else-at-eq0 w ↦
            ap (λ v. v.items) w.ends-is
            ∙ none_more (token_end gaps) c.loop-at.ends.items i inv.ends w.if-at-eq0.false
      ];
      end = next;
    }

pub returns : goal.returns
returns c =
    let marks = c.args.marks.now in
    let at_end : c.loop-at.at ≡ length marks = omega arith in
    c.loop-at.invariant.ends ∙ ap (at_32nds (token_end (gaps_of marks))) at_end
