use Rattle.std.proofs.Common.{◌≡◌, ◌==◌, ◌-◌, inl, inr, slice_index, max, arith, ap, sym, ◌∙◌}
use Rattle.std.proofs.lemmas.Bool.{cases_lt}
use Rattle.std.proofs.lemmas.Bool.Decides.{nat_tests}
use Rattle.std.proofs.lemmas.List.Sums.{count_by_more_yes, count_by_more_no}
use Rattle.deno_graph_base.proofs.ByteCounts.{ord_max-nat}
use Rattle.deno_graph_base.proofs.text.bytes.line_feeds.Goals as goal
use Rattle.deno_graph_base.proofs.text.bytes.line_feeds.Goals.{then-bytes-i-eq10, else-bytes-i-eq10}
use Rattle.deno_graph_base.proofs.text.bytes.line_feeds.Goals.{then-bytes-i-eq10-2, else-bytes-i-eq10-2}

pub loop-i-preserved : goal.loop-i-preserved
loop-i-preserved c =
    let bytes = c.args.bytes.now in
    let i = c.loop-i.i in
    let inv = c.loop-i.invariant in
    let larger : c.max-end.result ≡ max c.loop-i.end c.if-bytes-i-eq10-2.max =
    c.max-end.ensures ∙ ord_max-nat c.loop-i.end c.if-bytes-i-eq10-2.max in
    record {
      count = elim c.if-bytes-i-eq10.branch [
        | then-bytes-i-eq10 w ↦
            omega (
              arith,
              w.count-is,
              inv.count,
              count_by_more_yes (λ b. b == 10) bytes i 0 (omega arith) (grind (arith, nat_tests)),
            )
        | else-bytes-i-eq10 w ↦
            omega (
              arith,
              w.count-is,
              inv.count,
              count_by_more_no (λ b. b == 10) bytes i 0 (omega arith) (grind (arith, nat_tests)),
            )
      ];
      bound = elim c.if-bytes-i-eq10-2.branch [
        | then-bytes-i-eq10-2 w ↦ omega (arith, w.max-is, larger)
        | else-bytes-i-eq10-2 w ↦ omega (arith, w.max-is, larger)
      ];
      last = λ some. elim c.if-bytes-i-eq10-2.branch [
        | then-bytes-i-eq10-2 w ↦
            let here : c.max-end.result - 1 ≡ i = omega (arith, w.max-is, larger) in
            ap (slice_index bytes) here ∙ w.if-bytes-i-eq10-2.true
        | else-bytes-i-eq10-2 w ↦
            let here : c.max-end.result ≡ c.loop-i.end = omega (arith, w.max-is, larger) in
            ap (λ n. slice_index bytes (n - 1)) here ∙ inv.last (omega arith)
      ];
      after = λ k from below. elim c.if-bytes-i-eq10-2.branch [
        | then-bytes-i-eq10-2 w ↦ absurd (omega (arith, w.max-is, larger))
        | else-bytes-i-eq10-2 w ↦ elim (cases_lt k i) [
          | inl before ↦ inv.after k (omega (arith, w.max-is, larger)) before
          | inr here ↦
              let same : k ≡ i = omega arith in
              λ is. w.if-bytes-i-eq10-2.false (ap (slice_index bytes) (sym same) ∙ is)
        ]
      ];
    }
