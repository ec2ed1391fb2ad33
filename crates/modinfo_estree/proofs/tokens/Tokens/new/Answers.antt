use Rattle.std.proofs.Common.{◌≡◌, List, ℕ, length, refl, ap, ◌∙◌}
use Rattle.deno_graph_base.specs.declared.text.position.SourceRange.{SourceRange}
use Rattle.modinfo_estree.specs.Tokens.{Layout, breaks, gaps, is_on_line, layout, token_end, token_start}
use Rattle.modinfo_estree.specs.declared.marks.Mark.{Mark}
use Rattle.modinfo_estree.specs.internal.Marks.{breaks_of, gaps_of}
use Rattle.modinfo_estree.specs.internal.Tables.{at_32nds}
use Rattle.modinfo_estree.proofs.tokens.Tokens.new.Goals as goal

-- The marks are the layout of the text.
layout_is : (text : List ℕ) (comments : List SourceRange) (marks : List Mark) (made : Layout)
    → made ≡ record { is_gap = gaps_of marks; is_break = breaks_of marks }
    → gaps_of marks ≡ gaps text comments → breaks_of marks ≡ breaks text → made ≡ layout text comments
layout_is text comments marks made is first second = cc (is, first, second)

pub invariant_of-result : goal.invariant_of-result
invariant_of-result c = record {
  each_start = c.in_ok-starts.ensures
      ∙ ap (λ ms. at_32nds (token_start (gaps_of ms)) (length ms)) c.deref.ensures.value;
  each_end = c.in_ok-ends.ensures
      ∙ ap (λ ms. at_32nds (token_end (gaps_of ms)) (length ms)) c.deref-2.ensures.value;
  each_on_line = c.in_ok-on_line.ensures
      ∙ ap (λ ms. at_32nds (is_on_line (breaks_of ms) (gaps_of ms)) (length ms)) c.deref-3.ensures.value;
}

pub returns : goal.returns
returns c =
    layout_is c.args.text.now c.args.comments.now c.in_ok-marks.marks.items _ refl c.in_ok-marks.ensures.gaps
    c.in_ok-marks.ensures.breaks
