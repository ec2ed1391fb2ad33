use Rattle.std.proofs.Common.{◌≡◌, ℕ, List, Some, ap₂, refl}
use Rattle.std.proofs.lemmas.Bool.{true≢false}
use Rattle.deno_graph_base.specs.Position.{HasPosition}
use Rattle.deno_graph_base.specs.PositionRange.{IsRangeAt}
use Rattle.deno_graph_base.specs.declared.text.position.PositionRange.{PositionRange}
use Rattle.deno_graph_base.specs.declared.text.position.SourceRange.{SourceRange}
use Rattle.deno_graph_base.proofs.text.position.PositionRange.as_source_range.Goals as goal

abbrev HasEnds : List ℕ → PositionRange → Type 0
HasEnds text positions = HasPosition text positions.start × HasPosition text positions.end

ends_of : (text : List ℕ) (positions : PositionRange) (range : SourceRange) → IsRangeAt text positions range
    → HasEnds text positions
ends_of text positions range is = ((range.start, is.start), (range.end, is.end))

abbrev range_of : ℕ → ℕ → SourceRange
range_of start end = record { start = start; end = end }

same_range : (start end : ℕ) (range : SourceRange) → Some start ≡ Some range.start
    → Some end ≡ Some range.end → Some (range_of start end) ≡ Some range
same_range start end range is_start is_end =
    let same_start : start ≡ range.start = cc in
    let same_end : end ≡ range.end = cc in
    ap₂ (λ from to. Some (range_of from to)) same_start same_end

pub returns : goal.returns
returns c =
    let start = c.in_ok-as_source_pos.ensures in
    let end = c.in_ok-as_source_pos-2.ensures in
    record {
      some = record { start = start.some; end = end.some };
      none = (λ none _. true≢false none, λ lacks. absurd (lacks ((_, start.some), (_, end.some))));
      found = λ range is. same_range _ _ range (start.found range.start is.start)
          (end.found range.end is.end);
    }

pub returns-in_err-as_source_pos : goal.returns-in_err-as_source_pos
returns-in_err-as_source_pos c =
    let lacks : ¬ HasEnds c.args.text_info.now c.args.self.now =
    λ has. c.in_err-as_source_pos.ensures.none.0 refl has.0 in
    rw c.from_residual.ensures (record {
      some = tt;
      none = (λ _. lacks, λ _. refl);
      found = λ range is. absurd (lacks (ends_of _ _ range is));
    })

pub returns-in_err-as_source_pos-2 : goal.returns-in_err-as_source_pos-2
returns-in_err-as_source_pos-2 c =
    let lacks : ¬ HasEnds c.args.text_info.now c.args.self.now =
    λ has. c.in_err-as_source_pos-2.ensures.none.0 refl has.1 in
    rw c.from_residual-in_err-as_source_pos-2.ensures (record {
      some = tt;
      none = (λ _. lacks, λ _. refl);
      found = λ range is. absurd (lacks (ends_of _ _ range is));
    })
