use Rattle.std.proofs.Common.{◌≡◌, ◌-◌, ◌+◌, ◌≤◌, ℕ, List, length, take, drop, ap, ◌∙◌, refl, arith, inl, inr}
use Rattle.std.proofs.lemmas.Bool.{cases_lt, false≢true}
use Rattle.std.proofs.lemmas.List.{drop-take, get_or-take, length-take-le}
use Rattle.std.specs.Str.{IsCharBoundary}
use Rattle.deno_graph_base.proofs.text.source_text_info.SourceTextInfo.range_text.Goals as goal

-- a boundary of a prefix of a text is a boundary of the text
from_front : (text : List ℕ) (i j : ℕ) → i ≤ j → IsCharBoundary text j → IsCharBoundary (take j text) i
    → IsCharBoundary text i
from_front text i j le end front = elim (cases_lt i j) [
  | inl lt ↦
      let same = get_or-take j text i 0 lt in
      (omega (arith, end.0), λ _. rw same at (front.1 (omega (arith, length-take-le j text end.0))))
  | inr ge ↦ let is : j ≡ i = omega arith in rw is at end
]

-- a boundary of a text before a prefix's end is a boundary of the prefix
to_front : (text : List ℕ) (i j : ℕ) → i ≤ j → j ≤ length text → IsCharBoundary text i
    → IsCharBoundary (take j text) i
to_front text i j le within boundary =
    let size = length-take-le j text within in (
      omega (arith, size),
      λ lt. rw (get_or-take j text i 0 (omega (arith, lt, size)))
          (boundary.1 (omega (arith, lt, size))),
    )

-- the bytes of a prefix after `i`
drop_front : (text : List ℕ) (i j : ℕ) → i ≤ j → drop i (take j text) ≡ take (j - i) (drop i text)
drop_front text i j le =
    let whole : j ≡ i + (j - i) = omega arith in
    ap (λ n. drop i (take n text)) whole ∙ drop-take i (j - i) text

pub returns : goal.returns
returns c =
    let text = c.args.self.now in
    let range = c.args.range.now in
    let whole = c.text-text.ensures in
    let front = c.in_ok-front.ensures.front ∙ ap (take range.end) whole in
    let end : IsCharBoundary text range.end = rw whole at (c.in_ok-front.ensures.variant.0 refl) in
    let start : IsCharBoundary (take range.end text) range.start =
    rw front at (c.in_ok-part.ensures.variant.0 refl) in
    let ordered : range.start ≤ range.end = omega (arith, start.0, length-take-le range.end text end.0) in
    record {
      some = (
        λ _. record { ordered = ordered; start = from_front text _ _ ordered end start; end = end },
        λ _. refl,
      );
      text = c.in_ok-part.ensures.back ∙ ap (drop range.start) front
          ∙ drop_front text range.start range.end ordered;
    }

pub returns-in_err-part : goal.returns-in_err-part
returns-in_err-part c =
    let range = c.args.range.now in
    let front = c.in_ok-front.ensures.front ∙ ap (take range.end) c.text-text.ensures in
    rw c.from_residual-in_err-part.ensures (record {
      some = (
        λ none. absurd (false≢true none),
        λ is. c.in_err-part.ensures.variant.1
            (rw front (to_front _ range.start range.end is.ordered is.end.0 is.start)),
      );
      text = tt;
    })

pub returns-in_err-front : goal.returns-in_err-front
returns-in_err-front c = rw c.from_residual.ensures (record {
  some = (
    λ none. absurd (false≢true none),
    λ is. c.in_err-front.ensures.variant.1
        (rw c.text-text.ensures is.end),
  );
  text = tt;
})
