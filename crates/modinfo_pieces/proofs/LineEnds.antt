-- Line terminators in a range of a text.
use Rattle.std.proofs.Common.{◌≡◌, ℕ, ◌+◌, ◌-◌, ◌<◌, ◌≤◌, Bool, true, false, ◌||◌, List, zero, suc, refl, ap}
use Rattle.std.proofs.Common.{◌∙◌, arith}
use Rattle.modinfo_pieces.specs.Spaces.{has_line_end, is_line_end}

-- One more offset.
pub has_line_end-more : (text : List ℕ) (from at : ℕ) → from ≤ at
    → has_line_end text from ((at + 1) - from) ≡ (has_line_end text from (at - from) || is_line_end text at)
unfolding has_line_end
has_line_end-more text from at le =
    let count : (at + 1) - from ≡ suc (at - from) = omega arith in
    let same : from + (at - from) ≡ at = omega arith in
    ap (has_line_end text from) count
    ∙ ap (λ k. has_line_end text from (at - from) || is_line_end text k) same

or_true : (b : Bool) → (b || true) ≡ true
or_true true = refl
or_true false = refl

-- A line terminator at an offset is one in each range around.
pub has_line_end-wider : (text : List ℕ) (from count more : ℕ) → has_line_end text from count ≡ true
    → has_line_end text from (count + more) ≡ true
unfolding has_line_end
has_line_end-wider text from count zero is =
    let same : count + zero ≡ count = omega arith in ap (has_line_end text from) same ∙ is
has_line_end-wider text from count (suc more) is =
    let step : count + suc more ≡ suc (count + more) = omega arith in
    ap (has_line_end text from) step
    ∙ ap (λ b. b || is_line_end text (from + (count + more))) (has_line_end-wider text from count more is)

pub has_line_end-within : (text : List ℕ) (from at to : ℕ) → from ≤ at → at < to → is_line_end text at ≡ true
    → has_line_end text from (to - from) ≡ true
has_line_end-within text from at to le lt is =
    let here : has_line_end text from ((at + 1) - from) ≡ true =
    has_line_end-more text from at le ∙ ap (λ b. has_line_end text from (at - from) || b) is ∙ or_true _ in
    let whole : to - from ≡ ((at + 1) - from) + (to - (at + 1)) = omega arith in
    ap (has_line_end text from) whole ∙ has_line_end-wider text from ((at + 1) - from) (to - (at + 1)) here
