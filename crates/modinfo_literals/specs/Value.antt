-- Whether a text is a string literal with a value, as a test: `Spells`, in a form that computes. The law
-- `spelling_is_decided` says that the two agree.
use Rattle.std.specs.Prelude.{ℕ, zero, suc, ◌==◌, ◌&&◌, ◌||◌, Bool, false, Option, Some, None, List, [], ◌∷◌}
use Rattle.std.specs.Prelude.{length, nat_eq}
use Rattle.std.specs.Cmp.Lexicographic.{pointwise}
use Rattle.std.specs.Str.{chars}
use Rattle.modinfo_literals.specs.Literal.{string_of}
use Rattle.modinfo_literals.specs.internal.Step.{Step, string_step}

-- The code points that elements stand for, and the text after the elements.
pub record Elements : Type 0 where
  pub points : List (Option ℕ)
  pub end : List ℕ

-- One more element, before others.
abbrev pub with_element : (List ℕ → Elements) → List ℕ → Option Step → Elements
with_element others text None = record { points = []; end = text }
with_element others text (Some step) = record {
  points = step.point ∷ (others step.rest).points;
  end = (others step.rest).end;
}

-- The elements that a text begins with, at most as many as the number says.
unfoldable pub elements_in : ℕ → ℕ → List ℕ → Elements
elements_in zero quote text = record { points = []; end = text }
elements_in (suc most) quote text = with_element (elements_in most quote) text (string_step quote text)

-- The elements end at the quote, which ends the text, and spell the value.
abbrev pub are_whole : ℕ → List ℕ → Elements → Bool
are_whole quote value elements =
    pointwise nat_eq elements.end (quote ∷ []) && pointwise nat_eq value (string_of elements.points)

-- The text begins with a quote, and the value is spelled from there on.
abbrev pub is_spelled_by : List ℕ → List ℕ → Bool
is_spelled_by [] value = false
is_spelled_by (quote ∷ inside) value = ((quote == 34) || (quote == 39))
    && are_whole quote value (elements_in (length inside) quote inside)

-- The text `slice`, in UTF-8, is a string literal with its quotes, and `value` is its value.
unfoldable pub is_spelled : List ℕ → List ℕ → Bool
is_spelled slice value = is_spelled_by (chars slice) value
