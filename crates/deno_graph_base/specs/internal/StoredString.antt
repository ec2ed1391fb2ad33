-- The fields of a `JsString`: its lossy text, and its surrogates with their offsets in the text.
use Rattle.std.specs.Prelude.{◌≡◌, ℕ, ◌+◌, List, [], ◌∷◌, ◌++◌, map, nat_eq, if◌then◌else◌}
use Rattle.std.specs.Char.{len_utf8}
use Rattle.std.specs.Str.{chars}
use Rattle.deno_graph_base.specs.JsString.{is_surrogate, lossy_char, IsPaired}

-- the surrogates of code points, each after the offset of its U+FFFD in the lossy text, where the
-- first code point has the offset `at`
abbrev pub lone_from : ℕ → List ℕ → List (ℕ × ℕ)
lone_from at [] = []
lone_from at (p ∷ points) =
    (if is_surrogate p then (at, p) ∷ [] else []) ++ lone_from (at + len_utf8 (lossy_char p)) points

-- the characters of a text whose first byte has the offset `at`, with each surrogate in place of the
-- character at its offset
abbrev pub points_from : ℕ → List ℕ → List (ℕ × ℕ) → List ℕ
points_from at [] lone = []
points_from at (c ∷ cs) [] = c ∷ cs
points_from at (c ∷ cs) (l ∷ lone) =
    if nat_eq at l.0 then l.1 ∷ points_from (at + len_utf8 c) cs lone else c
    ∷ points_from (at + len_utf8 c) cs (l ∷ lone)

-- the code points of the string with this lossy text and these surrogates
abbrev pub points_of : List ℕ → List (ℕ × ℕ) → List ℕ
points_of text lone = points_from 0 (chars text) lone

-- the text and the surrogates are those of the string with the code points that they determine
pub record IsStored (text : List ℕ) (lone : List (ℕ × ℕ)) : Type 0 where
  pub characters : chars text ≡ map lossy_char (points_of text lone)
  pub offsets : lone ≡ lone_from 0 (points_of text lone)
  pub paired : IsPaired (points_of text lone)
