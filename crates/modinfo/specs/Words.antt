-- Tests of words.
use Rattle.std.specs.Prelude.{ℕ, List, [], ◌∷◌, Bool, true, not, ◌&&◌}
use Rattle.std.specs.List.{list_all, list_any}
use Rattle.std.specs.Str.{bytes_eq}

-- Whether a word is among words.
abbrev pub is_among : List ℕ → List (List ℕ) → Bool
is_among word words = list_any (λ other. bytes_eq other word) words

-- Whether each of the first words is among the others.
abbrev pub are_among : List (List ℕ) → List (List ℕ) → Bool
are_among words others = list_all (λ word. is_among word others) words

-- Whether no word occurs twice.
abbrev pub are_distinct : List (List ℕ) → Bool
are_distinct [] = true
are_distinct (word ∷ words) = not (is_among word words) && are_distinct words
