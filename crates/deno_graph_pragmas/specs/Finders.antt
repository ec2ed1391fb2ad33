-- The patterns of the finders. W is a character of White_Space, K(word) the word in any case, Q a quote of
-- either kind, T a character that is no quote, R the longest run outside White_Space, N a character of one
-- line. What is captured is in brackets. A star is "any number", a plus "at least one".
use Rattle.std.specs.Prelude.{ℕ, true, false, List, [], ◌∷◌, codes}
use Rattle.deno_graph_pragmas.specs.Piece.{one, any, is_white_or_star, is_number_or_at, white_space}
use Rattle.deno_graph_pragmas.specs.Piece.{any_white_space, some_white_space, quote, unquoted, some_unquoted}
use Rattle.deno_graph_pragmas.specs.Piece.{non_white_space, in_line, literal, keyword}
use Rattle.deno_graph_pragmas.specs.Split.{Pattern}

-- anchored: `/` W* K(`<reference`) W N* `/>`, where nothing is asked of the captured part
abbrev pub triple_slash_reference_pattern : Pattern
triple_slash_reference_pattern = record {
  anchored = true;
  front = literal "/" ∷ any_white_space ∷ keyword (codes "<reference") ∷ white_space ∷ [];
  captured = in_line;
  back = literal "/>" ∷ [];
}

-- W K(name) W* `=` W* Q [T*] Q
abbrev pub attribute : List ℕ → Pattern
attribute name = record {
  anchored = false;
  front = white_space ∷ keyword name ∷ any_white_space ∷ literal "=" ∷ any_white_space ∷ quote ∷ [];
  captured = unquoted;
  back = quote ∷ [];
}

-- anchored: W* K(name) W* `=` W* Q [T+] Q
abbrev pub quoted_pragma : List ℕ → Pattern
quoted_pragma name = record {
  anchored = true;
  front = any_white_space ∷ keyword name ∷ any_white_space ∷ literal "=" ∷ any_white_space ∷ quote ∷ [];
  captured = some_unquoted;
  back = quote ∷ [];
}

-- anchored: W* K(name) W* `=` W* [R]
abbrev pub quoteless_pragma : List ℕ → Pattern
quoteless_pragma name = record {
  anchored = true;
  front = any_white_space ∷ keyword name ∷ any_white_space ∷ literal "=" ∷ any_white_space ∷ [];
  captured = non_white_space;
  back = [];
}

-- anchored: (W or `*`)* K(name) W+ [R]
abbrev pub jsx_pragma : List ℕ → Pattern
jsx_pragma name = record {
  anchored = true;
  front = any is_white_or_star ∷ keyword name ∷ some_white_space ∷ [];
  captured = non_white_space;
  back = [];
}

-- anchored: (`#` or `@`) W* K(`sourceMappingURL`) W* `=` W* [R]
abbrev pub source_mapping_url_pattern : Pattern
source_mapping_url_pattern = record {
  anchored = true;
  front = one is_number_or_at ∷ any_white_space ∷ keyword
      (codes "sourceMappingURL") ∷ any_white_space ∷ literal "=" ∷ any_white_space ∷ [];
  captured = non_white_space;
  back = [];
}

abbrev pub path_reference_pattern : Pattern
path_reference_pattern = attribute (codes "path")

abbrev pub types_reference_pattern : Pattern
types_reference_pattern = attribute (codes "types")

abbrev pub resolution_mode_pattern : Pattern
resolution_mode_pattern = attribute (codes "resolution-mode")

abbrev pub jsx_import_source_pattern : Pattern
jsx_import_source_pattern = jsx_pragma (codes "@jsxImportSource")

abbrev pub jsx_import_source_types_pattern : Pattern
jsx_import_source_types_pattern = jsx_pragma (codes "@jsxImportSourceTypes")

abbrev pub ts_self_types_pattern : Pattern
ts_self_types_pattern = quoted_pragma (codes "@ts-self-types")

abbrev pub ts_types_pattern : Pattern
ts_types_pattern = quoted_pragma (codes "@ts-types")

abbrev pub deno_types_pattern : Pattern
deno_types_pattern = quoted_pragma (codes "@deno-types")

abbrev pub quoteless_deno_types_pattern : Pattern
quoteless_deno_types_pattern = quoteless_pragma (codes "@deno-types")

-- the pattern of each finder that captures a part has the property
pub record EachFinder (P : Pattern → Type 0) : Type 0 where
  pub path_reference : P path_reference_pattern
  pub types_reference : P types_reference_pattern
  pub resolution_mode : P resolution_mode_pattern
  pub jsx_import_source : P jsx_import_source_pattern
  pub jsx_import_source_types : P jsx_import_source_types_pattern
  pub source_mapping_url : P source_mapping_url_pattern
  pub ts_self_types : P ts_self_types_pattern
  pub ts_types : P ts_types_pattern
  pub deno_types : P deno_types_pattern
  pub quoteless_deno_types : P quoteless_deno_types_pattern
