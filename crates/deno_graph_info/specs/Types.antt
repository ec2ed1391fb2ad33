-- The types that the comments of a dependency name by `@deno-types`.
use Rattle.std.specs.Prelude.{◌≡◌, ◌⊎◌, ◌+◌, ◌-◌, ◌<◌, ◌≤◌, ◌^◌, ℕ, List, length, Option, Some, None}
use Rattle.std.specs.Prelude.{slice_get}
use Rattle.deno_graph_pragmas.specs.Finders.{deno_types_pattern, quoteless_deno_types_pattern}
use Rattle.deno_graph_pragmas.specs.Split.{TextPart, HasSplit, IsCaptured}
use Rattle.deno_graph_info.specs.declared.analysis.specifier_with_range.SpecifierWithRange.{SpecifierWithRange}
use Rattle.deno_graph_info.specs.declared.conversion.comment.Comment.{Comment}

-- the text names types: between quotes, or if there are none, without quotes
abbrev pub NamesTypesAt : List ℕ → TextPart → Type 0
NamesTypesAt text part =
    IsCaptured deno_types_pattern text part
    ⊎ (¬ HasSplit deno_types_pattern text × IsCaptured quoteless_deno_types_pattern text part)

-- the last of the comments names types
pub record LastNames (comments : List Comment) (comment : Comment) (part : TextPart) : Type 0 where
  pub last : slice_get comments (length comments - 1) ≡ Some comment
  pub names : NamesTypesAt comment.text part

-- The columns of the types: the column of the comment, the bytes before the part in its text, and two for
-- the characters that begin the comment. One less at the start and one more at the end include quotes,
-- whether there are any or not, as in stored data.
abbrev pub start_column : Comment → TextPart → ℕ
start_column comment part = comment.range.start.character + part.start + 1

abbrev pub end_column : Comment → TextPart → ℕ
end_column comment part = comment.range.start.character + part.end + 3

-- the types, on the comment's first line
abbrev pub types_in : Comment → TextPart → SpecifierWithRange
types_in comment part = record {
  text = part.text;
  range = record {
    start = record { line = comment.range.start.line; character = start_column comment part };
    end = record { line = comment.range.start.line; character = end_column comment part };
  };
}

-- the types that the comments name, or none
abbrev pub AreTypes : List Comment → Option SpecifierWithRange → Type 0
AreTypes comments None = (comment : Comment) (part : TextPart) → ¬ LastNames comments comment part
AreTypes comments (Some types) =
    (comment : Comment) × (part : TextPart) × LastNames comments comment part
    × (end_column comment part < 2 ^ 64) × (types ≡ types_in comment part)

-- the last comment names types that end beyond the largest column
abbrev pub HasNoColumn : List Comment → Type 0
HasNoColumn comments =
    (comment : Comment) × (part : TextPart) × LastNames comments comment part
    × (2 ^ 64 ≤ end_column comment part)
