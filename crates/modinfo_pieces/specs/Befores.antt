-- What a piece is for what follows.
use Rattle.std.specs.Prelude.{ℕ, ◌==◌, Bool, false, if◌then◌else◌}
use Rattle.modinfo_pieces.specs.Openings.{begins_tag}
use Rattle.modinfo_pieces.specs.declared.place.Before.{Before}
use Rattle.modinfo_pieces.specs.declared.place.Before.TheVariants.{Dot, DotDot, Equal, Free, Minus, Plus}
use Rattle.modinfo_pieces.specs.declared.place.Before.TheVariants.{TagOpen, TagSlash, Value}
use Rattle.modinfo_pieces.specs.declared.place.Context.{Context}
use Rattle.modinfo_pieces.specs.declared.place.Opening.{Opening}
use Rattle.modinfo_pieces.specs.declared.place.Opening.TheVariants.{ClosingTag, HeadParenthesis, Tag}

-- White space and comments keep what is before, but `+ +` isn't `++`.
abbrev pub before_after_gap : Before → Before
before_after_gap Plus = Free
before_after_gap Minus = Free
before_after_gap before = before

-- After `+`: of `++` after an expression on its line, the second ends the expression.
abbrev pub before_after_plus : Before → Bool → Before
before_after_plus Plus is_after_line_end = Value
before_after_plus Value false = Plus
before_after_plus before is_after_line_end = Free

-- After `-`, likewise.
abbrev pub before_after_minus : Before → Bool → Before
before_after_minus Minus is_after_line_end = Value
before_after_minus Value false = Minus
before_after_minus before is_after_line_end = Free

-- After `!`: TypeScript's `!` after an expression on its line ends the expression.
abbrev pub before_after_bang : Before → Bool → Before
before_after_bang Value false = Value
before_after_bang before is_after_line_end = Free

-- After `.`: a name follows, unless there are three.
abbrev pub before_after_dot : Before → Before
before_after_dot Dot = DotDot
before_after_dot DotDot = Free
before_after_dot before = Dot

-- After `)`: the end of an expression, or of a statement's head.
abbrev pub before_after_parenthesis : Opening → Before
before_after_parenthesis HeadParenthesis = Free
before_after_parenthesis _ = Value

-- After `>`: an element may have ended.
abbrev pub before_after_greater : Opening → Before
before_after_greater Tag = Value
before_after_greater ClosingTag = Value
before_after_greater _ = Free

-- After `/`.
abbrev pub before_after_slash : Opening → Before
before_after_slash Tag = TagSlash
before_after_slash _ = Free

-- After a byte of punctuation.
unfoldable pub before_after_punctuation : ℕ → Context → Before
before_after_punctuation byte context =
    (if byte == 43 then before_after_plus context.before context.is_after_line_end
    else (if byte == 45 then before_after_minus context.before context.is_after_line_end
    else (if byte == 33 then before_after_bang context.before context.is_after_line_end
    else (if byte == 46 then before_after_dot context.before
    else (if byte == 41 then before_after_parenthesis context.inside
    else (if byte == 93 then Value
    else (if byte == 61 then Equal
    else (if byte == 60
    then (if begins_tag context.inside context.before context.chosen then TagOpen else Free)
    else (if byte == 62 then before_after_greater context.inside
    else (if byte == 47 then before_after_slash context.inside else Free))))))))))
