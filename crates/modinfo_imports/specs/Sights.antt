-- The watches that the code goes through.
use Rattle.std.specs.Prelude.{ℕ, List, Option, Some, None, if◌then◌else◌}
use Rattle.modinfo_imports.specs.Watches.{Watch, is_gap}
use Rattle.modinfo_imports.specs.declared.duty.Duty.{Duty}
use Rattle.modinfo_imports.specs.declared.watch.Seen.{Seen}
use Rattle.modinfo_pieces.specs.declared.piece.Piece.{Piece}

-- The watch of what is seen, with these parentheses.
abbrev pub watch_of : Seen → List Duty → Watch
watch_of seen parentheses =
    record {
      duty = seen.duty;
      parentheses = parentheses;
      last = seen.last;
      is_decorated = seen.is_decorated;
      claims = seen.claims.now;
      marks = seen.marks.now;
    }

-- Where the first token begins, by where it begins before a piece.
abbrev pub first_after : Option ℕ → Piece → Option ℕ
first_after (Some first) piece = Some first
first_after None piece = (if is_gap piece.kind then None else Some piece.start)
