use Rattle.std.specs.Prelude.{length}
use Rattle.modinfo_document.specs.internal.Token.{IsFrom}
use Rattle.modinfo_document.proofs.report.token.word_end.Given as goal

abbrev pub invariant-loop-letter : goal.invariant-loop-letter
invariant-loop-letter l = IsFrom l.fn.start (length l.fn.bytes) l.at
