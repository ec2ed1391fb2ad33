use Rattle.std.specs.Prelude.{◌≡◌, ◌++◌, drop, flat_map}
use Rattle.std.specs.String.{string_bytes}
use Rattle.modinfo_document.specs.Pointer.{token_text}
use Rattle.modinfo_document.proofs.report.pointer.pointer_to.Given as goal

abbrev pub invariant-loop-token : goal.invariant-loop-token
invariant-loop-token l = string_bytes l.pointer ++ flat_map token_text (drop l.token-index l.fn.tokens)
    ≡ flat_map token_text l.fn.tokens
