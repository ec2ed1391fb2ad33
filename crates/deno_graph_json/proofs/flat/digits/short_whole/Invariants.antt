use Rattle.std.proofs.Common.{◌≡◌, ◌^◌, ◌<◌, take}
use Rattle.std.specs.Str.Parse.{digits_value, AllDigits}
use Rattle.deno_graph_json.proofs.flat.digits.short_whole.Given as goal

abbrev pub invariant-loop-byte : goal.invariant-loop-byte
invariant-loop-byte l = AllDigits 10 (take l.byte-index l.digits)
    × (l.whole ≡ digits_value 10 (take l.byte-index l.digits)) × (l.whole < 10 ^ l.byte-index)
