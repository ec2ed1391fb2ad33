use Rattle.std.proofs.Common.{rules, arith, ◌≡◌, ℕ, ◌<◌, true, get_or}
use Rattle.std.proofs.lemmas.Bool.Decides.{nat_tests}
use Rattle.std.specs.Char.{is_ascii_digit, digit_value}
use Rattle.std.proofs.lemmas.Int.Digits.{digits_more, digits_value_more}
use Rattle.std.proofs.lemmas.Grind.{pow_more}
use Rattle.deno_graph_json.proofs.flat.digits.short_whole.Goals as goal

below_ten : (c : ℕ) → is_ascii_digit c ≡ true → digit_value c < 10
below_ten c digit = grind (arith, nat_tests)

pub loop-byte-preserved : goal.loop-byte-preserved
loop-byte-preserved c =
    let digits = c.args.digits.now in
    let at = c.loop-byte.byte-index in
    let digit : is_ascii_digit (get_or digits at 0) ≡ true = search rules in
    let worth : digit_value (get_or digits at 0) ≡ c.from.result = grind (arith, nat_tests) in
    let less = below_ten (get_or digits at 0) digit in (
      digits_more 10 digits at c.loop-byte-test.true c.loop-byte.invariant.0 less,
      omega (arith, digits_value_more 10 digits at c.loop-byte-test.true, worth, c.loop-byte.invariant.1),
      omega (arith, pow_more 10 at, worth, less, c.loop-byte.invariant.2),
    )
