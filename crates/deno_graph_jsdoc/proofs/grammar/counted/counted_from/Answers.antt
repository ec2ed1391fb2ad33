-- The range is moved by the bytes before `after`.
use Rattle.std.proofs.Common.{◌≡◌, ◌+◌, ◌-◌, ◌<◌, ◌^◌, ℕ, Option, Some, IfSome, List, length, ap, subst}
use Rattle.std.proofs.Common.{arith, rules}
use Rattle.std.specs.Str.{chars}
use denote.Ref.{Bor}
use Rattle.deno_graph_jsdoc.specs.JsDocImport.{Import}
use Rattle.deno_graph_jsdoc.specs.declared.import.JsDocImport.{JsDocImport}
use Rattle.deno_graph_jsdoc.specs.internal.Braces.{IsWithin}
use Rattle.deno_graph_jsdoc.proofs.grammar.counted.counted_from.Goals as goal

within : (count : ℕ) (read : Option (Bor (List ℕ) × JsDocImport)) (rest : Bor (List ℕ)) (import : JsDocImport)
    → read ≡ Some (rest, import) → IfSome read (λ parsed. IsWithin parsed.1 count) → IsWithin import count
within count read rest import is inside = subst (λ r. IfSome r (λ parsed. IsWithin parsed.1 count)) is inside

pub moved-requires-clause-order : goal.moved-requires-clause-order
moved-requires-clause-order c =
    (within (length c.args.after.now) c.args.read c.in_ok-rest.rest c.in_ok-rest.import c.in_ok-rest.was
    c.requires.within).0

pub moved-requires-clause-fits : goal.moved-requires-clause-fits
moved-requires-clause-fits c =
    let small : length c.args.input.now < 2 ^ 64 = search rules in
    let inside = within (length c.args.after.now) c.args.read c.in_ok-rest.rest c.in_ok-rest.import
    c.in_ok-rest.was c.requires.within in
    omega (arith, c.requires.end, inside.1, small)

pub returns-clause-read : goal.returns-clause-read
returns-clause-read c =
    rw c.in_ok-rest.was (ap (λ (import : Import). Some (chars c.in_ok-rest.rest.now, import)) c.moved.ensures)

pub returns-clause-within : goal.returns-clause-within
returns-clause-within c =
    let by = length c.args.input.now - length c.args.after.now in
    let inside = within (length c.args.after.now) c.args.read c.in_ok-rest.rest c.in_ok-rest.import
    c.in_ok-rest.was c.requires.within in
    let start : c.moved.result.specifier_range.start ≡ c.in_ok-rest.import.specifier_range.start + by =
    ap (λ (import : Import). import.start) c.moved.ensures in
    let end : c.moved.result.specifier_range.end ≡ c.in_ok-rest.import.specifier_range.end + by =
    ap (λ (import : Import). import.end) c.moved.ensures in
    (omega (arith, start, end, inside.0), omega (arith, end, inside.1, c.requires.end))
