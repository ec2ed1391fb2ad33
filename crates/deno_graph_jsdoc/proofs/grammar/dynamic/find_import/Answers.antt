-- Arguments, with a brace somewhere after them.
use Rattle.std.proofs.Common.{◌≡◌, ℕ, Bool, true, false, nat_lt, Some, None, List, [], length, refl, ap}
use Rattle.std.proofs.Common.{arith, rules}
use Rattle.std.proofs.lemmas.Bool.{ltb-true, ltb-false}
use Rattle.std.proofs.lemmas.Str.{encodes-chars}
use Rattle.std.specs.Bool.{then_some}
use Rattle.std.specs.Option.{option_map}
use Rattle.std.specs.Str.{IsUtf8, chars}
use Rattle.deno_graph_jsdoc.specs.internal.Reading.{ReadsImportAlone, HasArguments, IsDynamicEnd, ReadsImport}
use Rattle.deno_graph_jsdoc.specs.JsDocImport.{import_of}
use Rattle.deno_graph_jsdoc.specs.internal.Braces.{IsUnclosed}
use Rattle.deno_graph_jsdoc.specs.declared.import.JsDocImport.{JsDocImport}
use Rattle.deno_graph_jsdoc.proofs.Arguments.{HasArguments-back, no_arguments, after_arguments}
use Rattle.deno_graph_jsdoc.proofs.Braces.{IsUnclosed-back, brace_left, no_brace_left}
use Rattle.deno_graph_jsdoc.proofs.grammar.dynamic.find_import.Goals as goal

pub returns-in_err-rest-clause-found : goal.returns-in_err-rest-clause-found
returns-in_err-rest-clause-found c =
    rw c.from_residual.ensures ([], no_arguments (chars c.args.input.now) c.in_err-rest.ensures.parsed)

-- whether the rest is longer than the end without a brace
closed : (input rest : List ℕ) (import : JsDocImport) (count : ℕ) → IsUtf8 rest → IsUnclosed
    (chars input) count → ReadsImport HasArguments (chars input) (Some (chars rest, import_of import))
    → ReadsImportAlone IsDynamicEnd (chars input)
    (option_map import_of (then_some (nat_lt count (length rest)) import))
closed input rest import count utf8 unclosed found = by_size (nat_lt count (length rest)) refl
  where
    left : IsUnclosed (chars rest) count
    left =
        let back = HasArguments-back (chars input) (import_of import) (chars rest) found.0 in
        IsUnclosed-back (chars input) back.0 (chars rest) count back.1 unclosed

    by_size : (more : Bool) → nat_lt count (length rest) ≡ more
        → ReadsImportAlone IsDynamicEnd (chars input) (option_map import_of (then_some more import))
    by_size true is =
        let brace = brace_left (chars rest) count left
        (omega (arith, ltb-true count (length rest) is, ap length (encodes-chars rest utf8))) in (
          brace.0,
          after_arguments (chars input) (chars rest) (import_of import)
              (Some (brace.0, tt)) found brace.1,
        )
    by_size false is = (
      [],
      after_arguments (chars input) (chars rest) (import_of import) None found
          (no_brace_left (chars rest) count left
          (omega (arith, ltb-false count (length rest) is, ap length (encodes-chars rest utf8)))),
    )

pub returns-clause-found : goal.returns-clause-found
returns-clause-found c =
    let utf8 : IsUtf8 c.in_ok-rest.rest.now = search rules in
    rw c.then_some.ensures (closed c.args.input.now c.in_ok-rest.rest.now c.in_ok-rest.import c.args.unclosed
    utf8 c.requires.unclosed c.in_ok-rest.ensures.parsed)
