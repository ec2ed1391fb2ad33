-- Arguments, and the text up to a brace.
use Rattle.std.proofs.Common.{Some, None, codes}
use Rattle.std.specs.Str.{chars}
use Rattle.deno_graph_jsdoc.specs.JsDocGrammar.{◌·◌, Is, IsSpace}
use Rattle.deno_graph_jsdoc.specs.JsDocImport.{EndsDynamicImport, import_of}
use Rattle.deno_graph_jsdoc.proofs.Arguments.{no_arguments, after_arguments}
use Rattle.deno_graph_jsdoc.proofs.Imports.{BeginsWithImport-within}
use Rattle.deno_graph_jsdoc.proofs.grammar.dynamic.after_import.Goals as goal

pub returns-in_err-rest-clause-parsed : goal.returns-in_err-rest-clause-parsed
returns-in_err-rest-clause-parsed c =
    rw c.from_residual.ensures (no_arguments (chars c.args.input.now) c.in_err-rest.ensures.parsed)

pub returns-in_err-rest-2-clause-parsed : goal.returns-in_err-rest-2-clause-parsed
returns-in_err-rest-2-clause-parsed c =
    rw c.from_residual-in_err-rest-2.ensures
    (after_arguments (chars c.args.input.now) (chars c.in_ok-rest.rest.now)
    (import_of c.in_ok-rest.import) None c.in_ok-rest.ensures.parsed c.in_err-rest-2.ensures)

pub returns-clause-parsed : goal.returns-clause-parsed
returns-clause-parsed c =
    after_arguments (chars c.args.input.now) (chars c.in_ok-rest.rest.now) (import_of c.in_ok-rest.import)
    (Some (chars c.in_ok-rest-2.rest.now, tt))
    c.in_ok-rest.ensures.parsed c.in_ok-rest-2.ensures

pub returns-clause-within : goal.returns-clause-within
returns-clause-within c =
    BeginsWithImport-within (IsSpace · Is (codes "(") · IsSpace) EndsDynamicImport c.args.input.now _ _
    c.utf8.input
    (returns-clause-parsed c).0
