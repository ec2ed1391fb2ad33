-- One of the three forms.
use Rattle.std.specs.Str.{chars}
use Rattle.deno_graph_jsdoc.specs.internal.Reading.{rest_of}
use Rattle.deno_graph_jsdoc.proofs.Clauses.{clause_names, clause_namespace, clause_name}
use Rattle.deno_graph_jsdoc.proofs.grammar.declaration.clause.Goals as goal

pub returns-in-Some : goal.returns-in-Some
returns-in-Some c = clause_names (chars c.args.input.now) (chars c.in-Some.rest.now) c.in-Some.ensures

pub returns-in-Some-namespace : goal.returns-in-Some-namespace
returns-in-Some-namespace c =
    clause_namespace (chars c.args.input.now) c.in_default.ensures
    (chars c.in-Some-namespace.rest.now) c.in-Some-namespace.ensures

pub returns : goal.returns
returns c = clause_name (chars c.args.input.now) c.in_default.ensures
    (rest_of c.name.result) c.in_default-namespace.ensures c.name.ensures
