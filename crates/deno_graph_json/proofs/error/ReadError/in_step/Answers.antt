use Rattle.std.proofs.Common.{sym, subst}
use Rattle.std.specs.Option.{IsSomeAnd}
use Rattle.deno_graph_json.proofs.Reading.{place_around}
use Rattle.deno_graph_json.specs.Read.Error.{IsIn, data_at}
use Rattle.deno_graph_json.specs.Read.Expected.{IsNot}
use Rattle.deno_graph_json.proofs.error.ReadError.in_step.Goals as goal

pub returns-in-Ok-clause-place : goal.returns-in-Ok-clause-place
returns-in-Ok-clause-place c = λ outer inner is h.
    let found = c.in-Mismatch.field-0 in
    subst (λ path. IsSomeAnd (data_at path outer) (IsNot found.expected)) (sym c.in-Ok.ensures.ok)
    (place_around found.path c.args.step found.expected outer inner is (subst (IsIn inner) c.in-Mismatch.is
    h))
