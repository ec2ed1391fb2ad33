use Rattle.std.proofs.Common.{refl, sym, subst}
use Rattle.deno_graph_json.specs.ObjectReader.{value_of}
use Rattle.deno_graph_json.specs.Read.Error.{Expects, IsIn}
use Rattle.deno_graph_json.proofs.object_reader.ObjectReader.member_error.Goals as goal

pub returns-clause-place : goal.returns-clause-place
returns-clause-place g c = λ member here other.
    c.in_member.ensures.place (value_of c.args.self.now) member here
    (subst (IsIn member) (sym c.expected.ensures) other)

pub returns-clause-expected : goal.returns-clause-expected
returns-clause-expected g c =
    c.in_member.ensures.expected c.args.expected
    (subst (Expects c.args.expected) (sym c.expected.ensures) refl)
