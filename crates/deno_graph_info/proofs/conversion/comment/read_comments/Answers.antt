use Rattle.std.proofs.Common.{Some, None, sym, subst, ◌∙◌}
use Rattle.deno_graph_json.specs.Data.{data_of, members_data}
use Rattle.deno_graph_json.specs.Read.Partial.{reads_array}
use Rattle.deno_graph_json.specs.Read.Result.{IsReadError}
use Rattle.deno_graph_info.specs.Comment.{reads_stored_comment}
use Rattle.deno_graph_info.proofs.NamedMembers.{comments_among, no_comments}
use Rattle.deno_graph_info.proofs.conversion.comment.read_comments.Goals as goal

pub returns-in_default : goal.returns-in_default
returns-in_default c = sym (no_comments (data_of c.args.dependency) (sym c.in_default.ensures.json))

pub returns-in_default-get : goal.returns-in_default-get
returns-in_default-get c =
    sym (comments_among (data_of c.args.dependency) (members_data c.in-Some.members) None
    (sym c.in-Some.ensures.json) (sym c.in_default-get.ensures.json))

pub returns-in-Ok : goal.returns-in-Ok
returns-in-Ok c =
    sym (comments_among (data_of c.args.dependency) (members_data c.in-Some.members)
    (Some (data_of c.in-Some-get.comments)) (sym c.in-Some.ensures.json) (sym c.in-Some-get.ensures.json)
    ∙ c.in-Ok.ensures)

pub returns-in-Err-Mismatch : goal.returns-in-Err-Mismatch
returns-in-Err-Mismatch c =
    let value = data_of c.in-Some-get.comments in
    sym (comments_among (data_of c.args.dependency) (members_data c.in-Some.members) (Some value)
    (sym c.in-Some.ensures.json) (sym c.in-Some-get.ensures.json)
    ∙ (subst (IsReadError value (reads_array reads_stored_comment value)) c.in-Err-Mismatch.field-0-is
    c.in-Err-Mismatch.ensures).0)
