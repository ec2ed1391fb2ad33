use Rattle.std.proofs.Common.{sym}
use Rattle.deno_graph_json.specs.Data.{data_of}
use Rattle.modinfo.proofs.StoredOverflow.{has_comments}
use Rattle.modinfo.proofs.check.conversion.overflow_report.Goals as goal

pub returns-clause-column : goal.returns-clause-column
returns-clause-column c = λ dependencies here over.
    let comments = has_comments (data_of c.args.dependency) over in
    let last = c.last_comment.ensures comments.0 comments.1 in
    record {
      number = c.args.number;
      dependency = data_of c.args.dependency;
      comments = comments.0;
      is_dependency = here;
      overflows = over;
      are_comments = comments.1;
      path = record {
        pointer = rw (c.of_value.ensures.pointer, sym last) c.in_ok-pointer.ensures;
        other = c.of_value.ensures.other;
        range = c.of_value.ensures.range;
        at = c.of_value.ensures.at;
      };
      expected = rw c.of_value.ensures.expected c.in_ok-expected.ensures;
    }
