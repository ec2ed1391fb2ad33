use Rattle.std.proofs.Common.{rules}
use Rattle.modinfo_document.proofs.report.syntax.json_report_at.Goals as goal

-- The place is where the token starts, or after.
pub returns-clause-place : goal.returns-clause-place
returns-clause-place c = record {
  place = record {
    at = rw c.of_text.ensures.at c.new.ensures.inside;
    pointer = c.of_text.ensures.pointer;
    other = c.of_text.ensures.other;
    range = c.of_text.ensures.range;
  };
  start = c.min-start.result;
  reached = rw c.of_text.ensures.at (c.new.ensures.reached c.min-start.result (search rules) (search rules));
  expected = rw (c.of_text.ensures.expected, c.in_ok-expected.ensures.ok) c.in_ok-expected_json.ensures;
}
