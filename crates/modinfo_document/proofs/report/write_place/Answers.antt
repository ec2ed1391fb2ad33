use Rattle.std.proofs.Common.{Ok, Some, ap, codes, ◌∙◌}
use Rattle.std.proofs.lemmas.Result.{on_ok_weaker}
use Rattle.json.specs.Token.{begin_object, end_object}
use Rattle.deno_graph_json.specs.Text.{text_in, with_tokens}
use Rattle.deno_graph_json.proofs.Texts.{text_written}
use Rattle.modinfo_document.specs.ReportText.{json_of_count, place_entries}
use Rattle.modinfo_document.specs.internal.ReportText.{member_tokens}
use Rattle.modinfo_document.proofs.ReportTexts.{object_written}
use Rattle.modinfo_document.proofs.report.write_place.Goals as goal

pub returns : goal.returns
returns c =
    let at = c.args.at in
    let opens = text_written (Ok c.in_ok-begin_object.field-0) c.args.line.now c.begin_object.new.self
    begin_object c.in_ok-begin_object.ensures in
    let column = with_tokens (member_tokens (codes "column") (Some (json_of_count at.position.character))) in
    let offset = with_tokens (member_tokens (codes "offset") (Some (json_of_count at.offset))) in
    let members = c.in_ok-write_count-3.ensures
    ∙ ap offset (c.in_ok-write_count-2.ensures ∙ ap column c.in_ok-write_count.ensures) in
    on_ok_weaker c.end_object.result
    (object_written (place_entries at) (text_in c.args.line.now) (text_in c.begin_object.new.self)
    (text_in c.write_count-3.new.line) (text_in c.end_object.new.self) opens members)
    (text_written c.end_object.result c.write_count-3.new.line c.end_object.new.self end_object
    c.end_object.ensures)
