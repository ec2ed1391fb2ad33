use Rattle.std.proofs.Common.{ℕ, List, Ok, Some, ap, codes, option_map, ◌∙◌}
use Rattle.std.proofs.lemmas.Result.{on_ok_weaker}
use Rattle.std.specs.String.{string_bytes}
use Rattle.json.specs.Json.{string}
use Rattle.json.specs.Token.{begin_object, end_object}
use Rattle.deno_graph_json.specs.Text.{Text, text_in, with_tokens}
use Rattle.deno_graph_json.proofs.Texts.{text_written}
use Rattle.modinfo_document.specs.ReportText.{fault_entries, json_of_offsets, json_of_place}
use Rattle.modinfo_document.specs.internal.ReportText.{member_tokens}
use Rattle.modinfo_document.proofs.ReportTexts.{object_written}
use Rattle.modinfo_document.proofs.report.write_fault.Goals as goal

-- the text after a member with this string
abbrev with_text : List ℕ → Text → List ℕ → Text
with_text name text s = with_tokens (member_tokens name (Some (string s))) text

pub returns : goal.returns
returns c =
    let report = c.args.report.now in
    let begun = text_in c.begin_object.new.self in
    let opens = text_written (Ok c.in_ok-begin_object.field-0) c.args.line.now c.begin_object.new.self
    begin_object c.in_ok-begin_object.ensures in
    let pointer = with_tokens (member_tokens (codes "pointer")
    (option_map (λ pointer. string (string_bytes pointer)) report.pointer)) in
    let other = with_tokens (member_tokens (codes "other")
    (option_map (λ pointer. string (string_bytes pointer)) report.other)) in
    let range = with_tokens (member_tokens (codes "range") (option_map json_of_offsets report.range)) in
    let at = with_tokens (member_tokens (codes "at") (option_map json_of_place report.at)) in
    let expected = with_tokens (member_tokens (codes "expected")
    (Some (string (string_bytes report.expected)))) in
    let members =
    c.in_ok-write_member-2.ensures
    ∙ ap (with_text (codes "expected") (text_in c.write_text_place.new.line)) c.as_str-2.ensures.value
    ∙ ap expected (c.in_ok-write_text_place.ensures ∙ ap at
    (c.in_ok-write_range.ensures ∙ ap range
    (c.in_ok-write_pointer-2.ensures ∙ ap other
    (c.in_ok-write_pointer.ensures ∙ ap pointer
    (c.in_ok-write_member.ensures ∙ ap (with_text (codes "fault") begun) c.as_str.ensures.value))))) in
    on_ok_weaker c.end_object.result
    (object_written (fault_entries report) (text_in c.args.line.now) begun
    (text_in c.write_member-2.new.line) (text_in c.end_object.new.self) opens members)
    (text_written c.end_object.result c.write_member-2.new.line c.end_object.new.self end_object
    c.end_object.ensures)
