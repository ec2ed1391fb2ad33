-- The text of a report: JSON without white space, with the members in this order.
use Rattle.std.specs.Prelude.{ℕ, ◌==◌, List, [], ◌∷◌, map, codes, decimal, true, Option, Some, None}
use Rattle.std.specs.Prelude.{option_map}
use Rattle.std.specs.String.{string_bytes}
use Rattle.json.specs.Json.{Json, Items, Members, array, boolean, item, member, no_items, no_members, number}
use Rattle.json.specs.Json.{object, string}
use Rattle.json.specs.Print.{print}
use Rattle.json.specs.Tree.{json_tokens}
use Rattle.deno_graph_base.specs.declared.text.position.SourceRange.{SourceRange}
use Rattle.deno_graph_json.specs.Object.{if_any, unless}
use Rattle.modinfo_document.specs.declared.report.FaultReport.{FaultReport}
use Rattle.modinfo_document.specs.declared.report.Report.{Report}
use Rattle.modinfo_document.specs.declared.report.Report.TheVariants.{Valid, Invalid}
use Rattle.modinfo_document.specs.declared.report.text_place.TextPlace.{TextPlace}
use Rattle.modinfo_document.specs.declared.report.warning.ValueWarning.{ValueWarning}
use Rattle.modinfo_document.specs.declared.report.warning.ValueWarning.TheVariants.{PositionBeyond}
use Rattle.modinfo_document.specs.declared.report.warning.ValueWarning.TheVariants.{PositionInside}
use Rattle.modinfo_document.specs.declared.report.warning.ValueWarning.TheVariants.{RangeEarlier}
use Rattle.modinfo_document.specs.declared.report.warning.ValueWarning.TheVariants.{RangeOutside}
use Rattle.modinfo_document.specs.declared.report.warning.ValueWarning.TheVariants.{UnreadMember}
use Rattle.modinfo_document.specs.declared.report.warning.Warning.{Warning}
use Rattle.modinfo_document.specs.declared.report.warning.WarningKind.{WarningKind}
use Rattle.modinfo_document.specs.declared.report.warning.WarningKind.TheVariants.{UnknownRoot}
use Rattle.modinfo_document.specs.declared.report.warning.WarningKind.TheVariants.{UnspelledLiteral, Value}
use Rattle.modinfo_document.specs.declared.report.warning.Warnings.{Warnings}

-- A name, and its value or none if the object lacks the member.
abbrev pub Entry : Type 0
Entry = List ℕ × Option Json

-- The members of the entries that have a value, in order.
abbrev pub members_of : List Entry → Members
members_of [] = no_members
members_of ((name, None) ∷ entries) = members_of entries
members_of ((name, Some value) ∷ entries) = member name value (members_of entries)

-- The object of the entries that have a value.
abbrev pub json_object : List Entry → Json
json_object entries = object (members_of entries)

-- The items of an array of these values.
abbrev pub json_items : List Json → Items
json_items [] = no_items
json_items (json ∷ more) = item json (json_items more)

abbrev pub json_of_count : ℕ → Json
json_of_count n = number (decimal n)

-- A range by its two offsets.
abbrev pub json_of_offsets : SourceRange → Json
json_of_offsets range = array (json_items (json_of_count range.start ∷ json_of_count range.end ∷ []))

abbrev pub place_entries : TextPlace → List Entry
place_entries place =
    (codes "line", Some (json_of_count place.position.line))
    ∷ (codes "column", Some (json_of_count place.position.character))
    ∷ (codes "offset", Some (json_of_count place.offset))
    ∷ []

abbrev pub json_of_place : TextPlace → Json
json_of_place place = json_object (place_entries place)

-- The members of a report on a fault.
abbrev pub fault_entries : FaultReport → List Entry
fault_entries report =
    (codes "fault", Some (string (string_bytes report.fault)))
    ∷ (codes "pointer", option_map (λ pointer. string (string_bytes pointer)) report.pointer)
    ∷ (codes "other", option_map (λ pointer. string (string_bytes pointer)) report.other)
    ∷ (codes "range", option_map json_of_offsets report.range)
    ∷ (codes "at", option_map json_of_place report.at)
    ∷ (codes "expected", Some (string (string_bytes report.expected)))
    ∷ []

-- A warning about a value, in words.
abbrev pub value_words : ValueWarning → List ℕ
value_words UnreadMember = codes "nothing reads a member of this name here"
value_words PositionBeyond = codes "no comment is looked for here: the position is beyond the source"
value_words PositionInside = codes "no comment is looked for here: the position is inside a character"
value_words RangeOutside = codes "the range isn't inside that of the node above"
value_words RangeEarlier = codes "the range starts before that of the child in front of it"

-- A warning in words.
abbrev pub warning_words : WarningKind → List ℕ
warning_words (Value value) = value_words value
warning_words UnspelledLiteral = codes "the source doesn't spell this value at the literal's range"
warning_words UnknownRoot = codes "no module has this key, so the answer is []"

abbrev pub json_of_warning : Warning → Json
json_of_warning warning = json_object
    ((codes "pointer", Some (string (string_bytes warning.pointer)))
    ∷ (codes "says", Some (string (warning_words warning.kind)))
    ∷ [])

abbrev pub json_of_warnings : List Warning → Json
json_of_warnings warnings = array (json_items (map json_of_warning warnings))

-- The members of a report without a fault: `warnings` and `more` only if there are any.
abbrev pub valid_entries : Warnings → List Entry
valid_entries warnings =
    (codes "valid", Some (boolean true))
    ∷ (codes "warnings", option_map json_of_warnings (if_any warnings.kept.items))
    ∷ (codes "more", unless (warnings.more == 0) (json_of_count warnings.more))
    ∷ []

abbrev pub json_of_fault : FaultReport → Json
json_of_fault report = json_object (fault_entries report)

abbrev pub json_of_valid : Warnings → Json
json_of_valid warnings = json_object (valid_entries warnings)

abbrev pub json_of_report : Report → Json
json_of_report (Valid warnings) = json_of_valid warnings
json_of_report (Invalid report) = json_of_fault report

-- The line of a report, without its line feed.
abbrev pub report_text : Report → List ℕ
report_text report = print (json_tokens (json_of_report report))
