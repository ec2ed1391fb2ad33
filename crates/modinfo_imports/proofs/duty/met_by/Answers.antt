-- Each row of the table has code of its own.
use Rattle.modinfo_imports.proofs.duty.met_by.Goals as goal

pub returns-in-Parenthesis : goal.returns-in-Parenthesis
returns-in-Parenthesis c =
    rw c.in-Parenthesis.is (c.met_parenthesis.ensures c.args.is_after_line_end c.args.is_typed)

pub returns-in-TypeName : goal.returns-in-TypeName
returns-in-TypeName c =
    rw c.in-TypeName.is (c.met_type.ensures c.args.is_after_line_end c.args.is_typed)

pub returns-in-TypeEnd : goal.returns-in-TypeEnd
returns-in-TypeEnd c =
    rw c.in-TypeEnd.is (c.met_type_end.ensures c.args.is_after_line_end c.args.is_typed)

pub returns-in-NoParenthesis : goal.returns-in-NoParenthesis
returns-in-NoParenthesis c =
    rw c.in-NoParenthesis.is (c.met_no_parenthesis.ensures c.args.is_typed)

pub returns-in-NoCall : goal.returns-in-NoCall
returns-in-NoCall c =
    rw c.in-NoCall.is (c.met_no_call.ensures c.args.is_after_line_end c.args.is_typed)

pub returns-in-ExportNames : goal.returns-in-ExportNames
returns-in-ExportNames c =
    rw c.in-ExportNames.is (c.met_export_names.ensures c.args.is_after_line_end c.args.is_typed)

pub returns-in-ExportAlone : goal.returns-in-ExportAlone
returns-in-ExportAlone c =
    rw c.in-ExportAlone.is (c.met_export_alone.ensures c.args.is_after_line_end c.args.is_typed)

pub returns-in-Comma : goal.returns-in-Comma
returns-in-Comma c =
    rw c.in-Comma.is (c.met_comma.ensures c.args.is_after_line_end c.args.is_typed)
