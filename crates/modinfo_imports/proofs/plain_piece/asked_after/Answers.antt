use Rattle.std.proofs.Common.{◌∙◌, sym}
use Rattle.modinfo_imports.proofs.Plains.{new_asks, other_either_way, typeof_asks}
use Rattle.modinfo_imports.proofs.plain_piece.asked_after.Goals as goal

pub returns-in-Other : goal.returns-in-Other
returns-in-Other c last form item braces method before =
    other_either_way _ _ form item braces method before (sym c.keyword_of.ensures ∙ c.in-Other.is)

pub returns-in-New : goal.returns-in-New
returns-in-New c last form item braces method before =
    new_asks _ _ form item braces method before
    (rw c.innermost.ensures at (c.may_be_name.ensures c.if-not-may_be_name.true last))
    (sym c.keyword_of.ensures ∙ c.in-New.is)

pub returns-in-TypeOf : goal.returns-in-TypeOf
returns-in-TypeOf c last form item braces method before =
    typeof_asks _ _ form item braces method before
    (rw c.innermost-in-TypeOf-1.ensures at (c.may_be_name-in-TypeOf-1.ensures c.if-not-may_be_name-2.true
    last))
    (sym c.keyword_of.ensures ∙ c.in-TypeOf.is)
