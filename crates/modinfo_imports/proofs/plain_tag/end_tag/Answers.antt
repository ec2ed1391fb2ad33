use Rattle.std.proofs.Common.{◌∙◌, sym}
use Rattle.modinfo_imports.proofs.plain_tag.end_tag.Goals as goal

pub returns-in_ok-end_first_tag-in-Tag : goal.returns-in_ok-end_first_tag-in-Tag
returns-in_ok-end_first_tag-in-Tag c text parentheses here =
    c.in_ok-end_first_tag-in-Tag.ensures text parentheses here (sym c.innermost.ensures ∙ c.in-Tag.is)

pub returns-in-ClosingTag : goal.returns-in-ClosingTag
returns-in-ClosingTag c text parentheses here =
    c.end_closing_tag.ensures text parentheses here (sym c.innermost.ensures ∙ c.in-ClosingTag.is)
