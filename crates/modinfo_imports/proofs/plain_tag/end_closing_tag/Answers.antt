use Rattle.std.proofs.Common.{◌∙◌, ap, sym}
use Rattle.modinfo_imports.proofs.PlainTags.{closing_tag-turn}
use Rattle.modinfo_imports.proofs.plain_tag.end_closing_tag.Goals as goal
use Rattle.modinfo_pieces.specs.Openings.{is_element}

pub returns : goal.returns
returns c text parentheses here is =
    rw c.after_token.ensures (closing_tag-turn text c.args.plain c.args.end c.is_element-2.result
    c.in-Some.tag c.pop-element.result c.args.around.now c.pop.new.self c.pop-element.new.self
    parentheses here is (rw c.in-Some.is at c.pop.ensures)
    (ap is_element (sym c.innermost.ensures) ∙ (sym c.is_element.ensures ∙ c.if-not-is_element.false))
    c.pop-element.ensures (c.is_element-2.ensures ∙ ap is_element c.innermost-2.ensures))
