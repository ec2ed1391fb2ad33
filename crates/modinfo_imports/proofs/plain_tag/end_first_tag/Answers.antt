use Rattle.modinfo_imports.proofs.PlainTags.{first_tag-turn}
use Rattle.modinfo_imports.proofs.plain_tag.end_first_tag.Goals as goal

pub returns : goal.returns
returns c text parentheses here is =
    rw c.after_token.ensures (first_tag-turn text c.args.plain c.args.end c.in_ok-in_element.in_element
    c.pop-tag.result c.args.around.now c.pop-tag.new.self c.begin_element.new.around parentheses here is
    c.pop-tag.ensures c.in_ok-in_element.ensures.opening c.in_ok-in_element.ensures.around)
