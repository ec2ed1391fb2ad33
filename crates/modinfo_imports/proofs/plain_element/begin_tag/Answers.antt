use Rattle.modinfo_imports.proofs.PlainElements.{tag-turn}
use Rattle.modinfo_imports.proofs.plain_element.begin_tag.Goals as goal

pub returns : goal.returns
returns c text parentheses here =
    rw (c.after_token.ensures, c.in_ok-push.ensures)
    (tag-turn text c.args.plain c.args.end c.args.around.now parentheses here)
