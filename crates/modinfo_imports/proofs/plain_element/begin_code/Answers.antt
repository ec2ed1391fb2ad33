use Rattle.modinfo_imports.proofs.PlainElements.{code-turn}
use Rattle.modinfo_imports.proofs.plain_element.begin_code.Goals as goal

pub returns : goal.returns
returns c text parentheses here =
    rw (c.after_token.ensures, c.in_ok-push.ensures)
    (code-turn text c.args.plain c.args.end c.args.around.now parentheses here)
