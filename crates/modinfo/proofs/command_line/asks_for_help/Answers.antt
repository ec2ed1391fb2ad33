use Rattle.std.proofs.Common.{sym}
use Rattle.modinfo.proofs.CommandWords.{long_asks_nothing}
use Rattle.modinfo.proofs.command_line.asks_for_help.Goals as goal

-- Three words or more.
pub returns-in_default-2 : goal.returns-in_default-2
returns-in_default-2 c = sym (long_asks_nothing (λ word. word.now) c.args.words.now c.in_default.len_at_least)
