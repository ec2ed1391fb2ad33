use Rattle.std.proofs.Common.{Some, None, rules}
use Rattle.std.proofs.lemmas.Fn.{always_returns_same}
use Rattle.std.specs.Char.{is_whitespace}
use Rattle.std.specs.Str.{chars}
use Rattle.deno_graph_pragmas.proofs.TextSteps.{split_once_parts, split_once-all, split_once-front}
use Rattle.deno_graph_pragmas.proofs.finders.scan.before_white_space.Goals as goal

pub returns-in-Some : goal.returns-in-Some
returns-in-Some c =
    let parts = split_once_parts _ is_whitespace c.args.text.now (Some (c.in-Some.front, c.in-Some.field-0-1))
    c.utf8.text (always_returns_same _ _ _ (λ a r f k. search rules)) c.in-Some.ensures.cases in
    split_once-front is_whitespace _ _ _ parts.0 parts.1 parts.2 parts.3

pub returns-in-None : goal.returns-in-None
returns-in-None c =
    let none = split_once_parts _ is_whitespace c.args.text.now None c.utf8.text
    (always_returns_same _ _ _ (λ a r f k. search rules)) c.in-None.ensures.cases in
    split_once-all is_whitespace (chars c.args.text.now) none
