use Rattle.std.proofs.Common.{◌≡◌, [], ◌∷◌, Some, None, refl, ap}
use Rattle.std.specs.Str.{chars}
use Rattle.deno_graph_pragmas.specs.Piece.{is_quote, is_unquoted, quote}
use Rattle.deno_graph_pragmas.specs.internal.Reading.{after_pieces, skip_while}
use Rattle.deno_graph_pragmas.proofs.TextSteps.{split_once_parts, split_once-none, split_once-some}
use Rattle.deno_graph_pragmas.proofs.TextSteps.{split_once-front}
use Rattle.deno_graph_pragmas.proofs.finders.scan.before_quote.Goals as goal

pub returns-in_err-front-clause-none : goal.returns-in_err-front-clause-none
returns-in_err-front-clause-none c = λ _.
    let none = split_once_parts _ is_quote c.args.text.now None c.utf8.text
    (λ _. refl) c.in_err-front.ensures.cases in
    ap (after_pieces (quote ∷ [])) (split_once-none is_quote (chars c.args.text.now) none)

pub returns-clause-front : goal.returns-clause-front
returns-clause-front c =
    let parts = split_once_parts _ is_quote c.args.text.now (Some
    (c.in_ok-front.front, c.in_ok-front.field-0-1)) c.utf8.text (λ _. refl) c.in_ok-front.ensures.cases in
    split_once-front is_quote _ _ _ parts.0 parts.1 parts.2 parts.3

pub returns-clause-quote : goal.returns-clause-quote
returns-clause-quote c =
    let parts = split_once_parts _ is_quote c.args.text.now (Some
    (c.in_ok-front.front, c.in_ok-front.field-0-1)) c.utf8.text (λ _. refl) c.in_ok-front.ensures.cases in
    let tail = chars c.in_ok-front.field-0-1.now in
    let left : skip_while is_unquoted (chars c.args.text.now) ≡ parts.0 ∷ tail =
    split_once-some is_quote _ _ _ parts.0 parts.1 parts.2 parts.3 in
    rw (left, parts.2) refl
