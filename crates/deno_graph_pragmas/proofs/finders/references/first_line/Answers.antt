use Rattle.std.proofs.Common.{◌∷◌, ◌++◌, Some, None, inl, inr, refl, ap, ◌∙◌, eqb-true}
use Rattle.std.specs.Str.{chars}
use Rattle.deno_graph_pragmas.specs.Piece.{line_feed}
use Rattle.deno_graph_pragmas.proofs.TextSteps.{split_once_char}
use Rattle.deno_graph_pragmas.proofs.finders.references.first_line.Goals as goal

pub returns-in-Some : goal.returns-in-Some
returns-in-Some c =
    let line = c.in-Some.line in
    let tail = c.in-Some.field-0-1 in
    let parts =
    split_once_char line_feed c.args.text.now (Some (line, tail)) c.utf8.text c.in-Some.ensures.cases in (
      parts.3,
      inr (
        chars tail.now,
        parts.1 ∙ ap (λ feed. chars line.now ++ feed ∷ chars tail.now)
            (eqb-true parts.0 line_feed parts.2),
      ),
    )

pub returns-in-None : goal.returns-in-None
returns-in-None c =
    (split_once_char line_feed c.args.text.now None c.utf8.text c.in-None.ensures.cases, inl refl)
