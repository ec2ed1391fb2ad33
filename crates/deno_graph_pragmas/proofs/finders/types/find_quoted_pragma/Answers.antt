use Rattle.std.proofs.Common.{◌≡◌, ◌==◌, [], ◌∷◌, false, true, length, refl, sym, ap, ◌∙◌}
use Rattle.std.specs.Str.{chars}
use Rattle.deno_graph_pragmas.specs.Finders.{quoted_pragma}
use Rattle.deno_graph_pragmas.specs.Match.{match_part_of}
use Rattle.deno_graph_pragmas.specs.Piece.{is_unquoted, quote}
use Rattle.deno_graph_pragmas.specs.Split.{IsCaptured}
use Rattle.deno_graph_pragmas.proofs.Captured.{captured_slice, pragma_in_quotes}
use Rattle.deno_graph_pragmas.proofs.Barriers.{quoted_pragma_apart}
use Rattle.deno_graph_pragmas.proofs.Found.{finds_none_in_quotes, no_front, no_rest, some_answer, length_left}
use Rattle.deno_graph_pragmas.proofs.Found.{IsCaptured-at_start}
use Rattle.deno_graph_pragmas.proofs.Runs.{read_nonempty, empty_read, unread_some}
use Rattle.deno_graph_pragmas.proofs.finders.types.find_quoted_pragma.Goals as goal

pub returns-in_err-value : goal.returns-in_err-value
returns-in_err-value c =
    let apart = quoted_pragma_apart c.args.name.now c.requires.start in
    finds_none_in_quotes (quoted_pragma c.args.name.now) _ _ c.from_residual.ensures
    (no_front (quoted_pragma c.args.name.now) _ apart refl (sym c.in_err-value.ensures.left))

pub capture_quoted-requires : goal.capture_quoted-requires
capture_quoted-requires c =
    length_left (quoted_pragma c.args.name.now).front _ _ c.utf8.text c.in_ok-value.ensures.utf8
    (sym c.in_ok-value.ensures.left)

pub returns-in_err-found : goal.returns-in_err-found
returns-in_err-found c =
    let apart = quoted_pragma_apart c.args.name.now c.requires.start in
    let none = unread_some is_unquoted (quote ∷ []) (chars c.in_ok-value.value.now)
    (c.in_err-found.ensures.none refl) in
    finds_none_in_quotes (quoted_pragma c.args.name.now) _ _ c.from_residual-in_err-found.ensures
    (no_rest (quoted_pragma c.args.name.now) _ _ apart refl (sym c.in_ok-value.ensures.left) none)

pub returns-then-is_empty : goal.returns-then-is_empty
returns-then-is_empty c =
    let apart = quoted_pragma_apart c.args.name.now c.requires.start in
    let empty : (length (match_part_of c.in_ok-found.found).text == 0) ≡ true =
    ap (λ t. length t == 0) (sym c.as_str.ensures) ∙ sym c.if-is_empty.ensures in
    let none = empty_read is_unquoted (quote ∷ []) _ _ _ c.in_ok-found.ensures.found empty in
    finds_none_in_quotes (quoted_pragma c.args.name.now) _ _ refl
    (no_rest (quoted_pragma c.args.name.now) _ _ apart refl (sym c.in_ok-value.ensures.left) none)

captured : (c : goal.Else-is_empty) → IsCaptured (quoted_pragma c.args.name.now) c.args.text.now
    (match_part_of c.in_ok-found.found)
captured c =
    let nonempty : (length (match_part_of c.in_ok-found.found).text == 0) ≡ false =
    ap (λ t. length t == 0) (sym c.as_str.ensures) ∙ sym c.if-is_empty.ensures in
    let read = read_nonempty is_unquoted (quote ∷ []) _ _ _ c.in_ok-found.ensures.found nonempty in
    IsCaptured-at_start (quoted_pragma c.args.name.now) _ _ _ c.utf8.text c.in_ok-value.ensures.utf8
    (sym c.in_ok-value.ensures.left) read

pub returns : goal.returns
returns c =
    let is = captured c in
    record {
      found = is;
      none = some_answer is.split;
      slice = captured_slice (quoted_pragma c.args.name.now) _ _ c.utf8.text is;
      quotes = pragma_in_quotes c.args.name.now _ _ c.utf8.text is;
    }
