-- Triple-slash references.
use Rattle.std.proofs.Common.{◌≡◌, ◌↔◌, ℕ, Bool, true, false, List, [], ◌++◌, Some, None, refl, sym, ap}
use Rattle.std.proofs.Common.{subst, ◌∙◌, codes}
use Rattle.std.proofs.lemmas.Bool.{false≢true}
use Rattle.std.proofs.lemmas.List.{append-nil}
use Rattle.std.proofs.lemmas.Option.{none-some, same_Some}
use Rattle.deno_graph_pragmas.specs.Finders.{triple_slash_reference_pattern}
use Rattle.deno_graph_pragmas.specs.internal.Reading.{after_pieces, IsClosedInLine}
use Rattle.deno_graph_pragmas.specs.Split.{ArePieces, Split}
use Rattle.deno_graph_pragmas.proofs.Barriers.{white-keyword}
use Rattle.deno_graph_pragmas.proofs.Found.{at_start}
use Rattle.deno_graph_pragmas.proofs.ReadPieces.{AreApart, after_pieces-append, after_pieces-front}
use Rattle.deno_graph_pragmas.proofs.Splits.{after_front}

-- the text after the front is determined, but the captured part isn't
front_apart : (after : List ℕ) → AreApart triple_slash_reference_pattern.front after
front_apart after = (tt, (white-keyword (codes "<reference") refl, (tt, tt)))

front_is : (text : List ℕ) → (split : Split triple_slash_reference_pattern text)
    → after_pieces triple_slash_reference_pattern.front text ≡ Some (after_front split)
front_is text split =
    ap (after_pieces triple_slash_reference_pattern.front)
    (sym (at_start triple_slash_reference_pattern text refl split))
    ∙ after_pieces-append triple_slash_reference_pattern.front split.front (after_front split)
    (front_apart (after_front split)) split.front_pieces

made : (text rest : List ℕ) → after_pieces triple_slash_reference_pattern.front text ≡ Some rest
    → IsClosedInLine rest → Split triple_slash_reference_pattern text
made text rest front (line, after, in_line, whole) =
    let first = after_pieces-front triple_slash_reference_pattern.front text rest front in
    record {
      before = [];
      front = first.0;
      captured = line;
      back = codes "/>";
      after = after;
      whole = first.1 ∙ ap (λ t. first.0 ++ t) whole;
      anchored = λ _. refl;
      front_pieces = subst (ArePieces triple_slash_reference_pattern.front first.0) whole first.2;
      captured_piece = in_line;
      back_pieces = (codes "/>", [], sym (append-nil (codes "/>")), refl, refl);
    }

closed : (text : List ℕ) → (split : Split triple_slash_reference_pattern text)
    → IsClosedInLine (after_front split)
closed text split =
    let piece = split.back_pieces in
    let is : split.back ≡ codes "/>" = piece.2 ∙ ap (λ t. t ++ piece.1) piece.3
    ∙ ap (λ t. codes "/>" ++ t) piece.4 ∙ append-nil (codes "/>") in
    (split.captured, split.after, split.captured_piece, ap (λ t. split.captured ++ (t ++ split.after)) is)

pub reference_iff : (text rest : List ℕ) (result : Bool)
    → after_pieces triple_slash_reference_pattern.front text ≡ Some rest
    → (result ≡ true) ↔ IsClosedInLine rest → (result ≡ true) ↔ Split triple_slash_reference_pattern text
reference_iff text rest result front is = (
  λ yes. made text rest front (is.0 yes),
  λ split.
      let same : after_front split ≡ rest = same_Some _ _ (sym (front_is text split) ∙ front) in
      is.1 (subst IsClosedInLine same (closed text split)),
)

pub no_reference : (text : List ℕ) → after_pieces triple_slash_reference_pattern.front text ≡ None
    → (false ≡ true) ↔ Split triple_slash_reference_pattern text
no_reference text none =
    (λ never. absurd (false≢true never), λ split. absurd (none-some _ (sym none ∙ front_is text split)))
