-- The last byte is the last character.
use Rattle.std.proofs.Common.{◌≡◌, ◌-◌, List, ℕ, [], ◌∷◌, ◌++◌, length, take, refl, ap, ◌∙◌, subst, lit<}
use Rattle.std.proofs.lemmas.List.{take_at}
use Rattle.std.proofs.lemmas.Str.{IsCharBoundary-at_seam, IsUtf8-from_ascii, IsUtf8-take, chars-append}
use Rattle.std.proofs.lemmas.Str.{chars-IsAscii, encodes-IsAscii}
use Rattle.std.proofs.lemmas.Str.Pattern.{ends_char}
use Rattle.std.specs.Str.{IsUtf8, chars}
use lib.Utf8.{encodes}
use Rattle.deno_graph_jsdoc.specs.Characters.{at_sign}
use Rattle.deno_graph_jsdoc.specs.internal.Pass.{EndsWithAt}
use Rattle.deno_graph_jsdoc.proofs.Texts.{bytes_from_chars}
use Rattle.deno_graph_jsdoc.proofs.Words.{IsAscii-from_test}
use Rattle.deno_graph_jsdoc.proofs.pass.ends_with_at.Goals as goal

last_char : (text front : List ℕ) → IsUtf8 text → text ≡ front ++ at_sign ∷ [] → EndsWithAt (chars text)
last_char text front utf8 is =
    let at_end : IsUtf8 (at_sign ∷ []) =
    IsUtf8-from_ascii (at_sign ∷ []) (IsAscii-from_test (at_sign ∷ []) refl) in
    let before : IsUtf8 front =
    subst IsUtf8 (ap (take (length front)) is ∙ take_at front (at_sign ∷ []) (length front) refl)
    (IsUtf8-take text (length front) utf8 (IsCharBoundary-at_seam text front (at_sign ∷ []) is at_end)) in
    record {
      front = chars front;
      back = at_sign ∷ [];
      whole = ap chars is ∙ chars-append front (at_sign ∷ []) before
          ∙ ap (λ t. chars front ++ t) (chars-IsAscii (at_sign ∷ []) (IsAscii-from_test (at_sign ∷ []) refl));
      is_front = tt;
      is_back = refl;
    }

pub returns : goal.returns
returns c =
    let text = c.args.text.now in
    let both = ends_char at_sign text c.ends_with.result c.ends_with.ensures.cases (lit< tt) in (
      (λ is. last_char text (take (length text - 1) text) c.utf8.text (both.0 is)),
      λ ends. both.1 (encodes ends.front)
          (bytes_from_chars text ends.front (at_sign ∷ []) c.utf8.text
          (ends.whole ∙ ap (λ t. ends.front ++ t) ends.is_back) ∙ ap (λ t. encodes ends.front ++ t) one),
    )
  where
    one : encodes (at_sign ∷ []) ≡ at_sign ∷ []
    one = encodes-IsAscii (at_sign ∷ []) (IsAscii-from_test (at_sign ∷ []) refl)
