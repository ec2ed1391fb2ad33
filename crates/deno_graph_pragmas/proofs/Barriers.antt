-- Pieces that end a run of characters.
use Rattle.std.proofs.Common.{◌≡◌, ℕ, ◌<◌, Bool, true, false, List, [], ◌∷◌, refl, sym, ap, arith, ⊎_elim}
use Rattle.std.proofs.Common.{eqb-true, ltb-true, not, nat_lt, codes}
use Rattle.std.proofs.lemmas.Bool.{and_parts, cases_eq}
use Rattle.std.proofs.lemmas.Bool.Decides.{nat_tests}
use Rattle.std.specs.Char.{is_whitespace, is_not_whitespace, to_ascii_lowercase}
use Rattle.std.specs.List.{list_all}
use Rattle.unicode.specs.CaseFolding.{simple_fold}
use Rattle.deno_graph_pragmas.specs.Finders.{attribute, quoted_pragma, quoteless_pragma, jsx_pragma}
use Rattle.deno_graph_pragmas.specs.Finders.{source_mapping_url_pattern}
use Rattle.deno_graph_pragmas.specs.Piece.{one, run, exactly, keyword, is_quote, is_unquoted}
use Rattle.deno_graph_pragmas.specs.Piece.{is_white_or_star, star}
use Rattle.deno_graph_pragmas.specs.internal.Reading.{begins_above_star}
use Rattle.deno_graph_pragmas.proofs.Folding.{same_fold-other}
use Rattle.deno_graph_pragmas.proofs.ReadPieces.{IsBarrier}
use Rattle.deno_graph_pragmas.proofs.Splits.{IsDetermined}

-- A word after white space and stars

-- a character that is an ASCII character above `*`, in upper or lower case, is no white space and no star
lower_above_star : (c letter : ℕ) → star < letter → letter < 128
    → to_ascii_lowercase c ≡ to_ascii_lowercase letter → is_white_or_star c ≡ false
lower_above_star c letter above ascii same = grind (arith, nat_tests)

fold_above_star : (c letter : ℕ) → star < letter → letter < 128 → simple_fold c ≡ simple_fold letter
    → is_white_or_star c ≡ false
fold_above_star c letter above ascii same =
    ⊎_elim (λ long_s. ap is_white_or_star long_s)
    (λ other. ⊎_elim (λ kelvin. ap is_white_or_star kelvin)
    (λ another. lower_above_star c letter above ascii
    (eqb-true _ _ ((same_fold-other c letter ascii other another).1 same)))
    (cases_eq c 8490))
    (cases_eq c 383)

IsBarrier-keyword : (test : ℕ → Bool) (word : List ℕ) → ((c : ℕ) → is_white_or_star c ≡ false
    → test c ≡ false) → begins_above_star word ≡ true → IsBarrier test (keyword word)
IsBarrier-keyword test [] fails start text after is = absurd (cc)
IsBarrier-keyword test (letter ∷ word) fails start [] after is = absurd (cc)
IsBarrier-keyword test (letter ∷ word) fails start (c ∷ text) after is =
    let parts = and_parts (nat_lt star letter) (nat_lt letter 128) start in
    let head : simple_fold c ≡ simple_fold letter = cc in
    (c, text, refl, fails c (fold_above_star c letter (ltb-true _ _ parts.0) (ltb-true _ _ parts.1) head))

white_part : (c : ℕ) → is_white_or_star c ≡ false → is_whitespace c ≡ false
white_part c fails = grind (arith, nat_tests)

pub white-keyword : (word : List ℕ) → begins_above_star word ≡ true → IsBarrier is_whitespace (keyword word)
white-keyword word start = IsBarrier-keyword is_whitespace word white_part start

pub white_or_star-keyword : (word : List ℕ) → begins_above_star word ≡ true
    → IsBarrier is_white_or_star (keyword word)
white_or_star-keyword word start = IsBarrier-keyword is_white_or_star word (λ c fails. fails) start

-- Other pieces

pub white-equals : IsBarrier is_whitespace (exactly (61 ∷ []))
white-equals text after is = (61, [], is, refl)

quote_not_white : (c : ℕ) → is_quote c ≡ true → is_whitespace c ≡ false
quote_not_white c is = grind (arith, nat_tests)

pub white-quote : IsBarrier is_whitespace (one is_quote)
white-quote text after (c, is, passes) = (c, [], is, quote_not_white c passes)

pub unquoted-quote : IsBarrier is_unquoted (one is_quote)
unquoted-quote text after (c, is, passes) = (c, [], is, ap not passes)

not_not : (b : Bool) → not b ≡ true → b ≡ false
not_not true h = sym h
not_not false h = refl

pub white-non_white_space : IsBarrier is_whitespace (run is_not_whitespace)
white-non_white_space [] after (nonempty, all, stopped) = absurd (nonempty refl)
white-non_white_space (c ∷ text) after (nonempty, all, stopped) =
    let parts = and_parts (is_not_whitespace c) (list_all is_not_whitespace text) all in
    (c, text, refl, not_not (is_whitespace c) parts.0)

-- The patterns

pub attribute_apart : (name : List ℕ) → IsDetermined (attribute name)
attribute_apart name after = (tt, (tt, (white-equals, (tt, (white-quote, (tt, (unquoted-quote, tt)))))))

pub quoted_pragma_apart : (name : List ℕ) → begins_above_star name ≡ true → IsDetermined (quoted_pragma name)
quoted_pragma_apart name start after =
    (white-keyword name start, (tt, (white-equals, (tt, (white-quote, (tt, (unquoted-quote, tt)))))))

pub quoteless_pragma_apart : (name : List ℕ) → begins_above_star name ≡ true
    → IsDetermined (quoteless_pragma name)
quoteless_pragma_apart name start after =
    (white-keyword name start, (tt, (white-equals, (tt, (white-non_white_space, tt)))))

pub jsx_pragma_apart : (name : List ℕ) → begins_above_star name ≡ true → IsDetermined (jsx_pragma name)
jsx_pragma_apart name start after = (white_or_star-keyword name start, (tt, (white-non_white_space, tt)))

pub source_mapping_url_apart : IsDetermined source_mapping_url_pattern
source_mapping_url_apart after = (
  tt,
  (
    white-keyword (codes "sourceMappingURL") refl,
    (tt, (white-equals, (tt, (white-non_white_space, tt)))),
  ),
)
