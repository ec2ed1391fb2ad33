-- A name, written letter by letter.
use Rattle.std.proofs.Common.{◌≡◌, ℕ, List, [], ◌∷◌, ◌++◌, length, arith, sym, ap, ◌∙◌, append_assoc}
use Rattle.std.proofs.Common.{append-nil}
use Rattle.std.specs.Prelude.{flat_map}
use Rattle.std.specs.Char.{encode_utf8}
use Rattle.std.specs.Str.{IsUtf8, chars}
use Rattle.std.proofs.lemmas.Str.{IsUtf8-past_char, chars_past_char, chars-nil}
use Rattle.std.proofs.lemmas.Bool.Decides.{nat_tests}
use Rattle.deno_graph_json.specs.Pointer.{escaped_letter}

pub letter_written : (old now rest later whole : List ℕ) (letter : ℕ) → IsUtf8 rest
    → rest ≡ encode_utf8 letter ++ later → now ≡ old ++ escaped_letter letter
    → old ++ flat_map escaped_letter (chars rest) ≡ whole
    → IsUtf8 later × (now ++ flat_map escaped_letter (chars later) ≡ whole)
letter_written old now rest later whole letter text front more kept = (
  IsUtf8-past_char rest later letter text front,
  ap (λ l. l ++ flat_map escaped_letter (chars later)) more
      ∙ append_assoc old (escaped_letter letter) (flat_map escaped_letter (chars later))
      ∙ ap (λ cs. old ++ flat_map escaped_letter cs) (sym (chars_past_char rest later letter text front))
      ∙ kept,
)

no_letters : (rest : List ℕ) → length rest ≡ 0 → flat_map escaped_letter (chars rest) ≡ []
no_letters [] e = ap (flat_map escaped_letter) chars-nil
no_letters (x ∷ xs) e = absurd (omega arith)

pub all_written : (old rest whole : List ℕ) → length rest ≡ 0
    → old ++ flat_map escaped_letter (chars rest) ≡ whole → old ≡ whole
all_written old rest whole none kept =
    sym (append-nil old) ∙ ap (λ l. old ++ l) (sym (no_letters rest none)) ∙ kept

pub plain_letter : (letter : ℕ) → (letter ≡ 126 → ⊥) → (letter ≡ 47 → ⊥)
    → escaped_letter letter ≡ encode_utf8 letter
plain_letter letter a b = grind (arith, nat_tests)
