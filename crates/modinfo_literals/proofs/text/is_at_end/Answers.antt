-- A text without bytes is one without characters.
use Rattle.std.proofs.Common.{◌≡◌, List, ℕ, [], ◌∙◌, sym, ap, length, encode_utf8_all, MatchBool, Bool, true}
use Rattle.std.proofs.Common.{false, ◌==◌}
use Rattle.std.specs.Str.{chars, IsUtf8}
use Rattle.std.proofs.lemmas.Bool.{eqb-true, eqb-false}
use Rattle.std.proofs.lemmas.List.{nil_from_length}
use Rattle.std.proofs.lemmas.Str.{chars-nil, encodes-chars}
use Rattle.modinfo_literals.proofs.text.is_at_end.Goals as goal

empty_chars : (text : List ℕ) → IsUtf8 text → (b : Bool) → b ≡ (length text == 0)
    → MatchBool b (chars text ≡ []) (chars text ≡ [] → ⊥)
empty_chars text utf8 true is = ap chars (nil_from_length text (eqb-true _ _ (sym is))) ∙ chars-nil
empty_chars text utf8 false is =
    λ none. eqb-false _ _ (sym is) (ap length (sym (encodes-chars text utf8) ∙ ap encode_utf8_all none))

pub returns : goal.returns
returns c = empty_chars c.args.rest.now c.utf8.rest _ c.is_empty.ensures
