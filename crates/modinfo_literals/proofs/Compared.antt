-- Whether the value of a literal without escapes is another string.
use Rattle.std.proofs.Common.{◌≡◌, ℕ, List, encode_utf8_all, sym, ap, ◌∙◌, subst}
use Rattle.std.specs.Str.{chars, IsUtf8}
use Rattle.std.proofs.lemmas.Str.{encodes-chars, encodes_same}
use Rattle.deno_graph_base.specs.JsString.{IsReadable}
use Rattle.deno_graph_base.proofs.LossyText.{IsReadable-chars}
use Rattle.modinfo_literals.specs.Literal.{Spells}
use Rattle.modinfo_literals.proofs.Chains.{Spells-unique}

module _ (slice text value : List ℕ) (utf8 : IsUtf8 text) (plain : Spells slice (chars text)) where
  -- the value, in UTF-8, is the text
  pub spells-text : encode_utf8_all value ≡ text → Spells slice value
  spells-text same =
      subst (Spells slice) (sym (encodes_same value (chars text) (same
      ∙ sym (encodes-chars text utf8)))) plain

  pub text_of-spells : Spells slice value → encode_utf8_all value ≡ text
  text_of-spells spelled =
      ap encode_utf8_all (Spells-unique slice value (chars text) spelled plain) ∙ encodes-chars text utf8

  -- a text has no surrogates
  pub unreadable : (IsReadable value → ⊥) → Spells slice value → ⊥
  unreadable surrogates spelled =
      surrogates (subst IsReadable (sym (Spells-unique slice value (chars text) spelled plain))
      (IsReadable-chars text utf8))
