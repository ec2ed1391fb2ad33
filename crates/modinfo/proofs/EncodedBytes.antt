-- The set of the code has the bytes that the definition encodes.
use Rattle.std.proofs.Common.{◌≡◌, ◌++◌, ℕ, Bool, true, false, not, List, [], ◌∷◌, refl, ap, ◌∙◌, cond}
use Rattle.std.specs.Char.{is_ascii}
use Rattle.std.specs.List.{flat_map}
use Rattle.std.proofs.lemmas.Bool.{agree_below, agree_below_at, ltb-true}
use Rattle.percent_encoding.specs.AsciiSet.{should_percent_encode}
use Rattle.percent_encoding.specs.Percent.{percent_encode, percent_encode_byte}
use Rattle.percent_encoding.specs.declared.ascii_set.AsciiSet.{AsciiSet}
use Rattle.modinfo.specs.FileUrl.{encoded_byte, is_kept}

turned : (kept : Bool) (a b : List ℕ) → cond (not kept) a b ≡ cond kept b a
turned true a b = refl
turned false a b = refl

encodes : (set : AsciiSet) → agree_below (should_percent_encode set) (λ b. not (is_kept b)) 128 ≡ true
    → (b : ℕ) (ascii : Bool) → is_ascii b ≡ ascii → should_percent_encode set b ≡ not (is_kept b)
unfolding should_percent_encode is_kept
encodes set same b true is =
    agree_below_at (should_percent_encode set) (λ b. not (is_kept b)) 128 b same (ltb-true _ _ is)
encodes set same b false is = rw is refl

pub encoded_bytes : (set : AsciiSet) (bytes encoded : List ℕ) → encoded ≡ percent_encode set bytes
    → agree_below (should_percent_encode set) (λ b. not (is_kept b)) 128 ≡ true
    → encoded ≡ flat_map encoded_byte bytes
unfolding percent_encode
encoded_bytes set [] encoded is same = is
encoded_bytes set (b ∷ bytes) encoded is same = is ∙ rw (
  encodes set same b (is_ascii b) refl,
  encoded_bytes set bytes (percent_encode set bytes) refl same,
) (ap (λ c. c ++ flat_map encoded_byte bytes) (turned (is_kept b) (percent_encode_byte b) (b ∷ [])))
