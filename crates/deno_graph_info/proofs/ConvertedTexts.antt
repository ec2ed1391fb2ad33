-- The text of a converted value.
use Rattle.std.proofs.Common.{◌≡◌, codes, List, ℕ, [], refl, sym, ap, ◌∙◌, Some, None}
use Rattle.json.specs.Lex.{tokens}
use Rattle.json.specs.Print.{print}
use Rattle.json.specs.Written.{Written}
use Rattle.serde_json.specs.Data.{Data, Items, Members, array, object, put}
use Rattle.serde_json.specs.Written.{compact_text, outline, IsInOrder}
use Rattle.deno_graph_json.proofs.Texts.{value_text}
use Rattle.deno_graph_json.specs.Text.{text_in, text_tokens, with_tokens}
use Rattle.deno_graph_info.specs.Conversion.{AnyOverflows, AreConverted, IsConverted, Overflows}
use Rattle.deno_graph_info.specs.Conversion.{dependencies_in, with_value_at}
use Rattle.deno_graph_info.specs.internal.Written.{IsWritten}

-- a value without dependencies is unchanged
pub unconverted : (d : Data) → dependencies_in d ≡ None → IsConverted d d
unconverted d none = rw none refl

-- an object whose dependencies are converted
pub converted_object : (d : Data) (ms : Members) (old new : Items) → d ≡ object ms
    → dependencies_in d ≡ Some old → AreConverted old new
    → IsConverted d (object (put (codes "dependencies") (array new) ms))
converted_object d ms old new is some are =
    rw some (new, are, ap (with_value_at (codes "dependencies") (array new)) (sym is))

pub overflows_object : (d : Data) (old : Items) → dependencies_in d ≡ Some old → AnyOverflows old
    → Overflows d
overflows_object d old some over = rw some over

-- what was written to an empty buffer
pub whole_text : (d : Data) (old new : Written) (text : List ℕ) → text_in old ≡ ([], [])
    → IsWritten d (text_in old) (text_in new) → text ≡ print new.tokens → tokens text ≡ new.tokens
    → IsInOrder text d × (text ≡ compact_text d)
whole_text d old new text empty written printed read =
    let is = written.0 ∙ ap (with_tokens (text_tokens d)) empty in (
      (outline d, read ∙ ap (λ t. t.1) is, written.1),
      printed ∙ value_text d new is,
    )

pub empty_before : (d : Data) (old new : Written) → text_in old ≡ ([], [])
    → IsWritten d (text_in old) (text_in new) → new.before ≡ []
empty_before d old new empty written = ap (λ t. t.0) (written.0 ∙ ap (with_tokens (text_tokens d)) empty)
