-- What a `JsonWriter` has after an array or an object, as text and as a value.
use Rattle.std.proofs.Common.{◌≡◌, ℕ, List, [], ◌∷◌, ◌++◌, true, Option, Some, None, refl, sym, ap, ◌∙◌}
use Rattle.json.specs.Token.{Token, begin_array, begin_object, end_array, end_object}
use Rattle.json.specs.Tree.{items_tokens}
use Rattle.serde_json.specs.Data.{Data, Items, array, no_members, null, put}
use Rattle.serde_json.specs.Written.{items_outline}
use Rattle.deno_graph_json.specs.Ascending.{has_ascending_keys}
use Rattle.deno_graph_json.specs.JsonWriter.{Output, text, value, object_part, with_member, with_token}
use Rattle.deno_graph_json.specs.JsonWriter.{with_value}
use Rattle.deno_graph_json.specs.Object.{Entry, object_of, with_entries, with_present}
use Rattle.deno_graph_json.specs.Text.{Text, text_tokens, with_member_text, with_tokens}
use Rattle.deno_graph_json.proofs.Texts.{object_text, with_tokens-twice}

module _ {S Z : Type 0} (m : List ℕ → Data → S → S) (n : List ℕ → Data → Z → Z) (f : S → Z)
    (same : (k : List ℕ) (d : Data) (s : S) → n k d (f s) ≡ f (m k d s)) where
  present_under : (k : List ℕ) (o : Option Data) (s : S) → with_present n k o (f s) ≡ f (with_present m k o s)
  present_under k None s = refl
  present_under k (Some d) s = same k d s

  entries_under : (es : List Entry) (s : S) → with_entries n es (f s) ≡ f (with_entries m es s)
  entries_under [] s = refl
  entries_under (e ∷ es) s =
      ap (with_entries n es) (present_under e.0 e.1 s) ∙ entries_under es (with_present m e.0 e.1 s)

-- ---- a value

pub object_built : (es : List Entry) (o : Output) → o ≡ with_entries with_member es (value null no_members)
    → object_part o ≡ object_of es
unfolding with_member
object_built es o is =
    ap object_part (is ∙ entries_under put with_member (value null) (λ k d s. refl) es no_members)

-- ---- a text

entries_text : (es : List Entry) (t : Text)
    → with_entries with_member es (text t) ≡ text (with_entries with_member_text es t)
unfolding with_member
entries_text = entries_under with_member_text with_member text (λ k d s. refl)

module _ (es : List Entry) (t : Text) (old begun all new : Output) where
  -- the members in braces are the object
  pub object_written : old ≡ text t → begun ≡ with_token begin_object old
      → all ≡ with_entries with_member es begun → new ≡ with_token end_object all
      → has_ascending_keys es ≡ true → new ≡ with_value (object_of es) old
  unfolding with_value
  object_written is begins writes closes ascends =
      closes
      ∙ ap (with_token end_object)
      (writes ∙ ap (with_entries with_member es) (begins ∙ ap (with_token begin_object) is)
      ∙ entries_text es (with_tokens (begin_object ∷ []) t))
      ∙ ap text (object_text es t ascends) ∙ sym (ap (with_value (object_of es)) is)

-- the output with more tokens; of a value only the members count
abbrev pub with_more : List Token → Output → Output
with_more ts (text t) = text (with_tokens ts t)
with_more ts (value _ ms) = value null ms

pub more_after : (d : Data) (ts : List Token) (o : Output)
    → with_more ts (with_value d o) ≡ with_more (text_tokens d ++ ts) o
unfolding with_value
more_after d ts (text t) = ap text (with_tokens-twice (text_tokens d) ts t)
more_after d ts (value e ms) = refl

closed : (o : Output) (t : Text) → with_more (end_array ∷ []) o ≡ text t → with_token end_array o ≡ text t
closed (text u) t is = is
closed (value d ms) t is = absurd (cc)

-- the items in brackets are the array
pub array_written : (ds : Items) (t : Text) (old begun all new : Output) → old ≡ text t
    → begun ≡ with_token begin_array old
    → with_more (end_array ∷ []) all ≡ with_more (items_tokens (items_outline ds)) begun
    → new ≡ with_token end_array all → new ≡ with_value (array ds) old
unfolding with_value
array_written ds t old begun all new is begins so_far closes =
    let tokens = items_tokens (items_outline ds) in
    closes
    ∙ closed all (with_tokens tokens (with_tokens (begin_array ∷ []) t))
    (so_far ∙ ap (with_more tokens) (begins ∙ ap (with_token begin_array) is))
    ∙ ap text (with_tokens-twice (begin_array ∷ []) tokens t) ∙ sym (ap (with_value (array ds)) is)
