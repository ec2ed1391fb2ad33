-- Dependencies that are converted and written, one after another.
use Rattle.std.proofs.Common.{◌≡◌, List, [], ◌∷◌, ◌++◌, inl, inr, refl, sym, ap, ap₂, subst, ◌∙◌}
use Rattle.std.proofs.Common.{append_assoc, append-nil}
use Rattle.json.specs.Json as json
use Rattle.json.specs.Token.{Token, begin_array, end_array}
use Rattle.serde_json.specs.Data.{Data, Items, array, no_items, item}
use Rattle.deno_graph_info.proofs.WrittenText.{item_tokens, with_nothing}
use Rattle.deno_graph_info.specs.Conversion.{AnyOverflows, AreConverted, DependencyOverflows}
use Rattle.deno_graph_info.specs.Conversion.{IsConvertedDependency}
use Rattle.deno_graph_info.specs.internal.Written.{AreFloatlessItems, IsFloatless, IsWritten}
use Rattle.deno_graph_json.proofs.Texts.{with_tokens-twice}
use Rattle.deno_graph_json.specs.Text.{Text, text_tokens, with_tokens}

-- items, and then others
abbrev pub items_then : Items → Items → Items
items_then no_items es = es
items_then (item d ds) es = item d (items_then ds es)

items_then-twice : (ds es fs : Items) → items_then (items_then ds es) fs ≡ items_then ds (items_then es fs)
items_then-twice no_items es fs = refl
items_then-twice (item d ds) es fs = ap (item d) (items_then-twice ds es fs)

pub items_then-nothing : (ds : Items) → items_then ds no_items ≡ ds
items_then-nothing no_items = refl
items_then-nothing (item d ds) = ap (item d) (items_then-nothing ds)

-- the tokens of items, without the brackets of the array
abbrev pub inner_tokens : Items → List Token
inner_tokens no_items = []
inner_tokens (item d ds) = text_tokens d ++ inner_tokens ds

inner_more : (ds : Items) (d : Data)
    → inner_tokens (items_then ds (item d no_items)) ≡ inner_tokens ds ++ text_tokens d
inner_more no_items d = append-nil (text_tokens d)
inner_more (item e ds) d =
    ap (λ ts. text_tokens e ++ ts) (inner_more ds d)
    ∙ sym (append_assoc (text_tokens e) (inner_tokens ds) (text_tokens d))

inner_closed : (ds : Items) → inner_tokens ds ++ end_array ∷ [] ≡ item_tokens ds
inner_closed no_items = refl
inner_closed (item d ds) =
    append_assoc (text_tokens d) (inner_tokens ds) (end_array ∷ [])
    ∙ ap (λ ts. text_tokens d ++ ts) (inner_closed ds)

abbrev first_item : json.Items → json.Json
first_item json.no_items = json.null
first_item (json.item j js) = j

abbrev other_items : json.Items → json.Items
other_items json.no_items = json.no_items
other_items (json.item j js) = js

floatless_more : (ds : Items) (d : Data) → AreFloatlessItems ds → IsFloatless d
    → AreFloatlessItems (items_then ds (item d no_items))
floatless_more no_items d all here = ap (λ j. json.item j json.no_items) here
floatless_more (item e ds) d all here =
    ap₂ json.item (ap first_item all) (floatless_more ds d (ap other_items all) here)

converted_one_more : (ds es : Items) (d e : Data) → AreConverted ds es → IsConvertedDependency d e
    → AreConverted (items_then ds (item d no_items)) (items_then es (item e no_items))
converted_one_more no_items no_items d e so_far h = (h, tt)
converted_one_more no_items (item f es) d e so_far h = absurd so_far
converted_one_more (item f ds) no_items d e so_far h = absurd so_far
converted_one_more (item f ds) (item g es) d e so_far h = (so_far.0, converted_one_more ds es d e so_far.1 h)

-- the items before `left` were converted and written
pub record IsConvertedSoFar (all left : Items) (begun now : Text) : Type 0 where
  pub passed : Items
  pub new : Items
  pub whole : all ≡ items_then passed left
  pub converted : AreConverted passed new
  pub text : now ≡ with_tokens (inner_tokens new) begun
  pub floatless : AreFloatlessItems new

-- before the first
pub converted_none : (all left : Items) (text : Text) → left ≡ all → IsConvertedSoFar all left text text
converted_none all left text is = record {
  passed = no_items;
  new = no_items;
  whole = sym is;
  converted = tt;
  text = sym (with_nothing text);
  floatless = refl;
}

module _ (all left rest : Items) (d : Data) (begun now : Text) (h : IsConvertedSoFar all left begun now)
    (first : left ≡ item d rest) where
  -- after one more
  pub converted_next : (after : Data) (later : Text) → IsConvertedDependency d after
      → IsWritten after now later → IsConvertedSoFar all rest begun later
  converted_next after later converted written = record {
    passed = items_then h.passed (item d no_items);
    new = items_then h.new (item after no_items);
    whole =
        h.whole ∙ ap (items_then h.passed) first ∙ sym (items_then-twice h.passed (item d no_items) rest);
    converted = converted_one_more h.passed h.new d after h.converted converted;
    text =
        written.0 ∙ ap (with_tokens (text_tokens after)) h.text
        ∙ with_tokens-twice (inner_tokens h.new) (text_tokens after) begun
        ∙ ap (λ ts. with_tokens ts begun) (sym (inner_more h.new after));
    floatless = floatless_more h.new after h.floatless written.1;
  }

  overflow_at : (passed : Items) → DependencyOverflows d → AnyOverflows (items_then passed (item d rest))
  overflow_at no_items over = inl over
  overflow_at (item e ds) over = inr (overflow_at ds over)

  -- the next one overflows
  pub overflow_next : DependencyOverflows d → AnyOverflows all
  overflow_next over =
      subst AnyOverflows (sym (h.whole ∙ ap (items_then h.passed) first)) (overflow_at h.passed over)

-- no item is left
pub converted_all : (all left : Items) (old begun now new : Text) → IsConvertedSoFar all left begun now
    → left ≡ no_items → begun ≡ with_tokens (begin_array ∷ []) old → new ≡ with_tokens (end_array ∷ []) now
    → (es : Items) × AreConverted all es × IsWritten (array es) old new
converted_all all left old begun now new h none opens closes = (
  h.new,
  subst (λ ds. AreConverted ds h.new)
      (sym (h.whole ∙ ap (items_then h.passed) none ∙ items_then-nothing h.passed)) h.converted,
  (
    closes ∙ ap (with_tokens (end_array ∷ [])) (h.text ∙ ap (with_tokens (inner_tokens h.new)) opens)
        ∙ with_tokens-twice (inner_tokens h.new) (end_array ∷ []) (with_tokens (begin_array ∷ []) old)
        ∙ ap (λ ts. with_tokens ts (with_tokens (begin_array ∷ []) old)) (inner_closed h.new)
        ∙ with_tokens-twice (begin_array ∷ []) (item_tokens h.new) old,
    ap json.array h.floatless,
  ),
)
