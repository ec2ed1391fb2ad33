-- The text of a value's tokens, and the tokens of an object by its entries.
use Rattle.std.proofs.Common.{◌≡◌, ℕ, List, [], ◌∷◌, ◌++◌, true, Option, Some, None, refl, sym, ap, ◌∙◌}
use Rattle.std.proofs.Common.{append_assoc}
use Rattle.std.specs.Prelude.{OnOk, Result}
use Rattle.std.proofs.lemmas.Result.{on_ok_weaker}
use Rattle.json.specs.Token.{Token, key, begin_object, end_object}
use Rattle.json.specs.Print.{print}
use Rattle.json.specs.Tree.{members_tokens}
use Rattle.json.specs.Written.{Written, Writes}
use Rattle.serde_json.specs.Data.{Data, Members}
use Rattle.serde_json.specs.Written.{compact_text, members_outline}
use Rattle.serde_json.proofs.Texts.{print-outline}
use Rattle.deno_graph_json.specs.Ascending.{has_ascending_keys}
use Rattle.deno_graph_json.specs.Object.{Entry, object_of, with_present, with_entries}
use Rattle.deno_graph_json.specs.Text.{Text, text_in, text_tokens, with_member_text, with_tokens}
use Rattle.deno_graph_json.proofs.Ascending.{ascending, first_present, present, put_entries-present}

-- a writer wrote a token
pub text_written : {E : Type 0} (r : Result (Unit {0}) E) (old new : Written) (t : Token)
    → Writes r old new t → OnOk r (text_in new ≡ with_tokens (t ∷ []) (text_in old))
text_written r old new t h =
    on_ok_weaker r
    (λ more. ap (λ start. (start, new.tokens)) h.room.0 ∙ ap (λ ts. (old.before, ts)) more) h.ok

-- tokens are written, and then more
pub with_tokens-twice : (ts us : List Token) (text : Text)
    → with_tokens us (with_tokens ts text) ≡ with_tokens (ts ++ us) text
with_tokens-twice ts us text = ap (λ all. (text.0, all)) (append_assoc text.1 ts us)

-- the text of a value whose tokens are written to an empty buffer
pub value_text : (d : Data) (out : Written) → text_in out ≡ with_tokens (text_tokens d) ([], [])
    → print out.tokens ≡ compact_text d
value_text d out is = ap (λ text. print text.1) is ∙ print-outline d

-- the tokens of members, followed by the brace that closes the object
abbrev members_text : Members → List Token
members_text ms = members_tokens (members_outline ms)

entry_text : (k : List ℕ) (o : Option Data) (ms : Members) (text : Text)
    → with_tokens (members_text ms) (with_present with_member_text k o text)
    ≡ with_tokens (members_text (first_present k o ms)) text
entry_text k None ms text = refl
entry_text k (Some d) ms text = with_tokens-twice (key k ∷ text_tokens d) (members_text ms) text

-- the entries, followed by the brace that closes the object
entries_text : (es : List Entry) (text : Text)
    → with_tokens (end_object ∷ []) (with_entries with_member_text es text)
    ≡ with_tokens (members_text (present es)) text
entries_text [] text = refl
entries_text (e ∷ es) text =
    entries_text es (with_present with_member_text e.0 e.1 text) ∙ entry_text e.0 e.1 (present es) text

-- entries whose keys ascend, in braces, are their object
pub object_text : (es : List Entry) (text : Text) → has_ascending_keys es ≡ true
    → with_tokens (end_object ∷ []) (with_entries with_member_text es (with_tokens (begin_object ∷ []) text))
    ≡ with_tokens (text_tokens (object_of es)) text
object_text es text h =
    entries_text es (with_tokens (begin_object ∷ []) text)
    ∙ with_tokens-twice (begin_object ∷ []) (members_text (present es)) text
    ∙ ap (λ ms. with_tokens (begin_object ∷ members_text ms) text)
    (sym (put_entries-present es (ascending es h)))
