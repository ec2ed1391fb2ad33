-- Plain pieces of tags.
use Rattle.std.proofs.Common.{◌≡◌, ℕ, ◌+◌, ◌-◌, ◌==◌, ◌<◌, ◌≤◌, ◌||◌, Bool, true, false, List, [], ◌∷◌}
use Rattle.std.proofs.Common.{MatchOption, None, Option, Some, arith, length, slice_index, refl, sym, ap, ◌∙◌}
use Rattle.modinfo_imports.proofs.PlainBytes.{byte-turn, closed-popped, is_quote, kind-of_string, neither}
use Rattle.modinfo_imports.proofs.PlainBytes.{space_size-none, token_byte-turn}
use Rattle.modinfo_imports.proofs.Plains.{plain-turn}
use Rattle.modinfo_imports.specs.Duties.{sight_of}
use Rattle.modinfo_imports.specs.Watches.{duty_after}
use Rattle.modinfo_imports.specs.declared.duty.Duty.{Duty}
use Rattle.modinfo_imports.specs.declared.plain.Asked.TheVariants as asks
use Rattle.modinfo_imports.specs.declared.plain.Plain.{Plain}
use Rattle.modinfo_imports.specs.internal.Plains.{IsByteAt, IsPlainTurn, after_token, plain_context}
use Rattle.modinfo_pieces.specs.Befores.{before_after_punctuation}
use Rattle.modinfo_pieces.specs.Jsx.{jsx_string_step}
use Rattle.modinfo_pieces.specs.Kinds.{kind_at, kind_in_code, kind_of_punctuation}
use Rattle.modinfo_pieces.specs.Literals.{quote_close}
use Rattle.modinfo_pieces.specs.Openings.{around_after_greater, around_after_punctuation, around_after_slash}
use Rattle.modinfo_pieces.specs.Openings.{innermost, is_element}
use Rattle.modinfo_pieces.specs.Steps.{Closes}
use Rattle.modinfo_pieces.specs.Words.{is_word_byte}
use Rattle.modinfo_pieces.specs.declared.piece.PieceKind.TheVariants.{JsxString, Punctuation}
use Rattle.modinfo_pieces.specs.declared.place.Before.TheVariants.{Equal, TagOpen, TagSlash, Value}
use Rattle.modinfo_pieces.specs.declared.place.Opening.{Opening}
use Rattle.modinfo_pieces.specs.declared.place.Opening.TheVariants as openings

-- The innermost opening and the others.
whole : (inside opening : Opening) (around rest : List Opening) → around ≡ opening ∷ rest
    → innermost around ≡ inside → around ≡ inside ∷ rest
whole inside opening around rest was is = was ∙ ap (λ (o : Opening). o ∷ rest) (sym (ap innermost was) ∙ is)

pub tag-popped : (popped : Option Opening) (around rest : List Opening)
    → MatchOption popped ((around ≡ []) × (rest ≡ [])) (λ opening. around ≡ opening ∷ rest)
    → innermost around ≡ openings.Tag → around ≡ openings.Tag ∷ rest
tag-popped None around rest was is =
    let wrong : openings.Program ≡ openings.Tag = sym (ap innermost was.0) ∙ is in cc
tag-popped (Some opening) around rest was is = whole openings.Tag opening around rest was is

-- A turn over the `>` of a tag that doesn't begin with `</`.
pub first_tag-turn : (text : List ℕ) (plain : Plain) (end : ℕ) (in_element : Bool)
    (popped : Option Opening) (around rest new_around : List Opening) (parentheses : List Duty)
    → IsByteAt text plain 62 end → innermost around ≡ openings.Tag
    → MatchOption popped ((around ≡ []) × (rest ≡ [])) (λ opening. around ≡ opening ∷ rest)
    → in_element ≡ is_element (innermost new_around)
    → ((previous : ℕ) → around_after_greater previous plain.before (openings.Tag ∷ rest) ≡ Some new_around)
    → IsPlainTurn text plain (after_token plain Punctuation end Value asks.Nothing in_element) around
    new_around parentheses parentheses
unfolding around_after_punctuation before_after_punctuation
first_tag-turn text plain end in_element popped around rest new_around parentheses here is was in_is changed =
    token_byte-turn text plain 62 end Value in_element around new_around parentheses parentheses (omega arith)
    refl here (λ outside. in_is)
    (rw (tag-popped popped around rest was is) (changed (slice_index text (plain.at - 1)))) (rw is refl) refl
    refl refl

-- A turn over the `>` of a tag that begins with `</`.
pub closing_tag-turn : (text : List ℕ) (plain : Plain) (end : ℕ) (in_element : Bool) (tag : Opening)
    (popped : Option Opening) (around inner rest : List Opening) (parentheses : List Duty)
    → IsByteAt text plain 62 end → innermost around ≡ openings.ClosingTag → around ≡ tag ∷ inner
    → is_element (innermost inner) ≡ true
    → MatchOption popped ((inner ≡ []) × (rest ≡ [])) (λ opening. inner ≡ opening ∷ rest)
    → in_element ≡ is_element (innermost rest)
    → IsPlainTurn text plain (after_token plain Punctuation end Value asks.Nothing in_element) around rest
    parentheses parentheses
unfolding around_after_punctuation before_after_punctuation
closing_tag-turn text plain end in_element tag popped around inner rest parentheses here is was inside gone
    in_is =
    token_byte-turn text plain 62 end Value in_element around rest parentheses parentheses (omega arith) refl
    here (λ outside. in_is)
    (rw (whole openings.ClosingTag tag around inner was is) (closed-popped is_element popped inner rest gone
    refl inside)) (rw is refl) refl refl refl

kind-of_slash : (text : List ℕ) (plain : Plain) (around : List Opening) → slice_index text plain.at ≡ 47
    → ((slice_index text (plain.at + 1) == 47) || (slice_index text (plain.at + 1) == 42)) ≡ false
    → is_element (innermost around) ≡ false
    → Punctuation ≡ kind_at text plain.at (plain_context plain around)
unfolding kind_at kind_in_code kind_of_punctuation is_word_byte
kind-of_slash text plain around is no_comment outside =
    let second = neither (slice_index text (plain.at + 1) == 47) (slice_index text (plain.at + 1) == 42)
    no_comment in
    rw (
      outside,
      space_size-none text plain.at (rw is refl) (rw is refl),
      is,
      second.0,
      second.1,
    ) refl

-- A turn over a slash in a tag.
pub slash-turn : (text : List ℕ) (plain : Plain) (end : ℕ) (around new_around : List Opening)
    (parentheses : List Duty) → IsByteAt text plain 47 end → innermost around ≡ openings.Tag
    → ((slice_index text end == 47) || (slice_index text end == 42)) ≡ false
    → new_around ≡ around_after_slash plain.before around → is_element (innermost new_around) ≡ false
    → IsPlainTurn text plain (after_token plain Punctuation end TagSlash asks.Nothing false) around new_around
    parentheses parentheses
unfolding around_after_punctuation before_after_punctuation
slash-turn text plain end around new_around parentheses here is no_comment changed outside =
    byte-turn text plain 47 end TagSlash false around new_around parentheses parentheses here
    (λ inside past. kind-of_slash text plain around here.byte_is (rw here.end_is at no_comment) inside)
    (λ inside. sym outside) (ap Some (sym changed)) (rw is refl) refl refl refl

-- A turn over the string that is an attribute's value.
pub attribute-turn : (text : List ℕ) (plain : Plain) (quote end : ℕ) (around : List Opening)
    (parentheses : List Duty) → slice_index text plain.at ≡ quote → quote < 256 → is_quote quote ≡ true
    → innermost around ≡ openings.Tag → plain.before ≡ Equal
    → Closes (jsx_string_step quote text) (plain.at + 1) (quote_close quote text) (Some end)
    → plain.at < end → end ≤ length text
    → IsPlainTurn text plain (after_token plain JsxString end Value asks.Nothing false) around around
    parentheses parentheses
unfolding sight_of duty_after
attribute-turn text plain quote end around parentheses is less is_a_quote inside before closes on within =
    plain-turn false text plain JsxString end Value asks.Nothing false around around parentheses parentheses
    on within refl refl (λ context so_far. refl) (λ outside. sym outside)
    (λ outside past. kind-of_string JsxString text plain around quote is less is_a_quote
    (rw (inside, before) refl) outside) (rw is closes) (λ outside. refl) (λ outside. refl) refl refl
    (λ is_typed watch unclaimed. refl) refl

-- After a slash the innermost opening is a tag still.
pub slash-popped : (popped : Option Opening) (around rest : List Opening)
    → MatchOption popped ((around ≡ []) × (rest ≡ [])) (λ opening. around ≡ opening ∷ rest)
    → innermost around ≡ openings.Tag
    → openings.ClosingTag ∷ rest ≡ around_after_slash TagOpen around
slash-popped popped around rest was is = rw (tag-popped popped around rest was is) refl
