-- Plain tokens of one byte.
use Rattle.std.proofs.Common.{◌≡◌, ℕ, ◌+◌, ◌-◌, ◌==◌, ◌<◌, ◌≤◌, Bool, true, false}
use Rattle.std.proofs.Common.{◌&&◌, ◌||◌, ◌⊎◌, inl, inr, subst, List, Option}
use Rattle.std.proofs.Common.{[], ◌∷◌, MatchOption, drop, true≢false, Some, None, codes, length, slice_index}
use Rattle.std.proofs.Common.{nat_le, refl, sym, ap, ◌∙◌, arith}
use Rattle.std.proofs.lemmas.Bool.{eqb-true}
use Rattle.modinfo_imports.specs.Duties.{is_byte, is_one_of, sight_of}
use Rattle.modinfo_imports.specs.Watches.{duty_after, is_method, parentheses_after}
use Rattle.modinfo_imports.specs.declared.duty.Duty.{Duty}
use Rattle.modinfo_imports.specs.declared.duty.Duty.TheVariants as duties
use Rattle.modinfo_imports.specs.declared.duty.Sight.TheVariants.{Byte}
use Rattle.modinfo_imports.specs.declared.plain.Asked.TheVariants as asks
use Rattle.modinfo_imports.specs.declared.plain.Plain.{Plain}
use Rattle.modinfo_imports.specs.internal.Plains.{IsByteAt, IsPlainTurn, after_token, is_plain_byte}
use Rattle.modinfo_imports.specs.internal.Plains.{is_token_byte, is_code, plain_context}
use Rattle.modinfo_imports.proofs.Plains.{plain-turn}
use Rattle.modinfo_pieces.proofs.Narrow.{wide_space_size-narrow}
use Rattle.modinfo_pieces.proofs.Tables.{agree_at, agree_below}
use Rattle.modinfo_pieces.specs.Befores.{before_after_greater, before_after_parenthesis}
use Rattle.modinfo_pieces.specs.Befores.{before_after_punctuation}
use Rattle.modinfo_pieces.specs.Kinds.{begins_hashbang, begins_html_comment, kind_at, kind_in_code}
use Rattle.modinfo_pieces.specs.Kinds.{kind_of_punctuation, kind_of_quote}
use Rattle.modinfo_pieces.specs.Openings.{around_after_angle, around_after_greater, around_after_punctuation}
use Rattle.modinfo_pieces.specs.Openings.{begins_tag, closed, innermost, is_brace, is_element, is_parenthesis}
use Rattle.modinfo_pieces.specs.Openings.{opening_of_parenthesis}
use Rattle.modinfo_pieces.specs.Spaces.{is_ascii_space, space_size}
use Rattle.modinfo_pieces.specs.Words.{is_word_byte}
use Rattle.modinfo_pieces.specs.Literals.{quote_close, string_step}
use Rattle.modinfo_pieces.specs.Steps.{Closes}
use Rattle.modinfo_pieces.specs.declared.piece.PieceKind.{PieceKind}
use Rattle.modinfo_pieces.specs.declared.piece.PieceKind.TheVariants as kinds
use Rattle.modinfo_pieces.specs.declared.piece.PieceKind.TheVariants.{Punctuation}
use Rattle.modinfo_pieces.specs.declared.place.Before.{Before}
use Rattle.modinfo_pieces.specs.declared.place.Before.TheVariants as befores
use Rattle.modinfo_pieces.specs.declared.place.Before.TheVariants.{Free, Value}
use Rattle.modinfo_pieces.specs.declared.place.Context.{Context}
use Rattle.modinfo_pieces.specs.declared.place.Opening.{Opening}
use Rattle.modinfo_pieces.specs.declared.place.Opening.TheVariants as openings

-- Neither of two.
pub neither : (one two : Bool) → (one || two) ≡ false → (one ≡ false) × (two ≡ false)
neither false false is = (refl, refl)
neither false true is = cc
neither true two is = cc

not_both : (one two : Bool) → (one && two) ≡ false → one ≡ true → two ≡ false
not_both true two is one = is
not_both false two is one = cc

-- A test of bytes excludes another, by computing.
pub excludes : (one two : ℕ → Bool) → agree_below (λ b. one b && two b) (λ b. false) 256 ≡ true → (byte : ℕ)
    → byte < 256 → one byte ≡ true → two byte ≡ false
excludes one two agree byte less is =
    not_both (one byte) (two byte) (agree_at (λ b. one b && two b) (λ b. false) 256 agree byte less) is

-- A byte of a word, an escape or white space, or one above U+007F.
abbrev begins_more : ℕ → Bool
begins_more byte = is_word_byte byte || ((byte == 92) || (is_ascii_space byte || nat_le 128 byte))

-- A slash, a quote, a backtick or `}`.
abbrev is_special : ℕ → Bool
is_special byte = (byte == 47) || (((byte == 34) || (byte == 39)) || ((byte == 96) || (byte == 125)))

and_false : (one : Bool) → (one && false) ≡ false
and_false true = refl
and_false false = refl

hashbang-past : (text : List ℕ) (at : ℕ) → 4 ≤ at → begins_hashbang text at ≡ false
unfolding begins_hashbang
hashbang-past text at past =
    let zero : (at == 0) ≡ false = grind (arith, eqb-true) in
    let three : (at == 3) ≡ false = grind (arith, eqb-true) in
    rw (zero, three) (and_false _)

pub space_size-none : (text : List ℕ) (at : ℕ) → is_ascii_space (slice_index text at) ≡ false
    → nat_le 128 (slice_index text at) ≡ false → space_size text at ≡ 0
unfolding space_size
space_size-none text at no_space narrow =
    rw (no_space, wide_space_size-narrow (slice_index text at) _ _ (grind arith)) refl

-- A byte that begins nothing longer is a token.
kind-of_byte : (text : List ℕ) (plain : Plain) (around : List Opening)
    → begins_more (slice_index text plain.at) ≡ false → is_special (slice_index text plain.at) ≡ false
    → is_element (innermost around) ≡ false → 4 ≤ plain.at
    → Punctuation ≡ kind_at text plain.at (plain_context plain around)
unfolding kind_at kind_in_code kind_of_punctuation begins_html_comment
kind-of_byte text plain around no_more no_special outside past =
    let byte : ℕ = slice_index text plain.at in
    let word = neither (is_word_byte byte) ((byte == 92) || (is_ascii_space byte || nat_le 128 byte)) no_more
    in
    let escape = neither (byte == 92) (is_ascii_space byte || nat_le 128 byte) word.1 in
    let space = neither (is_ascii_space byte) (nat_le 128 byte) escape.1 in
    let slash = neither (byte == 47) (((byte == 34) || (byte == 39)) || ((byte == 96) || (byte == 125)))
    no_special in
    let quotes = neither ((byte == 34) || (byte == 39)) ((byte == 96) || (byte == 125)) slash.1 in
    let ends = neither (byte == 96) (byte == 125) quotes.1 in
    rw (
      outside,
      word.0,
      escape.0,
      space_size-none text plain.at space.0 space.1,
      space.1,
      slash.0,
      quotes.0,
      ends.0,
      ends.1,
      hashbang-past text plain.at past,
    ) refl

-- A turn over a byte.
pub byte-turn : (text : List ℕ) (plain : Plain) (byte end : ℕ) (before : Before) (in_element : Bool)
    (around new_around : List Opening) (parentheses new_parentheses : List Duty)
    → IsByteAt text plain byte end
    → (is_element (innermost around) ≡ false → 4 ≤ plain.at
    → Punctuation ≡ kind_at text plain.at (plain_context plain around))
    → (is_element (innermost around) ≡ false → in_element ≡ is_element (innermost new_around))
    → around_after_punctuation (slice_index text (plain.at - 1)) byte (plain_context plain around) around
    ≡ Some new_around
    → before ≡ before_after_punctuation byte (plain_context plain around)
    → is_byte (codes "*") (Byte byte) ≡ false → (is_byte (codes ")") (Byte byte) && is_method parentheses) ≡
    false
    → parentheses_after (Byte byte) duties.Nothing parentheses ≡ new_parentheses
    → IsPlainTurn text plain (after_token plain Punctuation end before asks.Nothing in_element) around
    new_around
    parentheses new_parentheses
unfolding sight_of duty_after
byte-turn text plain byte end before in_element around new_around parentheses new_parentheses at kind_is in_is
    around_is before_is star method parentheses_is =
    plain-turn false text plain Punctuation end before asks.Nothing in_element around new_around parentheses
    new_parentheses (omega (arith, at.end_is)) at.within refl refl (λ context so_far. refl) in_is kind_is
    (ap Some at.end_is) (λ outside. rw at.byte_is around_is) (λ outside. rw at.byte_is before_is) refl
    (rw at.byte_is star)
    (λ is_typed watch unclaimed. rw (at.byte_is, method) refl) (rw at.byte_is parentheses_is)

-- A byte that changes an opening or a parenthesis, or that a duty asks for.
abbrev is_asked : ℕ → Bool
is_asked byte =
    (byte == 40) || ((byte == 41) || ((byte == 123) || ((byte == 125) || ((byte == 60) || ((byte == 62)
    || (byte == 47))))))

abbrev is_counted : ℕ → Bool
is_counted byte = is_one_of (codes "(") byte || (is_one_of (codes ")") byte || is_one_of (codes "*") byte)

around-plain : (previous byte : ℕ) (context : Context) (around : List Opening) → is_asked byte ≡ false
    → around_after_punctuation previous byte context around ≡ Some around
unfolding around_after_punctuation
around-plain previous byte context around unasked =
    let one = neither (byte == 40) ((byte == 41) || ((byte == 123) || ((byte == 125) || ((byte == 60)
    || ((byte == 62) || (byte == 47)))))) unasked in
    let two = neither (byte == 41) ((byte == 123) || ((byte == 125) || ((byte == 60) || ((byte == 62)
    || (byte == 47))))) one.1 in
    let three = neither (byte == 123) ((byte == 125) || ((byte == 60) || ((byte == 62) || (byte == 47))))
    two.1 in
    let four = neither (byte == 125) ((byte == 60) || ((byte == 62) || (byte == 47))) three.1 in
    let five = neither (byte == 60) ((byte == 62) || (byte == 47)) four.1 in
    let six = neither (byte == 62) (byte == 47) five.1 in
    rw (one.0, two.0, three.0, four.0, five.0, six.0, six.1) refl

pub plain_byte-turn : (text : List ℕ) (plain : Plain) (byte end : ℕ) (before : Before)
    (around : List Opening) (parentheses : List Duty) → byte < 256 → IsByteAt text plain byte end
    → is_plain_byte byte ≡ true → before ≡ before_after_punctuation byte (plain_context plain around)
    → IsPlainTurn text plain (after_token plain Punctuation end before asks.Nothing false) around around
    parentheses parentheses
unfolding agree_below is_word_byte
plain_byte-turn text plain byte end before around parentheses less at is_plain before_is =
    let counted = neither (is_one_of (codes "(") byte) (is_one_of (codes ")") byte || is_one_of (codes "*")
    byte)
    (excludes is_plain_byte is_counted refl byte less is_plain) in
    let closing = neither (is_one_of (codes ")") byte) (is_one_of (codes "*") byte) counted.1 in
    byte-turn text plain byte end before false around around parentheses parentheses at
    (kind-of_byte text plain around (rw at.byte_is (excludes is_plain_byte begins_more refl byte less
    is_plain))
    (rw at.byte_is (excludes is_plain_byte is_special refl byte less is_plain)))
    (λ outside. sym outside)
    (around-plain (slice_index text (plain.at - 1)) byte (plain_context plain around) around
    (excludes is_plain_byte is_asked refl byte less is_plain)) before_is closing.1
    (rw closing.0 refl) (rw (counted.0, closing.0) refl)

-- Bytes after which an expression may begin, whatever is before.
pub free-bytes : (byte : ℕ) (context : Context)
    → (byte ≡ 38) ⊎ ((byte ≡ 44) ⊎ ((byte ≡ 59) ⊎ ((byte ≡ 63) ⊎ ((byte ≡ 91) ⊎ ((byte ≡ 94) ⊎ ((byte ≡ 124)
    ⊎ (byte ≡ 126)))))))
    → (is_plain_byte byte ≡ true) × (Free ≡ before_after_punctuation byte context)
unfolding before_after_punctuation
free-bytes byte context (inl is) = rw is (refl, refl)
free-bytes byte context (inr (inl is)) = rw is (refl, refl)
free-bytes byte context (inr (inr (inl is))) = rw is (refl, refl)
free-bytes byte context (inr (inr (inr (inl is)))) = rw is (refl, refl)
free-bytes byte context (inr (inr (inr (inr (inl is))))) = rw is (refl, refl)
free-bytes byte context (inr (inr (inr (inr (inr (inl is)))))) = rw is (refl, refl)
free-bytes byte context (inr (inr (inr (inr (inr (inr (inl is))))))) = rw is (refl, refl)
free-bytes byte context (inr (inr (inr (inr (inr (inr (inr is))))))) = rw is (refl, refl)

-- More of them.
pub more_free-bytes : (byte : ℕ) (context : Context) → (byte ≡ 37) ⊎ (byte ≡ 58)
    → (is_plain_byte byte ≡ true) × (Free ≡ before_after_punctuation byte context)
unfolding before_after_punctuation
more_free-bytes byte context (inl is) = rw is (refl, refl)
more_free-bytes byte context (inr is) = rw is (refl, refl)

-- A turn over one of the bytes that are a token each.
pub token_byte-turn : (text : List ℕ) (plain : Plain) (byte end : ℕ) (before : Before) (in_element : Bool)
    (around new_around : List Opening) (parentheses new_parentheses : List Duty) → byte < 256
    → is_token_byte byte ≡ true → IsByteAt text plain byte end
    → (is_element (innermost around) ≡ false → in_element ≡ is_element (innermost new_around))
    → around_after_punctuation (slice_index text (plain.at - 1)) byte (plain_context plain around) around
    ≡ Some new_around
    → before ≡ before_after_punctuation byte (plain_context plain around)
    → is_byte (codes "*") (Byte byte) ≡ false → (is_byte (codes ")") (Byte byte) && is_method parentheses) ≡
    false
    → parentheses_after (Byte byte) duties.Nothing parentheses ≡ new_parentheses
    → IsPlainTurn text plain (after_token plain Punctuation end before asks.Nothing in_element) around
    new_around
    parentheses new_parentheses
unfolding agree_below is_word_byte
token_byte-turn text plain byte end before in_element around new_around parentheses new_parentheses less
    is_token at
    in_is around_is before_is star method parentheses_is =
    byte-turn text plain byte end before in_element around new_around parentheses new_parentheses at
    (kind-of_byte text plain around (rw at.byte_is (excludes is_token_byte begins_more refl byte less
    is_token))
    (rw at.byte_is (excludes is_token_byte is_special refl byte less is_token))) in_is around_is before_is
    star
    method parentheses_is

-- A `}` that closes a brace is a token.
pub kind-of_closing_brace : (text : List ℕ) (plain : Plain) (around : List Opening)
    → slice_index text plain.at ≡ 125 → innermost around ≡ openings.Brace → is_element (innermost around) ≡
    false
    → 4 ≤ plain.at → Punctuation ≡ kind_at text plain.at (plain_context plain around)
unfolding kind_at kind_in_code kind_of_punctuation is_word_byte
kind-of_closing_brace text plain around is inside outside past =
    rw (inside, space_size-none text plain.at (rw is refl) (rw is refl), is) refl

brace-of : (opening : Opening) → is_brace opening ≡ true → opening ≡ openings.Brace
brace-of openings.Brace is = refl
brace-of openings.Program is = cc
brace-of openings.Parenthesis is = cc
brace-of openings.HeadParenthesis is = cc
brace-of openings.Substitution is = cc
brace-of openings.Tag is = cc
brace-of openings.ClosingTag is = cc
brace-of openings.Angle is = cc
brace-of openings.Element is = cc

-- What is taken away is the innermost opening.
pub closed-popped : (test : Opening → Bool) (popped : Option Opening) (around rest : List Opening)
    → MatchOption popped ((around ≡ []) × (rest ≡ [])) (λ opening. around ≡ opening ∷ rest)
    → test openings.Program ≡ false → test (innermost around) ≡ true → closed test around ≡ Some rest
closed-popped test None around rest was outside is =
    absurd (true≢false (sym is ∙ (ap (λ l. test (innermost l)) was.0 ∙ outside)))
closed-popped test (Some opening) around rest was outside is = rw was (rw (rw was at is) refl)

-- A turn over a `}` that closes a brace.
pub closing_brace-turn : (text : List ℕ) (plain : Plain) (end : ℕ) (in_element : Bool)
    (popped : Option Opening) (around rest : List Opening) (parentheses : List Duty)
    → IsByteAt text plain 125 end → is_brace (innermost around) ≡ true
    → MatchOption popped ((around ≡ []) × (rest ≡ [])) (λ opening. around ≡ opening ∷ rest)
    → in_element ≡ is_element (innermost rest)
    → IsPlainTurn text plain (after_token plain Punctuation end Free asks.Nothing in_element) around rest
    parentheses parentheses
unfolding around_after_punctuation before_after_punctuation
closing_brace-turn text plain end in_element popped around rest parentheses at is was in_is =
    byte-turn text plain 125 end Free in_element around rest parentheses parentheses at
    (kind-of_closing_brace text plain around at.byte_is (brace-of (innermost around) is)) (λ outside. in_is)
    (closed-popped is_brace popped around rest was refl is) refl refl refl refl

-- A turn over a `)` that isn't that of a method's parameters.
pub closing_parenthesis-turn : (text : List ℕ) (plain : Plain) (end : ℕ) (in_element : Bool)
    (popped : Option Opening) (around rest : List Opening) (parentheses : List Duty)
    → IsByteAt text plain 41 end → is_parenthesis (innermost around) ≡ true → is_method parentheses ≡ false
    → MatchOption popped ((around ≡ []) × (rest ≡ [])) (λ opening. around ≡ opening ∷ rest)
    → in_element ≡ is_element (innermost rest)
    → IsPlainTurn text plain
    (after_token plain Punctuation end (before_after_parenthesis (innermost around)) asks.Nothing in_element)
    around rest parentheses (drop 1 parentheses)
unfolding around_after_punctuation before_after_punctuation
closing_parenthesis-turn text plain end in_element popped around rest parentheses at is no_method was in_is =
    token_byte-turn text plain 41 end _ in_element around rest parentheses (drop 1 parentheses) (omega arith)
    refl
    at (λ outside. in_is) (closed-popped is_parenthesis popped around rest was refl is) refl refl no_method
    refl

no_element : (before : Before) → false ≡ is_element (opening_of_parenthesis before)
no_element befores.Head = refl
no_element befores.Free = refl
no_element befores.Value = refl
no_element befores.Plus = refl
no_element befores.Minus = refl
no_element befores.Dot = refl
no_element befores.DotDot = refl
no_element befores.Equal = refl
no_element befores.TagOpen = refl
no_element befores.TagSlash = refl

-- A turn over a `(`.
pub parenthesis-turn : (text : List ℕ) (plain : Plain) (end : ℕ) (around : List Opening)
    (parentheses : List Duty) → IsByteAt text plain 40 end
    → IsPlainTurn text plain (after_token plain Punctuation end Free asks.Nothing false) around
    (opening_of_parenthesis plain.before ∷ around) parentheses (duties.Nothing ∷ parentheses)
unfolding around_after_punctuation before_after_punctuation
parenthesis-turn text plain end around parentheses at =
    token_byte-turn text plain 40 end Free false around (opening_of_parenthesis plain.before ∷ around)
    parentheses
    (duties.Nothing ∷ parentheses) (omega arith) refl at (λ outside. no_element plain.before) refl refl refl
    refl
    refl

-- A turn over a `{`.
pub brace-turn : (text : List ℕ) (plain : Plain) (end : ℕ) (around : List Opening) (parentheses : List Duty)
    → IsByteAt text plain 123 end
    → IsPlainTurn text plain (after_token plain Punctuation end Free asks.Nothing false) around
    (openings.Brace ∷ around) parentheses parentheses
unfolding around_after_punctuation before_after_punctuation
brace-turn text plain end around parentheses at =
    token_byte-turn text plain 123 end Free false around (openings.Brace ∷ around) parentheses parentheses
    (omega arith) refl at (λ outside. refl) refl refl refl refl refl

-- Directly in code, `<` begins no tag and `>` ends none.
less-code : (inside : Opening) (before : Before) → is_code inside ≡ true → begins_tag inside before None ≡
    false
less-code openings.Program before is = refl
less-code openings.Parenthesis before is = refl
less-code openings.HeadParenthesis before is = refl
less-code openings.Brace before is = refl
less-code openings.Substitution before is = refl
less-code openings.Tag before is = cc
less-code openings.ClosingTag before is = cc
less-code openings.Angle before is = cc
less-code openings.Element before is = cc

angle-code : (around : List Opening) → is_code (innermost around) ≡ true → around_after_angle around ≡ around
angle-code [] is = refl
angle-code (openings.Program ∷ around) is = refl
angle-code (openings.Parenthesis ∷ around) is = refl
angle-code (openings.HeadParenthesis ∷ around) is = refl
angle-code (openings.Brace ∷ around) is = refl
angle-code (openings.Substitution ∷ around) is = refl
angle-code (openings.Tag ∷ around) is = cc
angle-code (openings.ClosingTag ∷ around) is = cc
angle-code (openings.Angle ∷ around) is = cc
angle-code (openings.Element ∷ around) is = cc

greater-code : (previous : ℕ) (before : Before) (around : List Opening) → is_code (innermost around) ≡ true
    → around_after_greater previous before around ≡ Some around
greater-code previous before [] is = refl
greater-code previous before (openings.Program ∷ around) is = refl
greater-code previous before (openings.Parenthesis ∷ around) is = refl
greater-code previous before (openings.HeadParenthesis ∷ around) is = refl
greater-code previous before (openings.Brace ∷ around) is = refl
greater-code previous before (openings.Substitution ∷ around) is = refl
greater-code previous before (openings.Tag ∷ around) is = cc
greater-code previous before (openings.ClosingTag ∷ around) is = cc
greater-code previous before (openings.Angle ∷ around) is = cc
greater-code previous before (openings.Element ∷ around) is = cc

before-greater-code : (inside : Opening) → is_code inside ≡ true → before_after_greater inside ≡ Free
before-greater-code openings.Program is = refl
before-greater-code openings.Parenthesis is = refl
before-greater-code openings.HeadParenthesis is = refl
before-greater-code openings.Brace is = refl
before-greater-code openings.Substitution is = refl
before-greater-code openings.Tag is = cc
before-greater-code openings.ClosingTag is = cc
before-greater-code openings.Angle is = cc
before-greater-code openings.Element is = cc

less-turn : (text : List ℕ) (plain : Plain) (end : ℕ) (around : List Opening) (parentheses : List Duty)
    → IsByteAt text plain 60 end → is_code (innermost around) ≡ true
    → IsPlainTurn text plain (after_token plain Punctuation end Free asks.Nothing false) around around
    parentheses parentheses
unfolding around_after_punctuation before_after_punctuation
less-turn text plain end around parentheses at is =
    token_byte-turn text plain 60 end Free false around around parentheses parentheses (omega arith) refl at
    (λ outside. sym outside)
    (rw (less-code (innermost around) plain.before is, angle-code around is) refl)
    (rw (less-code (innermost around) plain.before is) refl) refl refl refl

greater-turn : (text : List ℕ) (plain : Plain) (end : ℕ) (around : List Opening) (parentheses : List Duty)
    → IsByteAt text plain 62 end → is_code (innermost around) ≡ true
    → IsPlainTurn text plain (after_token plain Punctuation end Free asks.Nothing false) around around
    parentheses parentheses
unfolding around_after_punctuation before_after_punctuation
greater-turn text plain end around parentheses at is =
    token_byte-turn text plain 62 end Free false around around parentheses parentheses (omega arith) refl at
    (λ outside. sym outside)
    (greater-code (slice_index text (plain.at - 1)) plain.before around is)
    (sym (before-greater-code (innermost around) is)) refl refl refl

-- A turn over a `<` or a `>` in code.
pub angle-turn : (text : List ℕ) (plain : Plain) (byte end : ℕ) (around : List Opening)
    (parentheses : List Duty)
    → IsByteAt text plain byte end → (byte ≡ 60) ⊎ (byte ≡ 62) → is_code (innermost around) ≡ true
    → IsPlainTurn text plain (after_token plain Punctuation end Free asks.Nothing false) around around
    parentheses parentheses
angle-turn text plain byte end around parentheses at (inl less) code =
    less-turn text plain end around parentheses (subst (λ (b : ℕ). IsByteAt text plain b end) less at) code
angle-turn text plain byte end around parentheses at (inr greater) code =
    greater-turn text plain end around parentheses (subst (λ (b : ℕ). IsByteAt text plain b end) greater at)
    code

quote-code : (inside : Opening) (before : Before) → is_code inside ≡ true
    → kind_of_quote inside before ≡ kinds.String
quote-code openings.Program before is = refl
quote-code openings.Parenthesis before is = refl
quote-code openings.HeadParenthesis before is = refl
quote-code openings.Brace before is = refl
quote-code openings.Substitution before is = refl
quote-code openings.Tag before is = cc
quote-code openings.ClosingTag before is = cc
quote-code openings.Angle before is = cc
quote-code openings.Element before is = cc

abbrev pub is_quote : ℕ → Bool
is_quote byte = (byte == 34) || (byte == 39)

pub kind-of_string : (kind : PieceKind) (text : List ℕ) (plain : Plain) (around : List Opening) (quote : ℕ)
    → slice_index text plain.at ≡ quote → quote < 256 → is_quote quote ≡ true
    → kind_of_quote (innermost around) plain.before ≡ kind → is_element (innermost around) ≡ false
    → kind ≡ kind_at text plain.at (plain_context plain around)
unfolding kind_at kind_in_code kind_of_punctuation agree_below is_word_byte
kind-of_string kind text plain around quote is less is_a_quote kind_is outside =
    let more = excludes is_quote (λ b. begins_more b || (b == 47)) refl quote less is_a_quote in
    let begins = neither (begins_more quote) (quote == 47) more in
    let word = neither (is_word_byte quote) ((quote == 92) || (is_ascii_space quote || nat_le 128 quote))
    begins.0 in
    let escape = neither (quote == 92) (is_ascii_space quote || nat_le 128 quote) word.1 in
    let space = neither (is_ascii_space quote) (nat_le 128 quote) escape.1 in
    rw (
      outside,
      space_size-none text plain.at (rw is space.0) (rw is space.1),
      is,
      word.0,
      escape.0,
      space.1,
      begins.1,
      is_a_quote,
      kind_is,
    ) refl

pub quote-is : (byte : ℕ) → (byte ≡ 34) ⊎ (byte ≡ 39) → is_quote byte ≡ true
quote-is byte (inl is) = rw is refl
quote-is byte (inr is) = rw is refl

-- A turn over a string in code.
pub string-turn : (text : List ℕ) (plain : Plain) (quote end : ℕ) (around : List Opening)
    (parentheses : List Duty) → slice_index text plain.at ≡ quote → quote < 256 → is_quote quote ≡ true
    → is_code (innermost around) ≡ true
    → Closes (string_step quote text) (plain.at + 1) (quote_close quote text) (Some end)
    → plain.at < end → end ≤ length text
    → IsPlainTurn text plain (after_token plain kinds.String end Value asks.Nothing false) around around
    parentheses parentheses
unfolding sight_of duty_after
string-turn text plain quote end around parentheses is less is_a_quote code closes on within =
    plain-turn false text plain kinds.String end Value asks.Nothing false around around parentheses
    parentheses on within refl refl (λ context so_far. refl) (λ outside. sym outside)
    (λ outside past. kind-of_string kinds.String text plain around quote is less is_a_quote
    (quote-code (innermost around) plain.before code) outside) (rw is closes)
    (λ outside. refl) (λ outside. refl) refl refl (λ is_typed watch unclaimed. refl) refl

-- White space is a piece.
pub kind-of_space : (text : List ℕ) (plain : Plain) (around : List Opening)
    → is_ascii_space (slice_index text plain.at) ≡ true → slice_index text plain.at < 256
    → is_element (innermost around) ≡ false → kinds.Space ≡ kind_at text plain.at (plain_context plain around)
unfolding kind_at kind_in_code space_size agree_below is_word_byte
kind-of_space text plain around is less outside =
    let no_word = neither (is_word_byte (slice_index text plain.at)) (slice_index text plain.at == 92)
    (excludes is_ascii_space (λ b. is_word_byte b || (b == 92)) refl (slice_index text plain.at) less is) in
    rw (outside, no_word.0, no_word.1, is) refl
