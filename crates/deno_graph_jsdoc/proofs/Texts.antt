-- Lemmas of std on the bytes of a text, restated for its characters.
use Rattle.std.proofs.Common.{◌≡◌, ◌≢◌, ℕ, ◌+◌, ◌<◌, ◌≤◌, ◌==◌, Bool, true, false, Option, Some, None, List}
use Rattle.std.proofs.Common.{[], ◌∷◌, ◌++◌, length, take, drop, get_or, refl, sym, ap, ◌∙◌, subst, arith}
use Rattle.std.proofs.Common.{append_assoc, length-append}
use Rattle.std.proofs.lemmas.List.{append_cancel_left, append-nil, drop_all, drop_at, take-append-drop}
use Rattle.std.proofs.lemmas.List.{take_all}
use Rattle.std.proofs.Math.Seq.{get_or-append_seam}
use Rattle.std.proofs.lemmas.Bool.{eqb-false}
use Rattle.std.proofs.lemmas.Str.{IsUtf8-from_ascii, IsUtf8-past_char, IsUtf8-take, IsUtf8-drop, chars-append}
use Rattle.std.proofs.lemmas.Str.{chars-nil, chars-IsAscii, chars_from_encodes, chars_past_char}
use Rattle.std.proofs.lemmas.Str.{encodes-append, encodes-chars, encodes-IsAscii, IsCharBoundary-before_ascii}
use Rattle.std.proofs.lemmas.Str.{IsCharBoundary-after_ascii, encode_ascii, length-le-encodes}
use Rattle.std.proofs.lemmas.Str.{len_utf8_bounds}
use Rattle.std.specs.List.{AllByRecursion}
use Rattle.std.specs.Option.{MatchOption, unwrap_or}
use Rattle.std.specs.Str.{IsAscii, IsUtf8, IsCharBoundary, NonePass, NoCharPasses, chars}
use Rattle.std.specs.Str.Pattern.{FindsBy, FindsChar, FindsCharPrefix, RFindsChar, FindsText, FindsTextPrefix}
use Rattle.std.specs.Str.Pattern.{StripsPrefix, SplitsAroundMatch}
use denote.Ref.{Bor}
use lib.Utf8.{encodes, encode}
use Rattle.deno_graph_jsdoc.specs.JsDocGrammar.{Is, Lacks, Anything, EmptyOr}
use Rattle.deno_graph_jsdoc.specs.internal.Reading.{Reads, rest_of}

-- the bytes of a text are the bytes of its characters
pub bytes_from_chars : (text front rest : List ℕ) → IsUtf8 text → chars text ≡ front ++ rest
    → text ≡ encodes front ++ encodes rest
bytes_from_chars text front rest utf8 is = sym (encodes-chars text utf8) ∙ ap encodes is
    ∙ encodes-append front rest

-- a word at the start of a text
pub word_read : (word input : List ℕ) (result : Option (Bor (List ℕ))) → IsUtf8 input → IsAscii word
    → MatchOption result (FindsTextPrefix word input None)
    (λ rest. StripsPrefix (FindsTextPrefix word) input rest.now)
    → Reads Anything (λ (_ : Unit {0}). Is word) (chars input) (rest_of result)
word_read word input None utf8 ascii none = λ _ rest _ begins.
    none (encodes rest)
    (bytes_from_chars input word rest utf8 (begins.whole ∙ ap (λ piece. piece ++ rest) begins.is)
    ∙ ap (λ bytes. bytes ++ encodes rest) (encodes-IsAscii word ascii))
word_read word input (Some rest) utf8 ascii (n, is, cut, size) =
    let bytes : input ≡ word ++ rest.now = is.1 ∙ ap (λ t. word ++ t) (sym cut) in
    let whole : chars input ≡ word ++ chars rest.now =
    ap chars bytes ∙ chars-append word rest.now (IsUtf8-from_ascii word ascii)
    ∙ ap (λ t. t ++ chars rest.now) (chars-IsAscii word ascii) in (
      record { piece = word; whole = whole; is = refl },
      λ other after _ begins. (
        refl,
        append_cancel_left word after (chars rest.now)
            (sym (begins.whole ∙ ap (λ piece. piece ++ after) begins.is) ∙ whole),
      ),
    )

Lacks-from_test : (mark : ℕ) (cs : List ℕ) → NonePass (λ d. d == mark) cs → Lacks mark cs
Lacks-from_test mark [] none = tt
Lacks-from_test mark (c ∷ cs) none = (eqb-false c mark none.0, Lacks-from_test mark cs none.1)

pub Lacks-chars : (mark : ℕ) (text : List ℕ) → IsUtf8 text
    → NoCharPasses (λ d. d == mark) text → Lacks mark (chars text)
Lacks-chars mark text utf8 (cs, is, none) =
    subst (Lacks mark) (chars_from_encodes cs text utf8 is) (Lacks-from_test mark cs none)

-- a mark at the start of a text
pub no_mark_chars : (mark : ℕ) (input : List ℕ) → IsUtf8 input
    → ((rest : List ℕ) → input ≢ encode mark ++ rest) → (rest : List ℕ) → chars input ≢ mark ∷ rest
no_mark_chars mark input utf8 none rest is =
    none (encodes rest) (sym (encodes-chars input utf8) ∙ ap encodes is)

pub mark_chars : (mark : ℕ) (input rest : List ℕ) → IsUtf8 input
    → StripsPrefix (FindsCharPrefix mark) input rest → (chars input ≡ mark ∷ chars rest) × IsUtf8 rest
mark_chars mark input rest utf8 (n, at, cut, size) =
    let bytes : input ≡ encode mark ++ rest = at.split ∙ ap (λ t. encode mark ++ t) (sym cut) in
    (chars_past_char input rest mark utf8 bytes, IsUtf8-past_char input rest mark utf8 bytes)

-- the characters before and after the first occurrence of a mark
pub split_chars : (mark : ℕ) (input : List ℕ) (result : Option (Bor (List ℕ) × Bor (List ℕ)))
    → IsUtf8 input → mark < 128
    → MatchOption result (FindsChar mark input None)
    (λ x. SplitsAroundMatch (FindsChar mark) input x.0.now x.1.now)
    → MatchOption result (Lacks mark (chars input))
    (λ x. Lacks mark (chars x.0.now) × (chars input ≡ chars x.0.now ++ mark ∷ chars x.1.now))
split_chars mark input None utf8 ascii none = Lacks-chars mark input utf8 none
split_chars mark input (Some x) utf8 ascii (i, j, found, front, back, order, front_size, back_size) =
    let at = found.1 in
    let inside : i < length input = omega (arith, at.ends, len_utf8_bounds mark) in
    let byte : get_or input i 0 ≡ mark = at.byte ascii in
    let boundary : IsCharBoundary input i =
    IsCharBoundary-before_ascii input i inside (omega (arith, byte)) in
    let before : IsUtf8 (take i input) = IsUtf8-take input i utf8 boundary in
    let after : chars (drop i input) ≡ mark ∷ chars (drop j input) =
    chars_past_char (drop i input) (drop j input) mark (IsUtf8-drop input i utf8 boundary) at.split in
    let whole : chars input ≡ chars (take i input) ++ mark ∷ chars (drop j input) =
    ap chars (sym (take-append-drop i input)) ∙ chars-append (take i input) (drop i input) before
    ∙ ap (λ t. chars (take i input) ++ t) after in (
      subst (λ t. Lacks mark (chars t)) (sym front) (Lacks-chars mark (take i input) before found.0),
      whole ∙ (λ k. chars (sym front k) ++ mark ∷ chars (sym back k)),
    )

-- the characters before and after the last occurrence of a mark
pub rsplit_chars : (mark : ℕ) (input before rest : List ℕ) → IsUtf8 input → mark < 128
    → SplitsAroundMatch (RFindsChar mark) input before rest
    → Lacks mark (chars rest) × (chars input ≡ chars before ++ mark ∷ chars rest)
rsplit_chars mark input before rest utf8 ascii (i, j, found, front, back, order, front_size, back_size) =
    let at = found.1 in
    let inside : i < length input = omega (arith, at.ends, len_utf8_bounds mark) in
    let byte : get_or input i 0 ≡ mark = at.byte ascii in
    let boundary : IsCharBoundary input i =
    IsCharBoundary-before_ascii input i inside (omega (arith, byte)) in
    let start : IsUtf8 (take i input) = IsUtf8-take input i utf8 boundary in
    let from : IsUtf8 (drop i input) = IsUtf8-drop input i utf8 boundary in
    let after : chars (drop i input) ≡ mark ∷ chars (drop j input) =
    chars_past_char (drop i input) (drop j input) mark from at.split in
    let past : IsUtf8 (drop j input) = IsUtf8-past_char (drop i input) (drop j input) mark from at.split in
    let whole : chars input ≡ chars (take i input) ++ mark ∷ chars (drop j input) =
    ap chars (sym (take-append-drop i input)) ∙ chars-append (take i input) (drop i input) start
    ∙ ap (λ t. chars (take i input) ++ t) after in (
      subst (λ t. Lacks mark (chars t)) (sym back) (Lacks-chars mark (drop j input) past found.0),
      whole ∙ (λ k. chars (sym front k) ++ mark ∷ chars (sym back k)),
    )

-- the bytes before and after the last occurrence of a mark
pub rsplit_bytes : (mark : ℕ) (input before rest : List ℕ) → mark < 128
    → SplitsAroundMatch (RFindsChar mark) input before rest
    → (after : List ℕ) × (input ≡ before ++ mark ∷ after)
rsplit_bytes mark input before rest ascii (i, j, found, front, back, order, front_size, back_size) =
    let one : encode mark ≡ mark ∷ [] = encode_ascii mark ascii in (
      drop j input,
      sym (take-append-drop i input) ∙ ap (λ t. take i input ++ t) found.1.split
          ∙ ap (λ t. take i input ++ (t ++ drop j input)) one
          ∙ ap (λ t. t ++ mark ∷ drop j input) (sym front),
    )

module _ (mark : ℕ) (text before after : List ℕ) (utf8 : IsUtf8 text) (ascii : mark < 128)
    (whole : text ≡ before ++ mark ∷ after) where
  pub after_mark : IsCharBoundary text (length before + 1)
  after_mark = IsCharBoundary-after_ascii text (length before) utf8
      (omega (arith, ap length whole, length-append before (mark ∷ after)))
      (omega
      (arith, ascii, ap (λ t. get_or t (length before) 0) whole, get_or-append_seam before mark after 0))

  pub cut_after_mark : chars text
      ≡ chars (take (length before + 1) text) ++ chars (drop (length before + 1) text)
  cut_after_mark =
      ap chars (sym (take-append-drop (length before + 1) text))
      ∙ chars-append (take (length before + 1) text) (drop (length before + 1) text)
      (IsUtf8-take text (length before + 1) utf8 after_mark)

-- the characters before and after the first character that passes a test
from_none : (test : ℕ → Bool) (cs : List ℕ) → NonePass test cs → AllByRecursion (λ c. test c ≡ false) cs
from_none test [] none = tt
from_none test (c ∷ cs) none = (none.0, from_none test cs none.1)

none_chars : (test : ℕ → Bool) (text : List ℕ) → IsUtf8 text → NoCharPasses test text
    → AllByRecursion (λ c. test c ≡ false) (chars text)
none_chars test text utf8 (cs, is, none) =
    subst (AllByRecursion (λ c. test c ≡ false)) (chars_from_encodes cs text utf8 is) (from_none test cs none)

abbrev pub FindsAt : (ℕ → Bool) → List ℕ → Option ℕ → Type 0
FindsAt test input result =
    MatchOption result (FindsBy test input None)
    (λ i. (j : ℕ) × FindsBy test input (Some (i, j)) × (i ≤ j) × IsCharBoundary input i
    × IsCharBoundary input j)

-- a result for each test that the closure may be, for this test
pub find_by_test : (test : ℕ → Bool) (IsTest : (ℕ → Bool) → Type 0) (input : List ℕ)
    (result : Option ℕ) → IsTest test
    → MatchOption result ((k : ℕ → Bool) → IsTest k → FindsBy k input None)
    (λ i. (j : ℕ) × ((k : ℕ → Bool) → IsTest k → FindsBy k input (Some (i, j))) × (i ≤ j)
    × IsCharBoundary input i × IsCharBoundary input j)
    → FindsAt test input result
find_by_test test IsTest input None is found = found test is
find_by_test test IsTest input (Some i) is (j, found, order, start, end) =
    (j, found test is, order, start, end)

pub find_chars : (test : ℕ → Bool) (input : List ℕ) (result : Option ℕ) → IsUtf8 input
    → FindsAt test input result
    → let at = unwrap_or result (length input) in
    (chars input ≡ chars (take at input) ++ chars (drop at input))
    × AllByRecursion (λ c. test c ≡ false) (chars (take at input))
    × EmptyOr (λ c. test c ≡ true) (chars (drop at input))
find_chars test input None utf8 none =
    let front : take (length input) input ≡ input = take_all (length input) input (omega arith) in
    let after : drop (length input) input ≡ [] = drop_all (length input) input (omega arith) in
    let rest : chars (drop (length input) input) ≡ [] = ap chars after ∙ chars-nil in (
      sym (ap chars front) ∙ sym (append-nil (chars (take (length input) input)))
          ∙ ap (λ t. chars (take (length input) input) ++ t) (sym rest),
      subst (λ t. AllByRecursion (λ c. test c ≡ false) (chars t)) (sym front)
          (none_chars test input utf8 none),
      subst (EmptyOr (λ c. test c ≡ true)) (sym rest) tt,
    )
find_chars test input (Some i) utf8 (j, found, order, boundary, end) =
    let front : IsUtf8 (take i input) = IsUtf8-take input i utf8 boundary in
    let passing = found.1 in
    let after : chars (drop i input) ≡ passing.0 ∷ chars (drop j input) =
    chars_past_char (drop i input) (drop j input) passing.0
    (IsUtf8-drop input i utf8 boundary) passing.2.split in (
      ap chars (sym (take-append-drop i input)) ∙ chars-append (take i input) (drop i input) front,
      none_chars test (take i input) front found.0,
      subst (EmptyOr (λ c. test c ≡ true)) (sym after) passing.1,
    )

-- the characters before and after the first occurrence of a word
pub split_word : (word input : List ℕ) (result : Option (Bor (List ℕ) × Bor (List ℕ)))
    → IsUtf8 input → IsAscii word
    → MatchOption result (Unit {0}) (λ x. IsUtf8 x.0.now)
    → MatchOption result (FindsText word input None)
    (λ x. SplitsAroundMatch (FindsText word) input x.0.now x.1.now)
    → MatchOption result ((front rest : List ℕ) → chars input ≢ front ++ (word ++ rest))
    (λ x. (chars input ≡ chars x.0.now ++ (word ++ chars x.1.now))
    × ((before after : List ℕ) → chars x.0.now ++ word ≡ before ++ (word ++ after) → after ≡ []))
split_word word input None utf8 ascii _ none = λ front rest whole.
    let bytes = bytes_from_chars input front (word ++ rest) utf8 whole in
    let here : drop (length (encodes front)) input ≡ word ++ encodes rest =
    ap (drop (length (encodes front))) bytes ∙ drop_at (encodes front) (encodes (word ++ rest))
    (length (encodes front)) refl
    ∙ encodes-append word rest ∙ ap (λ t. t ++ encodes rest) (encodes-IsAscii word ascii) in
    none (length (encodes front)) (omega
    (arith, ap length bytes, length-append (encodes front) (encodes (word ++ rest)))) (encodes rest) here
split_word word input (Some x) utf8 ascii utf8_front
    (i, j, found, front, back, order, front_size, back_size) = (whole, first)
  where
    at : drop i input ≡ word ++ drop j input
    at = found.1.split

    bytes : input ≡ x.0.now ++ (word ++ x.1.now)
    bytes =
        let front_is : take i input ≡ x.0.now = sym front in
        sym (take-append-drop i input) ∙ (λ k. front_is k ++ at k)
        ∙ ap (λ t. x.0.now ++ (word ++ t)) (sym back)

    whole : chars input ≡ chars x.0.now ++ (word ++ chars x.1.now)
    whole =
        ap chars bytes ∙ chars-append x.0.now (word ++ x.1.now) utf8_front
        ∙ ap (λ t. chars x.0.now ++ t) (chars-append word x.1.now (IsUtf8-from_ascii word ascii)
        ∙ ap (λ t. t ++ chars x.1.now) (chars-IsAscii word ascii))

    first : (before after : List ℕ) → chars x.0.now ++ word ≡ before ++ (word ++ after) → after ≡ []
    first before [] same = refl
    first before (c ∷ cs) same =
        let all : chars input ≡ before ++ (word ++ ((c ∷ cs) ++ chars x.1.now)) =
        whole ∙ sym (append_assoc (chars x.0.now) word (chars x.1.now)) ∙ ap (λ t. t ++ chars x.1.now) same
        ∙ append_assoc before (word ++ c ∷ cs) (chars x.1.now)
        ∙ ap (λ t. before ++ t) (append_assoc word (c ∷ cs) (chars x.1.now)) in
        let spelled = bytes_from_chars input before (word ++ ((c ∷ cs) ++ chars x.1.now)) utf8 all in
        let here : drop (length (encodes before)) input ≡ word ++ encodes ((c ∷ cs) ++ chars x.1.now) =
        ap (drop (length (encodes before))) spelled ∙ drop_at (encodes before)
        (encodes (word ++ ((c ∷ cs) ++ chars x.1.now))) (length (encodes before)) refl
        ∙ encodes-append word ((c ∷ cs) ++ chars x.1.now)
        ∙ ap (λ t. t ++ encodes ((c ∷ cs) ++ chars x.1.now)) (encodes-IsAscii word ascii) in
        let left : length (encodes (chars x.0.now ++ word)) ≡ length x.0.now + length (encodes word) =
        ap length (encodes-append (chars x.0.now) word) ∙ length-append (encodes (chars x.0.now))
        (encodes word) ∙ ap (λ t. length t + length (encodes word)) (encodes-chars x.0.now utf8_front) in
        let right : length (encodes (before ++ (word ++ c ∷ cs))) ≡ length
        (encodes before) + (length (encodes word) + length (encodes (c ∷ cs))) =
        ap length (encodes-append before (word ++ c ∷ cs)
        ∙ ap (λ t. encodes before ++ t) (encodes-append word (c ∷ cs)))
        ∙ length-append (encodes before) (encodes word ++ encodes (c ∷ cs))
        ∙ ap (λ n. length (encodes before) + n) (length-append (encodes word) (encodes (c ∷ cs))) in
        let sooner : length (encodes before) < i = omega
        (arith, left, right, ap (λ t. length (encodes t)) same, length-le-encodes (c ∷ cs), front_size) in
        absurd (found.0 (length (encodes before)) sooner (encodes ((c ∷ cs) ++ chars x.1.now)) here)
