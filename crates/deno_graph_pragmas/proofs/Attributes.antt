-- The search for the first attribute, character by character.
use Rattle.std.proofs.Common.{◌≡◌, ℕ, ◌≤◌, true, List, [], ◌∷◌, ◌++◌, Some, None, length, sym, ap, ◌∙◌}
use Rattle.std.proofs.Common.{append_assoc, length-append, inl, inr, arith}
use Rattle.std.proofs.lemmas.Bool.{cond-true, cond-false, cases_Bool, cases_lt, false≢true}
use Rattle.std.proofs.lemmas.List.{append-nil, nil_from_length}
use Rattle.std.proofs.lemmas.Str.{chars_past_char, chars-nil, IsUtf8-past_char}
use Rattle.std.specs.Char.{is_whitespace}
use Rattle.std.specs.Option.{option_and_then}
use Rattle.std.specs.Str.{chars, IsUtf8}
use lib.Utf8.{encode, encodes}
use Rattle.deno_graph_pragmas.specs.Finders.{attribute}
use Rattle.deno_graph_pragmas.specs.internal.Reading.{after_one, after_pieces, attribute_front}
use Rattle.deno_graph_pragmas.specs.internal.Reading.{HasNoAttribute, IsAttributeAt}
use Rattle.deno_graph_pragmas.specs.Split.{ArePieces, Split, IsCaptured, TextPart}
use Rattle.deno_graph_pragmas.proofs.Barriers.{attribute_apart}
use Rattle.deno_graph_pragmas.proofs.Found.{bytes_of, rest_read, IsCaptured-read}
use Rattle.deno_graph_pragmas.proofs.Splits.{after_before, after_front, front_read, same_front}

-- the text is `passed` and `rest`, and none of its splits begins in `passed`
pub record IsPassed (name text rest : List ℕ) : Type 0 where
  pub utf8 : IsUtf8 rest
  pub passed : List ℕ
  pub whole : chars text ≡ passed ++ chars rest
  pub none : (split : Split (attribute name) (chars text)) → length passed ≤ length split.before

-- the front of a split that begins after `passed`
front_here : (name text passed here : List ℕ) → text ≡ passed ++ here
    → (split : Split (attribute name) text) → length passed ≡ length split.before
    → after_pieces (attribute name).front here ≡ Some (after_front split)
front_here name text passed here whole split same =
    let fronts = same_front passed split.before here (after_before split) (sym whole ∙ split.whole) same in
    ap (after_pieces (attribute name).front) fronts.1
    ∙ front_read (attribute name) text (attribute_apart name) split

-- no split begins where there is no white space, or no attribute after the white space
not_here : (name text passed cs : List ℕ) (c : ℕ) → text ≡ passed ++ c ∷ cs
    → (is_whitespace c ≡ true → HasNoAttribute name cs) → (split : Split (attribute name) text)
    → length passed ≡ length split.before → ⊥
not_here name text passed cs c whole none split same =
    let front = front_here name text passed (c ∷ cs) whole split same in
    elim (cases_Bool (is_whitespace c)) [
      | inl white ↦
          let first : after_one is_whitespace (c ∷ cs) ≡ Some cs =
          cond-true (is_whitespace c) (Some cs) None white in
          let attribute_read : after_pieces (attribute_front name) cs ≡ Some (after_front split) =
          sym (ap (option_and_then (after_pieces (attribute_front name))) first) ∙ front in
          let missing = none white (after_front split) attribute_read in
          let there = rest_read (attribute name) text (attribute_apart name) split in
          cc
      | inr dark ↦
          let first : after_one is_whitespace (c ∷ cs) ≡ None =
          cond-false (is_whitespace c) (Some cs) None dark in
          let missing : after_pieces (attribute name).front (c ∷ cs) ≡ None =
          ap (option_and_then (after_pieces (attribute_front name))) first in
          cc
    ]

-- one more character is passed
passed_whole : (name text rest next : List ℕ) (c : ℕ) → (so_far : IsPassed name text rest)
    → rest ≡ encode c ++ next → chars text ≡ so_far.passed ++ c ∷ chars next
passed_whole name text rest next c so_far here =
    so_far.whole ∙ ap (λ t. so_far.passed ++ t) (chars_past_char rest next c so_far.utf8 here)

pub passed_more : (name text rest next : List ℕ) (c : ℕ) → IsPassed name text rest → rest ≡ encode c ++ next
    → (is_whitespace c ≡ true → HasNoAttribute name (chars next)) → IsPassed name text next
passed_more name text rest next c so_far here missing =
    let whole = passed_whole name text rest next c so_far here in
    record {
      utf8 = IsUtf8-past_char rest next c so_far.utf8 here;
      passed = so_far.passed ++ c ∷ [];
      whole = whole ∙ sym (append_assoc so_far.passed (c ∷ []) (chars next));
      none = λ split. elim (cases_lt (length so_far.passed) (length split.before)) [
        | inl later ↦ omega (arith, later, length-append so_far.passed (c ∷ []))
        | inr here_or_before ↦
            let same : length so_far.passed ≡ length split.before =
            omega (arith, here_or_before, so_far.none split) in
            absurd (not_here name (chars text) so_far.passed (chars next) c whole missing split same)
      ];
    }

pub rest_le : (name text rest next : List ℕ) (c : ℕ) → IsUtf8 text → IsPassed name text rest
    → rest ≡ encode c ++ next → length next ≤ length text
rest_le name text rest next c utf8 so_far here =
    omega (
      arith,
      ap length (bytes_of text rest so_far.passed utf8 so_far.utf8 so_far.whole),
      length-append (encodes so_far.passed) rest,
      ap length here,
      length-append (encode c) next,
    )

pub found_here : (name text rest next : List ℕ) (c : ℕ) (part : TextPart) → IsUtf8 text
    → IsPassed name text rest → rest ≡ encode c ++ next → is_whitespace c ≡ true
    → IsAttributeAt name text next part → IsCaptured (attribute name) text part
found_here name text rest next c part utf8 so_far here white found =
    let first : after_one is_whitespace (c ∷ chars next) ≡ Some (chars next) =
    cond-true (is_whitespace c) (Some (chars next)) None white in
    let front = ap (option_and_then (after_pieces (attribute_front name))) first ∙ found.front in
    IsCaptured-read (attribute name) text found.value so_far.passed
    (c ∷ chars next) part utf8 found.utf8 (passed_whole name text rest next c so_far here)
    (λ anchored. absurd (false≢true anchored)) so_far.none front found.read

-- the front of an attribute isn't empty
front_some : (name front after : List ℕ) → ArePieces (attribute name).front front after → 1 ≤ length front
front_some name front after (piece, rest, whole, (c, is, white), others) =
    omega (arith, ap length whole, length-append piece rest, ap length is)

-- a text that is passed has no split
pub no_more : (name text rest : List ℕ) → IsPassed name text rest → length rest ≡ 0
    → ¬ (Split (attribute name) (chars text))
no_more name text rest so_far end split =
    let whole : chars text ≡ so_far.passed = so_far.whole ∙ ap (λ t. so_far.passed ++ chars t)
    (nil_from_length rest end) ∙ ap (λ t. so_far.passed ++ t) chars-nil ∙ append-nil so_far.passed in
    absurd (omega (
      arith,
      so_far.none split,
      ap length whole,
      ap length split.whole,
      length-append split.before (after_before split),
      length-append split.front (after_front split),
      front_some name split.front (after_front split) split.front_pieces,
    ))
