-- The captured part: its range in the text, its quotes, and that there is at most one.
use Rattle.std.proofs.Common.{◌≡◌, ℕ, ◌+◌, ◌-◌, ◌<◌, true, List, [], ◌∷◌, ◌++◌, length, take, drop, refl, sym}
use Rattle.std.proofs.Common.{ap, subst, ◌∙◌, append_assoc, length-append, arith, codes}
use Rattle.std.proofs.lemmas.Bool.Decides.{nat_tests}
use Rattle.std.proofs.lemmas.List.{take_at, drop_at, append-nil}
use Rattle.std.proofs.lemmas.Str.{encodes-append, encode_ascii, IsCharBoundary-at_seam}
use Rattle.std.specs.Str.{chars, IsUtf8}
use lib.Utf8.{encodes, encode}
use Rattle.deno_graph_pragmas.specs.Finders.{EachFinder, attribute, quoted_pragma}
use Rattle.deno_graph_pragmas.specs.Piece.{Piece, white_space, any_white_space, keyword, literal, quote}
use Rattle.deno_graph_pragmas.specs.Piece.{is_quote}
use Rattle.deno_graph_pragmas.specs.Split.{Pattern, ArePieces, Split, IsCaptured, IsSliceOf, IsInQuotes}
use Rattle.deno_graph_pragmas.specs.Split.{StartDetermines, HasOnePart, TextPart, with_beside}
use Rattle.deno_graph_pragmas.proofs.Barriers.{attribute_apart, quoted_pragma_apart, quoteless_pragma_apart}
use Rattle.deno_graph_pragmas.proofs.Barriers.{jsx_pragma_apart, source_mapping_url_apart}
use Rattle.deno_graph_pragmas.proofs.Splits.{IsDetermined, after_before, same_captured, same_front}
use Rattle.deno_graph_pragmas.proofs.TextSteps.{scalars-parts, text_of}

-- Slices

-- the bytes of a text whose characters are cut in two
cut : (text front back : List ℕ) → IsUtf8 text → chars text ≡ front ++ back
    → (text ≡ encodes front ++ encodes back) × IsUtf8 (encodes back)
cut text front back utf8 whole =
    let all = text_of text (front ++ back) utf8 whole in
    (all.0 ∙ encodes-append front back, (back, ((scalars-parts front back all.1).1, refl)))

same_part : (one other : TextPart) → one.text ≡ other.text → one.start ≡ other.start
    → one.end ≡ other.end → one ≡ other
same_part one other text start end = λ i. record { text = text i; start = start i; end = end i }

-- the bytes of the characters `b` are a slice of the text
slice_of_chars : (text a b c : List ℕ) → IsUtf8 text → chars text ≡ a ++ (b ++ c)
    → IsSliceOf text
    (record { text = encodes b; start = length (encodes a); end = length (encodes (a ++ b)) })
slice_of_chars text a b c utf8 whole =
    let first = cut text a (b ++ c) utf8 whole in
    let second = cut text (a ++ b) c utf8 (whole ∙ sym (append_assoc a b c)) in
    let size : length (encodes (a ++ b)) ≡ length (encodes a) + length (encodes b) =
    ap length (encodes-append a b) ∙ length-append (encodes a) (encodes b) in
    let span : length (encodes (a ++ b)) - length (encodes a) ≡ length (encodes b) = omega (arith, size) in
    let tail : text ≡ encodes a ++ (encodes b ++ encodes c) =
    first.0 ∙ ap (λ t. encodes a ++ t) (encodes-append b c) in
    let dropped : drop (length (encodes a)) text ≡ encodes b ++ encodes c =
    ap (drop (length (encodes a))) tail
    ∙ drop_at (encodes a) (encodes b ++ encodes c) (length (encodes a)) refl in
    record {
      start = IsCharBoundary-at_seam text (encodes a) (encodes (b ++ c)) first.0 first.1;
      end = IsCharBoundary-at_seam text (encodes (a ++ b)) (encodes c) second.0 second.1;
      ordered = omega (arith, size);
      is = sym (take_at (encodes b) (encodes c) (length (encodes (a ++ b)) - length (encodes a)) (sym span))
          ∙ ap (take (length (encodes (a ++ b)) - length (encodes a))) (sym dropped);
    }

pub captured_slice : (pattern : Pattern) (text : List ℕ) (part : TextPart) → IsUtf8 text
    → IsCaptured pattern text part → IsSliceOf text part
captured_slice pattern text part utf8 is =
    let split = is.split in
    let head = split.before ++ split.front in
    let tail = split.back ++ split.after in
    let whole : chars text ≡ head ++ (split.captured ++ tail) =
    split.whole ∙ sym (append_assoc split.before split.front (split.captured ++ tail)) in
    let slice : TextPart = record {
      text = encodes split.captured;
      start = length (encodes head);
      end = length (encodes (head ++ split.captured));
    } in
    subst (IsSliceOf text) (same_part slice part (sym is.bytes) (sym is.start) (sym is.end))
    (slice_of_chars text head split.captured tail utf8 whole)

-- Quotes

ends_in_quote : (pieces : List Piece) (front after : List ℕ) → ArePieces (pieces ++ quote ∷ []) front after
    → (head : List ℕ) × (mark : ℕ) × (front ≡ head ++ mark ∷ []) × (is_quote mark ≡ true)
ends_in_quote [] front after (piece, rest, whole, (mark, is, passes), end) =
    ([], mark, whole ∙ ap (λ t. piece ++ t) end ∙ append-nil piece ∙ is, passes)
ends_in_quote (p ∷ pieces) front after (piece, rest, whole, is, others) =
    let last = ends_in_quote pieces rest after others in (
      piece ++ last.0,
      last.1,
      whole ∙ ap (λ t. piece ++ t) last.2
          ∙ sym (append_assoc piece last.0 (last.1 ∷ [])),
      last.3,
    )

quote_ascii : (mark : ℕ) → is_quote mark ≡ true → encode mark ≡ mark ∷ []
quote_ascii mark is = let small : mark < 128 = grind (arith, nat_tests) in encode_ascii mark small

is_quote_piece : (back after : List ℕ) → ArePieces (quote ∷ []) back after
    → (mark : ℕ) × (back ≡ mark ∷ []) × (is_quote mark ≡ true)
is_quote_piece back after (piece, rest, whole, (mark, is, passes), end) =
    (mark, whole ∙ ap (λ t. piece ++ t) end ∙ append-nil piece ∙ is, passes)

-- a quote is directly before the captured part, and one directly after
record QuotesAround (before front back : List ℕ) : Type 0 where
  pub head : List ℕ
  pub left : ℕ
  pub right : ℕ
  pub front_is : before ++ front ≡ head ++ left ∷ []
  pub back_is : back ≡ right ∷ []
  pub left_quote : is_quote left ≡ true
  pub right_quote : is_quote right ≡ true

quotes_around : (pattern : Pattern) (pieces : List Piece) (text : List ℕ)
    → pattern.front ≡ pieces ++ quote ∷ [] → pattern.back ≡ quote ∷ [] → (split : Split pattern text)
    → QuotesAround split.before split.front split.back
quotes_around pattern pieces text front_is back_is split =
    let tail = split.captured ++ (split.back ++ split.after) in
    let first = ends_in_quote pieces split.front tail
    (subst (λ ps. ArePieces ps split.front tail) front_is split.front_pieces) in
    let last = is_quote_piece split.back split.after
    (subst (λ ps. ArePieces ps split.back split.after) back_is split.back_pieces) in
    record {
      head = split.before ++ first.0;
      left = first.1;
      right = last.0;
      front_is = ap (λ t. split.before ++ t) first.2 ∙ sym (append_assoc split.before first.0 (first.1 ∷ []));
      back_is = last.1;
      left_quote = first.3;
      right_quote = last.2;
    }

in_quotes : (pattern : Pattern) (text : List ℕ) (part : TextPart) → IsUtf8 text
    → (is : IsCaptured pattern text part) → QuotesAround is.split.before is.split.front is.split.back
    → IsInQuotes text part
in_quotes pattern text part utf8 is around =
    let split = is.split in
    let head = around.head in
    let left = around.left in
    let right = around.right in
    let wide = left ∷ (split.captured ++ right ∷ []) in
    let whole : chars text ≡ head ++ (wide ++ split.after) = split.whole
    ∙ sym (append_assoc split.before split.front (split.captured ++ (split.back ++ split.after)))
    ∙ ap (λ t. t ++ (split.captured ++ (split.back ++ split.after))) around.front_is
    ∙ ap (λ t. (head ++ left ∷ []) ++ (split.captured ++ (t ++ split.after))) around.back_is
    ∙ append_assoc head (left ∷ []) (split.captured ++ right ∷ split.after)
    ∙ ap (λ t. head ++ left ∷ t) (sym (append_assoc split.captured (right ∷ []) split.after)) in
    let first : length (encodes (split.before ++ split.front)) ≡ length (encodes head) + 1 =
    ap (λ t. length (encodes t)) around.front_is
    ∙ ap length (encodes-append head (left ∷ [])) ∙ length-append (encodes head) (encodes (left ∷ []))
    ∙ ap (λ t. length (encodes head) + length (t ++ [])) (quote_ascii left around.left_quote) in
    let second : length (encodes (split.before ++ split.front ++ split.captured))
    ≡ length (encodes (split.before ++ split.front)) + length part.text =
    ap length (encodes-append (split.before ++ split.front) split.captured)
    ∙ length-append (encodes (split.before ++ split.front)) (encodes split.captured)
    ∙ ap (λ t. length (encodes (split.before ++ split.front)) + length t) (sym is.bytes) in
    let bytes : encodes wide ≡ left ∷ (part.text ++ right ∷ []) =
    ap (λ t. t ++ encodes (split.captured ++ right ∷ [])) (quote_ascii left around.left_quote)
    ∙ ap (λ t. left ∷ t) (encodes-append split.captured (right ∷ []) ∙ ap (λ t. encodes split.captured
    ++ (t ++ [])) (quote_ascii right around.right_quote) ∙ ap (λ t. t ++ right ∷ []) (sym is.bytes)) in
    let size : length (left ∷ (part.text ++ right ∷ [])) ≡ length part.text + 2 =
    omega (arith, length-append part.text (right ∷ [])) in
    let third : length (encodes (head ++ wide)) ≡ length (encodes head) + (length part.text + 2) =
    ap length (encodes-append head wide) ∙ length-append (encodes head) (encodes wide)
    ∙ ap (λ t. length (encodes head) + length t) bytes ∙ ap (λ n. length (encodes head) + n) size in
    let slice : TextPart =
    record { text = encodes wide; start = length (encodes head); end = length (encodes (head ++ wide)) } in
    record {
      left = left;
      right = right;
      left_quote = around.left_quote;
      right_quote = around.right_quote;
      has_front = omega (arith, is.start, first);
      is_slice = subst (IsSliceOf text) (same_part slice (with_beside left right part) bytes
          (omega (arith, is.start, first)) (omega (arith, is.start, is.end, first, second, third)))
          (slice_of_chars text head wide split.after utf8 whole);
    }

pub attribute_in_quotes : (name : List ℕ) (text : List ℕ) (part : TextPart) → IsUtf8 text
    → IsCaptured (attribute name) text part → IsInQuotes text part
attribute_in_quotes name text part utf8 is =
    in_quotes (attribute name) text part utf8 is (quotes_around (attribute name) (white_space ∷ keyword name
    ∷ any_white_space ∷ literal "=" ∷ any_white_space ∷ []) (chars text) refl refl is.split)

pub pragma_in_quotes : (name : List ℕ) (text : List ℕ) (part : TextPart) → IsUtf8 text
    → IsCaptured (quoted_pragma name) text part → IsInQuotes text part
pragma_in_quotes name text part utf8 is =
    in_quotes (quoted_pragma name) text part utf8 is (quotes_around (quoted_pragma name) (any_white_space
    ∷ keyword name ∷ any_white_space ∷ literal "=" ∷ any_white_space ∷ []) (chars text) refl refl is.split)

-- At most one captured part

determined : (pattern : Pattern) → IsDetermined pattern → StartDetermines pattern
determined pattern apart text one other same =
    let parts = same_captured pattern text apart one other same in (parts.front, parts.captured)

one_part : (pattern : Pattern) → IsDetermined pattern → HasOnePart pattern
one_part pattern apart text one other first second =
    let a = first.split in
    let b = second.split in
    let lengths : length a.before ≡ length b.before = omega (arith, first.first b, second.first a) in
    let starts =
    (same_front a.before b.before (after_before a) (after_before b) (sym a.whole ∙ b.whole) lengths).0 in
    let parts = same_captured pattern (chars text) apart a b starts in
    let heads : a.before ++ a.front ≡ b.before ++ b.front =
    ap (λ t. t ++ a.front) starts ∙ ap (λ t. b.before ++ t) parts.front in
    same_part one other
    (first.bytes ∙ ap encodes parts.captured ∙ sym second.bytes)
    (first.start ∙ ap (λ t. length (encodes t)) heads ∙ sym second.start)
    (first.end ∙ ap (λ t. length (encodes (t ++ a.captured))) heads
    ∙ ap (λ t. length (encodes (b.before ++ b.front ++ t))) parts.captured ∙ sym second.end)

-- a property of the pattern of each finder that captures a part
of_each : (P : Pattern → Type 0) → ((pattern : Pattern) → IsDetermined pattern → P pattern) → EachFinder P
of_each P from = record {
  path_reference = from _ (attribute_apart (codes "path"));
  types_reference = from _ (attribute_apart (codes "types"));
  resolution_mode = from _ (attribute_apart (codes "resolution-mode"));
  jsx_import_source = from _ (jsx_pragma_apart (codes "@jsxImportSource") refl);
  jsx_import_source_types = from _ (jsx_pragma_apart (codes "@jsxImportSourceTypes") refl);
  source_mapping_url = from _ source_mapping_url_apart;
  ts_self_types = from _ (quoted_pragma_apart (codes "@ts-self-types") refl);
  ts_types = from _ (quoted_pragma_apart (codes "@ts-types") refl);
  deno_types = from _ (quoted_pragma_apart (codes "@deno-types") refl);
  quoteless_deno_types = from _ (quoteless_pragma_apart (codes "@deno-types") refl);
}

pub starts_determine : EachFinder StartDetermines
starts_determine = of_each StartDetermines determined

pub one_part_each : EachFinder HasOnePart
one_part_each = of_each HasOnePart one_part
