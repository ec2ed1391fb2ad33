-- A part of a comment's text is a part of the source, two bytes after the comment's start.
use Rattle.std.proofs.Common.{◌≡◌, ℕ, ◌+◌, ◌-◌, ◌<◌, ◌≤◌, ◌⊎◌, inl, inr, ⊎_elim, false, true, Bool, List, []}
use Rattle.std.proofs.Common.{◌∷◌, ◌++◌, length, take, drop, get_or, refl, sym, ap, subst, ◌∙◌, append_assoc}
use Rattle.std.proofs.Common.{length-append, length-drop, arith, encode_utf8_all}
use Rattle.std.proofs.lemmas.List.{drop-drop, drop-append-le, take-append-le, take-append-drop, get_or_at}
use Rattle.std.proofs.lemmas.List.{get_or_append_left, append-nil, length-take}
use Rattle.std.proofs.lemmas.Bool.{cases_order}
use Rattle.std.proofs.lemmas.Str.{IsCharBoundary-before_ascii, IsCharBoundary-from_rest}
use Rattle.std.specs.Str.{IsCharBoundary}
use Rattle.deno_graph_source.specs.Source.{IsSpelled, spelling}
use Rattle.deno_graph_base.specs.SourceRange.{IsTextRange, slice_of}
use Rattle.deno_graph_base.specs.declared.text.position.SourceRange.{SourceRange}
use Rattle.deno_graph_source.specs.declared.tree.comments.CommentKind.{CommentKind}
use Rattle.deno_graph_source.specs.declared.tree.comments.CommentKind.TheVariants.{Line, Block}
use Rattle.deno_graph_source.specs.declared.tree.comments.DependencyComment.{DependencyComment}
use Rattle.deno_graph_info.specs.declared.analysis.specifier_with_range.SpecifierWithRange.{SpecifierWithRange}
use Rattle.deno_graph_jsdoc.specs.Characters.{apostrophe, double_quote}
use Rattle.deno_graph_jsdoc.specs.JsDocImport.{Import}
use Rattle.deno_graph_pragmas.specs.Piece.{is_quote}
use Rattle.deno_graph_pragmas.specs.Split.{TextPart, IsSliceOf, IsInQuotes, with_beside}
use Rattle.deno_graph_module_info.specs.Pragma.{range_in_source, specifier_of_part, positions_of}
use Rattle.deno_graph_module_info.specs.internal.HeadPragma.{Covers}
use Rattle.deno_graph_module_info.specs.CommentImports.{IsQuotedAt, quoted_range}
use Rattle.deno_graph_module_info.specs.JsDocInfo.{info_of}
use Rattle.deno_graph_module_info.specs.Spelled.{CoversInSameQuotes, HasBetween}

-- the source has the text at an offset, up to a character boundary of the source
pub record LiesIn (source text : List ℕ) (start limit : ℕ) : Type 0 where
  pub rest : List ℕ
  pub inside : start ≤ length source
  pub dropped : drop start source ≡ text ++ rest
  pub end : IsCharBoundary source (start + length text)
  pub within : start + length text ≤ limit

-- the part of a slice after its first two bytes
after_marker : (source text closing : List ℕ) (range : SourceRange) (m n : ℕ)
    → slice_of source range ≡ m ∷ n ∷ (text ++ closing)
    → drop (range.start + 2) source ≡ text
    ++ (closing ++ drop (range.end - range.start) (drop range.start source))
after_marker source text closing range m n slice =
    let d = drop range.start source in
    let k = range.end - range.start in
    sym (drop-drop 2 range.start source)
    ∙ ap (drop 2) (sym (take-append-drop k d) ∙ ap (λ t. t ++ drop k d) slice)
    ∙ append_assoc text closing (drop k d)

-- the length of a slice of the text
slice_length : (source : List ℕ) (range : SourceRange) → IsTextRange source range
    → length (slice_of source range) ≡ range.end - range.start
slice_length source range is =
    let inside : range.end ≤ length source = is.end.0 in
    omega (
      arith,
      length-take (range.end - range.start) (drop range.start source),
      length-drop range.start source,
      is.ordered,
      inside,
    )

comment_lies : (source text : List ℕ) (kind : CommentKind) (range : SourceRange) → IsTextRange source range
    → slice_of source range ≡ spelling kind text → LiesIn source text (range.start + 2) range.end
comment_lies source text Line range is slice =
    let size : range.end ≡ range.start + 2 + length text =
    omega (arith, slice_length source range is, ap length slice, is.ordered) in
    let inside : range.end ≤ length source = is.end.0 in
    record {
      rest = drop (range.end - range.start) (drop range.start source);
      inside = omega (arith, size, inside);
      dropped = after_marker source text [] range 47 47
          (slice ∙ ap (λ t. 47 ∷ 47 ∷ t) (sym (append-nil text)));
      end = subst (IsCharBoundary source) size is.end;
      within = omega (arith, size);
    }
comment_lies source text Block range is slice =
    let size : range.end ≡ range.start + 2 + length text + 2 =
    omega (
      arith,
      slice_length source range is,
      ap length slice,
      is.ordered,
      length-append text (42 ∷ 47 ∷ []),
    ) in
    let inside : range.end ≤ length source = is.end.0 in
    let tail = 47 ∷ drop (range.end - range.start) (drop range.start source) in
    let dropped : drop (range.start + 2) source ≡ text ++ 42 ∷ tail =
    after_marker source text (42 ∷ 47 ∷ []) range 47 42 slice in
    let star : get_or (text ++ 42 ∷ tail) (length text) 0 ≡ 42 =
    get_or_at text 42 tail 0 (length text) refl in
    let longer : length text < length (text ++ 42 ∷ tail) = omega (arith, length-append text (42 ∷ tail)) in
    let cut : IsCharBoundary (text ++ 42 ∷ tail) (length text) =
    IsCharBoundary-before_ascii (text ++ 42 ∷ tail) (length text) longer (omega (arith, star)) in
    record {
      rest = 42 ∷ tail;
      inside = omega (arith, size, inside);
      dropped = dropped;
      end = IsCharBoundary-from_rest source (range.start + 2) (length text) (omega (arith, size, inside))
          (subst (λ t. IsCharBoundary t (length text)) (sym dropped) cut);
      within = omega (arith, size);
    }

-- a character boundary of the text is a character boundary of the source
cut_in_source : (source text : List ℕ) (start limit i : ℕ) → LiesIn source text start limit
    → IsCharBoundary text i → IsCharBoundary source (start + i)
cut_in_source source text start limit i there cut = by_order (cases_order i (length text))
  where
    by_order : (i ≡ length text) ⊎ ((i < length text) ⊎ (length text < i)) → IsCharBoundary source (start + i)
    by_order (inl last) = subst (λ k. IsCharBoundary source (start + k)) (sym last) there.end
    by_order (inr (inl before)) =
        let same = get_or_append_left text there.rest 0 i before in
        IsCharBoundary-from_rest source start i there.inside
        (subst (λ t. IsCharBoundary t i) (sym there.dropped) (
          omega (arith, length-append text there.rest),
          λ _ high. subst (λ b. 192 ≤ b) (sym same) (cut.1 before (subst (λ b. 128 ≤ b) same high)),
        ))
    by_order (inr (inr further)) = let inside : i ≤ length text = cut.0 in
        absurd (omega (arith, further, inside))

range_from : (start : ℕ) (part : TextPart) → SourceRange
range_from start part = record { start = start + part.start; end = start + part.end }

-- a slice of the text is a slice of the source
slice_in_source : (source text : List ℕ) (start limit : ℕ) (part : TextPart)
    → LiesIn source text start limit
    → IsSliceOf text part
    → IsTextRange source (range_from start part) × (slice_of source (range_from start part) ≡ part.text)
    × (start + part.end ≤ limit)
unfolding range_from
slice_in_source source text start limit part there slice =
    let inside : part.end ≤ length text = slice.end.0 in
    let ordered = slice.ordered in
    let span : start + part.end - (start + part.start) ≡ part.end - part.start = omega (arith, ordered) in
    let tail : drop (start + part.start) source ≡ drop part.start text ++ there.rest =
    sym (drop-drop part.start start source) ∙ ap (drop part.start) there.dropped
    ∙ drop-append-le part.start text there.rest (omega (arith, ordered, inside)) in
    let enough : part.end - part.start ≤ length (drop part.start text) =
    omega (arith, length-drop part.start text, ordered, inside) in (
      record {
        ordered = omega (arith, ordered);
        start = cut_in_source source text start limit part.start there slice.start;
        end = cut_in_source source text start limit part.end there slice.end;
      },
      ap (λ n. take n (drop (start + part.start) source)) span ∙ ap (take (part.end - part.start)) tail
          ∙ take-append-le (part.end - part.start) (drop part.start text) there.rest enough ∙ sym slice.is,
      omega (arith, there.within, inside),
    )

-- a part of a comment's text is a part of the source
pub record InSource (source : List ℕ) (comment : DependencyComment) (part : TextPart)
    (is_quoteless : Bool) : Type 0 where
  pub range : IsTextRange source (range_in_source comment.range.start part.start part.end is_quoteless)
  pub inside : (range_in_source comment.range.start part.start part.end is_quoteless).end ≤ comment.range.end
  pub covers : Covers source is_quoteless (specifier_of_part source comment part is_quoteless)

pub same_specifier : (one other : SpecifierWithRange) → one.text ≡ other.text → one.range ≡ other.range
    → one ≡ other
same_specifier one other text range = λ i. record { text = text i; range = range i }

pub same_range : (one other : SourceRange) → one.start ≡ other.start → one.end ≡ other.end → one ≡ other
same_range one other start end = λ i. record { start = start i; end = end i }

has_between : (source : List ℕ) (range : SourceRange) (bytes : List ℕ) → IsTextRange source range
    → slice_of source range ≡ bytes → HasBetween source (positions_of source range) bytes
has_between source range bytes is slice = record {
  range = range;
  is_text_range = is;
  is_at = record { start = (is.start, refl); end = (is.end, refl) };
  slice = slice;
}

-- the range of an import's info covers the specifier with its two equal quotes
pub in_same_quotes : (source : List ℕ) (import : Import) → IsQuotedAt source import
    → CoversInSameQuotes source (info_of source import).specifier
in_same_quotes source import at = ⊎_elim (by_mark double_quote refl) (by_mark apostrophe refl) at.quoted
  where
    range : IsTextRange source (quoted_range import)
    range = record { ordered = (let ordered = at.ordered in omega arith); start = at.start; end = at.end }

    by_mark : (mark : ℕ) → is_quote mark ≡ true → slice_of source (quoted_range import)
        ≡ mark ∷ (encode_utf8_all import.specifier ++ mark ∷ [])
        → CoversInSameQuotes source (info_of source import).specifier
    by_mark mark is_mark slice = (
      record {
        left = mark;
        right = mark;
        left_quote = is_mark;
        right_quote = is_mark;
        between = has_between source (quoted_range import) _ range slice;
      },
      refl,
    )

-- a slice of a comment's text is a slice of the source
slice_of_comment : (source : List ℕ) (comment : DependencyComment) (part : TextPart) (range : SourceRange)
    → IsSpelled source comment → IsSliceOf comment.text part
    → range_from (comment.range.start + 2) part ≡ range
    → IsTextRange source range × (slice_of source range ≡ part.text) × (range.end ≤ comment.range.end)
unfolding range_from
slice_of_comment source comment part range spelled slice same =
    let there = comment_lies source comment.text comment.kind comment.range spelled.range spelled.slice in
    let here = slice_in_source source comment.text
    (comment.range.start + 2) comment.range.end part there slice in (
      subst (IsTextRange source) same here.0,
      ap (slice_of source) (sym same) ∙ here.1,
      subst (λ (r : SourceRange). r.end ≤ comment.range.end) same here.2,
    )

pub in_source : (source : List ℕ) (comment : DependencyComment) (part : TextPart) (is_quoteless : Bool)
    → IsSpelled source comment → IsSliceOf comment.text part
    → (is_quoteless ≡ false → IsInQuotes comment.text part) → InSource source comment part is_quoteless
unfolding range_from
in_source source comment part true spelled slice quoted =
    let range = range_in_source comment.range.start part.start part.end true in
    let here = slice_of_comment source comment part range spelled slice
    (same_range _ _ (omega arith) (omega arith)) in
    record { range = here.0; inside = here.2; covers = has_between source range part.text here.0 here.1 }
in_source source comment part false spelled slice quoted =
    let quotes = quoted refl in
    let wide = with_beside quotes.left quotes.right part in
    let range = range_in_source comment.range.start part.start part.end false in
    let here = slice_of_comment source comment wide range spelled quotes.is_slice
    (same_range _ _ (omega (arith, quotes.has_front)) (omega arith)) in
    record {
      range = here.0;
      inside = here.2;
      covers = record {
        left = quotes.left;
        right = quotes.right;
        left_quote = quotes.left_quote;
        right_quote = quotes.right_quote;
        between = has_between source range wide.text here.0 here.1;
      };
    }
