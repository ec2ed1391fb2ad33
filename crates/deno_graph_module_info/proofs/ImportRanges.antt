-- The ranges in the source of the imports in comments.
use Rattle.std.proofs.Common.{◌≡◌, ℕ, true, ◌+◌, ◌-◌, ◌<◌, ◌≤◌, ◌⊎◌, inl, inr, List, [], ◌∷◌, ◌++◌, length}
use Rattle.std.proofs.Common.{take, drop, refl, sym, ap, ◌∙◌, subst, codes, append_assoc, length-append}
use Rattle.std.proofs.Common.{arith}
use Rattle.std.proofs.lemmas.Bool.{and_parts}
use Rattle.std.proofs.lemmas.List.{drop_at, take_at, take-append-drop, length-take-le, length-drop}
use Rattle.std.proofs.lemmas.Str.{IsCharBoundary-from_rest, IsCharBoundary-start, IsUtf8-append}
use Rattle.std.proofs.lemmas.Str.{IsUtf8-from_ascii, encodes-append, encodes-chars, scalars-chars}
use Rattle.std.specs.List.{Contains}
use Rattle.std.specs.Str.{IsCharBoundary, IsUtf8, chars}
use lib.Utf8.{encodes, encode, scalar, scalars}
use Rattle.deno_graph_jsdoc.specs.Characters.{apostrophe, double_quote}
use Rattle.deno_graph_jsdoc.specs.JsDocGrammar.{IsQuote}
use Rattle.deno_graph_jsdoc.specs.JsDocImports.{IsImportIn}
use Rattle.deno_graph_jsdoc.specs.JsDocImport.{Import, moved, byte_count}
use Rattle.deno_graph_jsdoc.proofs.ImportsIn.{one_import_in, HasSpecifier, has_specifier}
use Rattle.deno_graph_jsdoc.proofs.Imports.{byte_count-append, byte_count_quote}
use Rattle.deno_graph_jsdoc.proofs.Words.{IsAscii-from_test}
use Rattle.deno_graph_module_info.specs.CommentImports.{IsImportOf, IsQuotedAt, AreApart, quoted_range}
use Rattle.deno_graph_source.specs.Source.{IsSpelled, spelling}
use Rattle.deno_graph_source.specs.declared.tree.comments.CommentKind.TheVariants.{Block}
use Rattle.deno_graph_source.specs.declared.tree.comments.DependencyComment.{DependencyComment}
use Rattle.deno_graph_base.specs.SourceRange.{slice_of}

-- the bytes of a suffix of characters are the end of all bytes
scalars_back : (xs ys : List ℕ) → scalars (xs ++ ys) ≡ true → scalars ys ≡ true
scalars_back [] ys all = all
scalars_back (x ∷ xs) ys all = scalars_back xs ys (and_parts (scalar x) (scalars (xs ++ ys)) all).1

-- the range of an import in the bytes of its text
pub inner_bounds : (bytes : List ℕ) (import : Import) → IsUtf8 bytes → IsImportIn (chars bytes) import
    → (import.start ≤ import.end) × (import.end ≤ length bytes)
inner_bounds bytes import utf8 inner =
    let placed = has_specifier (chars bytes) import inner in
    let own = placed.start in
    let last = placed.end in
    let quote = byte_count_quote import.specifier placed.quote placed.quoted in
    let whole : length bytes
    ≡ byte_count placed.before + (byte_count placed.quote + byte_count placed.after) =
    ap length (sym (encodes-chars bytes utf8)) ∙ ap byte_count placed.whole
    ∙ byte_count-append placed.before (placed.quote ++ placed.after)
    ∙ ap (λ n. byte_count placed.before + n) (byte_count-append placed.quote placed.after) in
    (omega (arith, last), omega (arith, own, last, quote, whole))

-- the bytes of a specifier in quotes
quote_bytes : (inside quote : List ℕ) → IsQuote inside quote
    → (encodes quote ≡ codes "\"" ++ encodes inside ++ codes "\"")
    ⊎ (encodes quote ≡ codes "'" ++ encodes inside ++ codes "'")
unfolding encode
quote_bytes inside quote (inl (_, is)) =
    let first : encodes (double_quote ∷ inside) ≡ double_quote ∷ encodes inside = refl in
    let last : encodes (double_quote ∷ []) ≡ double_quote ∷ [] = refl in
    inl (ap encodes is ∙ encodes-append (double_quote ∷ inside) (double_quote ∷ [])
    ∙ (λ k. first k ++ last k))
quote_bytes inside quote (inr (_, is)) =
    let first : encodes (apostrophe ∷ inside) ≡ apostrophe ∷ encodes inside = refl in
    let last : encodes (apostrophe ∷ []) ≡ apostrophe ∷ [] = refl in
    inr (ap encodes is ∙ encodes-append (apostrophe ∷ inside) (apostrophe ∷ []) ∙ (λ k. first k ++ last k))

-- a text has a boundary before an ASCII byte and before UTF-8
ascii_first : (b : ℕ) (rest : List ℕ) → b < 128 → IsCharBoundary (b ∷ rest) 0
ascii_first b rest small = (omega arith, λ inside large. absurd (omega (arith, large, small)))

text_first : (xs ys : List ℕ) → IsUtf8 xs → 0 < length xs → IsCharBoundary (xs ++ ys) 0
text_first [] ys utf8 some = absurd (omega arith)
text_first (x ∷ xs) ys utf8 some =
    let first = IsCharBoundary-start (x ∷ xs) utf8 in
    (omega arith, λ inside large. first.1 some large)

quoted_first : (inside quote rest : List ℕ) → IsQuote inside quote → IsCharBoundary (encodes quote ++ rest) 0
quoted_first inside quote rest is = by_kind (quote_bytes inside quote is)
  where
    by_kind : (encodes quote ≡ codes "\"" ++ encodes inside ++ codes "\"")
        ⊎ (encodes quote ≡ codes "'" ++ encodes inside ++ codes "'")
        → IsCharBoundary (encodes quote ++ rest) 0
    by_kind (inl same) = subst (λ q. IsCharBoundary (q ++ rest) 0) (sym same)
        (ascii_first double_quote (encodes inside ++ codes "\"" ++ rest) (omega arith))
    by_kind (inr same) = subst (λ q. IsCharBoundary (q ++ rest) 0) (sym same)
        (ascii_first apostrophe (encodes inside ++ codes "'" ++ rest) (omega arith))

-- a block comment in the source
module _ (text : List ℕ) (comment : DependencyComment) (spelled : IsSpelled text comment)
    (block : comment.kind ≡ Block) where
  slice : slice_of text comment.range ≡ codes "/*" ++ comment.text ++ codes "*/"
  slice = spelled.slice ∙ ap (λ k. spelling k comment.text) block

  pub comment_size : (comment.range.end ≡ comment.range.start + 2 + length comment.text + 2)
      × (comment.range.end ≤ length text)
  comment_size =
      let range = spelled.range in
      let ends = range.end.0 in
      let order = range.ordered in
      let taken : length (slice_of text comment.range) ≡ comment.range.end - comment.range.start =
      length-take-le (comment.range.end - comment.range.start) (drop comment.range.start text)
      (omega (arith, length-drop comment.range.start text)) in
      let sizes : length (codes "/*" ++ comment.text ++ codes "*/") ≡ 2 + length comment.text + 2 =
      length-append (codes "/*" ++ comment.text) (codes "*/")
      ∙ ap (λ n. n + 2) (length-append (codes "/*") comment.text) in
      (omega (arith, taken, sizes, ap length slice), ends)

  abbrev pre : List ℕ
  pre = take comment.range.start text

  abbrev post : List ℕ
  post = drop (comment.range.end - comment.range.start) (drop comment.range.start text)

  whole : text ≡ pre ++ ((codes "/*" ++ comment.text ++ codes "*/") ++ post)
  whole =
      sym (take-append-drop comment.range.start text)
      ∙ ap (λ t. pre ++ t) (sym
      (take-append-drop (comment.range.end - comment.range.start) (drop comment.range.start text))
      ∙ ap (λ t. t ++ post) slice)

  length-pre : length pre ≡ comment.range.start
  length-pre =
      let size = comment_size in
      length-take-le comment.range.start text (omega (arith, size.0, size.1))

  -- the bytes before and after an import's specifier with its quotes
  module _ (utf8 : IsUtf8 comment.text) (import inner : Import)
      (placed : HasSpecifier (chars comment.text) inner)
      (is_moved : import ≡ moved (comment.range.start + 2) inner) where
    bytes : comment.text ≡ encodes placed.before ++ (encodes placed.quote ++ encodes placed.after)
    bytes =
        sym (encodes-chars comment.text utf8) ∙ ap encodes placed.whole
        ∙ encodes-append placed.before (placed.quote ++ placed.after)
        ∙ ap (λ t. encodes placed.before ++ t) (encodes-append placed.quote placed.after)

    abbrev front : List ℕ
    front = pre ++ (codes "/*" ++ encodes placed.before)

    abbrev back : List ℕ
    back = (encodes placed.after ++ codes "*/") ++ post

    parts : text ≡ front ++ (encodes placed.quote ++ back)
    parts =
        whole ∙ ap (λ t. pre ++ ((codes "/*" ++ t ++ codes "*/") ++ post)) bytes
        ∙ ap (λ t. pre ++ t)
        (append_assoc (codes "/*"
        ++ (encodes placed.before ++ (encodes placed.quote ++ encodes placed.after))) (codes "*/") post
        ∙ append_assoc (codes "/*") (encodes placed.before ++ (encodes placed.quote ++ encodes placed.after))
        (codes "*/" ++ post)
        ∙ ap (λ t. codes "/*" ++ t)
        (append_assoc (encodes placed.before) (encodes placed.quote ++ encodes placed.after)
        (codes "*/" ++ post)
        ∙ ap (λ t. encodes placed.before ++ t)
        (append_assoc (encodes placed.quote) (encodes placed.after) (codes "*/" ++ post)
        ∙ ap (λ t. encodes placed.quote ++ t) (sym (append_assoc (encodes placed.after) (codes "*/") post))))
        ∙ sym (append_assoc (codes "/*") (encodes placed.before) (encodes placed.quote ++ back)))
        ∙ sym (append_assoc pre (codes "/*" ++ encodes placed.before) (encodes placed.quote ++ back))

    starts : import.start ≡ length front + 1
    starts =
        let own = placed.start in
        let moves = ap (λ (i : Import). i.start) is_moved in
        omega (
          arith,
          own,
          moves,
          length-pre,
          length-append pre (codes "/*" ++ encodes placed.before),
          length-append (codes "/*") (encodes placed.before),
        )

    ends : import.end + 1 ≡ length front + length (encodes placed.quote)
    ends =
        let own = placed.end in
        let moves = ap (λ (i : Import). i.end) is_moved in
        let shifts = ap (λ (i : Import). i.start) is_moved in
        let quote = byte_count_quote inner.specifier placed.quote placed.quoted in
        omega (arith, own, moves, shifts, starts, quote)

    at_start : drop (length front) text ≡ encodes placed.quote ++ back
    at_start = ap (drop (length front)) parts
        ∙ drop_at front (encodes placed.quote ++ back) (length front) refl

    at_end : drop (length (front ++ encodes placed.quote)) text ≡ back
    at_end =
        ap (drop (length (front ++ encodes placed.quote)))
        (parts ∙ sym (append_assoc front (encodes placed.quote) back))
        ∙ drop_at (front ++ encodes placed.quote) back (length (front ++ encodes placed.quote)) refl

    sizes : length text ≡ length front + (length (encodes placed.quote) + length back)
    sizes = ap length parts ∙ length-append front (encodes placed.quote ++ back)
        ∙ ap (λ n. length front + n) (length-append (encodes placed.quote) back)

    start_boundary : IsCharBoundary text (length front + 0)
    start_boundary =
        IsCharBoundary-from_rest text (length front) 0 (omega (arith, sizes))
        (subst (λ t. IsCharBoundary t 0) (sym at_start)
        (quoted_first inner.specifier placed.quote back placed.quoted))

    end_boundary : IsCharBoundary text (length (front ++ encodes placed.quote) + 0)
    end_boundary =
        IsCharBoundary-from_rest text (length (front ++ encodes placed.quote)) 0
        (omega (arith, sizes, length-append front (encodes placed.quote)))
        (subst (λ t. IsCharBoundary t 0) (sym at_end)
        (text_first (encodes placed.after ++ codes "*/") post closed
        (omega (arith, length-append (encodes placed.after) (codes "*/")))))
      where
        closed : IsUtf8 (encodes placed.after ++ codes "*/")
        closed = IsUtf8-append (encodes placed.after) (codes "*/") after_utf8
            (IsUtf8-from_ascii (codes "*/") (IsAscii-from_test (codes "*/") refl))
          where
            after_utf8 : IsUtf8 (encodes placed.after)
            after_utf8 = (
              placed.after,
              (
                scalars_back placed.quote placed.after
                    (scalars_back placed.before (placed.quote ++ placed.after)
                    (ap scalars (sym placed.whole) ∙ scalars-chars comment.text utf8)),
                refl,
              ),
            )

    quoted_slice : slice_of text (quoted_range import) ≡ encodes placed.quote
    quoted_slice =
        let begin : import.start - 1 ≡ length front = omega (arith, starts) in
        let width : import.end + 1 - (import.start - 1) ≡ length (encodes placed.quote) =
        omega (arith, starts, ends) in
        (λ k. take (width k) (drop (begin k) text)) ∙ ap (take (length (encodes placed.quote))) at_start
        ∙ take_at (encodes placed.quote) back (length (encodes placed.quote)) refl

    pub quoted_at : IsQuotedAt text import
    quoted_at = record {
      some = omega (arith, starts);
      ordered = (let own = placed.end in let moves = ap (λ (i : Import). i.end) is_moved in
          let shifts = ap (λ (i : Import). i.start) is_moved in omega (arith, own, moves, shifts));
      start = subst (IsCharBoundary text) (omega (arith, starts)) start_boundary;
      end = subst (IsCharBoundary text)
          (omega (arith, ends, length-append front (encodes placed.quote))) end_boundary;
      quoted = by_kind (quote_bytes inner.specifier placed.quote placed.quoted);
    }
      where
        specifier : inner.specifier ≡ import.specifier
        specifier = sym (ap (λ (i : Import). i.specifier) is_moved)

        by_kind : (encodes placed.quote ≡ codes "\"" ++ encodes inner.specifier ++ codes "\"")
            ⊎ (encodes placed.quote ≡ codes "'" ++ encodes inner.specifier ++ codes "'")
            → (slice_of text (quoted_range import) ≡ codes "\"" ++ encodes import.specifier ++ codes "\"")
            ⊎ (slice_of text (quoted_range import) ≡ codes "'" ++ encodes import.specifier ++ codes "'")
        by_kind (inl same) = inl
            (quoted_slice ∙ same ∙ ap (λ t. codes "\"" ++ encodes t ++ codes "\"") specifier)
        by_kind (inr same) = inr
            (quoted_slice ∙ same ∙ ap (λ t. codes "'" ++ encodes t ++ codes "'") specifier)

    pub inside_comment : (comment.range.start ≤ import.start) × (import.start < comment.range.end)
    inside_comment =
        let length_is = comment_size in
        let own = placed.start in
        let moves = ap (λ (i : Import). i.start) is_moved in
        let quote = byte_count_quote inner.specifier placed.quote placed.quoted in
        let in_text : length comment.text
        ≡ byte_count placed.before + (byte_count placed.quote + byte_count placed.after) =
        ap length bytes ∙ length-append (encodes placed.before)
        (encodes placed.quote ++ encodes placed.after)
        ∙ ap (λ n. length (encodes placed.before) + n)
        (length-append (encodes placed.quote) (encodes placed.after)) in
        (omega (arith, moves), omega (arith, length_is.0, own, moves, quote, in_text))

-- an import is determined by its start, in comments that share no byte
pub one_import : (text : List ℕ) (comments : List DependencyComment) → AreApart comments
    → (a b : DependencyComment) → Contains comments a → Contains comments b
    → IsSpelled text a → IsSpelled text b → IsUtf8 a.text → IsUtf8 b.text → (import other : Import)
    → IsImportOf a import → IsImportOf b other → import.start ≡ other.start → import ≡ other
one_import text comments apart a b has also spelled written utf8 valid import other i j same =
    i.is_moved
    ∙ ap (moved (a.range.start + 2)) (one_import_in (chars a.text) i.inner inner i.is_inner is_inner starts)
    ∙ sym is_moved
  where
    first : (a.range.start ≤ import.start) × (import.start < a.range.end)
    first = inside_comment text a spelled i.jsdoc.0 utf8 import i.inner
        (has_specifier (chars a.text) i.inner i.is_inner) i.is_moved

    second : (b.range.start ≤ other.start) × (other.start < b.range.end)
    second = inside_comment text b written j.jsdoc.0 valid other j.inner
        (has_specifier (chars b.text) j.inner j.is_inner) j.is_moved

    equal : a ≡ b
    equal = apart a b has also
        (import.start, first.0, first.1, omega (arith, second, same), omega (arith, second, same))

    inner : Import
    inner = j.inner

    is_inner : IsImportIn (chars a.text) inner
    is_inner = subst (λ (c : DependencyComment). IsImportIn (chars c.text) inner) (sym equal) j.is_inner

    is_moved : other ≡ moved (a.range.start + 2) inner
    is_moved = j.is_moved ∙ ap (λ (c : DependencyComment). moved (c.range.start + 2) inner) (sym equal)

    starts : i.inner.start ≡ inner.start
    starts = omega (
      arith,
      ap (λ (k : Import). k.start) i.is_moved,
      ap (λ (k : Import). k.start) is_moved,
      same,
    )
