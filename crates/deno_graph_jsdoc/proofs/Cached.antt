-- The caches of a text, for the ends of the text.
use Rattle.std.proofs.Common.{◌≡◌, ℕ, ◌+◌, ◌<◌, ◌≤◌, ◌⊎◌, inl, inr, Some, None, Option, List, [], ◌∷◌, ◌++◌}
use Rattle.std.proofs.Common.{length, take, drop, refl, sym, ap, ◌∙◌, subst, append_assoc, arith}
use Rattle.std.proofs.lemmas.Bool.{cases_lt}
use Rattle.std.proofs.lemmas.List.{append_cancel_left}
use Rattle.std.proofs.lemmas.Str.{length-le-encodes}
use Rattle.std.specs.Option.{unwrap_or}
use Rattle.std.specs.Str.{IsUtf8, chars, skip_leading_whitespace}
use denote.Ref.{Bor}
use Rattle.deno_graph_jsdoc.specs.JsDocGrammar.{Anything, Begins, IsOptions}
use Rattle.deno_graph_jsdoc.specs.internal.Reading.{Reads, rest_and_mode}
use Rattle.deno_graph_jsdoc.specs.JsDocImport.{Mode, byte_count}
use Rattle.deno_graph_jsdoc.specs.internal.Cache.{OfEnd, AreCached, AreCachedSpaces}
use Rattle.deno_graph_jsdoc.specs.declared.grammar.cached_lists.CachedList.{CachedList}
use Rattle.deno_graph_jsdoc.specs.declared.grammar.cached_spaces.CachedSpace.{CachedSpace}
use Rattle.deno_graph_jsdoc.proofs.Imports.{byte_count-append}
use Rattle.deno_graph_jsdoc.proofs.Runs.{front_of_front, space_whole}
use Rattle.deno_graph_jsdoc.proofs.Texts.{cut_after_mark}

-- a property of the end of a text that takes `left` bytes, for the same end of `back`
pub OfEnd-back : (left : ℕ) (P : List ℕ → Type 0) (text front back : List ℕ) → text ≡ front ++ back
    → OfEnd left P text → OfEnd left P back
OfEnd-back left P text front back whole of before rest parts size =
    of (front ++ before) rest
    (whole ∙ ap (λ t. front ++ t) parts ∙ sym (append_assoc front before rest)) size

-- a cache of a text is a cache of each end of the text
pub AreCached-back : (text front back : List ℕ) (cache : List CachedList) → text ≡ front ++ back
    → AreCached text cache → AreCached back cache
AreCached-back text front back cache whole are k d inside =
    OfEnd-back _ _ text front back whole (are k d inside)

pub AreCached-after : {P : List ℕ → Type 0} {input rest : List ℕ} (cache : List CachedList)
    → Begins P input rest → AreCached input cache → AreCached rest cache
AreCached-after {P} {input} {rest} cache begins are =
    AreCached-back input begins.piece rest cache begins.whole are

pub AreCached-skipped : (input rest : List ℕ) (cache : List CachedList)
    → rest ≡ skip_leading_whitespace input → AreCached input cache → AreCached rest cache
AreCached-skipped input rest cache is are =
    let space = space_whole input in
    AreCached-back input space.0 rest cache (space.2 ∙ ap (λ t. space.0 ++ t) (sym is)) are

pub AreCachedSpaces-back : (text front back : List ℕ) (cache : List CachedSpace) → text ≡ front ++ back
    → AreCachedSpaces text cache → AreCachedSpaces back cache
AreCachedSpaces-back text front back cache whole are k d inside =
    OfEnd-back _ _ text front back whole (are k d inside)

pub AreCachedSpaces-after : {P : List ℕ → Type 0} {input rest : List ℕ} (cache : List CachedSpace)
    → Begins P input rest → AreCachedSpaces input cache → AreCachedSpaces rest cache
AreCachedSpaces-after {P} {input} {rest} cache begins are =
    AreCachedSpaces-back input begins.piece rest cache begins.whole are

pub AreCachedSpaces-skipped : (input rest : List ℕ) (cache : List CachedSpace)
    → rest ≡ skip_leading_whitespace input → AreCachedSpaces input cache → AreCachedSpaces rest cache
AreCachedSpaces-skipped input rest cache is are =
    let space = space_whole input in
    AreCachedSpaces-back input space.0 rest cache (space.2 ∙ ap (λ t. space.0 ++ t) (sym is)) are

-- a cache of a text is a cache of the text after options, or of the same text without options
pub AreCachedSpaces-options : (cache : List CachedSpace) (found : Option (Bor (List ℕ) × Mode))
    (all : Bor (List ℕ))
    (chosen : Bor (List ℕ) × Mode) → Reads Anything IsOptions (chars all.now) (rest_and_mode found)
    → chosen ≡ unwrap_or found (all, None) → AreCachedSpaces (chars all.now) cache
    → AreCachedSpaces (chars chosen.0.now) cache
AreCachedSpaces-options cache None all chosen reads is are =
    subst (λ (c : Bor (List ℕ) × Mode). AreCachedSpaces (chars c.0.now) cache) (sym is) are
AreCachedSpaces-options cache (Some x) all chosen reads is are =
    subst (λ (c : Bor (List ℕ) × Mode). AreCachedSpaces (chars c.0.now) cache) (sym is)
    (AreCachedSpaces-after cache reads.0 are)

-- a text has at most one end of a size
same_back : (front back before rest : List ℕ) → front ++ back ≡ before ++ rest
    → byte_count back ≡ byte_count rest → length front ≤ length before → back ≡ rest
same_back front back before rest same size fits =
    let middle = front_of_front front back before rest same fits in
    let is : back ≡ middle.0 ++ rest =
    append_cancel_left front back (middle.0 ++ rest)
    (same ∙ ap (λ t. t ++ rest) middle.1 ∙ append_assoc front middle.0 rest) in
    is ∙ nothing middle.0 rest (omega (
      arith,
      size,
      ap byte_count is,
      byte_count-append middle.0 rest,
      length-le-encodes middle.0,
    ))
  where
    nothing : (middle rest : List ℕ) → length middle ≡ 0 → middle ++ rest ≡ rest
    nothing [] rest none = refl
    nothing (c ∷ cs) rest none = absurd (omega (arith, none))

one_back : (front back before rest : List ℕ) → front ++ back ≡ before ++ rest
    → byte_count back ≡ byte_count rest → back ≡ rest
one_back front back before rest same size = by_length (cases_lt (length before) (length front))
  where
    by_length : (length before < length front) ⊎ (length front ≤ length before) → back ≡ rest
    by_length (inl less) = sym (same_back before rest front back (sym same) (sym size) (omega (arith, less)))
    by_length (inr fits) = same_back front back before rest same size fits

-- the end of this size has `P` if one end of this size has `P`
pub OfEnd-one : (left : ℕ) (P : List ℕ → Type 0) (text front back : List ℕ) → text ≡ front ++ back
    → byte_count back ≡ left → P back → OfEnd left P text
OfEnd-one left P text front back whole size holds before rest parts its_size =
    subst P (one_back front back before rest (sym whole ∙ parts) (size ∙ sym its_size)) holds

-- the text after a mark and white space is an end of the text
pub after_mark_and_space : (mark : ℕ) (text before after range input : List ℕ) → IsUtf8 text → mark < 128
    → text ≡ before ++ mark ∷ after → range ≡ drop (length before + 1) text
    → chars input ≡ skip_leading_whitespace (chars range)
    → (front : List ℕ) × (chars text ≡ front ++ chars input)
after_mark_and_space mark text before after range input utf8 ascii whole cut skipped =
    let space = space_whole (chars range) in
    let front = chars (take (length before + 1) text) in (
      front ++ space.0,
      cut_after_mark mark text before after utf8 ascii whole
          ∙ ap (λ t. front ++ t)
          (ap chars (sym cut) ∙ space.2 ∙ ap (λ t. space.0 ++ t) (sym skipped))
          ∙ sym (append_assoc front space.0 (chars input)),
    )
