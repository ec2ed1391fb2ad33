-- The marks of bytes, character by character and range by range.
use Rattle.std.proofs.Common.{◌≡◌, ℕ, zero, suc, ◌+◌, ◌<◌, ◌≤◌, Bool, true, false, ◌||◌, ◌==◌, max, min, inl}
use Rattle.std.proofs.Common.{inr, List, [], ◌∷◌, ◌++◌, length, map, take, get_or, set, replicate, refl, sym}
use Rattle.std.proofs.Common.{ap, ◌∙◌, arith}
use Rattle.std.proofs.lemmas.Bool.{cases_eq, eq-eqb, ne_eqb}
use Rattle.std.proofs.lemmas.Bool.Decides.{nat_tests}
use Rattle.std.proofs.lemmas.List.{append-nil, append_assoc, ext_get_or, get_or-map, get_or-set_other}
use Rattle.std.proofs.lemmas.List.{get_or-set_same, length-append, length-map, length-replicate, length-set}
use Rattle.std.proofs.lemmas.List.{map-append, map-set, set-get_or}
use Rattle.std.proofs.lemmas.List.Folds.{list_any_kept, list_any_more}
use Rattle.std.proofs.lemmas.List.FromFn.{get_or-enumerate_from, length-enumerate_from}
use Rattle.std.proofs.lemmas.List.Sorted.{list_any-IsPermutation}
use Rattle.std.proofs.lemmas.Str.{IsUtf8-past_char, chars-nil, chars_past_char, encodes-chars, length-encode}
use Rattle.std.specs.Char.{encode_utf8, len_utf8}
use lib.Utf8.{encodes}
use Rattle.std.specs.List.{enumerate_from, flat_map, list_any}
use Rattle.std.specs.List.Sorted.{IsPermutation}
use Rattle.std.specs.Str.{IsUtf8, chars}
use Rattle.deno_graph_base.specs.declared.text.position.SourceRange.{SourceRange}
use Rattle.modinfo_estree.specs.Tokens.{bytes_of, gaps, has_byte, is_line_break, is_space}
use Rattle.modinfo_estree.specs.declared.marks.Mark.{Mark}
use Rattle.modinfo_estree.specs.internal.Marks.{AreMarked, breaks_of, gaps_of, is_break, is_gap}

-- ---- Characters

pub char_pushed : (test : ℕ → Bool) (old new : List Bool) (rest later : List ℕ) (whole : List Bool) (c : ℕ)
    (mark : Bool) → IsUtf8 rest → rest ≡ encode_utf8 c ++ later → mark ≡ test c
    → new ≡ old ++ replicate (len_utf8 c) mark → old ++ bytes_of test rest ≡ whole
    → IsUtf8 later × (new ++ bytes_of test later ≡ whole)
unfolding bytes_of
char_pushed test old new rest later whole c mark text front is pushed kept =
    let marks : ℕ → List Bool = λ d. replicate (len_utf8 d) (test d) in (
      IsUtf8-past_char rest later c text front,
      ap (λ l. l ++ flat_map marks (chars later))
          (pushed ∙ ap (λ t. old ++ replicate (len_utf8 c) t) is)
          ∙ append_assoc old (marks c) (flat_map marks (chars later))
          ∙ ap (λ cs. old ++ flat_map marks cs) (sym (chars_past_char rest later c text front)) ∙ kept,
    )

no_bytes : (test : ℕ → Bool) (rest : List ℕ) → length rest ≡ 0 → bytes_of test rest ≡ []
unfolding bytes_of
no_bytes test [] none = ap (flat_map (λ c. replicate (len_utf8 c) (test c))) chars-nil
no_bytes test (x ∷ xs) none = absurd (omega arith)

pub all_pushed : (test : ℕ → Bool) (bytes : List Bool) (rest : List ℕ) (whole : List Bool) → length rest ≡ 0
    → bytes ++ bytes_of test rest ≡ whole → bytes ≡ whole
all_pushed test bytes rest whole none kept =
    sym (append-nil bytes) ∙ ap (λ l. bytes ++ l) (sym (no_bytes test rest none)) ∙ kept

map-replicate : (f : Mark → Bool) (n : ℕ) (mark : Mark) → map f (replicate n mark) ≡ replicate n (f mark)
map-replicate f zero mark = refl
map-replicate f (suc n) mark = ap (λ l. f mark ∷ l) (map-replicate f n mark)

-- The marks of one more character, as a test of marks sees them.
pub push_seen : (f : Mark → Bool) (old new : List Mark) (n : ℕ) (mark : Mark)
    → new ≡ old ++ replicate n mark → map f new ≡ map f old ++ replicate n (f mark)
push_seen f old new n mark pushed =
    ap (map f) pushed ∙ map-append f old (replicate n mark)
    ∙ ap (λ l. map f old ++ l) (map-replicate f n mark)

-- A line terminator is white space.
pub break_is_space : (c : ℕ) → is_line_break c ≡ true → is_space c ≡ true
break_is_space c is = grind (arith, nat_tests)

-- ---- Ranges

or_false : (t : Bool) → (t || false) ≡ t
or_false true = refl
or_false false = refl

or_true : (t : Bool) → (t || true) ≡ true
or_true true = refl
or_true false = refl

or_assoc : (a b c : Bool) → ((a || b) || c) ≡ (a || (b || c))
or_assoc true b c = refl
or_assoc false b c = refl

-- Nothing is marked yet.
pub none_marked : (test : ℕ → Bool) (marks : List Mark) → ((at : ℕ) → test at ≡ false)
    → AreMarked test marks marks
none_marked test marks none = record {
  size = refl;
  gaps = λ at within.
      sym (or_false (get_or (gaps_of marks) at false))
      ∙ ap (λ t. get_or (gaps_of marks) at false || t) (sym (none at));
  breaks = refl;
}

-- Another test of the same bytes.
pub tested : (test other : ℕ → Bool) (old new : List Mark) → AreMarked test old new
    → ((at : ℕ) → at < length old → test at ≡ other at) → AreMarked other old new
tested test other old new marked same = record {
  size = marked.size;
  gaps = λ at within.
      marked.gaps at within ∙ ap (λ t. get_or (gaps_of old) at false || t) (same at within);
  breaks = marked.breaks;
}

-- The bytes of one test, and then those of another.
pub marked_also : (first second : ℕ → Bool) (old marks new : List Mark) → AreMarked first old marks
    → AreMarked second marks new → AreMarked (λ at. first at || second at) old new
marked_also first second old marks new before after = record {
  size = after.size ∙ before.size;
  gaps = λ at within.
      after.gaps at (omega (arith, before.size)) ∙ ap (λ t. t || second at) (before.gaps at within)
      ∙ or_assoc (get_or (gaps_of old) at false) (first at) (second at);
  breaks = after.breaks ∙ before.breaks;
}

-- One byte.
pub mark_byte : (marks : List Mark) (i : ℕ) (mark new : Mark) → i < length marks → mark ≡ get_or marks i mark
    → is_gap new ≡ true → is_break new ≡ is_break mark
    → AreMarked (λ at. at == i) marks (set marks i new)
mark_byte marks i mark new within is gap break = record {
  size = length-set marks i new;
  gaps = λ at below.
      ap (λ l. get_or l at false) (map-set is_gap marks i new ∙ ap (set (gaps_of marks) i) gap)
      ∙ elim (cases_eq at i) [
        | inl here ↦
            ap (λ j. get_or (set (gaps_of marks) i true) j false) here
            ∙ get_or-set_same (gaps_of marks) i true false (omega (arith, length-map marks is_gap))
            ∙ sym (or_true (get_or (gaps_of marks) at false))
            ∙ ap (λ t. get_or (gaps_of marks) at false || t) (sym (eq-eqb at i here))
        | inr other ↦
            get_or-set_other (gaps_of marks) i at true false other
            ∙ sym (or_false (get_or (gaps_of marks) at false))
            ∙ ap (λ t. get_or (gaps_of marks) at false || t) (sym (ne_eqb at i other))
      ];
  breaks =
      map-set is_break marks i new
      ∙ ap (set (breaks_of marks) i) (break ∙ ap is_break is
      ∙ sym (get_or-map is_break marks i mark false within))
      ∙ set-get_or (breaks_of marks) i false;
}

-- One byte more of a range.
pub range_more : (start at k : ℕ) → start ≤ at
    → (has_byte k (record { start = start; end = at }) || (k == at))
    ≡ has_byte k (record { start = start; end = at + 1 })
range_more start at k from = grind (arith, nat_tests)

-- No byte of a range yet.
pub range_none : (start k : ℕ) → has_byte k (record { start = start; end = start }) ≡ false
range_none start k = grind (arith, nat_tests)

-- All bytes of a range that are before `size`.
pub range_all : (start end at size k : ℕ) → start ≤ at → at ≤ max (min end size) start
    → min end size ≤ at → k < size
    → has_byte k (record { start = start; end = at }) ≡ has_byte k (record { start = start; end = end })
range_all start end at size k from to all within = grind (arith, nat_tests)

-- The bytes of a range, without some that are marked already.
absorb : (t l p r : Bool) → (l ≡ true → t ≡ true) → (l || p) ≡ (l || r) → (t || p) ≡ (t || r)
absorb t true p r has same = ap (λ t. t || p) (has refl) ∙ ap (λ t. t || r) (sym (has refl))
absorb t false p r has same = ap (λ x. t || x) same

-- The bytes of `last` are of the ranges before the range number `i`.
abbrev pub IsPast : List SourceRange → ℕ → SourceRange → Type 0
IsPast ranges i last = (at : ℕ) → has_byte at last ≡ true → list_any (has_byte at) (take i ranges) ≡ true

pub nothing_past : (ranges : List SourceRange) (last : SourceRange) → last ≡ record { start = 0; end = 0 }
    → IsPast ranges 0 last
nothing_past ranges last is at has = absurd (true_not_false (sym has ∙ ap (has_byte at) is ∙ range_none 0 at))
  where
    true_not_false : true ≡ false → ⊥
    true_not_false e = cc

-- One range more, of which a part is marked.
pub mark_more : (ranges : List SourceRange) (i : ℕ) (range last part : SourceRange)
    (old marks new : List Mark)
    → i < length ranges → range ≡ get_or ranges i range → IsPast ranges i last
    → ((at : ℕ) → (has_byte at last || has_byte at part) ≡ (has_byte at last || has_byte at range))
    → AreMarked (λ at. list_any (has_byte at) (take i ranges)) old marks
    → AreMarked (λ at. has_byte at part) marks new
    → AreMarked (λ at. list_any (has_byte at) (take (i + 1) ranges)) old new
mark_more ranges i range last part old marks new within is past same before after =
    tested (λ at. list_any (has_byte at) (take i ranges) || has_byte at part)
    (λ at. list_any (has_byte at) (take (i + 1) ranges)) old new
    (marked_also (λ at. list_any (has_byte at) (take i ranges)) (λ at. has_byte at part) old marks new
    before after)
    (λ at _. absorb (list_any (has_byte at) (take i ranges)) (has_byte at last) (has_byte at part)
    (has_byte at range) (past at) (same at)
    ∙ ap (λ r. list_any (has_byte at) (take i ranges) || has_byte at r) is
    ∙ sym (list_any_more (has_byte at) ranges i range within))

pub past_range : (ranges : List SourceRange) (i : ℕ) (range : SourceRange) → i < length ranges
    → range ≡ get_or ranges i range → IsPast ranges (i + 1) range
past_range ranges i range within is at has =
    list_any_more (has_byte at) ranges i range within
    ∙ ap (λ r. list_any (has_byte at) (take i ranges) || has_byte at r) (sym is)
    ∙ ap (λ t. list_any (has_byte at) (take i ranges) || t) has
    ∙ or_true (list_any (has_byte at) (take i ranges))

pub still_past : (ranges : List SourceRange) (i : ℕ) (last : SourceRange) → IsPast ranges i last
    → IsPast ranges (i + 1) last
still_past ranges i last past at has = list_any_kept (has_byte at) ranges i (past at has)

-- All ranges, in another order.
pub all_marked : (text : List ℕ) (comments ranges : List SourceRange) (old new : List Mark)
    → IsPermutation comments ranges → gaps_of old ≡ bytes_of is_space text
    → AreMarked (λ at. list_any (has_byte at) ranges) old new → gaps_of new ≡ gaps text comments
unfolding gaps
all_marked text comments ranges old new moved spaces marked =
    let bytes = bytes_of is_space text in
    let mark : ℕ × Bool → Bool = λ byte. byte.1 || list_any (has_byte byte.0) comments in
    let size : length (gaps_of new) ≡ length bytes =
    omega (arith, length-map new is_gap, length-map old is_gap, marked.size, ap length spaces) in
    let all : length (map mark (enumerate_from 0 bytes)) ≡ length bytes =
    length-map (enumerate_from 0 bytes) mark ∙ length-enumerate_from 0 bytes in
    ext_get_or false (gaps_of new) (map mark (enumerate_from 0 bytes)) (size ∙ sym all) (λ k below.
    let start : 0 + k ≡ k = omega arith in
    marked.gaps k (omega (arith, length-map new is_gap, marked.size))
    ∙ ap (λ l. get_or l k false || list_any (has_byte k) ranges) spaces
    ∙ ap (λ t. get_or bytes k false || t) (sym (list_any-IsPermutation (has_byte k) comments ranges moved))
    ∙ sym (get_or-map mark (enumerate_from 0 bytes) k (0, false) false
    (omega (arith, length-enumerate_from 0 bytes, size))
    ∙ ap mark (get_or-enumerate_from 0 bytes k (0, false) (omega (arith, size))
    ∙ ap (λ j. (j, get_or bytes k false)) start)))

-- ---- Sizes

length-with_ranges : (ranges : List SourceRange) (bytes : List Bool)
    → length (map (λ byte. byte.1 || list_any (has_byte byte.0) ranges) (enumerate_from 0 bytes))
    ≡ length bytes
length-with_ranges ranges bytes =
    length-map (enumerate_from 0 bytes) (λ byte. byte.1 || list_any (has_byte byte.0) ranges)
    ∙ length-enumerate_from 0 bytes

size_of_chars : (test : ℕ → Bool) (cs : List ℕ)
    → length (flat_map (λ c. replicate (len_utf8 c) (test c)) cs) ≡ length (encodes cs)
size_of_chars test [] = refl
size_of_chars test (c ∷ cs) =
    omega (
      arith,
      length-append
          (replicate (len_utf8 c) (test c)) (flat_map (λ c. replicate (len_utf8 c) (test c)) cs),
      length-append (encode_utf8 c) (encodes cs),
      length-replicate (len_utf8 c) (test c),
      length-encode c,
      size_of_chars test cs,
    )

-- A text has a mark for each byte.
pub length-bytes_of : (test : ℕ → Bool) (text : List ℕ) → IsUtf8 text
    → length (bytes_of test text) ≡ length text
unfolding bytes_of
length-bytes_of test text utf8 = size_of_chars test (chars text) ∙ ap length (encodes-chars text utf8)

pub length-gaps : (text : List ℕ) (comments : List SourceRange) → IsUtf8 text
    → length (gaps text comments) ≡ length text
unfolding gaps
length-gaps text comments utf8 =
    length-with_ranges comments (bytes_of is_space text) ∙ length-bytes_of is_space text utf8
