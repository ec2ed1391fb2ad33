-- Boundaries of a text, with the characters before and after them.
use Rattle.std.proofs.Common.{◌≡◌, ℕ, zero, suc, ◌+◌, ◌-◌, ◌<◌, ◌≤◌, inl, inr, List, [], ◌∷◌, ◌++◌, length}
use Rattle.std.proofs.Common.{take, drop, refl, sym, ap, ◌∙◌, subst, arith, length-append, length-drop}
use Rattle.std.proofs.Common.{append_assoc}
use Rattle.std.proofs.lemmas.Bool.{cases_lt}
use Rattle.std.proofs.lemmas.List.{length-take-le, take-append-drop, take-append-le, take_all, append-nil}
use Rattle.std.proofs.lemmas.Str.{IsCharBoundary-start, IsCharBoundary-past_char, IsUtf8-take, IsUtf8-drop}
use Rattle.std.proofs.lemmas.Str.{IsUtf8-between, chars-append, chars_past_char, chars-nil, encodes-chars}
use Rattle.std.proofs.lemmas.Str.{encode_same, length-encode, length-le-encodes, len_utf8_bounds}
use Rattle.std.proofs.Math.Seq.{take-add}
use Rattle.std.specs.Char.{len_utf8}
use Rattle.std.specs.Cmp.{nat_cmp_is}
use Rattle.std.specs.Ordering.{nat_cmp}
use Rattle.std.specs.declared.cmp.Ordering.TheVariants.{Less, Equal, Greater}
use Rattle.std.specs.Str.{IsCharBoundary, IsUtf8, chars}
use lib.Utf8.{encodes, encode}
use Rattle.deno_graph_base.specs.internal.Cursor.{IsCursor}
use Rattle.deno_graph_base.specs.Position.{HasPosition, IsBefore, position_at, position_of}
use Rattle.deno_graph_base.specs.declared.text.cursor.Cursor.{Cursor}
use Rattle.deno_graph_base.specs.declared.text.position.Position.{Position}
use Rattle.deno_graph_base.proofs.PositionLemmas.{line_of-le, character_of-le, before_longer}
use Rattle.deno_graph_base.proofs.PositionLemmas.{IsBefore-irreflexive, position_cmp, position_cmp-before}
use Rattle.deno_graph_base.proofs.PositionLemmas.{position_cmp-after, position_cmp-same}

-- a boundary has at most as many characters before it as bytes
pub chars_le : (text : List ℕ) (offset : ℕ) → IsUtf8 text → IsCharBoundary text offset
    → length (chars (take offset text)) ≤ offset
chars_le text offset utf8 boundary =
    let front : encodes (chars (take offset text)) ≡ take offset text =
    encodes-chars (take offset text) (IsUtf8-take text offset utf8 boundary) in
    omega (
      arith,
      length-le-encodes (chars (take offset text)),
      ap length front,
      length-take-le offset text boundary.0,
    )

pub line_le_offset : (text : List ℕ) (cursor : Cursor) → IsUtf8 text → IsCursor text cursor
    → cursor.position.line ≤ cursor.offset
line_le_offset text cursor utf8 is =
    omega (
      arith,
      ap (λ p. p.line) is.position,
      line_of-le (chars (take cursor.offset text)),
      chars_le text cursor.offset utf8 is.boundary,
    )

pub character_le_offset : (text : List ℕ) (cursor : Cursor) → IsUtf8 text → IsCursor text cursor
    → cursor.position.character ≤ cursor.offset
character_le_offset text cursor utf8 is =
    omega (
      arith,
      ap (λ p. p.character) is.position,
      character_of-le (chars (take cursor.offset text)),
      chars_le text cursor.offset utf8 is.boundary,
    )

-- the characters before the boundary after `c`
pub chars_before_next : (text rest : List ℕ) (offset c : ℕ) → IsUtf8 text → IsCharBoundary text offset
    → drop offset text ≡ encode c ++ rest → chars (take (offset + len_utf8 c) text)
    ≡ chars (take offset text) ++ c
    ∷ []
chars_before_next text rest offset c utf8 boundary here =
    let next : IsCharBoundary text (offset + len_utf8 c) =
    IsCharBoundary-past_char text rest offset c boundary.0 (IsUtf8-drop text offset utf8 boundary) here in
    let piece : take (len_utf8 c) (drop offset text) ≡ encode c =
    ap (take (len_utf8 c)) here ∙ take-append-le (len_utf8 c) (encode c) rest (omega (arith, length-encode c))
    ∙ take_all (len_utf8 c) (encode c) (omega (arith, length-encode c)) in
    let size : offset + len_utf8 c - offset ≡ len_utf8 c = omega arith in
    let between : IsUtf8 (take (offset + len_utf8 c - offset) (drop offset text)) =
    IsUtf8-between text offset (offset + len_utf8 c) utf8 (omega arith) boundary next in
    let one : IsUtf8 (encode c) = subst IsUtf8 (ap (λ n. take n (drop offset text)) size ∙ piece) between in
    ap chars (take-add offset (len_utf8 c) text ∙ ap (λ bs. take offset text ++ bs) piece)
    ∙ chars-append (take offset text) (encode c) (IsUtf8-take text offset utf8 boundary)
    ∙ ap (λ cs. chars (take offset text)
    ++ cs) (chars_past_char (encode c) [] c one (sym (append-nil (encode c))) ∙ ap (λ cs. c ∷ cs) chars-nil)

-- the cursor one character after another
pub IsCursor-past : (text rest : List ℕ) (cursor next : Cursor) (c : ℕ) → IsUtf8 text → IsCursor text cursor
    → drop cursor.offset text ≡ encode c ++ rest → next.offset ≡ cursor.offset + len_utf8 c
    → ((front : List ℕ) → cursor.position ≡ position_of front → next.position ≡ position_of (front ++ c ∷ []))
    → IsCursor text next
IsCursor-past text rest cursor next c utf8 is here offset moves = record {
  boundary = subst (IsCharBoundary text) (sym offset)
      (IsCharBoundary-past_char text rest cursor.offset c is.boundary.0
      (IsUtf8-drop text cursor.offset utf8 is.boundary) here);
  position = moves (chars (take cursor.offset text)) is.position
      ∙ ap position_of (sym (chars_before_next text rest cursor.offset c utf8 is.boundary here))
      ∙ ap (position_at text) (sym offset);
}

-- a text that begins with the character `c` holds all its bytes
first_char_le : (cs rest more : List ℕ) (c : ℕ) → encodes cs ++ more ≡ encode c ++ rest
    → 0 < length (encodes cs) → len_utf8 c ≤ length (encodes cs)
first_char_le [] rest more c same some = absurd (omega (arith, some))
first_char_le (d ∷ ds) rest more c same some =
    let first = encode_same d c (encodes ds ++ more) rest
    (sym (append_assoc (encode d) (encodes ds) more) ∙ same) in
    omega (arith, length-encode d, ap len_utf8 first.0, length-append (encode d) (encodes ds))

-- no boundary lies inside a character
pub past_char_le : (text rest : List ℕ) (offset c n : ℕ) → IsUtf8 text → IsCharBoundary text offset
    → drop offset text ≡ encode c ++ rest → IsCharBoundary text n → offset < n → offset + len_utf8 c ≤ n
past_char_le text rest offset c n utf8 boundary here other beyond =
    let between = IsUtf8-between text offset n utf8 (omega arith) boundary other in
    let piece : encodes (chars (take (n - offset) (drop offset text)))
    ≡ take (n - offset) (drop offset text) =
    encodes-chars (take (n - offset) (drop offset text)) between in
    let same : encodes (chars (take (n - offset) (drop offset text))) ++ drop (n - offset) (drop offset
    text) ≡ encode c
    ++ rest = ap (λ bs. bs ++ drop (n - offset) (drop offset text)) piece
    ∙ take-append-drop (n - offset) (drop offset text) ∙ here in
    let size : length (encodes (chars (take (n - offset) (drop offset text)))) ≡ n - offset =
    ap length piece ∙ length-take-le (n - offset) (drop offset text)
    (omega (arith, length-drop offset text, other.0)) in
    omega (
      arith,
      first_char_le (chars (take (n - offset) (drop offset text))) rest (drop (n - offset) (drop offset text))
          c same (omega (arith, size)),
    )

-- the cursor at the start of a text
pub IsCursor-start : (text : List ℕ) (cursor : Cursor) → IsUtf8 text → cursor.offset ≡ 0
    → cursor.position ≡ position_of [] → IsCursor text cursor
IsCursor-start text cursor utf8 offset position = record {
  boundary = subst (IsCharBoundary text) (sym offset) (IsCharBoundary-start text utf8);
  position = position ∙ ap position_of (sym chars-nil) ∙ ap (position_at text) (sym offset);
}

-- a piece of a text that isn't empty has a first character
some_char : (cs piece : List ℕ) → encodes cs ≡ piece → 0 < length piece → (c : ℕ) × (more : List ℕ)
    × (cs ≡ c ∷ more)
some_char [] piece same some = absurd (omega (arith, ap length same))
some_char (c ∷ more) piece same some = (c, more, refl)

-- the characters before the later of two boundaries
pub chars_between : (text : List ℕ) (a b : ℕ) → IsUtf8 text → IsCharBoundary text a → a ≤ b
    → chars (take b text) ≡ chars (take a text) ++ chars (take (b - a) (drop a text))
chars_between text a b utf8 first order =
    let sum : b ≡ a + (b - a) = omega arith in
    let split : take b text ≡ take a text ++ take (b - a) (drop a text) =
    subst (λ n. take n text ≡ take a text ++ take (b - a) (drop a text)) (sym sum)
    (take-add a (b - a) text) in
    ap chars split ∙ chars-append (take a text) (take (b - a) (drop a text)) (IsUtf8-take text a utf8 first)

-- of two boundaries, the one with the smaller offset has the earlier position
pub before_from_lt : (text : List ℕ) (a b : ℕ) → IsUtf8 text → IsCharBoundary text a → IsCharBoundary text b
    → a < b → IsBefore (position_at text a) (position_at text b)
before_from_lt text a b utf8 first second less =
    let between : IsUtf8 (take (b - a) (drop a text)) =
    IsUtf8-between text a b utf8 (omega arith) first second in
    let size : length (take (b - a) (drop a text)) ≡ b - a =
    length-take-le (b - a) (drop a text) (omega (arith, length-drop a text, second.0)) in
    let piece = some_char (chars (take (b - a) (drop a text))) (take (b - a) (drop a text))
    (encodes-chars (take (b - a) (drop a text)) between) (omega (arith, size)) in
    let all : chars (take a text) ++ piece.0 ∷ piece.1 ≡ chars (take b text) =
    ap (λ cs. chars (take a text) ++ cs) (sym piece.2)
    ∙ sym (chars_between text a b utf8 first (omega arith)) in
    subst (λ cs. IsBefore (position_at text a) (position_of cs)) all
    (before_longer (chars (take a text)) piece.0 piece.1)

-- a position belongs to at most one boundary
pub same_boundary : (text : List ℕ) (a b : ℕ) → IsUtf8 text → IsCharBoundary text a → IsCharBoundary text b
    → position_at text a ≡ position_at text b → a ≡ b
same_boundary text a b utf8 first second same = elim (cases_lt a b) [
  | inl less ↦ absurd (IsBefore-irreflexive _
      (subst (λ p. IsBefore p (position_at text b)) same (before_from_lt text a b utf8 first second less)))
  | inr no_less ↦ elim (cases_lt b a) [
    | inl more ↦ absurd (IsBefore-irreflexive _
        (subst (IsBefore (position_at text b)) same (before_from_lt text b a utf8 second first more)))
    | inr no_more ↦ omega arith
  ]
]

-- no boundary has the position `wanted` if a search, which starts at or before it, stops at another
pub not_found : (text : List ℕ) (start cursor : Cursor) (wanted : Position) → IsUtf8 text
    → IsCursor text start
    → IsCursor text cursor → ¬ (IsBefore wanted start.position)
    → ((offset : ℕ) → start.offset ≤ offset → offset < cursor.offset → IsCharBoundary text offset
    → IsBefore (position_at text offset) wanted) → (IsBefore cursor.position wanted → cursor.offset
    ≡ length text)
    → ¬ (cursor.position ≡ wanted) → ¬ (HasPosition text wanted)
not_found text start cursor wanted utf8 first stop reaches before end other (offset, (boundary, here)) =
    elim (cases_lt offset start.offset) [
      | inl early ↦
          let less = before_from_lt text offset start.offset utf8 boundary first.boundary early in
          reaches (subst (λ p. IsBefore p start.position) here
          (subst (IsBefore (position_at text offset)) (sym first.position) less))
      | inr from ↦ elim (cases_lt offset cursor.offset) [
        | inl under ↦ IsBefore-irreflexive wanted
            (subst (λ p. IsBefore p wanted) here (before offset from under boundary))
        | inr over ↦ elim (cases_lt cursor.offset offset) [
          | inl beyond ↦
              let less = before_from_lt text cursor.offset offset utf8 stop.boundary boundary beyond in
              let at_end = end (subst (λ p. IsBefore p wanted) (sym stop.position)
              (subst (IsBefore (position_at text cursor.offset)) here less)) in
              omega (arith, at_end, boundary.0)
          | inr no_beyond ↦
              let is_it : cursor.offset ≡ offset = omega arith in
              other (stop.position ∙ ap (position_at text) is_it ∙ here)
        ]
      ]
    ]

-- positions compare as the offsets of their boundaries
pub position_cmp-position_at : (text : List ℕ) (a b : ℕ) → IsUtf8 text → IsCharBoundary text a
    → IsCharBoundary text b → position_cmp (position_at text a) (position_at text b) ≡ nat_cmp a b
position_cmp-position_at text a b utf8 first second = elim (cases_lt a b) [
  | inl less ↦ position_cmp-before _ _ (before_from_lt text a b utf8 first second less)
      ∙ nat_cmp_is a b Less less
  | inr no_less ↦ elim (cases_lt b a) [
    | inl more ↦ position_cmp-after _ _ (before_from_lt text b a utf8 second first more)
        ∙ nat_cmp_is a b Greater more
    | inr no_more ↦
        let same : a ≡ b = omega arith in
        position_cmp-same _ _ (ap (position_at text) same) ∙ nat_cmp_is a b Equal same
  ]
]

-- from a boundary on, each offset has a boundary at most three bytes before it
near_step : (text : List ℕ) (fuel a n : ℕ) → IsUtf8 text → IsCharBoundary text a → a ≤ n → n ≤ length text
    → n ≤ a + fuel → (b : ℕ) × IsCharBoundary text b × (b ≤ n) × (n < b + 4)
near_step text zero a n utf8 from order within short = (a, from, order, omega arith)
near_step text (suc fuel) a n utf8 from order within short = elim (cases_lt n (a + 4)) [
  | inl close ↦ (a, from, order, close)
  | inr far ↦
      let later = IsUtf8-drop text a utf8 from in
      let piece = some_char (chars (drop a text)) (drop a text) (encodes-chars (drop a text) later)
      (omega (arith, length-drop a text)) in
      let here : drop a text ≡ encode piece.0 ++ encodes piece.1 =
      sym (encodes-chars (drop a text) later) ∙ ap encodes piece.2 in
      let size = len_utf8_bounds piece.0 in
      let next = IsCharBoundary-past_char text (encodes piece.1) a piece.0 from.0 later here in
      near_step text fuel (a + len_utf8 piece.0) n utf8 next (omega (arith, size)) within
      (omega (arith, size))
]

-- the last boundary up to an offset is at most three bytes before it
pub near_floor : (text : List ℕ) (a n floor : ℕ) → IsUtf8 text → IsCharBoundary text a → a ≤ n
    → n ≤ length text → ((i : ℕ) → floor < i → i ≤ n → ¬ (IsCharBoundary text i)) → n < floor + 4
near_floor text a n floor utf8 from order within none =
    let near = near_step text (n - a) a n utf8 from order within (omega arith) in
    elim (cases_lt floor near.0) [
      | inl below ↦ absurd (none near.0 below near.2 near.1)
      | inr above ↦ omega (arith, near.3)
    ]

-- the cursor found from another by counting
pub IsCursor-ahead : (text : List ℕ) (cursor next : Cursor) → IsUtf8 text → IsCursor text cursor
    → IsCharBoundary text next.offset → cursor.offset ≤ next.offset
    → ((front : List ℕ) → cursor.position ≡ position_of front
    → next.position ≡ position_of (front ++ chars (take (next.offset - cursor.offset) (drop cursor.offset
    text))))
    → IsCursor text next
IsCursor-ahead text cursor next utf8 is boundary order moves = record {
  boundary = boundary;
  position = moves (chars (take cursor.offset text)) is.position
      ∙ ap position_of (sym (chars_between text cursor.offset next.offset utf8 is.boundary order));
}
