-- Positions by the bytes of a text: the line feeds, and the first bytes of characters since the last.
use Rattle.std.proofs.Common.{◌≡◌, ◌≢◌, ℕ, zero, suc, ◌+◌, ◌-◌, ◌/◌, ◌<◌, ◌≤◌, inl, inr, Bool, true, false}
use Rattle.std.proofs.Common.{cond, ◌==◌, List, [], ◌∷◌, ◌++◌, length, take, drop, count_by, slice_index}
use Rattle.std.proofs.Common.{refl, sym, ap, ◌∙◌, arith, max, drop-cons, append_assoc, length-drop, ltb}
use Rattle.std.proofs.lemmas.Bool.{cases_Bool, cases_lt}
use Rattle.std.proofs.lemmas.Bool.Decides.{nat_tests}
use Rattle.std.proofs.lemmas.List.{append-nil, take-append-drop, get_or-drop}
use Rattle.std.proofs.lemmas.List.Sums.{sum_by-cons}
use Rattle.std.proofs.lemmas.Str.{encode_ascii, encodes-chars}
use Rattle.std.specs.Cmp.{nat_cmp_is}
use Rattle.std.specs.Fmt.{is_char_start}
use Rattle.std.specs.Ordering.{nat_cmp, ord_max, is_lt}
use Rattle.std.specs.declared.cmp.Ordering.TheVariants.{Less, Equal, Greater}
use Rattle.std.specs.Str.{IsUtf8, chars}
use lib.Utf8.{encode, encodes, next}
use Rattle.deno_graph_base.specs.declared.text.position.Position.{Position}
use Rattle.deno_graph_base.specs.Position.{position_of}
use Rattle.deno_graph_base.proofs.PositionLemmas.{position_of-line_feed, position_of-other, same_position}

abbrev at : ℕ → ℕ → Position
at line character = record { line = line; character = character }

-- the position after one more byte
abbrev byte_step : Position → ℕ → Position
byte_step p b = cond (b == 10) (at (p.line + 1) 0) (at p.line (p.character + cond (is_char_start b) 1 0))

-- the position after some more bytes
abbrev after_bytes : Position → List ℕ → Position
after_bytes p [] = p
after_bytes p (b ∷ bs) = after_bytes (byte_step p b) bs

after_bytes-append : (p : Position) (xs ys : List ℕ)
    → after_bytes p (xs ++ ys) ≡ after_bytes (after_bytes p xs) ys
after_bytes-append p [] ys = refl
after_bytes-append p (x ∷ xs) ys = after_bytes-append (byte_step p x) xs ys

step-start : (p : Position) (b : ℕ) → (b == 10) ≡ false → is_char_start b ≡ true
    → byte_step p b ≡ at p.line (p.character + 1)
step-start p b other start =
    ap (λ t. cond t (at (p.line + 1) 0) (at p.line (p.character + cond (is_char_start b) 1 0))) other
    ∙ ap (λ t. at p.line (p.character + cond t 1 0)) start

step-inner : (p : Position) (b : ℕ) → 128 ≤ b → b < 192 → byte_step p b ≡ p
step-inner p b from to =
    let other : (b == 10) ≡ false = grind (arith, nat_tests) in
    let inner : is_char_start b ≡ false = grind (arith, nat_tests) in
    ap (λ t. cond t (at (p.line + 1) 0) (at p.line (p.character + cond (is_char_start b) 1 0))) other
    ∙ ap (λ t. at p.line (p.character + cond t 1 0)) inner
    ∙ same_position (at p.line (p.character + 0)) p refl (omega arith)

-- the first byte of a character of several bytes
step-lead : (p : Position) (b : ℕ) → 192 ≤ b → byte_step p b ≡ at p.line (p.character + 1)
step-lead p b from = step-start p b (grind (arith, nat_tests)) (grind (arith, nat_tests))

inner_from : (x : ℕ) → 128 ≤ next x
inner_from x = omega arith

inner_to : (x : ℕ) → next x < 192
inner_to x = omega arith

-- the bytes of a character after its first
step-next : (p : Position) (x : ℕ) → byte_step p (next x) ≡ p
step-next p x = step-inner p (next x) (inner_from x) (inner_to x)

two : (p : Position) (b x : ℕ) → 192 ≤ b → after_bytes p (b ∷ next x ∷ []) ≡ at p.line (p.character + 1)
two p b x lead = step-next (byte_step p b) x ∙ step-lead p b lead

three : (p : Position) (b x y : ℕ) → 192 ≤ b
    → after_bytes p (b ∷ next x ∷ next y ∷ []) ≡ at p.line (p.character + 1)
three p b x y lead = step-next (byte_step (byte_step p b) (next x)) y ∙ two p b x lead

four : (p : Position) (b x y z : ℕ) → 192 ≤ b
    → after_bytes p (b ∷ next x ∷ next y ∷ next z ∷ []) ≡ at p.line (p.character + 1)
four p b x y z lead =
    step-next (byte_step (byte_step (byte_step p b) (next x)) (next y)) z ∙ three p b x y lead

encode-two : (c : ℕ) → ltb c 128 ≡ false → ltb c 2048 ≡ true → encode c ≡ (192 + c / 64) ∷ next c ∷ []
unfolding encode
encode-two c a b = rw (a, b)

encode-three : (c : ℕ) → ltb c 128 ≡ false → ltb c 2048 ≡ false → ltb c 65536 ≡ true
    → encode c ≡ (224 + c / 4096) ∷ next (c / 64) ∷ next c ∷ []
unfolding encode
encode-three c a b d = rw (a, b, d)

encode-four : (c : ℕ) → ltb c 128 ≡ false → ltb c 2048 ≡ false → ltb c 65536 ≡ false
    → encode c ≡ (240 + c / 262144) ∷ next (c / 4096) ∷ next (c / 64) ∷ next c ∷ []
unfolding encode
encode-four c a b d = rw (a, b, d)

-- a character of several bytes
wide : (p : Position) (c : ℕ) → ltb c 128 ≡ false → after_bytes p (encode c) ≡ at p.line (p.character + 1)
wide p c a = elim (cases_Bool (ltb c 2048)) [
  | inl b ↦ ap (after_bytes p) (encode-two c a b) ∙ two p (192 + c / 64) c (omega arith)
  | inr b ↦ elim (cases_Bool (ltb c 65536)) [
    | inl d ↦ ap (after_bytes p) (encode-three c a b d) ∙ three p (224 + c / 4096) (c / 64) c (omega arith)
    | inr d ↦ ap (after_bytes p) (encode-four c a b d)
        ∙ four p (240 + c / 262144) (c / 4096) (c / 64) c (omega arith)
  ]
]

-- the position after the bytes of a character is the position after the character
one_char : (front : List ℕ) (c : ℕ)
    → after_bytes (position_of front) (encode c) ≡ position_of (front ++ c ∷ [])
one_char front c = elim (cases_Bool (c == 10)) [
  | inl feed ↦
      let low : c < 128 = grind (arith, nat_tests) in
      ap (after_bytes (position_of front)) (encode_ascii c low)
      ∙ ap (λ t. cond t (at ((position_of front).line + 1) 0)
      (at (position_of front).line ((position_of front).character + cond (is_char_start c) 1 0))) feed
      ∙ sym (position_of-line_feed front c feed)
  | inr other ↦ elim (cases_Bool (ltb c 128)) [
    | inl low ↦
        let start : is_char_start c ≡ true = grind (arith, nat_tests) in
        ap (after_bytes (position_of front)) (encode_ascii c (grind (arith, nat_tests)))
        ∙ step-start (position_of front) c other start ∙ sym (position_of-other front c other)
    | inr high ↦ wide (position_of front) c high ∙ sym (position_of-other front c other)
  ]
]

all_chars : (front cs : List ℕ) → after_bytes (position_of front) (encodes cs) ≡ position_of (front ++ cs)
all_chars front [] = ap position_of (sym (append-nil front))
all_chars front (c ∷ cs) =
    after_bytes-append (position_of front) (encode c) (encodes cs)
    ∙ ap (λ p. after_bytes p (encodes cs)) (one_char front c) ∙ all_chars (front ++ c ∷ []) cs
    ∙ ap position_of (append_assoc front (c ∷ []) cs)

-- the position after a text is the position after its bytes
after_text : (front text : List ℕ) → IsUtf8 text
    → after_bytes (position_of front) text ≡ position_of (front ++ chars text)
after_text front text utf8 =
    ap (after_bytes (position_of front)) (sym (encodes-chars text utf8)) ∙ all_chars front (chars text)

abbrev feeds : List ℕ → ℕ
feeds bs = count_by (λ b. b == 10) bs

step_line : (p : Position) (b : ℕ) → (byte_step p b).line ≡ p.line + cond (b == 10) 1 0
step_line p b = by_test (b == 10)
  where
    by_test : (is : Bool)
        → (cond is (at (p.line + 1) 0) (at p.line
        (p.character + cond (is_char_start b) 1 0))).line ≡ p.line + cond is 1 0
    by_test true = refl
    by_test false = omega arith

-- each line feed is one more line
line_of_bytes : (p : Position) (bs : List ℕ) → (after_bytes p bs).line ≡ p.line + feeds bs
line_of_bytes p [] = omega arith
line_of_bytes p (b ∷ bs) =
    omega (arith, line_of_bytes (byte_step p b) bs, step_line p b, sum_by-cons (λ b. cond (b == 10) 1 0) b bs)

no_feed_first : (b : ℕ) (bs : List ℕ) → feeds (b ∷ bs) ≡ 0 → (b == 10) ≡ false
no_feed_first b bs none = by_test (b == 10) (sym (sum_by-cons (λ b. cond (b == 10) 1 0) b bs) ∙ none)
  where
    by_test : (is : Bool) → cond is 1 0 + feeds bs ≡ 0 → is ≡ false
    by_test true none = absurd (omega arith)
    by_test false none = refl

-- without line feeds each first byte of a character is one more character of the line
character_of_bytes : (p : Position) (bs : List ℕ) → feeds bs ≡ 0
    → (after_bytes p bs).character ≡ p.character + count_by is_char_start bs
character_of_bytes p [] none = omega arith
character_of_bytes p (b ∷ bs) none =
    let other = no_feed_first b bs none in
    let here : byte_step p b ≡ at p.line (p.character + cond (is_char_start b) 1 0) =
    ap (λ t. cond t (at (p.line + 1) 0) (at p.line (p.character + cond (is_char_start b) 1 0))) other in
    omega (
      arith,
      character_of_bytes (byte_step p b) bs
          (omega (arith, none, sum_by-cons (λ b. cond (b == 10) 1 0) b bs)),
      ap (λ q. q.character) here,
      sum_by-cons
          (λ b. cond (is_char_start b) 1 0) b bs,
    )

-- no byte is a line feed
no_feeds : (bs : List ℕ) → ((k : ℕ) → k < length bs → slice_index bs k ≢ 10) → feeds bs ≡ 0
no_feeds [] none = refl
no_feeds (b ∷ bs) none =
    let other : (b == 10) ≡ false = grind (arith, nat_tests, none 0) in
    let here : ◌≡◌ {A = ℕ} (cond (b == 10) 1 0) 0 = ap (λ t. cond t 1 0) other in
    omega (
      arith,
      here,
      sum_by-cons (λ b. cond (b == 10) 1 0) b bs,
      no_feeds bs (λ k within. none (suc k) (omega (arith, within))),
    )

-- bytes with line feeds have a prefix that ends after the last of them
pub some_feed : (bs : List ℕ) (end : ℕ) → ((k : ℕ) → end ≤ k → k < length bs → slice_index bs k ≢ 10)
    → 0 < feeds bs → 0 < end
some_feed bs zero later some =
    absurd (omega (arith, no_feeds bs (λ k within. later k (omega arith) within)))
some_feed bs (suc end) later some = omega arith

-- the position after a text without a line feed
pub one_line : (front text : List ℕ) (self result : Position) → IsUtf8 text → self ≡ position_of front
    → feeds text ≡ 0 → result.line ≡ self.line
    → result.character ≡ self.character + count_by is_char_start text
    → result ≡ position_of (front ++ chars text)
one_line front text self result utf8 is none line character =
    same_position result (after_bytes self text) (omega (arith, line, line_of_bytes self text, none))
    (omega (arith, character, character_of_bytes self text none)) ∙ ap (λ p. after_bytes p text) is
    ∙ after_text front text utf8

-- the position after a text whose last line starts at `start`
pub last_line : (front text : List ℕ) (self result : Position) (start : ℕ) → IsUtf8 text
    → self ≡ position_of front → 0 < start → start ≤ length text → slice_index text (start - 1) ≡ 10
    → ((k : ℕ) → start ≤ k → k < length text → slice_index text k ≢ 10) → result.line ≡ self.line + feeds text
    → result.character ≡ count_by is_char_start (drop start text) → result ≡ position_of (front ++ chars text)
last_line front text self result start utf8 is some within feed none line character =
    let no : feeds (drop start text) ≡ 0 =
    no_feeds (drop start text) (λ k below same. none (start + k) (omega arith)
    (omega (arith, below, length-drop start text)) (sym (get_or-drop start text k 0) ∙ same)) in
    let next_is : suc (start - 1) ≡ start = omega arith in
    let rest : drop (start - 1) text ≡ 10 ∷ drop start text =
    drop-cons text (start - 1) 0 (omega arith) ∙ ap (λ b. b ∷ drop (suc (start - 1)) text) feed
    ∙ ap (λ n. 10 ∷ drop n text) next_is in
    let split : text ≡ take (start - 1) text ++ 10 ∷ drop start text =
    sym (take-append-drop (start - 1) text) ∙ ap (λ bs. take (start - 1) text ++ bs) rest in
    let before = after_bytes self (take (start - 1) text) in
    let later : (after_bytes self text).character ≡ 0 + count_by is_char_start (drop start text) =
    ap (λ bs. (after_bytes self bs).character) split
    ∙ ap (λ p. p.character) (after_bytes-append self (take (start - 1) text) (10 ∷ drop start text))
    ∙ character_of_bytes (at (before.line + 1) 0) (drop start text) no in
    same_position result (after_bytes self text) (omega (arith, line, line_of_bytes self text))
    (omega (arith, character, later)) ∙ ap (λ p. after_bytes p text) is ∙ after_text front text utf8

-- the value of `max`
pub ord_max-nat : (a b : ℕ) → ord_max nat_cmp a b ≡ max a b
ord_max-nat a b = elim (cases_lt b a) [
  | inl less ↦
      let first : a ≡ max a b = omega arith in
      ap (λ o. cond (is_lt o) a b) (sym (nat_cmp_is b a Less less)) ∙ first
  | inr no_less ↦
      let second : b ≡ max a b = omega arith in
      elim (cases_lt a b) [
        | inl more ↦ ap (λ o. cond (is_lt o) a b) (sym (nat_cmp_is b a Greater more)) ∙ second
        | inr no_more ↦
            let same : b ≡ a = omega arith in
            ap (λ o. cond (is_lt o) a b) (sym (nat_cmp_is b a Equal same)) ∙ second
      ]
]
