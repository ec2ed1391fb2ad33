-- Sums of the sizes of UTF-16 units.
use Rattle.std.proofs.Common.{◌≡◌, ℕ, zero, suc, ◌+◌, ◌-◌, ◌*◌, ◌/◌, ◌<◌, ◌≤◌, Bool, true, false, cond, inl}
use Rattle.std.proofs.Common.{inr, List, [], ◌∷◌, ◌++◌, length, take, get_or, sum, refl, sym, ap, subst, ◌∙◌}
use Rattle.std.proofs.Common.{arith, ltb, length-append}
use Rattle.std.proofs.lemmas.Bool.{cases_Bool, cases_lt, lt-ltb, le-ltb, le-leb, lt-leb, ltb-true}
use Rattle.std.proofs.lemmas.Bool.Decides.{nat_tests}
use Rattle.std.proofs.lemmas.Grind.{flat_map-append}
use Rattle.std.proofs.lemmas.List.{append-nil, get_or-append-add, get_or-append_right, get_or_append_left}
use Rattle.std.proofs.lemmas.List.{take-append-le, take_all, take_at, take_more}
use Rattle.std.proofs.lemmas.List.Sums.{sum_by-append, sum_by-cons}
use Rattle.std.proofs.lemmas.Str.{encode_ascii}
use Rattle.std.specs.Str.{IsUtf8}
use lib.Utf8.{encode, encodes, next}
use Rattle.modinfo_estree.specs.Offsets.{byte_offset, offset_in, unit_sizes, units_at}
use Rattle.modinfo_estree.specs.declared.offsets.OffsetUnit.{OffsetUnit}
use Rattle.modinfo_estree.specs.declared.offsets.OffsetUnit.TheVariants.{Utf16, Utf8}
use Rattle.modinfo_estree.specs.internal.Offsets.{AreByteOffsets, HaveBytes, bytes_of_units, unit_size}
use Rattle.modinfo_estree.proofs.Tables.{size_of_table, value_by_index}

sum-cons : (n : ℕ) (ns : List ℕ) → sum (n ∷ ns) ≡ n + sum ns
sum-cons n ns = sum_by-cons (λ x. x) n ns

pub sum-append : (xs ys : List ℕ) → sum (xs ++ ys) ≡ sum xs + sum ys
sum-append xs ys = sum_by-append (λ x. x) xs ys

pub unit_sizes-append : (xs ys : List ℕ) → unit_sizes (xs ++ ys) ≡ unit_sizes xs ++ unit_sizes ys
unit_sizes-append xs ys = flat_map-append units_at xs ys

-- ---- The units of a character

ascii_units : (b : ℕ) → b < 128 → units_at b ≡ 1 ∷ []
ascii_units b low = let e = lt-ltb b 128 low in rw e

inner_units : (b : ℕ) → 128 ≤ b → b < 192 → units_at b ≡ []
inner_units b from to = let e = le-ltb b 128 from in let f = lt-ltb b 192 to in rw (e, f)

two_units : (b : ℕ) → 192 ≤ b → b < 224 → units_at b ≡ 2 ∷ []
two_units b from to =
    let e = le-ltb b 128 (omega arith) in let f = le-ltb b 192 from in let g = lt-ltb b 224 to in rw (e, f, g)

three_units : (b : ℕ) → 224 ≤ b → b < 240 → units_at b ≡ 3 ∷ []
three_units b from to =
    let e = le-ltb b 128 (omega arith) in
    let f = le-ltb b 192 (omega arith) in
    let g = le-ltb b 224 from in
    let h = lt-ltb b 240 to in
    rw (e, f, g, h)

four_units : (b : ℕ) → 240 ≤ b → units_at b ≡ 2 ∷ 2 ∷ []
four_units b from =
    let e = le-ltb b 128 (omega arith) in
    let f = le-ltb b 192 (omega arith) in
    let g = le-ltb b 224 (omega arith) in
    let h = le-ltb b 240 from in
    rw (e, f, g, h)

next_units : (x : ℕ) → units_at (next x) ≡ []
next_units x = inner_units (next x) (omega arith) (omega arith)

encode-two : (c : ℕ) → ltb c 128 ≡ false → ltb c 2048 ≡ true → encode c ≡ (192 + c / 64) ∷ next c ∷ []
unfolding encode
encode-two c a b = rw (a, b)

encode-three : (c : ℕ) → ltb c 128 ≡ false → ltb c 2048 ≡ false → ltb c 65536 ≡ true
    → encode c ≡ (224 + c / 4096) ∷ next (c / 64) ∷ next c ∷ []
unfolding encode
encode-three c a b d = rw (a, b, d)

encode-four : (c : ℕ) → ltb c 128 ≡ false → ltb c 2048 ≡ false → ltb c 65536 ≡ false
    → encode c ≡ (240 + c / 262144) ∷ next (c / 4096) ∷ next (c / 64) ∷ next c ∷ []
unfolding encode
encode-four c a b d = rw (a, b, d)

-- The units of a first byte, and of bytes after it.
led : (b : ℕ) (bs us : List ℕ) → units_at b ≡ us → unit_sizes bs ≡ [] → unit_sizes (b ∷ bs) ≡ us
led b bs us first others = ap (λ l. l ++ unit_sizes bs) first ∙ ap (λ l. us ++ l) others ∙ append-nil us

inner_none : (x : ℕ) (bs : List ℕ) → unit_sizes bs ≡ [] → unit_sizes (next x ∷ bs) ≡ []
inner_none x bs others = led (next x) bs [] (next_units x) others

-- The units of a character are as many bytes as the character.
sum_char : (c : ℕ) → sum (unit_sizes (encode c)) ≡ length (encode c)
sum_char c = elim (cases_Bool (ltb c 128)) [
  | inl a ↦
      let is = encode_ascii c (grind (arith, nat_tests)) in
      ap (λ bs. sum (unit_sizes bs)) is
      ∙ ap sum (led c [] (1 ∷ []) (ascii_units c (grind (arith, nat_tests))) refl) ∙ sym (ap length is)
  | inr a ↦ elim (cases_Bool (ltb c 2048)) [
    | inl b ↦
        let is = encode-two c a b in
        let small : 192 + c / 64 < 224 = omega (arith, ltb-true c 2048 b) in
        ap (λ bs. sum (unit_sizes bs)) is
        ∙ ap sum (led (192 + c / 64) (next c ∷ []) (2 ∷ []) (two_units (192 + c / 64) (omega arith) small)
        (inner_none c [] refl)) ∙ sym (ap length is)
    | inr b ↦ elim (cases_Bool (ltb c 65536)) [
      | inl d ↦
          let is = encode-three c a b d in
          let small : 224 + c / 4096 < 240 = omega (arith, ltb-true c 65536 d) in
          ap (λ bs. sum (unit_sizes bs)) is
          ∙ ap sum (led (224 + c / 4096) (next (c / 64) ∷ next c ∷ []) (3 ∷ [])
          (three_units (224 + c / 4096) (omega arith) small)
          (inner_none (c / 64) (next c ∷ []) (inner_none c [] refl)))
          ∙ sym (ap length is)
      | inr d ↦
          let is = encode-four c a b d in
          ap (λ bs. sum (unit_sizes bs)) is
          ∙ ap sum (led (240 + c / 262144) (next (c / 4096) ∷ next (c / 64) ∷ next c ∷ []) (2 ∷ 2 ∷ [])
          (four_units (240 + c / 262144) (omega arith))
          (inner_none (c / 4096) (next (c / 64) ∷ next c ∷ [])
          (inner_none (c / 64) (next c ∷ []) (inner_none c [] refl)))) ∙ sym (ap length is)
    ]
  ]
]

sum_chars : (cs : List ℕ) → sum (unit_sizes (encodes cs)) ≡ length (encodes cs)
sum_chars [] = refl
sum_chars (c ∷ cs) =
    ap sum (unit_sizes-append (encode c) (encodes cs))
    ∙ omega (
      arith,
      sum-append (unit_sizes (encode c)) (unit_sizes (encodes cs)),
      sum_char c,
      sum_chars cs,
      length-append
          (encode c) (encodes cs),
    )

-- The units of a text are as many bytes as the text.
pub sum_units : (text : List ℕ) → IsUtf8 text → sum (unit_sizes text) ≡ length text
sum_units text utf8 =
    ap (λ bs. sum (unit_sizes bs)) (sym utf8.1.1) ∙ sum_chars utf8.0 ∙ ap length utf8.1.1

-- ---- No unit is empty

abbrev ArePositive : List ℕ → Type 0
ArePositive [] = Unit {0}
ArePositive (n ∷ ns) = (0 < n) × ArePositive ns

ArePositive-append : (xs ys : List ℕ) → ArePositive xs → ArePositive ys → ArePositive (xs ++ ys)
ArePositive-append [] ys first others = others
ArePositive-append (x ∷ xs) ys first others = (first.0, ArePositive-append xs ys first.1 others)

by_tests : (a b c d : Bool)
    → ArePositive (cond a (1 ∷ []) (cond b [] (cond c (2 ∷ []) (cond d (3 ∷ []) (2 ∷ 2 ∷ [])))))
by_tests true b c d = (omega arith, tt)
by_tests false true c d = tt
by_tests false false true d = (omega arith, tt)
by_tests false false false true = (omega arith, tt)
by_tests false false false false = (omega arith, (omega arith, tt))

positive : (text : List ℕ) → ArePositive (unit_sizes text)
positive [] = tt
positive (b ∷ text) =
    ArePositive-append (units_at b) (unit_sizes text)
    (by_tests (ltb b 128) (ltb b 192) (ltb b 224) (ltb b 240)) (positive text)

sums_ascend : (ns : List ℕ) (a b : ℕ) → ArePositive ns → a < b → b ≤ length ns
    → sum (take a ns) < sum (take b ns)
sums_ascend [] a b all less within = absurd (omega arith)
sums_ascend (n ∷ ns) a zero all less within = absurd (omega arith)
sums_ascend (n ∷ ns) zero (suc b) all less within = omega (arith, all.0, sum-cons n (take b ns))
sums_ascend (n ∷ ns) (suc a) (suc b) all less within =
    omega (
      arith,
      sums_ascend ns a b all.1 (omega arith) (omega arith),
      sum-cons n (take a ns),
      sum-cons n (take b ns),
    )

-- ---- Offsets in bytes

pub offset_inside : (text : List ℕ) (units : ℕ) → units ≤ length (unit_sizes text)
    → byte_offset text units ≡ sum (take units (unit_sizes text))
unfolding byte_offset
offset_inside text units within = let e = le-leb units (length (unit_sizes text)) within in rw e

pub offset_after : (text : List ℕ) (units : ℕ) → length (unit_sizes text) < units
    → byte_offset text units ≡ length text + 1
unfolding byte_offset
offset_after text units after = let e = lt-leb units (length (unit_sizes text)) after in rw e

pub offsets_ascend : (text : List ℕ) (first second : ℕ) → first < second
    → second ≤ length (unit_sizes text) → byte_offset text first < byte_offset text second
offsets_ascend text first second less within =
    omega (
      arith,
      offset_inside text first (omega arith),
      offset_inside text second within,
      sums_ascend (unit_sizes text) first second (positive text) less within,
    )

pub boundary_counted : (front rest : List ℕ) → IsUtf8 front
    → byte_offset (front ++ rest) (length (unit_sizes front)) ≡ length front
boundary_counted front rest utf8 =
    let joined = unit_sizes-append front rest in
    let within : length (unit_sizes front) ≤ length (unit_sizes (front ++ rest)) =
    omega (arith, ap length joined, length-append (unit_sizes front) (unit_sizes rest)) in
    offset_inside (front ++ rest) (length (unit_sizes front)) within
    ∙ ap (λ us. sum (take (length (unit_sizes front)) us)) joined
    ∙ ap sum (take_at (unit_sizes front) (unit_sizes rest) (length (unit_sizes front)) refl)
    ∙ sum_units front utf8

-- ---- The unit at a byte

size_one : (b : ℕ) → b < 128 → unit_size b ≡ 1
size_one b low = let e = lt-ltb b 128 low in rw e

size_low : (b : ℕ) → 128 ≤ b → b < 224 → unit_size b ≡ 2
size_low b from to = let e = le-ltb b 128 from in let f = lt-ltb b 224 to in rw (e, f)

size_three : (b : ℕ) → 224 ≤ b → b < 240 → unit_size b ≡ 3
size_three b from to =
    let e = le-ltb b 128 (omega arith) in let f = le-ltb b 224 from in let g = lt-ltb b 240 to in rw (e, f, g)

size_high : (b : ℕ) → 240 ≤ b → unit_size b ≡ 2
size_high b from =
    let e = le-ltb b 128 (omega arith) in
    let f = le-ltb b 224 (omega arith) in
    let g = le-ltb b 240 from in
    rw (e, f, g)

-- Each unit has the size that its first byte tells.
abbrev AreTold : List ℕ → Type 0
AreTold bytes = (n : ℕ) → n < length (unit_sizes bytes)
    → get_or (unit_sizes bytes) n 0 ≡ unit_size (get_or bytes (sum (take n (unit_sizes bytes))) 0)

lone_told : (b u : ℕ) (bs us : List ℕ) → us ≡ u ∷ [] → unit_size b ≡ u → (n : ℕ) → n < length us
    → get_or us n 0 ≡ unit_size (get_or (b ∷ bs) (sum (take n us)) 0)
lone_told b u bs us is size zero within = ap (λ l. get_or l 0 0) is ∙ sym size
lone_told b u bs us is size (suc n) within = absurd (omega (arith, ap length is))

pair_told : (b x y z : ℕ) (us : List ℕ) → us ≡ 2 ∷ 2 ∷ [] → unit_size b ≡ 2 → unit_size y ≡ 2 → (n : ℕ)
    → n < length us → get_or us n 0 ≡ unit_size (get_or (b ∷ x ∷ y ∷ z ∷ []) (sum (take n us)) 0)
pair_told b x y z us is first second zero within = ap (λ l. get_or l 0 0) is ∙ sym first
pair_told b x y z us is first second (suc zero) within =
    ap (λ l. get_or l 1 0) is ∙ sym second
    ∙ ap (λ l. unit_size (get_or (b ∷ x ∷ y ∷ z ∷ []) (sum (take 1 l)) 0)) (sym is)
pair_told b x y z us is first second (suc (suc n)) within = absurd (omega (arith, ap length is))

char_told : (c : ℕ) → AreTold (encode c)
char_told c = elim (cases_Bool (ltb c 128)) [
  | inl a ↦
      let low : c < 128 = ltb-true c 128 a in
      subst AreTold (sym (encode_ascii c low))
      (lone_told c 1 [] (unit_sizes (c ∷ [])) (led c [] (1 ∷ []) (ascii_units c low) refl) (size_one c low))
  | inr a ↦ elim (cases_Bool (ltb c 2048)) [
    | inl b ↦
        let small : 192 + c / 64 < 224 = omega (arith, ltb-true c 2048 b) in
        let bs = next c ∷ [] in
        subst AreTold (sym (encode-two c a b))
        (lone_told (192 + c / 64) 2 bs (unit_sizes ((192 + c / 64) ∷ bs))
        (led (192 + c / 64) bs (2 ∷ []) (two_units (192 + c / 64) (omega arith) small) (inner_none c [] refl))
        (size_low (192 + c / 64) (omega arith) small))
    | inr b ↦ elim (cases_Bool (ltb c 65536)) [
      | inl d ↦
          let small : 224 + c / 4096 < 240 = omega (arith, ltb-true c 65536 d) in
          let bs = next (c / 64) ∷ next c ∷ [] in
          subst AreTold (sym (encode-three c a b d))
          (lone_told (224 + c / 4096) 3 bs (unit_sizes ((224 + c / 4096) ∷ bs))
          (led (224 + c / 4096) bs (3 ∷ []) (three_units (224 + c / 4096) (omega arith) small)
          (inner_none (c / 64) (next c ∷ []) (inner_none c [] refl)))
          (size_three (224 + c / 4096) (omega arith) small))
      | inr d ↦
          let high : 240 ≤ 240 + c / 262144 = omega arith in
          let bs = next (c / 4096) ∷ next (c / 64) ∷ next c ∷ [] in
          subst AreTold (sym (encode-four c a b d))
          (pair_told (240 + c / 262144) (next (c / 4096)) (next (c / 64)) (next c)
          (unit_sizes ((240 + c / 262144) ∷ bs))
          (led (240 + c / 262144) bs (2 ∷ 2 ∷ []) (four_units (240 + c / 262144) high)
          (inner_none (c / 4096) (next (c / 64) ∷ next c ∷ [])
          (inner_none (c / 64) (next c ∷ []) (inner_none c [] refl))))
          (size_high (240 + c / 262144) high)
          (size_low (next (c / 64)) (omega arith) (omega arith)))
    ]
  ]
]

sum_past : (us vs : List ℕ) (n : ℕ) → length us ≤ n
    → sum (take n (us ++ vs)) ≡ sum us + sum (take (n - length us) vs)
sum_past [] vs n past =
    let all : n ≡ n - 0 = omega arith in
    ap (λ k. sum (take k vs)) all ∙ omega arith
sum_past (u ∷ us) vs zero past = absurd (omega arith)
sum_past (u ∷ us) vs (suc n) past =
    let rest : n - length us ≡ suc n - suc (length us) = omega arith in
    omega (
      arith,
      sum-cons u (take n (us ++ vs)),
      sum-cons u us,
      sum_past us vs n (omega arith),
      ap (λ k. sum (take k vs)) rest,
    )

told-append : (xs ys : List ℕ) → sum (unit_sizes xs) ≡ length xs → AreTold xs → AreTold ys
    → AreTold (xs ++ ys)
told-append xs ys size first others n within =
    let us = unit_sizes xs in
    let vs = unit_sizes ys in
    let joined : unit_sizes (xs ++ ys) ≡ us ++ vs = unit_sizes-append xs ys in
    let told = λ (l : List ℕ) (k : ℕ). unit_size (get_or l k 0) in
    ap (λ l. get_or l n 0) joined
    ∙ elim (cases_lt n (length us)) [
      | inl inside ↦
          let at = sum (take n us) in
          let room : at < length xs =
          omega (
            arith,
            size,
            sums_ascend us n (length us) (positive xs) inside (omega arith),
            ap sum (take_all (length us) us (omega arith)),
          ) in
          get_or_append_left us vs 0 n inside ∙ first n inside
          ∙ ap unit_size (sym (get_or_append_left xs ys 0 at room))
          ∙ ap (λ l. told (xs ++ ys) (sum l)) (sym (take-append-le n us vs (omega arith)))
          ∙ ap (λ l. told (xs ++ ys) (sum (take n l))) (sym joined)
      | inr outside ↦
          let m = n - length us in
          let at = sum (take m vs) in
          let below : m < length vs =
          omega (arith, ap length joined, length-append us vs) in
          let place : length xs + at ≡ sum (take n (us ++ vs)) =
          omega (arith, size, sum_past us vs n outside) in
          get_or-append_right us vs (length us) n 0 refl outside ∙ others m below
          ∙ ap unit_size (sym (get_or-append-add xs ys at 0))
          ∙ ap (told (xs ++ ys)) place
          ∙ ap (λ l. told (xs ++ ys) (sum (take n l))) (sym joined)
    ]

told_chars : (cs : List ℕ) → AreTold (encodes cs)
told_chars [] = λ n within. absurd (omega arith)
told_chars (c ∷ cs) = told-append (encode c) (encodes cs) (sum_char c) (char_told c) (told_chars cs)

told : (text : List ℕ) → IsUtf8 text → AreTold text
told text utf8 = subst AreTold utf8.1.1 (told_chars utf8.0)

-- ---- Units and their bytes

pub no_units : (sizes : List ℕ) → HaveBytes sizes 0 0
no_units sizes = record { within = omega arith; bytes_are = refl }

pub same_units : (sizes : List ℕ) (units others bytes same : ℕ) → units ≡ others → bytes ≡ same
    → HaveBytes sizes units bytes → HaveBytes sizes others same
same_units sizes units others bytes same first second have = record {
  within = omega (arith, have.within);
  bytes_are = sym second ∙ have.bytes_are ∙ ap (bytes_of_units sizes) first;
}

-- Units that are not all have fewer bytes than the text.
bytes_left : (text : List ℕ) (units bytes : ℕ) → IsUtf8 text → HaveBytes (unit_sizes text) units bytes
    → units < length (unit_sizes text) → bytes < length text
bytes_left text units bytes utf8 have less =
    let sizes = unit_sizes text in
    omega (
      arith,
      have.bytes_are,
      sums_ascend sizes units (length sizes) (positive text) less (omega arith),
      ap sum (take_all (length sizes) sizes (omega arith)),
      sum_units text utf8,
    )

-- All units have the bytes of the text.
no_bytes_left : (text : List ℕ) (units bytes : ℕ) → IsUtf8 text → HaveBytes (unit_sizes text) units bytes
    → length (unit_sizes text) ≤ units → bytes ≡ length text
no_bytes_left text units bytes utf8 have all =
    have.bytes_are ∙ ap sum (take_all units (unit_sizes text) all) ∙ sum_units text utf8

pub bytes_within : (text : List ℕ) (units bytes : ℕ) → IsUtf8 text → HaveBytes (unit_sizes text) units bytes
    → bytes ≤ length text
bytes_within text units bytes utf8 have =
    elim (cases_lt units (length (unit_sizes text))) [
      | inl less ↦ omega (arith, bytes_left text units bytes utf8 have less)
      | inr all ↦ omega (arith, no_bytes_left text units bytes utf8 have all)
    ]

next_sum : (sizes : List ℕ) (units bytes size : ℕ) → units < length sizes → bytes ≡ sum (take units sizes)
    → get_or sizes units 0 ≡ size → bytes + size ≡ sum (take (units + 1) sizes)
next_sum sizes units bytes size within so_far is =
    omega (
      arith,
      so_far,
      is,
      ap sum (take_more sizes units 0 within),
      sum-append (take units sizes) (get_or sizes units 0 ∷ []),
      sum-cons (get_or sizes units 0) [],
    )

-- One unit more.
pub next_unit : (text : List ℕ) (units bytes : ℕ) → IsUtf8 text → HaveBytes (unit_sizes text) units bytes
    → bytes < length text
    → HaveBytes (unit_sizes text) (units + 1) (bytes + unit_size (get_or text bytes 0))
next_unit text units bytes utf8 have within =
    let sizes = unit_sizes text in
    let inside : units < length sizes =
    elim (cases_lt units (length sizes)) [
      | inl less ↦ less
      | inr all ↦ absurd (omega (arith, no_bytes_left text units bytes utf8 have all))
    ] in
    record {
      within = omega arith;
      bytes_are = next_sum sizes units bytes (unit_size (get_or text bytes 0)) inside have.bytes_are
          (told text utf8 units inside ∙ ap (λ n. unit_size (get_or text n 0)) (sym have.bytes_are));
    }

-- The units that have the bytes of the text are all.
pub all_units : (text : List ℕ) (units bytes : ℕ) → IsUtf8 text → HaveBytes (unit_sizes text) units bytes
    → length text ≤ bytes → units ≡ length (unit_sizes text)
all_units text units bytes utf8 have past =
    elim (cases_lt units (length (unit_sizes text))) [
      | inl less ↦ absurd (omega (arith, bytes_left text units bytes utf8 have less))
      | inr all ↦ omega (arith, have.within)
    ]

-- The text has no unit more.
pub past_end : (text : List ℕ) (units bytes offset : ℕ) → IsUtf8 text
    → HaveBytes (unit_sizes text) units bytes → length text ≤ bytes → units < offset
    → length text + 1 ≡ byte_offset text offset
past_end text units bytes offset utf8 have past more =
    elim (cases_lt units (length (unit_sizes text))) [
      | inl less ↦ absurd (omega (arith, bytes_left text units bytes utf8 have less))
      | inr all ↦ sym (offset_after text offset (omega arith))
    ]

pub units_reached : (text : List ℕ) (units bytes offset : ℕ) → HaveBytes (unit_sizes text) units bytes
    → units ≡ offset → bytes ≡ byte_offset text offset
units_reached text units bytes offset have is =
    have.bytes_are ∙ ap (λ n. sum (take n (unit_sizes text))) is
    ∙ sym (offset_inside text offset (omega (arith, have.within)))

-- ---- The table, read

pub in_units : (unit : OffsetUnit) (text : List ℕ) (offset : ℕ) → unit ≡ Utf16
    → byte_offset text offset ≡ offset_in unit text offset
in_units Utf16 text offset is = refl
in_units Utf8 text offset is = cc

pub start_held : (unit : OffsetUnit) (text bytes : List ℕ) (offset start : ℕ) → unit ≡ Utf16
    → AreByteOffsets unit text bytes → offset / 32 < length bytes → start ≡ get_or bytes (offset / 32) 0
    → HaveBytes (unit_sizes text) (32 * (offset / 32)) start
start_held Utf16 text bytes offset start unit table within is =
    let sizes = unit_sizes text in
    let size = size_of_table (bytes_of_units sizes) (length sizes) bytes table in
    record {
      within = omega (arith, size);
      bytes_are = is ∙ value_by_index (bytes_of_units sizes) (length sizes) bytes (offset / 32) 0 table
          (omega (arith, size));
    }
start_held Utf8 text bytes offset start unit table within is = cc

pub none_held : (unit : OffsetUnit) (text bytes : List ℕ) (offset : ℕ) → unit ≡ Utf16
    → AreByteOffsets unit text bytes → length bytes ≤ offset / 32
    → length text + 1 ≡ offset_in unit text offset
none_held Utf16 text bytes offset unit table after =
    let sizes = unit_sizes text in
    sym (offset_after text offset
    (omega (arith, size_of_table (bytes_of_units sizes) (length sizes) bytes table)))
none_held Utf8 text bytes offset unit table after = cc
