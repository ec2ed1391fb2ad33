-- Where tokens start and end, one offset on.
use Rattle.std.proofs.Common.{◌≡◌, ℕ, ◌+◌, ◌-◌, ◌<◌, ◌≤◌, Bool, true, false, not, ◌&&◌, List, [], ◌∷◌, length}
use Rattle.std.proofs.Common.{take, drop, get_or, min, refl, sym, ap, ◌∙◌, arith}
use Rattle.std.proofs.lemmas.List.{drop-append-le, drop_all, length-map, length-take-le, take_min, take_more}
use Rattle.std.proofs.lemmas.List.Folds.{list_all-append}
use Rattle.std.proofs.lemmas.List.Sums.{prefix_len-drop_all, prefix_len-drop_no, prefix_len-drop_yes}
use Rattle.std.proofs.lemmas.List.Sums.{suffix_len-take_no, suffix_len-take_yes}
use Rattle.std.specs.List.{list_all, suffix_len}
use Rattle.modinfo_estree.specs.Tokens.{is_on_line, token_end, token_start}
use Rattle.modinfo_estree.specs.declared.marks.Mark.{Mark}
use Rattle.modinfo_estree.specs.internal.Marks.{breaks_of, gaps_of, is_break, is_gap}

pub size_of_gaps : (marks : List Mark) → length (gaps_of marks) ≡ length marks
size_of_gaps marks = length-map marks is_gap

pub size_of_breaks : (marks : List Mark) → length (breaks_of marks) ≡ length marks
size_of_breaks marks = length-map marks is_break

-- ---- Starts

pub start_at_gap : (gaps : List Bool) (i : ℕ) → i < length gaps → get_or gaps i false ≡ true
    → token_start gaps i ≡ token_start gaps (i + 1)
unfolding token_start
start_at_gap gaps i within is = omega (arith, prefix_len-drop_yes (λ gap. gap) gaps i false within is)

pub start_at_token : (gaps : List Bool) (i : ℕ) → i < length gaps → get_or gaps i false ≡ false
    → token_start gaps i ≡ i
unfolding token_start
start_at_token gaps i within is = omega (arith, prefix_len-drop_no (λ gap. gap) gaps i false within is)

pub start_at_end : (gaps : List Bool) (i : ℕ) → length gaps ≤ i → token_start gaps i ≡ i
unfolding token_start
start_at_end gaps i after = omega (arith, prefix_len-drop_all (λ gap. gap) gaps i after)

-- ---- Ends

pub end_at_start : (gaps : List Bool) → token_end gaps 0 ≡ 0
unfolding token_end
end_at_start gaps = omega arith

end_is : (gaps : List Bool) (i : ℕ) → i ≤ length gaps
    → token_end gaps i ≡ i - suffix_len (λ gap. gap) (take i gaps)
unfolding token_end
end_is gaps i within = ap (λ n. n - suffix_len (λ gap. gap) (take i gaps)) (length-take-le i gaps within)

pub end_at_gap : (gaps : List Bool) (i : ℕ) → i < length gaps → get_or gaps i false ≡ true
    → token_end gaps (i + 1) ≡ token_end gaps i
end_at_gap gaps i within is =
    let here : i + 1 - 1 ≡ i = omega arith in
    let more_gap = suffix_len-take_yes (λ gap. gap) gaps (i + 1) false (omega arith) (omega arith)
    (ap (λ n. get_or gaps n false) here ∙ is) in
    let same = ap (λ n. suffix_len (λ gap. gap) (take n gaps)) here in
    omega (arith, more_gap, same, end_is gaps (i + 1) (omega arith), end_is gaps i (omega arith))

pub end_at_token : (gaps : List Bool) (i : ℕ) → i < length gaps → get_or gaps i false ≡ false
    → token_end gaps (i + 1) ≡ i + 1
end_at_token gaps i within is =
    let here : i + 1 - 1 ≡ i = omega arith in
    let no_gap = suffix_len-take_no (λ gap. gap) gaps (i + 1) false (omega arith) (omega arith)
    (ap (λ n. get_or gaps n false) here ∙ is) in
    omega (arith, no_gap, end_is gaps (i + 1) (omega arith))

pub end_before : (gaps : List Bool) (i : ℕ) → i ≤ length gaps → token_end gaps i ≤ i
end_before gaps i within = omega (arith, end_is gaps i within)

-- ---- Lines

pub line_at_start : (breaks gaps : List Bool) → is_on_line breaks gaps 0 ≡ true
unfolding is_on_line
line_at_start breaks gaps = ap (λ n. list_all not (drop n [])) (end_at_start gaps)

pub line_at_token : (breaks gaps : List Bool) (i : ℕ) → length breaks ≡ length gaps → i < length gaps
    → get_or gaps i false ≡ false → is_on_line breaks gaps (i + 1) ≡ true
unfolding is_on_line
line_at_token breaks gaps i size within is =
    ap (λ n. list_all not (drop n (take (i + 1) breaks))) (end_at_token gaps i within is)
    ∙ ap (list_all not) (drop_all (i + 1) (take (i + 1) breaks)
    (omega (arith, length-take-le (i + 1) breaks (omega arith))))

pub line_at_gap : (breaks gaps : List Bool) (i : ℕ) → length breaks ≡ length gaps → i < length gaps
    → get_or gaps i false ≡ true
    → is_on_line breaks gaps (i + 1) ≡ (is_on_line breaks gaps i && not (get_or breaks i false))
unfolding is_on_line
line_at_gap breaks gaps i size within is =
    let e = token_end gaps i in
    let b = get_or breaks i false in
    let front = take i breaks in
    let inside : e ≤ length front =
    omega (arith, end_before gaps i (omega arith), length-take-le i breaks (omega arith)) in
    ap (λ n. list_all not (drop n (take (i + 1) breaks))) (end_at_gap gaps i within is)
    ∙ ap (λ bs. list_all not (drop e bs)) (take_more breaks i false (omega arith))
    ∙ ap (list_all not) (drop-append-le e front (b ∷ []) inside)
    ∙ list_all-append not (drop e front) (b ∷ []) ∙ ap (λ t. list_all not (drop e front) && t) (alone b)
  where
    alone : (b : Bool) → list_all not (b ∷ []) ≡ not b
    alone true = refl
    alone false = refl

-- The line of an offset after a byte between tokens, by whether the byte is of a line terminator.
pub line_same : (breaks gaps : List Bool) (i : ℕ) → length breaks ≡ length gaps → i < length gaps
    → get_or gaps i false ≡ true → get_or breaks i false ≡ false
    → is_on_line breaks gaps (i + 1) ≡ is_on_line breaks gaps i
line_same breaks gaps i size within gap same =
    line_at_gap breaks gaps i size within gap ∙ ap (λ b. is_on_line breaks gaps i && not b) same
    ∙ and_true (is_on_line breaks gaps i)
  where
    and_true : (t : Bool) → (t && true) ≡ t
    and_true true = refl
    and_true false = refl

pub line_broken : (breaks gaps : List Bool) (i : ℕ) → length breaks ≡ length gaps → i < length gaps
    → get_or gaps i false ≡ true → get_or breaks i false ≡ true → is_on_line breaks gaps (i + 1) ≡ false
line_broken breaks gaps i size within gap broken =
    line_at_gap breaks gaps i size within gap ∙ ap (λ b. is_on_line breaks gaps i && not b) broken
    ∙ and_false (is_on_line breaks gaps i)
  where
    and_false : (t : Bool) → (t && false) ≡ false
    and_false true = refl
    and_false false = refl

-- ---- After the end

-- An offset after the end is as good as the end.
pub end_past : (gaps : List Bool) (offset : ℕ)
    → token_end gaps (min offset (length gaps)) ≡ token_end gaps offset
unfolding token_end
end_past gaps offset = ap (λ front. length front - suffix_len (λ gap. gap) front) (take_min offset gaps)

pub line_past : (breaks gaps : List Bool) (offset : ℕ) → length breaks ≡ length gaps
    → is_on_line breaks gaps (min offset (length gaps)) ≡ is_on_line breaks gaps offset
unfolding is_on_line
line_past breaks gaps offset size =
    ap (λ n. list_all not (drop n (take (min offset (length gaps)) breaks))) (end_past gaps offset)
    ∙ ap (λ n. list_all not (drop (token_end gaps offset) (take (min offset n) breaks))) (sym size)
    ∙ ap (λ front. list_all not (drop (token_end gaps offset) front)) (take_min offset breaks)
