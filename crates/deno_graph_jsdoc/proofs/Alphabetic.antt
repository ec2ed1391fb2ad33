-- No Alphabetic character ends an identifier.
use Rattle.std.proofs.Common.{◌≡◌, ℕ, ◌+◌, ◌-◌, ◌<◌, ◌≤◌, ⊎_elim, Bool, true, false, ◌||◌, ◌&&◌, refl, subst}
use Rattle.std.proofs.Common.{arith, eqb, ltb}
use Rattle.std.proofs.lemmas.Bool.{and_parts, or_cases, ltb-true, eqb-true, agree_below, agree_below_at}
use Rattle.std.proofs.lemmas.Bool.{both_ways, false_from_ne_true}
use Rattle.std.specs.Char.{is_whitespace}
use Rattle.std.specs.Char.Unicode.Alphabetic.{alphabetic_ranges, is_alphabetic}
use Rattle.std.specs.Char.Unicode.Rows.{in_ranges}
use Rattle.deno_graph_jsdoc.specs.Characters.{double_quote, apostrophe, opening_brace, closing_brace}
use Rattle.deno_graph_jsdoc.specs.JsDocGrammar.{ends_ident}

-- none of these characters is Alphabetic
abbrev none_from : ℕ → ℕ → Type 0
none_from low count = agree_below (λ k. is_alphabetic (low + k)) (λ _. false) count ≡ true

in_range : (low count c : ℕ) → none_from low count → low ≤ c → c < low + count → is_alphabetic c ≡ false
in_range low count c none from below =
    let sum : low + (c - low) ≡ c = omega arith in
    subst (λ n. is_alphabetic n ≡ false) sum
    (agree_below_at (λ k. is_alphabetic (low + k)) (λ _. false) count (c - low) none (omega arith))

between : (low count c : ℕ) → none_from (low + 1) count
    → (ltb low c && ltb c (low + 1 + count)) ≡ true → is_alphabetic c ≡ false
between low count c none inside =
    let both = and_parts (ltb low c) (ltb c (low + 1 + count)) inside in
    let above = ltb-true low c both.0 in
    let below = ltb-true c (low + 1 + count) both.1 in
    in_range (low + 1) count c none (omega arith) below

exactly : (n c : ℕ) → none_from n 1 → eqb c n ≡ true → is_alphabetic c ≡ false
exactly n c none is =
    let same = eqb-true c n is in
    in_range n 1 c none (omega arith) (omega arith)

or_exactly : (x : Bool) (n c : ℕ) → none_from n 1 → (x ≡ true → is_alphabetic c ≡ false)
    → (x || eqb c n) ≡ true → is_alphabetic c ≡ false
or_exactly x n c none before is = ⊎_elim before (exactly n c none) (or_cases x (eqb c n) is)

or_between : (x : Bool) (low count c : ℕ) → none_from (low + 1) count → (x ≡ true → is_alphabetic c ≡ false)
    → (x || (ltb low c && ltb c (low + 1 + count))) ≡ true → is_alphabetic c ≡ false
or_between x low count c none before is =
    ⊎_elim before (between low count c none) (or_cases x (ltb low c && ltb c (low + 1 + count)) is)

white : (c : ℕ) → is_whitespace c ≡ true → is_alphabetic c ≡ false
unfolding is_alphabetic alphabetic_ranges in_ranges
white c is =
    or_exactly _ 12288 c refl (or_exactly _ 8287 c refl
    (or_exactly _ 8239 c refl (or_exactly _ 8233 c refl (or_exactly _ 8232 c refl
    (or_between _ 8191 11 c refl
    (or_exactly _ 5760 c refl (or_exactly _ 160 c refl (or_exactly _ 133 c refl (or_exactly _ 32 c refl
    (between 8 5 c refl)))))))))) is

pub not_alphabetic : (c : ℕ) → ends_ident c ≡ true → is_alphabetic c ≡ false
unfolding is_alphabetic alphabetic_ranges in_ranges
not_alphabetic c is =
    ⊎_elim (white c) (or_exactly _ 45 c refl (exactly 58 c refl))
    (or_cases (is_whitespace c) (eqb c 58 || eqb c 45) is)

-- an Alphabetic character ends no identifier, and is no white space
pub Alphabetic-ends_ident : (c : ℕ) → is_alphabetic c ≡ true → ends_ident c ≡ false
Alphabetic-ends_ident c is =
    false_from_ne_true (ends_ident c) (λ ends. both_ways (is_alphabetic c) (not_alphabetic c ends) is)

pub Alphabetic-is_whitespace : (c : ℕ) → is_alphabetic c ≡ true → is_whitespace c ≡ false
Alphabetic-is_whitespace c is =
    false_from_ne_true (is_whitespace c) (λ space. both_ways (is_alphabetic c) (white c space) is)

-- quotes and braces are not Alphabetic
pub double_quote_no_letter : is_alphabetic double_quote ≡ false
unfolding is_alphabetic alphabetic_ranges in_ranges
double_quote_no_letter = refl

pub apostrophe_no_letter : is_alphabetic apostrophe ≡ false
unfolding is_alphabetic alphabetic_ranges in_ranges
apostrophe_no_letter = refl

pub closing_brace_no_letter : is_alphabetic closing_brace ≡ false
unfolding is_alphabetic alphabetic_ranges in_ranges
closing_brace_no_letter = refl

pub opening_brace_no_letter : is_alphabetic opening_brace ≡ false
unfolding is_alphabetic alphabetic_ranges in_ranges
opening_brace_no_letter = refl

pub star_no_letter : is_alphabetic 42 ≡ false
unfolding is_alphabetic alphabetic_ranges in_ranges
star_no_letter = refl
