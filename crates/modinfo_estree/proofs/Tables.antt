-- Tables of functions, with each 32nd value: one number more, and what they say.
use Rattle.std.proofs.Common.{◌≡◌, ℕ, ◌+◌, ◌*◌, ◌/◌, ◌%◌, ◌≤◌, ◌≢◌, List, [], ◌∷◌, ◌++◌, length, map, get_or}
use Rattle.std.proofs.Common.{sym, ap, ◌∙◌, arith}
use Rattle.std.proofs.lemmas.List.FromFn.{get_or-map-range_with_len, length-map-range_with_len}
use Rattle.std.proofs.lemmas.List.FromFn.{map-range_with_len_more}
use Rattle.std.specs.List.{range_with_len}
use Rattle.modinfo_estree.specs.internal.Tables.{at_32nds}

-- The next number is a multiple of 32.
pub one_more : {X : Type 0} (f : ℕ → X) (xs : List X) (n : ℕ) (x : X) → xs ≡ at_32nds f n
    → (n + 1) % 32 ≡ 0 → x ≡ f (n + 1) → xs ++ x ∷ [] ≡ at_32nds f (n + 1)
one_more f xs n x so_far multiple next =
    let here : n + 1 ≡ 32 * (n / 32 + 1) = omega arith in
    let count : n / 32 + 1 + 1 ≡ (n + 1) / 32 + 1 = omega arith in
    ap (λ ys. ys ++ x ∷ []) so_far ∙ ap (λ y. at_32nds f n ++ y ∷ []) (next ∙ ap f here)
    ∙ sym (map-range_with_len_more (λ k. f (32 * k)) 0 (n / 32 + 1) (n / 32 + 1) (omega arith))
    ∙ ap (λ m. map (λ k. f (32 * k)) (range_with_len 0 m)) count

-- The next number is none.
pub none_more : {X : Type 0} (f : ℕ → X) (xs : List X) (n : ℕ) → xs ≡ at_32nds f n → (n + 1) % 32 ≢ 0
    → xs ≡ at_32nds f (n + 1)
none_more f xs n so_far other =
    let count : n / 32 + 1 ≡ (n + 1) / 32 + 1 = omega arith in
    so_far ∙ ap (λ m. map (λ k. f (32 * k)) (range_with_len 0 m)) count

pub size_of_table : {X : Type 0} (f : ℕ → X) (end : ℕ) (xs : List X) → xs ≡ at_32nds f end
    → length xs ≡ end / 32 + 1
size_of_table f end xs is = ap length is ∙ length-map-range_with_len (λ k. f (32 * k)) 0 (end / 32 + 1)

-- The value in a table.
pub value_by_index : {X : Type 0} (f : ℕ → X) (end : ℕ) (xs : List X) (k : ℕ) (d : X) → xs ≡ at_32nds f end
    → k ≤ end / 32 → get_or xs k d ≡ f (32 * k)
value_by_index f end xs k d is within =
    ap (λ l. get_or l k d) is
    ∙ get_or-map-range_with_len (λ k. f (32 * k)) 0 (end / 32 + 1) k k d (omega arith) (omega arith)

-- The value in a table by its number.
pub value_by_number : {X : Type 0} (f : ℕ → X) (end : ℕ) (xs : List X) (n : ℕ) (d : X) → xs ≡ at_32nds f end
    → n ≤ end → n % 32 ≡ 0 → get_or xs (n / 32) d ≡ f n
value_by_number f end xs n d is within multiple =
    let here : 32 * (n / 32) ≡ n = omega arith in
    value_by_index f end xs (n / 32) d is (omega arith) ∙ ap f here
