-- The longest run of characters of one kind at the start of a text.
use Rattle.std.proofs.Common.{◌≡◌, ◌≢◌, ℕ, Bool, true, false, List, [], ◌∷◌, ◌++◌, refl, sym, ap, ◌∙◌, subst}
use Rattle.std.proofs.Common.{cond, ◌≤◌, length, arith}
use Rattle.std.proofs.lemmas.Bool.{both_ways, and_parts}
use Rattle.std.specs.Char.{is_whitespace}
use Rattle.std.specs.List.{AllByRecursion}
use Rattle.std.specs.Str.{skip_leading_whitespace}
use lib.Utf8.{scalar, scalars}
use Rattle.deno_graph_jsdoc.specs.JsDocGrammar.{IsSpace, Lacks, EmptyOr, NoSpace}

-- characters of one kind end at one offset, where a character of another kind follows
pub same_run : (P S : ℕ → Type 0) → ((c : ℕ) → P c → S c → ⊥) → (xs ys rest after : List ℕ)
    → AllByRecursion P xs → AllByRecursion P ys → EmptyOr S rest → EmptyOr S after
    → xs ++ rest ≡ ys ++ after → (xs ≡ ys) × (rest ≡ after)
same_run P S apart [] [] rest after all each stop end same = (refl, same)
same_run P S apart [] (y ∷ ys) [] after all each stop end same = absurd (cc)
same_run P S apart [] (y ∷ ys) (c ∷ rest) after all each stop end same =
    let first : y ≡ c = cc in
    absurd (apart c (subst P first each.0) stop)
same_run P S apart (x ∷ xs) [] rest [] all each stop end same = absurd (cc)
same_run P S apart (x ∷ xs) [] rest (c ∷ after) all each stop end same =
    let first : x ≡ c = cc in
    absurd (apart c (subst P first all.0) end)
same_run P S apart (x ∷ xs) (y ∷ ys) rest after all each stop end same =
    let tails : xs ++ rest ≡ ys ++ after = cc in
    let again = same_run P S apart xs ys rest after all.1 each.1 stop end tails in
    let first : x ≡ y = cc in
    (λ i. first i ∷ again.0 i, again.1)

-- the white space at the start of a text
pub space_whole : (text : List ℕ) → (space : List ℕ) × IsSpace space
    × (text ≡ space ++ skip_leading_whitespace text)
space_whole [] = ([], tt, refl)
space_whole (c ∷ cs) = by_first (is_whitespace c) refl (space_whole cs)
  where
    by_first : (b : Bool) → is_whitespace c ≡ b → (space : List ℕ) × IsSpace space
        × (cs ≡ space ++ skip_leading_whitespace cs)
        → (space : List ℕ) × IsSpace space × (c ∷ cs ≡ space ++ cond b (skip_leading_whitespace cs) (c ∷ cs))
    by_first true is more = (c ∷ more.0, (is, more.1), ap (λ t. c ∷ t) more.2)
    by_first false is more = ([], tt, refl)

pub space_ends : (text : List ℕ) → NoSpace (skip_leading_whitespace text)
space_ends [] = tt
space_ends (c ∷ cs) = by_first (is_whitespace c) refl (space_ends cs)
  where
    by_first : (b : Bool) → is_whitespace c ≡ b → NoSpace (skip_leading_whitespace cs)
        → NoSpace (cond b (skip_leading_whitespace cs) (c ∷ cs))
    by_first true is more = more
    by_first false is more = is

-- if a text begins with no white space, only one run of white space can be skipped before it
pub same_space : (text space rest : List ℕ) → IsSpace space → NoSpace rest → text ≡ space ++ rest
    → rest ≡ skip_leading_whitespace text
same_space text space rest white stop whole =
    let own = space_whole text in
    (same_run (λ c. is_whitespace c ≡ true) (λ c. is_whitespace c ≡ false)
    (λ c is not. both_ways (is_whitespace c) not is) space own.0 rest
    (skip_leading_whitespace text) white own.1 stop (space_ends text) (sym whole ∙ own.2)).1

-- the text before the first mark
pub same_before_mark : (mark : ℕ) (xs ys rest after : List ℕ) → Lacks mark xs → Lacks mark ys
    → xs ++ mark ∷ rest ≡ ys ++ mark ∷ after → (xs ≡ ys) × (rest ≡ after)
same_before_mark mark xs ys rest after left right same =
    let found = same_run (λ c. c ≢ mark) (λ c. c ≡ mark) (λ c not is. not is) xs ys (mark ∷ rest)
    (mark ∷ after) left right refl refl same in
    let tails : mark ∷ rest ≡ mark ∷ after = found.1 in
    (found.0, cc)

pub Lacks-not_inside : (mark : ℕ) (xs rest : List ℕ) → Lacks mark (xs ++ mark ∷ rest) → ⊥
Lacks-not_inside mark [] rest all = all.0 refl
Lacks-not_inside mark (x ∷ xs) rest all = Lacks-not_inside mark xs rest all.1

-- the text after white space is text too
pub scalars_after_space : (cs : List ℕ) → scalars cs ≡ true → scalars (skip_leading_whitespace cs) ≡ true
scalars_after_space [] all = all
scalars_after_space (c ∷ cs) all =
    by_first (is_whitespace c) (scalars_after_space cs (and_parts (scalar c) (scalars cs) all).1)
  where
    by_first : (b : Bool) → scalars (skip_leading_whitespace cs) ≡ true
        → scalars (cond b (skip_leading_whitespace cs) (c ∷ cs)) ≡ true
    by_first true more = more
    by_first false more = all

pub IsSpace-append : (xs ys : List ℕ) → IsSpace xs → IsSpace ys → IsSpace (xs ++ ys)
IsSpace-append [] ys left right = right
IsSpace-append (x ∷ xs) ys left right = (left.0, IsSpace-append xs ys left.1 right)

-- of two fronts of a text the shorter is a front of the longer
pub front_of_front : (xs ys zs ws : List ℕ) → xs ++ ys ≡ zs ++ ws → length xs ≤ length zs
    → (middle : List ℕ) × (zs ≡ xs ++ middle)
front_of_front [] ys zs ws same fits = (zs, refl)
front_of_front (x ∷ xs) ys [] ws same fits = absurd (omega arith)
front_of_front (x ∷ xs) ys (z ∷ zs) ws same fits =
    let tails : xs ++ ys ≡ zs ++ ws = cc in
    let first : z ≡ x = cc in
    let more = front_of_front xs ys zs ws tails (omega arith) in
    (more.0, λ i. first i ∷ more.1 i)
