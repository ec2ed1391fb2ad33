-- A word is compared with the words of its length alone.
use Rattle.std.proofs.Common.{◌≡◌, ℕ, ◌==◌, Bool, true, false, ◌||◌, List, [], ◌∷◌, length, filter, refl, sym}
use Rattle.std.proofs.Common.{ap, ◌∙◌, ◌≢◌, codes, if◌then◌else◌, true≢false, arith}
use Rattle.std.specs.Str.{bytes_eq}
use Rattle.std.proofs.lemmas.Bool.{eqb-true, eq-eqb}
use Rattle.std.proofs.lemmas.Slice.Eq.{bytes_eq-Decides}
use Rattle.modinfo_pieces.specs.WordClasses.{class_of, heads, is_among, operators}
use Rattle.modinfo_pieces.specs.declared.place.Before.{Before}
use Rattle.modinfo_pieces.specs.declared.place.Before.TheVariants.{Free, Head, Value}

-- The words of this length.
abbrev pub of_length : ℕ → List (List ℕ) → List (List ℕ)
of_length n words = filter (λ word. length word == n) words

differs : (equal : Bool) (word other : List ℕ) (n : ℕ) → bytes_eq word other ≡ equal → length word ≡ n
    → (length other == n) ≡ false → equal ≡ false
differs false word other n is long short = refl
differs true word other n is long short =
    absurd (true≢false (sym (eq-eqb (length other) n
    (sym (ap length ((bytes_eq-Decides word other).0 is)) ∙ long)) ∙ short))

among_step : (same : Bool) (n : ℕ) (word other : List ℕ) (words : List (List ℕ)) → (length other == n) ≡ same
    → length word ≡ n → is_among words word ≡ is_among (of_length n words) word
    → is_among (other ∷ words) word
    ≡ is_among (if same then other ∷ of_length n words else of_length n words) word
among_step true n word other words same long rest = ap (λ r. bytes_eq word other || r) rest
among_step false n word other words same long rest =
    ap (λ b. b || is_among words word) (differs _ word other n refl long same) ∙ rest

pub among-of_length : (n : ℕ) (words : List (List ℕ)) (word : List ℕ) → length word ≡ n
    → is_among words word ≡ is_among (of_length n words) word
among-of_length n [] word long = refl
among-of_length n (other ∷ words) word long =
    among_step (length other == n) n word other words refl long (among-of_length n words word long)

unequal : (n : ℕ) (word : List ℕ) → length word ≢ n → (n == length word) ≡ false
unequal n word differs = grind (arith, eqb-true)

-- The class of a word by the words of its length.
pub class_of-length : (n : ℕ) (word : List ℕ) → length word ≡ n → class_of word
    ≡ (if is_among (of_length n heads) word then Head
    else (if is_among (of_length n operators) word then Free else Value))
unfolding class_of
class_of-length n word long =
    ap (λ h. if h then Head else (if is_among operators word then Free else Value))
    (among-of_length n heads word long)
    ∙ ap (λ o. if is_among (of_length n heads) word then Head else (if o then Free else Value))
    (among-of_length n operators word long)

pub class_of_two : (word : List ℕ) → length word ≡ 2 → class_of word
    ≡ (if (bytes_eq word (codes "if") || false) then Head
    else (if (bytes_eq word (codes "in") ||
    (bytes_eq word (codes "of") || (bytes_eq word (codes "do") || false))) then Free else Value))
class_of_two word long = class_of-length 2 word long

pub class_of_three : (word : List ℕ) → length word ≡ 3 → class_of word
    ≡ (if (bytes_eq word (codes "for") || false) then Head
    else (if (bytes_eq word (codes "new") || false) then Free else Value))
class_of_three word long = class_of-length 3 word long

pub class_of_four : (word : List ℕ) → length word ≡ 4 → class_of word
    ≡ (if (bytes_eq word (codes "with") || false) then Head
    else (if (bytes_eq word (codes "else") ||
    (bytes_eq word (codes "case") || (bytes_eq word (codes "void") || false))) then Free else Value))
class_of_four word long = class_of-length 4 word long

pub class_of_five : (word : List ℕ) → length word ≡ 5 → class_of word
    ≡ (if (bytes_eq word (codes "while") || false) then Head
    else (if (bytes_eq word (codes "throw") ||
    (bytes_eq word (codes "await") || (bytes_eq word (codes "yield") || false))) then Free else Value))
class_of_five word long = class_of-length 5 word long

pub class_of_six : (word : List ℕ) → length word ≡ 6 → class_of word
    ≡ (if false then Head
    else (if (bytes_eq word (codes "return") ||
    (bytes_eq word (codes "typeof") || (bytes_eq word (codes "delete") || false))) then Free else Value))
class_of_six word long = class_of-length 6 word long

pub class_of_seven : (word : List ℕ) → length word ≡ 7 → class_of word
    ≡ (if false then Head
    else (if (bytes_eq word (codes "extends") ||
    (bytes_eq word (codes "default") || false)) then Free else Value))
class_of_seven word long = class_of-length 7 word long

pub class_of_ten : (word : List ℕ) → length word ≡ 10 → class_of word
    ≡ (if false then Head
    else (if (bytes_eq word (codes "instanceof") || false) then Free else Value))
class_of_ten word long = class_of-length 10 word long

-- No word of another length has a class.
pub class_of_other : (word : List ℕ) → length word ≢ 2 → length word ≢ 3 → length word ≢ 4 → length word ≢ 5
    → length word ≢ 6 → length word ≢ 7 → length word ≢ 10 → class_of word ≡ Value
class_of_other word two three four five six seven ten =
    class_of-length (length word) word refl
    ∙ rw (
      unequal 2 word two,
      unequal 3 word three,
      unequal 4 word four,
      unequal 5 word five,
      unequal 6 word six,
      unequal 7 word seven,
      unequal 10 word ten,
    ) refl
