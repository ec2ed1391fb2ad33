-- The position after each further character, and the order of positions.
use Rattle.std.proofs.Common.{◌≡◌, ℕ, ◌+◌, ◌-◌, ◌<◌, ◌≤◌, inl, inr, subst, Bool, true, false, ◌&&◌, ◌||◌}
use Rattle.std.proofs.Common.{nat_lt, eq-eqb, cond, not, ◌==◌, List, [], ◌∷◌, ◌++◌, length, refl, sym, ap}
use Rattle.std.proofs.Common.{◌∙◌, arith, length-drop, append_assoc}
use Rattle.std.specs.Cmp.{nat_cmp_is}
use Rattle.std.specs.Ordering.{nat_cmp, ordering_then}
use Rattle.std.specs.declared.cmp.Ordering.{Ordering}
use Rattle.std.specs.declared.cmp.Ordering.TheVariants.{Less, Equal, Greater}
use Rattle.std.specs.List.{prefix_len, suffix_len}
use Rattle.std.proofs.lemmas.Bool.{cases_Bool, false≢true}
use Rattle.std.proofs.lemmas.Bool.Decides.{nat_tests}
use Rattle.std.proofs.lemmas.List.{reverse-append}
use Rattle.std.proofs.lemmas.List.Sums.{suffix_len-le-length, sum_by-append, count_by-le-length}
use Rattle.deno_graph_base.specs.declared.text.position.Position.{Position}
use Rattle.deno_graph_base.specs.Position.{IsBefore, line_of, character_of, position_of}
use Rattle.deno_graph_base.specs.internal.Cursor.{is_before}

-- characters without a line feed at the end belong to what follows the last line feed
character_of-suffix : (front : List ℕ) → character_of front ≡ suffix_len (λ c. not (c == 10)) front
character_of-suffix front =
    let short = suffix_len-le-length (λ c. not (c == 10)) front in
    omega (arith, length-drop (length front - suffix_len (λ c. not (c == 10)) front) front)

by_test : (is : Bool) (n m : ℕ) → m ≡ n → cond (not is) (1 + n) 0 ≡ cond is 0 (m + 1)
by_test true n m e = refl
by_test false n m e = omega arith

character_of-push : (front : List ℕ) (c : ℕ)
    → character_of (front ++ c ∷ []) ≡ cond (c == 10) 0 (character_of front + 1)
character_of-push front c =
    character_of-suffix (front ++ c ∷ [])
    ∙ ap (prefix_len (λ d. not (d == 10))) (reverse-append front (c ∷ []))
    ∙ by_test (c == 10) (suffix_len (λ d. not (d == 10)) front) _ (character_of-suffix front)

one_more : (is : Bool) (n : ℕ) → n + (0 + cond is 1 0) ≡ cond is (n + 1) n
one_more true n = omega arith
one_more false n = omega arith

line_of-push : (front : List ℕ) (c : ℕ)
    → line_of (front ++ c ∷ []) ≡ cond (c == 10) (line_of front + 1) (line_of front)
line_of-push front c =
    sum_by-append (λ d. cond (d == 10) 1 0) front (c ∷ []) ∙ one_more (c == 10) (line_of front)

-- a line feed begins the next line
pub position_of-line_feed : (front : List ℕ) (c : ℕ) → (c == 10) ≡ true
    → position_of (front ++ c ∷ []) ≡ record { line = (position_of front).line + 1; character = 0 }
unfolding position_of
position_of-line_feed front c is =
    let line : line_of (front ++ c ∷ []) ≡ line_of front + 1 =
    line_of-push front c ∙ ap (λ b. cond b (line_of front + 1) (line_of front)) is in
    let character : character_of (front ++ c ∷ []) ≡ 0 =
    character_of-push front c ∙ ap (λ b. cond b 0 (character_of front + 1)) is in
    cc

-- any other character is one more character of its line
pub position_of-other : (front : List ℕ) (c : ℕ) → (c == 10) ≡ false
    → position_of (front ++ c ∷ []) ≡ record {
      line = (position_of front).line;
      character =
          (position_of front).character + 1;
    }
unfolding position_of
position_of-other front c is =
    let line : line_of (front ++ c ∷ []) ≡ line_of front =
    line_of-push front c ∙ ap (λ b. cond b (line_of front + 1) (line_of front)) is in
    let character : character_of (front ++ c ∷ []) ≡ character_of front + 1 =
    character_of-push front c ∙ ap (λ b. cond b 0 (character_of front + 1)) is in
    cc

-- there are no more lines, nor characters of a line, than characters
pub line_of-le : (front : List ℕ) → (position_of front).line ≤ length front
unfolding position_of
line_of-le front = count_by-le-length (λ c. c == 10) front

pub character_of-le : (front : List ℕ) → (position_of front).character ≤ length front
unfolding position_of
character_of-le front =
    let short = suffix_len-le-length (λ c. not (c == 10)) front in
    omega (arith, character_of-suffix front)

-- two positions with the same line and the same character are the same
pub same_position : (p q : Position) → p.line ≡ q.line → p.character ≡ q.character → p ≡ q
same_position p q line character =
    let by_line : p ≡ record { line = q.line; character = p.character } =
    ap (λ (n : ℕ). let r : Position = record { line = n; character = p.character } in r) line in
    by_line ∙ ap (λ (n : ℕ). let r : Position = record { line = q.line; character = n } in r) character

-- the position of the start of every text
pub position_of-nil : (start : Position) → start.line ≡ 0 → start.character ≡ 0 → start ≡ position_of []
unfolding position_of
position_of-nil start line character = same_position start (position_of []) line character

-- each character makes the position later
before_push : (front : List ℕ) (c : ℕ) → IsBefore (position_of front) (position_of (front ++ c ∷ []))
before_push front c = elim (cases_Bool (c == 10)) [
  | inl feed ↦
      let next = position_of-line_feed front c feed in
      inl (omega (arith, ap (λ p. p.line) next))
  | inr other ↦
      let next = position_of-other front c other in
      inr (ap (λ p. p.line) (sym next), omega (arith, ap (λ p. p.character) next))
]

pub IsBefore-trans : (p q r : Position) → IsBefore p q → IsBefore q r → IsBefore p r
IsBefore-trans p q r (inl a) (inl b) = inl (omega arith)
IsBefore-trans p q r (inl a) (inr b) = inl (omega arith)
IsBefore-trans p q r (inr a) (inl b) = inl (omega arith)
IsBefore-trans p q r (inr a) (inr b) = inr (omega arith, omega arith)

pub IsBefore-irreflexive : (p : Position) → ¬ (IsBefore p p)
IsBefore-irreflexive p (inl a) = omega arith
IsBefore-irreflexive p (inr a) = omega arith

-- a text that isn't empty makes the position later
pub before_longer : (front : List ℕ) (c : ℕ) (more : List ℕ)
    → IsBefore (position_of front) (position_of (front ++ c ∷ more))
before_longer front c [] = before_push front c
before_longer front c (d ∷ more) =
    IsBefore-trans _ _ _ (before_push front c)
    (subst (λ cs. IsBefore (position_of (front ++ c ∷ [])) (position_of cs))
    (append_assoc front (c ∷ []) (d ∷ more)) (before_longer (front ++ c ∷ []) d more))

-- the value of `==` on positions
pub same_from_test : (p q : Position) → true ≡ ((p.line == q.line) && (p.character == q.character)) → p ≡ q
same_from_test p q is = same_position p q (grind (arith, nat_tests)) (grind (arith, nat_tests))

pub differs_from_test : (p q : Position) → false ≡ ((p.line == q.line) && (p.character == q.character))
    → ¬ (p ≡ q)
differs_from_test p q is same =
    let line : (p.line == q.line) ≡ true = eq-eqb p.line q.line (ap (λ r. r.line) same) in
    let character : (p.character == q.character) ≡ true =
    eq-eqb p.character q.character (ap (λ r. r.character) same) in
    false≢true (is ∙ ap (λ b. b && (p.character == q.character)) line ∙ character)

-- `is_before` decides `IsBefore`
pub is_before-true : (p q : Position) → is_before p q ≡ true → IsBefore p q
is_before-true p q is = elim (cases_Bool (nat_lt p.line q.line)) [
  | inl line ↦ inl (grind (arith, nat_tests))
  | inr no_line ↦
      let rest : ((p.line == q.line) && nat_lt p.character q.character) ≡ true =
      ap (λ b. b || ((p.line == q.line) && nat_lt p.character q.character)) (sym no_line) ∙ is in
      inr (grind (arith, nat_tests), grind (arith, nat_tests))
]

pub is_before-from : (p q : Position) → IsBefore p q → is_before p q ≡ true
is_before-from p q (inl line) = grind (arith, nat_tests)
is_before-from p q (inr character) = grind (arith, nat_tests)

-- the value of `cmp` on positions
less : (a b : ℕ) → a < b → nat_cmp a b ≡ Less
less a b h = sym (nat_cmp_is a b Less h)

greater : (a b : ℕ) → b < a → nat_cmp a b ≡ Greater
greater a b h = sym (nat_cmp_is a b Greater h)

equal : (a b : ℕ) → a ≡ b → nat_cmp a b ≡ Equal
equal a b h = sym (nat_cmp_is a b Equal h)

abbrev pub position_cmp : Position → Position → Ordering
position_cmp p q = ordering_then (nat_cmp p.line q.line) (nat_cmp p.character q.character)

pub position_cmp-before : (p q : Position) → IsBefore p q → position_cmp p q ≡ Less
position_cmp-before p q (inl line) =
    ap (λ o. ordering_then o (nat_cmp p.character q.character)) (less p.line q.line line)
position_cmp-before p q (inr later) =
    ap (λ o. ordering_then o (nat_cmp p.character q.character)) (equal p.line q.line later.0)
    ∙ less p.character q.character later.1

pub position_cmp-after : (p q : Position) → IsBefore q p → position_cmp p q ≡ Greater
position_cmp-after p q (inl line) =
    ap (λ o. ordering_then o (nat_cmp p.character q.character)) (greater p.line q.line line)
position_cmp-after p q (inr later) =
    ap (λ o. ordering_then o (nat_cmp p.character q.character)) (equal p.line q.line (sym later.0))
    ∙ greater p.character q.character later.1

pub position_cmp-same : (p q : Position) → p ≡ q → position_cmp p q ≡ Equal
position_cmp-same p q same =
    ap (λ o. ordering_then o (nat_cmp p.character q.character)) (equal p.line q.line (ap (λ r. r.line) same))
    ∙ equal p.character q.character (ap (λ r. r.character) same)
