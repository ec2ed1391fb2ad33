-- The lossy text of a string, and of strings without surrogates and empty strings.
use Rattle.std.proofs.Common.{◌≡◌, ℕ, ◌+◌, ◌<◌, Bool, true, false, not, ◌&&◌, List, [], ◌∷◌, map, length}
use Rattle.std.proofs.Common.{get_or, nat_eq, nat_le, nat_lt, encode_utf8_all, Some, None, refl, sym, ap}
use Rattle.std.proofs.Common.{subst, cond, ◌∙◌, ⊎_elim, arith}
use Rattle.std.specs.Char.{IsScalar, len_utf8}
use Rattle.std.specs.Char.Utf16.{is_high_surrogate}
use Rattle.std.specs.List.{AllByRecursion, list_all}
use Rattle.std.specs.Str.{chars, IsUtf8, all_scalars}
use Rattle.std.proofs.lemmas.Bool.{and_parts, and_from, ltb-true, lt-ltb, le-ltb, lt-leb, false≢true}
use Rattle.std.proofs.lemmas.Bool.{cases_lt, cases_Bool, eq-eqb, ne_eqb, not-true, false_from_ne_true}
use Rattle.std.proofs.lemmas.Bool.Decides.{same_from_decides, Decides-like, Decides-and, Decides-eqb}
use Rattle.std.proofs.lemmas.List.{get_or_past}
use Rattle.std.proofs.lemmas.Slice.Eq.{slice_eq-Decides, bytes_eq-Decides}
use Rattle.std.specs.Bool.{Decides}
use Rattle.std.specs.Cmp.Lexicographic.{pointwise}
use Rattle.std.proofs.lemmas.List.Elements.{All-from_recursion, recursion_from_All}
use Rattle.std.proofs.lemmas.Str.{chars-nil, chars-encodes, encodes-chars, scalars-chars, len_utf8_bounds}
use Rattle.std.proofs.Math.Utf8.{scalar_cases}
use Rattle.deno_graph_base.specs.JsString.{is_surrogate, lossy_char, lossy_text, readable_text, IsReadable}
use Rattle.deno_graph_base.specs.JsString.{IsPaired}
use Rattle.deno_graph_base.specs.internal.StoredString.{lone_from, points_from, points_of, IsStored}

-- a character is no surrogate
pub is_surrogate-scalar : (c : ℕ) → IsScalar c → is_surrogate c ≡ false
is_surrogate-scalar c s =
    ⊎_elim (λ low. ap (λ b. b && nat_lt c 0xE000) (lt-leb 0xD800 c low))
    (λ high. ap (λ b. nat_le 0xD800 c && b) (le-ltb c 0xE000 high.0) ∙ and_false (nat_le 0xD800 c))
    (scalar_cases c s)
  where
    and_false : (b : Bool) → (b && false) ≡ false
    and_false true = refl
    and_false false = refl

-- characters are no surrogates
abbrev pub NoSurrogates : List ℕ → Type 0
NoSurrogates = AllByRecursion (λ p. is_surrogate p ≡ false)

pub NoSurrogates-scalars : (cs : List ℕ) → all_scalars cs ≡ true → NoSurrogates cs
NoSurrogates-scalars [] s = tt
NoSurrogates-scalars (c ∷ cs) s =
    let both = and_parts _ _ s in (is_surrogate-scalar c both.0, NoSurrogates-scalars cs both.1)

pub IsReadable-chars : (text : List ℕ) → IsUtf8 text → IsReadable (chars text)
IsReadable-chars text u =
    All-from_recursion _ (chars text) (NoSurrogates-scalars (chars text) (scalars-chars text u))

-- without surrogates the lossy text is the text
map-lossy_char : (ps : List ℕ) → NoSurrogates ps → map lossy_char ps ≡ ps
map-lossy_char [] n = refl
map-lossy_char (p ∷ ps) n = rw (n.0, map-lossy_char ps n.1)

pub map-lossy_char-readable : (ps : List ℕ) → IsReadable ps → map lossy_char ps ≡ ps
map-lossy_char-readable ps r = map-lossy_char ps (recursion_from_All _ ps r)

pub lossy_text-readable : (ps : List ℕ) → IsReadable ps → lossy_text ps ≡ encode_utf8_all ps
lossy_text-readable ps r = ap encode_utf8_all (map-lossy_char-readable ps r)

-- the test of a string without surrogates
readable_test : (ps : List ℕ) → NoSurrogates ps → list_all (λ p. not (is_surrogate p)) ps ≡ true
readable_test [] n = refl
readable_test (p ∷ ps) n = rw n.0 (readable_test ps n.1)

test_readable : (ps : List ℕ) → list_all (λ p. not (is_surrogate p)) ps ≡ true → NoSurrogates ps
test_readable [] e = tt
test_readable (p ∷ ps) e =
    let both = and_parts (not (is_surrogate p)) (list_all (λ q. not (is_surrogate q)) ps) e in
    (not-true _ both.0, test_readable ps both.1)

pub readable_text-readable : (ps : List ℕ) → IsReadable ps → readable_text ps ≡ Some (lossy_text ps)
readable_text-readable ps r =
    ap (λ b. cond b (Some (lossy_text ps)) None) (readable_test ps (recursion_from_All _ ps r))

pub readable_text-unreadable : (ps : List ℕ) → (IsReadable ps → ⊥) → readable_text ps ≡ None
readable_text-unreadable ps r =
    ap (λ b. cond b (Some (lossy_text ps)) None)
    (false_from_ne_true _ (λ e. r (All-from_recursion _ ps (test_readable ps e))))

-- a string has no lone surrogate exactly if it is readable
none_lone : (at : ℕ) (ps : List ℕ) → NoSurrogates ps → lone_from at ps ≡ []
none_lone at [] n = refl
none_lone at (p ∷ ps) n = rw n.0 (none_lone (at + len_utf8 p) ps n.1)

pub lone_from-readable : (at : ℕ) (ps : List ℕ) → IsReadable ps → lone_from at ps ≡ []
lone_from-readable at ps r = none_lone at ps (recursion_from_All _ ps r)

readable_none : (at : ℕ) (ps : List ℕ) → lone_from at ps ≡ [] → NoSurrogates ps
readable_none at [] e = tt
readable_none at (p ∷ ps) e =
    ⊎_elim (λ t. let h = rw t at e in absurd cc)
    (λ f. let h = rw f at e in (f, readable_none (at + len_utf8 p) ps h)) (cases_Bool (is_surrogate p))

pub IsReadable-none_lone : (at : ℕ) (ps : List ℕ) → lone_from at ps ≡ [] → IsReadable ps
IsReadable-none_lone at ps e = All-from_recursion _ ps (readable_none at ps e)

-- without surrogates no high surrogate is before a low one
is_surrogate-high : (p : ℕ) → is_high_surrogate p ≡ true → is_surrogate p ≡ true
is_surrogate-high p h =
    let both = and_parts _ _ h in
    and_from _ _ both.0 (lt-ltb p 0xE000 (omega (arith, ltb-true p 0xDC00 both.1)))

pub IsPaired-readable : (ps : List ℕ) → IsReadable ps → IsPaired ps
IsPaired-readable ps r k high low =
    ⊎_elim (λ inside. false≢true (sym (r k 0 inside) ∙ is_surrogate-high (get_or ps k 0) high))
    (λ past. let none : get_or ps k 0 ≡ 0 = get_or_past ps k 0 past in let h = rw none at high in
    false≢true h) (cases_lt k (length ps))

-- a stored text without surrogates has its own characters as code points
pub points_from-none_lone : (at : ℕ) (cs : List ℕ) → points_from at cs [] ≡ cs
points_from-none_lone at [] = refl
points_from-none_lone at (c ∷ cs) = refl

pub IsStored-text : (text : List ℕ) → IsUtf8 text → IsStored text []
IsStored-text text u =
    let same = points_from-none_lone 0 (chars text) in
    let readable = IsReadable-chars text u in
    record {
      characters = rw same (sym (map-lossy_char-readable (chars text) readable));
      offsets = rw same (sym (lone_from-readable 0 (chars text) readable));
      paired = rw same (IsPaired-readable (chars text) readable);
    }

-- the stored text is the lossy text of the string
pub lossy_text-stored : (text : List ℕ) (lone : List (ℕ × ℕ)) → IsUtf8 text → IsStored text lone
    → text ≡ lossy_text (points_of text lone)
lossy_text-stored text lone u s = sym (encodes-chars text u) ∙ ap encode_utf8_all s.characters

-- the stored text is empty exactly if the string is
pub text_empty : (text : List ℕ) (lone : List (ℕ × ℕ)) → IsUtf8 text → IsStored text lone
    → points_of text lone ≡ [] → text ≡ []
text_empty text lone u s e = lossy_text-stored text lone u s ∙ ap lossy_text e

pub points_empty : (text : List ℕ) (lone : List (ℕ × ℕ)) → text ≡ [] → points_of text lone ≡ []
points_empty text lone e = rw (e, chars-nil)

-- a readable string is stored without lone surrogates, and its characters are those of the text
pub readable_stored : (text : List ℕ) (lone : List (ℕ × ℕ)) → IsStored text lone → lone ≡ []
    → IsReadable (points_of text lone)
readable_stored text lone s e = IsReadable-none_lone 0 _ (sym s.offsets ∙ e)

pub encoded_stored : (text : List ℕ) (lone : List (ℕ × ℕ)) → IsUtf8 text → IsStored text lone → lone ≡ []
    → text ≡ encode_utf8_all (points_of text lone)
encoded_stored text lone u s e =
    lossy_text-stored text lone u s ∙ lossy_text-readable _ (readable_stored text lone s e)

pub stored_readable : (text : List ℕ) (lone : List (ℕ × ℕ)) → IsStored text lone
    → IsReadable (points_of text lone) → lone ≡ []
stored_readable text lone s r = s.offsets ∙ lone_from-readable 0 _ r

-- the lossy text and the lone surrogates of code points determine the code points
abbrev IsLater : ℕ → List (ℕ × ℕ) → Type 0
IsLater at [] = Unit {0}
IsLater at (l ∷ lone) = nat_eq at l.0 ≡ false

IsLater-lone_from : (at from : ℕ) (ps : List ℕ) → at < from → IsLater at (lone_from from ps)
IsLater-lone_from at from [] h = tt
IsLater-lone_from at from (p ∷ ps) h =
    ⊎_elim (λ t. rw t (ne_eqb at from (λ e. omega arith)))
    (λ f. rw f (IsLater-lone_from at (from + len_utf8 p) ps (omega arith))) (cases_Bool (is_surrogate p))

points_from-later : (at c : ℕ) (cs : List ℕ) (lone : List (ℕ × ℕ)) → IsLater at lone
    → points_from at (c ∷ cs) lone ≡ c ∷ points_from (at + len_utf8 c) cs lone
points_from-later at c cs [] h = ap (λ l. c ∷ l) (sym (points_from-none_lone (at + len_utf8 c) cs))
points_from-later at c cs (l ∷ lone) h = rw h refl

points_from-at : (at c p : ℕ) (cs : List ℕ) (lone : List (ℕ × ℕ))
    → points_from at (c ∷ cs) ((at, p) ∷ lone) ≡ p ∷ points_from (at + len_utf8 c) cs lone
points_from-at at c p cs lone =
    ap (λ b. cond b (p ∷ points_from (at + len_utf8 c) cs lone)
    (c ∷ points_from (at + len_utf8 c) cs ((at, p) ∷ lone))) (eq-eqb at at refl)

pub points_from-lone_from : (at : ℕ) (ps : List ℕ) → points_from at (map lossy_char ps) (lone_from at ps) ≡ ps
points_from-lone_from at [] = refl
points_from-lone_from at (p ∷ ps) =
    ⊎_elim (λ t. rw t (points_from-at at 0xFFFD p (map lossy_char ps) (lone_from (at + 3) ps)
    ∙ ap (λ l. p ∷ l) (points_from-lone_from (at + 3) ps)))
    (λ f. rw f (points_from-later at p (map lossy_char ps) (lone_from (at + len_utf8 p) ps)
    (IsLater-lone_from at (at + len_utf8 p) ps (omega (arith, len_utf8_bounds p)))
    ∙ ap (λ l. p ∷ l) (points_from-lone_from (at + len_utf8 p) ps))) (cases_Bool (is_surrogate p))

pub points_of-lossy_text : (ps : List ℕ) → all_scalars (map lossy_char ps) ≡ true
    → points_of (lossy_text ps) (lone_from 0 ps) ≡ ps
points_of-lossy_text ps s = rw (chars-encodes (map lossy_char ps) s) (points_from-lone_from 0 ps)

pub IsStored-lossy_text : (ps : List ℕ) → all_scalars (map lossy_char ps) ≡ true → IsPaired ps
    → IsStored (lossy_text ps) (lone_from 0 ps)
IsStored-lossy_text ps s paired =
    let same = points_of-lossy_text ps s in
    record {
      characters = chars-encodes (map lossy_char ps) s ∙ ap (map lossy_char) (sym same);
      offsets = ap (lone_from 0) (sym same);
      paired = subst IsPaired (sym same) paired;
    }

-- two strings are equal exactly if their texts and their lone surrogates are
pair_Decides : (a b : ℕ × ℕ) → Decides (nat_eq a.0 b.0 && nat_eq a.1 b.1) (a ≡ b)
pair_Decides a b =
    Decides-like _ (λ e. pair_same a b e.0 e.1) (λ e. (ap (λ p. p.0) e, ap (λ p. p.1) e))
    (Decides-and _ _ (Decides-eqb a.0 b.0) (Decides-eqb a.1 b.1))
  where
    pair_same : (a b : ℕ × ℕ) → a.0 ≡ b.0 → a.1 ≡ b.1 → a ≡ b
    pair_same a b e f = λ i. (e i, f i)

abbrev pub same_pair : ℕ × ℕ → ℕ × ℕ → Bool
same_pair a b = nat_eq a.0 b.0 && nat_eq a.1 b.1

module _ (text other : List ℕ) (lone others : List (ℕ × ℕ)) (u : IsUtf8 text) (v : IsUtf8 other)
    (s : IsStored text lone) (t : IsStored other others) where
  -- the texts are equal, and `r` decides whether the surrogates are
  same_lone : (r : Bool) → text ≡ other → r ≡ pointwise same_pair lone others
      → r ≡ pointwise nat_eq (points_of text lone) (points_of other others)
  same_lone r e d =
      let by_lone = slice_eq-Decides pair_Decides lone others r d in
      let decides : Decides r (points_of text lone ≡ points_of other others) =
      Decides-like r (λ l. ap (points_of text) l ∙ ap (λ b. points_of b others) e)
      (λ p. s.offsets ∙ ap (lone_from 0) p ∙ sym t.offsets) by_lone in
      same_from_decides r _ decides (bytes_eq-Decides (points_of text lone) (points_of other others))

  -- by `r` the texts differ
  same_text : (r : Bool) → r ≡ false → r ≡ pointwise nat_eq text other
      → r ≡ pointwise nat_eq (points_of text lone) (points_of other others)
  same_text r f d =
      let by_text = slice_eq-Decides Decides-eqb text other r d in
      let same = λ (p : points_of text lone ≡ points_of other others). lossy_text-stored text lone u s
      ∙ ap lossy_text p ∙ sym (lossy_text-stored other others v t) in
      same_from_decides r _ (λ e. absurd (false≢true (sym f ∙ e)), λ p. by_text.1 (same p))
      (bytes_eq-Decides (points_of text lone) (points_of other others))

  module _ (ps qs : List ℕ) (d : points_of text lone ≡ ps) (e : points_of other others ≡ qs) where
    pub eq_lone : (r : Bool) → text ≡ other → r ≡ pointwise same_pair lone others → r ≡ pointwise nat_eq ps qs
    eq_lone r same l = same_lone r same l ∙ (λ i. pointwise nat_eq (d i) (e i))

    pub eq_text : (r : Bool) → r ≡ false → r ≡ pointwise nat_eq text other → r ≡ pointwise nat_eq ps qs
    eq_text r f l = same_text r f l ∙ (λ i. pointwise nat_eq (d i) (e i))
