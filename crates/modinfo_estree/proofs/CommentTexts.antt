-- What `strip_prefix`, `strip_suffix` and `contains` return.
use Rattle.std.proofs.Common.{◌≡◌, ℕ, ◌+◌, ◌-◌, ◌||◌, Bool, true, false, eqb, List, [], ◌∷◌, ◌++◌, codes}
use Rattle.std.proofs.Common.{length, take, drop, Option, Some, None, ap, refl, subst, sym, true≢false, ◌∙◌}
use Rattle.std.proofs.Common.{arith}
use Rattle.std.proofs.lemmas.Slice.Eq.{starts_is}
use Rattle.std.proofs.lemmas.Str.Pattern.{ends_text, starts_text}
use Rattle.std.specs.Bool.{Decides}
use Rattle.std.specs.Cmp.{unsigned_Decides}
use Rattle.std.specs.List.{ends_with, starts_with}
use Rattle.std.specs.Option.{MatchOption}
use Rattle.std.specs.Str.{IsCharBoundary}
use Rattle.std.specs.Str.Iter.{HasSubslice}
use Rattle.std.specs.Str.Pattern.{FindsTextPrefix, FindsTextSuffix}
use Rattle.modinfo_estree.specs.Comments.{has_close}
use denote.Ref.{Bor}

pub starts : (text start : List ℕ) (r : Option (Bor (List ℕ)))
    → MatchOption r (FindsTextPrefix start text None) (λ x. (n : ℕ) × FindsTextPrefix start text (Some n)
    × (x.now ≡ drop n text) × (length x.now + n ≡ length text))
    → MatchOption r (starts_with eqb text start ≡ false) (λ x. (starts_with eqb text start ≡ true)
    × (x.now ≡ drop (length start) text))
starts text start None found = sym (starts_text false start text found)
starts text start (Some x) found =
    let size = found.1.0 in (
      sym (starts_text true start text
          (found.0, found.1, subst (IsCharBoundary text) (sym size) found.1.2)),
      found.2 ∙ ap (λ n. drop n text) size,
    )

pub ends : (text end : List ℕ) (r : Option (Bor (List ℕ)))
    → MatchOption r (FindsTextSuffix end text None) (λ x. (n : ℕ) × FindsTextSuffix end text (Some n)
    × (x.now ≡ take (length text - n) text) × (length x.now + n ≡ length text))
    → MatchOption r (ends_with eqb text end ≡ false) (λ x. (ends_with eqb text end ≡ true)
    × (x.now ≡ take (length text - length end) text))
ends text end None found = sym (ends_text false end text found)
ends text end (Some x) found =
    let size = found.1.0 in (
      sym (ends_text true end text (
        found.0,
        found.1,
        omega (arith, found.3),
        subst (λ n. IsCharBoundary text (length text - n)) (sym size) found.1.2,
      )),
      found.2 ∙ ap (λ n. take (length text - n) text) size,
    )

-- ---- A `*/` among bytes

or_true : (t : Bool) → (t || true) ≡ true
or_true true = refl
or_true false = refl

found_after : (first : Bool) (b : ℕ) (bs : List ℕ) → first ≡ starts_with eqb (b ∷ bs) (codes "*/")
    → (has_close bs ≡ true → HasSubslice bs (codes "*/")) → (first || has_close bs) ≡ true
    → HasSubslice (b ∷ bs) (codes "*/")
found_after true b bs is later e =
    ([], drop 2 (b ∷ bs), (starts_is unsigned_Decides (b ∷ bs) (codes "*/") true is).0 refl)
found_after false b bs is later e =
    let found = later e in (b ∷ found.0, found.1, ap (λ l. b ∷ l) found.2)

close_found : (bs : List ℕ) → has_close bs ≡ true → HasSubslice bs (codes "*/")
close_found [] e = absurd (true≢false (sym e))
close_found (b ∷ bs) e =
    found_after (starts_with eqb (b ∷ bs) (codes "*/")) b bs refl (close_found bs) e

close_between : (front rest : List ℕ) → has_close (front ++ (codes "*/" ++ rest)) ≡ true
close_between [] rest = refl
close_between (b ∷ front) rest =
    let others = front ++ (codes "*/" ++ rest) in
    ap (λ t. starts_with eqb (b ∷ others) (codes "*/") || t) (close_between front rest)
    ∙ or_true (starts_with eqb (b ∷ others) (codes "*/"))

pub closes : (bs : List ℕ) → Decides (has_close bs) (HasSubslice bs (codes "*/"))
closes bs = (
  close_found bs,
  λ found. subst (λ l. has_close l ≡ true) (sym found.2) (close_between found.0 found.1),
)
