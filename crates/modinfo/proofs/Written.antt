-- Writing a whole text, or a beginning.
use Rattle.std.proofs.Common.{◌≡◌, ℕ, zero, suc, ◌+◌, List, [], ◌∷◌, ◌++◌, length, take, Option, Some, None}
use Rattle.std.proofs.Common.{IfSome, MatchResult, Result, Ok, Err, is_ok, true, false, codes, if◌then◌else◌}
use Rattle.std.proofs.Common.{unwrap_or, refl, sym, ap, subst, arith}
use Rattle.std.specs.Io.KnownBytes.{Appends}
use Rattle.std.proofs.KnownBytes.{Appends-trans}
use Rattle.std.proofs.Math.Seq.{take-append-add}
use Rattle.std.proofs.lemmas.List.{take_all}
use Rattle.modinfo.specs.Fault.{IsWriteFault, is_closed, name_of_fault}
use Rattle.modinfo.specs.Run.{AppendsFront, error_line}
use Rattle.modinfo.specs.declared.fault.Fault.{Fault}

-- A beginning of the first text is a beginning of both.
front_taken : (n : ℕ) (xs ys : List ℕ) → (m : ℕ) × (take m (xs ++ ys) ≡ take n xs)
front_taken n [] ys = (0, sym (take_all n [] (omega arith)))
front_taken zero (x ∷ xs) ys = (0, refl)
front_taken (suc n) (x ∷ xs) ys =
    let rest = front_taken n xs ys in
    (suc rest.0, ap (λ l. x ∷ l) rest.1)

pub front_of_both : (a b : Option (List ℕ)) (xs ys : List ℕ) → AppendsFront a b xs
    → AppendsFront a b (xs ++ ys)
front_of_both a b xs ys front =
    let taken = front_taken front.0 xs ys in
    (taken.0, subst (Appends a b) (sym taken.1) front.1)

-- A text was written, and then a beginning of another.
pub front_after : (a b c : Option (List ℕ)) (xs ys : List ℕ) → Appends a b xs → AppendsFront b c ys
    → AppendsFront a c (xs ++ ys)
front_after a b c xs ys whole front = (
  length xs + front.0,
  subst (Appends a c) (sym (take-append-add xs ys front.0))
      (Appends-trans a b c xs (take front.0 ys) whole front.1),
)

-- The whole text is a beginning.
pub whole_front : (a b : Option (List ℕ)) (xs : List ℕ) → Appends a b xs → AppendsFront a b xs
whole_front a b xs whole = (
  length xs,
  subst (Appends a b) (sym (take_all (length xs) xs
      (omega arith))) whole,
)

pub front_of_result : {A : Type 0} (written : Result A Fault) (a b : Option (List ℕ)) (xs : List ℕ)
    → MatchResult written (λ _. Appends a b xs) (λ fault. IsWriteFault fault × AppendsFront a b xs)
    → AppendsFront a b xs
front_of_result (Ok _) a b xs whole = whole_front a b xs whole
front_of_result (Err fault) a b xs failed = failed.1

pub whole_of_result : {A : Type 0} (written : Result A Fault) (a b : Option (List ℕ)) (xs : List ℕ)
    → is_ok written ≡ true
    → MatchResult written (λ _. Appends a b xs) (λ fault. IsWriteFault fault × AppendsFront a b xs)
    → Appends a b xs
whole_of_result (Ok _) a b xs is whole = whole
whole_of_result (Err fault) a b xs is failed = cc (is)

-- The line of a fault, by whether the reader of the output ended.

pub line_of_closed : (fault : Fault) → is_closed fault ≡ true → error_line fault ≡ []
line_of_closed fault closed =
    ap (λ is. if is then [] else codes "modinfo: " ++ name_of_fault fault ++ codes "\n") closed

pub line_of_fault : (fault : Fault) → is_closed fault ≡ false
    → error_line fault ≡ codes "modinfo: " ++ name_of_fault fault ++ codes "\n"
line_of_fault fault apart =
    ap (λ is. if is then [] else codes "modinfo: " ++ name_of_fault fault ++ codes "\n") apart

-- The bytes if they are known, else none.
pub known_or_none : (known : Option (List ℕ)) → IfSome known (λ left. unwrap_or known [] ≡ left)
known_or_none (Some left) = refl
known_or_none None = tt
