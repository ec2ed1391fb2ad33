-- A table is held against a definition at each of the 256 bytes, by computing.
use Rattle.std.proofs.Common.{◌≡◌, ℕ, zero, suc, ◌<◌, Bool, true, false, ◌&&◌, not, nat_eq, bit_and, get_or}
use Rattle.std.proofs.Common.{List, refl, arith, inl, inr}
use Rattle.std.specs.Bool.{beq}
use Rattle.std.proofs.lemmas.Bool.{cases_eq}

-- Two tests agree on each number below another.
unfoldable pub agree_below : (ℕ → Bool) → (ℕ → Bool) → ℕ → Bool
agree_below one other zero = true
agree_below one other (suc n) = beq (one n) (other n) && agree_below one other n

both_of : (one other rest : Bool) → (beq one other && rest) ≡ true → (one ≡ other) × (rest ≡ true)
both_of true true rest agree = (refl, agree)
both_of true false rest agree = cc
both_of false true rest agree = cc
both_of false false rest agree = (refl, agree)

pub agree_at : (one other : ℕ → Bool) (n : ℕ) → agree_below one other n ≡ true → (byte : ℕ) → byte < n
    → one byte ≡ other byte
unfolding agree_below
agree_at one other zero agree byte less = absurd (omega arith)
agree_at one other (suc n) agree byte less =
    let both = both_of (one n) (other n) (agree_below one other n) agree in
    elim (cases_eq byte n)
    [ inl same ↦ rw same both.0 | inr differs ↦ agree_at one other n both.1 byte (omega arith) ]

-- A byte has this bit in the table.
abbrev pub has_bit : List ℕ → ℕ → ℕ → Bool
has_bit table bit byte = not (nat_eq (bit_and (get_or table byte 0) bit) 0)

pub from_table : (table : List ℕ) (bit : ℕ) (test : ℕ → Bool) (byte : ℕ) → byte < 256
    → agree_below (has_bit table bit) test 256 ≡ true → has_bit table bit byte ≡ test byte
from_table table bit test byte less agree = agree_at _ _ 256 agree byte less
