-- One space as a piece.
use Rattle.std.proofs.Common.{◌≡◌, ℕ, ◌+◌, ◌-◌, ◌||◌, Bool, false}
use Rattle.std.proofs.Common.{true, List, arith, refl, slice_index, nat_le}
use Rattle.modinfo_imports.proofs.PlainBytes.{space_size-none}
use Rattle.modinfo_pieces.specs.Spaces.{has_line_end, is_ascii_space, is_line_end, space_size, space_step}
use Rattle.modinfo_pieces.specs.Steps.{Ends}
use Rattle.modinfo_pieces.specs.Steps.Reaches.{here, step}

pub Ends-one_space : (text : List ℕ) (at : ℕ) → slice_index text at ≡ 32
    → is_ascii_space (slice_index text (at + 1)) ≡ false → nat_le 128 (slice_index text (at + 1)) ≡ false
    → Ends (space_step text) at (at + 1)
unfolding space_size
Ends-one_space text at is no_space narrow = record {
  reached = step here (rw is refl);
  is_last = rw (space_size-none text (at + 1) no_space narrow) refl;
}

no_line-space : (text : List ℕ) (at : ℕ) → slice_index text at ≡ 32 → is_line_end text at ≡ false
unfolding is_line_end
no_line-space text at is = rw is refl

pub no_line-one_space : (text : List ℕ) (at : ℕ) → slice_index text at ≡ 32 → has_line_end text at 1 ≡ false
unfolding has_line_end
no_line-one_space text at is =
    let same : at + 0 ≡ at = omega arith in rw same (no_line-space text at is)

or_false : (one : Bool) → one ≡ (one || false)
or_false true = refl
or_false false = refl

pub line_end-one_space : (text : List ℕ) (at : ℕ) (is_after_line_end : Bool) → has_line_end text at 1 ≡ false
    → is_after_line_end ≡ (is_after_line_end || has_line_end text at (at + 1 - at))
line_end-one_space text at is_after_line_end unended =
    let one : at + 1 - at ≡ 1 = omega arith in rw (one, unended) (or_false is_after_line_end)
