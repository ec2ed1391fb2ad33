-- Below U+0080 there is no white space but that of ASCII.
use Rattle.std.proofs.Common.{◌≡◌, ℕ, ◌<◌, arith}
use Rattle.modinfo_pieces.specs.Spaces.{is_space_of_three, wide_space_size}

pub wide_space_size-narrow : (first second third : ℕ) → first < 128 → wide_space_size first second third ≡ 0
unfolding is_space_of_three
wide_space_size-narrow first second third narrow = grind arith
