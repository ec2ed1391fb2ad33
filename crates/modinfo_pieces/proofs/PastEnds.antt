-- Where words and white space end: before other bytes, and at the end of a text.
use Rattle.std.proofs.Common.{◌≡◌, ℕ, ◌+◌, ◌==◌, ◌≤◌, Bool, true, false, ◌&&◌, ◌||◌, List, None, Option, Some}
use Rattle.std.proofs.Common.{if◌then◌else◌, length, nat_le, refl, slice_index}
use Rattle.std.proofs.lemmas.List.{get_or_past}
use Rattle.modinfo_pieces.specs.Spaces.{is_space_of_three, space_size}
use Rattle.modinfo_pieces.specs.Words.{escape_size, is_word_byte, word_step}

pub space_size-past : (text : List ℕ) (at : ℕ) → length text ≤ at → space_size text at ≡ 0
unfolding space_size is_space_of_three
space_size-past text at past = rw (get_or_past text at 0 past) refl

pub word_step-past : (text : List ℕ) (at : ℕ) → length text ≤ at → word_step text at ≡ None
unfolding word_step is_word_byte
word_step-past text at past = rw (get_or_past text at 0 past) refl

-- A word goes on with a letter or a digit.
pub word_step-letter : (text : List ℕ) (at : ℕ) → is_word_byte (slice_index text at) ≡ true
    → word_step text at ≡ Some (at + 1)
unfolding word_step
word_step-letter text at is = rw is refl

none_of : (wide escape : Bool) (byte : Bool) (one two : Option ℕ) → (wide || escape) ≡ false
    → (if (wide && byte) then one else (if escape then two else None)) ≡ None
none_of false false byte one two neither = refl
none_of true escape byte one two neither = cc
none_of false true byte one two neither = cc

-- A word ends before any other byte but those of escapes and of characters above U+007F.
pub word_step-other : (text : List ℕ) (at : ℕ) → is_word_byte (slice_index text at) ≡ false
    → (nat_le 128 (slice_index text at) || (slice_index text at == 92)) ≡ false → word_step text at ≡ None
unfolding word_step
word_step-other text at is neither =
    rw is (none_of (nat_le 128 (slice_index text at)) (slice_index text at == 92) (space_size text at == 0)
    (Some (at + 1)) (Some (at + escape_size text at)) neither)
