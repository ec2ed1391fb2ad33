-- What nodes are read with.
use Rattle.std.specs.Prelude.{ℕ, List, Bool}
use Rattle.modinfo_estree.specs.Offsets.{Counted, offset_in}
use Rattle.modinfo_estree.specs.declared.source.Source.{Source}

-- A text, the unit of the offsets in its tree, and where its tokens are.
pub record EstreeSource : Type 0 where
  -- The bytes of the text.
  pub text : List ℕ
  -- The text with the unit of its offsets.
  pub counted : Counted
  -- For each byte whether it is between two tokens.
  pub gaps : List Bool

-- The offset in bytes of an offset in the tree.
abbrev pub byte_in : Counted → ℕ → ℕ
byte_in counted offset = offset_in counted.unit counted.text offset

abbrev pub byte_of : EstreeSource → ℕ → ℕ
byte_of source = byte_in source.counted

abbrev pub gaps : EstreeSource → List Bool
gaps source = source.gaps

-- The source that the code has.
abbrev pub source_of : Source → EstreeSource
source_of source = record { text = source.text.now; counted = source.offsets; gaps = source.tokens.is_gap }
