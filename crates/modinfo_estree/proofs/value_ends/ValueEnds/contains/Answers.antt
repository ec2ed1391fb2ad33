use Rattle.std.proofs.Common.{◌≡◌, ℕ, ◌<◌, ◌≤◌, false, length, nat_lt, get_or, ap, sym, true≢false, ◌∙◌}
use Rattle.std.proofs.Common.{arith}
use Rattle.std.proofs.lemmas.Bool.{ltb_from_iff}
use Rattle.std.proofs.lemmas.List.{get_or_past}
use Rattle.std.proofs.lemmas.List.FromFn.{get_or-map-range_with_len, length-map-range_with_len}
use Rattle.modinfo_estree.specs.internal.ValueEnds.{is_among, table_of}
use Rattle.modinfo_estree.proofs.value_ends.ValueEnds.contains.Goals as goal

ltb_is_false : (m n : ℕ) → n ≤ m → nat_lt m n ≡ false
ltb_is_false m n past =
    sym (ltb_from_iff (λ e. absurd (true≢false (sym e)), λ below. absurd (omega (arith, past, below))))

pub returns-then-at-self : goal.returns-then-at-self
returns-then-at-self c =
    let at = c.args.at in
    let found = c.self.inside in
    let within : at < found.offsets = omega (arith, c.if-at-self.true) in
    c.contains.ensures
    ∙ sym (get_or-map-range_with_len (is_among found.ends) 0 found.offsets at at false within (omega arith))
    ∙ ap (λ table. get_or table at false) c.self.view_is

pub returns-else-at-self : goal.returns-else-at-self
returns-else-at-self c =
    let at = c.args.at in
    let found = c.self.inside in
    let table = table_of found.offsets found.ends in
    let past : length table ≤ at =
    omega (arith, c.if-at-self.false, length-map-range_with_len (is_among found.ends) 0 found.offsets) in
    ltb_is_false at found.offsets c.if-at-self.false
    ∙ sym (get_or_past table at false past)
    ∙ ap (λ table. get_or table at false) c.self.view_is
