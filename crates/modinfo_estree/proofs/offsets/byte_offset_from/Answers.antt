use Rattle.std.proofs.Common.{◌≡◌, ◌≤◌, ◌+◌, ◌*◌, ◌/◌, ◌<◌, length, get_or, refl, ap, sym, ◌∙◌, arith}
use Rattle.modinfo_estree.specs.Offsets.{unit_sizes}
use Rattle.modinfo_estree.specs.internal.Offsets.{unit_size}
use Rattle.modinfo_estree.proofs.UnitSizes.{next_unit, past_end, same_units, units_reached}
use Rattle.modinfo_estree.proofs.offsets.byte_offset_from.Goals as goal

pub loop-init : goal.loop-init
loop-init c =
    let base = 32 * (c.args.offset / 32) in
    same_units (unit_sizes c.args.text.now) base (base + 0) c.args.start c.args.start (omega arith) refl
    c.requires

pub loop-preserved : goal.loop-preserved
loop-preserved c =
    let text = c.args.text.now in
    let base = 32 * (c.args.offset / 32) in
    let units = base + c.loop.counter in
    let at = c.loop.at in
    let bytes = c.as_bytes-bytes.ensures.value in
    let within : at < length text = omega (arith, c.in-Some.ensures.lookup.3.0, ap length bytes) in
    let size : unit_size (get_or text at 0) ≡ c.unit_size-at.result =
    ap (λ bs. unit_size (get_or bs at 0)) (sym bytes) ∙ ap unit_size (sym (c.in-Some.ensures.lookup.3.1 0))
    ∙ sym c.unit_size-at.ensures.size in
    same_units (unit_sizes text) (units + 1) (base + (c.loop.counter + 1)) (at + unit_size (get_or text at 0))
    (at + c.unit_size-at.result) (omega arith) (ap (λ n. at + n) size)
    (next_unit text units at c.utf8.text c.loop.invariant within)

pub returns-in-None : goal.returns-in-None
returns-in-None c =
    let text = c.args.text.now in
    let units = 32 * (c.args.offset / 32) + c.loop.counter in
    let bytes = ap length c.as_bytes-bytes.ensures.value in
    let past : length text ≤ c.loop.at = omega (arith, c.in-None.ensures.lookup.3, bytes) in
    let more : units < c.args.offset = omega (arith, c.loop-test.true) in
    ap (λ n. n + 1) bytes ∙ past_end text units c.loop.at c.args.offset c.utf8.text c.loop.invariant past more

pub returns : goal.returns
returns c =
    let units = 32 * (c.args.offset / 32) + c.loop.counter in
    let all : units ≡ c.args.offset = omega (arith, c.loop-test.false) in
    units_reached c.args.text.now units c.loop.at c.args.offset c.loop.invariant all
