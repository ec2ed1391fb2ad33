use Rattle.std.proofs.Common.{◌≤◌, ◌<◌, ◌/◌, length, get_or, ap, ◌∙◌, arith}
use Rattle.modinfo_estree.specs.Offsets.{offset_in}
use Rattle.modinfo_estree.proofs.UnitSizes.{in_units, none_held, start_held}
use Rattle.modinfo_estree.proofs.offsets.Offsets.byte_offset.Goals as goal

pub byte_offset_from-requires : goal.byte_offset_from-requires
byte_offset_from-requires c =
    let fields = c.self.inside in
    let k = c.args.offset / 32 in
    let table = c.deref.ensures.value in
    let within : k < length fields.bytes.items =
    omega (arith, c.in-Some.ensures.lookup.3.0, ap length table) in
    start_held fields.unit fields.text.now fields.bytes.items c.args.offset c.in-Some.start.now c.in-Utf16.is
    c.self.invariant within (c.in-Some.ensures.lookup.3.1 0 ∙ ap (λ bs. get_or bs k 0) table)

pub returns-in-Some : goal.returns-in-Some
returns-in-Some c =
    let fields = c.self.inside in
    c.byte_offset_from.ensures ∙ in_units fields.unit fields.text.now c.args.offset c.in-Utf16.is
    ∙ ap (λ counted. offset_in counted.unit counted.text c.args.offset) c.self.view_is

pub returns-in-None : goal.returns-in-None
returns-in-None c =
    let fields = c.self.inside in
    let after : length fields.bytes.items ≤ c.args.offset / 32 =
    omega (arith, c.in-None.ensures.lookup.3, ap length c.deref.ensures.value) in
    none_held fields.unit fields.text.now fields.bytes.items c.args.offset c.in-Utf16.is c.self.invariant
    after
    ∙ ap (λ counted. offset_in counted.unit counted.text c.args.offset) c.self.view_is
