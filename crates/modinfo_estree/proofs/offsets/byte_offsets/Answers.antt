use Rattle.std.proofs.Common.{◌≡◌, ◌∷◌, ◌++◌, [], ◌≤◌, ◌+◌, ◌<◌, length, get_or, ap, sym, ◌∙◌, arith}
use Rattle.modinfo_estree.specs.Offsets.{unit_sizes}
use Rattle.modinfo_estree.specs.internal.Offsets.{HaveBytes, bytes_of_units, unit_size}
use Rattle.modinfo_estree.specs.internal.Tables.{at_32nds}
use Rattle.modinfo_estree.proofs.Tables.{none_more, one_more}
use Rattle.modinfo_estree.proofs.UnitSizes.{all_units, next_unit, no_units, same_units}
use Rattle.modinfo_estree.proofs.offsets.byte_offsets.Goals as goal
use Rattle.modinfo_estree.proofs.offsets.byte_offsets.Goals.{then-units-eq0+in_ok-push-2, else-units-eq0}

pub loop-end-init : goal.loop-end-init
loop-end-init c = record {
  offsets = c.in_ok-push.ensures.items ∙ ap (λ l. l ++ 0 ∷ []) c.in_ok-offsets.ensures.items;
  fewer = omega arith;
  end = no_units (unit_sizes c.args.text.now);
}

pub loop-end-preserved : goal.loop-end-preserved
loop-end-preserved c =
    let text = c.args.text.now in
    let sizes = unit_sizes text in
    let f = bytes_of_units sizes in
    let units = c.loop-end.units in
    let end = c.loop-end.end in
    let inv = c.loop-end.invariant in
    let bytes = c.as_bytes-bytes.ensures.value in
    let within : end < length text = omega (arith, c.loop-end-test.true, ap length bytes) in
    let size : unit_size (get_or text end 0) ≡ c.unit_size-end.result =
    ap (λ bs. unit_size (get_or bs end 0)) (sym bytes) ∙ sym c.unit_size-end.ensures.size in
    let more : end + unit_size (get_or text end 0) ≡ end + c.unit_size-end.result = ap (λ n. end + n) size in
    let next : HaveBytes sizes (units + 1) (end + c.unit_size-end.result) =
    same_units sizes (units + 1) (units + 1) (end + unit_size (get_or text end 0)) (end +
    c.unit_size-end.result)
    (omega arith) more (next_unit text units end c.utf8.text inv.end within) in
    record {
      offsets = elim c.if-units-eq0.branch [
        | then-units-eq0+in_ok-push-2 w ↦
            ap (λ v. v.items) w.offsets-is ∙ w.in_ok-push-2.ensures.items
            ∙ one_more f c.loop-end.offsets.items units (end + c.unit_size-end.result) inv.offsets
            w.if-units-eq0.true next.bytes_are
        | else-units-eq0 w ↦
            ap (λ v. v.items) w.offsets-is
            ∙ none_more f c.loop-end.offsets.items units inv.offsets w.if-units-eq0.false
      ];
      fewer = omega (arith, inv.fewer, c.unit_size-end.ensures.low);
      end = next;
    }

pub returns : goal.returns
returns c =
    let text = c.args.text.now in
    let past : length text ≤ c.loop-end.end =
    omega (arith, c.loop-end-test.false, ap length c.as_bytes-bytes.ensures.value) in
    let all = all_units text c.loop-end.units c.loop-end.end c.utf8.text c.loop-end.invariant.end past in
    c.loop-end.invariant.offsets ∙ ap (at_32nds (bytes_of_units (unit_sizes text))) all
