use Rattle.std.proofs.Common.{◌≡◌, length, min, take, ap, ◌∙◌, arith}
use Rattle.std.proofs.lemmas.List.{take_min}
use Rattle.modinfo_pieces.proofs.filed.front.Goals as goal

pub returns : goal.returns
returns c =
    let text = c.args.text.now in
    let size : c.min.result ≡ min c.args.end (length text) = omega (arith, c.min.ensures) in
    ap (λ n. take n text) size ∙ take_min c.args.end text
