use Rattle.std.proofs.Common.{◌≡◌, length, min, take, ap, ◌∙◌, arith}
use Rattle.std.proofs.lemmas.List.{take_min}
use Rattle.modinfo_estree.proofs.comments.front.Goals as goal

pub returns : goal.returns
returns c =
    let text = c.args.text.now in
    let same : c.as_bytes-bytes.result.now ≡ text = cc in
    let size : c.min.result ≡ min c.args.end (length text) =
    omega (arith, c.min.ensures, ap length same) in
    ap (λ n. take n c.as_bytes-bytes.result.now) size ∙ ap (take (min c.args.end (length text))) same
    ∙ take_min c.args.end text
