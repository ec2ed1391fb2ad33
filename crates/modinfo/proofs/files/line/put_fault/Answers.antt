use Rattle.std.proofs.Common.{◌∙◌, ◌++◌, ap}
use Rattle.modinfo.proofs.files.line.put_fault.Goals as goal

pub returns : goal.returns
returns c = (
  c.as_str.result.now,
  c.in_ok-extend_from_slice.ensures.items
      ∙ ap (λ l. c.args.waiting.now.items ++ l) (c.as_bytes.ensures.value ∙ c.in_ok-line.ensures),
)
