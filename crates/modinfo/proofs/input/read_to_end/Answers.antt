use Rattle.std.proofs.Common.{◌≡◌, ◌++◌, ◌<◌, take, rules, sym, subst, ap, ◌∙◌, append-nil}
use Rattle.std.specs.Io.KnownBytes.{Consumes, ReadConsumes}
use Rattle.std.proofs.KnownBytes.{Consumes-nil, Consumes-trans, Consumes-kept, Consumes-whole}
use Rattle.modinfo.proofs.input.read_to_end.Goals.{in-Ok+in_ok-extend_from_slice-in-Ok, in-Err}
use Rattle.modinfo.proofs.input.read_to_end.Goals as goal

-- Nothing was read yet.
pub reads-init : goal.reads-init
reads-init g c = (
  subst (Consumes (g.R.Read.remaining c.args.input.now) (g.R.Read.remaining c.args.input.now))
      (sym c.new-bytes.ensures.items) (Consumes-nil _),
  search rules,
)

-- A read of no bytes is at the end of the input.
pub returns-in-Ok-eq0 : goal.returns-in-Ok-eq0
returns-in-Ok-eq0 g c =
    let before = g.R.Read.remaining c.reads.input in
    let after = g.R.Read.remaining c.read.new.self in
    let read = subst (λ r. ReadConsumes before after r c.read.new.buf) c.in-Ok-eq0.is c.read.ensures.bytes in
    let items = c.reads.bytes.items in
    Consumes-whole _ _ _ (λ left. items ≡ left) (Consumes-trans _ _ _ _ _ c.reads.invariant.0 read.0)
    (read.1 c.in-Ok-eq0.field-0-test (subst (λ n. 0 < n) (sym c.read.auto.buf) c.reads.invariant.1))
    (sym (ap (λ n. items ++ take n c.read.new.buf) c.in-Ok-eq0.field-0-test ∙ append-nil items))

-- The bytes of a read are appended to those before, and a failed read takes no bytes.
pub reads-preserved : goal.reads-preserved
reads-preserved g c =
    let room = subst (λ n. 0 < n) (sym c.read.auto.buf) c.reads.invariant.1 in
    elim c.match-read.branch [
      | in-Ok+in_ok-extend_from_slice-in-Ok w ↦
          let put = w.in_ok-extend_from_slice-in-Ok.ensures.items in
          (rw (w.bytes-is, put) (Consumes-trans _ _ _ _ _ c.reads.invariant.0 w.in-Ok.ensures.bytes.0), room)
      | in-Err w ↦ (rw (w.bytes-is) (Consumes-kept _ _ _ _ c.reads.invariant.0 w.in-Err.ensures.bytes), room)
    ]
