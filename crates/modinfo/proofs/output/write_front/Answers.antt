use Rattle.std.proofs.Common.{Bor, List, ℕ, ◌-◌, ◌≡◌, ◌++◌, [], drop, take, length, rules, sym, ap, ◌∙◌}
use Rattle.std.proofs.Common.{subst, append_assoc, append-nil, take-append-drop, drop_of_length-le}
use Rattle.std.specs.Io.KnownBytes.{Appends, WriteAppends}
use Rattle.std.proofs.KnownBytes.{Appends-kept, Appends-trans}
use Rattle.std.proofs.lemmas.List.{take_rest}
use Rattle.modinfo.specs.Run.{AppendsFront}
use Rattle.modinfo.proofs.LinesTaken.{AppendsFront-more, AppendsFront-sent}
use Rattle.modinfo.proofs.output.write_front.Goals.{in-Ok, in-Err}
use Rattle.modinfo.proofs.output.write_front.Goals as goal

-- The bytes of a write move from the rest to those that were written.
moves_front : (all done rest : List ℕ) (n : ℕ) → all ≡ done ++ rest
    → all ≡ (done ++ take n rest) ++ take (length rest - n) (drop n rest)
moves_front all done rest n e =
    e ∙ ap (λ l. done ++ l) (sym (take-append-drop n rest))
    ∙ sym (append_assoc done (take n rest) (drop n rest))
    ∙ ap (λ l. (done ++ take n rest) ++ l) (sym (take_rest rest n))

pub returns-then-is_empty : goal.returns-then-is_empty
returns-then-is_empty g c =
    let (done, split, appended) = c.writes.invariant in
    let rest = c.writes.rest.now in
    let empty : rest ≡ [] = drop_of_length-le rest {i = 0} (search rules) in
    subst (Appends _ _) (sym (split ∙ ap (λ l. done ++ l) empty ∙ append-nil done)) appended

pub returns-in-Ok-eq0 : goal.returns-in-Ok-eq0
returns-in-Ok-eq0 g c =
    let (done, split, appended) = c.writes.invariant in
    let before = g.W.Write.contents c.writes.output in
    let after = g.W.Write.contents c.write.new.self in
    let wrote = subst (λ r. WriteAppends before after r c.writes.rest.now) c.in-Ok-eq0.is
    c.write.ensures.bytes in (
      tt,
      subst (AppendsFront _ _) (sym split) (AppendsFront-more _ before after done c.writes.rest.now appended
          (c.in-Ok-eq0.field-0, wrote)),
    )

pub returns-in-Err-2 : goal.returns-in-Err-2
returns-in-Err-2 g c =
    let (done, split, appended) = c.writes.invariant in (
      c.of_write.ensures.write,
      subst (AppendsFront _ _) (sym split) (AppendsFront-sent _ _ done c.writes.rest.now
          (Appends-kept _ _ _ done appended c.in-Err-2.ensures.bytes)),
    )

pub writes-preserved : goal.writes-preserved
writes-preserved g c =
    let (done, split, appended) = c.writes.invariant in
    let rest = c.writes.rest.now in
    elim c.match-write.branch [
      | in-Ok w ↦ (
        done ++ take w.in-Ok.count rest,
        moves_front _ done rest w.in-Ok.count split
            ∙ ap (λ (r : Bor (List ℕ)). (done ++ take w.in-Ok.count rest) ++ r.now) (sym w.rest-is),
        Appends-trans _ _ _ _ _ appended w.in-Ok.ensures.bytes,
      )
      | in-Err w ↦ (
        done,
        split ∙ ap (λ (r : Bor (List ℕ)). done ++ r.now) (sym w.rest-is),
        Appends-kept _ _ _ done appended w.in-Err.ensures.bytes,
      )
    ]

pub returns : goal.returns
returns g c =
    let (done, split, appended) = c.writes.invariant in (
      tt,
      subst (AppendsFront _ _) (sym split) (AppendsFront-sent _ _ done c.writes.rest.now appended),
    )
