use Rattle.std.proofs.Common.{◌≡◌, ◌↔◌, Bool, true, false, Result, Ok, Err, IfOk, refl}
use Rattle.std.proofs.lemmas.Bool.{false≢true}
use Rattle.modinfo_literals.specs.Literal.{Spells}
use Rattle.modinfo_literals.specs.Value.{is_spelled}
use Rattle.modinfo_literals.proofs.Decided.{decided}
use Rattle.modinfo_estree.proofs.literal.is_spelled.Goals as goal

-- two tests of one fact agree
same_test : (P : Type 0) (a b : Bool) → ((a ≡ true) ↔ P) → ((b ≡ true) ↔ P) → a ≡ b
same_test P true true first second = refl
same_test P false false first second = refl
same_test P true false first second = absurd (false≢true (second.1 (first.0 refl)))
same_test P false true first second = absurd (false≢true (first.1 (second.0 refl)))

same_result : {E : Type 0} (P : Type 0) (b : Bool) (found : Result Bool E) → ((b ≡ true) ↔ P)
    → IfOk found (λ is. (is ≡ true) ↔ P) → IfOk found (λ is. is ≡ b)
same_result P b (Ok is) known said = same_test P is b said known
same_result P b (Err error) known said = tt

pub returns : goal.returns
returns c =
    let slice = c.args.slice.now in
    let value = c.args.value.now in
    same_result (Spells slice value) (is_spelled slice value) c.spells.result (decided slice value)
    c.spells.ensures
