use Rattle.std.proofs.Common.{◌≡◌, ℕ, ◌+◌, ◌<◌, List, [], ◌∷◌, ◌++◌, add-one, codes, drop, drop-cons, get_or}
use Rattle.std.proofs.Common.{length, sym, ap, ◌∙◌}
use Rattle.std.proofs.lemmas.List.{drop_all, nil_from_length}
use Rattle.deno_graph_json.specs.Pointer.{index, name, part_text}
use Rattle.deno_graph_json.specs.declared.error.Step.TheVariants.{Item, Member}
use Rattle.modinfo_document.specs.Place.{node_path, path_below, program_path}
use Rattle.modinfo_document.specs.Pointer.{pointer_text}
use Rattle.modinfo_document.proofs.report.place.node_pointer.Goals as goal

-- The number of this turn, and the later ones.
turn : (path : List ℕ) (i : ℕ) → i < length path → drop i path ≡ get_or path i 0 ∷ drop (i + 1) path
turn path i fits = drop-cons path i 0 fits ∙ ap (λ n. get_or path i 0 ∷ drop n path) (sym (add-one i))

program_written : (new old : List ℕ) → new ≡ old ++ part_text (name (codes "program")) → old ≡ []
    → new ≡ pointer_text program_path
program_written new old more empty = more ∙ ap (λ text. text ++ part_text (name (codes "program"))) empty

pub returns-in_default : goal.returns-in_default
returns-in_default c =
    let empty : c.args.path.now ≡ [] = nil_from_length c.args.path.now c.in_default.ensures.cases in
    program_written _ _ c.in_ok-push_token.ensures c.new-pointer.ensures.bytes
    ∙ ap (λ path. pointer_text (node_path path)) (sym empty)

pub loop-number-init : goal.loop-number-init
loop-number-init c =
    let first = c.in-Some.first.now in
    let program = program_written _ _ c.in_ok-push_token.ensures c.new-pointer.ensures.bytes in (
      Item first ∷ Member (codes "body") ∷ program_path,
      c.in_ok-push_item.ensures
          ∙ ap (λ text. text ++ part_text (name (codes "body")) ++ part_text (index first)) program,
      sym (ap node_path c.in-Some.ensures.cases.0),
    )

pub loop-number-preserved : goal.loop-number-preserved
loop-number-preserved c =
    let rest = c.in-Some.rest.now in
    let i = c.loop-number.number-index in
    let path = c.loop-number.invariant.0 in
    let number = get_or rest i 0 in (
      Item number ∷ Member (codes "children") ∷ path,
      c.in_ok-push_item-2.ensures
          ∙ ap (λ text. text ++ part_text (name (codes "children")) ++ part_text (index number))
          c.loop-number.invariant.1,
      sym (ap (path_below path) (turn rest i c.loop-number-test.true)) ∙ c.loop-number.invariant.2,
    )

pub returns : goal.returns
returns c =
    let path = c.loop-number.invariant.0 in
    let whole : path ≡ node_path c.args.path.now =
    sym (ap (path_below path)
    (drop_all c.loop-number.number-index c.in-Some.rest.now c.loop-number-test.false))
    ∙ c.loop-number.invariant.2 in
    c.loop-number.invariant.1 ∙ ap pointer_text whole
