-- What is added to the warnings of a document.
use Rattle.std.proofs.Common.{◌≡◌, ℕ, ◌-◌, ◌<◌, ◌≤◌, inl, inr, List, [], ◌∷◌, ◌++◌, length, if◌then◌else◌}
use Rattle.std.proofs.Common.{All, take, refl, sym, ap, ◌∙◌, subst, arith, Global, Vec}
use Rattle.std.proofs.lemmas.Grind.{common_steps}
use Rattle.std.proofs.lemmas.List.{append-nil, append_assoc, length-append, length-take, length_push}
use Rattle.std.proofs.lemmas.List.{nil_from_length, take-append-le, take_all}
use Rattle.std.proofs.lemmas.List.Elements.{All-cons, All-nil, All-push}
use Rattle.std.specs.Rc.{rc_str_bytes}
use Rattle.std.specs.Vec.{vec_len}
use Rattle.deno_graph_source.specs.NodePath.{NodePath}
use Rattle.deno_graph_source.specs.declared.tree.node.Kind.{Kind}
use Rattle.modinfo_document.proofs.NodeKinds.{body_passes}
use Rattle.modinfo_document.specs.NodeKinds.{KindAt, kinds_of_body}
use Rattle.modinfo_document.specs.Report.{Adds, AreSame, HasNone, Keeps}
use Rattle.modinfo_document.specs.Spelling.{AreAbout, AreSpelled, HasOnlyValues, IsLiteralSpelled, IsOfValue}
use Rattle.modinfo_document.specs.Spelling.{WarnsOfEach, kinds_of_code}
use Rattle.modinfo_document.specs.declared.document.Document.{Document}
use Rattle.modinfo_document.specs.declared.report.warning.Warning.{Warning}
use Rattle.modinfo_document.specs.declared.report.warning.Warnings.{Warnings}
use Rattle.modinfo_document.specs.internal.Warned.{AddsAbout, AddsAll, WarnsOfKind}

-- Fewer than 100 are kept, so all are.
room_in : (all : List Warning) (before : Warnings) → Keeps all before → length before.kept.items < 100
    → length all < 100
room_in all before keeps room = omega (arith, room, ap length keeps.first, length-take 100 all)

-- Of 100 that are kept there are no fewer in all.
full_in : (all : List Warning) (before : Warnings) → Keeps all before → 100 ≤ length before.kept.items
    → 100 ≤ length all
full_in all before keeps full = omega (arith, full, ap length keeps.first, length-take 100 all)

-- One warning is added.
pub adds_one : (new : Warning) (before after : Warnings) → Adds new before after
    → AddsAll (new ∷ []) before after
adds_one new before after (inl (room, kept, more)) all keeps =
    let few = room_in all before keeps room in
    let size = length_push all new in
    record {
      first = kept ∙ ap (λ ws. ws ++ new ∷ []) (keeps.first ∙ take_all 100 all (omega (arith, few)))
          ∙ sym (take_all 100 (all ++ new ∷ []) (omega (arith, few, size)));
      others = omega (arith, more, keeps.others, few, size);
    }
adds_one new before after (inr (full, kept, more)) all keeps =
    let many = full_in all before keeps full in
    record {
      first = kept ∙ keeps.first ∙ sym (take-append-le 100 all (new ∷ []) many);
      others = omega (arith, more, keeps.others, many, length_push all new);
    }

pub adds_none : (before : Warnings) → AddsAll [] before before
adds_none before all keeps = subst (λ ws. Keeps ws before) (sym (append-nil all)) keeps

pub adds_more : (first later : List Warning) (before middle after : Warnings) → AddsAll first before middle
    → AddsAll later middle after → AddsAll (first ++ later) before after
adds_more first later before middle after one two all keeps =
    subst (λ ws. Keeps ws after) (append_assoc all first later) (two (all ++ first) (one all keeps))

-- One about a value is added to those about values.
pub values_more : (new : Warning) (before after : Warnings) → IsOfValue new → Adds new before after
    → HasOnlyValues before → HasOnlyValues after
values_more new before after of_value adds (values, all, keeps) = (
  values ++ new ∷ [],
  All-push IsOfValue values new all of_value,
  adds_one new before after adds values keeps,
)

pub values_same : (before after : Warnings) → AreSame before after → HasOnlyValues before
    → HasOnlyValues after
values_same before after same (values, all, keeps) =
    (values, all, record { first = same.0 ∙ keeps.first; others = same.1 ∙ keeps.others })

-- Warnings about more kinds follow.
pub about_more : (source : List ℕ) (kinds more : List KindAt) (first later : List Warning)
    → AreAbout source kinds first → AreAbout source more later
    → AreAbout source (kinds ++ more) (first ++ later)
about_more source [] more first later none about =
    subst (λ ws. AreAbout source more (ws ++ later)) (sym none) about
about_more source (at ∷ kinds) more first later (inl (spelled, rest)) about =
    inl (spelled, about_more source kinds more first later rest about)
about_more source (at ∷ kinds) more first later (inr (new, rest, is, deserved, others)) about =
    let both = about_more source kinds more rest later others about in
    inr (new, rest ++ later, ap (λ ws. ws ++ later) is, deserved, both)

module _ (source : List ℕ) where
  pub adds_nothing : (before : Warnings) → AddsAbout source [] before before
  adds_nothing before = ([], refl, adds_none before)

  -- Those of the kind of a node alone.
  pub adds_own : (path : NodePath) (kind : Kind) (before after : Warnings)
      → WarnsOfKind source path kind before after → AddsAbout source ((path, kind) ∷ []) before after
  adds_own path kind before after (inl (spelled, same)) =
      ([], inl (spelled, refl), subst (λ w. AddsAll [] before w) (sym same) (adds_none before))
  adds_own path kind before after (inr (new, deserved, adds)) =
      (new ∷ [], inr (new, [], refl, deserved, refl), adds_one new before after adds)

  pub adds_later : (kinds more : List KindAt) (before middle after : Warnings)
      → AddsAbout source kinds before middle → AddsAbout source more middle after
      → AddsAbout source (kinds ++ more) before after
  adds_later kinds more before middle after one two = (
    one.0 ++ two.0,
    about_more source kinds more one.0 two.0 one.1 two.1,
    adds_more one.0 two.0 before middle after one.2 two.2,
  )

-- Of kinds about which there is no warning, all literals are spelled.
all_spelled : (source : List ℕ) (kinds : List KindAt) (warnings : List Warning)
    → AreAbout source kinds warnings → warnings ≡ [] → All (λ at. IsLiteralSpelled source at.1) kinds
all_spelled source [] warnings about none = All-nil (λ at. IsLiteralSpelled source at.1)
all_spelled source (at ∷ kinds) warnings (inl (spelled, rest)) none =
    All-cons (λ at. IsLiteralSpelled source at.1) at kinds spelled
    (all_spelled source kinds warnings rest none)
all_spelled source (at ∷ kinds) warnings (inr (new, rest, is, deserved, others)) none =
    absurd (omega (arith, ap length (sym is ∙ none)))

module _ (document : Document) (before after : Warnings) where
  -- First those about values, then those about literals.
  pub warns_of_each : HasOnlyValues before
      → AddsAbout (rc_str_bytes document.source) (kinds_of_code document) before after
      → WarnsOfEach document after
  warns_of_each values adds = record {
    values = values.0;
    literals = adds.0;
    of_values = values.1;
    of_literals = adds.1;
    keeps = adds.2 values.0 values.2;
  }

-- If there are none in all, there are none about literals.
none_in : (values literals : List Warning) (warnings : Warnings) → Keeps (values ++ literals) warnings
    → HasNone warnings → literals ≡ []
none_in values literals warnings keeps none =
    nil_from_length literals (omega (
      arith,
      ap length (sym keeps.first ∙ none.0),
      length-take 100 (values ++ literals),
      length-append values literals,
    ))

-- Without a warning all literals are spelled.
pub none_unspelled : (document : Document) (warnings : Warnings) → WarnsOfEach document warnings
    → HasNone warnings → AreSpelled document
none_unspelled document warnings each none code =
    let source = rc_str_bytes document.source in
    let body = document.program.body in
    let spelled = all_spelled source (kinds_of_code document) each.literals each.of_literals
    (none_in each.values each.literals warnings each.keeps none) in
    body_passes (IsLiteralSpelled source) document.program
    (subst (λ is. All (λ at. IsLiteralSpelled source at.1) (if is then kinds_of_body body else [])) code
    spelled)

-- The path with an index that was pushed.
pub pushed : (new old path : List ℕ) (index : ℕ) → new ≡ old ++ index ∷ [] → old ≡ path
    → new ≡ path ++ index ∷ []
pushed new old path index is same = is ∙ ap (λ front. front ++ index ∷ []) same

-- The path as it was before its last index was pushed.
pub popped : (old : Vec ℕ Global) (new path : List ℕ) (index : ℕ) → new ≡ take (vec_len old - 1) old.items
    → old.items ≡ path ++ index ∷ [] → new ≡ path
popped old new path index rest is =
    let size : vec_len old - 1 ≡ length path =
    omega (arith, old.ok.0, ap length is, length_push path index) in
    rest ∙ ap (take (vec_len old - 1)) is ∙ ap (λ size. take size (path ++ index ∷ [])) size
    ∙ grind (arith, common_steps)
