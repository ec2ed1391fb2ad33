use Rattle.std.proofs.Common.{◌≡◌, ◌++◌, [], ◌∷◌, map, sym, ap, subst, ◌∙◌, refl, All, append_assoc}
use Rattle.std.proofs.lemmas.List.Elements.{All-nil, All-push, All-head, All-tail}
use Rattle.std.specs.List.{AllZip}
use Rattle.deno_graph_dep.specs.Descriptor.{descriptor_seen}
use Rattle.deno_graph_module_info.specs.ModuleInfo.{CoversTypes, Describes, FitsText}
use Rattle.deno_graph_module_info.proofs.ItemComments.{dependencies_fit}
use Rattle.deno_graph_module_info.proofs.ReadTypes.{read_none}
use Rattle.deno_graph_module_info.proofs.ReferenceLists.{AllZip-push}
use Rattle.deno_graph_module_info.proofs.dependencies.analyze_dependencies.Goals as goal

pub loop-descriptor-init : goal.loop-descriptor-init
loop-descriptor-init c =
    let text = c.args.text_info.now in
    let items = c.into_iter-descriptor-iterator.ensures.into_iter_gives.0 in
    record {
      done = [];
      whole = refl;
      described = subst (λ made. AllZip (Describes text) [] made) (sym c.in_ok-dependencies.ensures) tt;
      cover = subst (All (CoversTypes text)) (sym c.in_ok-dependencies.ensures) (All-nil (CoversTypes text));
      read = read_none text c.new-read.result c.new-read.ensures.empty;
      fits = subst (All (FitsText text)) (ap (map descriptor_seen) (sym items))
          (dependencies_fit text c.args.program.now c.args.comments.now _ c.requires
          c.in_ok-found.ensures.listing);
    }

pub dependency-requires-clause-fits : goal.dependency-requires-clause-fits
dependency-requires-clause-fits c =
    let step : map descriptor_seen c.loop-descriptor.descriptor-iterator.rest.items
    ≡ descriptor_seen c.in-Some.descriptor ∷ map descriptor_seen c.next.new.self.rest.items =
    ap (map descriptor_seen) c.in-Some.ensures.steps.0 in
    All-head (FitsText c.args.text_info.now) (descriptor_seen c.in-Some.descriptor)
    (map descriptor_seen c.next.new.self.rest.items)
    (subst (All (FitsText c.args.text_info.now)) step c.loop-descriptor.invariant.fits)

pub loop-descriptor-preserved : goal.loop-descriptor-preserved
loop-descriptor-preserved c =
    let text = c.args.text_info.now in
    let item = descriptor_seen c.in-Some.descriptor in
    let rest = map descriptor_seen c.next.new.self.rest.items in
    let before = c.loop-descriptor.invariant in
    let step : map descriptor_seen c.loop-descriptor.descriptor-iterator.rest.items ≡ item ∷ rest =
    ap (map descriptor_seen) c.in-Some.ensures.steps.0 in
    record {
      done = before.done ++ item ∷ [];
      whole = before.whole ∙ ap (λ t. before.done ++ t) step
          ∙ sym (append_assoc before.done (item ∷ []) rest);
      described = subst (AllZip (Describes text) (before.done ++ item ∷ [])) (sym c.in_ok-push.ensures.ok)
          (AllZip-push (Describes text) before.done c.loop-descriptor.dependencies item
          c.in_ok-dependency.field-0 before.described c.in_ok-dependency.ensures.is);
      cover = subst (All (CoversTypes text)) (sym c.in_ok-push.ensures.ok)
          (All-push (CoversTypes text) c.loop-descriptor.dependencies c.in_ok-dependency.field-0 before.cover
          c.in_ok-dependency.ensures.covers);
      read = c.in_ok-dependency.ensures.read;
      fits = All-tail (FitsText text) item rest (subst (All (FitsText text)) step before.fits);
    }
