-- The text has the claims of the tree.
use Rattle.std.proofs.Common.{ap, map, subst, ◌∙◌}
use Rattle.std.specs.List.{All}
use Rattle.deno_graph_source.specs.Node.{nodes_of}
use Rattle.deno_graph_source.specs.MediaType.{is_typed}
use Rattle.deno_graph_source.specs.declared.tree.node.Program.{Program}
use Rattle.modinfo_imports.specs.Nodes.{AreMarks, AreClaims, part_claim}
use Rattle.modinfo_source.specs.OfText.{HasClaims, start_of}
use Rattle.modinfo_source.proofs.OfTexts.{HasComments-claimed, IsOfText-claimed, IsSpelled-claimed}
use Rattle.modinfo_source.specs.Spelled.{NodeIsSpelled}
use Rattle.modinfo_source.proofs.parse.parts_of.Goals as goal

pub returns-clause-spelled : goal.returns-clause-spelled
unfolding nodes_of
returns-clause-spelled c =
    let text = c.args.text.now in
    let program : Program = record {
      range = c.new.result;
      body = c.in_ok-body_of.field-0;
      has_shebang = c.in_ok-nodes.field-0.has_hashbang;
    } in
    let parts = c.in_ok-parts.parts.items in
    let claims = c.in_ok-claims.claims.items in
    let are = subst (λ ps. AreClaims text program ps claims) c.deref-3.ensures.value
    (subst (λ bytes. AreClaims bytes program c.deref-3.result.now claims) c.as_bytes.ensures.value
    c.in_ok-claims.ensures) in
    let spelled = subst (λ ps. All (NodeIsSpelled text (map (part_claim text) ps)) (nodes_of program))
    c.deref-2.ensures.value c.in_ok-body_of.ensures in
    let has = subst (λ cs. HasClaims text c.is_typed.result cs c.deref-6.result.now c.start_of.result
    c.in_ok-comments.comments) c.deref-5.ensures.value c.in_ok-comments.ensures in
    IsSpelled-claimed text c.is_typed.result program parts claims _ _ c.in_ok-comments.comments are spelled
    has

pub returns-clause-comments : goal.returns-clause-comments
returns-clause-comments c =
    HasComments-claimed c.args.text.now _ _ _ _ c.in_ok-comments.comments c.in_ok-comments.ensures

pub returns-clause-of_text : goal.returns-clause-of_text
unfolding nodes_of
returns-clause-of_text c =
    let text = c.args.text.now in
    let comments = c.in_ok-comments.comments in
    let program : Program = record {
      range = c.new.result;
      body = c.in_ok-body_of.field-0;
      has_shebang = c.in_ok-nodes.field-0.has_hashbang;
    } in
    let claims = c.in_ok-claims.claims.items in
    let marks = c.in_ok-marks.marks.items in
    let body = start_of program.body in
    let begun = subst (λ at. HasClaims text c.is_typed.result c.deref-5.result.now c.deref-6.result.now at
    comments) (c.start_of.ensures ∙ ap start_of c.as_slice.ensures) c.in_ok-comments.ensures in
    let has = subst (λ cs. HasClaims text (is_typed c.args.media_type) claims cs body comments)
    c.deref-6.ensures.value
    (subst (λ cs. HasClaims text (is_typed c.args.media_type) cs c.deref-6.result.now body comments)
    c.deref-5.ensures.value
    (subst (λ typed. HasClaims text typed c.deref-5.result.now c.deref-6.result.now body comments)
    c.is_typed.ensures begun)) in
    let parts = c.in_ok-parts.parts.items in
    let are = subst (λ ps. AreClaims text program ps claims) c.deref-3.ensures.value
    (subst (λ bytes. AreClaims bytes program c.deref-3.result.now claims) c.as_bytes.ensures.value
    c.in_ok-claims.ensures) in
    let spelled = subst (λ ps. All (NodeIsSpelled text (map (part_claim text) ps)) (nodes_of program))
    c.deref-2.ensures.value c.in_ok-body_of.ensures in
    let are_marks = subst (λ bytes. AreMarks bytes program marks) c.as_bytes-2.ensures.value
    c.in_ok-marks.ensures in
    IsOfText-claimed text (is_typed c.args.media_type) program parts claims marks comments are spelled
    are_marks has
