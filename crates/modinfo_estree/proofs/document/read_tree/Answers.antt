use Rattle.std.proofs.Common.{◌≡◌, ℕ, List, codes, Option, Some, refl, sym, ap, subst, ◌∙◌}
use Rattle.serde_json.specs.Data.{Members}
use Rattle.deno_graph_base.specs.declared.text.position.SourceRange.{SourceRange}
use Rattle.deno_graph_json.specs.ObjectReader.{readable, value_of}
use Rattle.deno_graph_json.specs.Read.Partial.{◌>>=◌, member_at}
use Rattle.deno_graph_json.specs.Read.Result.{IsReadError}
use Rattle.deno_graph_source.specs.declared.tree.node.Program.{Program}
use Rattle.modinfo_document.specs.Comments.{Sides}
use Rattle.modinfo_document.specs.Result.{IsReadResultBy}
use Rattle.modinfo_document.proofs.Results.{exits_by}
use Rattle.modinfo_estree.specs.Document.{reads_comments, reads_file, reads_tree, tree_of}
use Rattle.modinfo_estree.specs.Offsets.{Counted}
use Rattle.modinfo_estree.specs.Tokens.{Layout, layout}
use Rattle.modinfo_estree.specs.declared.source.Source.{Source}
use Rattle.modinfo_document.specs.Comments.{HasTree}
use Rattle.modinfo_estree.specs.internal.Document.{reads_tree_in}
use Rattle.modinfo_estree.proofs.document.read_tree.Goals as goal

-- The tree of a text is that of its source, once the comments are known.
in_source : (source : Source) (counted : Counted) (ranges : List SourceRange) (ms : Members)
    → source.text.now ≡ counted.text → source.offsets ≡ counted → source.tokens ≡ layout counted.text ranges
    → reads_comments counted ms ≡ Some ranges → reads_tree_in source ranges ms ≡ reads_tree counted ms
unfolding reads_tree reads_tree_in
in_source source counted ranges ms text offsets tokens comments =
    let read : List ℕ → Counted → Layout → Option (Sides × Program) = λ t o l.
    member_at (reads_file (record { text = t; counted = o; gaps = l.is_gap })) (codes "program") ms
    >>= (λ body. Some (tree_of t l ranges body)) in
    (λ i. read (text i) (offsets i) (tokens i))
    ∙ sym (ap (λ o. o >>= (λ rs. member_at (reads_file (record {
      text = counted.text;
      counted = counted;
      gaps = (layout counted.text rs).is_gap;
    })) (codes "program") ms
    >>= (λ body. Some (tree_of counted.text (layout counted.text rs) rs body)))) comments)

pub returns-in_err-ranges : goal.returns-in_err-ranges
unfolding reads_tree
returns-in_err-ranges c =
    let ms = readable c.args.members.now in
    let value = value_of c.args.members.now in
    let counted : Counted = record { unit = c.args.unit; text = c.args.text.now } in
    let error = c.in_err-ranges.field-0.0 in
    exits_by HasTree value (reads_comments counted ms) _ error _ c.from_residual-in_err-ranges.ensures.1
    (subst (λ o. IsReadError value (reads_comments o ms) error) c.in_ok-offsets.ensures
    c.in_err-ranges.ensures)

pub returns : goal.returns
returns c =
    let ms = readable c.args.members.now in
    let value = value_of c.args.members.now in
    let counted : Counted = record { unit = c.args.unit; text = c.args.text.now } in
    let ranges = c.in_ok-ranges.ranges in
    let source : Source = record {
      text = c.args.text;
      offsets = c.in_ok-offsets.offsets;
      tokens = c.in_ok-tokens.tokens;
    } in
    let comments = subst (λ o. reads_comments o ms ≡ Some ranges) c.in_ok-offsets.ensures
    c.in_ok-ranges.ensures in
    let tokens = c.in_ok-tokens.ensures ∙ ap (layout counted.text) c.as_slice.ensures in
    let same = in_source source counted ranges ms refl c.in_ok-offsets.ensures tokens comments in
    subst (λ o. IsReadResultBy HasTree value o c.read_tree_in.result) same c.read_tree_in.ensures
