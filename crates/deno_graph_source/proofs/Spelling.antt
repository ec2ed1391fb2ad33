-- The spelling of comments: a text has at most one comment at a range.
use Rattle.std.proofs.Common.{◌≡◌, ℕ, List, ◌++◌, sym, ap, ◌∙◌, refl, codes, get_or, arith}
use Rattle.std.proofs.lemmas.List.{append_cancel_left, append_cancel_right}
use Rattle.deno_graph_source.specs.Source.{IsSpelled, spelling}
use Rattle.deno_graph_base.specs.SourceRange.{slice_of}
use Rattle.deno_graph_source.specs.declared.tree.comments.CommentKind.{CommentKind}
use Rattle.deno_graph_source.specs.declared.tree.comments.CommentKind.TheVariants.{Line, Block}
use Rattle.deno_graph_source.specs.declared.tree.comments.DependencyComment.{DependencyComment}

-- two texts with the same spelling are equal
pub spelling-injective : (kind : CommentKind) (a b : List ℕ) → spelling kind a ≡ spelling kind b → a ≡ b
spelling-injective Line a b h = append_cancel_left (codes "//") a b h
spelling-injective Block a b h =
    append_cancel_right a b (codes "*/") (append_cancel_left (codes "/*") (a ++ codes "*/") (b ++ codes "*/")
    h)

same_kind : (k l : CommentKind) (a b : List ℕ) → spelling k a ≡ spelling l b → k ≡ l
same_kind Line Line a b h = refl
same_kind Block Block a b h = refl
same_kind Line Block a b h =
    let second : ◌≡◌ {A = ℕ} 47 42 = ap (λ bytes. get_or bytes 1 0) h in absurd (omega arith)
same_kind Block Line a b h =
    let second : ◌≡◌ {A = ℕ} 42 47 = ap (λ bytes. get_or bytes 1 0) h in absurd (omega arith)

-- comments that the text has at one range are equal
pub spelled_unique : (text : List ℕ) (a b : DependencyComment) → IsSpelled text a → IsSpelled text b
    → a.range ≡ b.range → a ≡ b
spelled_unique text a b h k same =
    let written : spelling a.kind a.text ≡ spelling b.kind b.text =
    sym h.slice ∙ ap (slice_of text) same ∙ k.slice in
    let kinds = same_kind a.kind b.kind a.text b.text written in
    let texts = spelling-injective b.kind a.text b.text
    (ap (λ kind. spelling kind a.text) (sym kinds) ∙ written) in
    λ i. record { kind = kinds i; range = same i; text = texts i }
