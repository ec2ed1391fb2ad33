-- The first `import`, if it is before the first brace.
use Rattle.std.proofs.Common.{◌≡◌, ◌⊎◌, inl, inr, Some, None, List, ℕ, ◌++◌, ◌∷◌, codes, refl, lit<, rules}
use Rattle.std.proofs.Common.{sym, subst, arith}
use Rattle.std.specs.Str.{IsUtf8, chars}
use denote.Ref.{Bor}
use Rattle.deno_graph_jsdoc.specs.Characters.{closing_brace}
use Rattle.deno_graph_jsdoc.specs.JsDocGrammar.{Lacks}
use Rattle.deno_graph_jsdoc.proofs.Arguments.{up_to_none, up_to_none_unclosed, up_to_read_unclosed}
use Rattle.deno_graph_jsdoc.proofs.Texts.{split_word, split_chars}
use Rattle.deno_graph_jsdoc.proofs.Words.{IsAscii-from_test}
use Rattle.deno_graph_jsdoc.proofs.grammar.dynamic.up_to_import.Goals as goal
use Rattle.deno_graph_jsdoc.proofs.grammar.dynamic.up_to_import.Goals.{After-split_once-2, in-Some, in-None}

-- the text up to the first brace, or the whole text
abbrev IsUpToBrace : List ℕ → List ℕ → Type 0
IsUpToBrace input unclosed = Lacks closing_brace unclosed
    × ((input ≡ unclosed) ⊎ ((after : List ℕ) × (input ≡ unclosed ++ closing_brace ∷ after)))

unclosed_at : (c : After-split_once-2)
    → IsUpToBrace (chars c.args.input.now) (chars c.match-split_once.unclosed.now)
unclosed_at c = elim c.match-split_once.branch [
  | in-Some w ↦
      let split = split_chars closing_brace c.args.input.now
      (Some (w.in-Some.unclosed, w.in-Some.field-0-1)) c.utf8.input (lit< tt) w.in-Some.ensures.cases in
      subst (λ (u : Bor (List ℕ)). IsUpToBrace (chars c.args.input.now) (chars u.now)) (sym w.unclosed-is)
      (split.0, inr (chars w.in-Some.field-0-1.now, split.1))
  | in-None w ↦
      subst (λ (u : Bor (List ℕ)). IsUpToBrace (chars c.args.input.now) (chars u.now)) (sym w.unclosed-is) (
        split_chars closing_brace c.args.input.now None c.utf8.input
            (lit< tt) w.in-None.ensures.cases,
        inl refl,
      )
]

-- a word without a brace
no_brace : Lacks closing_brace (codes "import")
no_brace = (
  (λ e. omega (arith, e)),
  (
    (λ e. omega (arith, e)),
    (
      (λ e. omega (arith, e)),
      ((λ e. omega (arith, e)), ((λ e. omega (arith, e)), ((λ e. omega (arith, e)), tt))),
    ),
  ),
)

pub returns-in_err-split_once : goal.returns-in_err-split_once
returns-in_err-split_once c =
    let u = unclosed_at (goal.at.returns-in_err-split_once c).After-split_once-2 in
    let utf8 : IsUtf8 c.match-split_once.unclosed.now = search rules in
    rw c.from_residual.ensures
    (up_to_none_unclosed (codes "import") (chars c.args.input.now)
    (chars c.match-split_once.unclosed.now) no_brace u.1
    (split_word (codes "import") c.match-split_once.unclosed.now None utf8
    (IsAscii-from_test (codes "import") refl) tt c.in_err-split_once.ensures.cases))

pub returns-in_err-rest : goal.returns-in_err-rest
returns-in_err-rest c =
    rw c.from_residual-in_err-rest.ensures
    (up_to_none (codes "import") (chars c.args.input.now)
    (split_word (codes "import") c.args.input.now None c.utf8.input
    (IsAscii-from_test (codes "import") refl) tt c.in_err-rest.ensures.cases))

pub returns : goal.returns
returns c =
    let u = unclosed_at (goal.at.returns c).After-split_once-2 in
    let utf8 : IsUtf8 c.match-split_once.unclosed.now = search rules in
    let inside = split_word (codes "import") c.match-split_once.unclosed.now
    (Some (c.in_ok-split_once.field-0-0, c.in_ok-split_once.field-0-1)) utf8
    (IsAscii-from_test (codes "import") refl) (search rules) c.in_ok-split_once.ensures.cases in
    let whole = split_word (codes "import") c.args.input.now
    (Some (c.in_ok-rest.field-0-0, c.in_ok-rest.rest)) c.utf8.input
    (IsAscii-from_test (codes "import") refl) (search rules) c.in_ok-rest.ensures.cases in
    up_to_read_unclosed (codes "import") (chars c.args.input.now) (chars c.match-split_once.unclosed.now)
    (chars c.in_ok-rest.field-0-0.now) (chars c.in_ok-rest.rest.now)
    u.0 u.1 (chars c.in_ok-split_once.field-0-0.now)
    (chars c.in_ok-split_once.field-0-1.now) inside.0 whole.0 whole.1
