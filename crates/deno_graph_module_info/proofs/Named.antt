-- The first and the last element of a list with a property, and the specifiers of their pragmas.
use Rattle.std.proofs.Common.{◌≡◌, ℕ, ◌+◌, ◌<◌, List, [], ◌∷◌, ◌++◌, length, take, drop, get_or, append_assoc}
use Rattle.std.proofs.Common.{refl, sym, ap, ◌∙◌, All, add-one, drop-cons, IsTrue, Bool, true, false, Option}
use Rattle.std.proofs.Common.{Some, None, IfSome, IsNone, subst, inl, inr}
use Rattle.std.proofs.lemmas.List.{take-append-drop}
use Rattle.std.proofs.lemmas.List.Elements.{All-nil, All-cons}
use denote.Enum.Bare.{sameb}
use Rattle.deno_graph_source.specs.contracts.tree.comments.CommentKind.{the_type as the_kind}
use Rattle.deno_graph_source.specs.declared.tree.comments.CommentKind.{CommentKind}
use Rattle.deno_graph_source.specs.declared.tree.comments.CommentKind.TheVariants.{Line, Block}
use Rattle.deno_graph_source.specs.declared.tree.comments.DependencyComment.{DependencyComment}
use Rattle.deno_graph_info.specs.declared.analysis.specifier_with_range.SpecifierWithRange.{SpecifierWithRange}
use Rattle.deno_graph_pragmas.specs.Finders as finder
use Rattle.deno_graph_pragmas.specs.Match.{IsCapturedIn, FindsFirst, IsQuotedIn, IsSliceIn, match_part_of}
use Rattle.deno_graph_pragmas.specs.declared.finders.matches.Match.{Match}
use Rattle.deno_graph_pragmas.specs.Split.{TextPart, HasSplit, IsCaptured}
use Rattle.deno_graph_module_info.specs.Pragma.{Pragma, HasPragma, Names, NamesByFirst, IsFirstWith}
use Rattle.deno_graph_module_info.specs.Pragma.{dependency_types_pragmas, quoted, quoteless}
use Rattle.deno_graph_module_info.specs.Pragma.{specifier_of_part}
use Rattle.deno_graph_module_info.specs.internal.HeadPragma.{Covers, IsMatch}
use Rattle.deno_graph_module_info.specs.Spelled.{CoversAsWritten}

-- a list as the elements before an index, the element there, and those after it
cut_at : {X : Type 0} (xs : List X) (i : ℕ) (x : X) → i < length xs → x ≡ get_or xs i x
    → xs ≡ take i xs ++ x ∷ drop (i + 1) xs
cut_at xs i x below is =
    let here : drop i xs ≡ get_or xs i x ∷ drop (i + 1) xs = rw add-one (drop-cons xs i x below) in
    sym (take-append-drop i xs) ∙ ap (λ t. take i xs ++ t) (here ∙ ap (λ y. y ∷ drop (i + 1) xs) (sym is))

pub first_at : {X : Type 0} (P : X → Type 0) (xs : List X) (i : ℕ) (x : X) → i < length xs → x ≡ get_or xs i x
    → All (λ y. ¬ P y) (take i xs) → P x → IsFirstWith P xs x
first_at P xs i x below is none has = record {
  before = take i xs;
  after = drop (i + 1) xs;
  whole = cut_at xs i x below is;
  none_before = none;
  has = has;
}

pub match_has_pragma : (pragma : Pragma) (comment : DependencyComment) (part : TextPart)
    → IsMatch pragma comment part
    → HasPragma pragma comment
match_has_pragma pragma comment part found = record { kind = found.kind; split = found.is_captured.split }

pub match_names : (source : List ℕ) (pragma : Pragma) (comment : DependencyComment) (part : TextPart)
    (specifier : SpecifierWithRange) → IsMatch pragma comment part
    → specifier ≡ specifier_of_part source comment part pragma.is_quoteless
    → Names source pragma comment specifier
match_names source pragma comment part specifier found is =
    record { part = part; is_captured = found.is_captured; is_specifier = is }

-- the result of a finder of the pragma's pattern in a comment in which the pragma counts
pub match_in_comment : (pragma : Pragma) (comment : DependencyComment) (text : List ℕ)
    (answer : Option Match) → text ≡ comment.text
    → (IsTrue pragma.is_in_blocks_alone → comment.kind ≡ Block)
    → FindsFirst pragma.pattern text answer
    → (pragma.is_quoteless ≡ false → IfSome answer (IsQuotedIn text))
    → IfSome answer (λ found. IsMatch pragma comment (match_part_of found))
match_in_comment pragma comment text None is kind finds quotes = tt
match_in_comment pragma comment text (Some found) is kind finds quotes = record {
  kind = kind;
  is_captured = subst (λ t. IsCapturedIn pragma.pattern t found) is finds.found;
  is_slice = subst (λ t. IsSliceIn t found) is finds.slice;
  quotes = λ quoted. subst (λ t. IsQuotedIn t found) is (quotes quoted);
}

pub none_in_comment : (pragma : Pragma) (comment : DependencyComment) (text : List ℕ)
    (answer : Option Match) → text ≡ comment.text → FindsFirst pragma.pattern text answer → IsNone answer
    → ¬ HasPragma pragma comment
none_in_comment pragma comment text answer is finds none has =
    subst (λ t. ¬ HasSplit pragma.pattern t) is (finds.none.0 none) has.split

-- a comment that isn't a line comment is a block comment
pub block_from_not_line : (kind : CommentKind) → sameb the_kind kind Line ≡ false → kind ≡ Block
block_from_not_line Block apart = refl
block_from_not_line Line apart = cc

-- The types of a dependency

pub no_blocks : (comment : DependencyComment) → IsTrue false → comment.kind ≡ Block
no_blocks comment is = cc

pub ts_types_named : (source : List ℕ) (comment : DependencyComment) (part : TextPart)
    (specifier : SpecifierWithRange) → IsCaptured finder.ts_types_pattern comment.text part
    → specifier ≡ specifier_of_part source comment part false
    → NamesByFirst source dependency_types_pragmas comment (Some specifier)
ts_types_named source comment part specifier captured is = (
  quoted finder.ts_types_pattern,
  record {
    before = [];
    after = quoted finder.deno_types_pattern ∷ quoteless finder.quoteless_deno_types_pattern ∷ [];
    whole = refl;
    none_before = All-nil (λ p. ¬ HasPragma p comment);
    has = record { kind = no_blocks comment; split = captured.split };
  },
  record { part = part; is_captured = captured; is_specifier = is },
)

pub deno_types_named : (source : List ℕ) (comment : DependencyComment) (part : TextPart) (is_quoteless : Bool)
    (specifier : SpecifierWithRange)
    → ¬ HasSplit finder.ts_types_pattern comment.text
    → (is_quoteless ≡ false → IsCaptured finder.deno_types_pattern comment.text part)
    → (is_quoteless ≡ true → ¬ HasSplit finder.deno_types_pattern comment.text
    × IsCaptured finder.quoteless_deno_types_pattern comment.text part)
    → specifier ≡ specifier_of_part source comment part is_quoteless
    → NamesByFirst source dependency_types_pragmas comment (Some specifier)
deno_types_named source comment part false specifier no_ts_types captured_quoted captured_quoteless is =
    let captured = captured_quoted refl in (
      quoted finder.deno_types_pattern,
      record {
        before = quoted finder.ts_types_pattern ∷ [];
        after = quoteless finder.quoteless_deno_types_pattern ∷ [];
        whole = refl;
        none_before = All-cons (λ p. ¬ HasPragma p comment) (quoted finder.ts_types_pattern) []
            (λ has. no_ts_types has.split) (All-nil (λ p. ¬ HasPragma p comment));
        has = record { kind = no_blocks comment; split = captured.split };
      },
      record { part = part; is_captured = captured; is_specifier = is },
    )
deno_types_named source comment part true specifier no_ts_types captured_quoted captured_quoteless is =
    let captured = captured_quoteless refl in (
      quoteless finder.quoteless_deno_types_pattern,
      record {
        before = quoted finder.ts_types_pattern ∷ quoted finder.deno_types_pattern ∷ [];
        after = [];
        whole = refl;
        none_before = All-cons (λ p. ¬ HasPragma p comment) (quoted finder.ts_types_pattern)
            (quoted finder.deno_types_pattern ∷ []) (λ has. no_ts_types has.split)
            (All-cons (λ p. ¬ HasPragma p comment) (quoted finder.deno_types_pattern) []
            (λ has. captured.0 has.split)
            (All-nil (λ p. ¬ HasPragma p comment)));
        has = record { kind = no_blocks comment; split = captured.1.split };
      },
      record { part = part; is_captured = captured.1; is_specifier = is },
    )

-- the range covers the specifier, with its quotes if it is quoted
pub covers_as_written : (source : List ℕ) (is_quoteless : Bool) (specifier : SpecifierWithRange)
    → Covers source is_quoteless specifier → CoversAsWritten source specifier
covers_as_written source true specifier covers = inl covers
covers_as_written source false specifier covers = inr covers

pub no_types_named : (comment : DependencyComment)
    → ¬ HasSplit finder.ts_types_pattern comment.text
    → ¬ HasSplit finder.deno_types_pattern comment.text
    × ¬ HasSplit finder.quoteless_deno_types_pattern comment.text
    → All (λ pragma. ¬ HasPragma pragma comment) dependency_types_pragmas
no_types_named comment no_ts_types no_deno_types =
    let none = λ (pragma : Pragma). ¬ HasPragma pragma comment in
    All-cons none (quoted finder.ts_types_pattern)
    (quoted finder.deno_types_pattern ∷ quoteless finder.quoteless_deno_types_pattern ∷ [])
    (λ has. no_ts_types has.split)
    (All-cons none (quoted finder.deno_types_pattern) (quoteless finder.quoteless_deno_types_pattern ∷ [])
    (λ has. no_deno_types.0 has.split)
    (All-cons none (quoteless finder.quoteless_deno_types_pattern) [] (λ has. no_deno_types.1 has.split)
    (All-nil none)))

-- Lists in parts

-- a list as the elements before the last element of a prefix, this element, and those after it
pub whole_at_last : {X : Type 0} (xs rest front after : List X) (x : X) → xs ≡ rest ++ after
    → rest ≡ front ++ x ∷ [] → xs ≡ front ++ x ∷ after
whole_at_last xs rest front after x whole last =
    whole ∙ ap (λ t. t ++ after) last ∙ append_assoc front (x ∷ []) after
