-- Each text begins with exactly one dynamic import, or with none.
use Rattle.std.proofs.Common.{◌≡◌, ◌≢◌, ℕ, ◌⊎◌, inl, inr, Option, Some, None, List, [], ◌∷◌, ◌++◌, length}
use Rattle.std.proofs.Common.{refl, sym, ap, ◌∙◌, codes, option_map, append_assoc, length-append, arith}
use Rattle.std.specs.Str.{skip_leading_whitespace}
use Rattle.deno_graph_jsdoc.specs.Characters.{closing_brace}
use Rattle.deno_graph_jsdoc.specs.JsDocGrammar.{◌·◌, Is, IsSpace, IsQuote, IsModeBlock, IsOptions, IsUpTo}
use Rattle.deno_graph_jsdoc.specs.JsDocGrammar.{Anything, NoSpace}
use Rattle.deno_graph_jsdoc.specs.internal.Reading.{ReadsImport, IsDynamicEnd, HasArguments, EndsArguments}
use Rattle.deno_graph_jsdoc.specs.internal.Reading.{Reads}
use Rattle.deno_graph_jsdoc.specs.JsDocImport.{Mode, Import, IsDynamicImport, moved, byte_count}
use Rattle.deno_graph_jsdoc.proofs.Arguments.{open_none, open_read, options_no_comma, options_no_brace}
use Rattle.deno_graph_jsdoc.proofs.Arguments.{options_no_with, options_no_colon, options_no_block}
use Rattle.deno_graph_jsdoc.proofs.Arguments.{options_read, with_options, without_options, OnlyEnd}
use Rattle.deno_graph_jsdoc.proofs.Arguments.{first_unopened, first_read, no_import, from_import}
use Rattle.deno_graph_jsdoc.proofs.Arguments.{no_arguments, after_arguments, up_to_none, up_to_closed}
use Rattle.deno_graph_jsdoc.proofs.Arguments.{up_to_read, First as DynamicFirst}
use Rattle.deno_graph_jsdoc.proofs.Braces.{FirstMark, first_mark}
use Rattle.deno_graph_jsdoc.proofs.Imports.{no_head, no_quote, no_tail, import_read}
use Rattle.deno_graph_jsdoc.proofs.ExistenceOfParts.{HasResult, Starts, starts, read_word, read_token}
use Rattle.deno_graph_jsdoc.proofs.ExistenceOfParts.{read_quote, read_through, read_block, Parsed, import_at}

abbrev Word : List ℕ
Word = codes "import"

abbrev FirstWord : List ℕ → Type 0
FirstWord input =
    ((front : List ℕ) × (rest : List ℕ) × (input ≡ front ++ (Word ++ rest))
    × ((before beyond : List ℕ) → front ++ Word ≡ before ++ (Word ++ beyond) → beyond ≡ []))
    ⊎ ((front rest : List ℕ) → input ≢ front ++ (Word ++ rest))

first_word : (input : List ℕ) → FirstWord input
first_word [] = inr (λ front rest is. absurd
    (omega (arith, ap length is, length-append front (Word ++ rest), length-append Word rest)))
first_word (c ∷ cs) = by_start (starts Word (c ∷ cs)) (first_word cs)
  where
    later : ((rest : List ℕ) → c ∷ cs ≢ Word ++ rest) → FirstWord cs → FirstWord (c ∷ cs)
    later not_here (inr none) = inr nowhere
      where
        nowhere : (front rest : List ℕ) → c ∷ cs ≢ front ++ (Word ++ rest)
        nowhere [] rest is = not_here rest is
        nowhere (f ∷ front) rest is =
            let tails : cs ≡ front ++ (Word ++ rest) = cc in
            none front rest tails
    later not_here (inl (front, rest, whole, first)) = inl (c ∷ front, rest, ap (λ t. c ∷ t) whole, again)
      where
        again : (before beyond : List ℕ) → c ∷ (front ++ Word) ≡ before ++ (Word ++ beyond) → beyond ≡ []
        again [] beyond is =
            absurd (not_here (beyond ++ rest)
            (ap (λ t. c ∷ t) (whole ∙ sym (append_assoc front Word rest)) ∙ ap (λ t. t ++ rest) is
            ∙ append_assoc Word beyond rest))
        again (b ∷ before) beyond is =
            let tails : front ++ Word ≡ before ++ (Word ++ beyond) = cc in
            first before beyond tails

    by_start : Starts Word (c ∷ cs) → FirstWord cs → FirstWord (c ∷ cs)
    by_start (inl (rest, is)) _ = inl ([], rest, is, here)
      where
        none : (t : List ℕ) → length t ≡ 0 → t ≡ []
        none [] is = refl
        none (x ∷ t) is = absurd (omega arith)

        here : (before beyond : List ℕ) → Word ≡ before ++ (Word ++ beyond) → beyond ≡ []
        here before beyond same = none beyond
            (omega (arith, ap length same, length-append before (Word ++ beyond), length-append Word beyond))
    by_start (inr none) more = later none more

read_up_to : (input : List ℕ) → HasResult Anything (λ (_ : Unit {0}). IsUpTo Word) input
read_up_to input = by_case (first_word input)
  where
    by_mark : (front rest : List ℕ) → input ≡ front ++ (Word ++ rest) → ((before beyond : List ℕ)
        → front ++ Word ≡ before ++ (Word ++ beyond) → beyond ≡ []) → FirstMark closing_brace front
        → HasResult Anything (λ (_ : Unit {0}). IsUpTo Word) input
    by_mark front rest whole first (inl lacks) =
        (Some (rest, tt), up_to_read Word input front rest whole first lacks)
    by_mark front rest whole first (inr (inside, after, lacks, closed)) =
        (None, up_to_closed Word input front rest whole first inside after closed)

    by_case : FirstWord input → HasResult Anything (λ (_ : Unit {0}). IsUpTo Word) input
    by_case (inr none) = (None, up_to_none Word input none)
    by_case (inl (front, rest, whole, first)) =
        by_mark front rest whole first (first_mark closing_brace front)

abbrev Token : List ℕ → Unit {0} → List ℕ → Type 0
Token w _ = Is w · IsSpace

read_options : (input : List ℕ) → HasResult Anything IsOptions input
read_options input = by_comma (read_token (codes ",") input).0 (read_token (codes ",") input).1
  where
    by_end : (a : List ℕ) (ra : Reads NoSpace (Token (codes ",")) input (Some (a, tt))) (b : List ℕ)
        (rb : Reads NoSpace (Token (codes "{")) a (Some (b, tt)))
        (c : List ℕ) (rc : Reads NoSpace (Token (codes "with")) b (Some (c, tt))) (d : List ℕ)
        (rd : Reads NoSpace (Token (codes ":")) c (Some (d, tt)))
        (o : Option (List ℕ × Mode)) → Reads Anything IsModeBlock d o → HasResult Anything IsOptions input
    by_end a ra b rb c rc d rd None none = (None, options_no_block input a ra b rb c rc d rd none)
    by_end a ra b rb c rc d rd (Some m) block =
        let last = read_word (codes "}") (skip_leading_whitespace m.0) in (
          option_map (λ x. (x.0, m.1)) last.0,
          options_read input a ra b rb c rc d rd m.0 m.1 last.0 block last.1,
        )

    by_colon : (a : List ℕ) (ra : Reads NoSpace (Token (codes ",")) input (Some (a, tt))) (b : List ℕ)
        (rb : Reads NoSpace (Token (codes "{")) a (Some (b, tt)))
        (c : List ℕ) (rc : Reads NoSpace (Token (codes "with")) b (Some (c, tt)))
        (o : Option (List ℕ × Unit {0})) → Reads NoSpace (Token (codes ":")) c o
        → HasResult Anything IsOptions input
    by_colon a ra b rb c rc None none = (None, options_no_colon input a ra b rb c rc none)
    by_colon a ra b rb c rc (Some d) rd = by_end a ra b rb c rc d.0 rd (read_block d.0).0 (read_block d.0).1

    by_word : (a : List ℕ) (ra : Reads NoSpace (Token (codes ",")) input (Some (a, tt))) (b : List ℕ)
        (rb : Reads NoSpace (Token (codes "{")) a (Some (b, tt)))
        (o : Option (List ℕ × Unit {0})) → Reads NoSpace (Token (codes "with")) b o
        → HasResult Anything IsOptions input
    by_word a ra b rb None none = (None, options_no_with input a ra b rb none)
    by_word a ra b rb (Some c) rc =
        by_colon a ra b rb c.0 rc (read_token (codes ":") c.0).0 (read_token (codes ":") c.0).1

    by_brace : (a : List ℕ) (ra : Reads NoSpace (Token (codes ",")) input (Some (a, tt)))
        (o : Option (List ℕ × Unit {0})) → Reads NoSpace (Token (codes "{")) a o
        → HasResult Anything IsOptions input
    by_brace a ra None none = (None, options_no_brace input a ra none)
    by_brace a ra (Some b) rb =
        by_word a ra b.0 rb (read_token (codes "with") b.0).0 (read_token (codes "with") b.0).1

    by_comma : (o : Option (List ℕ × Unit {0})) → Reads NoSpace (Token (codes ",")) input o
        → HasResult Anything IsOptions input
    by_comma None none = (None, options_no_comma input none)
    by_comma (Some a) ra = by_brace a.0 ra (read_token (codes "{") a.0).0 (read_token (codes "{") a.0).1

abbrev Open : Unit {0} → List ℕ → Type 0
Open _ = IsSpace · Is (codes "(") · IsSpace

read_open : (input : List ℕ) → HasResult NoSpace Open input
read_open input = by_token (read_token (codes "(") (skip_leading_whitespace input)).0
    (read_token (codes "(") (skip_leading_whitespace input)).1
  where
    by_token : (o : Option (List ℕ × Unit {0})) → Reads NoSpace (λ (_ : Unit {0}). Is (codes "(") · IsSpace)
        (skip_leading_whitespace input) o → HasResult NoSpace Open input
    by_token None none = (None, open_none input none)
    by_token (Some x) found = (Some (x.0, tt), open_read input x.0 found)

-- the end of the arguments
read_end : (after : List ℕ) → (mode : Mode) × (o : Option (List ℕ × Unit {0})) × OnlyEnd after mode o
read_end after = by_options (read_options (skip_leading_whitespace after)).0
    (read_options (skip_leading_whitespace after)).1
  where
    by_options : (o : Option (List ℕ × Mode)) → Reads Anything IsOptions (skip_leading_whitespace after) o
        → (mode : Mode) × (o : Option (List ℕ × Unit {0})) × OnlyEnd after mode o
    by_options (Some m) found =
        let paren = read_word (codes ")") (skip_leading_whitespace m.0) in
        (m.1, paren.0, with_options after m.0 m.1 found paren.0 paren.1)
    by_options None none =
        let paren = read_word (codes ")") (skip_leading_whitespace after) in
        (None, paren.0, without_options after none paren.0 paren.1)

read_arguments : (input : List ℕ) → Parsed HasArguments input
read_arguments input = by_open (read_open input).0 (read_open input).1
  where
    by_end : (x : List ℕ × Unit {0}) → (head : Reads NoSpace Open input (Some x)) → (v : List ℕ × List ℕ)
        → Reads Anything IsQuote x.0 (Some v)
        → (mode : Mode) (o : Option (List ℕ × Unit {0})) → OnlyEnd v.0 mode o → Parsed HasArguments input
    by_end x head v quote mode None none =
        (None, no_tail (Open tt) EndsArguments input x.0 head v.0 v.1 quote none)
    by_end x head v quote mode (Some y) ends =
        let import = import_at (byte_count head.0.piece) v.1 mode in (
          Some (y.0, import),
          import_read
              (Open tt) EndsArguments input x.0 head v.0 v.1 quote import y.0 refl refl refl ends.0 ends.1,
        )

    by_quote : (x : List ℕ × Unit {0}) → Reads NoSpace Open input (Some x) → (o : Option (List ℕ × List ℕ))
        → Reads Anything IsQuote x.0 o → Parsed HasArguments input
    by_quote x head None none = (None, no_quote (Open tt) EndsArguments input x.0 head none)
    by_quote x head (Some v) quote =
        let end = read_end v.0 in
        by_end x head v quote end.0 end.1 end.2

    by_open : (o : Option (List ℕ × Unit {0})) → Reads NoSpace Open input o → Parsed HasArguments input
    by_open None none = (None, no_head (Open tt) EndsArguments input none)
    by_open (Some x) head = by_quote x head (read_quote x.0).0 (read_quote x.0).1

pub read_dynamic : (input : List ℕ) → Parsed IsDynamicImport input
read_dynamic input = by_first (read_first input).0 (read_first input).1
  where
    read_first : (input : List ℕ) → HasResult Anything DynamicFirst input
    read_first input = by_brace (read_word (codes "{") input).0 (read_word (codes "{") input).1
      where
        by_brace : (o : Option (List ℕ × Unit {0}))
            → Reads Anything (λ (_ : Unit {0}). Is (codes "{")) input o
            → HasResult Anything DynamicFirst input
        by_brace None none = (None, first_unopened input none)
        by_brace (Some x) opens =
            ((read_up_to x.0).0, first_read input x.0 (read_up_to x.0).0 opens (read_up_to x.0).1)

    by_arguments : (middle : List ℕ) (o : Option (List ℕ × Import)) → ReadsImport HasArguments middle o
        → Parsed IsDynamicEnd middle
    by_arguments middle None none = (None, no_arguments middle none)
    by_arguments middle (Some x) found =
        let close = read_through x.0 in (
          option_map (λ (y : List ℕ × Unit {0}). (y.0, x.1)) close.0,
          after_arguments middle x.0 x.1 close.0 found close.1,
        )

    by_first : (o : Option (List ℕ × Unit {0})) → Reads Anything DynamicFirst input o
        → Parsed IsDynamicImport input
    by_first None none = (None, no_import input none)
    by_first (Some x) first =
        let end = by_arguments x.0 (read_arguments x.0).0 (read_arguments x.0).1 in (
          option_map (λ y. (y.0, moved (byte_count first.0.piece) y.1)) end.0,
          from_import input x.0 first end.0 end.1,
        )
