-- Each text begins with exactly one text of a part of the grammar, or with none.
use Rattle.std.proofs.Common.{◌≡◌, ◌≢◌, ℕ, zero, suc, ◌+◌, ◌<◌, ◌==◌, ◌⊎◌, inl, inr, Bool, true, false}
use Rattle.std.proofs.Common.{Option, Some, None, List, [], ◌∷◌, ◌++◌, length, refl, sym, ap, ◌∙◌, cond}
use Rattle.std.proofs.Common.{codes, option_map, length-append, arith}
use Rattle.std.proofs.lemmas.Bool.{eqb-true, eqb-false}
use Rattle.std.proofs.lemmas.List.{append_cancel_left}
use Rattle.std.specs.Option.{option_and_then}
use Rattle.std.specs.Str.{bytes_eq, skip_leading_whitespace}
use Rattle.deno_graph_base.specs.ResolutionMode.{mode_named}
use Rattle.deno_graph_jsdoc.specs.Characters.{double_quote, apostrophe, closing_brace}
use Rattle.deno_graph_jsdoc.specs.JsDocGrammar.{◌·◌, Is, IsSpace, IsGap, IsBetween, IsQuote, IsIdent, IsKey}
use Rattle.deno_graph_jsdoc.specs.JsDocGrammar.{Attribute, IsAttribute, IsModeBlock, IsWith, Lacks}
use Rattle.deno_graph_jsdoc.specs.JsDocGrammar.{ends_ident, resolution_mode_value, Anything, NoSpace}
use Rattle.deno_graph_jsdoc.specs.internal.Reading.{IsModeBlockEnd, begins_ident, ReadsImport, EndOfIdent}
use Rattle.deno_graph_jsdoc.specs.internal.Reading.{Reads}
use Rattle.deno_graph_jsdoc.specs.JsDocImport.{Mode, Import, byte_count}
use Rattle.deno_graph_jsdoc.proofs.Attributes.{attribute_no_key, attribute_no_colon, attribute_read}
use Rattle.deno_graph_jsdoc.proofs.Attributes.{key_quoted, key_named}
use Rattle.deno_graph_jsdoc.proofs.Blocks.{SoFar, SoFar-start, SoFar-more, block_no_attribute, block_closed}
use Rattle.deno_graph_jsdoc.proofs.Blocks.{block_broken, block_unopened, block_empty, block_attributes}
use Rattle.deno_graph_jsdoc.proofs.Blocks.{with_none, with_read}
use Rattle.deno_graph_jsdoc.proofs.Braces.{FirstMark, first_mark}
use Rattle.deno_graph_jsdoc.proofs.Parts.{unmarked_read, unclosed_read, between_read, quote_double}
use Rattle.deno_graph_jsdoc.proofs.Parts.{quote_single, IsNameRun, ident_read, ident_none, brace_none}
use Rattle.deno_graph_jsdoc.proofs.Parts.{brace_read}
use Rattle.deno_graph_jsdoc.proofs.Readings.{spaced, spaced_none, space_read, Begins-length, Begins-shorter}
use Rattle.deno_graph_jsdoc.proofs.Runs.{space_whole, same_space}
use Rattle.deno_graph_jsdoc.proofs.Words.{mode_name-kept, mode_name-first}

abbrev pub HasResult : {V : Type 0} → (List ℕ → Type 0) → (V → List ℕ → Type 0) → List ℕ → Type 0
HasResult {V} F P input = (o : Option (List ℕ × V)) × Reads F P input o

-- words
abbrev pub Starts : List ℕ → List ℕ → Type 0
Starts w input = ((rest : List ℕ) × (input ≡ w ++ rest)) ⊎ ((rest : List ℕ) → input ≢ w ++ rest)

pub starts : (w input : List ℕ) → Starts w input
starts [] input = inl (input, refl)
starts (c ∷ w) [] = inr (λ rest is. absurd (cc))
starts (c ∷ w) (d ∷ ds) = by_first (d == c) refl (starts w ds)
  where
    by_rest : d ≡ c → Starts w ds → Starts (c ∷ w) (d ∷ ds)
    by_rest same (inl (rest, is)) = inl (rest, λ i. same i ∷ is i)
    by_rest same (inr none) = inr (λ rest is.
        let tails : ds ≡ w ++ rest = cc in
        none rest tails)

    by_first : (b : Bool) → (d == c) ≡ b → Starts w ds → Starts (c ∷ w) (d ∷ ds)
    by_first true is more = by_rest (eqb-true d c is) more
    by_first false is more = inr (λ rest whole.
        let heads : d ≡ c = cc in
        eqb-false d c is heads)

pub read_word : (w input : List ℕ) → HasResult Anything (λ (_ : Unit {0}). Is w) input
read_word w input = by_start (starts w input)
  where
    by_start : Starts w input → HasResult Anything (λ (_ : Unit {0}). Is w) input
    by_start (inl (rest, is)) = (
      Some (rest, tt),
      (
        record { piece = w; whole = is; is = refl },
        λ _ after _ b.
            (refl, append_cancel_left w after rest (ap (λ t. t ++ after) (sym b.is) ∙ sym b.whole ∙ is)),
      ),
    )
    by_start (inr none) = (None, λ _ rest _ b. none rest (b.whole ∙ ap (λ t. t ++ rest) b.is))

pub read_token : (w input : List ℕ) → HasResult NoSpace (λ (_ : Unit {0}). Is w · IsSpace) input
read_token w input = by_word (read_word w input).0 (read_word w input).1
  where
    by_word : (o : Option (List ℕ × Unit {0})) → Reads Anything (λ (_ : Unit {0}). Is w) input o
        → HasResult NoSpace (λ (_ : Unit {0}). Is w · IsSpace) input
    by_word None none = (None, spaced_none (λ (_ : Unit {0}). Is w) input none)
    by_word (Some x) found =
        (Some (skip_leading_whitespace x.0, tt), spaced (λ (_ : Unit {0}). Is w) input x.0 tt found)

pub read_gap : (input : List ℕ) → HasResult NoSpace (λ (_ : Unit {0}). IsGap) input
read_gap input = by_space (space_whole input).0 (space_whole input).1 (space_whole input).2
  where
    by_space : (space : List ℕ) → IsSpace space → input ≡ space ++ skip_leading_whitespace input
        → HasResult NoSpace (λ (_ : Unit {0}). IsGap) input
    by_space [] white whole = (
      None,
      λ _ rest stop b.
          let same = same_space input b.piece rest b.is.0 stop b.whole in
          let some = b.is.1 in
          omega (arith, ap length b.whole, length-append b.piece rest, ap length same, ap length whole, some),
    )
    by_space (c ∷ cs) white whole = (
      Some (skip_leading_whitespace input, tt),
      (
        record { piece = c ∷ cs; whole = whole; is = (white, omega arith) },
        λ _ after stop b. (refl, same_space input b.piece after b.is.0 stop b.whole),
      ),
    )

-- quotes and identifiers
read_between : (mark : ℕ) (input : List ℕ) → HasResult Anything (IsBetween mark) input
read_between mark [] = (None, unmarked_read mark [] (λ rest is. absurd (cc)))
read_between mark (c ∷ cs) = by_mark (c == mark) refl (first_mark mark cs)
  where
    by_mark : (b : Bool) → (c == mark) ≡ b → FirstMark mark cs → HasResult Anything (IsBetween mark) (c ∷ cs)
    by_mark true is (inl lacks) =
        (None, unclosed_read mark (c ∷ cs) cs (ap (λ d. d ∷ cs) (eqb-true c mark is)) lacks)
    by_mark true is (inr (inside, after, lacks, whole)) = (
      Some (after, inside),
      between_read mark (c ∷ cs) cs inside after
          (ap (λ d. d ∷ cs) (eqb-true c mark is)) lacks whole,
    )
    by_mark false is _ = (
      None,
      unmarked_read mark (c ∷ cs) (λ rest same.
          let heads : c ≡ mark = cc in
          eqb-false c mark is heads),
    )

pub read_quote : (input : List ℕ) → HasResult Anything IsQuote input
read_quote input = by_double (read_between double_quote input).0 (read_between double_quote input).1
  where
    by_double : (o : Option (List ℕ × List ℕ)) → Reads Anything (IsBetween double_quote) input o
        → HasResult Anything IsQuote input
    by_double (Some x) found = (Some x, quote_double input x.0 x.1 found)
    by_double None none = (
      (read_between apostrophe input).0,
      quote_single input (read_between apostrophe input).0 none
          (read_between apostrophe input).1,
    )

name_run : (input : List ℕ) → (name : List ℕ) × (rest : List ℕ) × IsNameRun input name rest
name_run [] = ([], [], (refl, tt, tt))
name_run (c ∷ cs) = by_first (ends_ident c) refl (name_run cs)
  where
    by_first : (b : Bool) → ends_ident c ≡ b → (name : List ℕ) × (rest : List ℕ) × IsNameRun cs name rest
        → (name : List ℕ) × (rest : List ℕ) × IsNameRun (c ∷ cs) name rest
    by_first true is more = ([], c ∷ cs, (refl, tt, is))
    by_first false is (name, rest, run) = (c ∷ name, rest, (ap (λ t. c ∷ t) run.0, (is, run.1), run.2))

pub read_ident : (input : List ℕ) → HasResult EndOfIdent (λ name text. IsIdent text × (name ≡ text)) input
read_ident input = by_first (begins_ident (name_run input).0) refl
  where
    by_first : (b : Bool) → begins_ident (name_run input).0 ≡ b
        → HasResult EndOfIdent (λ name text. IsIdent text × (name ≡ text)) input
    by_first true is = (
      Some ((name_run input).1, (name_run input).0),
      ident_read input (name_run input).0 (name_run input).1 (name_run input).2 is,
    )
    by_first false is = (None, ident_none input (name_run input).0 (name_run input).1 (name_run input).2 is)

pub read_through : (input : List ℕ)
    → HasResult Anything (λ (_ : Unit {0}). Lacks closing_brace · Is (codes "}")) input
read_through input = by_mark (first_mark closing_brace input)
  where
    by_mark : FirstMark closing_brace input
        → HasResult Anything (λ (_ : Unit {0}). Lacks closing_brace · Is (codes "}")) input
    by_mark (inl lacks) = (None, brace_none input lacks)
    by_mark (inr (inside, after, lacks, whole)) =
        (Some (after, tt), brace_read input inside after lacks whole)

-- attributes
read_key : (input : List ℕ) → HasResult EndOfIdent IsKey input
read_key input = by_quote (read_quote input).0 (read_quote input).1
  where
    by_quote : (o : Option (List ℕ × List ℕ)) → Reads Anything IsQuote input o
        → HasResult EndOfIdent IsKey input
    by_quote (Some x) found = (Some x, key_quoted input x.0 x.1 found)
    by_quote None none =
        ((read_ident input).0, key_named input (read_ident input).0 none (read_ident input).1)

read_attribute : (input : List ℕ) → HasResult Anything IsAttribute input
read_attribute input = by_key (read_key input).0 (read_key input).1
  where
    by_colon : (x : List ℕ × List ℕ) → Reads EndOfIdent IsKey input (Some x)
        → (o : Option (List ℕ × Unit {0}))
        → Reads NoSpace (λ (_ : Unit {0}). Is (codes ":") · IsSpace) (skip_leading_whitespace x.0) o
        → HasResult Anything IsAttribute input
    by_colon x found None none = (None, attribute_no_colon input x.0 x.1 found none)
    by_colon x found (Some y) colon = (
      option_map (λ v. (v.0, record { key = x.1; value = v.1 })) (read_quote y.0).0,
      attribute_read input x.0 x.1 found y.0 colon (read_quote y.0).0 (read_quote y.0).1,
    )

    by_key : (o : Option (List ℕ × List ℕ)) → Reads EndOfIdent IsKey input o
        → HasResult Anything IsAttribute input
    by_key None none = (None, attribute_no_key input none)
    by_key (Some x) found = by_colon x found (read_token (codes ":") (skip_leading_whitespace x.0)).0
        (read_token (codes ":") (skip_leading_whitespace x.0)).1

abbrev next_name : Option (List ℕ) → Attribute → Option (List ℕ)
next_name (Some name) a = Some name
next_name None a = cond (bytes_eq a.key (codes "resolution-mode")) (Some a.value) None

next_named : (name : Option (List ℕ)) (a : Attribute) (before : List Attribute)
    → name ≡ resolution_mode_value before
    → next_name name a ≡ resolution_mode_value (before ++ a ∷ [])
next_named (Some name) a before is = mode_name-kept before (a ∷ []) name is
next_named None a before is = mode_name-first before a (bytes_eq a.key (codes "resolution-mode")) is refl

abbrev Again : ℕ → List ℕ → Type 0
Again limit input = (later : List ℕ) (next : Option (List ℕ)) → SoFar input later next → length later < limit
    → HasResult Anything IsModeBlockEnd input

read_attributes : (limit : ℕ) (input rest : List ℕ) (name : Option (List ℕ)) → SoFar input rest name
    → length rest < limit → HasResult Anything IsModeBlockEnd input
read_attributes zero input rest name so_far fits = absurd (omega arith)
read_attributes (suc limit) input rest name so_far fits =
    by_attribute (read_attribute rest).0 (read_attribute rest).1
    (λ later next more less. read_attributes limit input later next more less)
  where
    by_comma : (x : List ℕ × Attribute) → Reads Anything IsAttribute rest (Some x)
        → Reads Anything (λ (_ : Unit {0}). Is (codes "}")) (skip_leading_whitespace x.0) None
        → (o : Option (List ℕ × Unit {0})) → Reads NoSpace (λ (_ : Unit {0}). Is (codes ",") · IsSpace)
        (skip_leading_whitespace x.0) o → Again limit input → HasResult Anything IsModeBlockEnd input
    by_comma x found no_brace None none again = (
      None,
      block_broken input rest x.0 name (next_name name x.1) x.1 so_far found
          (next_named name x.1) no_brace none,
    )
    by_comma x found no_brace (Some z) comma again =
        again z.0 (next_name name x.1) (SoFar-more input rest x.0 name (next_name name x.1) x.1 so_far found
        (next_named name x.1) z.0 comma)
        (omega (arith, fits, Begins-length found.0, Begins-length (space_read x.0).0, Begins-shorter comma.0))

    by_brace : (x : List ℕ × Attribute) → Reads Anything IsAttribute rest (Some x)
        → (o : Option (List ℕ × Unit {0}))
        → Reads Anything (λ (_ : Unit {0}). Is (codes "}")) (skip_leading_whitespace x.0) o
        → Again limit input → HasResult Anything IsModeBlockEnd input
    by_brace x found (Some y) brace again = (
      Some (y.0, option_and_then mode_named (next_name name x.1)),
      block_closed input rest x.0 name (next_name name x.1) x.1 so_far found (next_named name x.1) y.0
          (option_and_then mode_named (next_name name x.1)) brace refl,
    )
    by_brace x found None none again =
        by_comma x found none (read_token (codes ",") (skip_leading_whitespace x.0)).0
        (read_token (codes ",") (skip_leading_whitespace x.0)).1 again

    by_attribute : (o : Option (List ℕ × Attribute)) → Reads Anything IsAttribute rest o → Again limit input
        → HasResult Anything IsModeBlockEnd input
    by_attribute None none again = (None, block_no_attribute input rest name so_far none)
    by_attribute (Some x) found again = by_brace x found (read_word (codes "}")
        (skip_leading_whitespace x.0)).0 (read_word (codes "}") (skip_leading_whitespace x.0)).1 again

pub read_block : (input : List ℕ) → HasResult Anything IsModeBlock input
read_block input = by_open (read_token (codes "{") input).0 (read_token (codes "{") input).1
  where
    by_close : (x : List ℕ × Unit {0}) → Reads NoSpace (λ (_ : Unit {0}). Is (codes "{") · IsSpace) input
        (Some x) → (o : Option (List ℕ × Unit {0}))
        → Reads Anything (λ (_ : Unit {0}). Is (codes "}")) x.0 o → HasResult Anything IsModeBlock input
    by_close x opens (Some y) brace = (Some (y.0, None), block_empty input x.0 opens y.0 brace)
    by_close x opens None none =
        let all = read_attributes (length x.0 + 1) x.0 x.0 None (SoFar-start x.0) (omega arith) in
        (all.0, block_attributes input x.0 opens all.0 none all.1)

    by_open : (o : Option (List ℕ × Unit {0})) → Reads NoSpace
        (λ (_ : Unit {0}). Is (codes "{") · IsSpace) input o → HasResult Anything IsModeBlock input
    by_open None none = (None, block_unopened input none)
    by_open (Some x) opens = by_close x opens (read_word (codes "}") x.0).0 (read_word (codes "}") x.0).1

pub read_with : (input : List ℕ) → HasResult Anything IsWith input
read_with input = by_word (read_token (codes "with") input).0 (read_token (codes "with") input).1
  where
    by_word : (o : Option (List ℕ × Unit {0}))
        → Reads NoSpace (λ (_ : Unit {0}). Is (codes "with") · IsSpace) input o
        → HasResult Anything IsWith input
    by_word None none = (None, with_none input none)
    by_word (Some x) word =
        ((read_block x.0).0, with_read input x.0 (read_block x.0).0 word (read_block x.0).1)

-- a text begins with exactly one import, or with none
abbrev pub Parsed : (List ℕ → Import → List ℕ → Type 0) → List ℕ → Type 0
Parsed G input = (o : Option (List ℕ × Import)) × ReadsImport G input o

-- the import with this specifier, whose quotes begin after `before` bytes
abbrev pub import_at : ℕ → List ℕ → Mode → Import
import_at before specifier mode =
    record { specifier = specifier; start = before + 1; end = before + 1 + byte_count specifier; mode = mode }
