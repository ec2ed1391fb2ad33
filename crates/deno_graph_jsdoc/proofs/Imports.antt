-- Imports in three parts: the head before the specifier, the specifier in quotes, and the tail.
use Rattle.std.proofs.Common.{◌≡◌, ℕ, suc, ◌+◌, ◌-◌, ◌≤◌, inl, inr, Option, Some, None, List, [], ◌∷◌, ◌++◌}
use Rattle.std.proofs.Common.{length, refl, sym, ap, ◌∙◌, subst, codes, option_map, append_assoc}
use Rattle.std.proofs.Common.{length-append, arith}
use Rattle.std.proofs.lemmas.List.{append_cancel_right}
use Rattle.std.proofs.lemmas.Str.{encodes-append, encodes-chars}
use Rattle.std.specs.Option.{unwrap_or}
use Rattle.std.specs.Str.{IsUtf8, chars, skip_leading_whitespace}
use denote.Ref.{Bor}
use lib.Utf8.{encode, encodes}
use Rattle.deno_graph_jsdoc.specs.Characters.{double_quote, apostrophe}
use Rattle.deno_graph_jsdoc.specs.JsDocGrammar.{◌·◌, IsQuote, IsWith, Begins, Anything, NoSpace}
use Rattle.deno_graph_jsdoc.specs.internal.Reading.{ReadsImport, Reads, rest_and_mode}
use Rattle.deno_graph_jsdoc.specs.JsDocImport.{Mode, Import, BeginsWithImport, EndsDeclaration, byte_count}
use Rattle.deno_graph_jsdoc.specs.JsDocImport.{moved}
use Rattle.deno_graph_jsdoc.proofs.Attributes.{IsSolid-quote}
use Rattle.deno_graph_jsdoc.proofs.Readings.{IsSolid, IsSolid-append, IsSolid-word, NoSpace-solid, space_read}
use Rattle.deno_graph_jsdoc.proofs.Readings.{after_space, before_space}
use Rattle.deno_graph_jsdoc.proofs.Runs.{space_ends}
use Rattle.deno_graph_jsdoc.proofs.Texts.{bytes_from_chars}

-- the bytes of a front and the bytes of the rest are all bytes
pub byte_count_before : (input rest front : List ℕ) → IsUtf8 input → IsUtf8 rest
    → chars input ≡ front ++ chars rest → byte_count front + length rest ≡ length input
byte_count_before input rest front utf8 utf8_rest whole =
    let bytes = bytes_from_chars input front (chars rest) utf8 whole in
    omega (
      arith,
      ap length bytes,
      length-append (encodes front) (encodes (chars rest)),
      ap length (encodes-chars rest utf8_rest),
    )

pub byte_count-append : (xs ys : List ℕ) → byte_count (xs ++ ys) ≡ byte_count xs + byte_count ys
byte_count-append xs ys = ap length (encodes-append xs ys) ∙ length-append (encodes xs) (encodes ys)

pub byte_count_quote : (inside text : List ℕ) → IsQuote inside text → byte_count text ≡ byte_count inside + 2
unfolding encode
byte_count_quote inside text (inl (_, is)) =
    let first : byte_count (double_quote ∷ inside) ≡ suc (byte_count inside) = refl in
    let last : byte_count (double_quote ∷ []) ≡ 1 = refl in
    omega
    (arith, ap byte_count is, byte_count-append (double_quote ∷ inside) (double_quote ∷ []), first, last)
byte_count_quote inside text (inr (_, is)) =
    let first : byte_count (apostrophe ∷ inside) ≡ suc (byte_count inside) = refl in
    let last : byte_count (apostrophe ∷ []) ≡ 1 = refl in
    omega (arith, ap byte_count is, byte_count-append (apostrophe ∷ inside) (apostrophe ∷ []), first, last)

module _ (Head : List ℕ → Type 0) (Tail : List ℕ → Mode → List ℕ → Type 0) where
  -- the range of the specifier is in the text
  pub BeginsWithImport-within : (input : List ℕ) (import : Import) (rest : List ℕ) → IsUtf8 input
      → BeginsWithImport Head Tail (chars input) import rest
      → (import.start ≤ import.end) × (import.end ≤ length input)
  BeginsWithImport-within input import rest utf8 s =
      let bytes : byte_count (s.before ++ (s.quote ++ s.after)) ≡ length input =
      ap byte_count (sym s.whole) ∙ ap length (encodes-chars input utf8) in
      let start = s.start in
      let end = s.end in (
        omega arith,
        omega (
          arith,
          bytes,
          byte_count-append s.before (s.quote ++ s.after),
          byte_count-append s.quote s.after,
          byte_count_quote import.specifier s.quote s.quoted,
        ),
      )

  module _ (input : List ℕ) where
    head_of : {import : Import} {rest : List ℕ} (s : BeginsWithImport Head Tail input import rest)
        → Begins Head input (s.quote ++ s.after)
    head_of s = record { piece = s.before; whole = s.whole; is = s.head }

    solid_quote : {import : Import} {rest : List ℕ} (s : BeginsWithImport Head Tail input import rest)
        → NoSpace (s.quote ++ s.after)
    solid_quote {import} s = NoSpace-solid (s.quote ++ s.after)
        (IsSolid-append s.quote s.after (IsSolid-quote import.specifier s.quote s.quoted))

    pub no_head : Reads NoSpace (λ (_ : Unit {0}). Head) input None
        → ReadsImport (BeginsWithImport Head Tail) input None
    no_head none import rest s = none tt (s.quote ++ s.after) (solid_quote s) (head_of s)

    module _ (quoted : List ℕ) (head : Reads NoSpace (λ (_ : Unit {0}). Head) input (Some (quoted, tt))) where
      quote_of : {import : Import} {rest : List ℕ} (s : BeginsWithImport Head Tail input import rest)
          → Begins (IsQuote import.specifier) quoted s.after
      quote_of s = record {
        piece = s.quote;
        whole = sym (head.1 tt (s.quote ++ s.after) (solid_quote s) (head_of s)).1;
        is = s.quoted;
      }

      same_before : {import : Import} {rest : List ℕ} (s : BeginsWithImport Head Tail input import rest)
          → s.before ≡ head.0.piece
      same_before s =
          append_cancel_right s.before head.0.piece quoted
          (ap (λ t. s.before ++ t) (sym (head.1 tt (s.quote ++ s.after) (solid_quote s) (head_of s)).1)
          ∙ sym s.whole ∙ head.0.whole)

      pub no_quote : Reads Anything IsQuote quoted None → ReadsImport (BeginsWithImport Head Tail) input None
      no_quote none import rest s = none import.specifier s.after tt (quote_of s)

      module _ (after specifier : List ℕ)
          (quote : Reads Anything IsQuote quoted (Some (after, specifier))) where
        tail_of : {import : Import} {rest : List ℕ} (s : BeginsWithImport Head Tail input import rest)
            → Tail after import.mode rest
        tail_of {import} {rest} s =
            subst (λ b. Tail b import.mode rest) (quote.1 import.specifier s.after tt (quote_of s)).1 s.tail

        pub no_tail : ((mode : Mode) (rest : List ℕ) → Tail after mode rest → ⊥)
            → ReadsImport (BeginsWithImport Head Tail) input None
        no_tail none import rest s = none import.mode rest (tail_of s)

        pub import_read : (import : Import) (rest : List ℕ) → import.specifier ≡ specifier
            → import.start ≡ byte_count head.0.piece + 1 → import.end ≡ import.start + byte_count specifier
            → Tail after import.mode rest → ((mode : Mode) (other : List ℕ) → Tail after mode other
            → (mode ≡ import.mode) × (other ≡ rest))
            → ReadsImport (BeginsWithImport Head Tail) input (Some (rest, import))
        import_read import rest is start end tail only = (
          record {
            before = head.0.piece;
            quote = quote.0.piece;
            after = after;
            whole = head.0.whole ∙ ap (λ t. head.0.piece ++ t) quote.0.whole;
            head = head.0.is;
            quoted = subst (λ t. IsQuote t quote.0.piece) (sym is) quote.0.is;
            start = start;
            end = end ∙ ap (λ t. import.start + byte_count t) (sym is);
            tail = tail;
          },
          λ other others_rest s.
              let last = only other.mode others_rest (tail_of s) in
              let text : other.specifier ≡ import.specifier =
              (quote.1 other.specifier s.after tt (quote_of s)).0 ∙ sym is in
              let first : other.start ≡ import.start =
              s.start ∙ ap (λ t. byte_count t + 1) (same_before s) ∙ sym start in
              let final : other.end ≡ import.end = s.end ∙ (λ i. first i + byte_count (text i))
              ∙ ap (λ t. import.start + byte_count t) is ∙ sym end in
              ((λ i. record { specifier = text i; start = first i; end = final i; mode = last.0 i }), last.1),
        )

-- the tail of a declaration
module _ (after : List ℕ) where
  pub with_solid : (mode : Mode) (text : List ℕ) → IsWith mode text → IsSolid text
  with_solid mode text is = IsSolid-word 119 (codes "ith") refl text is

  pub ends_with : (mode : Mode) (rest : List ℕ)
      → Reads Anything IsWith (skip_leading_whitespace after) (Some (rest, mode))
      → EndsDeclaration after mode rest × ((other : Mode) (others_rest : List ℕ)
      → EndsDeclaration after other others_rest → (other ≡ mode) × (others_rest ≡ rest))
  ends_with mode rest found = (inl (before_space after found.0), only)
    where
      only : (other : Mode) (others_rest : List ℕ) → EndsDeclaration after other others_rest
          → (other ≡ mode) × (others_rest ≡ rest)
      only other others_rest (inl b) = found.1 other others_rest tt (after_space (with_solid other) b)
      only other others_rest (inr none) = absurd (none.1 mode rest (before_space after found.0))

  pub ends_without : Reads Anything IsWith (skip_leading_whitespace after) None
      → EndsDeclaration after None (skip_leading_whitespace after)
      × ((other : Mode) (others_rest : List ℕ) → EndsDeclaration after other others_rest
      → (other ≡ None) × (others_rest ≡ skip_leading_whitespace after))
  ends_without none = (
    inr (
      refl,
      (λ other others_rest b. none other others_rest tt (after_space (with_solid other) b)),
      (space_read after).0,
      space_ends after,
    ),
    only,
  )
    where
      only : (other : Mode) (others_rest : List ℕ) → EndsDeclaration after other others_rest
          → (other ≡ None) × (others_rest ≡ skip_leading_whitespace after)
      only other others_rest (inl b) = absurd (none other others_rest tt (after_space (with_solid other) b))
      only other others_rest (inr ends) = (ends.0, ((space_read after).1 tt others_rest ends.3 ends.2).1)

  abbrev OnlyEnd : Bor (List ℕ) × Mode → Type 0
  OnlyEnd c = EndsDeclaration after c.1 (chars c.0.now)
      × ((other : Mode) (others_rest : List ℕ) → EndsDeclaration after other others_rest
      → (other ≡ c.1) × (others_rest ≡ chars c.0.now))

  -- the mode and the rest that a parser of attributes returns, or no mode and the text after white space
  pub ends_at : (found : Option (Bor (List ℕ) × Mode)) (all : Bor (List ℕ)) (chosen : Bor (List ℕ) × Mode)
      → chars all.now ≡ skip_leading_whitespace after
      → Reads Anything IsWith (chars all.now) (rest_and_mode found)
      → chosen ≡ unwrap_or found (all, None) → OnlyEnd chosen
  ends_at None all chosen skipped reads is =
      let none : Reads Anything IsWith (skip_leading_whitespace after) None =
      subst (λ t. Reads Anything IsWith t None) skipped reads in
      subst OnlyEnd (sym is)
      (subst (λ t. EndsDeclaration after None t × ((other : Mode) (others_rest : List ℕ)
      → EndsDeclaration after other others_rest → (other ≡ None) × (others_rest ≡ t)))
      (sym skipped) (ends_without none))
  ends_at (Some x) all chosen skipped reads is =
      subst OnlyEnd (sym is) (ends_with x.1 (chars x.0.now)
      (subst (λ t. Reads Anything IsWith t (Some (chars x.0.now, x.1))) skipped reads))

-- an import whose head has two parts
module _ (F First Head Whole : List ℕ → Type 0) (Tail : List ℕ → Mode → List ℕ → Type 0)
    (apart : (text : List ℕ) → Whole text → (First · Head) text)
    (together : (text : List ℕ) → (First · Head) text → Whole text)
    (follows : (middle rest : List ℕ) → NoSpace rest → Begins Head middle rest → F middle)
    (input : List ℕ) where
  pub record Parts (import : Import) (rest : List ℕ) : Type 0 where
    pub middle : List ℕ
    pub first : Begins First input middle
    pub ready : F middle
    pub later : Import
    pub begins : BeginsWithImport Head Tail middle later rest
    pub same : import ≡ moved (byte_count first.piece) later

  pub parts_of : {import : Import} {rest : List ℕ} → BeginsWithImport Whole Tail input import rest
      → Parts import rest
  parts_of {import} {rest} s =
      let parts = apart s.before s.head in
      let start = s.start in
      let end = s.end in
      let length_before : byte_count s.before ≡ byte_count parts.front + byte_count parts.back =
      ap byte_count parts.whole ∙ byte_count-append parts.front parts.back in
      let first : import.start ≡ byte_count parts.back + 1 + byte_count parts.front = omega arith in
      let final : import.end ≡ byte_count parts.back + 1 + byte_count import.specifier
      + byte_count parts.front = omega arith in
      record {
        middle = parts.back ++ (s.quote ++ s.after);
        first = record {
          piece = parts.front;
          whole = s.whole ∙ ap (λ t. t ++ (s.quote ++ s.after)) parts.whole
              ∙ append_assoc parts.front parts.back (s.quote ++ s.after);
          is = parts.is_front;
        };
        ready = follows (parts.back ++ (s.quote ++ s.after)) (s.quote ++ s.after)
            (NoSpace-solid (s.quote ++ s.after)
            (IsSolid-append s.quote s.after (IsSolid-quote import.specifier s.quote s.quoted)))
            (record { piece = parts.back; whole = refl; is = parts.is_back });
        later = record {
          specifier = import.specifier;
          start = byte_count parts.back + 1;
          end = byte_count parts.back + 1 + byte_count import.specifier;
          mode = import.mode;
        };
        begins = record {
          before = parts.back;
          quote = s.quote;
          after = s.after;
          whole = refl;
          head = parts.is_back;
          quoted = s.quoted;
          start = refl;
          end = refl;
          tail = s.tail;
        };
        same =
            λ i. record { specifier = import.specifier; start = first i; end = final i; mode = import.mode };
      }

  pub no_first : Reads F (λ (_ : Unit {0}). First) input None
      → ReadsImport (BeginsWithImport Whole Tail) input None
  no_first none import rest s =
      let parts = parts_of s in
      none tt parts.middle parts.ready parts.first

  pub joined : (middle : List ℕ) (first : Begins First input middle) {later : Import} {rest : List ℕ}
      → BeginsWithImport Head Tail middle later rest
      → BeginsWithImport Whole Tail input (moved (byte_count first.piece) later) rest
  joined middle first s = record {
    before = first.piece ++ s.before;
    quote = s.quote;
    after = s.after;
    whole = first.whole ∙ ap (λ t. first.piece ++ t) s.whole
        ∙ sym (append_assoc first.piece s.before (s.quote ++ s.after));
    head = together (first.piece ++ s.before) (record
        { front = first.piece; back = s.before; whole = refl; is_front = first.is; is_back = s.head });
    quoted = s.quoted;
    start = (let start = s.start in omega (arith, byte_count-append first.piece s.before));
    end = (let end = s.end in omega arith);
    tail = s.tail;
  }

  pub after_first : (middle : List ℕ) (first : Reads F (λ (_ : Unit {0}). First) input (Some (middle, tt)))
      (o : Option (List ℕ × Import))
      → ReadsImport (BeginsWithImport Head Tail) middle o → ReadsImport (BeginsWithImport Whole Tail) input
      (option_map (λ x. (x.0, moved (byte_count first.0.piece) x.1)) o)
  after_first middle first None none = λ import rest s.
      let parts = parts_of s in
      none parts.later rest (subst (λ m. BeginsWithImport Head Tail m parts.later rest)
      (first.1 tt parts.middle parts.ready parts.first).1 parts.begins)
  after_first middle first (Some x) found = (
    joined middle first.0 found.0,
    λ other others_rest s.
        let parts = parts_of s in
        let middles = (first.1 tt parts.middle parts.ready parts.first).1 in
        let same = found.1 parts.later others_rest
        (subst (λ m. BeginsWithImport Head Tail m parts.later others_rest) middles parts.begins) in
        let pieces : parts.first.piece ≡ first.0.piece =
        append_cancel_right parts.first.piece first.0.piece middle
        (ap (λ t. parts.first.piece ++ t) (sym middles) ∙ sym parts.first.whole ∙ first.0.whole) in
        (parts.same ∙ (λ i. moved (byte_count (pieces i)) (same.0 i)), same.1),
  )

-- an import with a longer tail
module _ (Head : List ℕ → Type 0) (Tail Longer : List ℕ → Mode → List ℕ → Type 0) (P : List ℕ → Type 0)
    (apart : (after : List ℕ) (mode : Mode) (rest : List ℕ) → Longer after mode rest
    → (middle : List ℕ) × Tail after mode middle × Begins P middle rest)
    (together : (after : List ℕ) (mode : Mode) (middle rest : List ℕ) → Tail after mode middle
    → Begins P middle rest → Longer after mode rest)
    (input : List ℕ) where
  shorter : {import : Import} {rest : List ℕ} → BeginsWithImport Head Longer input import rest
      → (middle : List ℕ) × BeginsWithImport Head Tail input import middle × Begins P middle rest
  shorter {import} {rest} s =
      let parts = apart s.after import.mode rest s.tail in (
        parts.0,
        record {
          before = s.before;
          quote = s.quote;
          after = s.after;
          whole = s.whole;
          head = s.head;
          quoted = s.quoted;
          start = s.start;
          end = s.end;
          tail = parts.1;
        },
        parts.2,
      )

  pub no_tail_at_all : ReadsImport (BeginsWithImport Head Tail) input None
      → ReadsImport (BeginsWithImport Head Longer) input None
  no_tail_at_all none import rest s =
      let parts = shorter s in
      none import parts.0 parts.1

  pub longer : (middle : List ℕ) (import : Import) (o : Option (List ℕ × Unit {0}))
      → ReadsImport (BeginsWithImport Head Tail) input (Some (middle, import))
      → Reads Anything (λ (_ : Unit {0}). P) middle o
      → ReadsImport (BeginsWithImport Head Longer) input (option_map (λ x. (x.0, import)) o)
  longer middle import None found none = λ other rest s.
      let parts = shorter s in
      none tt rest tt (subst (λ m. Begins P m rest) (found.1 other parts.0 parts.1).1 parts.2)
  longer middle import (Some x) found more = (
    record {
      before = found.0.before;
      quote = found.0.quote;
      after = found.0.after;
      whole = found.0.whole;
      head = found.0.head;
      quoted = found.0.quoted;
      start = found.0.start;
      end = found.0.end;
      tail = together found.0.after import.mode middle x.0 found.0.tail more.0;
    },
    λ other rest s.
        let parts = shorter s in
        let same = found.1 other parts.0 parts.1 in
        (same.0, (more.1 tt rest tt (subst (λ m. Begins P m rest) same.1 parts.2)).1),
  )

-- an import with a range from the start of `rest`, which follows `piece`, as one with a range from the start
-- of `text`
pub counted_from : (G : List ℕ → Import → List ℕ → Type 0) (text rest piece last : List ℕ)
    (import result : Import) → byte_count piece + length rest ≡ length text
    → result ≡ moved (length text - length rest) import → ReadsImport G (chars text)
    (Some (last, moved (byte_count piece) import)) → ReadsImport G (chars text) (Some (last, result))
counted_from G text rest piece last import result whole same parses =
    let by : byte_count piece ≡ length text - length rest = omega (arith, whole) in
    subst (λ found. ReadsImport G (chars text) (Some (last, found)))
    (ap (λ n. moved n import) by ∙ sym same) parses
