-- Attributes one after another, and blocks of them.
use Rattle.std.proofs.Common.{◌≡◌, ℕ, ◌<◌, inl, inr, Option, Some, None, List, [], ◌∷◌, ◌++◌, length, refl}
use Rattle.std.proofs.Common.{sym, ap, ◌∙◌, subst, codes, append_assoc, length-append, arith}
use Rattle.std.specs.Option.{option_and_then}
use Rattle.std.specs.Str.{skip_leading_whitespace}
use Rattle.deno_graph_jsdoc.specs.Characters.{opening_brace, closing_brace}
use Rattle.deno_graph_jsdoc.specs.JsDocGrammar.{◌·◌, Is, IsSpace, IsIdent, IsKey, Attribute, IsAttribute}
use Rattle.deno_graph_jsdoc.specs.JsDocGrammar.{AreFurther, AreAttributes, IsBlock, IsModeBlock, IsWith}
use Rattle.deno_graph_jsdoc.specs.JsDocGrammar.{resolution_mode_value, mode_of, Begins, Anything, NoSpace}
use Rattle.deno_graph_jsdoc.specs.internal.Reading.{IsModeBlockEnd, Reads}
use Rattle.deno_graph_base.specs.ResolutionMode.{mode_named}
use Rattle.deno_graph_base.specs.declared.values.resolution_mode.TypeScriptTypesResolutionMode.{TypeScriptTypesResolutionMode}
use Rattle.deno_graph_jsdoc.proofs.Alphabetic.{Alphabetic-is_whitespace}
use Rattle.deno_graph_jsdoc.proofs.Attributes.{IsSolid-quote, key_no_brace}
use Rattle.deno_graph_jsdoc.proofs.Readings.{Begins-split, Begins-join, IsSolid, IsSolid-append, IsSolid-word}
use Rattle.deno_graph_jsdoc.proofs.Readings.{NoSpace-before, regroup, ungroup, regroup_4, ungroup_4}
use Rattle.deno_graph_jsdoc.proofs.Readings.{one_space, after_space, before_space, after_nothing}
use Rattle.deno_graph_jsdoc.proofs.Readings.{before_nothing, lexeme_none, lexeme_then, same_first}

-- an attribute begins with no white space
pub IsSolid-ident : (text : List ℕ) → IsIdent text → IsSolid text
IsSolid-ident [] is = absurd is
IsSolid-ident (c ∷ cs) is = Alphabetic-is_whitespace c is.0

IsSolid-key : (key text : List ℕ) → IsKey key text → IsSolid text
IsSolid-key key text (inl is) = IsSolid-quote key text is
IsSolid-key key text (inr is) = IsSolid-ident text is.0

pub IsSolid-front : {P Q : List ℕ → Type 0} → ((text : List ℕ) → P text → IsSolid text) → (text : List ℕ)
    → (P · Q) text → IsSolid text
IsSolid-front solid text parts =
    subst IsSolid (sym parts.whole) (IsSolid-append parts.front parts.back (solid parts.front parts.is_front))

-- attributes up to a closing brace
abbrev pub Through : List Attribute → List ℕ → Type 0
Through attributes = AreAttributes attributes · IsSpace · Is (codes "}")

pub Through-solid : (attributes : List Attribute) → 0 < length attributes → (text : List ℕ)
    → Through attributes text → IsSolid text
Through-solid [] some text parts = absurd (omega arith)
Through-solid (a ∷ others) some text parts =
    IsSolid-front (IsSolid-front (IsSolid-front (IsSolid-key a.key))) text parts

-- the text after an attribute: a closing brace, or a comma and more attributes
abbrev pub Closed : List ℕ → Type 0
Closed = Is (codes "}")

abbrev pub More : List Attribute → List ℕ → Type 0
More others = Is (codes ",") · IsSpace · Through others

pub Closed-solid : (text : List ℕ) → Closed text → IsSolid text
Closed-solid text is = subst IsSolid (sym is) refl

abbrev pub Follows : List Attribute → List ℕ → List ℕ → Type 0
Follows [] input rest = Begins Closed (skip_leading_whitespace input) rest
Follows (a ∷ others) input rest = Begins (More (a ∷ others)) (skip_leading_whitespace input) rest

pub further_apart : (others : List Attribute) {input rest : List ℕ}
    → Begins (AreFurther others · IsSpace · Closed) input rest → Follows others input rest
further_apart [] b = after_space Closed-solid (after_nothing b)
further_apart (a ∷ others) b = after_space (IsSolid-word 44 [] refl) (ungroup_4 b)

further_together : (others : List Attribute) (input : List ℕ) {rest : List ℕ} → Follows others input rest
    → Begins (AreFurther others · IsSpace · Closed) input rest
further_together [] input b = before_nothing (before_space input b)
further_together (a ∷ others) input b = regroup_4 (before_space input b)

-- if a text begins with attributes, the first of them is the attribute that a parser reads
module _ (rest after : List ℕ) (a : Attribute)
    (found : Reads Anything IsAttribute rest (Some (after, a))) where
  first_apart : (all : List Attribute) {end : List ℕ} → 0 < length all → Begins (Through all) rest end
      → (others : List Attribute) × (all ≡ a ∷ others) × Follows others after end
  first_apart [] some b = absurd (omega arith)
  first_apart (b ∷ others) {end} some begins =
      let parts = Begins-split (ungroup begins) in
      let same = found.1 b parts.0 tt parts.1 in (
        others,
        ap (λ x. x ∷ others) same.0,
        subst (λ m. Follows others m end) same.1
            (further_apart others parts.2),
      )

  first_together : (others : List Attribute) {end : List ℕ} → Follows others after end
      → Begins (Through (a ∷ others)) rest end
  first_together others follows = regroup (Begins-join found.0 (further_together others after follows))

-- the attributes of a block that have been read
pub record SoFar (input rest : List ℕ) (name : Option (List ℕ)) : Type 0 where
  pub before : List Attribute
  pub named : name ≡ resolution_mode_value before
  pub sound : (more : List Attribute) (end : List ℕ) → 0 < length more → Begins (Through more) rest end
      → Begins (Through (before ++ more)) input end
  pub complete : (all : List Attribute) (end : List ℕ) → 0 < length all → Begins (Through all) input end
      → (more : List Attribute) × (0 < length more) × (all ≡ before ++ more) × Begins (Through more) rest end

pub SoFar-start : (input : List ℕ) → SoFar input input None
SoFar-start input = record {
  before = [];
  named = refl;
  sound = λ more end some b. b;
  complete = λ all end some b. (all, some, refl, b);
}

-- a block without a further attribute doesn't parse
pub block_no_attribute : (input rest : List ℕ) (name : Option (List ℕ)) → SoFar input rest name
    → Reads Anything IsAttribute rest None → Reads Anything IsModeBlockEnd input None
block_no_attribute input rest name so_far none mode end _ b =
    let inside = b.is.3 in
    let found =
    so_far.complete b.is.0 end b.is.1 (record { piece = b.piece; whole = b.whole; is = inside }) in
    first found.0 found.1 found.3
  where
    first : (more : List Attribute) → 0 < length more → Begins (Through more) rest end → ⊥
    first [] some begins = absurd (omega arith)
    first (a ∷ others) some begins =
        let parts = Begins-split (ungroup begins) in
        none a parts.0 tt parts.1

-- the result for the whole block, from the cached result for the rest
module _ (input rest : List ℕ) (name : Option (List ℕ)) (so_far : SoFar input rest name) where
  left_of : {mode : Option TypeScriptTypesResolutionMode} {end : List ℕ}
      → Begins (IsModeBlockEnd mode) input end
      → (more : List Attribute) × (mode ≡ mode_of (so_far.before ++ more))
      × Begins (IsModeBlockEnd (mode_of more)) rest end
  left_of {mode} {end} b =
      let left = so_far.complete b.is.0 end b.is.1
      (record { piece = b.piece; whole = b.whole; is = b.is.3 }) in (
        left.0,
        b.is.2 ∙ ap mode_of left.2,
        record { piece = left.3.piece; whole = left.3.whole; is = (left.0, left.1, refl, left.3.is) },
      )

  pub block_fails : Reads Anything IsModeBlockEnd rest None → Reads Anything IsModeBlockEnd input None
  block_fails none mode end _ b =
      let left = left_of b in
      none (mode_of left.0) end tt left.2

  pub block_cached : (end : List ℕ) (mode whole_mode : Option TypeScriptTypesResolutionMode)
      → Reads Anything IsModeBlockEnd rest (Some (end, mode))
      → ((before others : List Attribute) → name ≡ resolution_mode_value before → mode ≡ mode_of others
      → whole_mode ≡ mode_of (before ++ others))
      → Reads Anything IsModeBlockEnd input (Some (end, whole_mode))
  block_cached end mode whole_mode found named =
      let more = found.0.is in
      let all : List Attribute = so_far.before ++ more.0 in
      let some : 0 < length all = omega (arith, length-append so_far.before more.0, more.1) in
      let begins = so_far.sound more.0 end more.1
      (record { piece = found.0.piece; whole = found.0.whole; is = more.3 }) in (
        record {
          piece = begins.piece;
          whole = begins.whole;
          is = (all, some, named so_far.before more.0 so_far.named more.2, begins.is);
        },
        λ other after _ b.
            let left = left_of b in
            let same = found.1 (mode_of left.0) after tt left.2 in
            (left.1 ∙ sym (named so_far.before left.0 so_far.named (sym same.0)), same.1),
      )

-- one more attribute
module _ (input rest after : List ℕ) (name next : Option (List ℕ)) (a : Attribute)
    (so_far : SoFar input rest name)
    (found : Reads Anything IsAttribute rest (Some (after, a)))
    (named : (before : List Attribute) → name ≡ resolution_mode_value before
    → next ≡ resolution_mode_value (before ++ a ∷ [])) where
  -- a comma follows the attribute
  pub SoFar-more : (later : List ℕ) → Reads NoSpace (λ (_ : Unit {0}). Is (codes ",") · IsSpace)
      (skip_leading_whitespace after) (Some (later, tt)) → SoFar input later next
  SoFar-more later comma = record {
    before = so_far.before ++ a ∷ [];
    named = named so_far.before so_far.named;
    sound = sound;
    complete = complete;
  }
    where
      sound : (more : List Attribute) (end : List ℕ) → 0 < length more → Begins (Through more) later end
          → Begins (Through ((so_far.before ++ a ∷ []) ++ more)) input end
      sound [] end some b = absurd (omega arith)
      sound (x ∷ others) end some b =
          subst (λ all. Begins (Through all) input end)
          (sym (append_assoc so_far.before (a ∷ []) (x ∷ others)))
          (so_far.sound (a ∷ x ∷ others) end (omega arith)
          (first_together rest after a found (x ∷ others) (ungroup (Begins-join comma.0 b))))

      later_of : (others : List Attribute) {end : List ℕ} → Follows others after end
          → (0 < length others) × Begins (Through others) later end
      later_of [] b = absurd
          (let heads : ◌≡◌ {A = ℕ} 44 125 = same_first (Begins-split comma.0).1 b in omega (arith, heads))
      later_of (x ∷ others) {end} b =
          let parts = Begins-split (regroup b) in (
            omega arith,
            subst (λ m. Begins (Through (x ∷ others)) m end) (comma.1 tt parts.0
                (NoSpace-before (Through-solid (x ∷ others) (omega arith)) parts.2) parts.1).1 parts.2,
          )

      complete : (all : List Attribute) (end : List ℕ) → 0 < length all → Begins (Through all) input end
          → (more : List Attribute) × (0 < length more) × (all ≡ (so_far.before ++ a ∷ []) ++ more)
          × Begins (Through more) later end
      complete all end some b =
          let left = so_far.complete all end some b in
          let first = first_apart rest after a found left.0 left.1 left.3 in
          let more = later_of first.0 first.2 in (
            first.0,
            more.0,
            left.2 ∙ ap (λ t. so_far.before ++ t) first.1
                ∙ sym (append_assoc so_far.before (a ∷ []) first.0),
            more.1,
          )

  -- a closing brace follows the attribute
  pub block_closed : (closed : List ℕ) (mode : Option TypeScriptTypesResolutionMode)
      → Reads Anything (λ (_ : Unit {0}). Closed) (skip_leading_whitespace after) (Some (closed, tt))
      → mode ≡ option_and_then mode_named next → Reads Anything IsModeBlockEnd input (Some (closed, mode))
  block_closed closed mode brace names =
      let all : List Attribute = so_far.before ++ a ∷ [] in
      let is_mode : mode ≡ mode_of all =
      names ∙ ap (option_and_then mode_named) (named so_far.before so_far.named) in
      let some : 0 < length all = omega (arith, length-append so_far.before (a ∷ [])) in
      let begins =
      so_far.sound (a ∷ []) closed (omega arith) (first_together rest after a found [] brace.0) in (
        record { piece = begins.piece; whole = begins.whole; is = (all, some, is_mode, begins.is) },
        λ other end _ b.
            let left = so_far.complete b.is.0 end b.is.1
            (record { piece = b.piece; whole = b.whole; is = b.is.3 }) in
            let first = first_apart rest after a found left.0 left.1 left.3 in
            let last = only first.0 first.2 in (
              b.is.2 ∙ ap mode_of (left.2 ∙ ap (λ t. so_far.before ++ t) (first.1 ∙ ap (λ t. a ∷ t) last.0))
                  ∙ sym is_mode,
              last.1,
            ),
      )
    where
      only : (others : List Attribute) {end : List ℕ} → Follows others after end
          → (others ≡ []) × (end ≡ closed)
      only [] {end} b = (refl, (brace.1 tt end tt b).1)
      only (x ∷ others) b = absurd
          (let heads : ◌≡◌ {A = ℕ} 44 125 = same_first (Begins-split b).1 brace.0 in omega (arith, heads))

  -- neither a comma nor a brace follows the attribute
  pub block_broken : Reads Anything (λ (_ : Unit {0}). Closed) (skip_leading_whitespace after) None
      → Reads NoSpace (λ (_ : Unit {0}). Is (codes ",") · IsSpace) (skip_leading_whitespace after) None
      → Reads Anything IsModeBlockEnd input None
  block_broken no_brace no_comma other end _ b =
      let left =
      so_far.complete b.is.0 end b.is.1 (record { piece = b.piece; whole = b.whole; is = b.is.3 }) in
      let first = first_apart rest after a found left.0 left.1 left.3 in
      neither first.0 first.2
    where
      neither : (others : List Attribute) → Follows others after end → ⊥
      neither [] b = no_brace tt end tt b
      neither (x ∷ others) b =
          let parts = Begins-split (regroup b) in
          no_comma tt parts.0 (NoSpace-before (Through-solid (x ∷ others) (omega arith)) parts.2) parts.1

-- a block: an opening brace, and then a closing brace or attributes
abbrev pub Inside : List Attribute → List ℕ → List ℕ → Type 0
Inside [] input rest = Begins Closed input rest
Inside (a ∷ others) input rest = Begins (Through (a ∷ others)) input rest

pub Inside-solid : (attributes : List Attribute) (input rest : List ℕ)
    → Inside attributes input rest → NoSpace input
Inside-solid [] input rest b = NoSpace-before Closed-solid b
Inside-solid (a ∷ others) input rest b = NoSpace-before (Through-solid (a ∷ others) (omega arith)) b

pub block_apart : (attributes : List Attribute) {input rest : List ℕ} → Begins (IsBlock attributes) input rest
    → (middle : List ℕ) × Begins (Is (codes "{") · IsSpace) input middle × Inside attributes middle rest
block_apart [] b =
    let open_at = Begins-split b in
    let inside = Begins-split
    (one_space (Begins-join (Begins-split open_at.2).1 (after_nothing (Begins-split open_at.2).2))) in
    (inside.0, Begins-join open_at.1 inside.1, inside.2)
block_apart (a ∷ others) b =
    let parts = Begins-split (regroup b) in
    (parts.0, parts.1, parts.2)

block_together : (attributes : List Attribute) {input middle rest : List ℕ}
    → Begins (Is (codes "{") · IsSpace) input middle → Inside attributes middle rest
    → Begins (IsBlock attributes) input rest
block_together [] {input} {middle} {rest} opens inside =
    ungroup (Begins-join opens
    (before_nothing (Begins-join (record { piece = []; whole = refl; is = tt }) inside)))
block_together (a ∷ others) opens inside = ungroup (Begins-join opens inside)

pub brace_apart : (attributes : List Attribute) {input rest after : List ℕ} → 0 < length attributes
    → Begins (Through attributes) input rest → Begins Closed input after → ⊥
brace_apart [] some b closed = absurd (omega arith)
brace_apart (a ∷ others) {input} {rest} {after} some b closed =
    let first = Begins-split (Begins-split (ungroup b)).1 in
    let whole : first.1.piece ++ first.0 ≡ closing_brace ∷ after =
    sym first.1.whole ∙ closed.whole ∙ ap (λ t. t ++ after) closed.is in
    key_no_brace a.key first.1.piece first.0 after first.1.is whole

pub block_unopened : (input : List ℕ) → Reads NoSpace (λ (_ : Unit {0}). Is (codes "{") · IsSpace) input None
    → Reads Anything IsModeBlock input None
block_unopened input none mode rest _ b =
    let parts = block_apart b.is.0 (record { piece = b.piece; whole = b.whole; is = b.is.2 }) in
    none tt parts.0 (Inside-solid b.is.0 parts.0 rest parts.2) parts.1

module _ (input middle : List ℕ)
    (opens : Reads NoSpace (λ (_ : Unit {0}). Is (codes "{") · IsSpace) input (Some (middle, tt))) where
  inside_of : {mode : Option TypeScriptTypesResolutionMode} {rest : List ℕ}
      → Begins (IsModeBlock mode) input rest
      → (attributes : List Attribute) × (mode ≡ mode_of attributes) × Inside attributes middle rest
  inside_of {mode} {rest} b =
      let parts = block_apart b.is.0 (record { piece = b.piece; whole = b.whole; is = b.is.2 }) in
      let same = (opens.1 tt parts.0 (Inside-solid b.is.0 parts.0 rest parts.2) parts.1).1 in
      (b.is.0, b.is.1, subst (λ m. Inside b.is.0 m rest) same parts.2)

  pub block_empty : (rest : List ℕ) → Reads Anything (λ (_ : Unit {0}). Closed) middle (Some (rest, tt))
      → Reads Anything IsModeBlock input (Some (rest, None))
  block_empty rest brace =
      let begins = block_together [] opens.0 brace.0 in (
        record { piece = begins.piece; whole = begins.whole; is = ([], refl, begins.is) },
        λ other end _ b.
            let inside = inside_of b in
            only inside.0 inside.1 inside.2,
      )
    where
      only : (attributes : List Attribute) {mode : Option TypeScriptTypesResolutionMode} {end : List ℕ}
          → mode ≡ mode_of attributes → Inside attributes middle end
          → (mode ≡ None) × (end ≡ rest)
      only [] {mode} {end} is b = (is, (brace.1 tt end tt b).1)
      only (a ∷ others) is b = absurd (brace_apart (a ∷ others) (omega arith) b brace.0)

  pub block_attributes : (o : Option (List ℕ × Option TypeScriptTypesResolutionMode))
      → Reads Anything (λ (_ : Unit {0}). Closed) middle None
      → Reads Anything IsModeBlockEnd middle o → Reads Anything IsModeBlock input o
  block_attributes None no_brace none = λ mode rest _ b.
      let inside = inside_of b in
      neither inside.0 mode rest inside.1 inside.2
    where
      neither : (attributes : List Attribute) (mode : Option TypeScriptTypesResolutionMode) (end : List ℕ)
          → mode ≡ mode_of attributes → Inside attributes middle end → ⊥
      neither [] mode end is b = no_brace tt end tt b
      neither (a ∷ others) mode end is b = none mode end tt
          (record { piece = b.piece; whole = b.whole; is = (a ∷ others, omega arith, is, b.is) })
  block_attributes (Some x) no_brace found = (
    made found.0.is.0 found.0.is.1 found.0.is.2
        (record { piece = found.0.piece; whole = found.0.whole; is = found.0.is.3 }),
    λ other end _ b.
        let inside = inside_of b in
        only inside.0 inside.1 inside.2,
  )
    where
      made : (attributes : List Attribute) → 0 < length attributes → x.1 ≡ mode_of attributes
          → Begins (Through attributes) middle x.0 → Begins (IsModeBlock x.1) input x.0
      made [] some is b = absurd (omega arith)
      made (a ∷ others) some is b =
          let begins = block_together (a ∷ others) opens.0 b in
          record { piece = begins.piece; whole = begins.whole; is = (a ∷ others, is, begins.is) }

      only : (attributes : List Attribute) {mode : Option TypeScriptTypesResolutionMode} {end : List ℕ}
          → mode ≡ mode_of attributes → Inside attributes middle end
          → (mode ≡ x.1) × (end ≡ x.0)
      only [] {mode} {end} is b = absurd (no_brace tt end tt b)
      only (a ∷ others) {mode} {end} is b = found.1 mode end tt
          (record { piece = b.piece; whole = b.whole; is = (a ∷ others, omega arith, is, b.is) })

-- `with` and a block
pub IsSolid-block : (mode : Option TypeScriptTypesResolutionMode) (text : List ℕ)
    → IsModeBlock mode text → IsSolid text
IsSolid-block mode text is = IsSolid-word opening_brace [] refl text is.2

pub with_none : (input : List ℕ) → Reads NoSpace (λ (_ : Unit {0}). Is (codes "with") · IsSpace) input None
    → Reads Anything IsWith input None
with_none input none = lexeme_none Anything IsModeBlock IsSolid-block (Is (codes "with")) input none

pub with_read : (input middle : List ℕ) (o : Option (List ℕ × Option TypeScriptTypesResolutionMode))
    → Reads NoSpace (λ (_ : Unit {0}). Is (codes "with") · IsSpace) input (Some (middle, tt))
    → Reads Anything IsModeBlock middle o → Reads Anything IsWith input o
with_read input middle o word block =
    lexeme_then Anything IsModeBlock IsSolid-block (Is (codes "with")) input middle o word block
