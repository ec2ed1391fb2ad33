-- A text has at most one document, and the text of a document with a source has no error.
use Rattle.std.proofs.Common.{◌≡◌, ◌≢◌, ℕ, ◌<◌, ◌≤◌, List, [], ◌∷◌, true, false, cond, inl, inr, Some, None}
use Rattle.std.proofs.Common.{Option, Ok, refl, sym, ap, subst, ◌∙◌, arith}
use Rattle.std.specs.BTreeMap.{is_at}
use Rattle.std.specs.List.{AllByRecursion}
use Rattle.std.specs.List.Sorted.{IsStrictlySortedBy}
use Rattle.std.specs.Map.{keys_of}
use Rattle.std.specs.Ordering.{nat_cmp, ordering_reverse}
use Rattle.std.specs.Rc.{rc_str_bytes}
use Rattle.std.specs.declared.cmp.Ordering.{Ordering}
use Rattle.std.specs.declared.cmp.Ordering.TheVariants.{Less, Equal, Greater}
use Rattle.std.proofs.lemmas.Bool.Decides.{eqb_tells, nat_tests}
use Rattle.std.proofs.lemmas.Cmp.{nat_cmp_total}
use Rattle.std.proofs.lemmas.Option.{none-some, same_Some}
use Rattle.url.specs.Parts.{Parts}
use Rattle.url.specs.Parser.{parse_url}
use Rattle.serde_json.specs.Data.{Data}
use Rattle.serde_json.specs.Read.{read as read_text}
use Rattle.deno_graph_source.specs.ByOffset.{value_at}
use Rattle.deno_graph_source.specs.Comments.{Filing, FiledComments}
use Rattle.deno_graph_source.specs.ParsedSource.{ParsedModule}
use Rattle.deno_graph_source.specs.Source.{IsValid}
use Rattle.deno_graph_source.proofs.SourceFaults.{fault_refutes}
use Rattle.modinfo_document.specs.declared.comments.FiledEntry.{FiledEntry}
use Rattle.modinfo_document.specs.Comments.{AreThoseOf, HasCommentsOf, Sides}
use Rattle.modinfo_document.specs.Document.{Contents, Has, HasErrorIn, IsDocumentIn, IsNoDocumentIn}
use Rattle.modinfo_document.specs.Document.{IsNoSource, IsSourceOf}
use Rattle.modinfo_document.specs.declared.document.Document.{Document}
use Rattle.modinfo_document.specs.declared.error.DocumentError.{DocumentError}
use Rattle.modinfo_document.specs.declared.error.DocumentError.TheVariants.{Json, Tree, Specifier, Source}
use Rattle.modinfo_document.specs.declared.error.DocumentError.TheVariants.{OutOfMemory}
use Rattle.modinfo_document.proofs.Results.{some_with}

-- ---- Values by ascending positions

at_itself : (pos : ℕ) → is_at (nat_cmp pos) pos ≡ true
at_itself pos = grind (arith, nat_tests)

not_at : (pos q : ℕ) → q ≢ pos → is_at (nat_cmp pos) q ≡ false
not_at pos q apart = grind (arith, nat_tests, apart)

less_is : (p q : ℕ) → nat_cmp p q ≡ Less → p < q
less_is p q less = grind (arith, nat_tests, less)

equal_is : (p q : ℕ) → nat_cmp p q ≡ Equal → p ≡ q
equal_is p q equal = grind (arith, nat_tests, equal)

module _ {V : Type 0} where
  -- No value after the first is at a position that is at most the first position.
  not_below : (pos first : ℕ) (es : List (ℕ × V)) → pos ≤ first
      → AllByRecursion (λ k. nat_cmp first k ≡ Less) (keys_of es) → value_at es pos ≡ None
  not_below pos first [] most below = refl
  not_below pos first (e ∷ es) most below =
      let above : first < e.0 = less_is first e.0 below.0 in
      let apart : e.0 ≢ pos = λ same. omega (arith, most, above, same) in
      rw (not_at pos e.0 apart) (not_below pos first es most below.1)

  found_first : (pos : ℕ) (value : V) (es : List (ℕ × V)) → value_at ((pos, value) ∷ es) pos ≡ Some value
  found_first pos value es = ap (λ b. cond b (Some value) (value_at es pos)) (at_itself pos)

  not_first : (pos other : ℕ) (value : V) (es : List (ℕ × V)) → other ≢ pos
      → value_at ((other, value) ∷ es) pos ≡ value_at es pos
  not_first pos other value es apart = ap (λ b. cond b (Some value) (value_at es pos))
      (not_at pos other apart)

  -- If the first positions differ, only one list has a value at the lower one.
  no_first : (pos other : ℕ) (value there : V) (es fs : List (ℕ × V)) → nat_cmp pos other ≡ Less
      → AllByRecursion (λ k. nat_cmp other k ≡ Less) (keys_of fs)
      → value_at ((pos, value) ∷ es) pos ≡ value_at ((other, there) ∷ fs) pos → ⊥
  no_first pos other value there es fs less below same =
      let before : pos < other = less_is pos other less in
      let apart : other ≢ pos = λ is. omega (arith, before, is) in
      let nothing : value_at ((other, there) ∷ fs) pos ≡ None =
      not_first pos other there fs apart ∙ not_below pos other fs (omega (arith, before)) below in
      none-some value (sym nothing ∙ (sym same ∙ found_first pos value es))

  -- The rests of two lists with the same values and the same first position have the same values.
  same_rest : (pos : ℕ) (value there : V) (es fs : List (ℕ × V))
      → AllByRecursion (λ k. nat_cmp pos k ≡ Less) (keys_of es)
      → AllByRecursion (λ k. nat_cmp pos k ≡ Less) (keys_of fs)
      → ((q : ℕ) → value_at ((pos, value) ∷ es) q ≡ value_at ((pos, there) ∷ fs) q)
      → (q : ℕ) → value_at es q ≡ value_at fs q
  same_rest pos value there es fs a b same q = elim (eqb_tells pos q) [
    | inl is ↦
        let most : q ≤ pos = omega (arith, is.1) in
        not_below q pos es most a ∙ sym (not_below q pos fs most b)
    | inr isnt ↦ sym (not_first q pos value es isnt.1) ∙ same q ∙ not_first q pos there fs isnt.1
  ]

  same_by_order : (pos other : ℕ) (value there : V) (es fs : List (ℕ × V))
      → IsStrictlySortedBy nat_cmp (keys_of ((pos, value) ∷ es))
      → IsStrictlySortedBy nat_cmp (keys_of ((other, there) ∷ fs))
      → ((q : ℕ) → value_at ((pos, value) ∷ es) q ≡ value_at ((other, there) ∷ fs) q)
      → (IsStrictlySortedBy nat_cmp (keys_of es) → IsStrictlySortedBy nat_cmp (keys_of fs)
      → ((q : ℕ) → value_at es q ≡ value_at fs q) → es ≡ fs)
      → (o : Ordering) → nat_cmp pos other ≡ o → (pos, value) ∷ es ≡ (other, there) ∷ fs
  unfolding IsStrictlySortedBy
  same_by_order pos other value there es fs a b same rests Less less =
      absurd (no_first pos other value there es fs less b.0 (same pos))
  same_by_order pos other value there es fs a b same rests Greater greater =
      let less : nat_cmp other pos ≡ Less = nat_cmp_total.antisymm other pos ∙ ap ordering_reverse greater in
      absurd (no_first other pos there value fs es less a.0 (sym (same other)))
  same_by_order pos other value there es fs a b same rests Equal equal =
      let one : other ≡ pos = sym (equal_is pos other equal) in
      let below = subst (λ p. AllByRecursion (λ k. nat_cmp p k ≡ Less) (keys_of fs)) one b.0 in
      let at_pos : (q : ℕ) → value_at ((pos, value) ∷ es) q ≡ value_at ((pos, there) ∷ fs) q =
      λ q. same q ∙ ap (λ p. value_at ((p, there) ∷ fs) q) one in
      let values : value ≡ there =
      same_Some value there (sym (found_first pos value es) ∙ at_pos pos ∙ found_first pos there fs) in
      let others = rests a.1 b.1 (same_rest pos value there es fs a.0 below at_pos) in
      λ i. (sym one i, values i) ∷ others i

  -- Two lists with ascending positions and the same values are equal.
  pub ascending_unique : (es fs : List (ℕ × V)) → IsStrictlySortedBy nat_cmp (keys_of es)
      → IsStrictlySortedBy nat_cmp (keys_of fs)
      → ((q : ℕ) → value_at es q ≡ value_at fs q) → es ≡ fs
  ascending_unique [] [] a b same = refl
  ascending_unique [] ((pos, value) ∷ fs) a b same =
      absurd (none-some value (same pos ∙ found_first pos value fs))
  ascending_unique ((pos, value) ∷ es) [] a b same =
      absurd (none-some value (sym (same pos) ∙ found_first pos value es))
  ascending_unique ((pos, value) ∷ es) ((other, there) ∷ fs) a b same =
      same_by_order pos other value there es fs a b same (ascending_unique es fs) (nat_cmp pos other) refl

-- ---- The comments of the same entries

one_filing : (entries : List FiledEntry) (f g : Filing) → HasCommentsOf entries f → HasCommentsOf entries g
    → f ≡ g
one_filing entries f g a b =
    ascending_unique f g a.ascending b.ascending (λ q. a.at_each q ∙ sym (b.at_each q))

one_comments : (sides : Sides) (f g : FiledComments) → AreThoseOf sides f → AreThoseOf sides g → f ≡ g
one_comments sides f g a b =
    let leading = one_filing sides.leading f.leading g.leading a.0 b.0 in
    let trailing = one_filing sides.trailing f.trailing g.trailing a.1 b.1 in
    λ i. record { leading = leading i; trailing = trailing i }

-- ---- The value and the document of a text

one_value : (text : List ℕ) (d e : Data) → read_text text ≡ Some d → read_text text ≡ Some e → d ≡ e
one_value text d e a b = same_Some d e (sym a ∙ b)

-- Two documents of one text are equal.
pub record AreSame (d e : Document) : Type 0 where
  pub specifier : d.specifier ≡ e.specifier
  pub media_type : d.media_type ≡ e.media_type
  pub source : rc_str_bytes d.source ≡ rc_str_bytes e.source
  pub program : d.program ≡ e.program
  pub comments : d.comments ≡ e.comments

pub one_document : (reads : Data → Option Contents) (text : List ℕ) (d e : Document)
    → IsDocumentIn reads text d → IsDocumentIn reads text e → AreSame d e
one_document reads text d e a b =
    let s = some_with (λ contents. Has contents d) (reads a.0) a.2 in
    let t = some_with (λ contents. Has contents e) (reads b.0) b.2 in
    let values = ap reads (one_value text a.0 b.0 a.1 b.1) in
    let same : s.0 ≡ t.0 = same_Some s.0 t.0 (sym s.1 ∙ values ∙ t.1) in
    let mine : Has t.0 d = subst (λ contents. Has contents d) same s.2 in
    record {
      specifier = mine.specifier ∙ sym t.2.specifier;
      media_type = mine.media_type ∙ sym t.2.media_type;
      source = mine.source ∙ sym t.2.source;
      program = mine.program ∙ sym t.2.program;
      comments = one_comments t.0.comments d.comments e.comments mine.comments t.2.comments;
    }

-- Two modules of equal documents are equal.
pub one_source : (d e : Document) (m n : ParsedModule) → AreSame d e → IsSourceOf d m → IsSourceOf e n → m ≡ n
one_source d e m n same a b =
    let urls = sym a.specifier ∙ ap (parse_url None) same.specifier ∙ b.specifier in
    let specifier : m.specifier ≡ n.specifier = cc (urls) in
    let text = a.text ∙ same.source ∙ sym b.text in
    let media_type = a.media_type ∙ same.media_type ∙ sym b.media_type in
    let program = a.program ∙ same.program ∙ sym b.program in
    let comments = a.comments ∙ same.comments ∙ sym b.comments in
    let scope_analysis = a.scope_analysis ∙ sym b.scope_analysis in
    λ i. record {
      specifier = specifier i;
      text = text i;
      media_type = media_type i;
      program = program i;
      comments = comments i;
      scope_analysis = scope_analysis i;
    }

-- A document with a source has no error, and so its text has none.

no_source_fault : (d e : Document) (url : Parts) (fault : DocumentError) → AreSame d e
    → parse_url None d.specifier ≡ Ok url → IsValid (rc_str_bytes d.source) d.program d.comments
    → fault ≢ OutOfMemory → IsNoSource e fault → ⊥
no_source_fault d e url (Json offset) same is valid apart none = none
no_source_fault d e url (Tree mismatch) same is valid apart none = none
no_source_fault d e url Specifier same is valid apart none =
    let urls = sym is ∙ ap (parse_url None) same.specifier ∙ none.1 in
    cc (urls)
no_source_fault d e url (Source fault) same is valid apart none =
    let there : IsValid (rc_str_bytes e.source) e.program e.comments =
    subst (λ c. IsValid (rc_str_bytes e.source) e.program c) same.comments
    (subst (λ p. IsValid (rc_str_bytes e.source) p d.comments) same.program
    (subst (λ t. IsValid t d.program d.comments) same.source valid)) in
    fault_refutes (rc_str_bytes e.source) e.program e.comments fault none there
no_source_fault d e url OutOfMemory same is valid apart none = apart refl

no_document_fault : (reads : Data → Option Contents) (text : List ℕ) (d : Document) (fault : DocumentError)
    → IsDocumentIn reads text d → fault ≢ OutOfMemory → IsNoDocumentIn reads text fault → ⊥
no_document_fault reads text d (Json offset) is apart none = none-some is.0 (sym none ∙ is.1)
no_document_fault reads text d (Tree mismatch) is apart none =
    let s = some_with (λ contents. Has contents d) (reads is.0) is.2 in
    let values = ap reads (one_value text none.0 is.0 none.1 is.1) in
    none-some s.0 (sym none.2 ∙ values ∙ s.1)
no_document_fault reads text d Specifier is apart none = none
no_document_fault reads text d (Source fault) is apart none = none
no_document_fault reads text d OutOfMemory is apart none = apart refl

pub valid_refutes : (reads : Data → Option Contents) (text : List ℕ) (d : Document) (url : Parts)
    (fault : DocumentError) → IsDocumentIn reads text d
    → parse_url None d.specifier ≡ Ok url → IsValid (rc_str_bytes d.source) d.program d.comments
    → fault ≢ OutOfMemory → HasErrorIn reads text fault → ⊥
valid_refutes reads text d url fault is has_url valid apart
    (inl none) = no_document_fault reads text d fault is apart none
valid_refutes reads text d url fault is has_url valid apart (inr found) =
    let same = one_document reads text d found.0 is found.1 in
    no_source_fault d found.0 url fault same has_url valid apart found.2
