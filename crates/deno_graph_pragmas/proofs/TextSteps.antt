-- The results of methods of `str`, as lists of characters.
use Rattle.std.proofs.Common.{◌≡◌, ℕ, ◌<◌, Bool, true, ◌==◌, eq-eqb, eqb-true, not, IfSome, cond, List, []}
use Rattle.std.proofs.Common.{◌∷◌, ◌++◌, drop, Option, Some, None, Bor, MatchOption, refl, sym, ap, subst}
use Rattle.std.proofs.Common.{◌∙◌, arith, append_assoc}
use Rattle.std.proofs.lemmas.Bool.{cond_both, cond-true, cond-false, and_parts, and_from}
use Rattle.std.proofs.lemmas.List.{take-append-drop, append-nil}
use Rattle.std.proofs.lemmas.List.Folds.{list_all-append}
use Rattle.std.proofs.lemmas.Str.{chars-encodes, encodes-chars, scalars-chars, chars_past_char}
use Rattle.std.proofs.lemmas.Str.{IsUtf8-past_char, cons_from_encodes, len_utf8_bounds, chars_from_encodes}
use Rattle.std.specs.Char.{is_whitespace}
use Rattle.std.specs.List.{list_all}
use Rattle.std.specs.Option.{option_map}
use Rattle.std.specs.Str.{chars, IsUtf8, skip_leading_whitespace, trim_start, NonePass, NoCharPasses}
use Rattle.std.specs.Str.Pattern.{FindsPrefixBy, FindsBy, HasPassingCharAt, StripsPrefix, SplitsAroundMatch}
use Rattle.std.specs.Str.Pattern.{FindsCharPrefix, FindsChar, CutsPrefixes, IsTrimStartMatches}
use lib.Utf8.{encode, encodes, scalar, scalars}
use Rattle.deno_graph_pragmas.specs.Piece.{IsStopped}
use Rattle.deno_graph_pragmas.specs.internal.Reading.{skip_while, after_one, after_exactly}
use Rattle.deno_graph_pragmas.proofs.ReadPieces.{skip_while-append}

-- The first character of a text

-- the bytes of a text, by its characters
pub text_of : (bs cs : List ℕ) → IsUtf8 bs → chars bs ≡ cs → (bs ≡ encodes cs) × (scalars cs ≡ true)
text_of bs cs utf8 is =
    (sym (encodes-chars bs utf8) ∙ ap encodes is, ap scalars (sym is) ∙ scalars-chars bs utf8)

-- a text without a prefix that passes has no first character that passes
after_one-none : (test : ℕ → Bool) (bs cs : List ℕ) → IsUtf8 bs → chars bs ≡ cs → FindsPrefixBy test bs None
    → after_one test cs ≡ None
after_one-none test bs [] utf8 is none = refl
after_one-none test bs (c ∷ cs) utf8 is none =
    let text = text_of bs (c ∷ cs) utf8 is in
    let parts = and_parts (scalar c) (scalars cs) text.1 in
    cond-false (test c) (Some cs) None (none c (encodes cs) parts.0 text.0)

after_char-none : (mark : ℕ) (bs cs : List ℕ) → IsUtf8 bs → chars bs ≡ cs → FindsCharPrefix mark bs None
    → after_exactly (mark ∷ []) cs ≡ None
after_char-none mark bs [] utf8 is none = refl
after_char-none mark bs (c ∷ cs) utf8 is none =
    let text = text_of bs (c ∷ cs) utf8 is in
    cond_both (c == mark) (Some cs) None (λ o. o ≡ None) (λ same. absurd
    (none (encodes cs) (text.0 ∙ ap (λ d. encode d ++ encodes cs) (eqb-true c mark same)))) (λ _. refl)

-- the characters after a character that passes
chars-past : (test : ℕ → Bool) (bs : List ℕ) (i j : ℕ) → IsUtf8 (drop i bs) → HasPassingCharAt test bs i j
    → (c : ℕ) × (test c ≡ true) × (chars (drop i bs) ≡ c ∷ chars (drop j bs)) × (i < j)
chars-past test bs i j utf8 (c, passes, at) = (
  c,
  passes,
  chars_past_char (drop i bs) (drop j bs) c utf8 at.split,
  omega (arith, at.ends, len_utf8_bounds c),
)

-- `strip_prefix` at a test
pub strip_prefix_one : (P : (ℕ → Bool) → Type 0) (test : ℕ → Bool) (bs : List ℕ) (r : Option (Bor (List ℕ)))
    → IsUtf8 bs → P test → (let F : List ℕ → Option ℕ → Type 0 = λ s o. (k : ℕ → Bool) → P k
    → FindsPrefixBy k s o in MatchOption r (F bs None) (λ x. StripsPrefix F bs x.now))
    → option_map (λ (x : Bor (List ℕ)). chars x.now) r ≡ after_one test (chars bs)
strip_prefix_one P test bs None utf8 matches cases =
    sym (after_one-none test bs (chars bs) utf8 refl (cases test matches))
strip_prefix_one P test bs (Some x) utf8 matches (n, found, is, sizes) =
    let past = chars-past test bs 0 n utf8 (found test matches) in
    ap (λ t. Some (chars t)) is
    ∙ sym (ap (after_one test) past.2 ∙ cond-true (test past.0) (Some (chars (drop n bs))) None past.1)

-- `strip_prefix` at a character
pub strip_prefix_char : (c : ℕ) (bs : List ℕ) (r : Option (Bor (List ℕ))) → IsUtf8 bs
    → MatchOption r (FindsCharPrefix c bs None) (λ x. StripsPrefix (FindsCharPrefix c) bs x.now)
    → option_map (λ (x : Bor (List ℕ)). chars x.now) r ≡ after_exactly (c ∷ []) (chars bs)
strip_prefix_char c bs None utf8 cases = sym (after_char-none c bs (chars bs) utf8 refl cases)
strip_prefix_char c bs (Some x) utf8 (n, found, is, sizes) =
    let past : chars bs ≡ c ∷ chars (drop n bs) = chars_past_char bs (drop n bs) c utf8 found.split in
    ap (λ t. Some (chars t)) is ∙ sym (ap (after_exactly (c ∷ [])) past
    ∙ cond-true (c == c) (Some (chars (drop n bs))) None (eq-eqb c c refl))

-- the rest is UTF-8
pub strip_prefix_one-utf8 : (P : (ℕ → Bool) → Type 0) (test : ℕ → Bool)
    (bs : List ℕ) (r : Option (Bor (List ℕ))) → IsUtf8 bs → P test
    → (let F : List ℕ → Option ℕ → Type 0 = λ s o. (k : ℕ → Bool) → P k → FindsPrefixBy k s o in
    MatchOption r (F bs None) (λ x. StripsPrefix F bs x.now)) → IfSome r (λ x. IsUtf8 x.now)
strip_prefix_one-utf8 P test bs None utf8 matches cases = tt
strip_prefix_one-utf8 P test bs (Some x) utf8 matches (n, found, is, sizes) =
    let first = found test matches in
    subst IsUtf8 (sym is) (IsUtf8-past_char bs (drop n bs) first.0 utf8 first.2.split)

pub strip_prefix_char-utf8 : (c : ℕ) (bs : List ℕ) (r : Option (Bor (List ℕ))) → IsUtf8 bs
    → MatchOption r (FindsCharPrefix c bs None) (λ x. StripsPrefix (FindsCharPrefix c) bs x.now)
    → IfSome r (λ x. IsUtf8 x.now)
strip_prefix_char-utf8 c bs None utf8 cases = tt
strip_prefix_char-utf8 c bs (Some x) utf8 (n, found, is, sizes) =
    subst IsUtf8 (sym is) (IsUtf8-past_char bs (drop n bs) c utf8 found.split)

-- `trim_start`
skip_same : (cs : List ℕ) → skip_leading_whitespace cs ≡ skip_while is_whitespace cs
skip_same [] = refl
skip_same (c ∷ cs) = ap (λ rest. cond (is_whitespace c) rest (c ∷ cs)) (skip_same cs)

scalars-skip_while : (test : ℕ → Bool) (cs : List ℕ) → scalars cs ≡ true → scalars (skip_while test cs) ≡ true
scalars-skip_while test [] all = refl
scalars-skip_while test (c ∷ cs) all =
    cond_both (test c) (skip_while test cs) (c ∷ cs) (λ rest. scalars rest ≡ true)
    (λ _. scalars-skip_while test cs (and_parts (scalar c) (scalars cs) all).1) (λ _. all)

pub trim_start_skips : (bs r : List ℕ) → IsUtf8 bs → r ≡ trim_start bs
    → chars r ≡ skip_while is_whitespace (chars bs)
unfolding trim_start
trim_start_skips bs r utf8 is =
    ap chars is ∙ ap (λ cs. chars (encodes cs)) (skip_same (chars bs))
    ∙ chars-encodes (skip_while is_whitespace (chars bs))
    (scalars-skip_while is_whitespace (chars bs) (scalars-chars bs utf8))

-- `trim_start_matches` at a test
IsTrimmed : (ℕ → Bool) → List ℕ → List ℕ → Type 0
IsTrimmed test bs r = (front : List ℕ) × (chars bs ≡ front ++ chars r)
    × (list_all test front ≡ true) × IsUtf8 r

trimmed : (P : (ℕ → Bool) → Type 0) (test : ℕ → Bool) (bs r : List ℕ) (ns : List ℕ) → IsUtf8 bs → P test
    → (let F : List ℕ → Option ℕ → Type 0 = λ s o. (k : ℕ → Bool) → P k → FindsPrefixBy k s o in
    CutsPrefixes F bs ns r) → IsTrimmed test bs r
unfolding IsTrimmed chars-past
trimmed P test bs r [] utf8 matches cuts = ([], ap chars (sym cuts), refl, subst IsUtf8 (sym cuts) utf8)
trimmed P test bs r (n ∷ ns) utf8 matches (m, cuts, found, is) =
    let before = trimmed P test bs m ns utf8 matches cuts in
    let past = chars-past test m 0 n before.3 (found test matches) in
    let here : m ≡ encode past.0 ++ drop n m = (found test matches).2.split in (
      before.0 ++ past.0 ∷ [],
      before.1 ∙ ap (λ cs. before.0 ++ cs) (past.2 ∙ ap (λ t. past.0 ∷ chars t) (sym is))
          ∙ sym (append_assoc before.0 (past.0 ∷ []) (chars r)),
      list_all-append test before.0 (past.0 ∷ [])
          ∙ and_from (list_all test before.0) _ before.2 (and_from (test past.0) true past.1 refl),
      subst IsUtf8 (sym is) (IsUtf8-past_char m (drop n m) past.0 before.3 here),
    )

stopped : (test : ℕ → Bool) (r cs : List ℕ) (o : Option ℕ) → IsUtf8 r → chars r ≡ cs → FindsPrefixBy test r o
    → IfSome o (λ n. n ≡ 0) → IsStopped test cs
stopped test r [] o utf8 is finds none = tt
stopped test r (c ∷ cs) None utf8 is finds none =
    let text = text_of r (c ∷ cs) utf8 is in
    finds c (encodes cs) (and_parts (scalar c) (scalars cs) text.1).0 text.0
stopped test r (c ∷ cs) (Some n) utf8 is finds none =
    let past = chars-past test r 0 n utf8 finds in absurd (omega (arith, past.3, none))

pub trim_start_matches_skips : (P : (ℕ → Bool) → Type 0) (test : ℕ → Bool) (bs r : List ℕ) → IsUtf8 bs
    → P test → (let F : List ℕ → Option ℕ → Type 0 = λ s o. (k : ℕ → Bool) → P k → FindsPrefixBy k s o in
    IsTrimStartMatches F bs r) → chars r ≡ skip_while test (chars bs)
unfolding IsTrimmed
trim_start_matches_skips P test bs r utf8 matches (cuts, full) =
    let cut = trimmed P test bs r cuts.0 utf8 matches cuts.1 in
    let stops = stopped test r (chars r) full.0 cut.3 refl (full.1 test matches) full.2 in
    sym (ap (skip_while test) cut.1 ∙ skip_while-append test cut.0 (chars r) cut.2 stops)

-- `split_once` at a test
none_pass : (test : ℕ → Bool) (cs : List ℕ) → NonePass test cs → list_all (λ c. not (test c)) cs ≡ true
none_pass test [] none = refl
none_pass test (c ∷ cs) none =
    and_from (not (test c)) (list_all (λ c. not (test c)) cs) (ap not none.0) (none_pass test cs none.1)

no_char_passes : (test : ℕ → Bool) (bs : List ℕ) → IsUtf8 bs → NoCharPasses test bs
    → list_all (λ c. not (test c)) (chars bs) ≡ true
no_char_passes test bs utf8 (cs, is, none) =
    ap (list_all (λ c. not (test c))) (sym (chars_from_encodes cs bs utf8 is)) ∙ none_pass test cs none

pub scalars-parts : (xs ys : List ℕ) → scalars (xs ++ ys) ≡ true → (scalars xs ≡ true) × (scalars ys ≡ true)
scalars-parts [] ys all = (refl, all)
scalars-parts (c ∷ xs) ys all =
    let parts = and_parts (scalar c) (scalars (xs ++ ys)) all in
    let rest = scalars-parts xs ys parts.1 in
    (and_from (scalar c) (scalars xs) parts.0 rest.0, rest.1)

-- a text that begins with the bytes of these characters begins with these characters
after_encodes : (front all rest : List ℕ) → encodes all ≡ encodes front ++ rest
    → (tail : List ℕ) × (all ≡ front ++ tail) × (encodes tail ≡ rest)
after_encodes [] all rest is = (all, refl, is)
after_encodes (c ∷ front) all rest is =
    let first = cons_from_encodes all (encodes front ++ rest) c
    (is ∙ append_assoc (encode c) (encodes front) rest) in
    let others = after_encodes front first.0 rest first.2 in
    (others.0, first.1 ∙ ap (λ t. c ∷ t) others.1, others.2)

-- the parts that `split_once` returns
abbrev pub AreParts : (ℕ → Bool) → List ℕ → Option (Bor (List ℕ) × Bor (List ℕ)) → Type 0
AreParts test bs r =
    MatchOption r (list_all (λ c. not (test c)) (chars bs) ≡ true)
    (λ x. (c : ℕ) × (chars bs ≡ chars x.0.now ++ c ∷ chars x.1.now) × (test c ≡ true)
    × (list_all (λ c. not (test c)) (chars x.0.now) ≡ true))

pub split_once_by : (test : ℕ → Bool) (bs : List ℕ) (r : Option (Bor (List ℕ) × Bor (List ℕ))) → IsUtf8 bs
    → MatchOption r (FindsBy test bs None) (λ x. SplitsAroundMatch (FindsBy test) bs x.0.now x.1.now)
    → AreParts test bs r
split_once_by test bs None utf8 cases = no_char_passes test bs utf8 cases
split_once_by test bs (Some x) utf8 (i, j, finds, front, back, order, front_len, back_len) =
    let before = finds.0.0 in
    let c = finds.1.0 in
    let bytes : encodes (chars bs) ≡ encodes before ++ (encode c ++ drop j bs) =
    encodes-chars bs utf8 ∙ sym (take-append-drop i bs) ∙ ap (λ t. t ++ drop i bs) (sym finds.0.1)
    ∙ ap (λ t. encodes before ++ t) finds.1.2.split in
    let tail = after_encodes before (chars bs) (encode c ++ drop j bs) bytes in
    let more = cons_from_encodes tail.0 (drop j bs) c tail.2 in
    let whole : chars bs ≡ before ++ c ∷ more.0 = tail.1 ∙ ap (λ t. before ++ t) more.1 in
    let all = scalars-parts before (c ∷ more.0) (ap scalars (sym whole) ∙ scalars-chars bs utf8) in
    let front_is : before ≡ chars x.0.now = sym (chars-encodes before all.0)
    ∙ ap chars (finds.0.1 ∙ sym front) in
    let back_is : more.0 ≡ chars x.1.now =
    sym (chars-encodes more.0 (and_parts (scalar c) (scalars more.0) all.1).1)
    ∙ ap chars (more.2 ∙ sym back) in
    let parts : chars bs ≡ chars x.0.now ++ c ∷ chars x.1.now =
    whole ∙ ap (λ t. t ++ c ∷ more.0) front_is ∙ ap (λ t. chars x.0.now ++ c ∷ t) back_is in (
      c,
      parts,
      finds.1.1,
      subst (λ t. list_all (λ d. not (test d)) t ≡ true) front_is
          (none_pass test before finds.0.2),
    )

pub split_once_parts : (P : (ℕ → Bool) → Type 0) (test : ℕ → Bool) (bs : List ℕ)
    (r : Option (Bor (List ℕ) × Bor (List ℕ))) → IsUtf8 bs → P test
    → (let F : List ℕ → Option (ℕ × ℕ) → Type 0 = λ s o. (k : ℕ → Bool) → P k → FindsBy k s o in
    MatchOption r (F bs None) (λ x. SplitsAroundMatch F bs x.0.now x.1.now)) → AreParts test bs r
split_once_parts P test bs None utf8 matches cases = split_once_by test bs None utf8 (cases test matches)
split_once_parts P test bs (Some x) utf8 matches (i, j, found, front, back, order, front_len, back_len) =
    split_once_by test bs (Some x) utf8 (i, j, found test matches, front, back, order, front_len, back_len)

-- `split_once` at a character
pub split_once_char : (mark : ℕ) (bs : List ℕ) (r : Option (Bor (List ℕ) × Bor (List ℕ))) → IsUtf8 bs
    → MatchOption r (FindsChar mark bs None) (λ x. SplitsAroundMatch (FindsChar mark) bs x.0.now x.1.now)
    → AreParts (λ c. c == mark) bs r
split_once_char mark bs None utf8 cases = split_once_by (λ c. c == mark) bs None utf8 cases
split_once_char mark bs (Some x) utf8 (i, j, found, front, back, order, front_len, back_len) =
    split_once_by (λ c. c == mark) bs (Some x) utf8
    (i, j, (found.0, (mark, eq-eqb mark mark refl, found.1)), front, back, order, front_len, back_len)

-- the text from the first character that passes on, if there is one
pub split_once-none : (test : ℕ → Bool) (text : List ℕ) → list_all (λ c. not (test c)) text ≡ true
    → skip_while (λ c. not (test c)) text ≡ []
split_once-none test text none =
    ap (skip_while (λ c. not (test c))) (sym (append-nil text))
    ∙ skip_while-append (λ c. not (test c)) text [] none tt

pub split_once-some : (test : ℕ → Bool) (text front back : List ℕ) (c : ℕ) → text ≡ front ++ c ∷ back → test c
    ≡ true → list_all (λ c. not (test c)) front ≡ true → skip_while (λ c. not (test c)) text ≡ c ∷ back
split_once-some test text front back c whole passes none =
    ap (skip_while (λ c. not (test c))) whole ∙ skip_while-append (λ c. not (test c)) front
    (c ∷ back) none (ap not passes)

pub split_once-all : (test : ℕ → Bool) (text : List ℕ) → list_all (λ c. not (test c)) text ≡ true
    → text ≡ text ++ skip_while (λ c. not (test c)) text
split_once-all test text none =
    sym (append-nil text) ∙ ap (λ t. text ++ t) (sym (split_once-none test text none))

pub split_once-front : (test : ℕ → Bool) (text front back : List ℕ) (c : ℕ) → text ≡ front ++ c ∷ back → test
    c ≡ true → list_all (λ c. not (test c)) front ≡ true → text ≡ front ++ skip_while (λ c. not (test c)) text
split_once-front test text front back c whole passes none =
    whole ∙ ap (λ t. front ++ t) (sym (split_once-some test text front back c whole passes none))
