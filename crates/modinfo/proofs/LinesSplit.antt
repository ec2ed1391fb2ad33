-- The first line of a text, which ends at the first line feed.
use Rattle.std.proofs.Common.{◌≡◌, ◌≢◌, ◌++◌, ◌<◌, ◌≤◌, ◌+◌, ◌-◌, ℕ, Bool, List, [], ◌∷◌, Option, Some, None}
use Rattle.std.proofs.Common.{IfSome, length, take, drop, cond, get_or, refl, sym, ap, subst, ◌∙◌, arith}
use Rattle.std.proofs.Common.{append_assoc, append-nil, take_all, eqb-true, ne_eqb, true, false, eq-eqb}
use Rattle.std.specs.Io.BufRead.{DropsConsumable}
use Rattle.std.specs.Io.KnownBytes.{prepend_known}
use Rattle.std.specs.Prelude.{All}
use Rattle.std.proofs.lemmas.List.{drop-append-le, get_or-take, length-take-le, take-append-drop, take_more}
use Rattle.std.proofs.lemmas.List.{take_rest}
use Rattle.std.proofs.lemmas.List.Elements.{All-from_get_or, All-head, All-tail}
use Rattle.memchr.specs.Find.{IsFirstByte, Nowhere, Passes, is_byte}
use Rattle.modinfo.specs.Lines.{before_first, lines_of}
use Rattle.modinfo.specs.internal.Lines.{TakesLines}

-- A line with a line feed.
ended : (line rest : List ℕ) → All (λ x. x ≢ 10) line → lines_of (line ++ 10 ∷ rest) ≡ line ∷ lines_of rest
ended [] rest no_feed = refl
ended (x ∷ line) rest no_feed =
    let text = line ++ 10 ∷ rest in
    ap (λ b. cond b ([] ∷ lines_of text) (before_first x (lines_of text)))
    (ne_eqb x 10 (All-head (λ y. y ≢ 10) x line no_feed))
    ∙ ap (before_first x) (ended line rest (All-tail (λ y. y ≢ 10) x line no_feed))

-- A last line without a line feed.
unended : (x : ℕ) (line : List ℕ) → All (λ y. y ≢ 10) (x ∷ line) → lines_of (x ∷ line) ≡ (x ∷ line) ∷ []
unended x [] no_feed =
    ap (λ b. cond b ([] ∷ []) ((x ∷ []) ∷ [])) (ne_eqb x 10 (All-head (λ y. y ≢ 10) x [] no_feed))
unended x (y ∷ line) no_feed =
    let rest = lines_of (y ∷ line) in
    ap (λ b. cond b ([] ∷ rest) (before_first x rest))
    (ne_eqb x 10 (All-head (λ z. z ≢ 10) x (y ∷ line) no_feed))
    ∙ ap (before_first x) (unended y line (All-tail (λ z. z ≢ 10) x (y ∷ line) no_feed))

-- No byte before the first line feed is a line feed.
no_feed_before : (text : List ℕ) (n : ℕ) → n ≤ length text → Nowhere (Passes (is_byte 10) text) 0 n
    → All (λ x. x ≢ 10) (take n text)
no_feed_before text n within nowhere =
    All-from_get_or (λ x. x ≢ 10) (take n text) 0 (λ i lt is.
    let below : i < n = omega (arith, lt, length-take-le n text within) in
    nowhere i (omega arith) below (eq-eqb (get_or text i 0) 10 (sym (get_or-take n text i 0 below) ∙ is)))

-- The first line of a text whose beginning has a line feed.
pub first_line : (bytes after : List ℕ) (n : ℕ) → IsFirstByte (is_byte 10) bytes (Some n)
    → lines_of (bytes ++ after) ≡ take n bytes ∷ lines_of (drop (n + 1) (bytes ++ after))
first_line bytes after n first =
    let within : n < length bytes = first.0.high in
    let feed : get_or bytes n 0 ≡ 10 = eqb-true (get_or bytes n 0) 10 first.1 in
    let split : bytes ≡ take n bytes ++ 10 ∷ drop (n + 1) bytes =
    sym (take-append-drop (n + 1) bytes)
    ∙ ap (λ l. l ++ drop (n + 1) bytes) (take_more bytes n 0 within)
    ∙ append_assoc (take n bytes) (get_or bytes n 0 ∷ []) (drop (n + 1) bytes)
    ∙ ap (λ x. take n bytes ++ x ∷ drop (n + 1) bytes) feed in
    let rest = drop (n + 1) bytes ++ after in
    let joined : bytes ++ after ≡ take n bytes ++ 10 ∷ rest =
    ap (λ l. l ++ after) split ∙ append_assoc (take n bytes) (10 ∷ drop (n + 1) bytes) after in
    ap lines_of joined
    ∙ ended (take n bytes) rest (no_feed_before bytes n (omega (arith, within)) first.0.before)
    ∙ ap (λ l. take n bytes ∷ lines_of l) (sym (drop-append-le (n + 1) bytes after (omega (arith, within))))

-- The first line of a text with a line feed.
pub first_of_many : (text : List ℕ) (n : ℕ) → IsFirstByte (is_byte 10) text (Some n)
    → lines_of text ≡ take n text ∷ lines_of (take (length text - (n + 1)) (drop (n + 1) text))
first_of_many text n first =
    subst (λ t. lines_of t ≡ take n text ∷ lines_of (drop (n + 1) t)) (append-nil text)
    (first_line text [] n first)
    ∙ ap (λ l. take n text ∷ lines_of l) (sym (take_rest text (n + 1)))

-- The only line of a text without a line feed.
pub only_line : (text : List ℕ) → 0 < length text → IsFirstByte (is_byte 10) text None
    → lines_of text ≡ text ∷ []
only_line [] some none = absurd (omega (arith, some))
only_line (x ∷ text) some none =
    let all = take_all (length (x ∷ text)) (x ∷ text) (omega arith) in
    unended x text (subst (All (λ y. y ≢ 10)) all
    (no_feed_before (x ∷ text) (length (x ∷ text)) (omega arith) none))

-- The buffer is a beginning of the remaining bytes, if those are known.
in_front : (is_empty : Bool) (buffer : List ℕ) (inner : Option (List ℕ))
    → IfSome (cond is_empty None (prepend_known buffer inner))
    (λ left. (after : List ℕ) × (left ≡ buffer ++ after))
in_front true buffer inner = tt
in_front false buffer None = tt
in_front false buffer (Some after) = (after, refl)

takes : (old new : Option (List ℕ)) (buffer : List ℕ) (n : ℕ) → IsFirstByte (is_byte 10) buffer (Some n)
    → IfSome old (λ left. (after : List ℕ) × (left ≡ buffer ++ after))
    → DropsConsumable old new (Some (length buffer)) (n + 1) → TakesLines old new (take n buffer ∷ [])
takes None new buffer n first front drops = tt
takes (Some left) new buffer n first (after, is) drops =
    subst (λ o. TakesLines (Some left) o (take n buffer ∷ [])) (sym (drops (omega (arith, first.0.high))))
    (subst (λ l. lines_of l ≡ take n buffer ∷ lines_of (drop (n + 1) l)) (sym is)
    (first_line buffer after n first))

-- The bytes that are consumed through the first line feed of the buffer are the first remaining line.
pub TakesLines-buffered : (is_empty : Bool) (seen buffer : List ℕ) (inner new : Option (List ℕ)) (n : ℕ)
    → seen ≡ buffer → IsFirstByte (is_byte 10) seen (Some n)
    → DropsConsumable (cond is_empty None (prepend_known buffer inner)) new (Some (length buffer)) (n + 1)
    → TakesLines (cond is_empty None (prepend_known buffer inner)) new (take n seen ∷ [])
TakesLines-buffered is_empty seen buffer inner new n is first drops =
    let old = cond is_empty None (prepend_known buffer inner) in
    subst (λ b. TakesLines old new (take n b ∷ [])) (sym is)
    (takes old new buffer n (subst (λ b. IsFirstByte (is_byte 10) b (Some n)) is first)
    (in_front is_empty buffer inner) drops)
