-- Lines that are taken from a text, and the printed lines for them.
use Rattle.std.proofs.Common.{◌≡◌, ◌++◌, ◌&&◌, ◌<◌, ◌-◌, ◌+◌, ℕ, suc, Bool, true, false, List, [], ◌∷◌, Some}
use Rattle.std.proofs.Common.{None, IfSome, length, take, cond, eqb, get_or, refl, sym, ap, subst, ◌∙◌, arith}
use Rattle.std.proofs.Common.{append_assoc, append-nil, take_all, length-append, eqb-true, ltb-true}
use Rattle.std.proofs.Common.{true≢false, eq-eqb, lt-ltb, Result, Ok, Err, IfOk, MatchResult, ◌⊎◌, inl, inr}
use Rattle.std.specs.Io.{IsEmptyOrEndsWith, StopsAt}
use Rattle.std.specs.Io.BufRead.{DropsThrough, drop_through, ends_with_byte, strip_last, take_through}
use Rattle.std.specs.Io.Iter.{u64_saturate}
use Rattle.std.specs.Io.KnownBytes.{Appends, Consumes, IsAtEnd}
use Rattle.std.specs.Prelude.{Option, All, ◌≢◌}
use Rattle.std.specs.Result.{IsErrAnd}
use Rattle.std.specs.declared.alloc.AllocError.{AllocError}
use Rattle.std.proofs.BufReadLemmas.{drop_through-append, take_through_nonempty, through_part}
use Rattle.std.proofs.KnownBytes.{Appends-nil}
use Rattle.std.proofs.Math.Bool.{and-true, and_assoc}
use Rattle.std.proofs.lemmas.Bool.{and_parts}
use Rattle.std.proofs.lemmas.List.Elements.{All-more, All-nil}
use Rattle.std.proofs.lemmas.Result.{err_from_is_err_and}
use Rattle.modinfo.proofs.Faults.{run_without_memory}
use Rattle.modinfo.proofs.Written.{front_after, front_of_both, whole_front}
use Rattle.modinfo.specs.Lines.{PrintsEach, PrintsLine, PrintsLines, before_first, ended_by, fault_line}
use Rattle.modinfo.specs.Lines.{LeavesFirstLines, passes_without}
use Rattle.modinfo.specs.internal.Lines.{Takes, TakesLines}
use Rattle.modinfo.specs.Lines.PrintsLine.{with_fault}
use Rattle.modinfo.specs.Lines.PrintsEach.{more, none}
use Rattle.modinfo.specs.Run.{AppendsFront, IsFailure}
use Rattle.modinfo.specs.declared.fault.Fault.{Fault}
use Rattle.modinfo.specs.declared.fault.Fault.TheVariants.{OutOfMemory}
use Rattle.modinfo.specs.declared.command.Command.{Command}

-- The last byte of a longer list.
ends_with_byte-cons : (byte x : ℕ) (xs : List ℕ) → 0 < length xs
    → ends_with_byte byte (x ∷ xs) ≡ ends_with_byte byte xs
ends_with_byte-cons byte x [] some = absurd (omega (arith, some))
ends_with_byte-cons byte x (y ∷ ys) some =
    let n = length (y ∷ ys) - 1 in
    let at : length (x ∷ y ∷ ys) - 1 ≡ suc n = omega arith in
    let last : Bool = eqb (get_or (y ∷ ys) n 0) byte in
    ap (λ b. b && eqb (get_or (x ∷ y ∷ ys) (length (x ∷ y ∷ ys) - 1) 0) byte) (lt-ltb 0 (length
    (x ∷ y ∷ ys)) (omega arith))
    ∙ ap (λ k. eqb (get_or (x ∷ y ∷ ys) k 0) byte) at
    ∙ sym (ap (λ b. b && last) (lt-ltb 0 (length (y ∷ ys)) (omega arith)))

strip_last-cons : (byte x : ℕ) (xs : List ℕ) → 0 < length xs
    → strip_last byte (x ∷ xs) ≡ x ∷ strip_last byte xs
strip_last-cons byte x xs some =
    ap (λ b. cond b (take (length (x ∷ xs) - 1) (x ∷ xs)) (x ∷ xs)) (ends_with_byte-cons byte x xs some)
    ∙ at (ends_with_byte byte xs)
  where
    at : (b : Bool) → cond b (take (length (x ∷ xs) - 1) (x ∷ xs)) (x ∷ xs)
        ≡ x ∷ cond b (take (length xs - 1) xs) xs
    at true = let e : length (x ∷ xs) - 1 ≡ suc (length xs - 1) = omega arith in ap (λ n. take n (x ∷ xs)) e
    at false = refl

take_through-some : (byte x : ℕ) (xs : List ℕ) → 0 < length (take_through byte (x ∷ xs))
take_through-some byte x xs = at (eqb x byte)
  where
    at : (b : Bool) → 0 < length (cond b (x ∷ []) (x ∷ take_through byte xs))
    at true = omega arith
    at false = omega arith

strip_last-one : (end x : ℕ) (b : Bool) → eqb x end ≡ b → strip_last end (x ∷ []) ≡ cond b [] (x ∷ [])
strip_last-one end x b e = ap (λ c. cond c [] (x ∷ [])) e

ended_by-cons : (end x y : ℕ) (ys : List ℕ) (b : Bool) → eqb x end ≡ b
    → ended_by end (y ∷ ys)
    ≡ strip_last end (take_through end (y ∷ ys)) ∷ ended_by end (drop_through end (y ∷ ys))
    → cond b ([] ∷ ended_by end (y ∷ ys)) (before_first x (ended_by end (y ∷ ys)))
    ≡ strip_last end (cond b (x ∷ []) (x ∷ take_through end (y ∷ ys)))
    ∷ ended_by end (cond b (y ∷ ys) (drop_through end (y ∷ ys)))
ended_by-cons end x y ys true e rest = ap (λ l. l ∷ ended_by end (y ∷ ys)) (sym (strip_last-one end x true e))
ended_by-cons end x y ys false e rest =
    ap (before_first x) rest
    ∙ ap (λ l. l ∷ ended_by end (drop_through end (y ∷ ys)))
    (sym (strip_last-cons end x (take_through end (y ∷ ys)) (take_through-some end y ys)))

ended_by-one : (end x : ℕ) (b : Bool) → eqb x end ≡ b → cond b ([] ∷ []) ((x ∷ []) ∷ [])
    ≡ strip_last end (cond b (x ∷ []) (x ∷ [])) ∷ ended_by end (cond b [] [])
ended_by-one end x true e = ap (λ l. l ∷ []) (sym (strip_last-one end x true e))
ended_by-one end x false e = ap (λ l. l ∷ []) (sym (strip_last-one end x false e))

-- The first part of a nonempty text is the bytes up to the first byte that ends one, without that byte.
pub ended_by-first : (end x : ℕ) (xs : List ℕ)
    → ended_by end (x ∷ xs)
    ≡ strip_last end (take_through end (x ∷ xs)) ∷ ended_by end (drop_through end (x ∷ xs))
ended_by-first end x [] = ended_by-one end x (eqb x end) refl
ended_by-first end x (y ∷ ys) = ended_by-cons end x y ys (eqb x end) refl (ended_by-first end y ys)

pub Takes-nil : (end : ℕ) (a : Option (List ℕ)) → Takes end a a []
Takes-nil end None = tt
Takes-nil end (Some x) = refl

-- A part after others.
pub Takes-more : (end : ℕ) (a b c : Option (List ℕ)) (parts : List (List ℕ)) (part : List ℕ)
    → Takes end a b parts → Takes end b c (part ∷ []) → Takes end a c (parts ++ part ∷ [])
Takes-more end None b c parts part p q = tt
Takes-more end (Some x) None c parts part p q = absurd p
Takes-more end (Some x) (Some y) None parts part p q = absurd q
Takes-more end (Some x) (Some y) (Some z) parts part p q =
    p ∙ ap (λ l. parts ++ l) q ∙ sym (append_assoc parts (part ∷ []) (ended_by end z))

-- At the end of the input the parts so far are all parts.
pub Takes-all : (end : ℕ) (a b : Option (List ℕ)) (parts : List (List ℕ)) → Takes end a b parts → IsAtEnd b
    → IfSome a (λ left. parts ≡ ended_by end left)
Takes-all end None b parts p is_end = tt
Takes-all end (Some x) None parts p is_end = absurd p
Takes-all end (Some x) (Some y) parts p is_end =
    sym (p ∙ ap (λ l. parts ++ ended_by end l) is_end ∙ append-nil parts)

-- Before the end they are the first parts.
pub Takes-first : (end : ℕ) (a b : Option (List ℕ)) (parts : List (List ℕ)) → Takes end a b parts
    → IfSome a (λ left. (rest : List (List ℕ)) × (ended_by end left ≡ parts ++ rest))
Takes-first end None b parts p = tt
Takes-first end (Some x) None parts p = absurd p
Takes-first end (Some x) (Some y) parts p = (ended_by end y, p)

-- The bytes that are skipped through the first byte that ends a part are the first part.
pub Takes-through : (end : ℕ) (a b : Option (List ℕ)) (part : List ℕ)
    → IfSome a (λ text. part ≡ strip_last end (take_through end text)) → IfSome a (λ text. 0 < length text)
    → DropsThrough a b end → Takes end a b (part ∷ [])
Takes-through end None b part is some drops = tt
Takes-through end (Some []) b part is some drops = absurd (omega (arith, some))
Takes-through end (Some (x ∷ xs)) b part is some drops =
    subst (λ o. Takes end (Some (x ∷ xs)) o (part ∷ [])) (sym drops)
    (ended_by-first end x xs ∙ ap (λ l. l ∷ ended_by end (drop_through end (x ∷ xs))) (sym is))

-- A part that was read.
pub Takes-read : (end : ℕ) (a b : Option (List ℕ)) (old new part : List ℕ) → old ≡ []
    → IfSome a (λ text. new ≡ old ++ take_through end text) → 0 < length new → part ≡ strip_last end new
    → DropsThrough a b end → Takes end a b (part ∷ [])
Takes-read end None b old new part empty is some last drops = tt
Takes-read end (Some text) b old new part empty is some last drops =
    let read : new ≡ take_through end text = is ∙ ap (λ l. l ++ take_through end text) empty in
    Takes-through end (Some text) b part (last ∙ ap (strip_last end) read)
    (take_through_nonempty end text (subst (λ l. 0 < length l) read some)) drops

-- A line that was skipped.
pub TakesLines-skipped : (a b : Option (List ℕ)) → IfSome a (λ text. 0 < length text) → DropsThrough a b 10
    → (line : List ℕ) × TakesLines a b (line ∷ [])
TakesLines-skipped None b some drops = ([], tt)
TakesLines-skipped (Some text) b some drops =
    (strip_last 10 (take_through 10 text), Takes-through 10 (Some text) b _ refl some drops)

-- The number of bytes is the number that was read.
pub nonempty_before : (a b : Option (List ℕ)) (first : List ℕ) → Consumes a b first
    → IfSome b (λ text. 0 < length first + length text) → IfSome a (λ text. 0 < length text)
nonempty_before None b first p some = tt
nonempty_before (Some x) None first p some = absurd p
nonempty_before (Some x) (Some y) first p some = omega (arith, some, ap length p, length-append first y)

nonempty_ended : (xs : List ℕ) → ends_with_byte 10 xs ≡ true → 0 < length xs
nonempty_ended xs e = ltb-true _ _ (and_parts _ _ e).0

-- The bytes that were read end with their first line feed.
pub DropsThrough-ended : (a b : Option (List ℕ)) (first : List ℕ) → Consumes a b first → StopsAt first 10
    → ends_with_byte 10 first ≡ true → DropsThrough a b 10
DropsThrough-ended None b first p stops e = tt
DropsThrough-ended (Some x) None first p stops e = absurd p
DropsThrough-ended (Some x) (Some y) first p stops e =
    let last : IsEmptyOrEndsWith first 10 = λ some. eqb-true _ _ (and_parts _ _ e).1 in
    let part = through_part 10 first y stops last (λ zero. absurd (omega (
      arith,
      zero,
      nonempty_ended first e,
    ))) in
    ap Some (sym (ap (drop_through 10) p ∙ part.1))

pub TakesLines-ended : (a b : Option (List ℕ)) (first : List ℕ) → Consumes a b first → StopsAt first 10
    → ends_with_byte 10 first ≡ true → (line : List ℕ) × TakesLines a b (line ∷ [])
TakesLines-ended a b first p stops e =
    TakesLines-skipped a b (nonempty_before a b first p (at b)) (DropsThrough-ended a b first p stops e)
  where
    at : (o : Option (List ℕ)) → IfSome o (λ text. 0 < length first + length text)
    at None = tt
    at (Some y) = omega (arith, nonempty_ended first e)

-- The bytes that were read have no line feed.
All-unended : (xs : List ℕ) → StopsAt xs 10 → ends_with_byte 10 xs ≡ false → All (λ x. x ≢ 10) xs
All-unended [] stops e = All-nil (λ x. x ≢ 10)
All-unended (x ∷ xs) stops e =
    let n = length (x ∷ xs) - 1 in
    let last : get_or (x ∷ xs) n 0 ≢ 10 = λ is. true≢false (
    sym (ap (λ b. b && eqb (get_or (x ∷ xs) n 0) 10) (lt-ltb 0 (length (x ∷ xs)) (omega arith))
    ∙ eq-eqb _ _ is) ∙ e
    ) in
    subst (All (λ y. y ≢ 10)) (take_all (n + 1) (x ∷ xs) (omega arith))
    (All-more (λ y. y ≢ 10) (x ∷ xs) n 0 (omega arith) stops last)

DropsThrough-unended : (a b c : Option (List ℕ)) (first : List ℕ) → Consumes a b first → StopsAt first 10
    → ends_with_byte 10 first ≡ false → DropsThrough b c 10 → DropsThrough a c 10
DropsThrough-unended None b c first p stops e drops = tt
DropsThrough-unended (Some x) None c first p stops e drops = absurd p
DropsThrough-unended (Some x) (Some y) c first p stops e drops =
    drops ∙ ap Some (sym (ap (drop_through 10) p
    ∙ drop_through-append 10 first y (All-unended first stops e)))

pub TakesLines-unended : (a b c : Option (List ℕ)) (first : List ℕ) → Consumes a b first → StopsAt first 10
    → ends_with_byte 10 first ≡ false → DropsThrough b c 10
    → IfSome b (λ text. 0 < length first + length text)
    → (line : List ℕ) × TakesLines a c (line ∷ [])
TakesLines-unended a b c first p stops e drops some =
    TakesLines-skipped a c (nonempty_before a b first p some)
    (DropsThrough-unended a b c first p stops e drops)

-- Some bytes were read or skipped.
pub nonempty_skipped : (b : Option (List ℕ)) (first : List ℕ) (count skipped : ℕ) → count ≡ length first
    → IfSome b (λ text. skipped ≡ u64_saturate (length (take_through 10 text)))
    → (0 < count) ⊎ (0 < skipped) → IfSome b (λ text. 0 < length first + length text)
nonempty_skipped None first count skipped is counted some = tt
nonempty_skipped (Some y) first count skipped is counted (inl some) = omega arith
nonempty_skipped (Some y) first count skipped is counted (inr some) =
    omega (arith, take_through_nonempty 10 y (omega arith))

-- What is printed for a line after others.
pub PrintsEach-more : (Prints : List ℕ → Bool → List ℕ → Type 0) (lines : List (List ℕ)) (line : List ℕ)
    (passes next : Bool) (printed text : List ℕ) → PrintsEach Prints lines passes printed → Prints line next
    text
    → PrintsEach Prints (lines ++ line ∷ []) (passes && next) (printed ++ text)
PrintsEach-more Prints _ line _ next _ text none one =
    subst (λ b. PrintsEach Prints (line ∷ []) b text) (and-true next)
    (subst (λ t. PrintsEach Prints (line ∷ []) (next && true) t) (append-nil text) (more one none))
PrintsEach-more Prints _ line _ next _ text (more one_line others) one =
    rw (and_assoc, append_assoc) (more one_line (PrintsEach-more Prints _ line _ next _ text others one))

-- Like `PrintsEach-more`, if a part of the printed lines was written.
pub PrintsEach-next : (Prints : List ℕ → Bool → List ℕ → Type 0) (lines : List (List ℕ)) (line : List ℕ)
    (passes next : Bool) (sent waiting written left printed new : List ℕ)
    → PrintsEach Prints lines passes (sent ++ waiting)
    → waiting ≡ written ++ left → Prints line next printed → new ≡ left ++ printed
    → PrintsEach Prints (lines ++ line ∷ []) (passes && next) ((sent ++ written) ++ new)
PrintsEach-next Prints lines line passes next sent waiting written left printed new all is one e =
    let same : (sent ++ waiting) ++ printed ≡ (sent ++ written) ++ new = cc (
      ap (λ l. (sent ++ l) ++ printed) is,
      ap (λ l. l ++ printed) (append_assoc sent written left),
      append_assoc (sent ++ written) left printed,
      ap (λ l. (sent ++ written) ++ l) e,
    ) in
    subst (PrintsEach Prints (lines ++ line ∷ []) (passes && next)) same
    (PrintsEach-more Prints lines line passes next (sent ++ waiting) printed all one)

-- Like `PrintsEach-more`, if the printed text was put after what is waiting.
pub PrintsEach-put : (Prints : List ℕ → Bool → List ℕ → Type 0) (lines : List (List ℕ)) (line : List ℕ)
    (passes next : Bool) (sent waiting printed new : List ℕ) → PrintsEach Prints lines passes (sent ++
    waiting)
    → Prints line next printed → new ≡ waiting ++ printed
    → PrintsEach Prints (lines ++ line ∷ []) (passes && next) (sent ++ new)
PrintsEach-put Prints lines line passes next sent waiting printed new all one put =
    subst (PrintsEach Prints (lines ++ line ∷ []) (passes && next))
    (append_assoc sent waiting printed ∙ ap (λ l. sent ++ l) (sym put))
    (PrintsEach-more Prints lines line passes next (sent ++ waiting) printed all one)

-- The bytes that were written are a beginning of the printed lines.
pub AppendsFront-sent : (a b : Option (List ℕ)) (sent waiting : List ℕ) → Appends a b sent
    → AppendsFront a b (sent ++ waiting)
AppendsFront-sent a b sent waiting p = front_of_both a b sent waiting (whole_front a b sent p)

-- With a beginning of the waiting bytes they are still a beginning.
pub AppendsFront-more : (a b c : Option (List ℕ)) (sent waiting : List ℕ) → Appends a b sent
    → AppendsFront b c waiting → AppendsFront a c (sent ++ waiting)
AppendsFront-more a b c sent waiting p q = front_after a b c sent waiting p q

-- The line of a document for which an allocation failed.
pub PrintsLine-out_of_memory : (command : Command) (line : List ℕ)
    → PrintsLine command line (passes_without command) (fault_line OutOfMemory)
PrintsLine-out_of_memory command line = with_fault OutOfMemory (run_without_memory command line)

-- A text of which a part was written.
pub PrintsEach-written : (Prints : List ℕ → Bool → List ℕ → Type 0) (lines : List (List ℕ)) (passes : Bool)
    (sent waiting written left : List ℕ)
    → PrintsEach Prints lines passes (sent ++ waiting) → waiting ≡ written ++ left
    → PrintsEach Prints lines passes ((sent ++ written) ++ left)
PrintsEach-written Prints lines passes sent waiting written left all is =
    subst (PrintsEach Prints lines passes) (ap (λ l. sent ++ l) is ∙ sym (append_assoc sent written left)) all

-- A run that fails after some lines.
pub LeavesFirstLines-at : (command : Command) (input now before after : Option (List ℕ))
    (lines : List (List ℕ)) (passes : Bool) (printed : List ℕ)
    (fault : Fault) → IsFailure fault → TakesLines input now lines
    → PrintsLines command lines passes printed → AppendsFront before after printed
    → LeavesFirstLines command input before after fault
LeavesFirstLines-at command input now before after lines passes printed fault failure taken prints front =
    (failure, lines, Takes-first 10 input now lines taken, passes, printed, prints, front)

-- A run that fails before the first line.
pub LeavesFirstLines-none : (command : Command) (input output : Option (List ℕ)) (fault : Fault)
    → IsFailure fault → LeavesFirstLines command input output output fault
LeavesFirstLines-none command input output fault failure =
    LeavesFirstLines-at command input input output output [] true [] fault failure (Takes-nil 10 input) none
    (0, Appends-nil output)

-- The fault that a `?` returns.
pub exits : (r : Result Bool Fault) (P : Bool → Type 0) (Q : Fault → Type 0) (fault : Fault)
    → IsErrAnd r (λ error. error ≡ fault) → Q fault → MatchResult r P Q
exits r P Q fault err rest = let p = err_from_is_err_and r err in rw (p.1, p.2) rest

-- A line for whose answer or report an allocation failed.
pub refused_after : (r : Result Bool AllocError) (command : Command) (line old kept new : List ℕ)
    → kept ≡ old
    → IfOk r (λ passes. (passes ≡ passes_without command) × (new ≡ kept ++ fault_line OutOfMemory))
    → IfOk r (λ passes. (printed : List ℕ) × PrintsLine command line passes printed × (new ≡ old ++ printed))
refused_after (Ok passes) command line old kept new same h = (
  fault_line OutOfMemory,
  subst (λ b. PrintsLine command line b (fault_line OutOfMemory)) (sym h.0)
      (PrintsLine-out_of_memory command line),
  h.1 ∙ ap (λ l. l ++ fault_line OutOfMemory) same,
)
refused_after (Err refused) command line old kept new same h = tt

pub Takes-same : (end : ℕ) (a b c : Option (List ℕ)) (parts : List (List ℕ)) → a ≡ b → Takes end a c parts
    → Takes end b c parts
Takes-same end a b c parts same taken = subst (λ o. Takes end o c parts) same taken

pub Appends-same : (a b : Option (List ℕ)) (bs cs : List ℕ) → bs ≡ cs → Appends a b bs → Appends a b cs
Appends-same a b bs cs same p = subst (Appends a b) same p
