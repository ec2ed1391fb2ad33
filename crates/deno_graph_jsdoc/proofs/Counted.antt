-- Imports that are read after a front of a text, with ranges counted from the start of the text.
use Rattle.std.proofs.Common.{◌≡◌, ℕ, ◌-◌, ◌≤◌, Option, Some, None, List, length, sym, ap, ◌∙◌, subst}
use Rattle.std.proofs.Common.{option_map, ok_or, Result, IfOk, IsOkAnd, arith}
use Rattle.std.specs.Str.{IsUtf8, chars}
use denote.Ref.{Bor}
use Rattle.deno_graph_jsdoc.specs.JsDocGrammar.{Begins}
use Rattle.deno_graph_jsdoc.specs.JsDocImport.{Import, byte_count, import_of, moved}
use Rattle.deno_graph_jsdoc.specs.declared.import.JsDocImport.{JsDocImport}
use Rattle.deno_graph_jsdoc.specs.declared.import.NoParse.{NoParse}
use Rattle.deno_graph_jsdoc.specs.internal.Reading.{ReadsImport, rest_and_import}
use Rattle.deno_graph_jsdoc.proofs.Imports.{byte_count_before}

-- an end of a text is not longer than the text
pub end_fits : {P : List ℕ → Type 0} (input after : List ℕ) → IsUtf8 input → IsUtf8 after
    → Begins P (chars input) (chars after) → length after ≤ length input
end_fits input after utf8 after_utf8 start =
    omega (arith, byte_count_before input after start.piece utf8 after_utf8 start.whole)

-- an import at the start of `after`, with its range counted from the start of `input`
pub counted_reads : {P : List ℕ → Type 0} (G : List ℕ → Import → List ℕ → Type 0) (input after : List ℕ)
    (o result : Option (List ℕ × Import)) → IsUtf8 input → IsUtf8 after
    → (start : Begins P (chars input) (chars after))
    → ReadsImport G (chars input) (option_map (λ x. (x.0, moved (byte_count start.piece) x.1)) o)
    → result ≡ option_map (λ x. (x.0, moved (length input - length after) x.1)) o
    → ReadsImport G (chars input) result
counted_reads G input after o result utf8 after_utf8 start reads is =
    let by : byte_count start.piece ≡ length input - length after =
    omega (arith, byte_count_before input after start.piece utf8 after_utf8 start.whole) in
    subst (ReadsImport G (chars input))
    (ap (λ n. option_map (λ x. (x.0, moved n x.1)) o) by ∙ sym is) reads

-- `result` has an import exactly if the text begins with one, and the text begins with no other import
abbrev pub Parses : (List ℕ → Import → List ℕ → Type 0) → List ℕ
    → Result (Bor (List ℕ) × JsDocImport) NoParse → Type 0
Parses G text result =
    IfOk result (λ parsed. G text (import_of parsed.1) (chars parsed.0.now))
    × ((import : Import) (rest : List ℕ) → G text import rest
    → IsOkAnd result (λ parsed. (import ≡ import_of parsed.1) × (rest ≡ chars parsed.0.now)))

-- the only import that is read, or none, as the result of a parser
parses : (G : List ℕ → Import → List ℕ → Type 0) (text : List ℕ)
    (read : Option (Bor (List ℕ) × JsDocImport)) (fault : NoParse)
    (result : Result (Bor (List ℕ) × JsDocImport) NoParse)
    → ReadsImport G text (rest_and_import read) → result ≡ ok_or read fault → Parses G text result
parses G text None fault result none is =
    subst (Parses G text) (sym is) (tt, λ import rest begins. absurd (none import rest begins))
parses G text (Some (rest, import)) fault result found is =
    subst (Parses G text) (sym is) (found.0, λ other after begins. found.1 other after begins)

-- the result of a parser that reads an import after a front of `input`
pub counted_parses : {P : List ℕ → Type 0} (G : List ℕ → Import → List ℕ → Type 0) (input after : List ℕ)
    (read counted : Option (Bor (List ℕ) × JsDocImport)) (fault : NoParse)
    (result : Result (Bor (List ℕ) × JsDocImport) NoParse) → IsUtf8 input → IsUtf8 after
    → (start : Begins P (chars input) (chars after))
    → ReadsImport G (chars input)
    (option_map (λ x. (x.0, moved (byte_count start.piece) x.1)) (rest_and_import read))
    → rest_and_import counted
    ≡ option_map (λ x. (x.0, moved (length input - length after) x.1)) (rest_and_import read)
    → result ≡ ok_or counted fault → Parses G (chars input) result
counted_parses G input after read counted fault result utf8 after_utf8 start reads counts is =
    parses G (chars input) counted fault result
    (counted_reads G input after (rest_and_import read) (rest_and_import counted) utf8 after_utf8 start reads
    counts) is
