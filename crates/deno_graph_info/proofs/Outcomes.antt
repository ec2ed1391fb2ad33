-- Results of the parts of the conversion.
use Rattle.std.proofs.Common.{◌≡◌, ◌+◌, ◌-◌, ◌<◌, ◌≤◌, ◌^◌, ℕ, length, Bool, true, false, slice_get, Some}
use Rattle.std.proofs.Common.{Result, Ok, Err, IfErr, IsErrAnd, inl, inr, refl, subst}
use Rattle.std.proofs.lemmas.Result.{err_from_is_err_and}
use Rattle.std.specs.Prelude.{List}
use Rattle.deno_graph_info.specs.internal.ConvertFault.{IsColumnFault}
use Rattle.deno_graph_base.specs.declared.text.position.PositionRange.{PositionRange}
use Rattle.deno_graph_pragmas.specs.Finders.{deno_types_pattern, quoteless_deno_types_pattern}
use Rattle.deno_graph_pragmas.specs.Match.{pragma_part_of}
use Rattle.deno_graph_pragmas.specs.Split.{HasSplit, IsCaptured}
use Rattle.deno_graph_pragmas.specs.declared.finders.matches.DenoTypesPragmaMatch.{DenoTypesPragmaMatch}
use Rattle.deno_graph_info.specs.Types.{NamesTypesAt, LastNames, AreTypes, HasNoColumn}
use Rattle.deno_graph_info.specs.declared.conversion.comment.Comment.{Comment}
use Rattle.deno_graph_info.specs.declared.conversion.fault.ConvertFault.{ConvertFault}
use Rattle.deno_graph_info.specs.declared.conversion.fault.ConvertFault.TheVariants.{ColumnOverflow, Float}
use Rattle.deno_graph_info.specs.declared.conversion.fault.ConvertFault.TheVariants.{OutOfMemory}

-- a fault of a part is a fault of the whole
pub column_fault-on : (P Q : Type 0) (fault : ConvertFault) → (P → Q) → IsColumnFault P fault
    → IsColumnFault Q fault
column_fault-on P Q ColumnOverflow on h = on h
column_fault-on P Q Float on h = h
column_fault-on P Q OutOfMemory on h = tt

-- the result of a part
pub column_error-on : {A : Type 0} (P Q : Type 0) (answer : Result A ConvertFault) → (P → Q)
    → IfErr answer (IsColumnFault P) → IfErr answer (IsColumnFault Q)
column_error-on P Q (Ok x) on h = tt
column_error-on P Q (Err fault) on h = column_fault-on P Q fault on h

-- the exit of a `?`
pub exits_column : {A : Type 0} (P Q : Type 0) (fault : ConvertFault) (answer : Result A ConvertFault)
    → (P → Q) → IsErrAnd answer (λ other. other ≡ fault) → IsColumnFault P fault
    → IfErr answer (IsColumnFault Q)
exits_column P Q fault answer on is h =
    let p = err_from_is_err_and answer is in rw (p.1, p.2) (column_fault-on P Q fault on h)

-- ---- the result of the finder

names_types : (text : List ℕ) (found : DenoTypesPragmaMatch) (quoteless : Bool)
    → found.is_quoteless ≡ quoteless
    → (found.is_quoteless ≡ false → IsCaptured deno_types_pattern text (pragma_part_of found))
    → (found.is_quoteless ≡ true → ¬ HasSplit deno_types_pattern text
    × IsCaptured quoteless_deno_types_pattern text (pragma_part_of found))
    → NamesTypesAt text (pragma_part_of found)
names_types text found true is in_quotes bare = inr (bare is)
names_types text found false is in_quotes bare = inl (in_quotes is)

last_names : (comments : List Comment) (comment : Comment) (found : DenoTypesPragmaMatch) (text : List ℕ)
    → slice_get comments (length comments - 1) ≡ Some comment → text ≡ comment.text
    → (found.is_quoteless ≡ false → IsCaptured deno_types_pattern text (pragma_part_of found))
    → (found.is_quoteless ≡ true → ¬ HasSplit deno_types_pattern text
    × IsCaptured quoteless_deno_types_pattern text (pragma_part_of found))
    → LastNames comments comment (pragma_part_of found)
last_names comments comment found text last same in_quotes bare =
    record {
      last = last;
      names =
          subst (λ t. NamesTypesAt t (pragma_part_of found)) same
          (names_types text found found.is_quoteless refl in_quotes bare);
    }

-- the types that are found
pub types_found : (comments : List Comment) (comment : Comment) (found : DenoTypesPragmaMatch)
    (text copy : List ℕ) (range : PositionRange) → slice_get comments (length comments - 1) ≡ Some comment
    → text ≡ comment.text
    → (found.is_quoteless ≡ false → IsCaptured deno_types_pattern text (pragma_part_of found))
    → (found.is_quoteless ≡ true → ¬ HasSplit deno_types_pattern text
    × IsCaptured quoteless_deno_types_pattern text (pragma_part_of found))
    → comment.range.start.character + found.range.end + 3 < 2 ^ 64 → copy ≡ found.text.now
    → (range.start.line ≡ comment.range.start.line) × (range.end.line ≡ comment.range.start.line)
    → (range.start.character ≡ comment.range.start.character + found.range.start + 1)
    × (range.end.character ≡ comment.range.start.character + found.range.end + 3)
    → AreTypes comments (Some (record { text = copy; range = range }))
types_found comments comment found text copy range last same in_quotes bare fits copied lines columns = (
  comment,
  pragma_part_of found,
  last_names comments comment found text last same in_quotes bare,
  fits,
  λ i. record {
    text = copied i;
    range = record {
      start = record { line = lines.0 i; character = columns.0 i };
      end = record { line = lines.1 i; character = columns.1 i };
    };
  },
)

-- types that end beyond the largest column are found
pub no_column_found : {A : Type 0} (comments : List Comment) (comment : Comment)
    (found : DenoTypesPragmaMatch) (text : List ℕ) (fault : ConvertFault) (answer : Result A ConvertFault)
    → slice_get comments (length comments - 1) ≡ Some comment → text ≡ comment.text
    → (found.is_quoteless ≡ false → IsCaptured deno_types_pattern text (pragma_part_of found))
    → (found.is_quoteless ≡ true → ¬ HasSplit deno_types_pattern text
    × IsCaptured quoteless_deno_types_pattern text (pragma_part_of found))
    → fault ≡ ColumnOverflow → 2 ^ 64 ≤ comment.range.start.character + found.range.end + 3
    → IsErrAnd answer (λ other. other ≡ fault)
    → IfErr answer (IsColumnFault (HasNoColumn comments))
no_column_found comments comment found text fault answer last same in_quotes bare overflow above is =
    let p = err_from_is_err_and answer is in
    let h : HasNoColumn comments =
    (comment, pragma_part_of found, last_names comments comment found text last same in_quotes bare, above) in
    rw (p.1, p.2, overflow) h
