-- What is expected where a text isn't JSON, in words.
use Rattle.std.specs.Prelude.{◌++◌, ◌≤◌, ℕ, List, codes, take, IsSome, IsSomeAnd}
use Rattle.std.specs.String.{string_bytes}
use Rattle.serde_json.specs.Read.{read as read_text}
use Rattle.modinfo_document.specs.Report.{HasTextPlace}
use Rattle.modinfo_document.specs.declared.report.FaultReport.{FaultReport}

-- The text is JSON.
abbrev pub IsJson : List ℕ → Type 0
IsJson text = IsSome (read_text text)

-- The text, then these bytes and some text, is JSON.
abbrev pub Continues : List ℕ → List ℕ → Type 0
Continues text next = (rest : List ℕ) × IsJson (text ++ next ++ rest)

-- What is expected after the beginning of a text: what would make it JSON there.
pub data IsExpected (front : List ℕ) : List ℕ → Type 0 where
  whole : IsExpected front (codes "one JSON value, at most 127 deep")
  end : IsJson front → IsExpected front (codes
      "the end of the document, after its one JSON value; with --lines each line is a document")
  number : Continues front (codes "null") → IsExpected front (codes
      "a JSON number, without a leading zero, with digits around a point, below 1.8e308")
  word : Continues front (codes "null") → IsExpected front (codes
      "`true`, `false`, `null`, or a string in double quotes")
  no_mark : Continues front (codes "null") → IsExpected front (codes
      "one JSON value, without a byte order mark before it")
  name : Continues front (codes "\"\":null") → IsExpected front (codes "a name in double quotes")

-- The report has a place in a text that isn't JSON, and what is expected after a beginning of the text that
-- ends there or before.
pub record HasJsonPlace (text : List ℕ) (report : FaultReport) : Type 0 where
  pub place : HasTextPlace text report
  pub start : ℕ
  pub reached : IsSomeAnd report.at (λ at. start ≤ at.offset)
  pub expected : IsExpected (take start text) (string_bytes report.expected)
