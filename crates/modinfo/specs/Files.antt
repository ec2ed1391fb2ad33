-- What `files` prints: a line for each named file, in the order of the names.
use Rattle.std.specs.Prelude.{◌≡◌, ◌++◌, ◌⊎◌, ℕ, List, [], codes, Bool, true, false, Option, None, Some}
use Rattle.std.specs.Prelude.{IfSome, IsUtf8, Ok, drop, if◌then◌else◌, unwrap_or}
use Rattle.std.specs.Io.KnownBytes.{Appends, Keeps}
use Rattle.std.specs.Str.Lossy.{utf8_lossy}
use Rattle.serde_json.specs.Data.{string}
use Rattle.serde_json.specs.Written.{compact_text}
use Rattle.url.specs.Parser.{parse_url}
use Rattle.url.specs.Parts.{Parts, serialize}
use Rattle.deno_graph_base.specs.declared.text.position.Position.{Position}
use Rattle.deno_graph_json.specs.Json.Position.{json_of_position}
use Rattle.deno_graph_info.specs.Json.ModuleInfo.{json_of_info}
use Rattle.deno_graph_info.specs.declared.analysis.module_info.ModuleInfo.{ModuleInfo}
use Rattle.deno_graph_module_info.specs.InfoOfModule.{IsInfoOfModule}
use Rattle.deno_graph_source.specs.MediaType.{media_type_of}
use Rattle.deno_graph_source.specs.ParsedSource.{ParsedModule}
use Rattle.modinfo.specs.Fault.{name_of_fault}
use Rattle.modinfo.specs.FileUrl.{file_text, is_absolute}
use Rattle.modinfo.specs.Lines.{PrintsEach, ended_by}
use Rattle.modinfo.specs.Run.{AppendsFront, error_line}
use Rattle.modinfo.specs.Source.{IsRead}
use Rattle.modinfo.specs.declared.command_line.Names.{Names}
use Rattle.modinfo.specs.declared.command_line.Names.TheVariants.{Arguments, Lines, Zeros}
use Rattle.modinfo.specs.declared.fault.Fault.{Fault}

-- The information on a file with a URL: that on a source with the URL, the media type by the URL, and a text.
-- That the text is the file's is the system's word, and isn't said.
pub record IsInfoOfFile (url : Parts) (info : ModuleInfo) : Type 0 where
  pub module_ : ParsedModule
  pub specifier : module_.specifier ≡ url
  pub media_type : module_.media_type ≡ media_type_of url
  pub read : IsRead module_
  pub is_info : IsInfoOfModule module_ info

-- A text as a JSON string.
abbrev pub json_text : List ℕ → List ℕ
json_text text = compact_text (string text)

-- The line of a file with information.
abbrev pub info_line : List ℕ → ModuleInfo → List ℕ
info_line specifier info = codes "{\"specifier\":" ++ json_text specifier ++ codes ",\"info\":"
    ++ compact_text (json_of_info info) ++ codes "}\n"

-- The position of a fault, if it has one.
abbrev pub position_text : Option Position → List ℕ
position_text None = []
position_text (Some position) = codes ",\"position\":" ++ compact_text (json_of_position position)

-- The line of a file with a fault.
abbrev pub file_fault_line : List ℕ → Fault → List ℕ → Option Position → List ℕ
file_fault_line specifier fault message position =
    codes "{\"specifier\":" ++ json_text specifier ++ codes ",\"fault\":{\"name\":\"" ++ name_of_fault fault
    ++ codes "\",\"message\":" ++ json_text message ++ position_text position ++ codes "}}\n"

-- The URL of a name in a folder, if the folder is known.
abbrev pub IsUrlOf : Option (List ℕ) → List ℕ → Parts → Type 0
IsUrlOf folder name url = parse_url None (file_text (unwrap_or folder []) name) ≡ Ok url

-- A name has no URL: it isn't UTF-8, or it is relative and the folder isn't known.
abbrev pub HasNoUrl : Option (List ℕ) → List ℕ → Type 0
HasNoUrl folder name = (¬ IsUtf8 name) ⊎ ((folder ≡ None) × (is_absolute name ≡ false))

-- The `specifier` of a line: the URL of the name, or a name without URL, with U+FFFD for bytes that aren't
-- UTF-8.
abbrev pub IsSpecifierOf : Option (List ℕ) → List ℕ → List ℕ → Type 0
IsSpecifierOf folder name specifier = ((url : Parts) × IsUrlOf folder name url × (specifier ≡ serialize url))
    ⊎ (HasNoUrl folder name × (specifier ≡ utf8_lossy name))

-- What is printed for a named file, and whether it has information. The current folder is the system's word.
pub data PrintsFile (folder : Option (List ℕ)) (name : List ℕ) : Bool → List ℕ → Type 0 where
  with_info : (url : Parts) (info : ModuleInfo) → IsUrlOf folder name url → IsInfoOfFile url info
      → PrintsFile folder name true (info_line (serialize url) info)
  with_fault : (specifier message : List ℕ) (fault : Fault) (position : Option Position)
      → IsSpecifierOf folder name specifier
      → PrintsFile folder name false (file_fault_line specifier fault message position)

-- The byte that ends a name in the input.
abbrev pub end_of : Names → ℕ
end_of Zeros = 0
end_of names = 10

-- The names of a run: the words after `files`, or those in the input.
abbrev pub names_of : Names → List (List ℕ) → List ℕ → List (List ℕ)
names_of Arguments words input = drop 1 words
names_of names words input = ended_by (end_of names) input

-- What is printed for each name was appended to the output.
pub record LeavesFiles (names : Names) (words : List (List ℕ)) (input before after : Option (List ℕ))
    (passes : Bool) : Type 0 where
  pub folder : Option (List ℕ)
  pub each : List (List ℕ)
  pub are_names : IfSome input (λ left. each ≡ names_of names words left)
  pub printed : List ℕ
  pub prints : PrintsEach (PrintsFile folder) each passes printed
  pub appended : Appends before after printed

-- A beginning of what is printed for the first names was appended to the output.
pub record LeavesFirstFiles (names : Names) (words : List (List ℕ)) (input before after : Option (List ℕ))
    : Type 0 where
  pub folder : Option (List ℕ)
  pub first : List (List ℕ)
  pub are_first : IfSome input (λ left. (rest : List (List ℕ)) × (names_of names words left ≡ first ++ rest))
  pub passes : Bool
  pub printed : List ℕ
  pub prints : PrintsEach (PrintsFile folder) first passes printed
  pub appended : AppendsFront before after printed

-- A run of `files`. The status is 0 if each file has information. The error output is unchanged, or the run
-- had a fault, and it got its line, or a beginning of that line.
pub data IsFilesRun (names : Names) (words : List (List ℕ))
    (input output_before output_after errors_before errors_after : Option (List ℕ)) (status : ℕ)
    : Type 0 where
  printed : (passes : Bool) → LeavesFiles names words input output_before output_after passes
      → status ≡ (if passes then 0 else 1)
      → Keeps errors_before errors_after
      → IsFilesRun names words input output_before output_after errors_before errors_after status
  failed : (fault : Fault) → LeavesFirstFiles names words input output_before output_after
      → status ≡ 1
      → AppendsFront errors_before errors_after (error_line fault)
      → IsFilesRun names words input output_before output_after errors_before errors_after status
