-- The URLs of files.
use Rattle.std.specs.Prelude.{◌≡◌, ◌==◌, ◌++◌, ◌||◌, ◌&&◌, ℕ, List, [], ◌∷◌, codes, Bool, false, None, Err}
use Rattle.std.specs.Prelude.{if◌then◌else◌}
use Rattle.std.specs.Char.{is_ascii, is_ascii_alphanumeric}
use Rattle.std.specs.List.{flat_map, list_any}
use Rattle.percent_encoding.specs.Percent.{percent_encode_byte}
use Rattle.url.specs.Parser.{parse_url}
use Rattle.url.specs.declared.error.ParseError.{ParseError}
use Rattle.modinfo.specs.declared.fault.Fault.{Fault}
use Rattle.modinfo.specs.declared.fault.Fault.TheVariants.{Specifier, OutOfMemory}

-- The path begins with a slash.
abbrev pub is_absolute : List ℕ → Bool
is_absolute [] = false
is_absolute (byte ∷ bytes) = byte == 47

-- The byte is as it is in the path of a URL (RFC 3986, section 3.3), or is the slash.
unfoldable pub is_kept : ℕ → Bool
is_kept byte = is_ascii byte
    && (is_ascii_alphanumeric byte || list_any (λ kept. kept == byte) (codes "/-._~!$&'()*+,;=:@"))

-- A byte of a path in its URL: itself, or a percent sign and two hexadecimal digits.
abbrev pub encoded_byte : ℕ → List ℕ
encoded_byte byte = if is_kept byte then byte ∷ [] else percent_encode_byte byte

-- The text of the URL of a path. A relative path begins in the folder.
abbrev pub file_text : List ℕ → List ℕ → List ℕ
file_text folder path = codes "file://"
    ++ (if is_absolute path then [] else flat_map encoded_byte folder ++ codes "/")
    ++ flat_map encoded_byte path

-- Why a text isn't parsed: it is no URL, or an allocation failed.
abbrev pub IsNoUrl : List ℕ → Fault → Type 0
IsNoUrl text Specifier = (error : ParseError) × (parse_url None text ≡ Err error)
IsNoUrl text OutOfMemory = Unit {0}
IsNoUrl text fault = ⊥
