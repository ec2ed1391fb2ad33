-- Words that dependencies begin with, `new` and `function`, after which a name isn't called, and `typeof`.
use Rattle.std.specs.Prelude.{ℕ, ◌==◌, Bool, ◌&&◌, ◌||◌, List, codes, if◌then◌else◌, slice_index}
use Rattle.std.specs.List.{list_any}
use Rattle.std.specs.Str.{bytes_eq}
use Rattle.modinfo_imports.specs.declared.keyword.Keyword.{Keyword}
use Rattle.modinfo_imports.specs.declared.keyword.Keyword.TheVariants.{Export, Import, Module, New, Other}
use Rattle.modinfo_imports.specs.declared.keyword.Keyword.TheVariants.{Require, TypeOf}

-- A name may have escapes (ECMA-262, 12.7 Names and Keywords): `requ\u0069re` is `require`.
abbrev pub has_escape : List ℕ → Bool
has_escape word = list_any (λ byte. byte == 92) word

-- The word `require`, or one that may spell it: with an escape, and an `r` or an escape at the start.
unfoldable pub may_be_require : List ℕ → Bool
may_be_require word =
    ((slice_index word 0 == 114) || (slice_index word 0 == 92))
    && (bytes_eq word (codes "require") || has_escape word)

unfoldable pub keyword_of : List ℕ → Keyword
keyword_of word =
    (if may_be_require word then Require
    else (if bytes_eq word (codes "import") then Import
    else (if bytes_eq word (codes "export") then Export
    else (if bytes_eq word (codes "module") then Module
    else (if bytes_eq word (codes "typeof") then TypeOf
    else (if bytes_eq word (codes "function") || bytes_eq word (codes "new") then New else Other))))))
