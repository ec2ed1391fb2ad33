-- Lines of files.
use Rattle.std.proofs.Common.{◌≡◌, ◌∙◌, refl, sym, ap, ℕ, List, [], Bool, true, Option, Some, None, Result}
use Rattle.std.proofs.Common.{Ok, Err, IfOk, Bor, is_none, option_map, unwrap_or, ◌∷◌, ◌++◌, ◌+◌, ◌<◌, ◌≤◌}
use Rattle.std.proofs.Common.{map, take, drop, length, get_or, IfSome, MatchResult}
use Rattle.std.proofs.lemmas.List.{map-append, take-append-drop, take_all, take_more}
use Rattle.url.specs.Parser.{parse_url}
use Rattle.url.specs.Parts.{Parts, serialize}
use Rattle.deno_graph_info.specs.declared.analysis.module_info.ModuleInfo.{ModuleInfo}
use Rattle.modinfo.specs.FileUrl.{file_text}
use Rattle.modinfo.specs.Files.{IsInfoOfFile, IsUrlOf, LeavesFiles, LeavesFirstFiles, PrintsFile, names_of}
use Rattle.modinfo.specs.Lines.{PrintsEach, ended_by}
use Rattle.modinfo.specs.Lines.PrintsEach.{none}
use Rattle.modinfo.specs.internal.Files.{LeavesEach, LeavesFirst}
use Rattle.modinfo.specs.declared.command_line.Names.{Names}
use Rattle.modinfo.specs.declared.command_line.Names.TheVariants.{Arguments}
use Rattle.modinfo.specs.declared.fault.Fault.{Fault}
use Rattle.std.proofs.KnownBytes.{Appends-nil}

-- The text of a folder, if it is known.
abbrev pub text_of : Option (Bor (List ℕ)) → Option (List ℕ)
text_of folder = option_map (λ folder. folder.now) folder

pub no_folder : (folder : Option (Bor (List ℕ))) → is_none folder ≡ true → text_of folder ≡ None
no_folder None is = refl
no_folder (Some folder) is = cc (is)

-- An unknown folder is the empty one in a URL.
pub folder_text : (folder : Option (Bor (List ℕ))) (empty : Bor (List ℕ)) → empty.now ≡ []
    → (unwrap_or folder empty).now ≡ unwrap_or (text_of folder) []
folder_text None empty is = is
folder_text (Some folder) empty is = refl

-- The information on a file is that at its URL.
pub found_info : {E : Type 0} (folder : Option (List ℕ)) (name text : List ℕ) (url : Parts)
    (found : Result ModuleInfo E) → IsUrlOf folder name url → text ≡ serialize url
    → IfOk found (IsInfoOfFile url)
    → IfOk found (λ info. (at : Parts) × IsUrlOf folder name at × IsInfoOfFile at info × (text ≡ serialize
    at))
found_info folder name text url (Ok info) is_url same is = (url, is_url, is, same)
found_info folder name text url (Err fault) is_url same is = tt

-- The texts of names.
abbrev pub texts_of : List (Bor (List ℕ)) → List (List ℕ)
texts_of names = map (λ name. name.now) names

-- Some of the names, and the rest.
pub names_split : (names : List (Bor (List ℕ))) (n : ℕ)
    → texts_of names ≡ texts_of (take n names) ++ texts_of (drop n names)
names_split names n =
    ap texts_of (sym (take-append-drop n names)) ∙ map-append (λ name. name.now) (take n names) (drop n names)

-- One more name.
pub names_next : (names : List (Bor (List ℕ))) (n : ℕ) (name : Bor (List ℕ)) → n < length names
    → texts_of (take (n + 1) names) ≡ texts_of (take n names) ++ (get_or names n name).now ∷ []
names_next names n name within =
    ap texts_of (take_more names n name within)
    ∙ map-append (λ name. name.now) (take n names) (get_or names n name ∷ [])

-- All names.
pub names_all : (names : List (Bor (List ℕ))) (n : ℕ) → length names ≤ n
    → texts_of (take n names) ≡ texts_of names
names_all names n past = ap texts_of (take_all n names past)

-- The names after the first word.
pub names_after : (words names : List (Bor (List ℕ))) → names ≡ drop 1 words
    → texts_of names ≡ drop 1 (texts_of words)
names_after [] names are = ap texts_of are
names_after (word ∷ words) names are = ap texts_of are

-- What is printed for words is printed for the names of a run.
pub named_files : (answer : Result Bool Fault) (folder : Option (List ℕ)) (names words : List (List ℕ))
    (input before after : Option (List ℕ)) → names ≡ drop 1 words
    → MatchResult answer (LeavesEach folder names before after)
    (λ _. (first : List (List ℕ)) × (rest : List (List ℕ)) × (names ≡ first ++ rest)
    × LeavesFirst folder first before after)
    → MatchResult answer (LeavesFiles Arguments words input before after)
    (λ _. LeavesFirstFiles Arguments words input before after)
named_files (Ok passes) folder names words input before after are (printed, prints, appended) = record {
  folder = folder;
  each = names;
  are_names = each_is input;
  printed = printed;
  prints = prints;
  appended = appended;
}
  where
    each_is : (known : Option (List ℕ)) → IfSome known (λ left. names ≡ names_of Arguments words left)
    each_is None = tt
    each_is (Some left) = are
named_files (Err fault) folder names words input before after are
    (first, rest, split, (passes, printed, prints, appended)) = record {
      folder = folder;
      first = first;
      are_first = first_is input;
      passes = passes;
      printed = printed;
      prints = prints;
      appended = appended;
    }
  where
    first_is : (known : Option (List ℕ))
        → IfSome known (λ left. (rest : List (List ℕ)) × (names_of Arguments words left ≡ first ++ rest))
    first_is None = tt
    first_is (Some left) = (rest, sym are ∙ split)

-- A fault before the first name.
pub no_files : (names : Names) (words : List (List ℕ)) (input output : Option (List ℕ))
    → LeavesFirstFiles names words input output output
no_files names words input output = record {
  folder = None;
  first = [];
  are_first = first_is input;
  passes = true;
  printed = [];
  prints = none;
  appended = (0, Appends-nil output);
}
  where
    first_is : (known : Option (List ℕ))
        → IfSome known (λ left. (rest : List (List ℕ)) × (names_of names words left ≡ [] ++ rest))
    first_is None = tt
    first_is (Some left) = (names_of names words left, refl)
