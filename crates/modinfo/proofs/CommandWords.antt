-- Words ask for one command line at most.
use Rattle.std.proofs.Common.{◌≡◌, ◌||◌, ◌≤◌, ℕ, length, map, arith, List, [], ◌∷◌, codes, Bool, not}
use Rattle.std.proofs.Common.{if◌then◌else◌, true, false, refl, sym, ap, ◌∙◌, subst}
use Rattle.std.specs.Str.{bytes_eq}
use Rattle.std.proofs.lemmas.Bool.{and_parts, false_from_ne_true, not-true, or_parts, true≢false}
use Rattle.std.proofs.lemmas.Slice.Eq.{bytes_eq-Decides}
use Rattle.modinfo.specs.CommandLine.{are_names, asks_for, asks_for_help, asks_for_version, names_have_words}
use Rattle.modinfo.specs.Commands.{allowed_words, has_strictness, has_words, name_of, needed_words}
use Rattle.modinfo.specs.Words.{are_among, is_among}
use Rattle.modinfo.specs.internal.Commands.{asked_command, asked_line, asked_names}
use Rattle.modinfo.specs.declared.command.Command.{Command}
use Rattle.modinfo.specs.declared.command.Command.TheVariants.{Answer, Check}
use Rattle.modinfo.specs.declared.command_line.CommandLine.{CommandLine}
use Rattle.modinfo.specs.declared.command_line.CommandLine.TheVariants.{Help, Version, Document, Lines, Files}
use Rattle.modinfo.specs.declared.command_line.Names.{Names}
use Rattle.modinfo.specs.declared.command_line.Names.TheVariants.{Arguments, Zeros, Lines as FromLines}
use Rattle.modinfo.specs.declared.format.Format.{Format}
use Rattle.modinfo.specs.declared.format.Format.TheVariants.{Module, Estree, Source, Stored, Modules}

-- A word that passes a test is another than one that doesn't.
differs : (test : List ℕ → Bool) (one other : List ℕ) → test one ≡ true → test other ≡ false
    → bytes_eq one other ≡ false
differs test one other is_one is_other = false_from_ne_true (bytes_eq one other)
    (λ same. true≢false (sym is_one ∙ ap test ((bytes_eq-Decides one other).0 same) ∙ is_other))

-- A word that isn't allowed is not among allowed words.
none_of : (allowed words : List (List ℕ)) (word : List ℕ) → are_among words allowed ≡ true
    → is_among word allowed ≡ false → is_among word words ≡ false
none_of allowed [] word all is_none = refl
none_of allowed (first ∷ words) word all is_none =
    let parts = and_parts _ _ all in
    rw (differs (λ each. is_among each allowed) first word parts.0 is_none)
    (none_of allowed words word parts.1 is_none)

-- What is known of the words after the name of a command.
record Words (command : Command) (words : List (List ℕ)) : Type 0 where
  pub needed : are_among (needed_words command) words ≡ true
  pub allowed : are_among words (allowed_words command) ≡ true
  pub strict : has_strictness command words ≡ true

words_of : (command : Command) (name : List ℕ) (words : List (List ℕ)) → has_words command name words ≡ true
    → (name ≡ name_of command) × Words command words
words_of command name words is =
    let named = and_parts _ _ is in
    let needed = and_parts _ _ named.1 in
    let allowed = and_parts _ _ needed.1 in
    let distinct = and_parts _ _ allowed.1 in (
      (bytes_eq-Decides name (name_of command)).0 named.0,
      record { needed = needed.0; allowed = allowed.0; strict = distinct.1 },
    )

-- The only word that is needed is among the words.
needs : (word : List ℕ) (words : List (List ℕ)) → are_among (word ∷ []) words ≡ true
    → is_among word words ≡ true
needs word words is = (and_parts _ _ is).0

-- A word that the command doesn't allow is not among its words.
lacks : {command : Command} {words : List (List ℕ)} → Words command words
    → (word : List ℕ) → is_among word (allowed_words command) ≡ false → is_among word words ≡ false
lacks {command} {words} w word is = none_of (allowed_words command) words word w.allowed is

-- Whether the check is strict.
strictness : (format : Format) (is_strict : Bool) (words : List (List ℕ))
    → has_strictness (Check format is_strict) words ≡ true → is_among (codes "--strict") words ≡ is_strict
strictness format true words is = is
strictness format false words is = not-true (is_among (codes "--strict") words) is

-- The command is the one that is asked for.
asked_command_is : (command : Command) (words : List (List ℕ)) → Words command words
    → asked_command (name_of command) words ≡ command
asked_command_is (Answer Module) words w =
    rw (
      lacks w (codes "convert") refl,
      lacks w (codes "reach") refl,
      lacks w (codes "--estree") refl,
      lacks w (codes "--source") refl,
    ) refl
asked_command_is (Answer Estree) words w =
    rw (
      lacks w (codes "convert") refl,
      lacks w (codes "reach") refl,
      needs (codes "--estree") words w.needed,
    ) refl
asked_command_is (Answer Source) words w =
    rw (
      lacks w (codes "convert") refl,
      lacks w (codes "reach") refl,
      lacks w (codes "--estree") refl,
      needs (codes "--source") words w.needed,
    ) refl
asked_command_is (Answer Stored) words w = refl
asked_command_is (Answer Modules) words w = rw (lacks w (codes "convert") refl) refl
asked_command_is (Check Module is_strict) words w =
    rw (
      lacks w (codes "convert") refl,
      lacks w (codes "reach") refl,
      lacks w (codes "--estree") refl,
      lacks w (codes "--source") refl,
      strictness Module is_strict words w.strict,
    ) refl
asked_command_is (Check Estree is_strict) words w =
    rw (
      lacks w (codes "convert") refl,
      lacks w (codes "reach") refl,
      needs (codes "--estree") words w.needed,
      strictness Estree is_strict words w.strict,
    ) refl
asked_command_is (Check Source is_strict) words w =
    rw (
      lacks w (codes "convert") refl,
      lacks w (codes "reach") refl,
      lacks w (codes "--estree") refl,
      needs (codes "--source") words w.needed,
      strictness Source is_strict words w.strict,
    ) refl
asked_command_is (Check Stored is_strict) words w =
    rw (needs (codes "convert") words w.needed, strictness Stored is_strict words w.strict) refl
asked_command_is (Check Modules is_strict) words w =
    rw (
      lacks w (codes "convert") refl,
      needs (codes "reach") words w.needed,
      strictness Modules is_strict words w.strict,
    ) refl

-- No command is named `--help`, `-h`, `--version`, `-V` or `files`, and none allows `--help` after its name.
abbrev IsApart : Command → Type 0
IsApart command = (asks_for_help (name_of command ∷ []) ≡ false)
    × ((asks_for_version (name_of command ∷ []) ≡ false)
    × ((is_among (codes "--help") (allowed_words command) ≡ false)
    × (bytes_eq (name_of command) (codes "files") ≡ false)))

is_apart : (command : Command) → IsApart command
is_apart (Answer Module) = (refl, (refl, (refl, refl)))
is_apart (Check Module is_strict) = (refl, (refl, (refl, refl)))
is_apart command = (refl, (refl, (refl, refl)))

-- Three words or more don't ask for help.
pub long_asks_nothing : {X : Type 0} (f : X → List ℕ) (xs : List X) → 3 ≤ length xs
    → asks_for_help (map f xs) ≡ false
long_asks_nothing f [] long = absurd (omega (arith, long))
long_asks_nothing f (x ∷ []) long = absurd (omega (arith, long))
long_asks_nothing f (x ∷ y ∷ []) long = absurd (omega (arith, long))
long_asks_nothing f (x ∷ y ∷ z ∷ xs) long = refl

-- The only word is another.
only : (wanted word : List ℕ) → is_among wanted (word ∷ []) ≡ false → bytes_eq word wanted ≡ false
only wanted word is = (or_parts (bytes_eq word wanted) false is).0

-- The words of a command ask neither for help nor for the version.
neither : (command : Command) (words : List (List ℕ)) → Words command words
    → (asks_for_help (name_of command ∷ words) ≡ false) × (asks_for_version (name_of command ∷ words) ≡ false)
neither command [] w = ((is_apart command).0, (is_apart command).1.0)
neither command (word ∷ []) w =
    let helps = lacks w (codes "--help") (is_apart command).1.1.0 in
    (rw (only (codes "--help") word helps) refl, refl)
neither command (first ∷ second ∷ words) w = (refl, refl)

-- The command line of a command is the one that is asked for.
asked_lines_is : (command : Command) (name : List ℕ) (words : List (List ℕ))
    → has_words command name words ≡ true
    → asked_line (name ∷ words)
    ≡ (if is_among (codes "--lines") words then Lines command else Document command)
asked_lines_is command name words is =
    let (named, w) = words_of command name words is in
    subst (λ each. asked_line (each ∷ words)
    ≡ (if is_among (codes "--lines") words then Lines command else Document command)) (sym named)
    (rw (
      (neither command words w).0,
      (neither command words w).1,
      (is_apart command).1.1.1,
      asked_command_is command words w,
    ) refl)

-- The second test passes.
second_holds : (b : Bool) → (false || (b || false)) ≡ true → b ≡ true
second_holds true is = refl
second_holds false is = absurd (cc (is))

-- A word for the version is none for help.
version_word : (word : List ℕ) → asks_for_version (word ∷ []) ≡ true → asks_for_help (word ∷ []) ≡ false
version_word word is = either (bytes_eq (codes "--version") word) refl where
  either : (b : Bool) → bytes_eq (codes "--version") word ≡ b → asks_for_help (word ∷ []) ≡ false
  either true same = subst (λ each. asks_for_help (each ∷ []) ≡ false)
      ((bytes_eq-Decides (codes "--version") word).0 same) refl
  either false other = subst (λ each. asks_for_help (each ∷ []) ≡ false)
      ((bytes_eq-Decides (codes "-V") word).0 (second_holds (bytes_eq (codes "-V") word)
      (rw other at is))) refl

-- Words that ask for the version don't ask for help.
version_only : (words : List (List ℕ)) → asks_for_version words ≡ true → asks_for_help words ≡ false
version_only [] is = refl
version_only (word ∷ []) is = version_word word is
version_only (first ∷ second ∷ words) is = absurd (cc (is))

asked_names_is : (names : Names) (words : List (List ℕ)) → names_have_words names words ≡ true
    → asked_names words ≡ names
asked_names_is FromLines [] is = refl
asked_names_is FromLines (word ∷ words) is = absurd (cc (is))
asked_names_is Zeros [] is = absurd (cc (is))
asked_names_is Zeros (word ∷ []) is = rw is refl
asked_names_is Zeros (first ∷ second ∷ words) is = absurd (cc (is))
asked_names_is Arguments [] is = absurd (cc (is))
asked_names_is Arguments (word ∷ []) is =
    rw (differs (λ each. are_names (each ∷ [])) word (codes "--null") is refl) refl
asked_names_is Arguments (first ∷ second ∷ words) is = refl

-- Words after `files` ask neither for help nor for the version.
files_apart : (names : Names) (words : List (List ℕ)) → names_have_words names words ≡ true
    → asks_for_help (codes "files" ∷ words) ≡ false
files_apart FromLines [] is = refl
files_apart FromLines (word ∷ words) is = absurd (cc (is))
files_apart Zeros [] is = absurd (cc (is))
files_apart Zeros (word ∷ []) is = subst (λ each. asks_for_help (codes "files" ∷ each ∷ []) ≡ false)
    (sym ((bytes_eq-Decides word (codes "--null")).0 is)) refl
files_apart Zeros (first ∷ second ∷ words) is = absurd (cc (is))
files_apart Arguments [] is = absurd (cc (is))
files_apart Arguments (word ∷ []) is =
    rw (differs (λ each. are_names (each ∷ [])) word (codes "--help") is refl) refl
files_apart Arguments (first ∷ second ∷ words) is = refl

no_version : (words : List (List ℕ)) → asks_for_version (codes "files" ∷ words) ≡ false
no_version [] = refl
no_version (word ∷ words) = refl

files_line_is : (names : Names) (words : List (List ℕ)) → names_have_words names words ≡ true
    → asked_line (codes "files" ∷ words) ≡ Files names
files_line_is names words is =
    rw (files_apart names words is, no_version words, asked_names_is names words is) refl

-- The command line is the one that is asked for.
pub asked_line_is : (line : CommandLine) (words : List (List ℕ)) → asks_for line words ≡ true
    → asked_line words ≡ line
asked_line_is Help [] is = refl
asked_line_is Help (name ∷ words) is = rw is refl
asked_line_is Version [] is = absurd (cc (is))
asked_line_is Version (name ∷ words) is = rw (version_only (name ∷ words) is, is) refl
asked_line_is (Document command) [] is = absurd (cc (is))
asked_line_is (Document command) (name ∷ words) is =
    let parts = and_parts (not (is_among (codes "--lines") words)) (has_words command name words) is in
    asked_lines_is command name words parts.1 ∙ rw (not-true (is_among (codes "--lines") words) parts.0) refl
asked_line_is (Lines command) [] is = absurd (cc (is))
asked_line_is (Lines command) (name ∷ words) is =
    let parts = and_parts (is_among (codes "--lines") words) (has_words command name words) is in
    asked_lines_is command name words parts.1 ∙ rw parts.0 refl
asked_line_is (Files names) [] is = absurd (cc (is))
asked_line_is (Files names) (name ∷ words) is =
    let parts = and_parts (bytes_eq name (codes "files")) (names_have_words names words) is in
    subst (λ each. asked_line (each ∷ words) ≡ Files names)
    (sym ((bytes_eq-Decides name (codes "files")).0 parts.0)) (files_line_is names words parts.1)
