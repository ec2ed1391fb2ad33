-- With which token a comment goes: the one rule, for texts and for trees.
--
-- 1. Before the first token every comment leads it; a `#!` line is a token. Without a token after it, a
--    comment trails the text's end; in a text without tokens it leads the text's start.
-- 2. If a line ends between the token before and the comment, also inside an earlier comment, the comment
--    leads the next token.
-- 3. Otherwise `trails` says whether it trails the token before.
use Rattle.std.specs.Prelude.{ℕ, ◌-◌, ◌==◌, Bool, true, not, ◌&&◌, ◌||◌, List, [], ◌∷◌, codes, length, nat_eq}
use Rattle.std.specs.Prelude.{if◌then◌else◌, slice_index}
use Rattle.std.specs.List.{ends_with, list_any}
use Rattle.std.specs.Str.{bytes_eq}

-- The words that name no variable, but for `enum`, and `await`, `let` and `yield`.
abbrev pub keywords : List (List ℕ)
keywords =
    codes "await" ∷ codes "break" ∷ codes "case" ∷ codes "catch" ∷ codes "class" ∷ codes "const"
    ∷ codes "continue" ∷ codes "debugger" ∷ codes "default" ∷ codes "delete" ∷ codes "do" ∷ codes "else"
    ∷ codes "export" ∷ codes "extends" ∷ codes "false" ∷ codes "finally" ∷ codes "for" ∷ codes "function"
    ∷ codes "if" ∷ codes "import" ∷ codes "in" ∷ codes "instanceof" ∷ codes "let" ∷ codes "new"
    ∷ codes "null" ∷ codes "return" ∷ codes "super" ∷ codes "switch" ∷ codes "this" ∷ codes "throw"
    ∷ codes "true" ∷ codes "try" ∷ codes "typeof" ∷ codes "var" ∷ codes "void" ∷ codes "while"
    ∷ codes "with" ∷ codes "yield" ∷ []

unfoldable pub is_keyword : List ℕ → Bool
is_keyword word = list_any (bytes_eq word) keywords

-- Some bytes end with a word.
abbrev pub ends_in : List ℕ → List ℕ → Bool
ends_in bytes word = ends_with nat_eq bytes word

-- The last of some bytes.
abbrev pub last_byte : List ℕ → ℕ
last_byte bytes = slice_index bytes (length bytes - 1)

-- `*`, `/`, `%`, `<`, `&`, `|` or `^`.
abbrev pub is_simple_operator : ℕ → Bool
is_simple_operator byte = ((byte == 42) || ((byte == 47) || (byte == 37)))
    || ((byte == 60) || ((byte == 38) || ((byte == 124) || (byte == 94))))

-- `==`, `!=`, `<=` and `>=`, but not `<<=` and `>>=`.
abbrev pub is_comparison : List ℕ → Bool
is_comparison bytes = (ends_in bytes (codes "==") || ends_in bytes (codes "!="))
    || ((ends_in bytes (codes "<=") && not (ends_in bytes (codes "<<=")))
    || (ends_in bytes (codes ">=") && not (ends_in bytes (codes ">>="))))

-- Bytes that go as far as the end of a token of punctuation: the token is a binary operator by its spelling,
-- as also a sign, the `*` of `import *` and the `<` of type parameters. Of three signs two are `++` or `--`.
-- `>=` is one token, also in `let a: A<B>= b`.
unfoldable pub is_operator : List ℕ → Bool
is_operator bytes =
    let last = last_byte bytes in
    (if is_simple_operator last then true
    else (if last == 43 then not (ends_in bytes (codes "++")) || ends_in bytes (codes "+++")
    else (if last == 45 then not (ends_in bytes (codes "--")) || ends_in bytes (codes "---")
    else (if last == 62 then not (ends_in bytes (codes "=>"))
    else (if last == 61 then is_comparison bytes else ends_in bytes (codes "??"))))))

-- Whether a comment trails the token before it, on whose line it is. A line comment trails each token but a
-- binary operator. A block comment trails a name that is no keyword, a number, a string, a regular
-- expression, text of JSX, `{`, `}`, `;` and `${`, and every token if a `;` follows the comment.
abbrev pub trails : Bool → Bool → Bool → Bool → Bool
trails is_line is_operator is_trailed is_before_semicolon =
    (if is_line then not is_operator else is_trailed || is_before_semicolon)
