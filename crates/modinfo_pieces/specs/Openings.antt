-- What encloses a place in a text, innermost first, and how pieces change that.
use Rattle.std.specs.Prelude.{ℕ, ◌==◌, Bool, true, false, List, [], ◌∷◌, Option, Some, None, if◌then◌else◌}
use Rattle.std.specs.Prelude.{option_map}
use Rattle.modinfo_pieces.specs.declared.choice.ChoiceKind.{ChoiceKind}
use Rattle.modinfo_pieces.specs.declared.choice.ChoiceKind.TheVariants.{JsxElement}
use Rattle.modinfo_pieces.specs.declared.place.Before.{Before}
use Rattle.modinfo_pieces.specs.declared.place.Before.TheVariants.{Equal, Head, TagOpen, TagSlash}
use Rattle.modinfo_pieces.specs.declared.place.Context.{Context}
use Rattle.modinfo_pieces.specs.declared.place.Opening.{Opening}
use Rattle.modinfo_pieces.specs.declared.place.Opening.TheVariants.{Angle, Brace, ClosingTag, Element}
use Rattle.modinfo_pieces.specs.declared.place.Opening.TheVariants.{HeadParenthesis, Parenthesis, Program}
use Rattle.modinfo_pieces.specs.declared.place.Opening.TheVariants.{Substitution, Tag}

-- The innermost opening.
abbrev pub innermost : List Opening → Opening
innermost [] = Program
innermost (opening ∷ _) = opening

-- Tests of an opening.
abbrev pub is_parenthesis : Opening → Bool
is_parenthesis Parenthesis = true
is_parenthesis HeadParenthesis = true
is_parenthesis _ = false

abbrev pub is_brace : Opening → Bool
is_brace Brace = true
is_brace _ = false

abbrev pub is_substitution : Opening → Bool
is_substitution Substitution = true
is_substitution _ = false

abbrev pub is_element : Opening → Bool
is_element Element = true
is_element _ = false

-- The openings without the innermost, if that passes a test.
abbrev pub closed : (Opening → Bool) → List Opening → Option (List Opening)
closed test [] = None
closed test (opening ∷ around) = (if test opening then Some around else None)

-- The opening of a `(`: the one after a head is another.
abbrev pub opening_of_parenthesis : Before → Opening
opening_of_parenthesis Head = HeadParenthesis
opening_of_parenthesis _ = Parenthesis

-- A `<` begins a tag between the tags of an element, as the value of an attribute, and where the parser says
-- so outside of tags.
abbrev pub begins_tag : Opening → Before → Option ChoiceKind → Bool
begins_tag Element before chosen = true
begins_tag Tag Equal chosen = true
begins_tag Tag before chosen = false
begins_tag ClosingTag before chosen = false
begins_tag Angle before chosen = false
begins_tag inside before (Some JsxElement) = true
begins_tag inside before chosen = false

-- The openings after a `<` that begins no tag: one more in a tag, where type arguments begin.
abbrev pub around_after_angle : List Opening → List Opening
around_after_angle (Tag ∷ around) = Angle ∷ Tag ∷ around
around_after_angle (Angle ∷ around) = Angle ∷ Angle ∷ around
around_after_angle around = around

-- The openings after a `>` with a byte before: type arguments end, but not by `=>`; a tag ends, and its
-- element ends if a slash is before; the tag that begins with `</` ends, and its element.
abbrev pub around_after_greater : ℕ → Before → List Opening → Option (List Opening)
around_after_greater byte before (Angle ∷ around) = Some (if byte == 61 then Angle ∷ around else around)
around_after_greater byte TagSlash (Tag ∷ around) = Some around
around_after_greater byte before (Tag ∷ around) = Some (Element ∷ around)
around_after_greater byte before (ClosingTag ∷ around) = closed is_element around
around_after_greater byte before around = Some around

-- The openings after a slash: `</` begins another tag.
abbrev pub around_after_slash : Before → List Opening → List Opening
around_after_slash TagOpen (Tag ∷ around) = ClosingTag ∷ around
around_after_slash before around = around

-- The openings after a byte of punctuation with another byte before.
unfoldable pub around_after_punctuation : ℕ → ℕ → Context → List Opening → Option (List Opening)
around_after_punctuation previous byte context around =
    (if byte == 40 then Some (opening_of_parenthesis context.before ∷ around)
    else (if byte == 41 then closed is_parenthesis around
    else (if byte == 123 then Some (Brace ∷ around)
    else (if byte == 125 then closed is_brace around
    else (if byte == 60
    then Some (if begins_tag context.inside context.before context.chosen then Tag ∷ around
    else around_after_angle around)
    else (if byte == 62 then around_after_greater previous context.before around
    else (if byte == 47 then Some (around_after_slash context.before around) else Some around)))))))

-- The openings after a part of a template, by its first and last bytes: `}` ends an expression, `${` begins
-- one.
abbrev pub around_after_template : ℕ → ℕ → List Opening → Option (List Opening)
around_after_template first last around =
    let outer = (if first == 125 then closed is_substitution around else Some around) in
    (if last == 123 then option_map (λ around. Substitution ∷ around) outer else outer)
