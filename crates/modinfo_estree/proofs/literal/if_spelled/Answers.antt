use Rattle.std.proofs.Common.{◌≡◌, ℕ, List, Some, true, false, codes, refl, sym, ap, ◌∙◌}
use Rattle.std.proofs.lemmas.Bool.{cond-false}
use Rattle.std.proofs.lemmas.Option.{none-some, option_and_then_some}
use Rattle.serde_json.specs.Data.{Data, null, boolean, number, string, array, object}
use Rattle.serde_json.specs.Find.{get_member}
use Rattle.deno_graph_json.proofs.Reading.{read_error}
use Rattle.deno_graph_json.specs.ObjectReader.{readable, value_of}
use Rattle.deno_graph_json.specs.Read.Expected.{is_string_or_array}
use Rattle.deno_graph_json.specs.Read.Partial.{member_at}
use Rattle.modinfo_document.specs.Literal.{reads_string}
use Rattle.modinfo_estree.specs.Literal.{if_spelled, may_spell}
use Rattle.modinfo_estree.proofs.literal.if_spelled.Goals as goal

-- A value that is read as a JavaScript string is a string or an array.
string_or_array : (d : Data) (value : List ℕ) → reads_string d ≡ Some value → is_string_or_array d ≡ true
unfolding reads_string
string_or_array null value read = absurd (none-some value read)
string_or_array (boolean b) value read = absurd (none-some value read)
string_or_array (number n) value read = absurd (none-some value read)
string_or_array (string text) value read = refl
string_or_array (array values) value read = refl
string_or_array (object ms) value read = absurd (none-some value read)

pub returns-else-is_spelled : goal.returns-else-is_spelled
unfolding if_spelled member_at
returns-else-is_spelled c =
    let object = value_of c.args.members.now in
    let ms = readable c.args.members.now in
    let range = c.args.range in
    let value = c.args.value in
    let no : may_spell c.args.offsets.now.text range value ≡ false =
    ap (λ text. may_spell text range value) (sym c.text.ensures) ∙ sym c.in_ok-is_spelled.ensures
    ∙ c.if-is_spelled.false in
    option_and_then_some reads_string (get_member (codes "value") ms) value c.requires
    (λ d here read. read_error object _ c.member_error.result (cond-false _ _ _ no)
    (c.member_error.ensures.place d here (string_or_array d value read)))
