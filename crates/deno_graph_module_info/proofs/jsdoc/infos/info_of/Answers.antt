-- The text of the specifier is text, and the range includes the two quotes.
use Rattle.std.proofs.Common.{◌≡◌, sym, ◌∙◌, subst, rules}
use Rattle.std.proofs.lemmas.Str.{encodes-chars}
use Rattle.std.specs.Str.{IsUtf8, chars}
use lib.Utf8.{encodes}
use Rattle.deno_graph_jsdoc.specs.JsDocImport.{import_of}
use Rattle.deno_graph_module_info.specs.Spelled.{CoversInSameQuotes}
use Rattle.deno_graph_module_info.proofs.InSource.{in_same_quotes}
use Rattle.deno_graph_module_info.proofs.jsdoc.infos.info_of.Goals as goal
use Rattle.deno_graph_module_info.proofs.jsdoc.infos.info_of.Goals.{In_ok-from_str}

spelled : (c : In_ok-from_str) → c.in_ok-from_str.field-0 ≡ encodes (chars c.args.import.now.specifier.now)
spelled c =
    let utf8 : IsUtf8 c.args.import.now.specifier.now = search rules in
    c.in_ok-from_str.ensures ∙ sym (encodes-chars c.args.import.now.specifier.now utf8)

pub returns-clause-info : goal.returns-clause-info
returns-clause-info c =
    let text = spelled (goal.at.returns-clause-info c).In_ok-from_str in
    λ k. record {
      specifier = record {
        text = text k;
        range = record {
          start = c.from_source_range.ensures.start k;
          end = c.from_source_range.ensures.end k;
        };
      };
      resolution_mode = c.args.import.now.resolution_mode;
    }

pub returns-clause-covers : goal.returns-clause-covers
returns-clause-covers c =
    let text = spelled (goal.at.returns-clause-covers c).In_ok-from_str in
    subst (CoversInSameQuotes c.args.text_info.now)
    (λ k. record {
      text = sym text k;
      range = record {
        start = sym c.from_source_range.ensures.start k;
        end = sym c.from_source_range.ensures.end k;
      };
    })
    (in_same_quotes c.args.text_info.now (import_of c.args.import.now) c.requires)
