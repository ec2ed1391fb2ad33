-- Each turn adds the claims of one more attribute.
use Rattle.std.proofs.Common.{sym}
use Rattle.std.proofs.lemmas.List.{append-nil}
use Rattle.modinfo_imports.proofs.ClaimedNodes.{each-all, each-more}
use Rattle.modinfo_imports.specs.Attributes.{key_claims}
use Rattle.modinfo_imports.proofs.attributes.claim_keys.Goals as goal

pub loop-entry-init : goal.loop-entry-init
loop-entry-init c = sym (append-nil c.args.claims.now.items)

pub loop-entry-preserved : goal.loop-entry-preserved
loop-entry-preserved c =
    each-more (key_claims c.args.text.now) c.args.entries.now c.loop-entry.entry-index c.entry-item.result
    c.args.claims.now.items c.loop-entry.claims.items _ c.loop-entry-test.true c.entry-item.is
    c.loop-entry.invariant c.in_ok-claim_key.ensures

pub returns : goal.returns
returns c =
    each-all (key_claims c.args.text.now) c.args.entries.now c.loop-entry.entry-index c.args.claims.now.items
    c.loop-entry.claims.items c.loop-entry-test.false c.loop-entry.invariant
