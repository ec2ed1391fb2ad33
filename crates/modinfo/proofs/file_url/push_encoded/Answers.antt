use Rattle.std.proofs.Common.{◌≡◌, ◌++◌, OnOk, refl, subst}
use Rattle.std.specs.String.{string_bytes}
use Rattle.percent_encoding.specs.AsciiSet.{should_percent_encode}
use Rattle.modinfo.specs.FileUrl.{is_kept}
use Rattle.modinfo.proofs.EncodedBytes.{encoded_bytes}
use Rattle.modinfo.proofs.file_url.push_encoded.Goals as goal

pub returns : goal.returns
unfolding should_percent_encode is_kept
returns c = subst (λ encoded. OnOk c.append_to.result
    (string_bytes c.append_to.new.out ≡ string_bytes c.args.text.now ++ encoded))
    (encoded_bytes _ c.args.path.now _ c.utf8_percent_encode.ensures.text refl) c.append_to.ensures.ok
