use Rattle.std.proofs.Common.{◌≡◌, ◌∙◌, [], ap, inl, inr, rules, subst, Ok, None, unwrap_or}
use Rattle.url.specs.Parser.{parse_url}
use Rattle.modinfo.specs.FileUrl.{file_text}
use Rattle.modinfo.specs.Files.{IsUrlOf}
use Rattle.modinfo.proofs.FilesPrinted.{folder_text, found_info, no_folder, text_of}
use Rattle.modinfo.proofs.files.put_file.Goals as goal

-- The name isn't UTF-8.
pub returns-in_default : goal.returns-in_default
returns-in_default g c = c.put_unnamed.ensures (text_of c.args.folder) (inl c.in_default.ensures)

-- The name is relative, and the folder isn't known.
pub returns-then-not-is_absolute : goal.returns-then-not-is_absolute
returns-then-not-is_absolute g c =
    c.put_unnamed-then-not-is_absolute.ensures (text_of c.args.folder)
    (inr (no_folder _ (search rules), search rules))

pub returns : goal.returns
returns g c =
    let url = c.in_ok-specifier.specifier in
    let is_folder : c.unwrap_or.result.now ≡ unwrap_or (text_of c.args.folder) [] =
    ap (λ text. text.now) c.unwrap_or.ensures ∙ folder_text c.args.folder _ (search rules) in
    let is_url : IsUrlOf (text_of c.args.folder) c.args.name.now url =
    subst (λ text. parse_url None (file_text text c.args.name.now) ≡ Ok url) is_folder
    (subst (λ text. parse_url None (file_text c.unwrap_or.result.now text) ≡ Ok url) c.in-Ok.ensures.0
    c.in_ok-specifier.ensures) in
    c.put_line.ensures (text_of c.args.folder) c.args.name.now
    (found_info (text_of c.args.folder) c.args.name.now c.as_str.result.now url c.info_of_file-found.result
    is_url c.as_str.ensures.value
    c.info_of_file-found.ensures)
    (inl (url, is_url, c.as_str.ensures.value))
