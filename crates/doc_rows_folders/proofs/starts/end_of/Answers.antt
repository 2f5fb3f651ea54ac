use Rattle.std.proofs.Common.{◌∷◌, ◌++◌, [], ap, sym, lit<, ◌∙◌}
use Rattle.std.specs.Prelude.{Some, None}
use Rattle.std.proofs.lemmas.Str.Pattern.{strip_suffix_char}
use Rattle.doc_rows_folders.specs.Starts.{end_of}
use Rattle.doc_rows_folders.proofs.TextLaws.{end_is, ending}
use Rattle.doc_rows_folders.proofs.starts.end_of.Goals as goal

pub returns-in_default : goal.returns-in_default
returns-in_default c =
    let end = ending c.args.folder.now c.requires in
    absurd (strip_suffix_char 47 c.args.folder.now None c.in_default.ensures.cases (lit< tt) end.0 end.1)

pub returns : goal.returns
returns c =
    let whole = strip_suffix_char 47 c.args.folder.now (Some c.in-Some.name) c.in-Some.ensures.cases (lit< tt) in
    c.in_ok-push_str.ensures.bytes ∙ ap (λ s. s ++ 48 ∷ []) c.in_ok-end.ensures.ok ∙ end_is c.in-Some.name.now ∙ ap end_of (sym whole)
