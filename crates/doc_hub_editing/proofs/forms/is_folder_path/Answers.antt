use Rattle.std.proofs.Common.{lit<}
use Rattle.std.specs.Prelude.{None}
use Rattle.std.proofs.lemmas.Str.Pattern.{strip_suffix_char}
use Rattle.doc_hub_editing.proofs.FormSteps.{ending}
use Rattle.doc_hub_editing.proofs.forms.is_folder_path.Goals as goal

pub unreachable-requires : goal.unreachable-requires
unreachable-requires c =
    let end = ending c.args.folder.now c.requires in
    strip_suffix_char 47 c.args.folder.now None c.in_default.ensures.cases (lit< tt) end.0 end.1
