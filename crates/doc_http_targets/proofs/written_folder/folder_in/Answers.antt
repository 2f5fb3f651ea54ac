use Rattle.std.proofs.Common.{◌∙◌, sym, ap, Some}
use Rattle.doc_http_targets.proofs.FolderSteps.{no_text, no_slash, a_folder}
use Rattle.doc_http_targets.proofs.written_folder.folder_in.Goals as goal

pub returns-in_default : goal.returns-in_default
returns-in_default c = no_text c.args.bytes.now c.in_default.ensures.cases.0

pub returns-then-not-ends_in_slash : goal.returns-then-not-ends_in_slash
returns-then-not-ends_in_slash c = no_slash c.args.bytes.now (sym c.ends_in_slash.ensures ∙ c.if-not-ends_in_slash.true)

pub returns : goal.returns
returns c =
    ap Some (c.in_ok-copy_of.ensures ∙ c.in-Ok.ensures.cases.0)
    ∙ a_folder c.args.bytes.now c.in-Ok.ensures.cases.1 (sym c.ends_in_slash.ensures ∙ c.if-not-ends_in_slash.false)
