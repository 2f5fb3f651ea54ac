use Rattle.std.proofs.Common.{codes}
use Rattle.doc_people_editing.specs.EditPage.{source_href}
use Rattle.doc_people_editing.proofs.WriteSteps.{link_written}
use Rattle.doc_people_editing.proofs.form.push_source_link.Goals as goal

pub returns : goal.returns
returns c =
    link_written (source_href c.args.path.now) (codes "the source") _ _ _ _ c.in_ok-push_link_start.ensures c.in_ok-push_source_href.ensures
    c.in_ok-push_link_end.ensures
