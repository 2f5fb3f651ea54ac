use Rattle.std.proofs.Common.{codes}
use Rattle.doc_people.specs.Folders.{page_href}
use Rattle.doc_people_editing.proofs.WriteSteps.{link_written}
use Rattle.doc_people_editing.proofs.form.push_page_link.Goals as goal

pub returns : goal.returns
returns c =
    link_written (page_href c.args.path.now) (codes "The page") _ _ _ _ c.in_ok-push_link_start.ensures c.in_ok-push_page_href.ensures
    c.in_ok-push_link_end.ensures
