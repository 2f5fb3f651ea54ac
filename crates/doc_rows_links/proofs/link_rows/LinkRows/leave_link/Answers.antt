use Rattle.std.proofs.Common.{ap, sym, ◌∙◌}
use Rattle.std.specs.Prelude.{bytes_eq}
use Rattle.doc_links_pages.specs.Names.{writes}
use Rattle.doc_rows_links.proofs.PlaceSteps.{no_link, one_link}
use Rattle.doc_rows_links.proofs.link_rows.LinkRows.leave_link.Goals as goal

pub returns : goal.returns
returns c =
    one_link c.args.self.now c.args.path.now c.args.groups.now c.args.link.now c.leave_at.new.self c.text.result.now
    (λ t. ap (writes t) c.in-Page.is ∙ ap (bytes_eq t) (sym c.text.ensures)) c.leave_at.ensures

pub returns-in_default : goal.returns-in_default
returns-in_default c = no_link c.args.self.now c.args.path.now c.args.groups.now c.args.link.now c.in_default.not-Page
