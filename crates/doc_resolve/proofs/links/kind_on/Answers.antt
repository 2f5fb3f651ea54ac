use Rattle.std.proofs.Common.{sym}
use Rattle.doc_resolve.specs.Links.{on_path}
use Rattle.doc_resolve.specs.References.{uri_of}
use Rattle.doc_resolve.proofs.DotSteps.{texts}
use Rattle.doc_resolve.proofs.LinkLaws.{kind_on-outside, kind_on-inside_ok}
use Rattle.doc_resolve.proofs.links.kind_on.Goals as goal

pub returns-then-leaves_site : goal.returns-then-leaves_site
returns-then-leaves_site c =
    kind_on-outside (on_path (texts c.args.base.now)) c.args.dest.now (uri_of c.parse-reference.result) c.parse-reference.ensures
    (sym c.if-leaves_site.ensures)

pub returns : goal.returns
returns c =
    kind_on-inside_ok (texts c.args.base.now) c.args.dest.now (uri_of c.parse-reference.result) c.parse-reference.ensures
    (sym c.if-leaves_site.ensures) c.kind_inside.result c.kind_inside.ensures
