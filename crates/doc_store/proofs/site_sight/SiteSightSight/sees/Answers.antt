use Rattle.doc_store.proofs.SightSteps.{sees_is}
use Rattle.doc_store.proofs.site_sight.SiteSightSight.sees.Goals as goal

pub returns : goal.returns
returns c =
    let i = c.self.inside in
    sees_is i.pages.now i.aliases.now c.self.invariant i.reader.now c.args.self.now c.self.view_is c.args.path.now c.sees.result
    c.sees.ensures
