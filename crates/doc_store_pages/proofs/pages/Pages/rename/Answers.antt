use Rattle.std.proofs.Common.{IsTrue, sym, subst}
use Rattle.std.specs.FinMap as map
use Rattle.doc_store_pages.proofs.RenameSteps.{no_page, stamped_is}
use Rattle.doc_store_pages.proofs.pages.Pages.rename.Goals as goal

pub replace-requires : goal.replace-requires
replace-requires c = subst (λ m. IsTrue (map.contains_key m c.args.to.now)) (sym c.take.ensures.rest) c.requires.room

pub returns-in-Some : goal.returns-in-Some
returns-in-Some c =
    stamped_is c.args.self.now c.take.new.self c.replace.new.self c.args.from.now c.args.to.now c.args.stamp c.in-Some.page c.stamped.result
    c.in-Some.ensures.page c.take.ensures.rest c.stamped.ensures c.replace.ensures

pub returns-in_default : goal.returns-in_default
returns-in_default c = absurd (no_page c.args.self.now c.args.from.now c.requires.stands c.in_default.ensures.page)
