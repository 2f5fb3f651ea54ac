use Rattle.std.proofs.Common.{◌≡◌, take, subst, sym, ◌∙◌}
use Rattle.std.specs.Prelude.{IfOk}
use Rattle.doc_people.specs.Lists.{contents_from}
use Rattle.doc_shelf_pages.specs.ViewLaws.{seen_in}
use Rattle.doc_shelf.proofs.shelf.Shelf.keys_from.Goals as goal

pub returns : goal.returns
returns g c =
    subst (λ s. IfOk c.keys_from.result (λ found. found ≡ take c.args.most
    (contents_from (seen_in s.1 c.args.reader.now) c.args.folder.now c.args.from.now))) c.self.view_is
    (c.keys_from.ensures c.self.inside.store.site
    (c.self.invariant.in_step (sym c.keeps_texts.ensures ∙ c.if-not-keeps_texts.false)).by_group)
