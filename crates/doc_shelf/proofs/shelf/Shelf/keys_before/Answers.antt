use Rattle.std.proofs.Common.{◌≡◌, filter, subst, sym, ◌∙◌}
use Rattle.std.specs.Prelude.{IfOk}
use Rattle.doc_people.specs.Folders.{keys}
use Rattle.doc_people.specs.Navigation.{is_before, last_ones}
use Rattle.doc_shelf_pages.specs.ViewLaws.{seen_in}
use Rattle.doc_shelf.proofs.shelf.Shelf.keys_before.Goals as goal

pub returns : goal.returns
returns g c =
    subst (λ s. IfOk c.keys_before.result (λ found. found ≡ last_ones c.args.most
    (filter (λ key. is_before key c.args.before.now) (keys (seen_in s.1 c.args.reader.now) c.args.folder.now)))) c.self.view_is
    (c.keys_before.ensures c.self.inside.store.site
    (c.self.invariant.in_step (sym c.keeps_texts.ensures ∙ c.if-not-keeps_texts.false)).by_group)
