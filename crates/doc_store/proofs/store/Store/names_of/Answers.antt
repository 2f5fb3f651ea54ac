use Rattle.std.proofs.Common.{ap, ◌∙◌}
use Rattle.doc_store.proofs.NamesLaw.{found_instead, names_of_none, names_of_page}
use Rattle.doc_store_readers.specs.Groups.{texts_of}
use Rattle.doc_store.proofs.store.Store.names_of.Goals as goal

pub returns-in_default : goal.returns-in_default
returns-in_default c =
    let i = c.self.inside in
    ap texts_of c.new.ensures.items
    ∙ names_of_none i.pages i.aliases i.puts c.args.self.now c.args.path.now c.self.view_is c.in_default.ensures.page

pub returns : goal.returns
returns c =
    let i = c.self.inside in
    found_instead c.names.result (λ names. texts_of names.items) _ _
    (names_of_page i.pages i.aliases i.puts c.args.self.now c.args.path.now c.self.view_is c.in-Some.path.now c.in-Some._page.now
    c.in-Some.ensures.path c.in-Some.ensures.page)
    c.names.ensures
