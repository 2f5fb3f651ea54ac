use Rattle.std.proofs.Common.{◌∷◌, ap, ◌∙◌}
use Rattle.doc_store.proofs.NamesLaw.{found_instead}
use Rattle.doc_store.proofs.SetSteps.{names_kept, no_names}
use Rattle.doc_store_readers.specs.Groups.{texts_of}
use Rattle.doc_store.specs.Names.{aliases_of}
use Rattle.doc_store.proofs.aliases.Aliases.names.Goals as goal

pub returns-in-Some : goal.returns-in-Some
returns-in-Some c =
    let i = c.self.inside in
    let path = c.args.path.now in
    found_instead c.after.result (λ names. texts_of names.items) _ _
    (names_kept i.goals i.by_goal c.self.invariant path c.in-Some.aliases.now c.in-Some.ensures
    ∙ ap (λ m. path ∷ aliases_of m path) c.self.view_is) c.after.ensures

pub returns : goal.returns
returns c =
    let i = c.self.inside in
    let path = c.args.path.now in
    found_instead c.alone.result (λ names. texts_of names.items) _ _
    (ap (λ names. path ∷ names) (no_names i.goals i.by_goal c.self.invariant path c.in_default.ensures)
    ∙ ap (λ m. path ∷ aliases_of m path) c.self.view_is) c.alone.ensures
