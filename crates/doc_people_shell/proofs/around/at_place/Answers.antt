use Rattle.std.proofs.Common.{◌∙◌, ap, take}
use Rattle.doc_people.specs.Folders.{folder_of, keys}
use Rattle.doc_people.specs.Navigation.{last_ones}
use Rattle.doc_people_shell.specs.Windows.{keys_before, keys_from}
use Rattle.doc_people_shell.proofs.WindowSteps.{more_of_ends, shown_of_ends}
use Rattle.doc_people_shell.proofs.around.at_place.Goals as goal

pub returns-clause-shown : goal.returns-clause-shown
returns-clause-shown g c =
    let view = g.V.Viewed.view c.args.view.now in
    shown_of_ends (keys_before c.args.place.now (keys view (folder_of c.args.place.now)))
    (keys_from c.args.place.now (keys view (folder_of c.args.place.now)))
    c.in_ok-keys_before.field-0 c.in_ok-keys_from.field-0
    (c.in_ok-keys_before.ensures ∙ ap (λ f. last_ones 31 (keys_before c.args.place.now (keys view f))) c.folder_of-folder.ensures)
    (c.in_ok-keys_from.ensures ∙ ap (λ f. take 61 (keys_from c.args.place.now (keys view f))) c.folder_of-folder.ensures)

pub returns-clause-cut : goal.returns-clause-cut
returns-clause-cut g c =
    let view = g.V.Viewed.view c.args.view.now in
    more_of_ends (keys_before c.args.place.now (keys view (folder_of c.args.place.now)))
    (keys_from c.args.place.now (keys view (folder_of c.args.place.now)))
    c.in_ok-keys_before.field-0 c.in_ok-keys_from.field-0
    (c.in_ok-keys_before.ensures ∙ ap (λ f. last_ones 31 (keys_before c.args.place.now (keys view f))) c.folder_of-folder.ensures)
    (c.in_ok-keys_from.ensures ∙ ap (λ f. take 61 (keys_from c.args.place.now (keys view f))) c.folder_of-folder.ensures)
