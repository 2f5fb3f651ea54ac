use Rattle.std.proofs.Common.{[], ◌∙◌, ap, take}
use Rattle.doc_people.specs.Folders.{keys}
use Rattle.doc_people_shell.proofs.WindowSteps.{all_from_start, more_of_ends, shown_of_ends}
use Rattle.doc_people_shell.proofs.around.all_in.Goals as goal

pub returns-clause-shown : goal.returns-clause-shown
returns-clause-shown g c =
    shown_of_ends [] (keys (g.V.Viewed.view c.args.view.now) c.args.folder.now) c.new-2.result c.in_ok-keys_from.field-0
    (c.new-2.ensures ∙ c.new.ensures.items)
    (c.in_ok-keys_from.ensures ∙ ap (take 61) (all_from_start (keys (g.V.Viewed.view c.args.view.now) c.args.folder.now)))

pub returns-clause-cut : goal.returns-clause-cut
returns-clause-cut g c =
    more_of_ends [] (keys (g.V.Viewed.view c.args.view.now) c.args.folder.now) c.new-2.result c.in_ok-keys_from.field-0
    (c.new-2.ensures ∙ c.new.ensures.items)
    (c.in_ok-keys_from.ensures ∙ ap (take 61) (all_from_start (keys (g.V.Viewed.view c.args.view.now) c.args.folder.now)))
