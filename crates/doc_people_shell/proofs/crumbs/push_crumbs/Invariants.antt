use Rattle.std.proofs.Common.{◌≡◌, ◌++◌, string_bytes}
use Rattle.doc_people.specs.Navigation.{crumb, crumbs}
use Rattle.doc_people_shell.proofs.CrumbSteps.{left}
use Rattle.doc_people_shell.proofs.crumbs.push_crumbs.Given as goal

-- what is written, with the folders that are left, is all
abbrev pub invariant-loop-i : goal.invariant-loop-i
invariant-loop-i g l =
    string_bytes l.out ++ left (crumb (g.V.Viewed.render l.view) (g.V.Viewed.view l.view) l.place) l.place l.i
    ≡ string_bytes l.fn.out ++ crumbs (g.V.Viewed.render l.view) (g.V.Viewed.view l.view) l.place
