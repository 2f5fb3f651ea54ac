use Rattle.std.proofs.Common.{ap, sym, ◌∙◌}
use Rattle.std.specs.Prelude.{codes, option_map}
use Rattle.doc_http_targets.specs.Queries.{optional_parameter}
use Rattle.doc_http_targets.specs.WrittenPaths.{path_written}
use Rattle.doc_store_readers.specs.Groups.{groups_of}
use Rattle.doc_hub_editing.specs.EditAnswers.{page_of, regroup_named}
use Rattle.doc_hub_editing.specs.EditSteps.{left_at, request_at, view_at}
use Rattle.doc_hub_editing.proofs.DeskSteps.{tells}
use Rattle.doc_hub_editing.proofs.desk.Desk.regroup.Goals as goal

pub returns-in_default : goal.returns-in_default
returns-in_default c owns =
    let self = c.args.self.now in
    tells self c.refused_for.result _ _ c.refused_for.ensures
    (ap (λ named. regroup_named (view_at self) (left_at self) (page_of (view_at self) (path_written c.args.rest.now))
    (option_map groups_of named) (request_at self))
    (sym c.in_default.is ∙ c.in_ok-names.ensures ∙ ap (λ target. optional_parameter target (codes "groups")) c.get-target.ensures))
