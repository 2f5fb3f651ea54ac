use Rattle.std.proofs.Common.{ap, sym, ◌∙◌}
use Rattle.std.specs.Prelude.{codes, Some, option_map}
use Rattle.doc_http_targets.specs.Queries.{optional_parameter}
use Rattle.doc_http_targets.specs.WrittenPaths.{path_written}
use Rattle.doc_page_parts.specs.Paths.{path_of}
use Rattle.doc_hub_editing.specs.EditAnswers.{move_named, page_of}
use Rattle.doc_hub_editing.specs.EditSteps.{left_at, request_at, view_at}
use Rattle.doc_hub_editing.proofs.DeskSteps.{no_path, tells}
use Rattle.doc_hub_editing.proofs.desk.Desk.move_page.Goals as goal

pub returns-in_default : goal.returns-in_default
returns-in_default c owns =
    let self = c.args.self.now in
    let found = page_of (view_at self) (path_written c.args.rest.now) in
    tells self c.refused_for.result _ _ c.refused_for.ensures
    (ap (λ named. move_named (view_at self) (left_at self) found (option_map path_of named) (request_at self))
    (sym c.in_default.is ∙ c.in_ok-named.ensures ∙ ap (λ target. optional_parameter target (codes "to")) c.get-target.ensures))

pub returns : goal.returns
returns c owns =
    let self = c.args.self.now in
    let found = page_of (view_at self) (path_written c.args.rest.now) in
    tells self c.refused_for-in-Err-BadPath.result _ _ c.refused_for-in-Err-BadPath.ensures
    (ap (λ to. move_named (view_at self) (left_at self) found (Some to) (request_at self))
    (no_path (path_of c.get.result.now) c.in-Err-BadPath.field-0 c.in-Err-BadPath.ensures c.in-Err-BadPath.field-0-is)
    ∙ ap (λ named. move_named (view_at self) (left_at self) found (option_map path_of named) (request_at self))
    (ap Some c.get.ensures ∙ sym c.in-Some.is ∙ c.in_ok-named.ensures
    ∙ ap (λ target. optional_parameter target (codes "to")) c.get-target.ensures))
