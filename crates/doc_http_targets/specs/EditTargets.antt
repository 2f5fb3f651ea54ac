-- What the target of a request asks for that concerns the source of a page. Which routes there are is this project's choice.
use Rattle.std.specs.Prelude.{ℕ, List, codes, Option, Some, None, option_map}
use Rattle.std.specs.Option.{option_or}
use Rattle.doc_http_targets.specs.PeopleTargets.{target_path}
use Rattle.doc_http_targets.specs.Targets.{after, rest_behind}
use Rattle.doc_http_targets.specs.declared.edit_route.EditRoute as code
use Rattle.doc_http_targets.specs.declared.edit_route.EditRoute.TheVariants as edit_routes

-- what a target asks for that concerns the source of a page: its text, its groups, its path, a form to edit it with, or what a text would
-- look like there
pub data EditRoute : Type 0 where
  Source : List ℕ → EditRoute
  Groups : List ℕ → EditRoute
  Move : List ℕ → EditRoute
  Edit : List ℕ → EditRoute
  Preview : List ℕ → EditRoute

-- the same as the code has it
abbrev pub edit_route_shown : code.EditRoute → EditRoute
edit_route_shown (edit_routes.Source rest) = Source rest.now
edit_route_shown (edit_routes.Groups rest) = Groups rest.now
edit_route_shown (edit_routes.Move rest) = Move rest.now
edit_route_shown (edit_routes.Edit rest) = Edit rest.now
edit_route_shown (edit_routes.Preview rest) = Preview rest.now

-- what a path asks for: `/source/REST`, `/groups/REST`, `/move/REST`, `/edit/REST`, whose REST alone may be empty, and `/preview/REST`
abbrev pub edit_at : List ℕ → Option EditRoute
edit_at path =
    option_or (option_map Source (rest_behind (codes "/source/") path))
    (option_or (option_map Groups (rest_behind (codes "/groups/") path))
    (option_or (option_map Move (rest_behind (codes "/move/") path))
    (option_or (option_map Edit (after (codes "/edit/") path))
    (option_map Preview (rest_behind (codes "/preview/") path)))))

-- the same of a target that may have no path
abbrev pub edit_in : Option (List ℕ) → Option EditRoute
edit_in None = None
edit_in (Some path) = edit_at path

-- what a target asks for, by the part before its `?`
abbrev pub edit_route_of : List ℕ → Option EditRoute
edit_route_of target = edit_in (target_path target)
