-- What requests ask of the source of a page, worked.
use Rattle.std.specs.Prelude.{◌≡◌, ℕ, List, [], Bool, true, false, Some, None, codes, refl}
use Rattle.doc_http.specs.declared.request.Request.{Request}
use Rattle.doc_http_replies.specs.declared.reply.Allow.TheVariants as resources
use Rattle.doc_http_targets.specs.PeopleTargets.{target_path}
use Rattle.doc_http_targets.specs.Targets.{origin_form, route_of}
use Rattle.doc_people.specs.declared.settings.Browse.{Browse}
use Rattle.doc_hub_editing_refusals.specs.Asked.{ReadSource, PutSource, PutPage, Remove, Regroup, Move, Open, Preview}
use Rattle.doc_hub_editing_refusals.specs.Asked.{NotAllowed}
use Rattle.doc_hub_editing.specs.EditRequests.{edit_request_of}

abbrev where_edited : Bool → Browse
where_edited editing = record {
  title = codes "Handbook";
  language = codes "en";
  home = codes "index.md";
  guest = None;
  login = false;
  editing = editing;
}

abbrev a_request : List ℕ → List ℕ → Request
a_request method target = record {
  method = method;
  target = target;
  authorization = None;
  close = false;
  html = false;
  markdown = false;
  if_match = None;
  if_none_match = None;
  body = [];
}

-- ---- the source of a page

source_is_read : edit_request_of (where_edited true) (a_request (codes "GET") (codes "/source/a.md"))
    ≡ Some (ReadSource (codes "a.md"))
unfolding target_path route_of origin_form
source_is_read = refl

head_of_source : edit_request_of (where_edited true) (a_request (codes "HEAD") (codes "/source/a.md"))
    ≡ Some (ReadSource (codes "a.md"))
unfolding target_path route_of origin_form
head_of_source = refl

source_is_put : edit_request_of (where_edited true) (a_request (codes "PUT") (codes "/source/a/b.md?groups=ops"))
    ≡ Some (PutSource (codes "a/b.md"))
unfolding target_path route_of origin_form
source_is_put = refl

source_is_removed : edit_request_of (where_edited true) (a_request (codes "DELETE") (codes "/source/a.md"))
    ≡ Some (Remove (codes "a.md"))
unfolding target_path route_of origin_form
source_is_removed = refl

source_takes_no_post : edit_request_of (where_edited true) (a_request (codes "POST") (codes "/source/a.md"))
    ≡ Some (NotAllowed resources.Page)
unfolding target_path route_of origin_form
source_takes_no_post = refl

source_takes_no_other : edit_request_of (where_edited true) (a_request (codes "PATCH") (codes "/source/a.md"))
    ≡ Some (NotAllowed resources.Page)
unfolding target_path route_of origin_form
source_takes_no_other = refl

methods_have_case : edit_request_of (where_edited true) (a_request (codes "get") (codes "/source/a.md"))
    ≡ Some (NotAllowed resources.Page)
unfolding target_path route_of origin_form
methods_have_case = refl

source_of_nothing : edit_request_of (where_edited true) (a_request (codes "GET") (codes "/source/"))
    ≡ None
unfolding target_path route_of origin_form
source_of_nothing = refl

-- ---- its groups and its path

groups_are_put : edit_request_of (where_edited true) (a_request (codes "PUT") (codes "/groups/a.md?groups=ops"))
    ≡ Some (Regroup (codes "a.md"))
unfolding target_path route_of origin_form
groups_are_put = refl

groups_are_not_read : edit_request_of (where_edited true) (a_request (codes "GET") (codes "/groups/a.md"))
    ≡ Some (NotAllowed resources.Write)
unfolding target_path route_of origin_form
groups_are_not_read = refl

groups_are_not_removed : edit_request_of (where_edited true) (a_request (codes "DELETE") (codes "/groups/a.md"))
    ≡ Some (NotAllowed resources.Write)
unfolding target_path route_of origin_form
groups_are_not_removed = refl

page_is_moved : edit_request_of (where_edited true) (a_request (codes "PUT") (codes "/move/a.md?to=b.md"))
    ≡ Some (Move (codes "a.md"))
unfolding target_path route_of origin_form
page_is_moved = refl

moves_are_not_posted : edit_request_of (where_edited true) (a_request (codes "POST") (codes "/move/a.md?to=b.md"))
    ≡ Some (NotAllowed resources.Write)
unfolding target_path route_of origin_form
moves_are_not_posted = refl

-- ---- the form, and previews

form_is_opened : edit_request_of (where_edited true) (a_request (codes "GET") (codes "/edit/a.md"))
    ≡ Some (Open (codes "a.md"))
unfolding target_path route_of origin_form
form_is_opened = refl

form_of_a_new_page : edit_request_of (where_edited true) (a_request (codes "HEAD") (codes "/edit/"))
    ≡ Some (Open (codes ""))
unfolding target_path route_of origin_form
form_of_a_new_page = refl

forms_are_not_put : edit_request_of (where_edited true) (a_request (codes "PUT") (codes "/edit/a.md"))
    ≡ Some (NotAllowed resources.Read)
unfolding target_path route_of origin_form
forms_are_not_put = refl

text_is_shown : edit_request_of (where_edited true) (a_request (codes "POST") (codes "/preview/a.md"))
    ≡ Some (Preview (codes "a.md"))
unfolding target_path route_of origin_form
text_is_shown = refl

previews_are_not_read : edit_request_of (where_edited true) (a_request (codes "GET") (codes "/preview/a.md"))
    ≡ Some (NotAllowed resources.Post)
unfolding target_path route_of origin_form
previews_are_not_read = refl

-- ---- the page itself

page_is_put : edit_request_of (where_edited true) (a_request (codes "PUT") (codes "/page/a.md"))
    ≡ Some (PutPage (codes "a.md"))
unfolding target_path route_of origin_form
page_is_put = refl

page_is_removed : edit_request_of (where_edited true) (a_request (codes "DELETE") (codes "/page/a.md"))
    ≡ Some (Remove (codes "a.md"))
unfolding target_path route_of origin_form
page_is_removed = refl

page_is_read_elsewhere : edit_request_of (where_edited true) (a_request (codes "GET") (codes "/page/a.md"))
    ≡ None
unfolding target_path route_of origin_form
page_is_read_elsewhere = refl

page_is_posted_elsewhere : edit_request_of (where_edited true) (a_request (codes "POST") (codes "/page/a.md"))
    ≡ None
unfolding target_path route_of origin_form
page_is_posted_elsewhere = refl

other_routes_edit_nothing : edit_request_of (where_edited true) (a_request (codes "PUT") (codes "/contents"))
    ≡ None
unfolding target_path route_of origin_form
other_routes_edit_nothing = refl

no_route : edit_request_of (where_edited true) (a_request (codes "PUT") (codes "/nothing"))
    ≡ None
unfolding target_path route_of origin_form
no_route = refl

-- ---- where pages aren't edited so

no_source : edit_request_of (where_edited false) (a_request (codes "GET") (codes "/source/a.md")) ≡ None
unfolding target_path route_of origin_form
no_source = refl

no_put : edit_request_of (where_edited false) (a_request (codes "PUT") (codes "/page/a.md")) ≡ None
unfolding target_path route_of origin_form
no_put = refl
