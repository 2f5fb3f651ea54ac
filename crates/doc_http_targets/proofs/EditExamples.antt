-- Targets that concern the source of a page, worked.
use Rattle.std.specs.Prelude.{◌≡◌, Some, None, codes, refl}
use Rattle.doc_http_targets.specs.EditTargets.{edit_route_of, Source, Groups, Move, Edit, Preview}
use Rattle.doc_http_targets.specs.PeopleTargets.{target_path}

source : edit_route_of (codes "/source/a.md") ≡ Some (Source (codes "a.md"))
unfolding target_path
source = refl

source_without_rest : edit_route_of (codes "/source/") ≡ None
unfolding target_path
source_without_rest = refl

source_without_slash : edit_route_of (codes "/source") ≡ None
unfolding target_path
source_without_slash = refl

source_in_capitals : edit_route_of (codes "/Source/a.md") ≡ None
unfolding target_path
source_in_capitals = refl

source_with_query : edit_route_of (codes "/source/a.md?groups=x") ≡ Some (Source (codes "a.md"))
unfolding target_path
source_with_query = refl

source_before_query : edit_route_of (codes "/source/?x") ≡ None
unfolding target_path
source_before_query = refl

source_of_absolute_form : edit_route_of (codes "http://host/source/a.md") ≡ Some (Source (codes "a.md"))
unfolding target_path
source_of_absolute_form = refl

source_of_another_scheme : edit_route_of (codes "https://host/source/a.md") ≡ None
unfolding target_path
source_of_another_scheme = refl

two_slashes : edit_route_of (codes "/source//x") ≡ Some (Source (codes "/x"))
unfolding target_path
two_slashes = refl

groups : edit_route_of (codes "/groups/a.md?groups=x") ≡ Some (Groups (codes "a.md"))
unfolding target_path
groups = refl

groups_without_rest : edit_route_of (codes "/groups/") ≡ None
unfolding target_path
groups_without_rest = refl

move : edit_route_of (codes "/move/a/b.md?to=c") ≡ Some (Move (codes "a/b.md"))
unfolding target_path
move = refl

move_without_rest : edit_route_of (codes "/move/?to=c") ≡ None
unfolding target_path
move_without_rest = refl

edit_of_the_front : edit_route_of (codes "/edit/") ≡ Some (Edit (codes ""))
unfolding target_path
edit_of_the_front = refl

edit_of_a_folder : edit_route_of (codes "/edit/guide/") ≡ Some (Edit (codes "guide/"))
unfolding target_path
edit_of_a_folder = refl

edit_of_a_page : edit_route_of (codes "/edit/a.md") ≡ Some (Edit (codes "a.md"))
unfolding target_path
edit_of_a_page = refl

edit_before_query : edit_route_of (codes "/edit/?x") ≡ Some (Edit (codes ""))
unfolding target_path
edit_before_query = refl

edit_without_slash : edit_route_of (codes "/edit") ≡ None
unfolding target_path
edit_without_slash = refl

edit_without_slash_before_query : edit_route_of (codes "/edit?x") ≡ None
unfolding target_path
edit_without_slash_before_query = refl

preview : edit_route_of (codes "/preview/a.md") ≡ Some (Preview (codes "a.md"))
unfolding target_path
preview = refl

preview_without_rest : edit_route_of (codes "/preview/") ≡ None
unfolding target_path
preview_without_rest = refl

preview_of_absolute_form : edit_route_of (codes "HTTP://host:80/preview/a.md?x") ≡ Some (Preview (codes "a.md"))
unfolding target_path
preview_of_absolute_form = refl

page : edit_route_of (codes "/page/a.md") ≡ None
unfolding target_path
page = refl

contents : edit_route_of (codes "/contents") ≡ None
unfolding target_path
contents = refl

front : edit_route_of (codes "/") ≡ None
unfolding target_path
front = refl

no_path : edit_route_of (codes "http://host") ≡ None
unfolding target_path
no_path = refl

asterisk : edit_route_of (codes "*") ≡ None
unfolding target_path
asterisk = refl
