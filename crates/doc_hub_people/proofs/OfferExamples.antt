-- Examples: where nothing is, and what is offered there.
use Rattle.std.proofs.Common.{◌≡◌, ℕ, List, [], ◌∷◌, true, false, codes, refl}
use Rattle.std.specs.Prelude.{Some, None}
use Rattle.std.specs.Path.{rsplit_once}
use Rattle.std.specs.Str.{chars, is_utf8}
use Rattle.std.proofs.Math.Utf8.{encode}
use Rattle.percent_encoding.specs.Percent.{percent_decode}
use Rattle.doc_http.specs.declared.request.Request.{Request}
use Rattle.doc_http_replies.specs.PeopleReplies.{PeopleReply}
use Rattle.doc_http_targets.specs.PeopleTargets.{target_path}
use Rattle.doc_http_targets.specs.Targets.{origin_form, route_of}
use Rattle.doc_http_targets.specs.WrittenPaths.{path_written}
use Rattle.doc_media.specs.Kinds.{kind_of}
use Rattle.doc_media.specs.Media.{Beside}
use Rattle.doc_page_parts.specs.Paths.{is_path}
use Rattle.doc_people.specs.Views.{Renders}
use Rattle.doc_people.specs.declared.settings.Browse.{Browse}
use Rattle.doc_resolve.specs.WrittenPaths.{path_written as path_of_segments}
use Rattle.doc_store_readers.specs.Sites.{View}
use Rattle.doc_hub_asking.specs.Asking as asked
use Rattle.doc_hub_people.specs.PeopleAnswers.{not_found_reply, offers_for, people_reply}

-- names to unfold where an example computes
unfoldable computing : Unit {0}
unfolding rsplit_once chars is_utf8 encode percent_decode target_path origin_form route_of path_written kind_of is_path path_of_segments
    people_reply
computing = tt

abbrev blank : Renders
blank text = record { pieces = []; headings = []; texts = []; images = [] }

abbrev browse : Browse
browse =
    record { title = codes "Handbook"; language = codes "en"; home = codes "index.md"; guest = None; login = false; editing = true }

abbrev one_page : View
one_page = record { pages = (codes "guide/start.md", record { groups = []; text = [] }) ∷ []; aliases = [] }

abbrev pictures : Beside
pictures = Some ((codes "guide/old.svg", record { groups = []; text = [] }) ∷ [])

abbrev get : List ℕ → Request
get target = record {
  method = codes "GET";
  target = target;
  authorization = None;
  close = false;
  html = true;
  markdown = false;
  if_match = None;
  if_none_match = None;
  body = [];
}

-- what an owner is answered beside these media, and 404 with what is offered there
abbrev answered : Beside → List ℕ → PeopleReply
answered media target = people_reply blank browse one_page media (asked.Known (record { owner = true; groups = [] })) (get target)

-- a path whose name is a medium's is kept for one: no page is offered there
nothing_begins_at_a_kept_path :
    answered pictures (codes "/page/guide/new.svg") ≡ not_found_reply blank browse (offers_for browse false true) one_page None
unfolding computing
nothing_begins_at_a_kept_path = refl

-- at any other one is
page_begins_at_another_path :
    answered pictures (codes "/page/guide/new.md")
    ≡ not_found_reply blank browse (offers_for browse false true) one_page (Some (codes "guide/new.md"))
unfolding computing
page_begins_at_another_path = refl

-- and at each where there are no media at all
page_begins_where_no_media_are :
    answered None (codes "/page/guide/new.svg")
    ≡ not_found_reply blank browse (offers_for browse false true) one_page (Some (codes "guide/new.svg"))
unfolding computing
page_begins_where_no_media_are = refl
