-- The definitions on worked examples.
use Rattle.std.proofs.Common.{◌≡◌, ℕ, List, [], ◌∷◌, true, false, codes, refl}
use Rattle.std.specs.Prelude.{Option, Some, None, Ok, Err}
use Rattle.std.specs.Path.{rsplit_once}
use Rattle.doc_media.specs.declared.kind.MediaKind.TheVariants.{Png, Jpeg, Ico, Gz, Pdf, Svg, Txt, Csv}
use Rattle.doc_media.specs.declared.manner.Manner.TheVariants.{Shown, Boxed, Saved}
use Rattle.doc_media.specs.declared.media.MediaError.TheVariants.{Taken, MediaFull}
use Rattle.doc_media.specs.Held.{fits, media_limit, medium_limit}
use Rattle.doc_media.specs.Kinds.{content_type, kind_of, manner_of}
use Rattle.doc_media.specs.Media.{Beside, goal_beside, medium_in}
use Rattle.doc_store_readers.specs.Pages.{Page}

-- ---- kinds

upper_case : kind_of (codes "a.PNG") ≡ Some Png
unfolding kind_of rsplit_once
upper_case = refl

nothing_before : kind_of (codes ".png") ≡ None
unfolding kind_of rsplit_once
nothing_before = refl

nothing_before_in_a_folder : kind_of (codes "x/.png") ≡ None
unfolding kind_of rsplit_once
nothing_before_in_a_folder = refl

two_points : kind_of (codes "a.tar.gz") ≡ Some Gz
unfolding kind_of rsplit_once
two_points = refl

code_that_runs : kind_of (codes "a.html") ≡ None
unfolding kind_of rsplit_once
code_that_runs = refl

nothing_behind : kind_of (codes "a.") ≡ None
unfolding kind_of rsplit_once
nothing_behind = refl

no_point : kind_of (codes "png") ≡ None
unfolding kind_of rsplit_once
no_point = refl

long_jpeg : kind_of (codes "a.jpeg") ≡ Some Jpeg
unfolding kind_of rsplit_once
long_jpeg = refl

short_jpeg : kind_of (codes "a.Jpg") ≡ Some Jpeg
unfolding kind_of rsplit_once
short_jpeg = refl

in_a_folder : kind_of (codes "doc/spec.PDF") ≡ Some Pdf
unfolding kind_of rsplit_once
in_a_folder = refl

point_in_a_folder : kind_of (codes "a.png/b") ≡ None
unfolding kind_of rsplit_once
point_in_a_folder = refl

other_extension : kind_of (codes "n.xyz") ≡ None
unfolding kind_of rsplit_once
other_extension = refl

picture_behind_a_picture : kind_of (codes "a.png.svg") ≡ Some Svg
unfolding kind_of rsplit_once
picture_behind_a_picture = refl

-- ---- how media are told and taken

icon : content_type Ico ≡ codes "image/vnd.microsoft.icon"
icon = refl

text : content_type Txt ≡ codes "text/plain; charset=utf-8"
text = refl

drawing : manner_of Svg ≡ Boxed
drawing = refl

document : manner_of Pdf ≡ Shown
document = refl

table : manner_of Csv ≡ Saved
table = refl

-- ---- what stands beside a view

abbrev picture : Page
picture = record { groups = codes "staff" ∷ []; text = codes "8 bytes!" }

-- what the readers of the group `staff` see
abbrev staff : Beside
staff = Some ((codes "guide/pic.png", picture) ∷ [])

-- no path leads to a page
abbrev no_page : List ℕ → Option (List ℕ)
no_page path = None

seen_medium : medium_in staff (codes "guide/pic.png") ≡ Some picture
seen_medium = refl

absent_medium : medium_in staff (codes "guide/none.png") ≡ None
absent_medium = refl

no_media : medium_in None (codes "guide/pic.png") ≡ None
no_media = refl

link_to_a_medium : goal_beside no_page staff (codes "guide/pic.png") ≡ Some (codes "guide/pic.png")
link_to_a_medium = refl

link_to_none : goal_beside no_page staff (codes "guide/none.png") ≡ None
link_to_none = refl

link_to_a_hidden_medium : goal_beside no_page (Some []) (codes "guide/pic.png") ≡ None
link_to_a_hidden_medium = refl

link_to_a_page : goal_beside (λ _. Some (codes "guide/start.md")) staff (codes "guide/old.md") ≡ Some (codes "guide/start.md")
link_to_a_page = refl

-- ---- what is refused

taken_comes_first : fits true 10000 [] ≡ Err Taken
taken_comes_first = refl

too_many : fits false 10000 [] ≡ Err MediaFull
unfolding media_limit medium_limit
too_many = refl

the_last : fits false 9999 [] ≡ Ok tt
unfolding media_limit medium_limit
the_last = refl
