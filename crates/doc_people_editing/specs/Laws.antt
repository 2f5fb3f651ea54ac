-- Laws of the pages for editing; the proofs are in proofs/.
use Rattle.std.specs.Prelude.{◌≡◌, ℕ, List, ◌++◌, Bool, false, ◌==◌, codes}
use Rattle.std.specs.List.{list_any}
use Rattle.doc_page_parts.specs.Escaping.{escaped}
use Rattle.doc_page_parts.specs.Pages.{filled}
use Rattle.doc_page_parts.specs.declared.rendered.Heading.{Heading}
use Rattle.doc_page_parts.specs.declared.rendered.Rendered.{Rendered}
use Rattle.doc_media.specs.Media.{Beside}
use Rattle.doc_media_links.specs.MediaLinks.{shown_beside}
use Rattle.doc_store_readers.specs.Sites.{View, goal_in}
use Rattle.doc_people.specs.Laws.{holds_in_any_case}
use Rattle.doc_people.specs.Pages.{article}
use Rattle.doc_people_editing.specs.EditPage.{edit_main, edit_parts}
use Rattle.doc_people_editing.specs.NewPage.{new_main, new_parts}
use Rattle.doc_people_editing.specs.Policies.{edit_policy, preview_policy}
use Rattle.doc_people_editing.specs.Preview.{preview_main}
use Rattle.doc_people_editing.specs.Script.{script, script_element}
use Rattle.doc_people_editing.specs.declared.policies.TheConstants.{EDIT_POLICY, PREVIEW_POLICY}

-- the byte that a tag begins with
abbrev pub is_less : ℕ → Bool
is_less b = b == 60

-- the policies of the code are the two that are told
abbrev pub PoliciesAreTold : Type 0
PoliciesAreTold = (EDIT_POLICY.now ≡ edit_policy) × (PREVIEW_POLICY.now ≡ preview_policy)

-- an escaped text begins no tag
abbrev pub EscapedTextsBeginNoTags : Type 0
EscapedTextsBeginNoTags = (text : List ℕ) → list_any is_less (escaped text) ≡ false

-- the script begins and ends no tag, so that its element ends behind it
abbrev pub TheScriptEndsItself : Type 0
TheScriptEndsItself = list_any is_less script ≡ false

-- Whatever the path, the text, its groups and its tag are: the main part of the edit page ends with the script of the digest, and in front
-- of it no script begins.
abbrev pub EditPagesHaveOneScript : Type 0
EditPagesHaveOneScript =
    (path text groups tag : List ℕ) (stands : Bool)
    → (edit_main path text groups tag stands ≡ edit_parts path text groups tag stands ++ script_element)
    × (holds_in_any_case (codes "<script") (edit_parts path text groups tag stands) ≡ false)

-- and so is the page that asks for a path, whatever the folder is
abbrev pub NewPagesHaveOneScript : Type 0
NewPagesHaveOneScript =
    (folder : List ℕ)
    → (new_main folder ≡ new_parts folder ++ script_element) × (holds_in_any_case (codes "<script") (new_parts folder) ≡ false)

-- what is previewed is what people see of the page, between its tags, once it has the text
abbrev pub PreviewsShowThePage : Type 0
PreviewsShowThePage =
    (view : View) (media : Beside) (path : List ℕ) (page : Rendered)
    → preview_main path page.headings (filled (shown_beside (goal_in view) media path) page) ≡ article view media path page

-- a preview begins no form
abbrev pub PreviewsHaveNoForms : Type 0
PreviewsHaveNoForms =
    (path html : List ℕ) (headings : List Heading) → holds_in_any_case (codes "<form") (preview_main path headings html) ≡ false

-- and no frame
abbrev pub PreviewsHaveNoFrames : Type 0
PreviewsHaveNoFrames =
    (path html : List ℕ) (headings : List Heading) → holds_in_any_case (codes "<iframe") (preview_main path headings html) ≡ false
