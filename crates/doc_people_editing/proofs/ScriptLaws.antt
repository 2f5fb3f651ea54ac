-- The one script of the pages for editing.
use Rattle.std.proofs.Common.{◌≡◌, ℕ, List, [], ◌++◌, Bool, true, false, codes, refl, ap, sym, ◌∙◌}
use Rattle.std.proofs.lemmas.List.{append-nil}
use Rattle.doc_page_parts.specs.Escaping.{escaped}
use Rattle.doc_page_encoding.specs.Encoding.{encoded_path}
use Rattle.doc_people.specs.Folders.{page_href}
use Rattle.doc_people.specs.Laws.{holds_in_any_case}
use Rattle.doc_people.specs.Lines.{link}
use Rattle.doc_people_editing.specs.EditPage.{edit_buttons, edit_form, edit_heading, edit_main, edit_parts, groups_field, hidden_unless}
use Rattle.doc_people_editing.specs.EditPage.{other_section, preview_frame, source_href, stands_section, text_field}
use Rattle.doc_people_editing.specs.Laws.{EditPagesHaveOneScript, NewPagesHaveOneScript, PoliciesAreTold, TheScriptEndsItself}
use Rattle.doc_people_editing.specs.NewPage.{new_form, new_heading, new_main, new_parts}
use Rattle.doc_people_editing.specs.Policies.{edit_policy, preview_policy}
use Rattle.doc_people_editing.specs.Script.{script}
use Rattle.doc_people_editing.proofs.TagLaws.{Passes, escaped_texts_begin_no_tags, five_pass, passes, path_tagless, three_pass, two_pass}

pub policies_are_told : PoliciesAreTold
unfolding edit_policy preview_policy
policies_are_told = (refl, refl)

pub the_script_ends_itself : TheScriptEndsItself
unfolding script
the_script_ends_itself = refl

-- ---- no script begins in the parts of the two pages

abbrev name : List ℕ
name = codes "script"

abbrev Plain : List ℕ → Type 0
Plain text = Passes name text

plain_text : (text : List ℕ) → Plain (escaped text)
plain_text text = passes name (escaped text) (escaped_texts_begin_no_tags text)

plain_path : (path : List ℕ) → Plain (encoded_path path)
plain_path path = passes name (encoded_path path) (path_tagless path)

plain_link : (href text : List ℕ) → Plain href → Plain (link href text)
plain_link href text address =
    three_pass name (codes "<a href=\"" ++ href ++ codes "\"" ++ [] ++ codes ">") (escaped text) (codes "</a>")
    (five_pass name (codes "<a href=\"") href (codes "\"") [] (codes ">") (λ r. refl) address (λ r. refl) (λ r. refl) (λ r. refl))
    (plain_text text) (λ r. refl)

plain_heading : (path : List ℕ) → Plain (edit_heading path)
plain_heading path =
    five_pass name (codes "<h1>") (escaped path) (codes "</h1>\n<noscript><p>Saving takes the script of this page. Without it, ")
    (link (source_href path) (codes "the source")) (codes " is read and written by programs.</p></noscript>\n")
    (λ r. refl) (plain_text path) (λ r. refl)
    (plain_link (source_href path) (codes "the source")
    (two_pass name (codes "/source/") (encoded_path path) (λ r. refl) (plain_path path)))
    (λ r. refl)

plain_text_field : (text : List ℕ) → Plain (text_field text)
plain_text_field text =
    three_pass name (codes "<p><label for=\"text\">Text</label></p>\n<textarea id=\"text\" rows=\"24\" cols=\"80\">\n") (escaped text)
    (codes "</textarea>\n") (λ r. refl) (plain_text text) (λ r. refl)

plain_groups : (groups : List ℕ) → Plain (groups_field groups)
plain_groups groups =
    three_pass name (codes "<p><label>Groups <input id=\"groups\" value=\"") (escaped groups)
    (codes "\" size=\"40\"></label> names with commas between; with none, owners alone see the page</p>\n")
    (λ r. refl) (plain_text groups) (λ r. refl)

plain_buttons : (path : List ℕ) → Plain (edit_buttons path)
plain_buttons path =
    three_pass name (codes "<p><button disabled>Save</button> <button id=\"show\" type=\"button\" disabled>Preview</button> ")
    (link (page_href path) (codes "The page")) (codes "</p>\n<p id=\"said\" role=\"status\"></p>\n") (λ r. refl)
    (plain_link (page_href path) (codes "The page") (two_pass name (codes "/page/") (encoded_path path) (λ r. refl) (plain_path path)))
    (λ r. refl)

plain_form : (path text groups tag : List ℕ) → Plain (edit_form path text groups tag)
plain_form path text groups tag =
    five_pass name
    (codes "<form id=\"edit\" autocomplete=\"off\" data-path=\"" ++ encoded_path path ++ codes "\" data-tag=\"" ++ escaped tag
    ++ codes "\">\n")
    (text_field text) (groups_field groups) (edit_buttons path) (codes "</form>\n")
    (five_pass name (codes "<form id=\"edit\" autocomplete=\"off\" data-path=\"") (encoded_path path) (codes "\" data-tag=\"") (escaped tag)
    (codes "\">\n") (λ r. refl) (plain_path path) (λ r. refl) (plain_text tag) (λ r. refl))
    (plain_text_field text) (plain_groups groups) (plain_buttons path) (λ r. refl)

plain_hidden : (stands : Bool) → Plain (hidden_unless stands)
plain_hidden true r = refl
plain_hidden false r = refl

plain_stands : (path : List ℕ) (stands : Bool) → Plain (stands_section path stands)
plain_stands path stands =
    five_pass name (codes "<section id=\"stands\"") (hidden_unless stands)
    (codes ">\n<form id=\"move\" autocomplete=\"off\"><p><label>New path <input id=\"to\" value=\"") (escaped path)
    (codes "\" size=\"40\"></label> <button disabled>Move</button></p></form>\n"
    ++ codes "<form id=\"remove\"><p><button disabled>Delete this page</button></p></form>\n</section>\n")
    (λ r. refl) (plain_hidden stands) (λ r. refl) (plain_text path) (λ r. refl)

plain_parts : (path text groups tag : List ℕ) (stands : Bool) → Plain (edit_parts path text groups tag stands)
plain_parts path text groups tag stands =
    five_pass name (edit_heading path) (edit_form path text groups tag) other_section preview_frame (stands_section path stands)
    (plain_heading path) (plain_form path text groups tag) (λ r. refl) (λ r. refl) (plain_stands path stands)

plain_new : (folder : List ℕ) → Plain (new_parts folder)
plain_new folder =
    two_pass name new_heading (new_form folder) (λ r. refl)
    (three_pass name (codes "<form id=\"new\" autocomplete=\"off\"><p><label>Path <input id=\"path\" value=\"") (escaped folder)
    (codes "\" size=\"40\" required></label> <button disabled>Begin</button></p></form>\n"
    ++ codes "<p>As guide/start.md: up to 16 names with / between, 200 bytes in all.</p>\n")
    (λ r. refl) (plain_text folder) (λ r. refl))

-- a text that makes no difference in front of nothing
alone : (text : List ℕ) → Plain text → holds_in_any_case (codes "<script") text ≡ false
alone text plain = ap (holds_in_any_case (codes "<script")) (sym (append-nil text)) ∙ plain []

pub edit_pages_have_one_script : EditPagesHaveOneScript
unfolding edit_main
edit_pages_have_one_script path text groups tag stands =
    (refl, alone (edit_parts path text groups tag stands) (plain_parts path text groups tag stands))

pub new_pages_have_one_script : NewPagesHaveOneScript
unfolding new_main
new_pages_have_one_script folder = (refl, alone (new_parts folder) (plain_new folder))
