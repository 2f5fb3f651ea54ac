-- Previews are inert.
use Rattle.std.proofs.Common.{◌≡◌, ℕ, List, [], ◌∷◌, ◌++◌, false, codes, refl, ap, ◌∙◌}
use Rattle.std.specs.Prelude.{Option, Some, None}
use Rattle.std.specs.Char.{eq_ignore_ascii_case}
use Rattle.std.specs.List.{list_any}
use Rattle.std.proofs.lemmas.Bool.{cond_both}
use Rattle.std.proofs.lemmas.List.{append_assoc}
use Rattle.doc_page_parts.specs.Escaping.{escaped}
use Rattle.doc_page_parts.specs.declared.rendered.Heading.{Heading}
use Rattle.doc_people.specs.Folders.{first_text}
use Rattle.doc_people.specs.Inert.{inert}
use Rattle.doc_people.specs.Laws.{holds_in_any_case}
use Rattle.doc_people.specs.Pages.{heading_by, heading_line, is_main}
use Rattle.doc_people.proofs.InertLaws.{inert_html_has_no_forms, inert_html_has_no_frames}
use Rattle.doc_people_editing.specs.Laws.{PreviewsHaveNoForms, PreviewsHaveNoFrames, PreviewsShowThePage}
use Rattle.doc_people_editing.specs.Preview.{preview_main}
use Rattle.doc_people_editing.proofs.TagLaws.{Passes, escaped_texts_begin_no_tags, none_in_both, passes, three_pass, two_pass}

pub previews_show_the_page : PreviewsShowThePage
unfolding preview_main
previews_show_the_page view media path page = refl

-- a name that the tags of a preview haven't
module _ (name : List ℕ) (plain : list_any (eq_ignore_ascii_case 60) name ≡ false) (starts : Passes name (codes "<article>\n"))
    (seen : Passes name (codes "<h1>")) (heard : Passes name (codes "<h1 class=\"sr\">")) (ends : Passes name (codes "</h1>\n"))
    (last : holds_in_any_case (60 ∷ name) (codes "</article>\n") ≡ false) where
  text_passes : (text : List ℕ) → Passes name (escaped text)
  text_passes text = passes name (escaped text) (escaped_texts_begin_no_tags text)

  heading_passes : (path : List ℕ) (text : Option (List ℕ)) → Passes name (heading_by path text)
  heading_passes path None = three_pass name (codes "<h1>") (escaped path) (codes "</h1>\n") seen (text_passes path) ends
  heading_passes path (Some text) =
      three_pass name (codes "<h1 class=\"sr\">") (escaped text) (codes "</h1>\n") heard (text_passes text) ends

  line_passes : (path : List ℕ) (headings : List Heading) → Passes name (heading_line path headings)
  line_passes path headings =
      cond_both (list_any is_main headings) [] (heading_by path (first_text headings)) (Passes name) (λ _ r. refl)
      (λ _. heading_passes path (first_text headings))

  none_in_preview : (path html : List ℕ) (headings : List Heading) → holds_in_any_case (60 ∷ name) (inert html) ≡ false
      → holds_in_any_case (60 ∷ name) (preview_main path headings html) ≡ false
  unfolding preview_main
  none_in_preview path html headings none =
      ap (holds_in_any_case (60 ∷ name))
      (append_assoc (codes "<article>\n" ++ heading_line path headings) (inert html) (codes "</article>\n"))
      ∙ two_pass name (codes "<article>\n") (heading_line path headings) starts (line_passes path headings)
      (inert html ++ codes "</article>\n")
      ∙ none_in_both name (inert html) (codes "/article>\n") plain none last

pub previews_have_no_forms : PreviewsHaveNoForms
previews_have_no_forms path html headings =
    none_in_preview (codes "form") refl (λ r. refl) (λ r. refl) (λ r. refl) (λ r. refl) refl path html headings
    (inert_html_has_no_forms html)

pub previews_have_no_frames : PreviewsHaveNoFrames
previews_have_no_frames path html headings =
    none_in_preview (codes "iframe") refl (λ r. refl) (λ r. refl) (λ r. refl) (λ r. refl) refl path html headings
    (inert_html_has_no_frames html)
