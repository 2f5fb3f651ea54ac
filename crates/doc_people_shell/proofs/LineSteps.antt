-- Lines that are written in some cases alone, in those.
use Rattle.std.proofs.Common.{◌≡◌, ℕ, List, [], ◌∷◌, ◌++◌, length, Bool, true, false, refl, ap, sym, ◌∙◌, codes}
use Rattle.std.specs.Prelude.{◌==◌, Option, Some}
use Rattle.std.proofs.lemmas.Bool.{true≢false}
use Rattle.doc_page_parts.specs.Escaping.{escaped}
use Rattle.doc_store_readers.specs.Sites.{View}
use Rattle.doc_people.specs.Folders.{contents_href, folder_href, folder_label, index_of, parent}
use Rattle.doc_people.specs.Lines.{link, link_or_current}
use Rattle.doc_people.specs.Navigation.{folder_at, is_at, up_line}
use Rattle.doc_people.specs.Shell.{aside_part, foot_part, place_line}
use Rattle.doc_people.specs.Views.{Renders}
use Rattle.doc_people_shell.specs.Items.{all_line_if}

pub aside_is : (aside : List ℕ) → false ≡ (length aside == 0)
    → aside_part aside ≡ codes "<aside aria-label=\"About this page\">\n" ++ aside ++ codes "</aside>\n"
aside_is [] none = absurd (true≢false (sym none))
aside_is (b ∷ aside) some = refl

pub foot_is : (lines : List ℕ) → false ≡ (length lines == 0) → foot_part lines ≡ codes "<footer>\n" ++ lines ++ codes "</footer>\n"
foot_is [] none = absurd (true≢false (sym none))
foot_is (b ∷ lines) some = refl

pub place_is : (place : List ℕ) → false ≡ (length place == 0)
    → place_line (Some place) ≡ codes "<p><code>" ++ escaped place ++ codes "</code></p>\n"
place_is [] none = absurd (true≢false (sym none))
place_is (b ∷ place) some = refl

pub up_is : (render : Renders) (view : View) (folder up : List ℕ) → false ≡ (length folder == 0) → up ≡ parent folder
    → codes "<p class=\"up\">" ++ link (folder_href view up) (folder_label render view up) ++ codes "</p>\n" ≡ up_line render view folder
up_is render view [] up none is = absurd (true≢false (sym none))
up_is render view (b ∷ folder) up some is =
    ap (λ f. codes "<p class=\"up\">" ++ link (folder_href view f) (folder_label render view f) ++ codes "</p>\n") is

pub all_is : (cut : Bool) (folder : List ℕ) → cut ≡ true
    → codes "<p class=\"all\">" ++ link (contents_href folder) (codes "All of this folder") ++ codes "</p>\n" ≡ all_line_if cut folder
all_is cut folder is = ap (λ t. all_line_if t folder) (sym is)

pub top_is : (render : Renders) (view : View) (at : Option (List ℕ)) (folder index got : List ℕ) (current : Bool)
    → folder ≡ folder_at at → index ≡ index_of folder → got ≡ index → current ≡ is_at at got
    → link_or_current (folder_href view folder) current (folder_label render view folder)
    ≡ link_or_current (folder_href view (folder_at at)) (is_at at (index_of (folder_at at))) (folder_label render view (folder_at at))
top_is render view at folder index got current same is read so =
    ap (λ t. link_or_current (folder_href view folder) t (folder_label render view folder))
    (so ∙ ap (is_at at) (read ∙ is))
    ∙ ap (λ f. link_or_current (folder_href view f) (is_at at (index_of f)) (folder_label render view f)) same
