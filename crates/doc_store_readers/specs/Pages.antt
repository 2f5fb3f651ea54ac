-- Pages as contracts see them. All of this is this project's choice.
use Rattle.std.specs.Prelude.{ℕ, List, [], map as mapped, refl}
use Rattle.std.specs.Coded.{Coded, code_by, coded×, coded_list, coded_ℕ}

-- who may see a page, by the names of the groups, and its text
pub record Page : Type 0 where
  pub groups : List (List ℕ)
  pub text : List ℕ

abbrev pub page_code : Coded Page
page_code =
    code_by (List (List ℕ) × List ℕ) (coded× (coded_list (coded_list coded_ℕ)) (coded_list coded_ℕ))
    (λ p. (p.groups, p.text)) (λ p. record { groups = p.0; text = p.1 }) (λ _. refl)

-- a page as it is stored: with the stamp that the put or the move took that gave it its path
pub record StampedPage : Type 0 where
  pub page : Page
  pub stamp : ℕ

abbrev pub stamped_code : Coded StampedPage
stamped_code =
    code_by (Page × ℕ) (coded× page_code coded_ℕ)
    (λ p. (p.page, p.stamp)) (λ p. record { page = p.0; stamp = p.1 }) (λ _. refl)

-- what stands under a new path until a page is moved there
abbrev pub empty_page : StampedPage
empty_page = record { page = record { groups = []; text = [] }; stamp = 0 }

-- pages by their paths, without their stamps
abbrev pub without_stamps : List (List ℕ × StampedPage) → List (List ℕ × Page)
without_stamps entries = mapped (λ entry. (entry.0, entry.1.page)) entries
