-- Media as they are held, and the map that contracts see.
use Rattle.std.proofs.Common.{◌≡◌, ℕ, List, Bool, true, false, cond, ⊎_elim, refl, sym, ap, ◌∙◌}
use Rattle.std.specs.Prelude.{Option, Some, None, option_map, Result}
use Rattle.std.specs.FinMap as map
use Rattle.std.specs.Cmp.Lexicographic.{slice_cmp}
use Rattle.std.specs.Ordering.{nat_cmp}
use Rattle.doc_store_readers.specs.declared.reader.Reader.{Reader}
use Rattle.doc_store_readers.specs.Maps.{TextMap}
use Rattle.doc_store_readers.specs.Pages.{Page}
use Rattle.doc_store_readers.proofs.KeySteps.{not_none, same_from, set_or_stood}
use Rattle.doc_store_readers.proofs.MapValues.{contains-map_values, get-map_values, len-map_values, map_values-empty, map_values-insert}
use Rattle.doc_store_readers.proofs.ViewLaw.{page_at-view_of}
use Rattle.doc_store_readers.specs.Sites.{may_see, may_see_at}
use Rattle.doc_media.specs.declared.kind.MediaKind.{MediaKind}
use Rattle.doc_media.specs.declared.media.MediaError.{MediaError}
use Rattle.doc_media.specs.declared.medium.Medium.{Medium}
use Rattle.doc_media.specs.Held.{AreOfTheirKinds, fits, fits_in, page_of, pages_of}
use Rattle.doc_media.specs.Kinds.{kind_of}
use Rattle.doc_media.specs.Media.{beside_of, medium_in, site_of_media}

-- ---- no media

pub nothing_held : (held : TextMap Medium) → held ≡ map.empty → pages_of held ≡ map.empty
nothing_held held is = ap pages_of is ∙ map_values-empty page_of

pub nothing_named : (held : TextMap Medium) → held ≡ map.empty → AreOfTheirKinds held
nothing_named held is = record {
  named = λ path medium e.
      absurd (not_none medium (sym (map.get-empty (slice_cmp nat_cmp) path) ∙ ap (λ m. map.get m path) (sym is) ∙ e));
}

-- ---- what stands under a path

pub stands_in : (held : TextMap Medium) (now : TextMap Page) (path : List ℕ) → pages_of held ≡ now
    → map.contains_key held path ≡ map.contains_key now path
stands_in held now path view_is = sym (contains-map_values page_of held path) ∙ ap (λ m. map.contains_key m path) view_is

pub medium_got : {A : Type 0} (held : TextMap Medium) (now : TextMap Page) (path : List ℕ) (view : A → Medium) (found : Option A)
    → pages_of held ≡ now → option_map view found ≡ map.get held path → option_map (λ a. page_of (view a)) found ≡ map.get now path
medium_got {A = A} held now path view found view_is got =
    twice found ∙ ap (option_map page_of) got ∙ sym (get-map_values page_of held path) ∙ ap (λ m. map.get m path) view_is
  where
    twice : (o : Option A) → option_map (λ a. page_of (view a)) o ≡ option_map page_of (option_map view o)
    twice None = refl
    twice (Some a) = refl

-- ---- one more

pub fits_is : (held : TextMap Medium) (now : TextMap Page) (path bytes : List ℕ) (stands : Bool) (n : ℕ)
    (result : Result (Unit {0}) MediaError) → pages_of held ≡ now → stands ≡ map.contains_key held path → n ≡ map.len held
    → result ≡ fits stands n bytes → result ≡ fits_in now path bytes
fits_is held now path bytes stands n result view_is contains len said =
    said
    ∙ (λ i. fits ((contains ∙ stands_in held now path view_is) i)
    ((len ∙ sym (len-map_values page_of held) ∙ ap map.len view_is) i) bytes)

module _ (held new : TextMap Medium) (now : TextMap Page) (path key : List ℕ) (groups copy : List (List ℕ)) (kind : MediaKind)
    (bytes : List ℕ) (key_is : key ≡ path)
    (made : new ≡ map.insert held key (record { groups = copy; kind = kind; bytes = bytes })) where
  pub one_more : pages_of held ≡ now → copy ≡ groups → pages_of new ≡ map.insert now path (record { groups = groups; text = bytes })
  one_more view_is copy_is =
      ap pages_of made ∙ map_values-insert page_of held key (record { groups = copy; kind = kind; bytes = bytes })
      ∙ (λ i. map.insert (view_is i) (key_is i) (record { groups = copy_is i; text = bytes }))

  pub one_more_named : AreOfTheirKinds held → kind_of path ≡ Some kind → AreOfTheirKinds new
  one_more_named was is = record {
    named = λ q medium e.
        ⊎_elim
        (λ here. ap kind_of (same_from q key here.0 ∙ key_is) ∙ is ∙ ap (λ m. Some m.kind) here.1)
        (λ other. was.named q medium other.1)
        (set_or_stood held key (record { groups = copy; kind = kind; bytes = bytes }) q medium (ap (λ m. map.get m q) (sym made) ∙ e));
  }

-- ---- what a reader sees

module _ (now : TextMap Page) (reader : Reader) (path : List ℕ) where
  pub none_seen : map.get now path ≡ None → medium_in (beside_of (Some now) (Some reader)) path ≡ None
  none_seen none = page_at-view_of (site_of_media now) (Some reader) path ∙ ap (λ o. cond (may_see_at (Some reader) o) o None) none

  pub medium_hidden : (page : Page) → map.get now path ≡ Some page → may_see (Some reader) page ≡ false
      → medium_in (beside_of (Some now) (Some reader)) path ≡ None
  medium_hidden page stands hidden =
      page_at-view_of (site_of_media now) (Some reader) path ∙ ap (λ o. cond (may_see_at (Some reader) o) o None) stands
      ∙ ap (λ b. cond b (Some page) None) hidden

  pub medium_seen : (page : Page) → map.get now path ≡ Some page → may_see (Some reader) page ≡ true
      → medium_in (beside_of (Some now) (Some reader)) path ≡ Some page
  medium_seen page stands sees =
      page_at-view_of (site_of_media now) (Some reader) path ∙ ap (λ o. cond (may_see_at (Some reader) o) o None) stands
      ∙ ap (λ b. cond b (Some page) None) sees
