-- What a reader sees of a site and of its media is the same without a page or a medium that they don't see.
use Rattle.std.proofs.Common.{◌≡◌, ℕ, List, Bool, true, false, bytes_eq, cond, not, refl, ap, sym, ◌∙◌}
use Rattle.std.specs.Prelude.{Option, Some, None, option_and_then}
use Rattle.std.specs.FinMap as map
use Rattle.std.proofs.lemmas.Cmp.{nat_list_cmp_total}
use Rattle.std.proofs.lemmas.Map.Lookups.{exact_bytes}
use Rattle.doc_store_readers.proofs.KeySteps.{bytes_eq_is, get_taken, same_from, same_key}
use Rattle.doc_store_readers.proofs.ViewLaw.{get-visible_aliases, get-visible_pages}
use Rattle.doc_store_readers.specs.declared.reader.Reader.{Reader}
use Rattle.doc_store_readers.specs.Sites.{Site, View, may_see_at, view_of, visible_to}
use Rattle.doc_media.specs.Media.{Media, beside_of, media_visible_to, site_of_media}
use Rattle.doc_store.proofs.StoreSteps.{get-without_goal}
use Rattle.doc_store.specs.Store.{is_goal}
use Rattle.doc_shelf_pages.specs.Templates.{body_of}
use Rattle.doc_http.specs.declared.request.Request.{Request}
use Rattle.doc_http.specs.declared.request.Next.TheVariants as nexts
use Rattle.doc_hub_replies.specs.Replies.{link_shown}
use Rattle.doc_hub.proofs.StepLaws.{answers_alike, same_beside, steps_alike}
use Rattle.doc_hub.specs.HiddenLaws.{HiddenAsNone, HiddenMediumAsNone, IsHidden, IsHiddenMedium, LinksToHiddenAsToNone}
use Rattle.doc_hub.specs.HiddenLaws.{LinksToHiddenMediaAsToNone, media_without, site_without, world_without, world_without_medium}
use Rattle.doc_hub.specs.StepLaws.{Agree}
use Rattle.doc_hub.specs.Worlds.{World, reader_of}

module _ (site : Site) (reader : Option Reader) (path : List ℕ) (hidden : IsHidden site reader path) where
  abbrev rest : Site
  rest = site_without site path

  pages_seen : (visible_to site reader).pages ≡ (visible_to rest reader).pages
  pages_seen = map.same_map nat_list_cmp_total exact_bytes _ _ (λ q.
      get-visible_pages site reader q
      ∙ by q (same_key q path) refl
      ∙ ap (λ page. cond (may_see_at reader page) page None) (sym (get_taken site.pages path q))
      ∙ sym (get-visible_pages rest reader q))
    where
      by : (q : List ℕ) (b : Bool) → same_key q path ≡ b
          → cond (may_see_at reader (map.get site.pages q)) (map.get site.pages q) None
          ≡ cond (may_see_at reader (cond b None (map.get site.pages q))) (cond b None (map.get site.pages q)) None
      by q true same =
          ap (λ b. cond b (map.get site.pages q) None)
          (ap (λ p. may_see_at reader (map.get site.pages p)) (same_from q path same) ∙ hidden)
      by q false apart = refl

  aliases_seen : (visible_to site reader).aliases ≡ (visible_to rest reader).aliases
  aliases_seen = map.same_map nat_list_cmp_total exact_bytes _ _ (λ alias.
      get-visible_aliases site reader alias
      ∙ by (map.get site.aliases alias)
      ∙ ap (λ goal. cond (may_see_at reader (option_and_then (map.get rest.pages) goal)) goal None)
      (sym (get-without_goal site.aliases path alias))
      ∙ sym (get-visible_aliases rest reader alias))
    where
      led : (goal : List ℕ) (b : Bool) → bytes_eq goal path ≡ b
          → cond (may_see_at reader (map.get site.pages goal)) (Some goal) None
          ≡ cond (may_see_at reader (option_and_then (map.get rest.pages) (cond (not b) (Some goal) None))) (cond (not b) (Some goal) None)
          None
      led goal true same =
          ap (λ b. cond b (Some goal) None)
          (ap (λ p. may_see_at reader (map.get site.pages p)) (same_from goal path (sym (bytes_eq_is goal path) ∙ same)) ∙ hidden)
      led goal false apart =
          ap (λ page. cond (may_see_at reader page) (Some goal) None)
          (ap (λ b. cond b None (map.get site.pages goal)) (sym (sym (bytes_eq_is goal path) ∙ apart))
          ∙ sym (get_taken site.pages path goal))

      by : (goal : Option (List ℕ))
          → cond (may_see_at reader (option_and_then (map.get site.pages) goal)) goal None
          ≡ cond (may_see_at reader (option_and_then (map.get rest.pages) (cond (not (is_goal path goal)) goal None)))
          (cond (not (is_goal path goal)) goal None) None
      by None = refl
      by (Some goal) = led goal (bytes_eq goal path) refl

  seen_without : visible_to site reader ≡ visible_to rest reader
  seen_without = λ i. record { pages = pages_seen i; aliases = aliases_seen i }

-- ---- requests

agree : (w : World) (request : Request) (path : List ℕ) → IsHidden w.site (reader_of w request) path
    → Agree w (world_without w path) request
agree w request path hidden = record {
  settings = refl;
  asking = refl;
  sites = seen_without w.site (reader_of w request) path hidden;
  beside = refl;
  puts = λ _. refl;
}

pub hidden_as_none : HiddenAsNone
hidden_as_none = record {
  answers = λ render w request path hidden. answers_alike render w (world_without w path) request (agree w request path hidden);
  steps = λ render w w' v' c used request path said told hidden begins here there.
      steps_alike render w (world_without w path) w' v' c c (nexts.Request used request) said told begins
      (record { unread = begins.unread; stands = begins.stands; begins = begins.begins })
      (agree w request path hidden)
      here there;
}

-- ---- media

media_seen_without : (media : Media) (reader : Option Reader) (path : List ℕ) → IsHiddenMedium media reader path
    → media_visible_to media reader ≡ media_visible_to (media_without media path) reader
media_seen_without None reader path hidden = refl
media_seen_without (Some held) reader path hidden =
    ap (λ seen. Some seen) (pages_seen (site_of_media held) reader path hidden
    ∙ map.same_map nat_list_cmp_total exact_bytes _ _ (λ q.
    get-visible_pages (site_without (site_of_media held) path) reader q
    ∙ sym (get-visible_pages (site_of_media (map.remove held path)) reader q)))

agree_beside : (w : World) (request : Request) (path : List ℕ) → IsHiddenMedium w.media (reader_of w request) path
    → Agree w (world_without_medium w path) request
agree_beside w request path hidden = record {
  settings = refl;
  asking = refl;
  sites = refl;
  beside = media_seen_without w.media (reader_of w request) path hidden;
  puts = λ _. refl;
}

pub hidden_medium_as_none : HiddenMediumAsNone
hidden_medium_as_none = record {
  answers = λ render w request path hidden.
      answers_alike render w (world_without_medium w path) request (agree_beside w request path hidden);
  steps = λ render w w' v' c used request path said told hidden begins here there.
      steps_alike render w (world_without_medium w path) w' v' c c (nexts.Request used request) said told begins
      (record { unread = begins.unread; stands = begins.stands; begins = begins.begins })
      (agree_beside w request path hidden)
      here there;
}

-- ---- links

-- the view of what a site's cut is
seen : Site → View
seen site = record { pages = map.entries site.pages; aliases = map.entries site.aliases }

pub links_to_hidden_as_to_none : LinksToHiddenAsToNone
unfolding seen
links_to_hidden_as_to_none = record {
  links = λ site media reader hidden page dest is.
      ap (λ cut. link_shown (seen cut) (beside_of media reader) page dest) (seen_without site reader hidden is);
  pages = λ site media reader hidden page rendered is.
      ap (λ cut. body_of page (link_shown (seen cut) (beside_of media reader) page) rendered) (seen_without site reader hidden is);
}

beside_without : (media : Media) (reader : Option Reader) (path : List ℕ) → IsHiddenMedium media reader path
    → beside_of media reader ≡ beside_of (media_without media path) reader
beside_without media reader path hidden =
    same_beside media (media_without media path) reader reader (media_seen_without media reader path hidden)

pub links_to_hidden_media_as_to_none : LinksToHiddenMediaAsToNone
links_to_hidden_media_as_to_none = record {
  links = λ site media reader hidden page dest is.
      ap (λ beside. link_shown (view_of site reader) beside page dest) (beside_without media reader hidden is);
  pages = λ site media reader hidden page rendered is.
      ap (λ beside. body_of page (link_shown (view_of site reader) beside page) rendered) (beside_without media reader hidden is);
}
