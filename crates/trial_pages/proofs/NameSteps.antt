-- The names of a page that is held in an index of links, and that a reader sees.
use Rattle.std.proofs.Common.{◌≡◌, ℕ, List, [], ◌∷◌, Bool, true, false, is_some, refl, ap, sym, subst, ◌∙◌}
use Rattle.std.specs.Prelude.{◌||◌, Option, Some, None, bytes_eq, map as mapped, option_map, if◌then◌else◌}
use Rattle.std.specs.FinMap as map
use Rattle.std.specs.List.{list_any}
use Rattle.std.specs.Ordering.{eq_by_cmp}
use Rattle.std.proofs.lemmas.Bool.{both_ways}
use Rattle.doc_index_tables.specs.Maps.{PairMap, pair_cmp}
use Rattle.doc_index_tables.proofs.PairSteps.{pair_is}
use Rattle.doc_page_parts.specs.Sights.{leads_to_itself, seen}
use Rattle.doc_links_pages.specs.Links.{page_at}
use Rattle.doc_links_pages.specs.Names.{AreNames as WrittenNames}
use Rattle.doc_links_pages.specs.PageLinks.{pages_of}
use Rattle.doc_links_pages.specs.declared.page_links.PageLinks.{PageLinks}
use Rattle.doc_resolve.specs.declared.link_kind.LinkKind.{LinkKind}
use Rattle.doc_store_readers.proofs.KeySteps.{bytes_eq_is, same_itself}
use Rattle.doc_store.proofs.NamesLaw.{names_lead}
use Rattle.doc_store.proofs.SightSteps.{itself_is}
use Rattle.doc_store.specs.Names.{AreNames, names_of}
use Rattle.doc_store_readers.specs.Sites.{Site, IsSite, View, goal_in, view_of}
use Rattle.doc_store.specs.Store.{IsStore, StoreState, is_goal}
use Rattle.doc_store_readers.specs.declared.reader.Reader.{Reader}

abbrev Entries : Type 0
Entries = List ((List ℕ × ℕ) × PageLinks)

abbrev paths : Entries → List (List ℕ × PageLinks)
paths es = mapped (λ (e : (List ℕ × ℕ) × PageLinks). (e.0.0, e.1)) es

module _ (goals : List ℕ → Option (List ℕ)) (target : List ℕ) (n : ℕ) (sees : leads_to_itself (goals target) target ≡ true) where
  found : (es : Entries) → list_any (eq_by_cmp pair_cmp (target, n)) (mapped (λ e. e.0) es) ≡ true
      → is_some (page_at (seen goals (paths es)) target) ≡ true
  found [] any = cc
  found (e ∷ es) any =
      by (eq_by_cmp pair_cmp (target, n) e.0) refl (leads_to_itself (goals e.0.0) e.0.0) refl (bytes_eq e.0.0 target) refl (found es) any
    where
      rest : Bool
      rest = list_any (eq_by_cmp pair_cmp (target, n)) (mapped (λ e. e.0) es)

      later : List (List ℕ × PageLinks)
      later = seen goals (paths es)

      is_target : eq_by_cmp pair_cmp (target, n) e.0 ≡ true → e.0.0 ≡ target
      is_target same = sym (ap (λ k. k.0) (pair_is (target, n) e.0 same))

      by : (own : Bool) → eq_by_cmp pair_cmp (target, n) e.0 ≡ own → (led : Bool) → leads_to_itself (goals e.0.0) e.0.0 ≡ led
          → (same : Bool) → bytes_eq e.0.0 target ≡ same → (rest ≡ true → is_some (page_at later target) ≡ true) → (own || rest) ≡ true
          → is_some (page_at (if led then (e.0.0, e.1) ∷ later else later) target) ≡ true
      by own o true l true s more any = ap (λ b. is_some (if b then Some (e.0.0, e.1) else page_at later target)) s
      by false o false l same s more any = more any
      by false o true l false s more any = ap (λ b. is_some (if b then Some (e.0.0, e.1) else page_at later target)) s ∙ more any
      by true o false l same s more any =
          absurd (both_ways (leads_to_itself (goals e.0.0) e.0.0) l (ap (λ p. leads_to_itself (goals p) p) (is_target o) ∙ sees))
      by true o true l false s more any =
          absurd (both_ways (bytes_eq e.0.0 target) s
          (ap (λ p. bytes_eq p target) (is_target o) ∙ bytes_eq_is target target ∙ same_itself target))

  pub target_is_seen : (held : PairMap PageLinks) → map.contains_key held (target, n) ≡ true
      → is_some (page_at (seen goals (pages_of held)) target) ≡ true
  target_is_seen held there = found (map.entries held) (sym (map.contains_key-keys held (target, n)) ∙ there)

is_led : (path : List ℕ) (goal : Option (List ℕ)) → is_goal path goal ≡ leads_to_itself goal path
is_led path None = refl
is_led path (Some goal) = refl

-- the names of a page that a reader sees are its names for what is written in any pages
pub names_are : (site : Site) → IsSite site → (reader : Reader) (target : List ℕ)
    → leads_to_itself (goal_in (view_of site (Some reader)) target) target ≡ true
    → (pages : List (List ℕ × PageLinks)) → WrittenNames (names_of site target) (goal_in (view_of site (Some reader))) pages target
names_are site is reader target sees pages =
    let goals = goal_in (view_of site (Some reader)) in
    let known : AreNames (names_of site target) goals target
    = (names_lead site target is).in_view (Some reader) (sym (itself_is site is reader target) ∙ sees) in
    record {
      once = known.once;
      lead = λ name any. sym (is_led target (goals name)) ∙ sym (known.all name) ∙ any;
      all = λ name writes leads. known.all name ∙ is_led target (goals name) ∙ leads;
    }

pub names_named : (store : StoreState) → IsStore store → (reader : Reader) (view : View) → view ≡ view_of store.site (Some reader)
    → (target : List ℕ) → leads_to_itself (goal_in view target) target ≡ true
    → (pages : List (List ℕ × PageLinks)) (names : List (List ℕ)) → names ≡ names_of store.site target
    → WrittenNames names (goal_in view) pages target
names_named store is reader view seen_by target sees pages names named =
    subst (λ n. WrittenNames n (goal_in view) pages target) (sym named)
    (subst (λ v. WrittenNames (names_of store.site target) (goal_in v) pages target) (sym seen_by)
    (names_are store.site is.site reader target (ap (λ v. leads_to_itself (goal_in v target) target) (sym seen_by) ∙ sees) pages))

-- a page whose links are told is held
pub is_held : (held : PairMap PageLinks) (path : List ℕ) (stamp : ℕ) (links : List LinkKind)
    → Some links ≡ option_map (λ page. page.links) (map.get held (path, stamp)) → map.contains_key held (path, stamp) ≡ true
is_held held path stamp links told = by (map.get held (path, stamp)) told
  where
    by : (x : Option PageLinks) → Some links ≡ option_map (λ page. page.links) x → is_some x ≡ true
    by None e = cc
    by (Some page) e = refl
