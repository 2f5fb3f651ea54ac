-- Edits, by the pages that write each target.
use Rattle.std.proofs.Common.{◌≡◌, ℕ, List, [], Bool, true, false, refl, ap, sym, subst, ◌∙◌}
use Rattle.std.specs.Prelude.{◌&&◌, ◌||◌, not, Option, Some, None, bytes_eq, option_map}
use Rattle.std.proofs.lemmas.Option.{none-some}
use Rattle.std.specs.FinMap as map
use Rattle.std.specs.List.{list_any}
use Rattle.doc_links_pages.specs.Names.{writes}
use Rattle.doc_page_parts.proofs.Bools.{clash}
use Rattle.doc_resolve.specs.declared.link_kind.LinkKind.{LinkKind}
use Rattle.doc_rows.specs.Rows.{HasLess, HasMore, IsRows, IsWider, RowMap, TextSet, groups_at, rows_beside, rows_of, rows_of_some, stands}
use Rattle.doc_rows.proofs.PlaceLaws.{all_beside, less_by, lifted as lifted_rows, narrowed, narrowed_back, refused, wider}
use Rattle.doc_rows_links.specs.LinkRows.{AreTargets, AreTargetsAt, IsLinkRows, IsWiderByLinks, LinkRowMap, Linking, groups_if, rows_at}
use Rattle.doc_rows_links.specs.LinkRows.{writes_at, writing}
use Rattle.doc_rows_links.specs.LinkSteps.{AllHaveLess, AllHaveMore, added, added_at, dropped, lifted, names_if}
use Rattle.doc_rows_links.proofs.WritingLaws.{groups_at_writing, not_writing, rows_alike, set_not_writing, set_writing, taken_writing}
use Rattle.doc_store_readers.specs.Maps.{TextMap}
use Rattle.doc_store_readers.specs.Pages.{Page}

-- nothing more or less makes rows of the same pages
unmoved_less : (pages : TextMap Page) (old new : RowMap) (p : List ℕ) → HasLess old p [] new → IsRows pages old → IsRows pages new
unmoved_less pages old new p less are = record { each = λ row q. less row q ∙ by (stands old row q) (bytes_eq q p) ∙ are.each row q }
  where
    by : (s e : Bool) → (s && not (e && false)) ≡ s
    by true true = refl
    by true false = refl
    by false e = refl

unmoved_more : (pages : TextMap Page) (old new : RowMap) (p : List ℕ) → HasMore old p [] new → IsRows pages old → IsRows pages new
unmoved_more pages old new p more are = record { each = λ row q. more row q ∙ by (stands old row q) (bytes_eq q p) ∙ are.each row q }
  where
    by : (s e : Bool) → (s || (e && false)) ≡ s
    by true e = refl
    by false true = refl
    by false false = refl

module _ (linking : Linking) (pages : TextMap Page) (path : List ℕ) (before : Option (List (List ℕ))) (old : TextSet)
    (stood : groups_at pages path ≡ before) (wrote : AreTargetsAt linking pages path old) where
  -- what stood among the pages that write a target
  stood_writing : (t : List ℕ) → groups_at (writing linking pages t) path ≡ groups_if (map.contains_key old t) before
  stood_writing t = groups_at_writing linking t pages path ∙ (λ i. groups_if (sym (wrote t) i) (stood i))

  module _ (groups : List (List ℕ)) (new : TextSet) (rows : LinkRowMap) (are : IsLinkRows linking pages rows) where
    pub widened : (held : LinkRowMap) → AllHaveMore rows path (added before old groups new) held
        → IsWiderByLinks linking pages path before old groups new held
    widened held more = record {
      stood = stood;
      wrote = wrote;
      written = λ t e.
          wider (writing linking pages t) path (groups_if (map.contains_key old t) before) groups (rows_at rows t) (rows_at held t)
          (stood_writing t) (are.each t)
          (subst (λ b. HasMore (rows_at rows t) path (names_if b (added_at before old groups t)) (rows_at held t)) e (more t));
      others = λ t e.
          unmoved_more (writing linking pages t) (rows_at rows t) (rows_at held t) path
          (subst (λ b. HasMore (rows_at rows t) path (names_if b (added_at before old groups t)) (rows_at held t)) e (more t)) (are.each t);
    }

    pub not_widened : (held : LinkRowMap) → AllHaveLess rows path (added before old groups new) held → IsLinkRows linking pages held
    not_widened held less = record { each = λ t. by t (map.contains_key new t) (less t) }
      where
        by : (t : List ℕ) (b : Bool) → HasLess (rows_at rows t) path (names_if b (added_at before old groups t)) (rows_at held t)
            → IsRows (writing linking pages t) (rows_at held t)
        by t true less =
            refused (writing linking pages t) path (groups_if (map.contains_key old t) before) (rows_at rows t) (stood_writing t)
            (are.each t)
            groups (rows_at held t) less
        by t false less = unmoved_less (writing linking pages t) (rows_at rows t) (rows_at held t) path less (are.each t)

module _ (linking : Linking) (pages : TextMap Page) (path : List ℕ) (before : Option (List (List ℕ))) (old : TextSet)
    (groups : List (List ℕ)) (new : TextSet) (held rows : LinkRowMap)
    (wide : IsWiderByLinks linking pages path before old groups new held) where
  pub narrowed_back_links : AllHaveLess held path (added before old groups new) rows → IsLinkRows linking pages rows
  narrowed_back_links less = record { each = λ t. by t (map.contains_key new t) refl (less t) }
    where
      by : (t : List ℕ) (b : Bool) → map.contains_key new t ≡ b
          → HasLess (rows_at held t) path (names_if b (added_at before old groups t)) (rows_at rows t)
          → IsRows (writing linking pages t) (rows_at rows t)
      by t true e less =
          narrowed_back (writing linking pages t) path (groups_if (map.contains_key old t) before) groups (rows_at held t) (rows_at rows t)
          (wide.written t e) less
      by t false e less =
          unmoved_less (writing linking pages t) (rows_at held t) (rows_at rows t) path less (wide.others t e)

  module _ (page : Page) (has : page.groups ≡ groups) (writes_new : AreTargets (linking path page) new)
      (less : AllHaveLess held path (dropped before old groups new) rows) where
    set_one : (t : List ℕ) → map.contains_key new t ≡ true → (b : Bool) → map.contains_key old t ≡ b
        → IsRows (map.insert (writing linking pages t) path page) (rows_at rows t)
    set_one t e b f =
        narrowed (writing linking pages t) path (groups_if b before) groups (rows_at held t) (rows_at rows t)
        (subst (λ b. IsWider (writing linking pages t) path (groups_if b before) groups (rows_at held t)) f (wide.written t e)) page has
        (by b (subst (λ c. HasLess (rows_at held t) path
        (names_if c (rows_beside (rows_of_some before) (rows_of_some (groups_if (map.contains_key new t) (Some groups)))))
        (rows_at rows t)) f
        (less t)))
      where
        by : (b : Bool) → HasLess (rows_at held t) path
            (names_if b (rows_beside (rows_of_some before) (rows_of_some (groups_if (map.contains_key new t) (Some groups)))))
            (rows_at rows t)
            → HasLess (rows_at held t) path (rows_beside (rows_of_some (groups_if b before)) (rows_of groups)) (rows_at rows t)
        by true less =
            subst (λ c. HasLess (rows_at held t) path (rows_beside (rows_of_some before) (rows_of_some (groups_if c (Some groups))))
            (rows_at rows t)) e less
        by false less = less

    -- a target that the new page doesn't write
    left_one : (t : List ℕ) → map.contains_key new t ≡ false → (b : Bool) → map.contains_key old t ≡ b
        → IsRows (map.remove (writing linking pages t) path) (rows_at rows t)
    left_one t e true f = by before wide.stood (less_here)
      where
        less_here : HasLess (rows_at held t) path (rows_of_some before) (rows_at rows t)
        less_here =
            less_by (rows_at held t) (rows_at rows t) path
            (dropped before old groups new t) (rows_of_some before)
            ((λ i. names_if (f i) (rows_beside (rows_of_some before) (rows_of_some (groups_if (e i) (Some groups)))))
            ∙ all_beside (rows_of_some before)) (less t)

        nothing : (o : Option Page) → option_map (λ page. page.groups) o ≡ None → writes_at linking t path o ≡ false
        nothing None g = refl
        nothing (Some page) g = absurd (none-some page.groups (sym g))

        by : (b : Option (List (List ℕ))) → groups_at pages path ≡ b → HasLess (rows_at held t) path (rows_of_some b) (rows_at rows t)
            → IsRows (map.remove (writing linking pages t) path) (rows_at rows t)
        by None g less = absurd (clash (map.contains_key old t) f (wide.wrote t ∙ nothing (map.get pages path) g))
        by (Some these) g less =
            lifted_rows (writing linking pages t) path these (rows_at held t) (rows_at rows t) less
            (groups_at_writing linking t pages path ∙ (λ i. groups_if ((sym (wide.wrote t) ∙ f) i) (g i))) (wide.others t e)
    left_one t e false f =
        rows_alike (writing linking pages t) (map.remove (writing linking pages t) path) (rows_at rows t)
        (not_writing linking t pages path (sym (wide.wrote t) ∙ f))
        (unmoved_less (writing linking pages t) (rows_at held t) (rows_at rows t) path
        (less_by (rows_at held t) (rows_at rows t) path (dropped before old groups new t) []
        (ap (λ c. names_if c (rows_beside (rows_of_some before) (rows_of_some (groups_if (map.contains_key new t) (Some groups))))) f)
        (less t))
        (wide.others t e))

    pub narrowed_links : IsLinkRows linking (map.insert pages path page) rows
    narrowed_links = record { each = λ t. by t (map.contains_key new t) refl }
      where
        by : (t : List ℕ) (b : Bool) → map.contains_key new t ≡ b → IsRows (writing linking (map.insert pages path page) t) (rows_at rows t)
        by t true e =
            rows_alike (map.insert (writing linking pages t) path page) (writing linking (map.insert pages path page) t) (rows_at rows t)
            (set_writing linking t pages path page (sym (writes_new t) ∙ e)) (set_one t e (map.contains_key old t) refl)
        by t false e =
            rows_alike (map.remove (writing linking pages t) path) (writing linking (map.insert pages path page) t) (rows_at rows t)
            (set_not_writing linking t pages path page (sym (writes_new t) ∙ e)) (left_one t e (map.contains_key old t) refl)

-- the page at a path goes
module _ (linking : Linking) (pages : TextMap Page) (path : List ℕ) (page : Page) (groups : List (List ℕ)) (links : List LinkKind)
    (stood : map.get pages path ≡ Some page) (has : page.groups ≡ groups) (are_links : linking path page ≡ links) where
  wrote_link : (t : List ℕ) → writes_at linking t path (map.get pages path) ≡ list_any (writes t) links
  wrote_link t = ap (writes_at linking t path) stood ∙ ap (list_any (writes t)) are_links

  pub lifted_links : (old new : LinkRowMap) → IsLinkRows linking pages old → AllHaveLess old path (lifted groups links) new
      → IsLinkRows linking (map.remove pages path) new
  lifted_links old new are less = record {
    each = λ t.
        rows_alike (map.remove (writing linking pages t) path) (writing linking (map.remove pages path) t) (rows_at new t)
        (taken_writing linking t pages path) (by t (list_any (writes t) links) refl (less t));
  }
    where
      by : (t : List ℕ) (b : Bool) → list_any (writes t) links ≡ b
          → HasLess (rows_at old t) path (names_if b (rows_beside (rows_of groups) [])) (rows_at new t)
          → IsRows (map.remove (writing linking pages t) path) (rows_at new t)
      by t true e less =
          lifted_rows (writing linking pages t) path groups (rows_at old t) (rows_at new t)
          (less_by (rows_at old t) (rows_at new t) path (rows_beside (rows_of groups) []) (rows_of groups) (all_beside
          (rows_of groups)) less)
          (groups_at_writing linking t pages path ∙ (λ i. groups_if ((wrote_link t ∙ e) i)
          ((ap (option_map (λ page. page.groups)) stood ∙ ap Some has) i))) (are.each t)
      by t false e less =
          rows_alike (writing linking pages t) (map.remove (writing linking pages t) path) (rows_at new t)
          (not_writing linking t pages path (wrote_link t ∙ e))
          (unmoved_less (writing linking pages t) (rows_at old t) (rows_at new t) path less (are.each t))
