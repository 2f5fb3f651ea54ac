-- A fresh server is made by puts and moves, a connection and the bytes on it.
use Rattle.std.proofs.Common.{◌≡◌, ◌≤◌, ◌+◌, ℕ, suc, zero, List, [], ◌∷◌, ◌++◌, Bool, true, false, cond, is_some, length, refl, ap}
use Rattle.std.proofs.Common.{sym, ◌∙◌, subst, arith}
use Rattle.std.specs.Prelude.{not, ◌&&◌, ◌||◌, nat_le, nat_lt, All, Option, Some, None, Result, Ok, Err, if◌then◌else◌}
use Rattle.std.specs.FinMap as map
use Rattle.std.specs.Cmp.Lexicographic.{slice_cmp}
use Rattle.std.specs.Ordering.{nat_cmp}
use Rattle.std.proofs.lemmas.Bool.Decides.{nat_tests}
use Rattle.std.proofs.lemmas.Cmp.{nat_list_cmp_total}
use Rattle.std.proofs.lemmas.List.Elements.{All-append, All-nil, All-cons}
use Rattle.std.proofs.lemmas.Map.Lookups.{exact_bytes}
use Rattle.doc_store_readers.proofs.KeySteps.{same_key, same_from, same_itself, get_set, get_taken, not_none}
use Rattle.doc_store_readers.specs.Maps.{TextMap}
use Rattle.doc_store_readers.specs.Pages.{Page}
use Rattle.doc_store_readers.specs.Readers.{ReaderTable}
use Rattle.doc_media.specs.Media.{Media}
use Rattle.doc_people.specs.declared.settings.Settings.{Settings}
use Rattle.doc_store_readers.specs.Sites.{Site, IsSite}
use Rattle.doc_store.specs.Store.{alias_limit, aliases_after, effect_of, fits, goal_after, move_page, moved_by, page_limit, put_by}
use Rattle.doc_store.specs.Store.{put_limit}
use Rattle.doc_store.specs.Store.{set_page, text_limit}
use Rattle.doc_store.specs.declared.moving.MoveError.{MoveError}
use Rattle.doc_store.specs.declared.moving.MoveError.TheVariants as move_errors
use Rattle.doc_store.specs.declared.store.EditError.{EditError}
use Rattle.doc_store.specs.declared.store.EditError.TheVariants.{TooLong, StoreFull}
use Rattle.doc_store.specs.declared.store.EditError.TheVariants as edit_errors
use Rattle.doc_store.specs.declared.store.Put.{Put}
use Rattle.doc_store.specs.declared.store.Put.TheVariants.{Created, Replaced}
use Rattle.doc_hub.specs.Connections.{Connections, backlog_limit, new_connection, pushed_at}
use Rattle.doc_hub_events.specs.Events.{connecting, moving, push_on, pushing, putting}
use Rattle.doc_hub_events.specs.declared.event.Event.TheVariants as events
use Rattle.doc_hub.specs.FreshLaws.{only_reader}
use Rattle.doc_hub.specs.MadeLaws.{FreshIsMade, IsMaking, makings}
use Rattle.doc_hub_replies.specs.Replies.{Renders}
use Rattle.doc_hub.specs.Runs.{Happened, Leaves, Runs, nothing}
use Rattle.doc_hub.specs.StepLaws.{open_with}
use Rattle.doc_hub.specs.Worlds.{IsApart, World, has_medium, last_id, may_move_beside, new_world, store_of, with_store}
use Rattle.doc_hub.specs.declared.connection.Connection.{Connection}
use Rattle.doc_hub_events.specs.declared.event.ConnId.{ConnId}
use Rattle.doc_hub_events.specs.declared.event.Event.{Event}
use Rattle.doc_hub_events.specs.declared.event.Event.TheVariants as events
use Rattle.doc_hub_events.specs.declared.outcome.Outcome.{Outcome}
use Rattle.doc_hub_events.specs.declared.refusal.ConnectError.TheVariants as connect_errors
use Rattle.doc_hub_events.specs.declared.refusal.PushError.{PushError}
use Rattle.doc_hub.proofs.Apart.{Clear, key_free, mapped_clear, set_clear, stands_free, taken_clear}
use Rattle.doc_hub.proofs.MadeSites.{before, page_there, free_there, pages_again, aliases_again, site_before, pages_before, aliases_before}
use Rattle.doc_hub.proofs.MadeSites.{texts_before, standing, len_taken, some_entry}
use Rattle.doc_hub.proofs.PushLaws.{gives, is_set, set_twice}
use Rattle.doc_hub.proofs.RunSteps.{happened, runs_more}

-- ---- limits

within : (a b : ℕ) → a ≤ b → nat_lt b a ≡ false
within a b le = grind (arith, nat_tests)

not_yet : (a b : ℕ) → a + 1 ≤ b → nat_le b a ≡ false
not_yet a b le = grind (arith, nat_tests)

few_puts : (n : ℕ) → n ≤ page_limit + alias_limit → nat_lt n put_limit ≡ true
unfolding page_limit alias_limit put_limit
few_puts n le = grind (arith, nat_tests)

still_few : (n : ℕ) → n ≤ page_limit + alias_limit → nat_le put_limit n ≡ false
unfolding page_limit alias_limit put_limit
still_few n le = grind (arith, nat_tests)

sum_within : (a b : ℕ) → a ≤ page_limit → b ≤ alias_limit → a + b ≤ page_limit + alias_limit
sum_within a b few some = omega (arith, few, some)

fits_by : (long full out stands : Bool) → long ≡ false → full ≡ false → out ≡ false
    → ◌≡◌ {A = Result (Unit {0}) EditError} (if long then Err TooLong else (if (not stands && full) || out then Err StoreFull else Ok tt))
    (Ok tt)
fits_by true full out stands a b d = cc
fits_by false true out stands a b d = cc
fits_by false false true stands a b d = cc
fits_by false false false true a b d = refl
fits_by false false false false a b d = refl

pub move_fits_by : (stands taken many out : Bool) → stands ≡ true → taken ≡ false → many ≡ false → out ≡ false
    → ◌≡◌ {A = Result (Unit {0}) MoveError} (if not stands then Err move_errors.NoPage
    else (if taken then Err move_errors.Taken else (if many || out then Err move_errors.StoreFull else Ok tt)))
    (Ok tt)
move_fits_by false taken many out a b d e = cc
move_fits_by true true many out a b d e = cc
move_fits_by true false true out a b d e = cc
move_fits_by true false false true a b d e = cc
move_fits_by true false false false a b d e = refl

neither : (a b : Bool) → a ≡ false → b ≡ false → (a || b) ≡ false
neither true b is also = is
neither false b is also = also

module _ (render : Renders) (readers : ReaderTable) (settings : Settings) (media : Media) where
  -- the server with this site after so many puts and moves
  abbrev at : Site → ℕ → World
  at site puts = record (new_world readers settings media) { site = site; puts = puts }

  record Reached (w : World) : Type 0 where
    run : List Happened
    making : All IsMaking run
    runs : Runs render (new_world readers settings media) run w

  one_more : (w v : World) (event : Event) (outcome : Outcome) → IsMaking (happened w event outcome) → Leaves render w event v outcome
      → Reached w → Reached v
  one_more w v event outcome making leaves so_far =
      let h = happened w event outcome in
      record {
        run = so_far.run ++ h ∷ [];
        making = All-append IsMaking so_far.run (h ∷ []) so_far.making (All-cons IsMaking h [] making (All-nil IsMaking));
        runs = runs_more render (new_world readers settings media) w v so_far.run event outcome so_far.runs leaves;
      }

  put_more : (site : Site) (puts : ℕ) (path : List ℕ) (page : Page)
      → fits (map.len site.pages) (map.contains_key site.pages path) puts page.text ≡ Ok tt → has_medium media path ≡ false
      → Reached (at site puts) → Reached (at (effect_of site (set_page path page)) (puts + 1))
  put_more site puts path page fine free so_far =
      let w = at site puts in
      let stands = map.contains_key site.pages path in
      let done : Put = if stands then Replaced else Created in
      one_more w (at (effect_of site (set_page path page)) (puts + 1)) (events.Site (set_page path page)) (putting (Ok done)) tt (
        Ok done,
        ap (λ said. let r = put_by (store_of w) path page stands said in (with_store w r.0, r.1))
            (ap (λ medium. if medium then Err edit_errors.Taken else fits (map.len site.pages) stands puts page.text) free ∙ fine),
        refl,
      ) so_far

  move_more : (site : Site) (puts : ℕ) (from to : List ℕ) → may_move_beside media (store_of (at site puts)) from to ≡ Ok tt
      → Reached (at site puts)
      → Reached (at (effect_of site (move_page from to)) (puts + 1))
  move_more site puts from to fine so_far =
      let w = at site puts in
      one_more w (at (effect_of site (move_page from to)) (puts + 1)) (events.Site (move_page from to)) (moving (Ok tt)) tt
      (Ok tt, ap (λ said. let r = moved_by (store_of w) from to said in (with_store w r.0, r.1)) fine, refl) so_far

  -- ---- the pages

  abbrev AreShort : TextMap Page → Type 0
  AreShort pages = (path : List ℕ) (page : Page) → map.get pages path ≡ Some page → length page.text ≤ text_limit

  pages_reached : (n : ℕ) (pages : TextMap Page) → map.len pages ≡ n → n ≤ page_limit → AreShort pages → Clear media pages
      → Reached (at (record { pages = pages; aliases = map.empty }) n)
  pages_reached zero pages e few short clear =
      subst (λ m. Reached (at (record { pages = m; aliases = map.empty }) 0)) (sym (map.empty_of_len pages e))
      (record { run = []; making = All-nil IsMaking; runs = nothing (new_world readers settings media) })
  pages_reached (suc n) pages e few short clear =
      let (path, page, found) = some_entry pages n e in
      let others : TextMap Page = map.remove pages path in
      let count : map.len others ≡ n = one_less (map.len others) n (sym (len_taken pages path (ap is_some found)) ∙ e) in
      let gone : map.get others path ≡ None = get_taken pages path path ∙ ap (λ b. cond b None (map.get pages path)) (same_itself path) in
      let so_far = pages_reached n others count (omega arith) (λ q p there. short q p (stood q p path pages there))
      (taken_clear media pages path clear) in
      let fine : fits (map.len others) (map.contains_key others path) n page.text ≡ Ok tt =
      fits_by (nat_lt text_limit (length page.text)) (nat_le page_limit (map.len others)) (nat_le put_limit n)
      (map.contains_key others path)
      (within (length page.text) text_limit (short path page found))
      (ap (nat_le page_limit) count ∙ not_yet n page_limit (omega arith)) (still_few n (omega arith)) in
      subst Reached (λ i. at (record { pages = back path page pages found i; aliases = none_taken path i }) (added i))
      (put_more (record { pages = others; aliases = map.empty }) n path page fine
      (key_free media pages path clear (ap is_some found)) so_far)
    where
      added : n + 1 ≡ suc n
      added = omega arith

      one_less : (a b : ℕ) → a + 1 ≡ suc b → a ≡ b
      one_less a b h = omega (arith, h)

      stood : (q : List ℕ) (p : Page) (path : List ℕ) (m : TextMap Page) → map.get (map.remove m path) q ≡ Some p → map.get m q ≡ Some p
      stood q p path m there = by (same_key q path) (sym (get_taken m path q) ∙ there)
        where
          by : (b : Bool) → cond b None (map.get m q) ≡ Some p → map.get m q ≡ Some p
          by true h = absurd (not_none p h)
          by false h = h

      back : (path : List ℕ) (page : Page) (m : TextMap Page) → map.get m path ≡ Some page → map.insert (map.remove m path) path page ≡ m
      back path page m found = map.same_map nat_list_cmp_total exact_bytes _ _ (λ q.
          get_set (map.remove m path) path page q ∙ ap (cond (same_key q path) (Some page)) (get_taken m path q)
          ∙ by q (same_key q path) refl)
        where
          by : (q : List ℕ) (b : Bool) → same_key q path ≡ b → cond b (Some page) (cond b None (map.get m q)) ≡ map.get m q
          by q true h = sym (ap (map.get m) (same_from q path h) ∙ found)
          by q false h = refl

      none_taken : (path : List ℕ) → ◌≡◌ {A = TextMap (List ℕ)} (map.remove map.empty path) map.empty
      none_taken path = map.same_map nat_list_cmp_total exact_bytes _ _ (λ q.
          get_taken map.empty path q ∙ ap (cond (same_key q path) None) (map.get-empty (slice_cmp nat_cmp) q) ∙ by (same_key q path)
          ∙ sym (map.get-empty (slice_cmp nat_cmp) q))
        where
          by : (b : Bool) → ◌≡◌ {A = Option (List ℕ)} (cond b None None) None
          by true = refl
          by false = refl

  -- ---- the aliases

  site_reached : (n : ℕ) (site : Site) → map.len site.aliases ≡ n → n ≤ alias_limit → map.len site.pages ≤ page_limit → IsSite site
      → AreShort site.pages → IsApart site media → Reached (at site (map.len site.pages + n))
  site_reached zero site e few small is short apart =
      subst Reached (λ i. at (record { pages = site.pages; aliases = sym (map.empty_of_len site.aliases e) i }) (none
      (map.len site.pages) i))
      (pages_reached (map.len site.pages) site.pages refl small short apart.pages)
    where
      none : (a : ℕ) → a ≡ a + 0
      none a = omega arith
  site_reached (suc n) site e few small is short apart =
      let (from, to, is_alias) = some_entry site.aliases n e in
      let (page, stands) = standing (map.get site.pages to) (is.lead from to is_alias) in
      let old = before site is from to page is_alias stands in
      let count : map.len old.aliases ≡ n = one_less (map.len old.aliases) n (sym (aliases_before site is from to page is_alias stands)
      ∙ e) in
      let same : map.len old.pages ≡ map.len site.pages = pages_before site is from to page is_alias stands in
      let again = aliases_again site is from to page is_alias stands in
      let so_far = site_reached n old count (omega arith) (subst (λ a. a ≤ page_limit) (sym same) small)
      (site_before site is from to page is_alias stands) (texts_before site is from to page is_alias stands short)
      (record {
        pages = set_clear media (map.remove site.pages to) from page (key_free media site.aliases from apart.aliases (ap is_some is_alias))
            (taken_clear media site.pages to apart.pages);
        aliases = mapped_clear media (goal_after to from) (map.remove site.aliases from)
            (taken_clear media site.aliases from apart.aliases);
      }) in
      let puts = map.len old.pages + n in
      let few_so_far : puts ≤ page_limit + alias_limit = sum_of (map.len old.pages) (map.len site.pages) n same small few in
      let free : (map.contains_key old.pages to || has_medium media to) ≡ false =
      neither (map.contains_key old.pages to) (has_medium media to) (ap is_some (free_there site is from to page is_alias stands))
      (stands_free media site to apart (ap is_some stands)) in
      let fine : may_move_beside media (store_of (at old puts)) from to ≡ Ok tt =
      move_fits_by (map.contains_key old.pages from) (map.contains_key old.pages to || has_medium media to)
      (nat_lt alias_limit (map.len (aliases_after old.aliases from to))) (nat_le put_limit puts)
      (ap is_some (page_there site is from to page is_alias stands)) free
      (ap (λ m. nat_lt alias_limit (map.len m)) again
      ∙ within (map.len site.aliases) alias_limit (subst (λ a. a ≤ alias_limit) (sym e) few))
      (still_few puts few_so_far) in
      subst Reached (λ i. at (record { pages = pages_again site is from to page is_alias stands i; aliases = again i })
      (counts (map.len old.pages) (map.len site.pages) n same i)) (move_more old puts from to fine so_far)
    where
      one_less : (a b : ℕ) → a + 1 ≡ suc b → a ≡ b
      one_less a b h = omega (arith, h)

      sum_of : (a b m : ℕ) → a ≡ b → b ≤ page_limit → suc m ≤ alias_limit → a + m ≤ page_limit + alias_limit
      sum_of a b m h small few = omega (arith, h, small, few)

      counts : (a b m : ℕ) → a ≡ b → a + m + 1 ≡ b + suc m
      counts a b m h = omega (arith, h)

  -- ---- the connection

  connects : nat_lt 0 last_id ≡ true
  unfolding last_id
  connects = refl

  abbrev with_connection : Site → ℕ → Connection → World
  with_connection site puts k = record (at site puts) { given = 1; connections = map.insert map.empty 1 k }

  connect_more : (site : Site) (puts : ℕ) → Reached (at site puts) → Reached (with_connection site puts new_connection)
  connect_more site puts so_far =
      let w = at site puts in
      let v = with_connection site puts new_connection in
      let id : ConnId = record { 0 = 1 } in
      one_more w v events.Connect (connecting (Ok id)) tt
      (Ok id, (λ i. if connects i then (v, Ok id) else (w, Err connect_errors.NoIds)), refl) so_far

  push_more : (site : Site) (puts : ℕ) (unread : List ℕ) → length unread ≤ backlog_limit
      → Reached (with_connection site puts new_connection) → Reached (with_connection site puts (open_with unread))
  push_more site puts unread short so_far =
      let w = with_connection site puts new_connection in
      let none : Connections = map.empty in
      let cs : Connections = map.insert none 1 new_connection in
      let room = ap (nat_lt backlog_limit) (none_before (length unread)) ∙ within (length unread) backlog_limit short in
      one_more w (with_connection site puts (open_with unread)) (push_on (record { 0 = 1 }) unread) (pushing (Ok tt)) tt (
        Ok tt,
        ap (λ (r : Connections × Result (Unit {0}) PushError). (record w { connections = r.0 }, r.1))
            (ap (pushed_at cs 1 unread) (is_set none 1 new_connection) ∙ gives cs 1 unread new_connection refl room
            ∙ (λ i. (set_twice none 1 new_connection (open_with unread) i, Ok tt))),
        refl,
      ) so_far
    where
      none_before : (n : ℕ) → 0 + n ≡ n
      none_before n = omega arith

pub fresh_is_made : FreshIsMade
fresh_is_made render site media token reader settings unread fine apart short =
    let readers = only_reader token reader in
    let puts = makings site in
    let all = push_more render readers settings media site puts unread short
    (connect_more render readers settings media site puts
    (site_reached render readers settings media (map.len site.aliases) site refl fine.aliases fine.pages fine.is_site fine.texts apart)) in
    record {
      run = all.run;
      making = all.making;
      runs = all.runs;
      left = few_puts puts (sum_within (map.len site.pages)
          (map.len site.aliases) fine.pages fine.aliases);
    }
