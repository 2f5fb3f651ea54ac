-- What is made of a store is made of one of the same site with fewer puts, with the same effect, and as many fewer are left.
use Rattle.std.proofs.Common.{◌≡◌, ◌≤◌, ◌+◌, ℕ, List, [], ◌∷◌, Bool, true, false, length, refl, ap, sym, subst, ◌∙◌, arith}
use Rattle.std.specs.Prelude.{nat_le, nat_lt, not, ◌&&◌, ◌||◌, Option, Some, None, option_map, Result, Ok, Err, if◌then◌else◌}
use Rattle.std.specs.FinMap as map
use Rattle.std.specs.Option.{ok_or}
use Rattle.std.proofs.lemmas.Bool.Decides.{nat_tests}
use Rattle.doc_page_parts.proofs.Results.{err_not_ok, ok_injective}
use Rattle.doc_store_readers.proofs.KeySteps.{not_none, some_is}
use Rattle.doc_store_readers.specs.Maps.{TextMap}
use Rattle.doc_store_readers.specs.Pages.{Page}
use Rattle.doc_store_readers.specs.Sites.{Site}
use Rattle.doc_store.specs.Store.{StoreState, alias_limit, aliases_after, effect_of, fits, move_fits, moved_by, page_limit, put_by}
use Rattle.doc_store.specs.Store.{put_limit, remove_page, text_limit, with_move, with_page}
use Rattle.doc_store.specs.declared.moving.MoveError.{MoveError}
use Rattle.doc_store.specs.declared.moving.MoveError.TheVariants as move_errors
use Rattle.doc_store.specs.declared.site_edit.SiteEdit.{SiteEdit}
use Rattle.doc_store.specs.declared.site_edit.SiteEdit.TheVariants as site_edits
use Rattle.doc_store.specs.declared.store.EditError.{EditError}
use Rattle.doc_store.specs.declared.store.EditError.TheVariants.{Taken, TooLong, StoreFull}
use Rattle.doc_media.specs.Media.{Media}
use Rattle.doc_hub.specs.Worlds.{has_medium, may_move_beside, may_put}
use Rattle.doc_server_script.specs.Replays.{unless_refused}
use Rattle.doc_server_restore.specs.declared.fault.RestoreFault.{RestoreFault}
use Rattle.doc_server_restore.specs.declared.fault.RestoreFault.TheVariants as faults
use Rattle.doc_server_restore.specs.Restores.{after_record, all_made, edits_of, made, refused_from, restored_from, unstamped}
use Rattle.doc_server_restore.proofs.RecordSteps.{as_onto, onto}

-- ---- the tests of a store

not_full : (limit a b d : ℕ) → a + d ≡ b → nat_le limit b ≡ false → nat_le limit a ≡ false
not_full limit a b d less is = grind (arith, nat_tests)

abbrev unless_full : Bool → Result (Unit {0}) EditError
unless_full full = if full then Err StoreFull else Ok tt

put_by_tests : (long crowded full less : Bool) → (full ≡ false → less ≡ false)
    → ◌≡◌ {A = Result (Unit {0}) EditError} (if long then Err TooLong else (if crowded || full then Err StoreFull else Ok tt)) (Ok tt)
    → ◌≡◌ {A = Result (Unit {0}) EditError} (if long then Err TooLong else (if crowded || less then Err StoreFull else Ok tt)) (Ok tt)
put_by_tests true crowded full less fewer is = is
put_by_tests false true full less fewer is = is
put_by_tests false false true less fewer is = absurd (err_not_ok StoreFull tt is)
put_by_tests false false false less fewer is = ap unless_full (fewer refl)

abbrev moves_unless_full : Bool → Result (Unit {0}) MoveError
moves_unless_full full = if full then Err move_errors.StoreFull else Ok tt

move_by_tests : (stands taken crowded full less : Bool) → (full ≡ false → less ≡ false)
    → ◌≡◌ {A = Result (Unit {0}) MoveError} (if not stands then Err move_errors.NoPage
    else (if taken then Err move_errors.Taken else (if crowded || full then Err move_errors.StoreFull else Ok tt)))
    (Ok tt)
    → ◌≡◌ {A = Result (Unit {0}) MoveError} (if not stands then Err move_errors.NoPage
    else (if taken then Err move_errors.Taken else (if crowded || less then Err move_errors.StoreFull else Ok tt)))
    (Ok tt)
move_by_tests false taken crowded full less fewer is = is
move_by_tests true true crowded full less fewer is = is
move_by_tests true false true full less fewer is = is
move_by_tests true false false true less fewer is = absurd (err_not_ok move_errors.StoreFull tt is)
move_by_tests true false false false less fewer is = ap moves_unless_full (fewer refl)

-- ---- two stores of one site

-- a store with the same site as another, and so many puts fewer
pub record IsLess (d : ℕ) (less more : StoreState) : Type 0 where
  pub site : less.site ≡ more.site
  pub puts : less.puts + d ≡ more.puts

-- such a store is made
abbrev pub Comes : ℕ → StoreState → Option StoreState → Type 0
Comes d t found = (r : StoreState) × (found ≡ Some r) × IsLess d r t

abbrev After : {X E : Type 0} → StoreState × Result X E → Option StoreState
After given = option_map unstamped (unless_refused given.0 given.1)

one_more : (a b d : ℕ) → a + d ≡ b → a + 1 + d ≡ b + 1
one_more a b d less = omega (arith, less)

module _ (site : Site) (stamps others : TextMap ℕ) (a b d : ℕ) (less : a + d ≡ b) where
  abbrev lesser : StoreState
  lesser = record { site = site; stamps = others; puts = a }

  abbrev greater : StoreState
  greater = record { site = site; stamps = stamps; puts = b }

  may_less : (medium : Bool) (pages : ℕ) (stands : Bool) (text : List ℕ)
      → ◌≡◌ {A = Result (Unit {0}) EditError} (if medium then Err Taken else fits pages stands b text) (Ok tt)
      → ◌≡◌ {A = Result (Unit {0}) EditError} (if medium then Err Taken else fits pages stands a text) (Ok tt)
  may_less true pages stands text is = is
  may_less false pages stands text is =
      put_by_tests (nat_lt text_limit (length text)) (not stands && nat_le page_limit pages) (nat_le put_limit b) (nat_le put_limit a)
      (not_full put_limit a b d less) is

  put_comes : (medium : Bool) (path : List ℕ) (page : Page) (t : StoreState) (stands : Bool) (said : Result (Unit {0}) EditError)
      → ◌≡◌ {A = Result (Unit {0}) EditError} (if medium then Err Taken else fits (map.len site.pages) stands b page.text) said
      → After (put_by greater path page stands said) ≡ Some t
      → Comes d t (After (put_by lesser path page stands (if medium then Err Taken else fits (map.len site.pages) stands a page.text)))
  put_comes medium path page t stands (Err e) fine is = absurd (not_none t is)
  put_comes medium path page t stands (Ok done) fine is =
      let same : unstamped (with_page greater path page) ≡ t = some_is (unstamped (with_page greater path page)) t is in (
        unstamped (with_page lesser path page),
        ap (λ said. After (put_by lesser path page stands said)) (may_less medium (map.len site.pages) stands page.text fine),
        record {
          site = ap (λ (s : StoreState). s.site) same;
          puts = one_more a b d less ∙ ap (λ (s : StoreState). s.puts) same;
        },
      )

  move_comes : (from to : List ℕ) (t : StoreState) (stands taken : Bool) (aliases : ℕ) (said : Result (Unit {0}) MoveError)
      → move_fits stands taken aliases b ≡ said → After (moved_by greater from to said) ≡ Some t
      → Comes d t (After (moved_by lesser from to (move_fits stands taken aliases a)))
  move_comes from to t stands taken aliases (Err e) fine is = absurd (not_none t is)
  move_comes from to t stands taken aliases (Ok done) fine is =
      let same : unstamped (with_move greater from to) ≡ t = some_is (unstamped (with_move greater from to)) t is in (
        unstamped (with_move lesser from to),
        ap (λ said. After (moved_by lesser from to said))
            (move_by_tests stands taken (nat_lt alias_limit aliases) (nat_le put_limit b) (nat_le put_limit a)
            (not_full put_limit a b d less) fine),
        record {
          site = ap (λ (s : StoreState). s.site) same;
          puts = one_more a b d less ∙ ap (λ (s : StoreState). s.puts) same;
        },
      )

  abbrev removed : StoreState → List ℕ → Bool → StoreState
  removed store path stands =
      if stands then record { site = effect_of store.site (remove_page path); stamps = map.remove store.stamps path; puts = store.puts }
      else store

  removal_comes : (path : List ℕ) (t : StoreState) (stands : Bool) → Some (unstamped (removed greater path stands)) ≡ Some t
      → Comes d t (Some (unstamped (removed lesser path stands)))
  removal_comes path t true is =
      let same : unstamped (removed greater path true) ≡ t = some_is (unstamped (removed greater path true)) t is in (
        unstamped (removed lesser path true),
        refl,
        record { site = ap (λ (s : StoreState). s.site) same; puts = less ∙ ap (λ (s : StoreState). s.puts) same },
      )
  removal_comes path t false is =
      let same : unstamped greater ≡ t = some_is (unstamped greater) t is in (
        unstamped lesser,
        refl,
        record { site = ap (λ (s : StoreState). s.site) same; puts = less ∙ ap (λ (s : StoreState). s.puts) same },
      )

  edit_comes : (media : Media) (edit : SiteEdit) (t : StoreState) → made media greater edit ≡ Some t → Comes d t (made media lesser edit)
  edit_comes media (site_edits.Put path groups text) t is =
      let page : Page = record { groups = groups; text = text } in
      let stands : Bool = map.contains_key site.pages path in
      let medium : Bool = has_medium media path in
      put_comes medium path page t stands (if medium then Err Taken else fits (map.len site.pages) stands b text) refl is
  edit_comes media (site_edits.Remove path) t is = removal_comes path t (map.contains_key site.pages path) is
  edit_comes media (site_edits.Move from to) t is =
      let stands : Bool = map.contains_key site.pages from in
      let taken : Bool = map.contains_key site.pages to || has_medium media to in
      let aliases : ℕ = map.len (aliases_after site.aliases from to) in
      move_comes from to t stands taken aliases (move_fits stands taken aliases b) refl is

-- ---- edits and records, one after the other

module _ (media : Media) (d : ℕ) where
  one_with_less : (u s t : StoreState) (edit : SiteEdit) → IsLess d s u → made media u edit ≡ Some t → Comes d t (made media s edit)
  one_with_less u s t edit below is =
      subst (λ (site : Site). Comes d t (made media (record { site = site; stamps = s.stamps; puts = s.puts }) edit)) (sym below.site)
      (edit_comes u.site u.stamps s.stamps s.puts u.puts d below.puts media edit t is)

  abbrev behind : List SiteEdit → Option StoreState → Option StoreState
  behind edits found = elim found [ None ↦ None | Some next ↦ all_made media next edits ]

  pub all_with_less : (edits : List SiteEdit) (u s t : StoreState) → IsLess d s u → all_made media u edits ≡ Some t
      → Comes d t (all_made media s edits)
  all_with_less [] u s t below is = (s, refl, subst (IsLess d s) (some_is u t is) below)
  all_with_less (edit ∷ edits) u s t below is =
      by (made media u edit) refl (λ mid next less more. all_with_less edits mid next t less more) is
    where
      by : (found : Option StoreState) → made media u edit ≡ found
          → ((mid next : StoreState) → IsLess d next mid → all_made media mid edits ≡ Some t → Comes d t (all_made media next edits))
          → behind edits found ≡ Some t → Comes d t (all_made media s (edit ∷ edits))
      by None one each more = absurd (not_none t more)
      by (Some mid) one each more =
          let (next, made_so, less) = one_with_less u s mid edit below one in
          let (last, all, there) = each mid next less more in
          (last, ap (behind edits) made_so ∙ all, there)

  -- a store that is restored
  abbrev pub ComesOk : StoreState → Result StoreState RestoreFault → Type 0
  ComesOk t found = (r : StoreState) × (found ≡ Ok r) × IsLess d r t

  record_with_less : (n : ℕ) (found : Option (List SiteEdit)) (u s t : StoreState) → IsLess d s u → after_record media u n found ≡ Ok t
      → ComesOk t (after_record media s n found)
  record_with_less n None u s t below is = absurd (err_not_ok (faults.BadRecord n) t is)
  record_with_less n (Some edits) u s t below is = by (all_made media u edits) refl is
    where
      by : (found : Option StoreState) → all_made media u edits ≡ found
          → ok_or found (faults.Refused n (refused_from media 1 u edits)) ≡ Ok t → ComesOk t (after_record media s n (Some edits))
      by None one more = absurd (err_not_ok (faults.Refused n (refused_from media 1 u edits)) t more)
      by (Some mid) one more =
          let (next, all, less) = all_with_less edits u s mid below one in (
            next,
            ap (λ o. ok_or o (faults.Refused n (refused_from media 1 s edits))) all,
            subst (IsLess d next) (ok_injective {E = RestoreFault} mid t more) less,
          )

  pub records_with_less : (texts : List (List ℕ)) (n : ℕ) (u s t : StoreState) → IsLess d s u → restored_from media n u texts ≡ Ok t
      → ComesOk t (restored_from media n s texts)
  records_with_less [] n u s t below is = (s, refl, subst (IsLess d s) (ok_injective {E = RestoreFault} u t is) below)
  records_with_less (text ∷ texts) n u s t below is =
      by (after_record media u n (edits_of text)) refl (λ mid next less more. records_with_less texts (n + 1) mid next t less more)
      (sym (as_onto media n u text texts (after_record media u n (edits_of text)) refl) ∙ is)
    where
      by : (found : Result StoreState RestoreFault) → after_record media u n (edits_of text) ≡ found
          → ((mid next : StoreState) → IsLess d next mid → restored_from media (n + 1) mid texts ≡ Ok t
          → ComesOk t (restored_from media (n + 1) next texts))
          → onto media n texts found ≡ Ok t → ComesOk t (restored_from media n s (text ∷ texts))
      by (Err fault) one each more = absurd (err_not_ok fault t more)
      by (Ok mid) one each more =
          let (next, record_so, less) = record_with_less n (edits_of text) u s mid below one in
          let (last, all, there) = each mid next less more in
          (last, as_onto media n s text texts (Ok next) record_so ∙ all, there)

-- ---- puts don't get fewer

same_or_more : (a b c : ℕ) → b ≡ c → a ≤ b → a ≤ c
same_or_more a b c same less = omega (arith, same, less)

and_more : (a b c : ℕ) → a ≤ b → b ≤ c → a ≤ c
and_more a b c first second = omega (arith, first, second)

itself : (a : ℕ) → a ≤ a
itself a = omega arith

next_put : (a : ℕ) → a ≤ a + 1
next_put a = omega arith

put_counts : (s t : StoreState) (path : List ℕ) (page : Page) (stands : Bool) (said : Result (Unit {0}) EditError)
    → After (put_by s path page stands said) ≡ Some t → s.puts ≤ t.puts
put_counts s t path page stands (Err e) is = absurd (not_none t is)
put_counts s t path page stands (Ok done) is =
    same_or_more s.puts (s.puts + 1) t.puts (ap (λ (x : StoreState). x.puts) (some_is (unstamped (with_page s path page)) t is))
    (next_put s.puts)

removal_counts : (s t : StoreState) (path : List ℕ) (stands : Bool) → Some (unstamped (if stands then (record {
  site = effect_of s.site (remove_page path);
  stamps = map.remove s.stamps path;
  puts = s.puts;
}) else s)) ≡ Some t → s.puts ≤ t.puts
removal_counts s t path true is = same_or_more s.puts s.puts t.puts (ap (λ (x : StoreState). x.puts) (some_is _ t is)) (itself s.puts)
removal_counts s t path false is = same_or_more s.puts s.puts t.puts (ap (λ (x : StoreState). x.puts) (some_is _ t is)) (itself s.puts)

move_counts : (s t : StoreState) (from to : List ℕ) (said : Result (Unit {0}) MoveError) → After (moved_by s from to said) ≡ Some t
    → s.puts ≤ t.puts
move_counts s t from to (Err e) is = absurd (not_none t is)
move_counts s t from to (Ok done) is =
    same_or_more s.puts (s.puts + 1) t.puts (ap (λ (x : StoreState). x.puts) (some_is (unstamped (with_move s from to)) t is))
    (next_put s.puts)

module _ (media : Media) where
  one_counts : (s t : StoreState) (edit : SiteEdit) → made media s edit ≡ Some t → s.puts ≤ t.puts
  one_counts s t (site_edits.Put path groups text) is =
      put_counts s t path (record { groups = groups; text = text }) (map.contains_key s.site.pages path) (may_put media s path text) is
  one_counts s t (site_edits.Remove path) is = removal_counts s t path (map.contains_key s.site.pages path) is
  one_counts s t (site_edits.Move from to) is = move_counts s t from to (may_move_beside media s from to) is

  pub all_count : (edits : List SiteEdit) (s t : StoreState) → all_made media s edits ≡ Some t → s.puts ≤ t.puts
  all_count [] s t is = same_or_more s.puts s.puts t.puts (ap (λ (x : StoreState). x.puts) (some_is s t is)) (itself s.puts)
  all_count (edit ∷ edits) s t is = by (made media s edit) refl (λ mid more. all_count edits mid t more) is
    where
      by : (found : Option StoreState) → made media s edit ≡ found
          → ((mid : StoreState) → all_made media mid edits ≡ Some t → mid.puts ≤ t.puts)
          → ◌≡◌ {A = Option StoreState} (elim found [ None ↦ None | Some mid ↦ all_made media mid edits ]) (Some t) → s.puts ≤ t.puts
      by None one each more = absurd (not_none t more)
      by (Some mid) one each more = and_more s.puts mid.puts t.puts (one_counts s mid edit one) (each mid more)
