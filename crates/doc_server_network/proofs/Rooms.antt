-- The room that lines leave.
use Rattle.std.proofs.Common.{◌≡◌, ◌≤◌, ◌+◌, ◌-◌, ◌*◌, ℕ, List, [], ◌∷◌, ◌++◌, length, min, Bool, true, false, refl, sym, subst, ◌∙◌, ap}
use Rattle.std.proofs.Common.{arith, append-nil, length-append, T}
use Rattle.std.specs.Prelude.{nat_le, not, ◌&&◌, ◌||◌, Option, Some, None, option_to_list}
use Rattle.std.proofs.lemmas.Bool.Decides.{nat_tests}
use Rattle.doc_store.specs.Store as store
use Rattle.doc_store.specs.Store.{page_limit}
use Rattle.doc_store.specs.declared.site_edit.SiteEdit.{SiteEdit}
use Rattle.doc_hub.specs.Worlds.{World}
use Rattle.doc_server_journal.specs.Journals.{record_beside}
use Rattle.doc_server_journal_records.specs.Records.{text_limit}
use Rattle.doc_server_journal.specs.declared.journal.Journal.{Journal}
use Rattle.doc_server_script.specs.LineLengths.{longest_line}
use Rattle.doc_server_script.specs.PageLines.{lines_of}
use Rattle.doc_server_listen.specs.Counting.{Counts, count_in}
use Rattle.doc_server_listen.specs.Edits.{Kept, has_room, longest, longest_removal, room_beside}
use Rattle.doc_server_settling.specs.Reserves.{HasRoomFor, removal_most, reserve, used}
use Rattle.doc_server_network.specs.Saved.{no_lines, takes_step}

yes : (n m : ℕ) → n ≤ m → nat_le n m ≡ true
yes n m le = grind (arith, nat_tests)

at_most : (n m : ℕ) → nat_le n m ≡ true → n ≤ m
at_most n m t = grind (arith, nat_tests)

used_at_most : (text : List ℕ) → used text ≤ length text + record_beside
used_at_most [] = omega arith
used_at_most (b ∷ text) = omega arith

used_at_least : (text : List ℕ) → length text ≤ used text
used_at_least [] = omega arith
used_at_least (b ∷ text) = omega arith

pub used_of_some : (text : List ℕ) → (text ≡ [] → ⊥) → used text ≡ length text + record_beside
used_of_some [] some = absurd (some refl)
used_of_some (b ∷ text) some = refl

-- ---- what a step leaves

reserved : (room count : ℕ) (text : List ℕ) → length text ≤ text_limit → count ≤ page_limit → reserve ≤ room
    → (count + 1) * removal_most + used text ≤ room
unfolding longest_removal reserve text_limit page_limit
reserved room count text fits limit enough = omega (arith, fits, limit, enough, used_at_most text)

module _ (room : ℕ) (w v : World) (lines : List ℕ) where
  removed : (edit : Option SiteEdit) → count_in v + length (option_to_list edit) ≡ count_in w
      → length (lines_of (option_to_list edit)) ≤ longest_removal * length (option_to_list edit)
      → (count_in w + 1) * removal_most + used lines ≤ room
      → (count_in v + 1) * removal_most + used (lines ++ lines_of (option_to_list edit)) ≤ room
  unfolding longest_removal
  removed None removes short enough =
      subst (λ l. (count_in v + 1) * removal_most + used l ≤ room) (sym (append-nil lines)) (omega (arith, removes, enough))
  removed (Some edit) removes short enough =
      omega (
        arith,
        removes,
        short,
        enough,
        used_at_least lines,
        used_at_most (lines ++ lines_of (edit ∷ [])),
        length-append lines (lines_of (edit ∷ [])),
      )

  shorter : (text : List ℕ) → length (lines ++ text) ≤ text_limit → length lines ≤ text_limit
  shorter text fits = omega (arith, fits, length-append lines text)

  -- behind a step there is room as before it
  pub leaves : (edit : Option SiteEdit) → Counts w v (option_to_list edit) → count_in w ≤ page_limit
      → (w.takes_puts ≡ true → reserve ≤ room)
      → (length lines ≤ text_limit → (count_in w + 1) * removal_most + used lines ≤ room)
      → length (lines ++ lines_of (option_to_list edit)) ≤ text_limit
      → (count_in v + 1) * removal_most + used (lines ++ lines_of (option_to_list edit)) ≤ room
  leaves edit counts limit keeps enough fits = by w.takes_puts refl
    where
      by : (t : Bool) → w.takes_puts ≡ t → (count_in v + 1) * removal_most + used (lines ++ lines_of (option_to_list edit)) ≤ room
      by true on = reserved room (count_in v) (lines ++ lines_of (option_to_list edit)) fits (counts.limit limit) (keeps on)
      by false off = removed edit (counts.removes off) (counts.short off) (enough (shorter (lines_of (option_to_list edit)) fits))

-- ---- what the next record takes

module _ (most : ℕ) (w v : World) (lines : List ℕ) where
  one_fewer : (edit : Option SiteEdit) → count_in v + length (option_to_list edit) ≡ count_in w
      → length (lines_of (option_to_list edit)) ≤ longest_removal * length (option_to_list edit)
      → length lines + (count_in w + 1) * longest_removal ≤ most
      → length (lines ++ lines_of (option_to_list edit)) + (count_in v + 1) * longest_removal ≤ most
  unfolding longest_removal
  one_fewer None removes short more = omega (arith, removes, more, length-append lines (lines_of []))
  one_fewer (Some edit) removes short more = omega (arith, removes, short, more, length-append lines (lines_of (edit ∷ [])))

  -- while no puts are taken each step removes a page, if it makes an edit
  pub takes_more : (edit : Option SiteEdit) → Counts w v (option_to_list edit)
      → (w.takes_puts ≡ false → length lines + (count_in w + 1) * longest_removal ≤ most) → v.takes_puts ≡ false
      → length (lines ++ lines_of (option_to_list edit)) + (count_in v + 1) * longest_removal ≤ most
  takes_more edit counts more off =
      let before = sym counts.taking ∙ off in one_fewer edit (counts.removes before) (counts.short before) (more before)

-- where there is room for the removal of each page, the first record takes them, and one more
pub first_lines : (room : ℕ) (w : World) → count_in w ≤ page_limit → (count_in w + 1) * removal_most ≤ room
    → 0 + (count_in w + 1) * longest_removal ≤ min (room - record_beside) text_limit
unfolding longest_removal text_limit page_limit
first_lines room w limit enough = omega (arith, limit, enough)

-- ---- whether a step may be made

first : (a b : Bool) → (a && b) ≡ true → a ≡ true
first true b is = refl
first false b is = is

unless : (a b : Bool) → (not a || b) ≡ true → a ≡ true → b ≡ true
unless true b is on = is
unless false b is on = absurd (subst T (sym on) tt)

module _ {D : Type 0} (journal : Journal D) where
  pub keeps_reserve : (unsaved : Kept) (takes : Bool) → takes_step (Some journal) unsaved takes ≡ true → takes ≡ true
      → reserve ≤ journal.room
  keeps_reserve unsaved takes may on =
      at_most reserve journal.room
      (unless takes (nat_le reserve journal.room) (first (not takes || nat_le reserve journal.room) (has_room unsaved takes) may) on)

line_fits : (room : ℕ) → reserve ≤ room → longest_line ≤ min (room - record_beside) text_limit
unfolding reserve longest_line text_limit store.text_limit
line_fits room le = omega (arith, le)

removal_fits : (room count : ℕ) → (count + 1) * removal_most ≤ room → longest_removal ≤ min (room - record_beside) text_limit
unfolding longest_removal text_limit
removal_fits room count le = omega (arith, le)

both : (a b : Bool) → a ≡ true → b ≡ true → (a && b) ≡ true
both a b one two = subst (λ t. (t && b) ≡ true) (sym one) two

-- where there is room for what may come, so there is for a step
pub first_step : {D : Type 0} (journal : Journal D) (w : World) → HasRoomFor journal.room w
    → takes_step (Some journal) (no_lines journal.room) w.takes_puts ≡ true
first_step journal w (enough, kept) = by w.takes_puts refl
  where
    by : (t : Bool) → w.takes_puts ≡ t → takes_step (Some journal) (no_lines journal.room) t ≡ true
    by true on =
        both (nat_le reserve journal.room) (has_room (no_lines journal.room) true) (yes reserve journal.room (kept on))
        (yes (0 + longest true) (min (journal.room - record_beside) text_limit) (omega (arith, line_fits journal.room (kept on))))
    by false off =
        yes (0 + longest false) (min (journal.room - record_beside) text_limit)
        (omega (arith, removal_fits journal.room (count_in w) enough.1))

-- ---- while no puts are taken

module _ (count : ℕ) where
  one_more : (n most : ℕ) → n + (count + 1) * longest_removal ≤ most → n + longest_removal ≤ most
  unfolding longest_removal
  one_more n most le = omega (arith, le)

-- the next record takes the line of one removal more
pub removal_may_come : {D : Type 0} (journal : Journal D) (unsaved : Kept) (count : ℕ) (lines : List ℕ) → unsaved.is_whole ≡ true
    → unsaved.lines ≡ Some lines → length lines + (count + 1) * longest_removal ≤ unsaved.most
    → takes_step (Some journal) unsaved false ≡ true
removal_may_come journal unsaved count lines whole kept more =
    ap (λ o. room_beside unsaved.is_whole o unsaved.most longest_removal) kept
    ∙ both unsaved.is_whole (nat_le (length lines + longest_removal) unsaved.most) whole
    (yes (length lines + longest_removal) unsaved.most (one_more count (length lines) unsaved.most more))
