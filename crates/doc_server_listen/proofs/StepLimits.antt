-- The edit that a step tells is at paths of pages, of groups, and of a text that fits; so the record takes its line where there is room.
use Rattle.std.proofs.Common.{◌≡◌, ◌≤◌, ℕ, ◌+◌, List, [], ◌++◌, length, Bool, true, false, refl, ap, sym, subst, arith, length-append}
use Rattle.std.specs.Prelude.{Option, Some, None, IfSome, Result, Ok, Err, OnOk, is_err, nat_lt, option_map, option_to_list}
use Rattle.std.specs.Prelude.{if◌then◌else◌}
use Rattle.std.specs.FinMap as map
use Rattle.std.proofs.lemmas.Bool.Decides.{nat_tests}
use Rattle.doc_page_parts.specs.Paths.{is_path}
use Rattle.doc_page_parts.proofs.Bools.{and_second}
use Rattle.doc_store_readers.specs.Groups.{IsGroups}
use Rattle.doc_store_readers.specs.Pages.{Page}
use Rattle.doc_store.specs.Store.{StoreState, fits_in, set_page}
use Rattle.doc_store.specs.Store as store
use Rattle.doc_store.specs.declared.site_edit.SiteEdit.{SiteEdit}
use Rattle.doc_store.specs.declared.store.EditError.{EditError}
use Rattle.doc_store.specs.declared.store.EditError.TheVariants.{TooLong}
use Rattle.doc_hub.specs.Replies.{Renders}
use Rattle.doc_hub.specs.Edit.{Edit}
use Rattle.doc_hub.specs.Edit.TheVariants as edits
use Rattle.doc_hub.specs.Runs.{Happens}
use Rattle.doc_hub.specs.StepEdits.{Changes, StepTells}
use Rattle.doc_hub.specs.Worlds.{World, store_of}
use Rattle.doc_hub_events.specs.declared.event.ConnId.{ConnId}
use Rattle.doc_hub_events.specs.Events.{step_on}
use Rattle.doc_hub_events.specs.declared.event.Step.{Step}
use Rattle.doc_hub.proofs.ResponsePaths.{AtPaths}
use Rattle.doc_hub.proofs.StepEdits.{steps_change}
use Rattle.doc_hub.proofs.ToldPaths.{told_at_paths}
use Rattle.doc_server_journal_records.specs.Records.{IsPlain}
use Rattle.doc_server_script.specs.LineLengths.{IsWithin, longest_line}
use Rattle.doc_server_script.specs.PageLines.{line_of, lines_of}
use Rattle.doc_server_script.specs.PlainLines.{HasBytes}
use Rattle.doc_server_script.proofs.PlainLines.{both, line_is}
use Rattle.doc_server_script.proofs.LineLengths.{at_most, line_within}
use Rattle.doc_server_listen.specs.Edits.{IsRemoval, Kept, NamesGroups, TakesMore, edit_at, has_room, longest, room_beside}
use Rattle.doc_server_listen.proofs.Removals.{removal_within, tells_removals_alone}

-- ---- the edit that a step tells

-- a text that may be put is no longer than the store's limit
text_by : (text : List ℕ) (long : Bool) (rest : Result (Unit {0}) EditError) → nat_lt store.text_limit (length text) ≡ long
    → (if long then Err TooLong else rest) ≡ Ok tt → length text ≤ store.text_limit
text_by text true rest is fits = absurd (cc)
text_by text false rest is fits = grind (arith, nat_tests)

text_within : (state : StoreState) (path text : List ℕ) → fits_in state path text ≡ Ok tt → length text ≤ store.text_limit
text_within state path text fits = text_by text (nat_lt store.text_limit (length text)) _ refl fits

-- a page that stands then
put_within : (path : List ℕ) (page : Option Page) (put : Page) → page ≡ Some put → is_path path ≡ true → IsGroups put.groups
    → length put.text ≤ store.text_limit → IfSome (option_map (set_page path) page) IsWithin
put_within path page put stands one groups text =
    subst (λ found. IfSome (option_map (set_page path) found) IsWithin) (sym stands) (one, groups, text)

changed_within : (w v : World) (told : Option Edit) → Changes w told v → AtPaths told → IfSome told NamesGroups
    → IfSome (edit_at v told) IsWithin
changed_within w v None changes at groups = tt
changed_within w v (Some (edits.Put path names)) changes at groups =
    put_within path (map.get v.site.pages path) changes.page changes.stands at (subst IsGroups (sym changes.for_groups) groups)
    (text_within (store_of w) path changes.page.text changes.fits)
changed_within w v (Some (edits.Regroup path names)) changes at groups =
    put_within path (map.get v.site.pages path) (record changes.page { groups = names }) changes.stands at groups
    (text_within (store_of w) path changes.page.text changes.fits)
changed_within w v (Some (edits.Move from to)) changes at groups = at
changed_within w v (Some (edits.Remove path)) changes at groups = at

told_within : (render : Renders) (w v : World) (id : ConnId) (said : Step) (told : Option Edit)
    → Happens render w (step_on id) v (Ok said) → StepTells render w id.0 told → IfSome told NamesGroups
    → IfSome (edit_at v told) IsWithin
told_within render w v id said told h tells groups =
    changed_within w v told (steps_change.answered render w v id said told h tells)
    (told_at_paths render w told (map.get w.connections id.0) tells) groups

-- ---- its line

more_within : (edit : Option SiteEdit) → IfSome edit IsWithin → length (lines_of (option_to_list edit)) ≤ longest_line
more_within None within = omega arith
more_within (Some edit) within = omega (arith, length-append (line_of edit) [], line_within edit within)

few_more : (takes : Bool) (v : World) (told : Option Edit) → (takes ≡ false → IsRemoval told) → IfSome (edit_at v told) IsWithin
    → length (lines_of (option_to_list (edit_at v told))) ≤ longest takes
few_more true v told removal within = more_within (edit_at v told) within
few_more false v told removal within = removal_within v told (removal refl) within

beside : (whole : Bool) (lines : Option (List ℕ)) (most few : ℕ) (more : List ℕ) → room_beside whole lines most few ≡ true
    → length more ≤ few → IfSome lines (λ l. length l + length more ≤ most)
beside whole None most few more room le = tt
beside whole (Some lines) most few more room le = omega (arith, le, at_most (length lines + few) most (and_second _ _ room))

-- the record takes the line of the edit that a step tells, where there was room
pub told_fits : (render : Renders) (w v : World) (id : ConnId) (said : Step) (told : Option Edit) (kept : Kept)
    → Happens render w (step_on id) v (Ok said) → StepTells render w id.0 told → IfSome told NamesGroups
    → has_room kept w.takes_puts ≡ true → TakesMore kept (lines_of (option_to_list (edit_at v told)))
told_fits render w v id said told kept h tells groups room whole =
    beside kept.is_whole kept.lines kept.most (longest w.takes_puts) (lines_of (option_to_list (edit_at v told))) room
    (few_more w.takes_puts v told (λ off. tells_removals_alone render w id.0 told off tells)
    (told_within render w v id said told h tells groups))

-- the lines with these behind them
pub one_more_fits : {E : Type 0} (most : ℕ) (before after more : List ℕ) (said : Result (Unit {0}) E)
    → length before + length more ≤ most → is_err said ≡ false → OnOk said (after ≡ before ++ more) → length after ≤ most
one_more_fits most before after more (Ok done) room fine is = omega (arith, room, ap length is, length-append before more)
one_more_fits most before after more (Err e) room fine is = absurd (cc)

-- and they are plain
edit_plain : (edit : Option SiteEdit) → IfSome edit HasBytes → IsPlain (lines_of (option_to_list edit))
edit_plain None has = refl
edit_plain (Some edit) has = both (line_of edit) [] (line_is edit has) refl

pub one_more_plain : {E : Type 0} (before after : List ℕ) (edit : Option SiteEdit) (said : Result (Unit {0}) E)
    → IsPlain before → IfSome edit HasBytes → is_err said ≡ false
    → OnOk said (after ≡ before ++ lines_of (option_to_list edit)) → IsPlain after
one_more_plain before after edit (Ok done) plain has fine is =
    subst IsPlain (sym is) (both before (lines_of (option_to_list edit)) plain (edit_plain edit has))
one_more_plain before after edit (Err e) plain has fine is = absurd (cc)
