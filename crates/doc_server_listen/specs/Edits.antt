-- The edits of a run, and their lines.
use Rattle.std.specs.Prelude.{◌≡◌, ◌≤◌, ⊤, ℕ, ◌+◌, ◌*◌, List, [], ◌∷◌, ◌++◌, length, Bool, true, false, ◌&&◌, nat_le, Option, Some, None}
use Rattle.std.specs.Prelude.{IfSome, option_map, option_to_list}
use Rattle.std.specs.FinMap as map
use Rattle.std.specs.List.{flat_map}
use Rattle.doc_store_readers.specs.Groups.{IsGroups}
use Rattle.doc_store.specs.Store.{move_page, set_page, remove_page}
use Rattle.doc_store.specs.declared.site_edit.SiteEdit.{SiteEdit}
use Rattle.doc_hub.specs.EditLaws.{Makes}
use Rattle.doc_hub.specs.Replies.{Renders}
use Rattle.doc_hub.specs.Runs.{Happened}
use Rattle.doc_hub.specs.StepEdits.{StepTells}
use Rattle.doc_hub.specs.Worlds.{World}
use Rattle.doc_hub.specs.Edit.{Edit}
use Rattle.doc_hub.specs.Edit.TheVariants as edits
use Rattle.doc_hub_events.specs.declared.event.Event.{Event}
use Rattle.doc_hub_events.specs.declared.event.ConnectionEvent.TheVariants as calls
use Rattle.doc_hub_events.specs.declared.event.Event.TheVariants as events
use Rattle.doc_hub_events.specs.declared.outcome.Outcome.{Outcome}
use Rattle.doc_hub_events.specs.declared.outcome.Outcome.TheVariants as outcomes
use Rattle.doc_server_journal_records.specs.Records.{IsPlain, text_limit}
use Rattle.doc_server_script.specs.LineLengths.{longest_line, path_limit}
use Rattle.doc_server_script.specs.PageLines.{lines_of}

-- the lines of edits, where they are kept, whether none is missing, and how many bytes of lines the record of the turn takes
pub record Kept : Type 0 where
  pub lines : Option (List ℕ)
  pub is_whole : Bool
  pub most : ℕ

-- where none is missing, the record takes the lines
abbrev pub FitsRecord : Kept → Type 0
FitsRecord kept =
    (kept.most ≤ text_limit) × (kept.is_whole ≡ true → IfSome kept.lines (λ lines. (length lines ≤ kept.most) × IsPlain lines))

-- The longest line of a removal: `remove `, a path, each byte of which is written with four at most, and the line feed.
unfoldable pub longest_removal : ℕ
longest_removal = 7 + (4 * path_limit + 1)

-- the longest line of one more edit: where no puts are taken only removals come
abbrev pub longest : Bool → ℕ
longest true = longest_line
longest false = longest_removal

abbrev pub room_beside : Bool → Option (List ℕ) → ℕ → ℕ → Bool
room_beside is_whole None most more = true
room_beside is_whole (Some lines) most more = is_whole && nat_le (length lines + more) most

-- Whether one more edit may be made, by whether puts are taken: where lines are kept none is missing, and the record takes the longest line
-- beside them.
abbrev pub has_room : Kept → Bool → Bool
has_room kept takes_puts = room_beside kept.is_whole kept.lines kept.most (longest takes_puts)

-- the record takes these lines, too
abbrev pub TakesMore : Kept → List ℕ → Type 0
TakesMore kept more = kept.is_whole ≡ true → IfSome kept.lines (λ lines. length lines + length more ≤ kept.most)

-- the edit that a step tells, with the page that stands under the path in the world behind it
abbrev pub edit_at : World → Option Edit → Option SiteEdit
edit_at v None = None
edit_at v (Some (edits.Put path groups)) = option_map (set_page path) (map.get v.site.pages path)
edit_at v (Some (edits.Regroup path groups)) = option_map (set_page path) (map.get v.site.pages path)
edit_at v (Some (edits.Move from to)) = Some (move_page from to)
edit_at v (Some (edits.Remove path)) = Some (remove_page path)

-- the groups that an edit names are groups
abbrev pub NamesGroups : Edit → Type 0
NamesGroups (edits.Put path groups) = IsGroups groups
NamesGroups (edits.Regroup path groups) = IsGroups groups
NamesGroups edit = ⊤

-- the edit that an event makes which leaves this world: a step that which it tells
abbrev pub MakesIn : Renders → World → Event → Outcome → World → Option SiteEdit → Type 0
MakesIn render w (events.On id calls.Step) (outcomes.Stepped said) v edit = (told : Option Edit) × StepTells render w id.0 told
    × (edit ≡ edit_at v told)
MakesIn render w event outcome v edit = Makes render w event outcome edit

-- the world that an event left, by those that follow it, and the last
abbrev pub left_by : List Happened → World → World
left_by [] v = v
left_by (h ∷ run) v = h.world

-- the edits of a run that leaves this world, one or none for each of its events
abbrev pub AreMade : Renders → List Happened → World → List (Option SiteEdit) → Type 0
AreMade render [] v [] = ⊤
AreMade render (h ∷ run) v (edit ∷ edits) = MakesIn render h.world h.event h.outcome (left_by run v) edit × AreMade render run v edits
AreMade render run v edits = ⊥

-- those that were made
abbrev pub accepted : List (Option SiteEdit) → List SiteEdit
accepted edits = flat_map option_to_list edits

-- The record takes as much as before. Where none is missing now, none was missing before, and the lines of these edits stand behind those
-- before.
abbrev pub Adds : Kept → Kept → List SiteEdit → Type 0
Adds old new edits =
    (new.most ≡ old.most)
    × (new.is_whole ≡ true → (old.is_whole ≡ true) × (new.lines ≡ option_map (λ lines. lines ++ lines_of edits) old.lines))

-- an event that makes no edit, whatever comes of it
abbrev pub IsQuiet : Event → Type 0
IsQuiet (events.On id calls.Step) = ⊥
IsQuiet (events.On id call) = ⊤
IsQuiet event = ⊥

abbrev pub AreQuiet : List Happened → Type 0
AreQuiet [] = ⊤
AreQuiet (h ∷ run) = IsQuiet h.event × AreQuiet run

-- ---- where no puts are taken

-- no edit, or a removal
abbrev pub IsRemoval : Option Edit → Type 0
IsRemoval None = ⊤
IsRemoval (Some (edits.Remove path)) = ⊤
IsRemoval (Some edit) = ⊥

-- a step tells removals alone
abbrev pub TellsRemovalsAlone : Type 0
TellsRemovalsAlone = (render : Renders) (w : World) (id : ℕ) (told : Option Edit) → w.takes_puts ≡ false → StepTells render w id told
    → IsRemoval told
