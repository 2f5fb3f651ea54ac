-- The lines of edits, read.
use Rattle.std.proofs.Common.{◌≡◌, ℕ, ◌+◌, ◌==◌, List, [], ◌∷◌, ◌++◌, Bool, true, false, cond, ◌&&◌, T, refl, ap, sym, subst, ◌∙◌}
use Rattle.std.proofs.Common.{nat_lt, ◌<◌, slice_index_or}
use Rattle.std.proofs.lemmas.Bool.Decides.{nat_tests}
use Rattle.std.proofs.Common.{arith, append-nil}
use Rattle.std.specs.Prelude.{Option, Some, None, option_and_then, Result, Ok, Err}
use Rattle.std.specs.List.{list_all}
use Rattle.std.specs.Result.{result_ok}
use Rattle.std.proofs.lemmas.List.{append_assoc}
use Rattle.std.proofs.lemmas.List.Sums.{AllPass-from_list_all}
use Rattle.std.proofs.lemmas.Str.{IsUtf8-from_ascii, is_utf8-from_IsUtf8, IsAscii-append}
use Rattle.std.proofs.lemmas.Str.Ascii.{IsAscii-from_all, IsAscii-nil}
use Rattle.std.specs.Str.{IsAscii}
use Rattle.doc_server_streams.specs.declared.fault.Fault.{Fault}
use Rattle.doc_server_streams.specs.declared.fault.Fault.TheVariants as faults
use Rattle.doc_store.specs.declared.site_edit.SiteEdit.{SiteEdit}
use Rattle.doc_store.specs.declared.site_edit.SiteEdit.TheVariants as site_edits
use Rattle.doc_hub_events.specs.declared.event.Event.{Event}
use Rattle.doc_hub_events.specs.declared.event.Event.TheVariants as events
use Rattle.doc_server_script.specs.Edits.{put_line, remove_line, move_line}
use Rattle.doc_server_script.specs.Escapes.{is_printable}
use Rattle.doc_server_script.specs.Lines.{event_of}
use Rattle.doc_server_script.proofs.ReadLaws.{edits_are_read, edits_are_lines}
use Rattle.doc_server_script.specs.Scripts.{events_from, events_of, lines, onto_first}
use Rattle.doc_server_script.specs.PageLines.{line_of, lines_of}
use Rattle.doc_server_restore.specs.Laws.{AreEdits, IsEdit, LinesAreRead}
use Rattle.doc_server_restore.specs.Restores.{edits_in, in_front}

abbrev bare_line : SiteEdit → List ℕ
bare_line (site_edits.Put path groups text) = put_line path groups text
bare_line (site_edits.Remove path) = remove_line path
bare_line (site_edits.Move from to) = move_line from to

line_is : (edit : SiteEdit) → line_of edit ≡ bare_line edit ++ 10 ∷ []
line_is (site_edits.Put path groups text) = refl
line_is (site_edits.Remove path) = refl
line_is (site_edits.Move from to) = refl

is_read : (edit : SiteEdit) → IsEdit edit → event_of (bare_line edit) ≡ Some (events.Site edit)
is_read (site_edits.Put path groups text) (good, are, is) = edits_are_read.put path groups text good are is
is_read (site_edits.Remove path) good = edits_are_read.remove path good
is_read (site_edits.Move from to) (one, two) = edits_are_read.move from to one two

is_one_line : (edit : SiteEdit) → IsEdit edit → list_all is_printable (bare_line edit) ≡ true
is_one_line (site_edits.Put path groups text) (good, are, is) = edits_are_lines.put path groups text are good.text is
is_one_line (site_edits.Remove path) good = edits_are_lines.remove path good.text
is_one_line (site_edits.Move from to) (one, two) = edits_are_lines.move from to one.text two.text

-- ---- a line of printable bytes, and what follows its LF

no_lf : (b : ℕ) → is_printable b ≡ true → (b == 10) ≡ false
no_lf b is = grind (arith, nat_tests)

both : (a b : Bool) → (a && b) ≡ true → (a ≡ true) × (b ≡ true)
both true b is = (refl, is)
both false b is = absurd (subst T (sym is) tt)

first_line : (line rest : List ℕ) → list_all is_printable line ≡ true → lines (line ++ 10 ∷ rest) ≡ line ∷ lines rest
unfolding lines
first_line [] rest are = refl
first_line (b ∷ line) rest are =
    let parts = both (is_printable b) (list_all is_printable line) are in
    ap (λ t. cond t ([] ∷ lines (line ++ 10 ∷ rest)) (onto_first b (lines (line ++ 10 ∷ rest)))) (no_lf b parts.0)
    ∙ ap (onto_first b) (first_line line rest parts.1)

lines_with : (edit : SiteEdit) (edits : List SiteEdit) → IsEdit edit
    → lines (lines_of (edit ∷ edits)) ≡ bare_line edit ∷ lines (lines_of edits)
lines_with edit edits good =
    ap (λ l. lines (l ++ lines_of edits)) (line_is edit)
    ∙ ap lines (append_assoc (bare_line edit) (10 ∷ []) (lines_of edits))
    ∙ first_line (bare_line edit) (lines_of edits) (is_one_line edit good)

abbrev all_with : List SiteEdit → List Event
all_with [] = []
all_with (edit ∷ edits) = events.Site edit ∷ all_with edits

no_line : lines [] ≡ []
unfolding lines
no_line = refl

-- the events of lines, behind those found before
abbrev onto : List Event → ℕ → List (List ℕ) → Option Event → Result (List Event) Fault
onto found n more None = Err (faults.BadScriptLine n)
onto found n more (Some event) = events_from (found ++ event ∷ []) (n + 1) more

as_onto : (found : List Event) (n : ℕ) (line : List ℕ) (more : List (List ℕ))
    → events_from found n (line ∷ more) ≡ onto found n more (event_of line)
as_onto found n line more = each (event_of line)
  where
    each : (o : Option Event)
        → ◌≡◌ {A = Result (List Event) Fault} (elim o [
          | None ↦ Err (faults.BadScriptLine n)
          | Some event ↦ events_from (found ++ event ∷ []) (n + 1) more
        ]) (onto found n more o)
    each None = refl
    each (Some event) = refl

all_read : (edits : List SiteEdit) (found : List Event) (n : ℕ) → AreEdits edits
    → events_from found n (lines (lines_of edits)) ≡ Ok (found ++ all_with edits)
all_read [] found n are = ap (events_from found n) no_line ∙ ap (λ es. Ok es) (sym (append-nil found))
all_read (edit ∷ edits) found n are =
    ap (events_from found n) (lines_with edit edits are.0)
    ∙ as_onto found n (bare_line edit) (lines (lines_of edits))
    ∙ ap (onto found n (lines (lines_of edits))) (is_read edit are.0)
    ∙ all_read edits (found ++ events.Site edit ∷ []) (n + 1) are.1
    ∙ ap (λ es. Ok es) (append_assoc found (events.Site edit ∷ []) (all_with edits))

are_those : (edits : List SiteEdit) → edits_in (all_with edits) ≡ Some edits
are_those [] = refl
are_those (edit ∷ edits) = ap (in_front (Some edit)) (are_those edits)

-- ---- printable bytes are UTF-8

small : (b : ℕ) → is_printable b ≡ true → b < 128
small b is = grind (arith, nat_tests)

line_is_ascii : (line : List ℕ) → list_all is_printable line ≡ true → IsAscii line
line_is_ascii line are =
    IsAscii-from_all line (λ k d lt. small (slice_index_or line k d) (AllPass-from_list_all is_printable line are k d lt))

abbrev is_low : ℕ → Bool
is_low b = nat_lt b 128

low : (b : ℕ) → is_low b ≡ true → b < 128
low b is = grind (arith, nat_tests)

lf_is_ascii : IsAscii (10 ∷ [])
lf_is_ascii =
    IsAscii-from_all (10 ∷ []) (λ k d lt. low (slice_index_or (10 ∷ []) k d) (AllPass-from_list_all is_low (10 ∷ []) refl k d lt))

all_ascii : (edits : List SiteEdit) → AreEdits edits → IsAscii (lines_of edits)
all_ascii [] are = IsAscii-nil
all_ascii (edit ∷ edits) are =
    subst (λ l. IsAscii (l ++ lines_of edits)) (sym (line_is edit))
    (IsAscii-append (bare_line edit ++ 10 ∷ []) (lines_of edits)
    (IsAscii-append (bare_line edit) (10 ∷ []) (line_is_ascii (bare_line edit) (is_one_line edit are.0)) lf_is_ascii)
    (all_ascii edits are.1))

pub lines_are_read : LinesAreRead
lines_are_read edits are =
    let text = lines_of edits in
    ap (λ t. cond t (option_and_then edits_in (result_ok (events_of text))) None)
    (is_utf8-from_IsUtf8 text (IsUtf8-from_ascii text (all_ascii edits are)))
    ∙ ap (λ r. option_and_then edits_in (result_ok r)) (all_read edits [] 1 are) ∙ are_those edits
