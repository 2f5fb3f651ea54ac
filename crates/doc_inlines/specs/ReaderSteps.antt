-- A reader in the middle of a text.
use Rattle.std.specs.Prelude.{◌≡◌, ℕ, ◌<◌, ◌≤◌, not, Bool, true, List, [], ◌∷◌, length, chars, codes, ⊤}
use Rattle.std.specs.List.{list_all}
use Rattle.doc_rules.specs.Characters.{Text, one_of, last_or}
use Rattle.doc_rules.specs.Parsers.{before}
use Rattle.doc_rules.specs.Rules.{Rules}
use Rattle.doc_rules.specs.Definitions.{Definition}
use Rattle.doc_rules.specs.Inlines.{Inline, literals, onto}
use Rattle.doc_rules.specs.Reading.{read_item}
use Rattle.doc_rules.specs.Rests.{IsRest}
use Rattle.doc_refs_parts.specs.Targets.{Targets, targets_of}
use Rattle.doc_inlines_marks.specs.declared.mark_ref.MarkRef.{MarkRef}
use Rattle.doc_inlines_marks.specs.Slices.{AreSlices, IsCut, AreCut}
use Rattle.doc_inlines_emphasis.specs.Views.{items_of}
use Rattle.doc_inlines_marks.specs.ToldSteps.{TellsOfRuns, TellsOfEnds}
use Rattle.doc_inlines.specs.declared.bracket.Bracket.{Bracket}
use Rattle.doc_inlines.specs.declared.reader.Reader.{Reader}
use Rattle.doc_inlines.specs.DraftSteps.{IsDraft, made_of}
use Rattle.doc_inlines.specs.ReadingSteps.{reading, is_plain, Quiet}

-- the marks that were made
abbrev pub marks_of : Reader → List MarkRef
marks_of reader = items_of reader.draft.marks

-- a character that HTML writes as it is
abbrev pub is_uncut : ℕ → Bool
is_uncut c = not (one_of (codes "&<>\"") c)

-- the text behind each bracket ends in this rest
abbrev pub AllBehind : Text → List Bracket → Type 0
AllBehind rest [] = ⊤
AllBehind rest (bracket ∷ more) = IsRest rest (chars bracket.behind.now) × AllBehind rest more

-- what was made before this rest, where the text from another place on is in no mark yet: these inlines, and its literals
unfoldable pub made_before : List Inline → Text → Text → List Inline
made_before made plain rest = onto (literals (before rest plain)) made

abbrev pub state_made : Reader → List Inline
state_made reader = made_before (made_of reader.draft) (chars reader.plain.now) (chars reader.rest.now)

-- all inlines of the text, as they come out from here
unfoldable pub outcome : Rules → List Definition → Reader → List Inline
outcome rules refs reader = reading rules refs (before (chars reader.rest.now) (chars reader.text.now)) (state_made reader)
    (chars reader.rest.now)

-- the marks stand before the text that is in no mark yet, which holds nothing that HTML writes otherwise
pub record IsReader (reader : Reader) : Type 0 where
  pub draft : IsDraft reader.draft
  pub plain : IsRest (chars reader.plain.now) (chars reader.text.now)
  pub rest : IsRest (chars reader.rest.now) (chars reader.plain.now)
  pub slices : AreSlices (before (chars reader.plain.now) (chars reader.text.now)) (marks_of reader)
  pub cut : AreCut (marks_of reader)
  pub pending : list_all is_uncut (before (chars reader.rest.now) (chars reader.plain.now)) ≡ true
  pub behind : AllBehind (chars reader.rest.now) reader.draft.brackets.items
  pub backticks : TellsOfRuns reader.backticks (chars reader.text.now)
  pub missing : TellsOfEnds reader.missing (chars reader.text.now)

-- reading on from the new state is reading on from the old one
pub record GoesOn (rules : Rules) (targets : Targets) (old new : Reader) : Type 0 where
  pub sound : IsReader new
  pub text : new.text ≡ old.text
  pub reads : (definitions : List Definition) → targets ≡ targets_of definitions
      → outcome rules definitions new ≡ outcome rules definitions old
  pub shorter : length (chars new.rest.now) < length (chars old.rest.now)

-- the same, where nothing may have been read
pub record ReadsOn (rules : Rules) (targets : Targets) (old new : Reader) : Type 0 where
  pub sound : IsReader new
  pub text : new.text ≡ old.text
  pub reads : (definitions : List Definition) → targets ≡ targets_of definitions
      → outcome rules definitions new ≡ outcome rules definitions old
  pub no_longer : length (chars new.rest.now) ≤ length (chars old.rest.now)

-- a mark for the text between two rests: its slice, if it has one, stands there, and it is cut
pub record MarkStands (mark : MarkRef) (rest next : Text) : Type 0 where
  pub behind : IsRest next rest
  pub slices : AreSlices (before next rest) (mark ∷ [])
  pub cut : IsCut mark

-- all items are read
pub record ReadsAll (rules : Rules) (targets : Targets) (old new : Reader) : Type 0 where
  pub sound : IsReader new
  pub text : new.text ≡ old.text
  pub nothing : chars new.rest.now ≡ []
  pub reads : (definitions : List Definition) → targets ≡ targets_of definitions
      → outcome rules definitions new ≡ outcome rules definitions old

-- this first character, with this text behind it, is read so, and makes this
abbrev pub ReadsAs : Rules → Targets → Reader → ℕ → Text → List Inline → ℕ → Type 0
ReadsAs rules targets old c more made n =
    (definitions : List Definition) → targets ≡ targets_of definitions →
    read_item rules definitions (last_or 10 (before (chars old.rest.now) (chars old.text.now))) (state_made old) c more ≡ (made, n)

-- plain characters stand before this rest, one at least, and no space among them is a line break's
pub record IsPlainRun (rules : Rules) (rest next : Text) : Type 0 where
  pub behind : IsRest next rest
  pub plain : list_all (is_plain rules) (before next rest) ≡ true
  pub quiet : Quiet (before next rest) next
  pub shorter : length next < length rest
