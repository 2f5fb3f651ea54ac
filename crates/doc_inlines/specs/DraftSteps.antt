-- What a draft stands for.
use Rattle.std.specs.Prelude.{◌≡◌, ℕ, suc, Some, take, drop, ◌≤◌, Bool, List, [], ◌∷◌, ◌++◌, map, reverse, replicate, length, chars, codes}
use Rattle.std.specs.Prelude.{if◌then◌else◌, ◌||◌, false, ⊤}
use Rattle.doc_rules.specs.Characters.{Text}
use Rattle.doc_rules.specs.Inlines.{Inline, onto}
use Rattle.doc_rules.specs.Links.{LastBracket, last_bracket}
use Rattle.doc_inlines_emphasis.specs.Marks.{Placed, seen}
use Rattle.doc_inlines_marks.specs.declared.mark_ref.MarkRef.{MarkRef}
use Rattle.doc_inlines_emphasis.specs.Views.{items_of, marks_in, marks_shown, runs_in, IsSound}
use Rattle.doc_inlines.specs.declared.bracket.Bracket.{Bracket}
use Rattle.doc_inlines.specs.declared.draft.Draft.{Draft}
use Rattle.doc_inlines.specs.MadeSteps.{OpenBracket, text_of_bracket, made_below, AreBrackets}

abbrev pub bracket_in : Bracket → OpenBracket
bracket_in bracket = record {
  mark = bracket.place.marks;
  runs = bracket.place.runs;
  image = bracket.image;
  behind = chars
      bracket.behind.now;
}

-- the brackets that are open, the nearest first
abbrev pub brackets_shown : List Bracket → List OpenBracket
brackets_shown brackets = reverse (map bracket_in brackets)

-- what was made by these marks, runs and brackets, the nearest first
unfoldable pub made_by : List MarkRef → List Placed → List Bracket → ℕ → List Inline
made_by items runs brackets dead = made_below (marks_shown items) (length items) dead runs (brackets_shown brackets)

abbrev pub made_of : Draft → List Inline
made_of draft = made_by (items_of draft.marks) (runs_in draft.marks) draft.brackets.items draft.dead

-- the brackets stand among these marks and runs
pub record AreOpen (items : List MarkRef) (runs : List Placed) (brackets : List Bracket) : Type 0 where
  pub stand : AreBrackets (marks_shown items) (length items) runs (brackets_shown brackets)

-- one of these brackets is an image's
abbrev pub holds_image : List Bracket → Bool
holds_image [] = false
holds_image (bracket ∷ more) = bracket.image || holds_image more

-- each of these brackets, the nearest first, tells whether it or one before it is an image's
abbrev pub TellImages : List Bracket → Type 0
TellImages [] = ⊤
TellImages (bracket ∷ more) = (bracket.images ≡ holds_image (bracket ∷ more)) × TellImages more

pub record IsDraft (draft : Draft) : Type 0 where
  pub marks : IsSound draft.marks
  pub brackets : AreOpen (items_of draft.marks) (runs_in draft.marks) draft.brackets.items
  pub dead : draft.dead ≤ length draft.brackets.items
  pub images : TellImages (reverse draft.brackets.items)

-- n of this character, and one more
pub record IsRunOf (n c : ℕ) (text : Text) : Type 0 where
  pub same : text ≡ replicate (suc n) c

-- what a bracket is in a text
abbrev pub codes_of_bracket : Bool → Text
codes_of_bracket image = if image then codes "![" else codes "["

-- a bracket before this text is opened
pub record AddsBracket (old new : List Bracket) (behind : Text) : Type 0 where
  pub bracket : Bracket
  pub added : new ≡ old ++ (bracket ∷ [])
  pub same : chars bracket.behind.now ≡ behind

-- ---- a bracket that is no longer among the open ones, though its mark still stands

-- what was made since the bracket
abbrev pub since_of : Draft → Bracket → List Inline
since_of draft bracket = seen (marks_in draft.marks) (suc bracket.place.marks) (length (items_of draft.marks))
    (drop bracket.place.runs (runs_in draft.marks))

-- what was made before it, the nearest first
abbrev pub before_of : Draft → Bracket → List Inline
before_of draft bracket = made_below (marks_in draft.marks) bracket.place.marks draft.dead (take bracket.place.runs (runs_in draft.marks))
    (brackets_shown draft.brackets.items)

abbrev pub last_of : Draft → Bracket → Bool → LastBracket
last_of draft bracket live = record {
  since = since_of draft bracket;
  bracket = record { image = bracket.image; live = live; behind = chars bracket.behind.now };
  before = before_of draft bracket;
}

-- the last bracket of a draft is closed
pub record IsPopped (old new : Draft) (bracket : Bracket) (live : Bool) : Type 0 where
  pub items : items_of new.marks ≡ items_of old.marks
  pub brackets : old.brackets.items ≡ new.brackets.items ++ (bracket ∷ [])
  pub last : last_bracket [] (made_of old) ≡ Some (last_of new bracket live)
  pub text : made_of new ≡ onto (since_of new bracket) (onto (text_of_bracket bracket.image) (before_of new bracket))
  pub stood : AreOpen (items_of new.marks) (runs_in new.marks) (new.brackets.items ++ (bracket ∷ []))
  pub sound : IsDraft new
