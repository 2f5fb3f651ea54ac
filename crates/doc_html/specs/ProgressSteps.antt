-- What was made of a document so far: what is written, and what a page keeps beside it.
use Rattle.std.specs.Prelude.{ℕ, Bool, true, false, List, [], ◌∷◌, ◌++◌, codes, Option, Some, None}
use Rattle.doc_page_parts.specs.declared.linker.Shown.{Shown}
use Rattle.doc_rules.specs.Characters.{Text}
use Rattle.doc_rules.specs.Anchors.{anchor_name, free_anchor}
use Rattle.doc_rules.specs.Escaping.{html_escape}
use Rattle.doc_rules.specs.Html.{Output, characters, is_fresh}
use Rattle.doc_rules.specs.Pages.{PageHeading}

-- how links are shown, and whether images are told
pub record Manner : Type 0 where
  pub shown : List ℕ → Shown
  pub images : Bool

-- what is written, the anchors that are used (the last one first) where headings get anchors, the headings and texts met, and the manner in
-- which all of it is written
pub record Progress : Type 0 where
  pub output : Output
  pub used : Option (List Text)
  pub headings : List PageHeading
  pub texts : List Text
  pub manner : Manner

-- more is written
abbrev pub told : Output → Progress → Progress
told more p = record p { output = p.output ++ more }

-- a LF is written, unless nothing was written yet or a LF was written last
unfoldable pub on_new_line : Progress → Progress
on_new_line p = elim (is_fresh p.output) [ true ↦ p | false ↦ told (characters (codes "\n")) p ]

-- a block's text is met
unfoldable pub text_met : Text → Progress → Progress
text_met text p = record p { texts = p.texts ++ text ∷ [] }

-- a heading gets this anchor, which is written
unfoldable pub anchored : ℕ → Text → List Text → Text → Progress → Progress
anchored level text used anchor p = record {
  output = p.output ++ characters (codes " id=\"" ++ html_escape anchor ++ codes "\"");
  used = Some (anchor ∷ used);
  headings = p.headings ++ record { level = level; anchor = anchor; text = text } ∷ [];
  texts = p.texts ++ text ∷ [];
  manner = p.manner;
}

-- a heading is met: where headings get anchors, the next one is written
unfoldable pub heading_met_at : Option (List Text) → ℕ → Text → Progress → Progress
heading_met_at None level text p = text_met text p
heading_met_at (Some used) level text p = anchored level text used (free_anchor used (anchor_name text)) p

abbrev pub heading_met : ℕ → Text → Progress → Progress
heading_met level text p = heading_met_at p.used level text p

-- from this state of a writer to that one its progress went on like this
abbrev pub Goes : {W : Type 0} → (W → Progress → Type 0) → W → W → (Progress → Progress) → Type 0
Goes holds old new step = (p : Progress) → holds old p → holds new (step p)

-- .. and this was written
abbrev pub Writes : {W : Type 0} → (W → Progress → Type 0) → W → W → Output → Type 0
Writes holds old new output = Goes holds old new (told output)

-- nothing is written yet, where links are shown like this and images are told or not
abbrev pub begun : (List ℕ → Shown) → Bool → Option (List Text) → Progress
begun shown images used =
    record { output = []; used = used; headings = []; texts = []; manner = record { shown = shown; images = images } }
