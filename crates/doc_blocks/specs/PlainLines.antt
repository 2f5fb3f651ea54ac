-- Lines that begin no block.
use Rattle.std.specs.Prelude.{◌≡◌, ℕ, Bool, ◌||◌, None, codes}
use Rattle.std.specs.Char.{is_ascii_digit}
use Rattle.doc_rules.specs.Characters.{one_of}
use Rattle.doc_rules.specs.Columns.{Line}
use Rattle.doc_rules.specs.ContainerStarts.{quote_start, item_start}
use Rattle.doc_rules.specs.Rules.{Rules}
use Rattle.doc_rules.specs.Trees.{Situation, leaf_begins}

-- the marker of a block may begin with this character, or it is a space or a tab, which none of a line's text begins with
abbrev pub begins_marker : ℕ → Bool
begins_marker c = one_of (codes ">#`~<=-_*+ \t") c || is_ascii_digit c

-- the line begins neither a quote nor a leaf nor an item
pub record BeginsNothing (line : Line) : Type 0 where
  pub quote : quote_start line ≡ None
  pub leaf : (rules : Rules) (situation : Situation) → leaf_begins rules situation line ≡ None
  pub item : item_start line ≡ None
