-- Lines whose first character begins no block.
use Rattle.std.proofs.Common.{◌≡◌, ℕ, Bool, true, false, ◌==◌, [], ◌∷◌, length, refl, ap, sym, ◌∙◌, Option, Some, None}
use Rattle.std.specs.Prelude.{◌||◌, not, IsTrue, nat_le, drop, option_and_then, codes}
use Rattle.std.specs.Char.{is_ascii_digit}
use Rattle.std.proofs.lemmas.Bool.{or_parts}
use Rattle.doc_rules.specs.Characters.{Text, one_of, is_space_or_tab}
use Rattle.doc_rules.specs.Columns.{Line, Cell, skip, indent, after_indent, text_of}
use Rattle.doc_rules.specs.ContainerStarts.{Bullet, ListMarker, ItemStart, behind_quote_marker, quote_start, digits_of, bullet_marker}
use Rattle.doc_rules.specs.ContainerStarts.{ordered_marker, list_marker, item_of, item_start}
use Rattle.doc_rules.specs.Rules.{Rules}
use Rattle.doc_rules.specs.Escapes.{number}
use Rattle.doc_rules.specs.LeafStarts.{marker_text}
use Rattle.doc_rules.specs.Trees.{Situation, LeafStart, text_begins, leaf_begins}
use Rattle.doc_blocks_leaves.proofs.StartSteps as starts
use Rattle.doc_blocks.specs.PlainLines.{begins_marker, BeginsNothing}

-- ---- containers, by the cells behind the indentation

no_quote_in : (cells : Line) → text_of cells ≡ [] → behind_quote_marker cells ≡ None
unfolding text_of behind_quote_marker
no_quote_in [] e = refl
no_quote_in (cell ∷ more) e = absurd cc

first_cell : (cell : Cell) (more : Line) (c : ℕ) (rest : Text) → text_of (cell ∷ more) ≡ c ∷ rest → cell.char ≡ c
unfolding text_of
first_cell cell more c rest e = cc

abbrev if_quoted : Line → Bool → Option Line
if_quoted more b = elim b [ true ↦ Some (skip 1 more) | false ↦ None ]

no_quote_at : (cells : Line) (c : ℕ) (rest : Text) → text_of cells ≡ c ∷ rest → (c == 62) ≡ false → behind_quote_marker cells ≡ None
unfolding behind_quote_marker
no_quote_at [] c rest e other = refl
no_quote_at (cell ∷ more) c rest e other =
    ap (λ k. if_quoted more (k == 62)) (first_cell cell more c rest e) ∙ ap (if_quoted more) other

abbrev marker_by : Text → Line → Option ListMarker
marker_by digits line = elim (length digits == 0) [
  | true ↦ bullet_marker line
  | false ↦ elim (nat_le (length digits) 9) [ true ↦ ordered_marker (number 10 digits) (drop (length digits) line) | false ↦ None ]
]

no_marker_in : (cells : Line) → text_of cells ≡ [] → list_marker cells ≡ None
unfolding text_of list_marker digits_of bullet_marker
no_marker_in [] e = refl
no_marker_in (cell ∷ more) e = absurd cc

abbrev digits_by : Cell → Line → Bool → Text
digits_by cell more b = elim b [ true ↦ cell.char ∷ digits_of more | false ↦ [] ]

abbrev bullet_by : Cell → Line → Bool → Option ListMarker
bullet_by cell more b =
    elim b [ true ↦ Some (record { kind = Bullet cell.char; start = 0; behind = more }) | false ↦ None ]

no_digits_at : (cell : Cell) (more : Line) (c : ℕ) → cell.char ≡ c → is_ascii_digit c ≡ false → digits_of (cell ∷ more) ≡ []
unfolding digits_of
no_digits_at cell more c e other = ap (λ k. digits_by cell more (is_ascii_digit k)) e ∙ ap (digits_by cell more) other

no_bullet_at : (cell : Cell) (more : Line) (c : ℕ) → cell.char ≡ c → one_of (codes "-+*") c ≡ false → bullet_marker (cell ∷ more) ≡ None
unfolding bullet_marker
no_bullet_at cell more c e other = ap (λ k. bullet_by cell more (one_of (codes "-+*") k)) e ∙ ap (bullet_by cell more) other

no_marker_at : (cells : Line) (c : ℕ) (rest : Text) → text_of cells ≡ c ∷ rest → is_ascii_digit c ≡ false → one_of (codes "-+*") c ≡ false
    → list_marker cells ≡ None
unfolding list_marker text_of
no_marker_at [] c rest e digit bullet = no_marker_in [] refl
no_marker_at (cell ∷ more) c rest e digit bullet =
    let same : cell.char ≡ c = first_cell cell more c rest e in
    ap (λ digits. marker_by digits (cell ∷ more)) (no_digits_at cell more c same digit) ∙ no_bullet_at cell more c same bullet

-- ---- lines

abbrev quote_by : Line → Bool → Option Line
quote_by line b = elim b [ false ↦ None | true ↦ behind_quote_marker (after_indent line) ]

abbrev item_by : Line → Bool → Option ItemStart
item_by line b = elim b [ false ↦ None | true ↦ option_and_then (item_of line) (list_marker (after_indent line)) ]

no_quote : (line : Line) → behind_quote_marker (after_indent line) ≡ None → quote_start line ≡ None
unfolding quote_start
no_quote line none = at (nat_le (indent line) 3)
  where
    at : (b : Bool) → quote_by line b ≡ None
    at true = none
    at false = refl

no_item : (line : Line) → list_marker (after_indent line) ≡ None → item_start line ≡ None
unfolding item_start
no_item line none = at (nat_le (indent line) 3)
  where
    at : (b : Bool) → item_by line b ≡ None
    at true = ap (option_and_then (item_of line)) none
    at false = refl

abbrev leaf_by : Rules → Situation → Line → Option Text → Option LeafStart
leaf_by rules situation line text = elim text [ None ↦ None | Some text ↦ text_begins rules situation line text ]

leaf_of : (rules : Rules) (situation : Situation) (line : Line) (text : Option Text) → text ≡ marker_text line
    → leaf_begins rules situation line ≡ leaf_by rules situation line text
unfolding leaf_begins
leaf_of rules situation line text e = ap (leaf_by rules situation line) (sym e)

margin_false : (line : Line) → None ≡ marker_text line → nat_le (indent line) 3 ≡ false
unfolding marker_text
margin_false line e = at (nat_le (indent line) 3) e
  where
    at : (b : Bool) → ◌≡◌ {A = Option Text} None (elim b [ true ↦ Some (text_of (after_indent line)) | false ↦ None ]) → b ≡ false
    at true f = absurd cc
    at false f = refl

text_behind : (line : Line) (text : Text) → Some text ≡ marker_text line → text_of (after_indent line) ≡ text
unfolding marker_text
text_behind line text e = at (nat_le (indent line) 3) e
  where
    at : (b : Bool) → Some text ≡ (elim b [ true ↦ Some (text_of (after_indent line)) | false ↦ None ]) → text_of (after_indent line) ≡ text
    at true f = cc
    at false f = absurd cc

-- no block begins in front of a text that is too far in
pub nothing_too_far : (line : Line) → None ≡ marker_text line → BeginsNothing line
unfolding quote_start item_start
nothing_too_far line e =
    let far : nat_le (indent line) 3 ≡ false = margin_false line e in
    record {
      quote = ap (quote_by line) far;
      leaf = λ rules situation. leaf_of rules situation line None e;
      item = ap (item_by line) far;
    }

-- nor in front of no text
pub nothing_at_end : (line : Line) (text : Text) → Some text ≡ marker_text line → text ≡ [] → BeginsNothing line
nothing_at_end line text e none =
    let same : text_of (after_indent line) ≡ [] = text_behind line text e ∙ none in
    record {
      quote = no_quote line (no_quote_in (after_indent line) same);
      leaf = λ rules situation. leaf_of rules situation line (Some text) e ∙ ap (text_begins rules situation line) none
          ∙ sym (starts.at_end rules situation line);
      item = no_item line (no_marker_in (after_indent line) same);
    }

pub marks_none : (a b : Bool) → a ≡ b → IsTrue (not a) → b ≡ false
marks_none true b e holds = absurd cc
marks_none false b e holds = sym e

-- nor in front of a text whose first character begins no marker
pub nothing_at : (line : Line) (text : Text) (c : ℕ) (rest : Text) → Some text ≡ marker_text line → text ≡ c ∷ rest
    → begins_marker c ≡ false → BeginsNothing line
nothing_at line text c rest e here other =
    let same : text_of (after_indent line) ≡ c ∷ rest = text_behind line text e ∙ here in
    let signs = or_parts (one_of (codes ">#`~<=-_*+ \t") c) (is_ascii_digit c) other in
    let quote = or_parts (c == 62) _ signs.0 in
    let number = or_parts (c == 35) _ quote.1 in
    let tick = or_parts (c == 96) _ number.1 in
    let tilde = or_parts (c == 126) _ tick.1 in
    let angle = or_parts (c == 60) _ tilde.1 in
    let equals = or_parts (c == 61) _ angle.1 in
    let hyphen = or_parts (c == 45) _ equals.1 in
    let low = or_parts (c == 95) _ hyphen.1 in
    let star = or_parts (c == 42) _ low.1 in
    let plus = or_parts (c == 43) _ star.1 in
    let space = or_parts (c == 32) _ plus.1 in
    let tab = or_parts (c == 9) _ space.1 in
    let gap : is_space_or_tab c ≡ false = starts.neither c space.0 tab.0 in
    let bullet : one_of (codes "-+*") c ≡ false = ap (λ b. b || ((c == 43) || ((c == 42) || false))) hyphen.0
    ∙ (ap (λ b. b || ((c == 42) || false)) plus.0 ∙ ap (λ b. b || false) star.0) in
    record {
      quote = no_quote line (no_quote_at (after_indent line) c rest same quote.0);
      leaf = λ rules situation. leaf_of rules situation line (Some text) e ∙ ap (text_begins rules situation line) here
          ∙ sym (starts.at_other rules situation line c rest number.0 tick.0 tilde.0 angle.0 equals.0 hyphen.0 star.0 low.0 gap);
      item = no_item line (no_marker_at (after_indent line) c rest same signs.1 bullet);
    }
