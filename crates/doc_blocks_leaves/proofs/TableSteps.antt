-- What a paragraph with a table in it leaves, or without one, and the mark of the former.
use Rattle.std.proofs.Common.{Bor, ◌≡◌, ◌∙◌, Bool, true, false, ◌∷◌, ◌++◌, chars, refl, ap, sym, subst, Option, Some, None}
use Rattle.std.proofs.Common.{ℕ, List}
use Rattle.std.specs.Prelude.{◌||◌, option_map, is_some, IfSome, MatchOption}
use Rattle.doc_rules.specs.Characters.{Text}
use Rattle.doc_rules.specs.Rules.{Rules}
use Rattle.doc_rules.specs.Definitions.{definitions_of}
use Rattle.doc_rules.specs.Forests.{◌▹◌}
use Rattle.doc_rules.specs.Tables.{TableSource, has_table, table_in, text_lines}
use Rattle.doc_rules.specs.Blocks.{joined as joined_lines}
use Rattle.doc_rules.specs.Blocks.{Paragraph, TableBlock, Blocks, with_text, table_of, before_table, with_table}
use Rattle.doc_refs_parts.specs.Targets.{Targets, targets_of, joined}
use Rattle.doc_blocks_starts.specs.Tags.{table_shown as lines_shown}
use Rattle.doc_blocks_starts.specs.declared.table_lines.TableLines.{TableLines}
use Rattle.doc_lines.specs.RestSteps.{rest_of}
use Rattle.doc_blocks_starts.specs.Tables.{lines_in, source_of}
use Rattle.doc_blocks_starts.specs.declared.tag.LeafBlock.{LeafBlock}
use Rattle.doc_blocks_leaves.specs.Leaves.{OpenParagraph, with_open, open_references}
use Rattle.doc_blocks_leaves.specs.OpenLeaves.{Gathering, IsTold}
use Rattle.doc_blocks_leaves.specs.declared.leaf.kind.Kind.{Kind}
use Rattle.doc_blocks_leaves.specs.declared.leaf.kind.Kind.TheVariants as kinds
use Rattle.doc_blocks_leaves.specs.Views.{with_block, with_closed, with_lines}
use Rattle.doc_blocks_leaves.specs.declared.closed.Closed.{Closed}
use Rattle.doc_blocks_leaves.specs.TableTexts.{table_shown, IsTableOf}
use Rattle.doc_tables.specs.LineSteps.{last_line, IsTableIn}
use Rattle.doc_tables.specs.declared.table.TableText.{TableText}
use Rattle.doc_tables.proofs.TextLaws.{grows_by_texts}

-- ---- what a paragraph leaves

abbrev pub Found : Type 0
Found = Option (Text × TableSource)

abbrev left_by : Rules → Text → Blocks → Found → Blocks
left_by rules text before found = with_table found (with_text Paragraph (definitions_of rules (before_table text found)).1 before)

-- no table is in it
pub no_table_left : (rules : Rules) (text : Text) (closed : Closed) (block : Option LeafBlock) (before : Blocks)
    → table_of rules text ≡ None → with_closed closed before ≡ with_block block before
    → with_block block before ≡ with_text Paragraph (definitions_of rules text).1 before
    → with_closed closed before ≡ with_open rules (OpenParagraph text) before
unfolding with_open
no_table_left rules text closed block before none e f = e ∙ f ∙ sym (ap (left_by rules text before) none)

pub no_table_defines : (rules : Rules) (text : Text) (old new : Targets) → table_of rules text ≡ None
    → new ≡ joined old (targets_of (definitions_of rules text).0)
    → new ≡ joined old (targets_of (open_references rules (OpenParagraph text)))
unfolding open_references
no_table_defines rules text old new none e =
    e ∙ sym (ap (λ (found : Found). joined old (targets_of (definitions_of rules (before_table text found)).0)) none)

-- one is
pub table_left : (rules : Rules) (text front : Text) (source : TableSource) (block : Option LeafBlock) (table : Bor TableLines) (before : Blocks)
    → table_of rules text ≡ Some (front, source) → with_block block before ≡ with_text Paragraph (definitions_of rules front).1 before
    → lines_shown table.now ≡ source
    → with_closed (record { block = block; table = Some table }) before ≡ with_open rules (OpenParagraph text) before
unfolding with_open with_closed with_lines
table_left rules text front source block table before found e f =
    ap (λ (blocks : Blocks). blocks ▹ TableBlock (lines_shown table.now)) e
    ∙ ap (λ (t : TableSource). with_text Paragraph (definitions_of rules front).1 before ▹ TableBlock t) f
    ∙ sym (ap (left_by rules text before) found)

pub table_defines : (rules : Rules) (text front : Text) (source : TableSource) (old new : Targets)
    → table_of rules text ≡ Some (front, source) → new ≡ joined old (targets_of (definitions_of rules front).0)
    → new ≡ joined old (targets_of (open_references rules (OpenParagraph text)))
unfolding open_references
table_defines rules text front source old new found e =
    e ∙ sym (ap (λ (f : Found). joined old (targets_of (definitions_of rules (before_table text f)).0)) found)

-- ---- whether a table is in a text

abbrev joined_found : Option (List Text × TableSource) → Found
joined_found found = option_map (λ (f : List Text × TableSource). (joined_lines f.0, f.1)) found

pub reads_none : (rules : Rules) (text : Text) → rules.tables ≡ false → table_of rules text ≡ None
unfolding table_of
reads_none rules text e = ap (λ (b : Bool). elim b as (λ _. Found) [ true ↦ joined_found (table_in (text_lines text)) | false ↦ None ]) e

reads_some : (rules : Rules) (text : Text) → rules.tables ≡ true → table_of rules text ≡ joined_found (table_in (text_lines text))
unfolding table_of
reads_some rules text e = ap (λ (b : Bool). elim b as (λ _. Found) [ true ↦ joined_found (table_in (text_lines text)) | false ↦ None ]) e

pub table_is_of : (rules : Rules) (text : Text) (found : Option TableText) → rules.tables ≡ true
    → MatchOption found (table_in (text_lines text) ≡ None) (λ f. IsTableIn text f)
    → MatchOption found (table_of rules text ≡ None) (λ f. IsTableOf rules text f)
table_is_of rules text None e h = reads_some rules text e ∙ ap joined_found h
table_is_of rules text (Some found) e h =
    reads_some rules text e ∙ ap joined_found h.found_is ∙ ap (λ (front : Text). Some (front, table_shown found)) h.before_is

-- ---- a table that is kept

pub kept_is : (lines : TableLines) (header delimiters : Bor Text) (rows : Option (Bor Text)) (found : TableText)
    → lines ≡ record { header = header; delimiters = delimiters; rows = rows } → header.now ≡ found.header.now
    → delimiters.now ≡ found.delimiters.now → rest_of rows ≡ rest_of found.rows → lines_shown lines ≡ table_shown found
kept_is lines header delimiters rows found is e f g =
    ap lines_shown is
    ∙ ap (λ (t : List ℕ). source_of (chars t) (chars delimiters.now) (lines_in (rest_of rows))) e
    ∙ ap (λ (t : List ℕ). source_of (chars found.header.now) (chars t) (lines_in (rest_of rows))) f
    ∙ ap (λ (o : Option Text). source_of (chars found.header.now) (chars found.delimiters.now) (lines_in o)) g

-- ---- a line more

pub holds_with : (above line : Text) (holds begins : Bool) → holds ≡ has_table above
    → begins ≡ is_some (table_in (last_line above ∷ text_lines line)) → (holds || begins) ≡ has_table (above ++ 10 ∷ line)
holds_with above line holds begins e f =
    ap (λ (b : Bool). b || begins) e ∙ ap (λ (b : Bool). has_table above || b) f ∙ sym (grows_by_texts above line)

-- ---- the mark of a paragraph, by its fields

abbrev with_line : Text → Text → Bool
with_line line text = has_table (text ++ 10 ∷ line)

pub marked_holds : (above line : Text) (holds : Bool) → holds ≡ true → holds ≡ has_table above → holds ≡ with_line line above
marked_holds above line holds e f =
    e ∙ holds_with above line true (is_some (table_in (last_line above ∷ text_lines line))) (sym e ∙ f) refl

pub unmarked_holds : (above line : Text) (holds answer : Bool) → holds ≡ false → holds ≡ has_table above
    → answer ≡ is_some (table_in (last_line above ∷ text_lines line)) → answer ≡ with_line line above
unmarked_holds above line holds answer e f g = holds_with above line false answer (sym e ∙ f) g

-- what is known of a paragraph's text
abbrev pub Knows : Option Bool → Text → Type 0
Knows table text = IfSome table (λ holds. holds ≡ has_table text)

pub known_of : (kind : Kind) (lines : Gathering) (table : Option Bool) → kind ≡ kinds.Paragraph table → IsTold kind lines
    → Knows table lines.all
known_of kind lines table e h = subst (λ (k : Kind). IsTold k lines) e h

pub told_is : (table : Option Bool) (text : Text) (holds : Bool) → table ≡ Some holds → Knows table text → holds ≡ has_table text
told_is table text holds e h = subst (λ (t : Option Bool). Knows t text) e h
