-- Tags of blocks, put behind others.
use Rattle.std.proofs.Common.{◌≡◌, ℕ, ◌<◌, ◌+◌, Bor, List, [], ◌∷◌, ◌++◌, Option, ap, chars, sym, ◌∙◌, subst, length, take, get_or}
use Rattle.std.specs.Prelude.{Result, OnOk, option_map}
use Rattle.std.proofs.lemmas.List.{take_more, map-append}
use Rattle.doc_rules.specs.Blocks.{Blocks}
use Rattle.doc_rules.specs.Characters.{Text}
use Rattle.doc_lines.specs.RestSteps.{rest_of}
use Rattle.doc_blocks_starts.specs.Tables.{lines_in, source_of}
use Rattle.doc_blocks_starts.specs.declared.table_lines.TableLines.{TableLines}
use Rattle.doc_blocks_starts.specs.declared.tag.Tag as code
use Rattle.doc_blocks_starts.specs.Tags.{Tag, table_shown, tag_shown, tags_shown}
use Rattle.doc_blocks_starts.specs.OpenTags.{Entry, open_tags}
use Rattle.doc_blocks.specs.declared.block.Block.{Block}
use Rattle.doc_blocks.specs.Views.{behind, forest}
use Rattle.doc_blocks.proofs.Forests.{forest_push}

-- one more tag
pub tag_pushed : (old new : List code.Tag) (tag : code.Tag) (front back : List Tag) → new ≡ old ++ tag ∷ []
    → tags_shown old ≡ front → front ++ tag_shown tag ∷ [] ≡ back → tags_shown new ≡ back
tag_pushed old new tag front back e f g = ap tags_shown e ∙ (map-append tag_shown old (tag ∷ [])
    ∙ (ap (λ (ts : List Tag). ts ++ tag_shown tag ∷ []) f ∙ g))

-- ---- blocks in a row

-- the same blocks, said in another way
pub as_blocks : {X E : Type 0} (result : Result X E) (tags : List code.Tag) (outer : List Entry) (blocks same : Blocks) → blocks ≡ same
    → OnOk result (tags_shown tags ≡ open_tags outer same) → OnOk result (tags_shown tags ≡ open_tags outer blocks)
as_blocks result tags outer blocks same e h = subst (λ b. OnOk result (tags_shown tags ≡ open_tags outer b)) (sym e) h

pub forest_begins : {tags : List Tag} (outer : List Entry) (before : Blocks) → tags ≡ open_tags outer before
    → tags ≡ open_tags outer (forest [] before)
unfolding forest
forest_begins outer before is = is

pub forest_goes_on : {tags : List Tag} (outer : List Entry) (items : List Block) (i : ℕ) (block : Block) (before : Blocks)
    → i < length items → block ≡ get_or items i block → tags ≡ open_tags outer (behind block (forest (take i items) before))
    → tags ≡ open_tags outer (forest (take (i + 1) items) before)
forest_goes_on outer items i block before l e is =
    let more : forest (take (i + 1) items) before ≡ behind block (forest (take i items) before)
    = ap (λ some. forest some before) (take_more items i block l)
    ∙ (forest_push (take i items) (get_or items i block) before ∙ ap (λ one. behind one (forest (take i items) before)) (sym e)) in
    is ∙ ap (open_tags outer) (sym more)

-- ---- tables

-- the lines of a table, kept beside the tags
pub kept_lines : (lines : TableLines) (header delimiters : Bor (List ℕ)) (rows : Option (Bor (List ℕ))) (above row : List ℕ)
    (below : Option (List ℕ)) → lines ≡ record { header = header; delimiters = delimiters; rows = rows } → header.now ≡ above
    → delimiters.now ≡ row → rest_of rows ≡ option_map chars below
    → table_shown lines ≡ source_of (chars above) (chars row) (lines_in (option_map chars below))
kept_lines lines header delimiters rows above row below is e f g =
    ap table_shown is
    ∙ (ap (λ (t : List ℕ). source_of (chars t) (chars delimiters.now) (lines_in (rest_of rows))) e
    ∙ (ap (λ (t : List ℕ). source_of (chars above) (chars t) (lines_in (rest_of rows))) f
    ∙ ap (λ (o : Option Text). source_of (chars above) (chars row) (lines_in o)) g))
