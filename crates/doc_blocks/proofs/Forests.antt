-- Blocks in a row, block by block.
use Rattle.std.proofs.Common.{◌≡◌, ℕ, Bool, List, [], ◌∷◌, ◌++◌, map, refl, ap, sym, ◌∙◌, chars}
use Rattle.std.specs.Prelude.{Option, option_map}
use Rattle.doc_rules.specs.Forests.{none, ◌▹◌, node}
use Rattle.doc_rules.specs.Blocks.{Paragraph, Heading, IndentedCode, FencedCode, HtmlBlock, ThematicBreak, BlockQuote, ListBlock, ListItem}
use Rattle.doc_rules.specs.Blocks.{TableBlock, Task, Blocks}
use Rattle.doc_blocks_starts.specs.Tables.{lines_in, source_of}
use Rattle.doc_blocks.specs.declared.block.Block.{Block, fold-roll-Block}
use Rattle.doc_blocks.specs.declared.block.Block.TheOpen.{Block-F}
use Rattle.doc_blocks.specs.declared.block.Block.TheVariants as variants
use Rattle.doc_blocks.specs.Views.{run, step, behind, forest, blocks_shown}

-- ---- several blocks

pub forest_append : (some more : List Block) (before : Blocks) → forest (some ++ more) before ≡ forest more (forest some before)
unfolding forest
forest_append [] more before = refl
forest_append (block ∷ some) more before = forest_append some more (behind block before)

pub forest_push : (some : List Block) (block : Block) (before : Blocks)
    → forest (some ++ block ∷ []) before ≡ behind block (forest some before)
unfolding forest
forest_push some block before = forest_append some (block ∷ []) before

run_forest : (some : List Block) (before : Blocks) → run (map behind some) before ≡ forest some before
unfolding run forest
run_forest [] before = refl
run_forest (block ∷ more) before = run_forest more (behind block before)

-- ---- one block

pub behind_para : (text : List ℕ) (before : Blocks) → behind (variants.Para text) before ≡ before ▹ Paragraph (chars text)
unfolding behind step
behind_para text before = ap (λ b. behind b before) (sym (variants.rolls-Para text))
    ∙ ap (λ f. f before) (fold-roll-Block (Blocks → Blocks) step (Block-F.Para text))

pub behind_heading : (level : ℕ) (text : List ℕ) (before : Blocks)
    → behind (variants.Heading level text) before ≡ before ▹ Heading level (chars text)
unfolding behind step
behind_heading level text before = ap (λ b. behind b before) (sym (variants.rolls-Heading level text))
    ∙ ap (λ f. f before) (fold-roll-Block (Blocks → Blocks) step (Block-F.Heading level text))

pub behind_code : (text : List ℕ) (before : Blocks) → behind (variants.Code text) before ≡ before ▹ IndentedCode (chars text)
unfolding behind step
behind_code text before = ap (λ b. behind b before) (sym (variants.rolls-Code text))
    ∙ ap (λ f. f before) (fold-roll-Block (Blocks → Blocks) step (Block-F.Code text))

pub behind_fence : (info text : List ℕ) (before : Blocks)
    → behind (variants.Fence info text) before ≡ before ▹ FencedCode (chars info) (chars text)
unfolding behind step
behind_fence info text before = ap (λ b. behind b before) (sym (variants.rolls-Fence info text))
    ∙ ap (λ f. f before) (fold-roll-Block (Blocks → Blocks) step (Block-F.Fence info text))

pub behind_html : (text : List ℕ) (before : Blocks) → behind (variants.Html text) before ≡ before ▹ HtmlBlock (chars text)
unfolding behind step
behind_html text before = ap (λ b. behind b before) (sym (variants.rolls-Html text))
    ∙ ap (λ f. f before) (fold-roll-Block (Blocks → Blocks) step (Block-F.Html text))

pub behind_break : (before : Blocks) → behind variants.Break before ≡ before ▹ ThematicBreak
unfolding behind step
behind_break before = ap (λ b. behind b before) (sym variants.rolls-Break)
    ∙ ap (λ f. f before) (fold-roll-Block (Blocks → Blocks) step Block-F.Break)

pub behind_table : (header delimiters : List ℕ) (rows : Option (List ℕ)) (before : Blocks)
    → behind (variants.Table header delimiters rows) before
    ≡ before ▹ TableBlock (source_of (chars header) (chars delimiters) (lines_in (option_map chars rows)))
unfolding behind step
behind_table header delimiters rows before = ap (λ b. behind b before) (sym (variants.rolls-Table header delimiters rows))
    ∙ ap (λ f. f before) (fold-roll-Block (Blocks → Blocks) step (Block-F.Table header delimiters rows))

pub behind_task : (done : Bool) (text : List ℕ) (before : Blocks)
    → behind (variants.Task done text) before ≡ before ▹ Task done (chars text)
unfolding behind step
behind_task done text before = ap (λ b. behind b before) (sym (variants.rolls-Task done text))
    ∙ ap (λ f. f before) (fold-roll-Block (Blocks → Blocks) step (Block-F.Task done text))

pub behind_quote : (inside : _) (before : Blocks) → behind (variants.Quote inside) before
    ≡ node before BlockQuote (blocks_shown inside.items)
unfolding behind step
behind_quote inside before =
    ap (λ b. behind b before) (sym (variants.rolls-Quote inside))
    ∙ (ap (λ f. f before) (fold-roll-Block (Blocks → Blocks) step (Block-F.Quote inside))
    ∙ ap (node before BlockQuote) (run_forest inside.items none))

pub behind_list : (start : Option ℕ) (tight : Bool) (items : _) (before : Blocks) →
    behind (variants.List start tight items) before ≡ node before (ListBlock start tight) (blocks_shown items.items)
unfolding behind step
behind_list start tight items before =
    ap (λ b. behind b before) (sym (variants.rolls-List start tight items))
    ∙ (ap (λ f. f before) (fold-roll-Block (Blocks → Blocks) step (Block-F.List start tight items))
    ∙ ap (node before (ListBlock start tight)) (run_forest items.items none))

pub behind_item : (inside : _) (before : Blocks) → behind (variants.Item inside) before ≡ node before ListItem (blocks_shown inside.items)
unfolding behind step
behind_item inside before =
    ap (λ b. behind b before) (sym (variants.rolls-Item inside))
    ∙ (ap (λ f. f before) (fold-roll-Block (Blocks → Blocks) step (Block-F.Item inside))
    ∙ ap (node before ListItem) (run_forest inside.items none))
