-- What a tree shows of tags, tag by tag.
use Rattle.std.proofs.Common.{◌≡◌, ◌∙◌, ℕ, ◌+◌, ◌<◌, List, [], ◌∷◌, ◌++◌, map, reverse, take, length, get_or, refl, ap, sym, arith}
use Rattle.std.proofs.Common.{Vec, Global}
use Rattle.std.proofs.lemmas.List.{reverse-append, map-append, take_more}
use Rattle.doc_rules.specs.Forests.{none, ◌▹◌, node}
use Rattle.doc_rules.specs.Blocks.{Blocks, Leaf, Container}
use Rattle.doc_blocks_starts.specs.Tags.{Tag, OneLeaf, Start, End, tag_shown, tags_shown}
use Rattle.doc_blocks_starts.specs.OpenTags.{Entry, Open, read_one, read_on, read}
use Rattle.doc_blocks_starts.specs.declared.tag.Tag as code
use Rattle.doc_blocks_starts.proofs.TagLaws.{read_append}
use Rattle.doc_blocks.specs.declared.block.Block.{Block}
use Rattle.doc_blocks.specs.declared.tree.Tree.{Tree}
use Rattle.doc_blocks.specs.Views.{behind, forest, blocks_shown}
use Rattle.doc_blocks.specs.TreeSteps.{Shows}
use Rattle.doc_blocks.proofs.Forests.{forest_push}

abbrev pub Children : Type 0
Children = Vec Block Global

-- the blocks before each open container, the innermost first
abbrev befores : List Children → List Blocks
befores outer = reverse (map (λ (v : Children). blocks_shown v.items) outer)

befores_push : (outer : List Children) (v : Children) → befores (outer ++ v ∷ []) ≡ blocks_shown v.items ∷ befores outer
befores_push outer v =
    let shown : Children → Blocks = λ x. blocks_shown x.items in
    ap reverse (map-append shown outer (v ∷ [])) ∙ reverse-append (map shown outer) (shown v ∷ [])

no_items : (outer : List Children) → length outer ≡ 0 → outer ≡ []
no_items [] e = refl
no_items (v ∷ outer) e = absurd (omega (arith, e))

pub shows_none : (tree : Tree) → tree.before.items ≡ [] → tree.blocks.items ≡ [] → Shows tree (read [])
unfolding forest read_on
shows_none tree e f = record {
  before = ap (λ (outer : List Children). befores outer) e;
  last = ap (λ (bs : List Block). blocks_shown bs) f;
}

pub shows_leaf : (tree tree' : Tree) (state : Open) (block : Block) (leaf : Leaf) → Shows tree state → tree'.before ≡ tree.before
    → tree'.blocks.items ≡ tree.blocks.items ++ block ∷ [] → ((before : Blocks) → behind block before ≡ before ▹ leaf)
    → Shows tree' (read_one (OneLeaf leaf) state)
unfolding read_one
shows_leaf tree tree' state block leaf h e f g = record {
  before = ap (λ (v : Vec Children Global). befores v.items) e ∙ h.before;
  last = ap (λ (bs : List Block). blocks_shown bs) f
      ∙ (forest_push tree.blocks.items block none ∙ (g (blocks_shown tree.blocks.items) ∙ ap (λ (bs : Blocks). bs ▹ leaf) h.last));
}

pub shows_start : (tree tree' : Tree) (state : Open) (container : Container) (v : Children) → Shows tree state → v ≡ tree.blocks
    → tree'.before.items ≡ tree.before.items ++ v ∷ [] → tree'.blocks.items ≡ [] → Shows tree' (read_one (Start container) state)
unfolding read_one forest
shows_start tree tree' state container v h e f g = record {
  before = ap (λ (outer : List Children). befores outer) f
      ∙ (befores_push tree.before.items v
      ∙ (ap (λ (x : Children). blocks_shown x.items ∷ befores tree.before.items) e
      ∙ (ap (λ (bs : Blocks). bs ∷ befores tree.before.items) h.last ∙ ap (λ (outer : List Blocks). state.1 ∷ outer) h.before)));
  last = ap (λ (bs : List Block). blocks_shown bs) g;
}

-- an end without its start
pub shows_no_end : (tree tree' : Tree) (container : Container) (entries : List Entry) (last : Blocks) → Shows tree (entries, last)
    → length tree.before.items ≡ 0 → length tree'.before.items ≡ 0 → tree'.blocks ≡ tree.blocks
    → Shows tree' (read_one (End container) (entries, last))
unfolding read_one
shows_no_end tree tree' container [] last h e f g = record {
  before = ap (λ (outer : List Children). befores outer) (no_items tree'.before.items f);
  last = ap (λ (v : Children). blocks_shown v.items) g ∙ h.last;
}
shows_no_end tree tree' container (entry ∷ entries) last h e f g =
    let nothing : [] ≡ entry.1 ∷ map (λ (x : Entry). x.1) entries =
    sym (ap (λ (outer : List Children). befores outer) (no_items tree.before.items e)) ∙ h.before in
    absurd cc

pub shows_end : (tree tree' : Tree) (container : Container) (entries : List Entry) (last : Blocks) (before inside : Children)
    (block : Block)
    → Shows tree (entries, last) → tree.before.items ≡ tree'.before.items ++ before ∷ [] → inside ≡ tree.blocks
    → tree'.blocks.items ≡ before.items ++ block ∷ []
    → ((bs : Blocks) → behind block bs ≡ node bs container (blocks_shown inside.items))
    → Shows tree' (read_one (End container) (entries, last))
unfolding read_one
shows_end tree tree' container [] last before inside block h e f g k =
    let some : blocks_shown before.items ∷ befores tree'.before.items ≡ [] =
    sym (befores_push tree'.before.items before) ∙ (sym (ap (λ (outer : List Children). befores outer) e) ∙ h.before) in
    absurd cc
shows_end tree tree' container (entry ∷ entries) last before inside block h e f g k =
    let both : blocks_shown before.items ∷ befores tree'.before.items ≡ entry.1 ∷ map (λ (x : Entry). x.1) entries =
    sym (befores_push tree'.before.items before) ∙ (sym (ap (λ (outer : List Children). befores outer) e) ∙ h.before) in
    let first : blocks_shown before.items ≡ entry.1 = cc in
    let others : befores tree'.before.items ≡ map (λ (x : Entry). x.1) entries = cc in
    record {
      before = others;
      last = ap (λ (bs : List Block). blocks_shown bs) g
          ∙ (forest_push before.items block none
          ∙ (k (blocks_shown before.items)
          ∙ (ap (λ (bs : Blocks). node bs container (blocks_shown inside.items)) first
          ∙ (ap (λ (v : Children). node entry.1 container (blocks_shown v.items)) f
          ∙ ap (λ (bs : Blocks). node entry.1 container bs) h.last))));
    }

-- one more tag
pub read_more : (ts : List code.Tag) (i : ℕ) (d : code.Tag) → i < length ts
    → read (tags_shown (take (i + 1) ts)) ≡ read_one (tag_shown (get_or ts i d)) (read (tags_shown (take i ts)))
unfolding read_on
read_more ts i d h =
    ap (λ (t : List code.Tag). read (tags_shown t)) (take_more ts i d h)
    ∙ (ap (λ (t : List Tag). read t) (map-append tag_shown (take i ts) (get_or ts i d ∷ []))
    ∙ read_append (tags_shown (take i ts)) (tag_shown (get_or ts i d) ∷ []) ([], none))
