-- Tags as they are written, one after another.
use Rattle.std.proofs.Common.{◌≡◌, ℕ, ◌<◌, ◌+◌, Bool, false, List, [], ◌∷◌, ◌++◌, refl, ap, sym, subst, ◌∙◌, take, length, get_or}
use Rattle.std.specs.Prelude.{reverse}
use Rattle.std.proofs.Math.Seq.{take-length}
use Rattle.std.proofs.lemmas.List.{take_more, reverse-append, map-append}
use Rattle.doc_rules.specs.Definitions.{Definition}
use Rattle.doc_rules.specs.Rules.{Rules}
use Rattle.doc_rules.specs.Forests.{none, ◌▹◌, node}
use Rattle.doc_rules.specs.Blocks.{Blocks}
use Rattle.doc_blocks_starts.specs.declared.tag.Tag as code
use Rattle.doc_blocks_starts.specs.Tags.{Tag, OneLeaf, Start, End, tags_of, tag_shown, tags_shown}
use Rattle.doc_html.specs.ProgressSteps.{Progress, Goes}
use Rattle.doc_html.specs.TellingSteps.{Nested, outside, entered, left_at, nested_behind, start_told, tag_told, tags_told, blocks_told}

module _ (rules : Rules) (refs : List Definition) where
  pub tags_append : (some more : List Tag) (told : Nested × Progress)
      → tags_told rules refs (some ++ more) told ≡ tags_told rules refs more (tags_told rules refs some told)
  unfolding tags_told
  tags_append [] more told = refl
  tags_append (tag ∷ some) more told = tags_append some more (nested_behind tag told.0, tag_told rules refs told.0.tight tag told.1)

  -- the tags of whole blocks write what the blocks do, and leave the nesting as it was
  pub whole_told : (blocks : Blocks) (told : Nested × Progress)
      → tags_told rules refs (tags_of blocks) told ≡ (told.0, blocks_told rules refs told.0.tight blocks told.1)
  unfolding tags_of tags_told tag_told nested_behind left_at blocks_told
  whole_told none told = refl
  whole_told (before ▹ leaf) told =
      tags_append (tags_of before) (OneLeaf leaf ∷ []) told
      ∙ ap (λ (t : Nested × Progress). tags_told rules refs (OneLeaf leaf ∷ []) t) (whole_told before told)
  whole_told (node before container inside) told =
      let here : Nested × Progress = (entered container told.0, start_told container (blocks_told rules refs told.0.tight before told.1)) in
      tags_append (tags_of before) (Start container ∷ (tags_of inside ++ End container ∷ [])) told
      ∙ (ap (λ (t : Nested × Progress). tags_told rules refs (Start container ∷ (tags_of inside ++ End container ∷ [])) t)
      (whole_told before told)
      ∙ (tags_append (tags_of inside) (End container ∷ []) here
      ∙ ap (λ (t : Nested × Progress). tags_told rules refs (End container ∷ []) t) (whole_told inside here)))

-- ---- the nesting

-- the innermost container stands last in the code
pub left_one : (old new : List Bool) (around tight : Bool) → old ≡ new ++ around ∷ []
    → ◌≡◌ {A = Nested} (record { tight = around; outer = reverse new }) (left_at tight (reverse old))
unfolding left_at
left_one old new around tight e = ap (left_at tight) (sym (ap reverse e ∙ reverse-append new (around ∷ [])))

pub left_none : (old new : List Bool) (tight : Bool) → old ≡ [] → new ≡ []
    → ◌≡◌ {A = Nested} (record { tight = tight; outer = reverse new }) (left_at tight (reverse old))
unfolding left_at
left_none old new tight was is = ap (λ (o : List Bool). record { tight = tight; outer = reverse o }) is
    ∙ ap (λ (o : List Bool). left_at tight (reverse o)) (sym was)

-- ---- a writer that goes along tags

-- these tags are written, and what comes behind them is nested like this
abbrev pub IsTold : {W : Type 0} → (W → Progress → Type 0) → Rules → List Definition → List code.Tag → Progress → Nested → W → Type 0
IsTold holds rules refs tags p nested w = (nested ≡ (tags_told rules refs (tags_shown tags) (outside, p)).0)
    × holds w (tags_told rules refs (tags_shown tags) (outside, p)).1

module _ {W : Type 0} (holds : W → Progress → Type 0) (rules : Rules) (refs : List Definition) (p : Progress) where
  pub told_begins : (w : W) (nested : Nested) → nested ≡ outside → holds w p → IsTold holds rules refs [] p nested w
  unfolding tags_told
  told_begins w nested e h = (e, h)

  pub told_goes_on : (a b : W) (tags : List code.Tag) (i : ℕ) (other : code.Tag) (old new : Nested) → i < length tags
      → new ≡ nested_behind (tag_shown (get_or tags i other)) old
      → Goes holds a b (tag_told rules refs old.tight (tag_shown (get_or tags i other)))
      → IsTold holds rules refs (take i tags) p old a → IsTold holds rules refs (take (i + 1) tags) p new b
  unfolding tags_told
  told_goes_on a b tags i other old new l n w h =
      let told : Nested × Progress = tags_told rules refs (tags_shown (take i tags)) (outside, p) in
      let one : Tag = tag_shown (get_or tags i other) in
      let shown : tags_shown (take (i + 1) tags) ≡ tags_shown (take i tags) ++ one ∷ []
      = ap tags_shown (take_more tags i other l) ∙ map-append tag_shown (take i tags) (get_or tags i other ∷ []) in
      let more : tags_told rules refs (tags_shown (take (i + 1) tags)) (outside, p)
      ≡ (nested_behind one told.0, tag_told rules refs told.0.tight one told.1)
      = ap (λ ts. tags_told rules refs ts (outside, p)) shown ∙ tags_append rules refs (tags_shown (take i tags)) (one ∷ []) (outside, p) in
      let written : holds b (tag_told rules refs told.0.tight one told.1)
      = subst (λ (s : Nested). holds b (tag_told rules refs s.tight one told.1)) h.0 (w told.1 h.1) in
      subst (λ (t : Nested × Progress). (new ≡ t.0) × holds b t.1) (sym more) (n ∙ ap (nested_behind one) h.0, written)

  pub told_all : (w : W) (tags : List code.Tag) (i : ℕ) (blocks : Blocks) (nested : Nested) → i ≡ length tags
      → tags_shown tags ≡ tags_of blocks → IsTold holds rules refs (take i tags) p nested w
      → holds w (blocks_told rules refs false blocks p)
  told_all w tags i blocks nested l e h =
      let all : take i tags ≡ tags = ap (λ n. take n tags) l ∙ take-length tags in
      subst (λ (t : Nested × Progress). holds w t.1)
      (ap (λ ts. tags_told rules refs (tags_shown ts) (outside, p)) all
      ∙ (ap (λ ts. tags_told rules refs ts (outside, p)) e ∙ whole_told rules refs blocks (outside, p))) h.1
