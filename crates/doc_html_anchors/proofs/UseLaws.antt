-- What is known of the anchors used after one more.
use Rattle.std.proofs.Common.{◌≡◌, ℕ, ◌+◌, ◌<◌, List, [], ◌∷◌, ◌++◌, map, drop, length, get_or, append-nil, append_assoc, chars, ap, sym}
use Rattle.std.proofs.Common.{subst, ◌∙◌}
use Rattle.std.specs.Prelude.{◌||◌, Result, Ok, Err, IfOk, bytes_eq}
use Rattle.std.proofs.lemmas.List.{drop_more, map-append}
use Rattle.doc_rules.specs.Characters.{Text}
use Rattle.doc_rules.specs.Anchors.{is_used, anchor_name, free_anchor, anchors_behind}
use Rattle.doc_html_anchors.specs.Uses.{Uses, IsAnchor}

-- the anchor that was given is the one that is free of those used, and is one of them from then on
pub given : {E : Type 0} (r : Result (List ℕ) E) (kept old new : List Text) (own name : Text) → kept ≡ old → own ≡ name
    → IfOk r (λ anchor. IsAnchor kept own (chars anchor)) → IfOk r (λ anchor. Uses new (chars anchor ∷ kept))
    → (used : List Text) → Uses old used → IfOk r (λ anchor. (chars anchor ≡ free_anchor used name)
    × Uses new (free_anchor used name ∷ used))
given (Err e) kept old new own name view same is uses used h = tt
given (Ok anchor) kept old new own name view same is uses used h =
    let inside : Uses kept used = subst (λ k. Uses k used) (sym view) h in
    let first : chars anchor ≡ free_anchor used name = is used inside ∙ ap (free_anchor used) same in
    (first, λ q. ap (λ a. bytes_eq q a || is_used used q) (sym first) ∙ ap (λ b. bytes_eq q (chars anchor) || b) (inside q) ∙ uses q)

-- a heading more has its anchor, and is followed by those behind it
pub heading_more : (texts out new : List (List ℕ)) (i : ℕ) (text other anchor : List ℕ) (used all : List Text) → i < length texts
    → text ≡ get_or texts i other → new ≡ out ++ (anchor ∷ []) → chars anchor ≡ free_anchor used (anchor_name (chars text))
    → map chars out ++ anchors_behind used (map chars (drop i texts)) ≡ all
    → map chars new ++ anchors_behind (free_anchor used (anchor_name (chars text)) ∷ used) (map chars (drop (i + 1) texts)) ≡ all
unfolding anchors_behind
heading_more texts out new i text other anchor used all h item pushed first before =
    let rest : List Text = anchors_behind (free_anchor used (anchor_name (chars text)) ∷ used) (map chars (drop (i + 1) texts)) in
    let front : drop i texts ≡ text ∷ drop (i + 1) texts = drop_more texts i other h ∙ ap (λ t. t ∷ drop (i + 1) texts) (sym item) in
    ap (λ xs. map chars xs ++ rest) pushed
    ∙ ap (λ xs. xs ++ rest) (map-append chars out (anchor ∷ []))
    ∙ append_assoc (map chars out) (chars anchor ∷ []) rest
    ∙ ap (λ a. map chars out ++ (a ∷ rest)) first
    ∙ ap (λ ts. map chars out ++ anchors_behind used (map chars ts)) (sym front)
    ∙ before

-- behind the last heading there is none
pub headings_end : (texts out : List (List ℕ)) (i : ℕ) (used all : List Text) → drop i texts ≡ []
    → map chars out ++ anchors_behind used (map chars (drop i texts)) ≡ all → map chars out ≡ all
unfolding anchors_behind
headings_end texts out i used all none before = sym (append-nil (map chars out))
    ∙ ap (λ ts. map chars out ++ anchors_behind used (map chars ts)) (sym none) ∙ before
