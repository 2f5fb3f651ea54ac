-- Drafts when a bracket closes, and when all is read.
use Rattle.std.proofs.Common.{◌≡◌, Bool, true, false, ◌||◌, ap₂, reverse, chars, ℕ, suc, ◌+◌, ◌-◌, ◌<◌, ◌≤◌, min, List, [], ◌∷◌, ◌++◌}
use Rattle.std.proofs.Common.{length, get_or, set, take, drop, map, refl, ap, sym, ◌∙◌, subst, Some, None, arith, length-append, append-nil}
use Rattle.std.specs.Prelude.{nat_le, flat_map, if◌then◌else◌}
use Rattle.std.proofs.lemmas.Bool.{leb-true, leb-false}
use Rattle.std.proofs.lemmas.Grind.{flat_map-append}
use Rattle.std.proofs.lemmas.List.{length-map, length-reverse, take-take, take-set, take-map, drop-map, drop-set, drop-append-le}
use Rattle.std.proofs.lemmas.List.{take-append-le, get_or-take, length-set}
use Rattle.doc_rules.specs.Inlines.{Inline, Start, End, Span, Link, Image, onto}
use Rattle.doc_rules.specs.Links.{last_bracket, without_links, linked}
use Rattle.doc_rules.specs.Emphasis.{emphasis_of}
use Rattle.doc_rules.specs.Destinations.{Target}
use Rattle.doc_inlines_emphasis.specs.Marks.{Placed, ArePlaced, seen, stretch}
use Rattle.doc_inlines_emphasis.proofs.Stretches.{Agree, placed_same, placed_until}
use Rattle.doc_inlines_emphasis.proofs.Growing.{stretch_all}
use Rattle.doc_inlines_marks.specs.declared.mark_ref.MarkRef.{MarkRef}
use Rattle.doc_inlines_marks.specs.declared.mark_ref.MarkRef.TheVariants as mark
use Rattle.doc_inlines_marks.specs.declared.mark_ref.SpanRef as spans
use Rattle.doc_inlines_marks.specs.Views.{inlines_in, inlines_shown, span_shown}
use Rattle.doc_inlines_emphasis.specs.declared.marks.Place.{Place}
use Rattle.doc_inlines_emphasis.specs.Views.{marks_shown, StandsApart}
use Rattle.doc_inlines.specs.declared.bracket.Bracket.{Bracket}
use Rattle.doc_inlines.specs.MadeSteps.{text_of_bracket, made_below, AreBrackets}
use Rattle.doc_inlines.specs.DraftSteps.{bracket_in, brackets_shown, made_by, AreOpen}
use Rattle.doc_inlines.proofs.MadeLaws.{onto_both, made_same, brackets_mark, made_joined, brackets_same, brackets_order, brackets_placed}
use Rattle.doc_inlines.proofs.LinkLaws.{last_is, last_is_none, unlinked_is, brackets_popped, made_dead, made_alive, emphasis_of_made}
use Rattle.doc_inlines.proofs.DraftLaws.{items_final, shown_more}

abbrev lower_of : List MarkRef → List Placed → List Bracket → ℕ → Bracket → List Inline
lower_of items runs brackets dead b = made_below (marks_shown items) b.place.marks dead (take b.place.runs runs) (brackets_shown brackets)

abbrev upper_of : List MarkRef → List Placed → Bracket → List Inline
upper_of items runs b = seen (marks_shown items) (suc b.place.marks) (length items) (drop b.place.runs runs)

pub shown_length : (brackets : List Bracket) → length (brackets_shown brackets) ≡ length brackets
shown_length brackets = length-reverse (map bracket_in brackets) ∙ length-map brackets bracket_in

-- the brackets with the last one first
abbrev StandUnder : List MarkRef → List Placed → List Bracket → Bracket → Type 0
StandUnder items runs brackets b = AreBrackets (marks_shown items) (length items) runs (bracket_in b ∷ brackets_shown brackets)

pub stand_under : (items : List MarkRef) (runs : List Placed) (brackets : List Bracket) (b : Bracket)
    → AreOpen items runs (brackets ++ (b ∷ [])) → StandUnder items runs brackets b
stand_under items runs brackets b h = subst (λ those. AreBrackets (marks_shown items) (length items) runs those) (shown_more brackets b)
    h.stand

-- ---- the last bracket is taken

live_shown : (image : Bool) (dead number : ℕ) (brackets : List Bracket) → number ≡ length brackets
    → (image || nat_le dead (length (brackets_shown brackets))) ≡ (image || nat_le dead number)
live_shown image dead number brackets e = ap (λ n. image || nat_le dead n) (shown_length brackets ∙ sym e)

lower_alive : (items : List MarkRef) (runs : List Placed) (brackets : List Bracket) (b : Bracket) (dead new : ℕ)
    → new ≡ min dead (length brackets) →
    lower_of items runs brackets dead b ≡ lower_of items runs brackets new b
lower_alive items runs brackets b dead new e = at (nat_le (length brackets) dead) refl
  where
    at : (t : Bool) → nat_le (length brackets) dead ≡ t → lower_of items runs brackets dead b ≡ lower_of items runs brackets new b
    at true f =
        let n : length (brackets_shown brackets) ≡ length brackets = shown_length brackets in
        let l : length brackets ≤ dead = leb-true (length brackets) dead f in
        made_alive (marks_shown items) b.place.marks dead new (take b.place.runs runs) (brackets_shown brackets) (items_final items)
        (omega arith) (omega arith)
    at false f =
        let l : dead < length brackets = leb-false (length brackets) dead f in
        let same : dead ≡ new = omega arith in
        ap (λ k. lower_of items runs brackets k b) same

pub popped_last : (items : List MarkRef) (runs : List Placed) (old brackets : List Bracket) (b : Bracket) (dead new : ℕ)
    → old ≡ brackets ++ (b ∷ []) → new ≡ min dead (length brackets) →
    last_bracket [] (made_by items runs old dead) ≡ Some (record {
      since = upper_of items runs b;
      bracket = record { image = b.image; live = b.image || nat_le dead (length brackets); behind = chars b.behind.now };
      before = lower_of items runs brackets new b;
    })
unfolding made_by
popped_last items runs old brackets b dead new e g =
    ap (λ those. last_bracket [] (made_below (marks_shown items) (length items) dead runs those)) (ap brackets_shown e
    ∙ shown_more brackets b)
    ∙ (last_is (marks_shown items) (length items) dead runs (bracket_in b) (brackets_shown brackets) (items_final items)
    ∙ ap₂ (λ live lower. Some (record {
      since = upper_of items runs b;
      bracket = record { image = b.image; live = live; behind = chars b.behind.now };
      before = lower;
    }))
    (live_shown b.image dead (length brackets) brackets refl) (lower_alive items runs brackets b dead new g))

pub popped_text : (items : List MarkRef) (runs : List Placed) (old brackets : List Bracket) (b : Bracket) (new : ℕ)
    → old ≡ brackets ++ (b ∷ []) → AreOpen items runs old →
    made_by items runs brackets new ≡ onto (upper_of items runs b) (onto (text_of_bracket b.image) (lower_of items runs brackets new b))
unfolding made_by
popped_text items runs old brackets b new e h =
    unlinked_is (marks_shown items) (length items) new runs (bracket_in b) (brackets_shown brackets)
    (stand_under items runs brackets b (subst (λ those. AreOpen items runs those) e h))

pub popped_open : (items : List MarkRef) (runs : List Placed) (old brackets : List Bracket) (b : Bracket) → old ≡ brackets ++ (b ∷ [])
    → AreOpen items runs old → AreOpen items runs brackets
popped_open items runs old brackets b e h =
    record {
      stand = brackets_popped (marks_shown items) (length items) runs (bracket_in b) (brackets_shown brackets)
          (stand_under items runs brackets b (subst (λ those. AreOpen items runs those) e h));
    }

pub none_open : (items : List MarkRef) (runs : List Placed) (brackets : List Bracket) (dead : ℕ) → brackets ≡ []
    → last_bracket [] (made_by items runs brackets dead) ≡ None
unfolding made_by
none_open items runs brackets dead e =
    ap (λ those. last_bracket [] (made_below (marks_shown items) (length items) dead runs (brackets_shown those))) e
    ∙ last_is_none (marks_shown items) (length items) dead runs (items_final items)

-- ---- a link

agree_front : (m : ℕ) (items next : List MarkRef) → take m next ≡ take m items → Agree (marks_shown items) (marks_shown next) 0 m
agree_front m items next e i l h =
    let f : take m (marks_shown next) ≡ take m (marks_shown items) = take-map inlines_in m next
    ∙ (ap (map inlines_in) e ∙ sym (take-map inlines_in m items)) in
    sym (get_or-take m (marks_shown items) i [] h) ∙ (ap (λ xs. get_or xs i []) (sym f) ∙ get_or-take m (marks_shown next) i [] h)

-- what stands under the bracket stays
pub open_under : (items next : List MarkRef) (runs : List Placed) (brackets : List Bracket) (b : Bracket) → StandUnder items runs brackets b
    → take b.place.marks next ≡ take b.place.marks items →
    b.place.marks ≤ length next → AreOpen next (take b.place.runs runs) brackets
open_under items next runs brackets b h e l = record {
  stand = brackets_mark (marks_shown items) (marks_shown next) b.place.marks (length next) (take b.place.runs runs)
      (brackets_shown brackets) h.3 (agree_front b.place.marks items next e) l;
}

identity_map : (xs : List MarkRef) → flat_map (λ x. x) (marks_shown xs) ≡ inlines_shown xs
identity_map [] = refl
identity_map (x ∷ xs) = ap (λ t. inlines_in x ++ t) (identity_map xs)

seen_rest : (items : List MarkRef) (m : ℕ) → m ≤ length items → seen (marks_shown items) m (length items) [] ≡ inlines_shown (drop m items)
unfolding seen
seen_rest items m l =
    let n : length (marks_shown items) ≡ length items = length-map items inlines_in in
    ap (λ k. stretch (marks_shown items) m (k - m)) (sym n)
    ∙ (stretch_all (marks_shown items) m (subst (λ k. m ≤ k) (sym n) l)
    ∙ (ap (flat_map (λ x. x)) (drop-map inlines_in m items) ∙ identity_map (drop m items)))

-- all that is behind the marks under a bracket comes onto what was made of them
made_onto : (items next : List MarkRef) (runs : List Placed) (brackets : List Bracket) (b : Bracket) (dead : ℕ)
    → StandUnder items runs brackets b → take b.place.marks next ≡ take b.place.marks items →
    b.place.marks ≤ length next → made_by next (take b.place.runs runs) brackets dead
    ≡ onto (inlines_shown (drop b.place.marks next)) (lower_of items runs brackets dead b)
unfolding made_by
made_onto items next runs brackets b dead h e l =
    let m : ℕ = b.place.marks in
    let lower : List Placed = take b.place.runs runs in
    let agree : Agree (marks_shown items) (marks_shown next) 0 b.place.marks = agree_front b.place.marks items next e in
    ap (λ those. made_below (marks_shown next) (length next) dead those (brackets_shown brackets)) (sym (append-nil lower))
    ∙ (made_joined (marks_shown next) m (length next) dead lower [] (brackets_shown brackets)
    (brackets_same (marks_shown items) (marks_shown next) m lower (brackets_shown brackets) h.3 agree) l
    ∙ ap₂ (λ s t. onto s t) (seen_rest next m l)
    (sym (made_same (marks_shown items) (marks_shown next) m dead lower (brackets_shown brackets) h.3 agree)))

-- how many brackets are dead behind a link or an image
pub record IsDeadBehind (image : Bool) (old new : ℕ) (brackets : List Bracket) : Type 0 where
  pub kept : image ≡ true → new ≡ old
  pub all : image ≡ false → new ≡ length brackets

lower_linked : (items : List MarkRef) (runs : List Placed) (brackets : List Bracket) (b : Bracket) (image : Bool) (dead new : ℕ)
    → IsDeadBehind image dead new brackets →
    lower_of items runs brackets new b ≡ (if image then lower_of items runs brackets dead b else map without_links
    (lower_of items runs brackets dead b))
lower_linked items runs brackets b true dead new d = ap (λ k. lower_of items runs brackets k b) (d.kept refl)
lower_linked items runs brackets b false dead new d =
    let n : length (brackets_shown brackets) ≡ length brackets = shown_length brackets in
    let e : new ≡ length brackets = d.all refl in
    sym (made_dead (marks_shown items) b.place.marks dead new (take b.place.runs runs) (brackets_shown brackets) (items_final items)
    (omega arith))

-- a link over what was made since the bracket
abbrev pub link_over : Span → List Inline → List Inline → List Inline
link_over span since lower = End span ∷ onto (emphasis_of since) (Start span ∷ lower)

shown_append : (xs ys : List MarkRef) → inlines_shown (xs ++ ys) ≡ inlines_shown xs ++ inlines_shown ys
shown_append xs ys = flat_map-append inlines_in xs ys

-- the marks behind those under the bracket, when it is a link
linked_marks : (m : ℕ) (wrapped next : List MarkRef) (start end : spans.SpanRef) → m < length wrapped
    → next ≡ set wrapped m (mark.Start start) ++ (mark.End end ∷ []) →
    inlines_shown (drop m next) ≡ Start (span_shown start) ∷ (inlines_shown (drop (suc m) wrapped) ++ (End (span_shown end) ∷ []))
unfolding inlines_in
linked_marks m wrapped next start end l e =
    let n : length (set wrapped m (mark.Start start)) ≡ length wrapped = length-set wrapped m (mark.Start start) in
    let k : m + 1 ≡ suc m = omega arith in
    ap (λ xs. inlines_shown (drop m xs)) e
    ∙ (ap inlines_shown (drop-append-le m (set wrapped m (mark.Start start)) (mark.End end ∷ []) (omega arith)
    ∙ ap (λ xs. xs ++ (mark.End end ∷ [])) (drop-set wrapped m (mark.Start start) l))
    ∙ ap (λ xs. Start (span_shown start) ∷ xs) (ap (λ j. inlines_shown (drop j wrapped ++ (mark.End end ∷ []))) k
    ∙ shown_append (drop (suc m) wrapped) (mark.End end ∷ [])))

onto_link : (a b : Inline) (since made : List Inline) → onto (a ∷ (since ++ (b ∷ []))) made ≡ b ∷ onto since (a ∷ made)
onto_link a b since made = onto_both (a ∷ since) (b ∷ []) made ∙ ap (λ t. b ∷ t) (onto_both (a ∷ []) since made)

-- the marks before the bracket stay
pub kept_marks : (m : ℕ) (items wrapped turned next : List MarkRef) (start end : MarkRef) → take (suc m) wrapped ≡ take (suc m) items
    → length wrapped ≡ length items → m < length items →
    turned ≡ set wrapped m start → (take m turned ≡ take m items) × (length turned ≡ length items)
kept_marks m items wrapped turned next start end e n l f = (
  ap (take m) f ∙ (take-set wrapped m start ∙ (sym (take-take m (suc m) wrapped (omega arith))
      ∙ (ap (take m) e ∙ take-take m (suc m) items (omega arith)))),
  ap length f ∙ (length-set wrapped m start ∙ n),
)

pub kept_more : (m : ℕ) (items turned next : List MarkRef) (end : MarkRef) → take m turned ≡ take m items → length turned ≡ length items
    → m < length items → next ≡ turned ++ (end ∷ []) →
    (take m next ≡ take m items) × (m ≤ length next)
kept_more m items turned next end e n l f =
    let k : length next ≡ length (turned ++ (end ∷ [])) = ap length f in
    let j : length (turned ++ (end ∷ [])) ≡ length turned + 1 = length-append turned (end ∷ []) in
    (ap (take m) f ∙ (take-append-le m turned (end ∷ []) (omega arith) ∙ e), omega arith)

pub link_made : (items wrapped turned next : List MarkRef) (runs runs1 runs2 runs3 : List Placed) (brackets : List Bracket) (b : Bracket)
    (start end : spans.SpanRef) (target : Target) (dead new : ℕ) (live : Bool) →
    AreOpen items runs (brackets ++ (b ∷ [])) → length wrapped ≡ length items
    → take (suc b.place.marks) wrapped ≡ take (suc b.place.marks) items →
    inlines_shown (drop (suc b.place.marks) wrapped) ≡ emphasis_of (upper_of items runs b) → runs1 ≡ take b.place.runs runs →
    turned ≡ set wrapped b.place.marks (mark.Start start) → runs2 ≡ runs1 → next ≡ turned ++ (mark.End end ∷ []) → runs3 ≡ runs2 →
    span_shown start ≡ (if b.image then Image target else Link target) → span_shown end ≡ (if b.image then Image target else Link target)
    → IsDeadBehind b.image dead new brackets →
    made_by next runs3 brackets new
    ≡ linked (record {
      since = upper_of items runs b;
      bracket = record { image = b.image; live = live; behind = chars b.behind.now };
      before = lower_of items runs brackets dead b;
    }) target
unfolding linked
link_made items wrapped turned next runs runs1 runs2 runs3 brackets b start end target dead new live h n e em r t r2 p r3 ss se d =
    let m : ℕ = b.place.marks in
    let span : Span = if b.image then Image target else Link target in
    let under : StandUnder items runs brackets b = stand_under items runs brackets b h in
    let l : suc b.place.marks ≤ length items = brackets_order (marks_shown items) (length items) runs (bracket_in b)
    (brackets_shown brackets) under in
    let kept = kept_marks b.place.marks items wrapped turned next (mark.Start start) (mark.End end) e n (omega arith) t in
    let more = kept_more b.place.marks items turned next (mark.End end) kept.0 kept.1 (omega arith) p in
    let within : b.place.marks < length wrapped = omega arith in
    ap (λ those. made_by next those brackets new) (r3 ∙ (r2 ∙ r))
    ∙ (made_onto items next runs brackets b new under more.0 more.1
    ∙ (ap₂ (λ xs ys. onto xs ys) (linked_marks b.place.marks wrapped next start end within (p ∙ ap (λ xs. xs ++ (mark.End end ∷ [])) t))
    (lower_linked items runs brackets b b.image dead new d)
    ∙ (onto_link (Start (span_shown start)) (End (span_shown end)) (inlines_shown (drop (suc b.place.marks) wrapped))
    (if b.image then lower_of items runs brackets dead b else map without_links (lower_of items runs brackets dead b))
    ∙ (ap₂ (λ x y. End x ∷ onto (inlines_shown (drop (suc b.place.marks) wrapped))
    (Start y ∷ (if b.image then lower_of items runs brackets dead b else map without_links (lower_of items runs brackets dead b)))) se ss
    ∙ ap (λ s. End span ∷ onto s (Start span ∷ (if b.image then lower_of items runs brackets dead b else map without_links
    (lower_of items runs brackets dead b)))) em))))

pub link_open : (items next : List MarkRef) (runs those : List Placed) (brackets : List Bracket) (b : Bracket)
    → AreOpen items runs (brackets ++ (b ∷ [])) → take b.place.marks next ≡ take b.place.marks items →
    b.place.marks ≤ length next → those ≡ take b.place.runs runs → AreOpen next those brackets
link_open items next runs those brackets b h e l r = subst (λ xs. AreOpen next xs brackets) (sym r)
    (open_under items next runs brackets b (stand_under items runs brackets b h) e l)

-- the runs stand among the marks
pub open_placed : (items : List MarkRef) (runs : List Placed) (brackets : List Bracket) → AreOpen items runs brackets
    → ArePlaced (marks_shown items) 0 (length items) runs
open_placed items runs brackets h = brackets_placed (marks_shown items) (length items) runs (brackets_shown brackets) h.stand

-- and those before the bracket before its mark
pub lower_placed : (items next : List MarkRef) (runs those : List Placed) (brackets : List Bracket) (b : Bracket)
    → AreOpen items runs (brackets ++ (b ∷ [])) → take b.place.marks next ≡ take b.place.marks items →
    those ≡ take b.place.runs runs → ArePlaced (marks_shown next) 0 b.place.marks those
lower_placed items next runs those brackets b h e r =
    let under : StandUnder items runs brackets b = stand_under items runs brackets b h in
    subst (λ xs. ArePlaced (marks_shown next) 0 b.place.marks xs) (sym r)
    (placed_same (marks_shown items) (marks_shown next) 0 b.place.marks (take b.place.runs runs)
    (brackets_placed (marks_shown items) b.place.marks (take b.place.runs runs) (brackets_shown brackets) under.3)
    (agree_front b.place.marks items next e))

pub bracket_below : (items : List MarkRef) (runs : List Placed) (brackets : List Bracket) (b : Bracket)
    → AreOpen items runs (brackets ++ (b ∷ [])) → suc b.place.marks ≤ length items
bracket_below items runs brackets b h = brackets_order (marks_shown items) (length items) runs (bracket_in b) (brackets_shown brackets)
    (stand_under items runs brackets b h)

pub place_behind : (items : List MarkRef) (runs : List Placed) (brackets : List Bracket) (b : Bracket) (place : Place)
    → AreOpen items runs (brackets ++ (b ∷ [])) → place.marks ≡ suc b.place.marks → place.runs ≡ b.place.runs →
    StandsApart items runs place
place_behind items runs brackets b place h e f =
    let under : StandUnder items runs brackets b = stand_under items runs brackets b h in
    let l : suc b.place.marks ≤ length items = bracket_below items runs brackets b h in
    let lower : ArePlaced (marks_shown items) 0 b.place.marks (take b.place.runs runs) =
    brackets_placed (marks_shown items) b.place.marks (take b.place.runs runs) (brackets_shown brackets) under.3 in
    record {
      marks = omega (arith, e, l);
      runs_fit = subst (λ n. n ≤ length runs) (sym f) under.0;
      before = subst (λ n. ArePlaced (marks_shown items) 0 n (take place.runs runs)) (sym e)
          (subst (λ n. ArePlaced (marks_shown items) 0 (suc b.place.marks) (take n runs)) (sym f)
          (placed_until (marks_shown items) 0 b.place.marks (suc b.place.marks) (take b.place.runs runs) lower (omega arith)));
      behind = subst (λ n. ArePlaced (marks_shown items) n (length items) (drop place.runs runs)) (sym e)
          (subst (λ n. ArePlaced (marks_shown items) (suc b.place.marks) (length items) (drop n runs)) (sym f) under.2);
    }

-- ---- when all is read

pub first_place : (items : List MarkRef) (runs : List Placed) (brackets : List Bracket) (place : Place) → AreOpen items runs brackets
    → place.marks ≡ 0 → place.runs ≡ 0 → StandsApart items runs place
first_place items runs brackets place o e f =
    let h : ArePlaced (marks_shown items) 0 (length items) runs = open_placed items runs brackets o in
    record {
      marks = omega (arith, e);
      runs_fit = omega (arith, f);
      before = subst (λ n. ArePlaced (marks_shown items) 0 place.marks (take n runs)) (sym f) (omega arith);
      behind = subst (λ n. ArePlaced (marks_shown items) n (length items) (drop place.runs runs)) (sym e)
          (subst (λ n. ArePlaced (marks_shown items) 0 (length items) (drop n runs)) (sym f) h);
    }

pub finished : (items next : List MarkRef) (runs : List Placed) (brackets : List Bracket) (dead : ℕ) → AreOpen items runs brackets
    → inlines_shown next ≡ emphasis_of (seen (marks_shown items) 0 (length items) runs) →
    inlines_shown next ≡ emphasis_of (reverse (made_by items runs brackets dead))
unfolding made_by
finished items next runs brackets dead h e = e
    ∙ sym (emphasis_of_made (marks_shown items) (length items) dead runs (brackets_shown brackets) h.stand)

-- ---- the same, as the code says it

pub one_more : (n : ℕ) → n + 1 ≡ suc n
one_more n = omega arith

pub link_made_at : (items wrapped turned next : List MarkRef) (runs runs1 runs2 runs3 : List Placed) (brackets : List Bracket) (b : Bracket)
    (start end : spans.SpanRef) (target : Target) (dead new : ℕ) (live : Bool) →
    AreOpen items runs (brackets ++ (b ∷ [])) → length wrapped ≡ length items
    → take (b.place.marks + 1) wrapped ≡ take (b.place.marks + 1) items →
    inlines_shown (drop (b.place.marks + 1) wrapped) ≡ emphasis_of
    (seen (marks_shown items) (b.place.marks + 1) (length items) (drop b.place.runs runs)) → runs1 ≡ take b.place.runs runs →
    turned ≡ set wrapped b.place.marks (mark.Start start) → runs2 ≡ runs1 → next ≡ turned ++ (mark.End end ∷ []) → runs3 ≡ runs2 →
    span_shown start ≡ (if b.image then Image target else Link target) → span_shown end ≡ (if b.image then Image target else Link target)
    → (b.image ≡ true → new ≡ dead) → (b.image ≡ false → new ≡ length brackets) →
    made_by next runs3 brackets new
    ≡ linked (record {
      since = upper_of items runs b;
      bracket = record { image = b.image; live = live; behind = chars b.behind.now };
      before = lower_of items runs brackets dead b;
    }) target
link_made_at items wrapped turned next runs runs1 runs2 runs3 brackets b start end target dead new live h n e em r t r2 p r3 ss se d f =
    link_made items wrapped turned next runs runs1 runs2 runs3 brackets b start end target dead new live h n
    (subst (λ k. take k wrapped ≡ take k items) (one_more b.place.marks) e)
    (subst (λ k. inlines_shown (drop k wrapped) ≡ emphasis_of (seen (marks_shown items) k (length items) (drop b.place.runs runs)))
    (one_more b.place.marks) em)
    r t r2 p r3 ss se (record { kept = d; all = f })

pub turned_marks : (m : ℕ) (items wrapped turned : List MarkRef) (start : MarkRef) → take (m + 1) wrapped ≡ take (m + 1) items
    → length wrapped ≡ length items → m < length items → turned ≡ set wrapped m start →
    (take m turned ≡ take m items) × (length turned ≡ length items)
turned_marks m items wrapped turned start e n l f = kept_marks m items wrapped turned turned start start
    (subst (λ k. take k wrapped ≡ take k items) (one_more m) e) n l f

pub wrapped_marks : (m : ℕ) (items wrapped : List MarkRef) → take (m + 1) wrapped ≡ take (m + 1) items → take m wrapped ≡ take m items
wrapped_marks m items wrapped e = sym (take-take m (m + 1) wrapped (omega arith))
    ∙ (ap (take m) e ∙ take-take m (m + 1) items (omega arith))

pub popped_dead : (dead new : ℕ) (brackets : List Bracket) → new ≡ min dead (length brackets) → new ≤ length brackets
popped_dead dead new brackets e = omega arith

pub dead_within : (image : Bool) (dead new n : ℕ) → dead ≤ n → (image ≡ true → new ≡ dead) → (image ≡ false → new ≡ n) → new ≤ n
dead_within true dead new n l f g = let e : new ≡ dead = f refl in omega arith
dead_within false dead new n l f g = let e : new ≡ n = g refl in omega arith

pub popped_live : (items : List MarkRef) (runs : List Placed) (old brackets : List Bracket) (b : Bracket) (dead new : ℕ) (live : Bool)
    → old ≡ brackets ++ (b ∷ []) → new ≡ min dead (length brackets) →
    live ≡ (b.image || nat_le dead (length brackets)) →
    last_bracket [] (made_by items runs old dead) ≡ Some (record {
      since = upper_of items runs b;
      bracket = record { image = b.image; live = live; behind = chars b.behind.now };
      before = lower_of items runs brackets new b;
    })
popped_live items runs old brackets b dead new live e g f =
    popped_last items runs old brackets b dead new e g
    ∙ ap (λ v. Some (record {
      since = upper_of items runs b;
      bracket = record { image = b.image; live = v; behind = chars b.behind.now };
      before = lower_of items runs brackets new b;
    })) (sym f)

pub popped_stood : (items : List MarkRef) (runs : List Placed) (old brackets : List Bracket) (b : Bracket) → old ≡ brackets ++ (b ∷ [])
    → AreOpen items runs old → AreOpen items runs (brackets ++ (b ∷ []))
popped_stood items runs old brackets b e h = subst (λ those. AreOpen items runs those) e h
