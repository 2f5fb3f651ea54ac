-- Stretches of marks, and the runs that are seen in them.
use Rattle.std.proofs.Common.{◌≡◌, ℕ, zero, suc, ◌+◌, ◌-◌, ◌<◌, ◌≤◌, true, false, List, [], ◌∷◌, ◌++◌, get_or, replicate, refl, ap, ap₂}
use Rattle.std.proofs.Common.{sym, ◌∙◌, Some, None, arith, append_assoc, append-nil}
use Rattle.std.specs.Prelude.{flat_map}
use Rattle.doc_rules.specs.Inlines.{Inline, Literal, Delimiters, Run, run_text, as_text}
use Rattle.doc_rules.specs.Emphasis.{Opener, matches, opener_of}
use Rattle.doc_inlines_emphasis.specs.Marks.{Marks, Placed, stretch, seen, AreDelimiters, ArePlaced, NoRun, ArePlain}
use Rattle.doc_inlines_emphasis.specs.PassSteps.{onto}
use Rattle.doc_inlines_emphasis.proofs.Settled.{onto_joined, after_match}
use Rattle.doc_inlines_emphasis.proofs.Quiet.{SameText, text_stays}
use Rattle.doc_inlines_emphasis.proofs.Passing.{texts, NoMatch, passes_over}

-- two lists of marks stand for the same between two places
abbrev pub Agree : Marks → Marks → ℕ → ℕ → Type 0
Agree marks next a b = (i : ℕ) → a ≤ i → i < b → get_or marks i [] ≡ get_or next i []

pub stretch_same : (marks next : Marks) (a n : ℕ) → Agree marks next a (a + n) → stretch marks a n ≡ stretch next a n
unfolding stretch
stretch_same marks next a zero h = refl
stretch_same marks next a (suc n) h = ap₂ (λ x y. x ++ y) (h a (omega arith) (omega arith))
    (stretch_same marks next (suc a) n (λ i l g. h i (omega arith) (omega arith)))

stretch_joined : (marks : Marks) (a n m : ℕ) → stretch marks a (n + m) ≡ stretch marks a n ++ stretch marks (a + n) m
unfolding stretch
stretch_joined marks a zero m =
    let e : zero + m ≡ m = omega arith in
    let f : a ≡ a + zero = omega arith in
    ap₂ (stretch marks) f e
stretch_joined marks a (suc n) m =
    let e : suc n + m ≡ suc (n + m) = omega arith in
    let f : suc a + n ≡ a + suc n = omega arith in
    ap (stretch marks a) e
    ∙ (ap (λ t. get_or marks a [] ++ t) (stretch_joined marks (suc a) n m ∙ ap (λ k. stretch marks (suc a) n ++ stretch marks k m) f)
    ∙ sym (append_assoc (get_or marks a []) (stretch marks (suc a) n) (stretch marks (a + suc n) m)))

-- up to a place, and on from there
pub stretch_to : (marks : Marks) (a b c : ℕ) → a ≤ b → b ≤ c → stretch marks a (c - a) ≡ stretch marks a (b - a) ++ stretch marks b (c - b)
stretch_to marks a b c h g =
    let e : c - a ≡ (b - a) + (c - b) = omega arith in
    let f : a + (b - a) ≡ b = omega arith in
    ap (stretch marks a) e ∙ (stretch_joined marks a (b - a) (c - b) ∙ ap (λ k. stretch marks a (b - a) ++ stretch marks k (c - b)) f)

stretch_replicate : (marks : Marks) (c a n : ℕ) → ((i : ℕ) → a ≤ i → i < a + n → get_or marks i [] ≡ Literal c ∷ [])
    → stretch marks a n ≡ replicate n (Literal c)
unfolding stretch
stretch_replicate marks c a zero h = refl
stretch_replicate marks c a (suc n) h = ap₂ (λ x y. x ++ y) (h a (omega arith) (omega arith))
    (stretch_replicate marks c (suc a) n (λ i l g. h i (omega arith) (omega arith)))

-- the marks of a run's delimiters are its text
pub stretch_text : (marks : Marks) (p : Placed) → AreDelimiters marks p → stretch marks p.first p.run.left ≡ run_text p.run
unfolding run_text
stretch_text marks p h = stretch_replicate marks p.run.char p.first p.run.left h

no_run_append : (xs ys : List Inline) → NoRun xs → NoRun ys → NoRun (xs ++ ys)
no_run_append [] ys h g = g
no_run_append (Delimiters r ∷ xs) ys h g = absurd h
no_run_append (x ∷ xs) ys h g = no_run_append xs ys h g

pub stretch_plain : (marks : Marks) (a n : ℕ) → ArePlain marks → NoRun (stretch marks a n)
unfolding stretch
stretch_plain marks a zero h = tt
stretch_plain marks a (suc n) h = no_run_append (get_or marks a []) (stretch marks (suc a) n) (h a) (stretch_plain marks (suc a) n h)

-- ---- places

pub placed_order : (marks : Marks) (a b : ℕ) (shown : List Placed) → ArePlaced marks a b shown → a ≤ b
placed_order marks a b [] h = h
placed_order marks a b (p ∷ more) h =
    let f : a ≤ p.first = h.0 in
    let g : p.first + p.run.left ≤ b = placed_order marks (p.first + p.run.left) b more h.3 in
    omega arith

-- the runs before one of them
pub placed_front : (marks : Marks) (a b : ℕ) (xs : List Placed) (p : Placed) (ys : List Placed) → ArePlaced marks a b (xs ++ (p ∷ ys))
    → ArePlaced marks a p.first xs
placed_front marks a b [] p ys h = h.0
placed_front marks a b (x ∷ xs) p ys h = (h.0, h.1, h.2, placed_front marks (x.first + x.run.left) b xs p ys h.3)

-- that run, and those behind it
pub placed_at : (marks : Marks) (a b : ℕ) (xs : List Placed) (p : Placed) (ys : List Placed) → ArePlaced marks a b (xs ++ (p ∷ ys)) →
    (1 ≤ p.run.left) × AreDelimiters marks p × ArePlaced marks (p.first + p.run.left) b ys
placed_at marks a b [] p ys h = (h.1, h.2, h.3)
placed_at marks a b (x ∷ xs) p ys h = placed_at marks (x.first + x.run.left) b xs p ys h.3

pub placed_join : (marks : Marks) (a b : ℕ) (xs : List Placed) (p : Placed) (ys : List Placed) → ArePlaced marks a p.first xs
    → 1 ≤ p.run.left → AreDelimiters marks p →
    ArePlaced marks (p.first + p.run.left) b ys → ArePlaced marks a b (xs ++ (p ∷ ys))
placed_join marks a b [] p ys h l d g = (h, l, d, g)
placed_join marks a b (x ∷ xs) p ys h l d g = (h.0, h.1, h.2, placed_join marks (x.first + x.run.left) b xs p ys h.3 l d g)

pub placed_until : (marks : Marks) (a b c : ℕ) (xs : List Placed) → ArePlaced marks a b xs → b ≤ c → ArePlaced marks a c xs
placed_until marks a b c [] h l = omega arith
placed_until marks a b c (x ∷ xs) h l = (h.0, h.1, h.2, placed_until marks (x.first + x.run.left) b c xs h.3 l)

pub placed_same : (marks next : Marks) (a b : ℕ) (xs : List Placed) → ArePlaced marks a b xs → Agree marks next a b → ArePlaced next a b xs
placed_same marks next a b [] h g = h
placed_same marks next a b (x ∷ xs) h g =
    let f : a ≤ x.first = h.0 in
    let l : x.first + x.run.left ≤ b = placed_order marks (x.first + x.run.left) b xs h.3 in (
      h.0,
      h.1,
      (λ i low high. sym (g i (omega arith) (omega arith)) ∙ h.2 i low high),
      placed_same marks next (x.first + x.run.left) b xs
          h.3 (λ i low high. g i (omega arith) high),
    )

-- ---- what is seen

-- before, at and behind a run
pub seen_split : (marks : Marks) (a b : ℕ) (xs : List Placed) (p : Placed) (ys : List Placed) →
    seen marks a b (xs ++ (p ∷ ys)) ≡ seen marks a p.first xs ++ (Delimiters p.run ∷ seen marks (p.first + p.run.left) b ys)
unfolding seen
seen_split marks a b [] p ys = refl
seen_split marks a b (x ∷ xs) p ys =
    ap (λ t. stretch marks a (x.first - a) ++ (Delimiters x.run ∷ t)) (seen_split marks (x.first + x.run.left) b xs p ys)
    ∙ sym (append_assoc (stretch marks a (x.first - a)) (Delimiters x.run ∷ seen marks (x.first + x.run.left) p.first xs)
    (Delimiters p.run ∷ seen marks (p.first + p.run.left) b ys))

-- further on no run is seen
pub seen_until : (marks : Marks) (a b c : ℕ) (xs : List Placed) → ArePlaced marks a b xs → b ≤ c
    → seen marks a c xs ≡ seen marks a b xs ++ stretch marks b (c - b)
unfolding seen
seen_until marks a b c [] h l = stretch_to marks a b c h l
seen_until marks a b c (x ∷ xs) h l =
    ap (λ t. stretch marks a (x.first - a) ++ (Delimiters x.run ∷ t)) (seen_until marks (x.first + x.run.left) b c xs h.3 l)
    ∙ sym (append_assoc (stretch marks a (x.first - a)) (Delimiters x.run ∷ seen marks (x.first + x.run.left) b xs)
    (stretch marks b (c - b)))

-- marks that agree are seen alike
pub seen_same : (marks next : Marks) (a b : ℕ) (xs : List Placed) → ArePlaced marks a b xs → Agree marks next a b
    → seen marks a b xs ≡ seen next a b xs
unfolding seen
seen_same marks next a b [] h g = stretch_same marks next a (b - a) (λ i low high. g i low (omega arith))
seen_same marks next a b (x ∷ xs) h g =
    let f : a ≤ x.first = h.0 in
    let l : x.first + x.run.left ≤ b = placed_order marks (x.first + x.run.left) b xs h.3 in
    ap₂ (λ s t. s ++ (Delimiters x.run ∷ t)) (stretch_same marks next a (x.first - a) (λ i low high. g i low (omega arith)))
    (seen_same marks next (x.first + x.run.left) b xs h.3 (λ i low high. g i (omega arith) high))

-- ---- as text

texts_append : (xs ys : List Inline) → texts (xs ++ ys) ≡ texts xs ++ texts ys
unfolding texts
texts_append [] ys = refl
texts_append (Delimiters r ∷ xs) ys = ap (λ t. run_text r ++ t) (texts_append xs ys) ∙ sym (append_assoc (run_text r) (texts xs) (texts ys))
texts_append (x ∷ xs) ys = ap (λ t. x ∷ t) (texts_append xs ys)

texts_plain : (xs : List Inline) → NoRun xs → texts xs ≡ xs
unfolding texts
texts_plain [] h = refl
texts_plain (Delimiters r ∷ xs) h = absurd h
texts_plain (x ∷ xs) h = ap (λ t. x ∷ t) (texts_plain xs h)

texts_text : (xs : List Inline) → SameText (texts xs) xs
unfolding texts run_text as_text
texts_text [] = refl
texts_text (Delimiters r ∷ xs) = text_stays r.left r.char (texts xs) ∙ ap (λ t. run_text r ++ t) (texts_text xs)
texts_text (x ∷ xs) = ap (λ t. as_text x ++ t) (texts_text xs)

-- the text of what is seen is the marks
pub text_of_seen : (marks : Marks) (a b : ℕ) (xs : List Placed) → ArePlain marks → ArePlaced marks a b xs
    → texts (seen marks a b xs) ≡ stretch marks a (b - a)
unfolding seen texts
text_of_seen marks a b [] h g = texts_plain (stretch marks a (b - a)) (stretch_plain marks a (b - a) h)
text_of_seen marks a b (x ∷ xs) h g =
    let s : List Inline = stretch marks a (x.first - a) in
    let behind : ℕ = x.first + x.run.left in
    let f : a ≤ x.first = g.0 in
    let l : x.first + x.run.left ≤ b = placed_order marks (x.first + x.run.left) b xs g.3 in
    let n : (x.first + x.run.left) - x.first ≡ x.run.left = omega arith in
    let own : stretch marks x.first ((x.first + x.run.left) - x.first) ≡ run_text x.run = ap (stretch marks x.first) n
    ∙ stretch_text marks x g.2 in
    texts_append s (Delimiters x.run ∷ seen marks behind b xs)
    ∙ (ap₂ (λ t u. t ++ (run_text x.run ++ u)) (texts_plain s (stretch_plain marks a (x.first - a) h))
    (text_of_seen marks behind b xs h g.3)
    ∙ (ap (λ t. s ++ (t ++ stretch marks behind (b - behind))) (sym own)
    ∙ (ap (λ t. s ++ t) (sym (stretch_to marks x.first behind b (omega arith) l)) ∙ sym (stretch_to marks a x.first b f (omega arith)))))

-- and when runs and brackets are text, what is seen is what the marks stand for
pub seen_as_text : (marks : Marks) (a b : ℕ) (xs : List Placed) → ArePlain marks → ArePlaced marks a b xs
    → SameText (seen marks a b xs) (stretch marks a (b - a))
seen_as_text marks a b xs h g = sym (texts_text (seen marks a b xs)) ∙ ap (flat_map as_text) (text_of_seen marks a b xs h g)

-- ---- a search on what is seen

-- none of the runs opens for the closer
abbrev pub AllMiss : Run → List Placed → Type 0
AllMiss closer [] = Unit {0}
AllMiss closer (placed ∷ more) = (matches placed.run closer ≡ false) × AllMiss closer more

plain_misses : (c : Run) (xs ys : List Inline) → NoRun xs → NoMatch c ys → NoMatch c (xs ++ ys)
plain_misses c [] ys h g = g
plain_misses c (Delimiters r ∷ xs) ys h g = absurd h
plain_misses c (x ∷ xs) ys h g = plain_misses c xs ys h g

plain_missed : (c : Run) (xs : List Inline) → NoRun xs → NoMatch c xs
plain_missed c [] h = tt
plain_missed c (Delimiters r ∷ xs) h = absurd h
plain_missed c (x ∷ xs) h = plain_missed c xs h

seen_misses : (marks : Marks) (a b : ℕ) (c : Run) (xs : List Placed) → ArePlain marks → AllMiss c xs → NoMatch c (seen marks a b xs)
unfolding seen
seen_misses marks a b c [] h g = plain_missed c (stretch marks a (b - a)) (stretch_plain marks a (b - a) h)
seen_misses marks a b c (x ∷ xs) h g =
    plain_misses c (stretch marks a (x.first - a)) (Delimiters x.run ∷ seen marks (x.first + x.run.left) b xs)
    (stretch_plain marks a (x.first - a) h)
    (g.0, seen_misses marks (x.first + x.run.left) b c xs h g.1)

-- the opener that a search finds by the marks
abbrev pub marks_opener : Marks → ℕ → ℕ → List Placed → Placed → Opener
marks_opener marks a b lower o =
    record {
      between = stretch marks (o.first + o.run.left) (b - (o.first + o.run.left));
      run = o.run;
      before = onto
          (seen marks a o.first lower) [];
    }

pub found_opener : (marks : Marks) (a b : ℕ) (lower : List Placed) (o : Placed) (upper : List Placed) (c : Run) → ArePlain marks
    → ArePlaced marks a b (lower ++ (o ∷ upper)) →
    AllMiss c upper → matches o.run c ≡ true → opener_of c [] (onto (seen marks a b (lower ++ (o ∷ upper))) [])
    ≡ Some (marks_opener marks a b lower o)
unfolding opener_of onto
found_opener marks a b lower o upper c h g miss e =
    let t : List Inline = seen marks (o.first + o.run.left) b upper in
    let before : List Inline = onto (seen marks a o.first lower) [] in
    ap (λ xs. opener_of c [] (onto xs [])) (seen_split marks a b lower o upper)
    ∙ (ap (opener_of c []) (onto_joined (seen marks a o.first lower) (Delimiters o.run ∷ t) [])
    ∙ (passes_over c t [] (Delimiters o.run ∷ before) (seen_misses marks (o.first + o.run.left) b c upper h miss)
    ∙ (ap (after_match c (texts t ++ []) o.run before) e
    ∙ ap (λ xs. Some (record { between = xs; run = o.run; before = before }))
    (append-nil (texts t) ∙ text_of_seen marks (o.first + o.run.left) b upper h (placed_at marks a b lower o upper g).2))))

pub found_none : (marks : Marks) (a b : ℕ) (shown : List Placed) (c : Run) → ArePlain marks → AllMiss c shown
    → opener_of c [] (onto (seen marks a b shown) []) ≡ None
unfolding opener_of
found_none marks a b shown c h miss = passes_over c (seen marks a b shown) [] [] (seen_misses marks a b c shown h miss)
