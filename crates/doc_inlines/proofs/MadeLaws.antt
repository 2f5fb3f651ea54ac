-- What was made of a text when marks, runs and brackets come or go.
use Rattle.std.proofs.Common.{◌≡◌, ℕ, suc, ◌+◌, ◌-◌, ◌≤◌, List, [], ◌∷◌, ◌++◌, length, get_or, take, drop, reverse, ap, ap₂, sym, ◌∙◌}
use Rattle.std.proofs.Common.{subst, arith, append_assoc, append-nil, length-append}
use Rattle.std.proofs.Math.Seq.{drop-length, take-length}
use Rattle.std.proofs.lemmas.List.{reverse-append, take-append-drop, drop-append-le, take-append-le}
use Rattle.doc_rules.specs.Inlines.{Inline, Delimiters, Open, onto}
use Rattle.doc_inlines_emphasis.specs.Marks.{Marks, Placed, stretch, seen, ArePlaced, AreDelimiters}
use Rattle.doc_inlines_emphasis.proofs.Stretches.{Agree, stretch_to, placed_order, placed_until, placed_same, seen_same}
use Rattle.doc_inlines_emphasis.proofs.Growing.{seen_none}
use Rattle.doc_inlines.specs.MadeSteps.{OpenBracket, bracket_shown, text_of_bracket, made_below, AreBrackets}

-- ---- lists

pub onto_both : (xs ys made : List Inline) → onto (xs ++ ys) made ≡ onto ys (onto xs made)
onto_both xs ys made = ap (λ t. t ++ made) (reverse-append xs ys) ∙ append_assoc (reverse ys) (reverse xs) made

-- ---- two stretches are one

pub placed_joined : (marks : Marks) (a b c : ℕ) (xs ys : List Placed) → ArePlaced marks a b xs → ArePlaced marks b c ys
    → ArePlaced marks a c (xs ++ ys)
placed_joined marks a b c [] [] h g = omega arith
placed_joined marks a b c [] (y ∷ ys) h g = (omega (arith, g.0), g.1, g.2, g.3)
placed_joined marks a b c (x ∷ xs) ys h g = (h.0, h.1, h.2, placed_joined marks (x.first + x.run.left) b c xs ys h.3 g)

pub seen_joined : (marks : Marks) (a b c : ℕ) (xs ys : List Placed) → ArePlaced marks a b xs → ArePlaced marks b c ys
    → seen marks a c (xs ++ ys) ≡ seen marks a b xs ++ seen marks b c ys
unfolding seen
seen_joined marks a b c [] [] h g = stretch_to marks a b c h g
seen_joined marks a b c [] (y ∷ ys) h g =
    ap (λ t. t ++ (Delimiters y.run ∷ seen marks (y.first + y.run.left) c ys)) (stretch_to marks a b y.first h g.0)
    ∙ append_assoc (stretch marks a (b - a)) (stretch marks b (y.first - b)) (Delimiters y.run ∷ seen marks (y.first + y.run.left) c ys)
seen_joined marks a b c (x ∷ xs) ys h g =
    ap (λ t. stretch marks a (x.first - a) ++ (Delimiters x.run ∷ t)) (seen_joined marks (x.first + x.run.left) b c xs ys h.3 g)
    ∙ sym (append_assoc (stretch marks a (x.first - a)) (Delimiters x.run ∷ seen marks (x.first + x.run.left) b xs) (seen marks b c ys))

-- ---- what was made depends on the marks before its end alone

agree_from : (marks next : Marks) (a b c d : ℕ) → Agree marks next a d → a ≤ b → c ≤ d → Agree marks next b c
agree_from marks next a b c d h f g i low high = h i (omega arith) (omega arith)

pub brackets_order : (marks : Marks) (end : ℕ) (runs : List Placed) (bracket : OpenBracket) (more : List OpenBracket)
    → AreBrackets marks end runs (bracket ∷ more) → suc bracket.mark ≤ end
brackets_order marks end runs bracket more h = placed_order marks (suc bracket.mark) end (drop bracket.runs runs) h.2

pub made_same : (marks next : Marks) (end dead : ℕ) (runs : List Placed) (brackets : List OpenBracket)
    → AreBrackets marks end runs brackets → Agree marks next 0 end →
    made_below marks end dead runs brackets ≡ made_below next end dead runs brackets
unfolding made_below
made_same marks next end dead runs [] h g = ap reverse (seen_same marks next 0 end runs h g)
made_same marks next end dead runs (bracket ∷ more) h g =
    let l : suc bracket.mark ≤ end = brackets_order marks end runs bracket more h in
    ap₂ (λ s t. onto s (Open (bracket_shown dead (length more) bracket) ∷ t))
    (seen_same marks next (suc bracket.mark) end (drop bracket.runs runs) h.2
    (agree_from marks next 0 (suc bracket.mark) end end g (omega arith) (omega arith)))
    (made_same marks next bracket.mark dead (take bracket.runs runs) more h.3
    (agree_from marks next 0 0 bracket.mark end g (omega arith) (omega arith)))

pub brackets_same : (marks next : Marks) (end : ℕ) (runs : List Placed) (brackets : List OpenBracket) → AreBrackets marks end runs brackets
    → Agree marks next 0 end → AreBrackets next end runs brackets
brackets_same marks next end runs [] h g = placed_same marks next 0 end runs h g
brackets_same marks next end runs (bracket ∷ more) h g =
    let l : suc bracket.mark ≤ end = brackets_order marks end runs bracket more h in (
      h.0,
      sym (g bracket.mark (omega arith) (omega arith)) ∙ h.1,
      placed_same marks next (suc bracket.mark) end (drop bracket.runs runs) h.2
          (agree_from marks next 0 (suc bracket.mark) end end g (omega arith) (omega arith)),
      brackets_same marks next bracket.mark (take bracket.runs runs) more h.3
          (agree_from marks next 0 0 bracket.mark end g (omega arith) (omega arith)),
    )

-- ---- marks and runs behind all

pub brackets_joined : (marks : Marks) (end last : ℕ) (runs more_runs : List Placed) (brackets : List OpenBracket)
    → AreBrackets marks end runs brackets → ArePlaced marks end last more_runs →
    AreBrackets marks last (runs ++ more_runs) brackets
brackets_joined marks end last runs more_runs [] h g = placed_joined marks 0 end last runs more_runs h g
brackets_joined marks end last runs more_runs (bracket ∷ more) h g =
    let n : length (runs ++ more_runs) ≡ length runs + length more_runs = length-append runs more_runs in
    let l : bracket.runs ≤ length runs = h.0 in (
      omega arith,
      h.1,
      subst (λ those. ArePlaced marks (suc bracket.mark) last those) (sym (drop-append-le bracket.runs runs more_runs h.0))
          (placed_joined marks (suc bracket.mark) end last (drop bracket.runs runs) more_runs h.2 g),
      subst (λ those. AreBrackets marks bracket.mark those more) (sym (take-append-le bracket.runs runs more_runs h.0)) h.3,
    )

pub made_joined : (marks : Marks) (end last dead : ℕ) (runs more_runs : List Placed) (brackets : List OpenBracket)
    → AreBrackets marks end runs brackets → ArePlaced marks end last more_runs →
    made_below marks last dead (runs ++ more_runs) brackets ≡ onto (seen marks end last more_runs) (made_below marks end dead runs brackets)
unfolding made_below
made_joined marks end last dead runs more_runs [] h g =
    ap reverse (seen_joined marks 0 end last runs more_runs h g) ∙ reverse-append (seen marks 0 end runs) (seen marks end last more_runs)
made_joined marks end last dead runs more_runs (bracket ∷ more) h g =
    let opened : List Inline = Open (bracket_shown dead (length more) bracket) ∷ made_below marks bracket.mark dead
    (take bracket.runs runs) more in
    ap₂ (λ those lower. onto (seen marks (suc bracket.mark) last those)
    (Open (bracket_shown dead (length more) bracket) ∷ made_below marks bracket.mark dead lower more))
    (drop-append-le bracket.runs runs more_runs h.0) (take-append-le bracket.runs runs more_runs h.0)
    ∙ (ap (λ s. onto s opened) (seen_joined marks (suc bracket.mark) end last (drop bracket.runs runs) more_runs h.2 g)
    ∙ onto_both (seen marks (suc bracket.mark) end (drop bracket.runs runs)) (seen marks end last more_runs) opened)

-- all runs stand among the marks
pub brackets_placed : (marks : Marks) (end : ℕ) (runs : List Placed) (brackets : List OpenBracket) → AreBrackets marks end runs brackets
    → ArePlaced marks 0 end runs
brackets_placed marks end runs [] h = h
brackets_placed marks end runs (bracket ∷ more) h =
    let lower : ArePlaced marks 0 bracket.mark (take bracket.runs runs) = brackets_placed marks bracket.mark (take bracket.runs runs) more
    h.3 in
    subst (λ those. ArePlaced marks 0 end those) (take-append-drop bracket.runs runs)
    (placed_joined marks 0 (suc bracket.mark) end (take bracket.runs runs) (drop bracket.runs runs)
    (placed_until marks 0 bracket.mark (suc bracket.mark) (take bracket.runs runs) lower (omega arith)) h.2)

-- ---- one mark more

same_length : {A : Type 0} (xs : List A) → length xs ≤ length xs
same_length xs = omega arith

none_placed : (marks : Marks) (a b : ℕ) → a ≤ b → ArePlaced marks a b []
none_placed marks a b h = h

pub seen_one : (marks : Marks) (a : ℕ) → seen marks a (suc a) [] ≡ get_or marks a []
unfolding seen stretch
seen_one marks a =
    let n : suc a - a ≡ 1 = omega arith in
    ap (stretch marks a) n ∙ append-nil (get_or marks a [])

pub made_mark : (marks next : Marks) (end dead : ℕ) (runs : List Placed) (brackets : List OpenBracket)
    → AreBrackets marks end runs brackets → Agree marks next 0 end →
    made_below next (suc end) dead runs brackets ≡ onto (get_or next end []) (made_below marks end dead runs brackets)
made_mark marks next end dead runs brackets h g =
    ap (λ those. made_below next (suc end) dead those brackets) (sym (append-nil runs))
    ∙ (made_joined next end (suc end) dead runs [] brackets (brackets_same marks next end runs brackets h g) (omega arith)
    ∙ ap₂ (λ s t. onto s t) (seen_one next end) (sym (made_same marks next end dead runs brackets h g)))

pub brackets_mark : (marks next : Marks) (end last : ℕ) (runs : List Placed) (brackets : List OpenBracket)
    → AreBrackets marks end runs brackets → Agree marks next 0 end → end ≤ last →
    AreBrackets next last runs brackets
brackets_mark marks next end last runs brackets h g l =
    subst (λ those. AreBrackets next last those brackets) (append-nil runs)
    (brackets_joined next end last runs [] brackets (brackets_same marks next end runs brackets h g) l)

-- ---- one run more

one_placed : (marks : Marks) (end : ℕ) (p : Placed) → p.first ≡ end → 1 ≤ p.run.left → AreDelimiters marks p
    → ArePlaced marks end (end + p.run.left) (p ∷ [])
one_placed marks end p e l d = (omega arith, l, d, omega arith)

seen_only : (marks : Marks) (end : ℕ) (p : Placed) → p.first ≡ end → seen marks end (end + p.run.left) (p ∷ []) ≡ Delimiters p.run ∷ []
unfolding seen stretch
seen_only marks end p e =
    let n : p.first - end ≡ 0 = omega arith in
    let m : (end + p.run.left) - (p.first + p.run.left) ≡ 0 = omega arith in
    ap₂ (λ i j. stretch marks end i ++ (Delimiters p.run ∷ stretch marks (p.first + p.run.left) j)) n m

pub made_run : (marks next : Marks) (end dead : ℕ) (runs : List Placed) (p : Placed) (brackets : List OpenBracket)
    → AreBrackets marks end runs brackets → Agree marks next 0 end →
    p.first ≡ end → 1 ≤ p.run.left → AreDelimiters next p →
    made_below next (end + p.run.left) dead (runs ++ (p ∷ [])) brackets ≡ Delimiters p.run ∷ made_below marks end dead runs brackets
made_run marks next end dead runs p brackets h g e l d =
    made_joined next end (end + p.run.left) dead runs (p ∷ []) brackets (brackets_same marks next end runs brackets h g)
    (one_placed next end p e l d)
    ∙ ap₂ (λ s t. onto s t) (seen_only next end p e) (sym (made_same marks next end dead runs brackets h g))

pub brackets_run : (marks next : Marks) (end : ℕ) (runs : List Placed) (p : Placed) (brackets : List OpenBracket)
    → AreBrackets marks end runs brackets → Agree marks next 0 end →
    p.first ≡ end → 1 ≤ p.run.left → AreDelimiters next p → AreBrackets next (end + p.run.left) (runs ++ (p ∷ [])) brackets
brackets_run marks next end runs p brackets h g e l d =
    brackets_joined next end (end + p.run.left) runs (p ∷ []) brackets (brackets_same marks next end runs brackets h g)
    (one_placed next end p e l d)

-- ---- one bracket more

pub made_bracket : (marks next : Marks) (end dead : ℕ) (runs : List Placed) (bracket : OpenBracket) (brackets : List OpenBracket)
    → AreBrackets marks end runs brackets → Agree marks next 0 end →
    bracket.mark ≡ end → bracket.runs ≡ length runs →
    made_below next (suc end) dead runs (bracket ∷ brackets) ≡ Open (bracket_shown dead (length brackets) bracket) ∷ made_below marks end
    dead runs brackets
unfolding made_below
made_bracket marks next end dead runs bracket brackets h g e f =
    let opened : Inline = Open (bracket_shown dead (length brackets) bracket) in
    ap₂ (λ i j. onto (seen next (suc i) (suc end) (drop j runs)) (opened ∷ made_below next i dead (take j runs) brackets)) e f
    ∙ (ap₂ (λ xs ys. onto (seen next (suc end) (suc end) xs) (opened ∷ made_below next end dead ys brackets)) (drop-length runs)
    (take-length runs)
    ∙ (ap (λ s. onto s (opened ∷ made_below next end dead runs brackets)) (seen_none next (suc end))
    ∙ ap (λ t. opened ∷ t) (sym (made_same marks next end dead runs brackets h g))))

pub brackets_bracket : (marks next : Marks) (end : ℕ) (runs : List Placed) (bracket : OpenBracket) (brackets : List OpenBracket)
    → AreBrackets marks end runs brackets → Agree marks next 0 end →
    bracket.mark ≡ end → bracket.runs ≡ length runs → get_or next end [] ≡ text_of_bracket bracket.image
    → AreBrackets next (suc end) runs (bracket ∷ brackets)
brackets_bracket marks next end runs bracket brackets h g e f text =
    let none : drop bracket.runs runs ≡ [] = ap (λ j. drop j runs) f ∙ drop-length runs in
    let all : take bracket.runs runs ≡ runs = ap (λ j. take j runs) f ∙ take-length runs in
    let lower : AreBrackets next end runs brackets = brackets_same marks next end runs brackets h g in (
      omega (arith, f),
      ap (λ i. get_or next i []) e ∙ text,
      subst (λ those. ArePlaced next (suc bracket.mark) (suc end) those) (sym none)
          (none_placed next (suc bracket.mark) (suc end) (omega (arith, e))),
      subst (λ those. AreBrackets next bracket.mark those brackets) (sym all) (subst (λ i. AreBrackets next i runs brackets) (sym e) lower),
    )
