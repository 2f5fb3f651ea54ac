-- A pair in place is a pair of the pass.
use Rattle.std.proofs.Common.{◌≡◌, inl, inr, ℕ, suc, ◌+◌, ◌-◌, ◌<◌, ◌≤◌, Bool, true, false, List, [], ◌∷◌, ◌++◌, get_or, refl, ap, ap₂}
use Rattle.std.proofs.Common.{sym, ◌∙◌, subst, arith, append-nil}
use Rattle.std.specs.Prelude.{nat_lt, nat_le, ◌&&◌, if◌then◌else◌}
use Rattle.std.proofs.lemmas.Bool.{ltb-true, ltb-false, leb-true}
use Rattle.doc_rules.specs.Inlines.{Inline, Start, End, Delimiters, Run}
use Rattle.doc_rules.specs.Emphasis.{Opener, matches, strength, span_of, less}
use Rattle.doc_inlines_emphasis.specs.OnePass.{behind_pair, passed}
use Rattle.doc_inlines_emphasis.specs.Marks.{Marks, Placed, stretch, seen, AreDelimiters, ArePlaced, NoRun, ArePlain, IsPaired, less_opener}
use Rattle.doc_inlines_emphasis.specs.Marks.{less_closer, present}
use Rattle.doc_inlines_emphasis.specs.PassSteps.{OneOrTwo, outcome, Stands, onto}
use Rattle.doc_inlines_emphasis.proofs.Settled.{onto_twice}
use Rattle.doc_inlines_emphasis.proofs.Quiet.{onto_onto, pair_onto}
use Rattle.doc_inlines_emphasis.proofs.Passing.{passed_some}
use Rattle.doc_inlines_emphasis.proofs.Stretches.{Agree, stretch_same, stretch_to, placed_order, placed_front, placed_at, placed_join}
use Rattle.doc_inlines_emphasis.proofs.Stretches.{placed_until, placed_same, seen_split, seen_until, seen_same, AllMiss, marks_opener}
use Rattle.doc_inlines_emphasis.proofs.Stretches.{found_opener}

-- as many as a pair takes are left of both runs
pub strength_fits : (o c : Run) → 1 ≤ o.left → 1 ≤ c.left → OneOrTwo (strength o c) × (strength o c ≤ o.left) × (strength o c ≤ c.left)
strength_fits o c h g = by (nat_le 2 o.left) (nat_le 2 c.left) refl refl
  where
    by : (a b : Bool) → nat_le 2 o.left ≡ a → nat_le 2 c.left ≡ b → OneOrTwo (if a && b then 2 else 1)
        × ((if a && b then 2 else 1) ≤ o.left) × ((if a && b then 2 else 1) ≤ c.left)
    by true true e f = let k : 2 ≤ o.left = leb-true 2 o.left e in let l : 2 ≤ c.left = leb-true 2 c.left f in (inr refl, k, l)
    by true false e f = (inl refl, h, g)
    by false b e f = (inl refl, h, g)

-- ---- the marks of a pair

one_mark : (marks : Marks) (a n : ℕ) (x : Inline) → OneOrTwo n → get_or marks a [] ≡ x ∷ [] → (n ≡ 2 → get_or marks (suc a) [] ≡ [])
    → stretch marks a n ≡ x ∷ []
unfolding stretch
one_mark marks a n x (inl e) h g = ap (stretch marks a) e ∙ ap (λ t. t ++ []) h
one_mark marks a n x (inr e) h g = ap (stretch marks a) e ∙ ap₂ (λ s t. s ++ (t ++ [])) h (g e)

-- the place at which a pair begins
abbrev opening_of : Placed → ℕ → ℕ
opening_of o n = o.first + (o.run.left - n)

-- a start, what stood between the runs, and an end
pair_stretch : (marks next : Marks) (o : Placed) (b d n : ℕ) → OneOrTwo n → n ≤ o.run.left → o.first + o.run.left ≤ b
    → IsPaired marks next (o.first + (o.run.left - n)) b d n →
    stretch next (o.first + (o.run.left - n)) ((b + n) - (o.first + (o.run.left - n)))
    ≡ Start (span_of d n) ∷ stretch marks (o.first + o.run.left) (b - (o.first + o.run.left)) ++ (End (span_of d n) ∷ [])
pair_stretch marks next o b d n two l h p =
    let s : ℕ = o.first + (o.run.left - n) in
    let g : ℕ = o.first + o.run.left in
    let e : (o.first + o.run.left) - (o.first + (o.run.left - n)) ≡ n = omega arith in
    let f : (b + n) - b ≡ n = omega arith in
    let q : (o.first + (o.run.left - n)) + n ≡ o.first + o.run.left = omega arith in
    let start : stretch next s (g - s) ≡ Start (span_of d n) ∷ [] = ap (stretch next s) e
    ∙ one_mark next s n (Start (span_of d n)) two p.start p.start_second in
    let middle : stretch next g (b - g) ≡ stretch marks g (b - g) = sym
    (stretch_same marks next g (b - g) (λ i low high. p.between i (omega arith) (omega arith))) in
    let stop : stretch next b ((b + n) - b) ≡ End (span_of d n) ∷ [] = ap (stretch next b) f
    ∙ one_mark next b n (End (span_of d n)) two p.stop p.stop_second in
    stretch_to next s g (b + n) (omega arith) (omega arith)
    ∙ (ap (λ t. stretch next s (g - s) ++ t) (stretch_to next g b (b + n) h (omega arith))
    ∙ ap₂ (λ x y. x ++ y) start (ap₂ (λ x y. x ++ y) middle stop))

less_seen : (next : Marks) (a c : ℕ) (lower : List Placed) (o : Placed) (n : ℕ) → n ≤ o.run.left → o.first ≤ c
    → ArePlaced next a o.first lower → (m : Bool) → nat_lt n o.run.left ≡ m →
    seen next a c (lower ++ (elim m as (λ _. List Placed) [
      | true ↦ record { first = o.first; run = record o.run { left = o.run.left - n } }
          ∷ []
      | false ↦ []
    ]))
    ≡ seen next a o.first lower
    ++ ((elim m as (λ _. List Inline) [ true ↦ Delimiters (record o.run { left = o.run.left - n }) ∷ [] | false ↦ [] ])
    ++ stretch next (o.first + (o.run.left - n)) (c - (o.first + (o.run.left - n))))
unfolding seen
less_seen next a c lower o n l h p true e = seen_split next a c lower
    (record { first = o.first; run = record o.run { left = o.run.left - n } }) []
less_seen next a c lower o n l h p false e =
    let f : o.run.left ≤ n = ltb-false n o.run.left e in
    let g : o.first ≡ o.first + (o.run.left - n) = omega arith in
    ap (seen next a c) (append-nil lower)
    ∙ (seen_until next a o.first c lower p h ∙ ap (λ k. seen next a o.first lower ++ stretch next k (c - k)) g)

pub back : (xs : List Inline) → onto (onto xs []) [] ≡ xs
unfolding onto
back xs = onto_twice xs []

swapped : (xs ys : List Inline) → onto (onto xs []) ys ≡ xs ++ ys
unfolding onto
swapped xs ys = onto_onto xs [] ys

-- what is seen before the closer when the pair is made
pair_seen : (marks next : Marks) (a b : ℕ) (lower : List Placed) (o : Placed) (upper : List Placed) (d n : ℕ) → OneOrTwo n → n ≤ o.run.left
    → ArePlaced marks a b (lower ++ (o ∷ upper)) →
    IsPaired marks next (o.first + (o.run.left - n)) b d n →
    behind_pair (marks_opener marks a b lower o) d n ≡ onto (seen next a (b + n) (lower ++ less_opener n o)) []
pair_seen marks next a b lower o upper d n two l h p =
    let opener : Opener = marks_opener marks a b lower o in
    let before : List Inline = seen marks a o.first lower in
    let front : ArePlaced marks a o.first lower = placed_front marks a b lower o upper h in
    let same : Agree marks next a o.first = λ i low high. p.before i (omega arith) in
    let order : o.first + o.run.left ≤ b = placed_order marks (o.first + o.run.left) b upper (placed_at marks a b lower o upper h).2 in
    let w : List Inline = less n o.run ++ (Start (span_of d n) ∷ opener.between ++ (End (span_of d n) ∷ [])) in
    let shown : seen next a (b + n) (lower ++ less_opener n o) ≡ before ++ w =
    less_seen next a (b + n) lower o n l (omega arith) (placed_same marks next a o.first lower front same) (nat_lt n o.run.left) refl
    ∙ ap₂ (λ x y. x ++ (less n o.run ++ y)) (sym (seen_same marks next a o.first lower front same))
    (pair_stretch marks next o b d n two l order p) in
    sym (back (behind_pair opener d n))
    ∙ ap (λ t. onto t []) (pair_onto opener d n [] ∙ (swapped before w ∙ sym shown))

less_present : (n : ℕ) (r : Run) → less n r ≡ present (record r { left = r.left - n })
less_present n r = at (nat_lt n r.left) (nat_lt 0 (r.left - n)) refl refl
  where
    part : Bool → List Inline
    part m = elim m [ true ↦ Delimiters (record r { left = r.left - n }) ∷ [] | false ↦ [] ]

    at : (x y : Bool) → nat_lt n r.left ≡ x → nat_lt 0 (r.left - n) ≡ y → part x ≡ part y
    at true true e f = refl
    at false false e f = refl
    at true false e f = let g : n < r.left = ltb-true n r.left e in let h : r.left - n
        ≤ 0 = ltb-false 0 (r.left - n) f in absurd (omega arith)
    at false true e f = let g : r.left ≤ n = ltb-false n r.left e in let h : 0
        < r.left - n = ltb-true 0 (r.left - n) f in absurd (omega arith)

-- ---- the state of the pass at the present run

pub present_some : (r : Run) → 1 ≤ r.left → present r ≡ Delimiters r ∷ []
present_some r h = at (nat_lt 0 r.left) refl
  where
    part : Bool → List Inline
    part m = elim m [ true ↦ Delimiters r ∷ [] | false ↦ [] ]

    at : (m : Bool) → nat_lt 0 r.left ≡ m → part m ≡ Delimiters r ∷ []
    at true e = refl
    at false e = let f : r.left ≤ 0 = ltb-false 0 r.left e in absurd (omega arith)

-- a pair in place changes nothing in what the pass makes
pub pair_outcome : (marks next : Marks) (a b : ℕ) (lower : List Placed) (o : Placed) (upper : List Placed) (c : Placed)
    (rest : List Placed) →
    Stands marks a b (lower ++ (o ∷ upper)) c rest → 1 ≤ c.run.left → AllMiss c.run upper → matches o.run c.run ≡ true →
    IsPaired marks next (o.first + (o.run.left - strength o.run c.run)) c.first c.run.char (strength o.run c.run) →
    outcome marks a b (lower ++ (o ∷ upper)) c rest ≡ outcome next a b (lower ++ less_opener (strength o.run c.run) o)
    (less_closer (strength o.run c.run) c) rest
pair_outcome marks next a b lower o upper c rest s l miss e p =
    let n : ℕ = strength o.run c.run in
    let k : ℕ = c.first + c.run.left in
    let fits : OneOrTwo n × (n ≤ o.run.left) × (n ≤ c.run.left) = strength_fits o.run c.run
    (placed_at marks a c.first lower o upper s.before).0 l in
    let small : strength o.run c.run ≤ c.run.left = fits.2 in
    let same : seen marks k b rest ≡ seen next k b rest = seen_same marks next k b rest s.behind (λ i low high. p.behind i (omega arith)) in
    let place : c.first + c.run.left ≡ (c.first + strength o.run c.run) + (c.run.left - strength o.run c.run) = omega arith in
    ap (λ t. passed (onto (seen marks a c.first (lower ++ (o ∷ upper))) []) (t ++ seen marks k b rest)) (present_some c.run l)
    ∙ (passed_some (onto (seen marks a c.first (lower ++ (o ∷ upper))) []) c.run (seen marks k b rest)
    (marks_opener marks a c.first lower o) (found_opener marks a c.first lower o upper c.run s.plain s.before miss e)
    ∙ (ap₂ (λ x y. passed x (less n c.run ++ y)) (pair_seen marks next a c.first lower o upper c.run.char n fits.0 fits.1 s.before p) same
    ∙ ap₂ (λ x y. passed (onto (seen next a (c.first + n) (lower ++ less_opener n o)) []) (x ++ seen next y b rest)) (less_present n c.run)
    place))

-- ---- what holds of the marks holds on

paired_plain : (marks next : Marks) (s t c n : ℕ) → OneOrTwo n → ArePlain marks → IsPaired marks next s t c n → ArePlain next
paired_plain marks next s t c n two h p i = first_part (nat_lt i s) refl
  where
    kept_plain : get_or marks i [] ≡ get_or next i [] → NoRun (get_or next i [])
    kept_plain e = subst (λ xs. NoRun xs) e (h i)

    of_pair : (k : ℕ) (x : Inline) → NoRun (x ∷ []) → get_or next k [] ≡ x ∷ [] → (n ≡ 2 → get_or next (suc k) [] ≡ []) → k ≤ i → i < k + n
        → NoRun (get_or next i [])
    of_pair k x plain f g low high = by two
      where
        second : n ≡ 2 → (m : Bool) → nat_lt k i ≡ m → NoRun (get_or next i [])
        second e true f2 =
            let l : k < i = ltb-true k i f2 in
            let same : suc k ≡ i = omega arith in
            subst (λ j. NoRun (get_or next j [])) same (subst (λ xs. NoRun xs) (sym (g e)) tt)
        second e false f2 =
            let l : i ≤ k = ltb-false k i f2 in
            let same : k ≡ i = omega arith in
            subst (λ j. NoRun (get_or next j [])) same (subst (λ xs. NoRun xs) (sym f) plain)

        by : OneOrTwo n → NoRun (get_or next i [])
        by (inl e) = let same : k ≡ i = omega arith in subst (λ j. NoRun (get_or next j [])) same (subst (λ xs. NoRun xs) (sym f) plain)
        by (inr e) = second e (nat_lt k i) refl

    fifth_part : t ≤ i → (m : Bool) → nat_lt i (t + n) ≡ m → NoRun (get_or next i [])
    fifth_part low true e = let l : i < t + n = ltb-true i (t + n) e in of_pair t (End (span_of c n)) tt p.stop p.stop_second low l
    fifth_part low false e = let l : t + n ≤ i = ltb-false i (t + n) e in kept_plain (p.behind i l)

    third_part : s + n ≤ i → (m : Bool) → nat_lt i t ≡ m → NoRun (get_or next i [])
    third_part low true e = let l : i < t = ltb-true i t e in kept_plain (p.between i low l)
    third_part low false e = let l : t ≤ i = ltb-false i t e in fifth_part l (nat_lt i (t + n)) refl

    second_part : s ≤ i → (m : Bool) → nat_lt i (s + n) ≡ m → NoRun (get_or next i [])
    second_part low true e = let l : i < s + n = ltb-true i (s + n) e in of_pair s (Start (span_of c n)) tt p.start p.start_second low l
    second_part low false e = let l : s + n ≤ i = ltb-false i (s + n) e in third_part l (nat_lt i t) refl

    first_part : (m : Bool) → nat_lt i s ≡ m → NoRun (get_or next i [])
    first_part true e = let l : i < s = ltb-true i s e in kept_plain (p.before i l)
    first_part false e = let l : s ≤ i = ltb-false i s e in second_part l (nat_lt i (s + n)) refl

less_placed : (marks next : Marks) (a b : ℕ) (lower : List Placed) (o : Placed) (d n t : ℕ) → n ≤ o.run.left → o.first + o.run.left ≤ b
    → ArePlaced next a o.first lower → AreDelimiters marks o →
    IsPaired marks next (o.first + (o.run.left - n)) t d n → (m : Bool) → nat_lt n o.run.left ≡ m →
    ArePlaced next a b (lower ++ (elim m as (λ _. List Placed)
    [ true ↦ record { first = o.first; run = record o.run { left = o.run.left - n } } ∷ [] | false ↦ [] ]))
less_placed marks next a b lower o d n t l h front q p true e =
    let f : n < o.run.left = ltb-true n o.run.left e in
    let own : AreDelimiters next (record { first = o.first; run = record o.run { left = o.run.left - n } }) = λ i low high. sym
    (p.before i high) ∙ q i low (omega arith) in
    placed_join next a b lower (record { first = o.first; run = record o.run { left = o.run.left - n } }) [] front (omega arith) own
    (omega arith)
less_placed marks next a b lower o d n t l h front q p false e =
    subst (λ xs. ArePlaced next a b xs) (sym (append-nil lower)) (placed_until next a o.first b lower front (omega arith))

-- a pair keeps what holds of the marks
pub pair_stands : (marks next : Marks) (a b : ℕ) (lower : List Placed) (o : Placed) (upper : List Placed) (c : Placed) (rest : List Placed)
    →
    Stands marks a b (lower ++ (o ∷ upper)) c rest → 1 ≤ c.run.left →
    IsPaired marks next (o.first + (o.run.left - strength o.run c.run)) c.first c.run.char (strength o.run c.run) →
    Stands next a b (lower ++ less_opener (strength o.run c.run) o) (less_closer (strength o.run c.run) c) rest
pair_stands marks next a b lower o upper c rest s l p =
    let n : ℕ = strength o.run c.run in
    let own : (1 ≤ o.run.left) × AreDelimiters marks o × ArePlaced marks (o.first + o.run.left) c.first upper = placed_at marks a c.first
    lower o upper s.before in
    let fits : OneOrTwo n × (n ≤ o.run.left) × (n ≤ c.run.left) = strength_fits o.run c.run own.0 l in
    let mine : strength o.run c.run ≤ o.run.left = fits.1 in
    let small : strength o.run c.run ≤ c.run.left = fits.2 in
    let order : o.first + o.run.left ≤ c.first = placed_order marks (o.first + o.run.left) c.first upper own.2 in
    let front : ArePlaced next a o.first lower = placed_same marks next a o.first lower
    (placed_front marks a c.first lower o upper s.before) (λ i low high. p.before i (omega arith)) in
    let place : c.first + c.run.left ≡ (c.first + strength o.run c.run) + (c.run.left - strength o.run c.run) = omega arith in
    let rest_placed : ArePlaced next (c.first + c.run.left) b rest = placed_same marks next (c.first + c.run.left) b rest s.behind
    (λ i low high. p.behind i (omega arith)) in
    record {
      plain = paired_plain marks next (o.first + (o.run.left - n)) c.first c.run.char n fits.0 s.plain p;
      before = less_placed marks next a (c.first + n) lower o c.run.char n c.first fits.1 (omega arith) front own.1 p (nat_lt n o.run.left) refl;
      here = λ i low high. sym (p.behind i low) ∙ s.here i (omega arith) (omega arith);
      behind = subst (λ k. ArePlaced next k b rest) place rest_placed;
    }
