-- What was made of a text when a bracket closes, and when all is read.
use Rattle.std.proofs.Common.{◌≡◌, ℕ, suc, ◌+◌, ◌-◌, ◌≤◌, Bool, true, false, ◌||◌, List, [], ◌∷◌, ◌++◌, length, take, drop, map, reverse}
use Rattle.std.proofs.Common.{refl, ap, ap₂, sym, ◌∙◌, subst, Some, None, arith, append_assoc, append-nil}
use Rattle.std.specs.Prelude.{nat_le}
use Rattle.std.proofs.lemmas.List.{map-append, reverse-reverse, reverse-append, take-append-drop}
use Rattle.std.proofs.lemmas.Bool.{lt-leb}
use Rattle.doc_rules.specs.Inlines.{Inline, Delimiters, Open, Bracket, bracket_text, onto}
use Rattle.doc_rules.specs.Links.{last_bracket, without_links}
use Rattle.doc_rules.specs.Emphasis.{emphasis_of}
use Rattle.doc_inlines_emphasis.specs.OnePass.{plain_brackets}
use Rattle.doc_inlines_emphasis.specs.Marks.{Marks, Placed, stretch, seen, ArePlaced, IsFinal}
use Rattle.doc_inlines_emphasis.proofs.BracketLaws.{brackets_are_text, plain_append, plain_final}
use Rattle.doc_inlines_emphasis.proofs.Finals.{AreFinal, final_stretch}
use Rattle.doc_inlines.specs.MadeSteps.{OpenBracket, bracket_shown, text_of_bracket, made_below, AreBrackets}
use Rattle.doc_inlines.proofs.MadeLaws.{onto_both, placed_joined, seen_joined, seen_one, made_joined, brackets_joined, brackets_placed}
use Rattle.std.proofs.Math.Bool.{or-false}

-- ---- the nearest bracket

-- no inline of the list is a bracket
abbrev pub NoBracket : List Inline → Type 0
NoBracket [] = Unit {0}
NoBracket (Open bracket ∷ more) = ⊥
NoBracket (inline ∷ more) = NoBracket more

no_bracket_append : (xs ys : List Inline) → NoBracket xs → NoBracket ys → NoBracket (xs ++ ys)
no_bracket_append [] ys h g = g
no_bracket_append (Open k ∷ xs) ys h g = absurd h
no_bracket_append (x ∷ xs) ys h g = no_bracket_append xs ys h g

final_no_bracket : (xs : List Inline) → IsFinal xs → NoBracket xs
final_no_bracket [] h = tt
final_no_bracket (Delimiters r ∷ xs) h = absurd h
final_no_bracket (Open k ∷ xs) h = absurd h
final_no_bracket (x ∷ xs) h = final_no_bracket xs h

pub no_bracket_seen : (marks : Marks) (a b : ℕ) (runs : List Placed) → AreFinal marks → NoBracket (seen marks a b runs)
unfolding seen
no_bracket_seen marks a b [] h = final_no_bracket (stretch marks a (b - a)) (final_stretch marks a (b - a) h)
no_bracket_seen marks a b (p ∷ more) h =
    no_bracket_append (stretch marks a (p.first - a)) (Delimiters p.run ∷ seen marks (p.first + p.run.left) b more)
    (final_no_bracket (stretch marks a (p.first - a)) (final_stretch marks a (p.first - a) h))
    (no_bracket_seen marks (p.first + p.run.left) b more h)

pub onto_first : (x : Inline) (xs made : List Inline) → onto (x ∷ xs) made ≡ onto xs (x ∷ made)
onto_first x xs made = onto_both (x ∷ []) xs made

-- the search passes over inlines that are no brackets
searched_past : (since xs made : List Inline) → NoBracket xs → last_bracket since (onto xs made) ≡ last_bracket (xs ++ since) made
unfolding last_bracket
searched_past since [] made h = refl
searched_past since (Open k ∷ xs) made h = absurd h
searched_past since (x ∷ xs) made h = ap (last_bracket since) (onto_first x xs made) ∙ searched_past since xs (x ∷ made) h

pub last_is : (marks : Marks) (end dead : ℕ) (runs : List Placed) (bracket : OpenBracket) (more : List OpenBracket) → AreFinal marks →
    last_bracket [] (made_below marks end dead runs (bracket ∷ more)) ≡ Some (record {
      since = seen marks (suc bracket.mark) end (drop bracket.runs runs);
      bracket = bracket_shown dead (length more) bracket;
      before = made_below marks bracket.mark dead (take bracket.runs runs) more;
    })
unfolding made_below last_bracket
last_is marks end dead runs bracket more h =
    let s : List Inline = seen marks (suc bracket.mark) end (drop bracket.runs runs) in
    let opened : List Inline = Open (bracket_shown dead (length more) bracket) ∷ made_below marks bracket.mark dead
    (take bracket.runs runs) more in
    searched_past [] s opened (no_bracket_seen marks (suc bracket.mark) end (drop bracket.runs runs) h)
    ∙ ap (λ since. last_bracket since opened) (append-nil s)

pub last_is_none : (marks : Marks) (end dead : ℕ) (runs : List Placed) → AreFinal marks
    → last_bracket [] (made_below marks end dead runs []) ≡ None
unfolding made_below last_bracket
last_is_none marks end dead runs h =
    let s : List Inline = seen marks 0 end runs in
    ap (last_bracket []) (sym (append-nil (reverse s))) ∙ searched_past [] s [] (no_bracket_seen marks 0 end runs h)

-- ---- without a link

pub unlinked_is : (marks : Marks) (end dead : ℕ) (runs : List Placed) (bracket : OpenBracket) (more : List OpenBracket)
    → AreBrackets marks end runs (bracket ∷ more) →
    made_below marks end dead runs more
    ≡ onto (seen marks (suc bracket.mark) end (drop bracket.runs runs))
    (onto (text_of_bracket bracket.image) (made_below marks bracket.mark dead (take bracket.runs runs) more))
unlinked_is marks end dead runs bracket more h =
    let xs : List Placed = take bracket.runs runs in
    let ys : List Placed = drop bracket.runs runs in
    let lower : AreBrackets marks (suc bracket.mark) (xs ++ []) more = brackets_joined marks bracket.mark (suc bracket.mark) xs [] more h.3
    (omega arith) in
    let own : made_below marks (suc bracket.mark) dead xs more ≡ onto (text_of_bracket bracket.image)
    (made_below marks bracket.mark dead xs more) =
    ap (λ those. made_below marks (suc bracket.mark) dead those more) (sym (append-nil xs))
    ∙ (made_joined marks bracket.mark (suc bracket.mark) dead xs [] more h.3 (omega arith)
    ∙ ap (λ s. onto s (made_below marks bracket.mark dead xs more)) (seen_one marks bracket.mark ∙ h.1)) in
    ap (λ those. made_below marks end dead those more) (sym (take-append-drop bracket.runs runs))
    ∙ (made_joined marks (suc bracket.mark) end dead xs ys more
    (subst (λ those. AreBrackets marks (suc bracket.mark) those more) (append-nil xs) lower) h.2
    ∙ ap (λ t. onto (seen marks (suc bracket.mark) end ys) t) own)

pub brackets_popped : (marks : Marks) (end : ℕ) (runs : List Placed) (bracket : OpenBracket) (more : List OpenBracket)
    → AreBrackets marks end runs (bracket ∷ more) → AreBrackets marks end runs more
brackets_popped marks end runs bracket more h =
    let xs : List Placed = take bracket.runs runs in
    let ys : List Placed = drop bracket.runs runs in
    let lower : AreBrackets marks (suc bracket.mark) (xs ++ []) more = brackets_joined marks bracket.mark (suc bracket.mark) xs [] more h.3
    (omega arith) in
    subst (λ those. AreBrackets marks end those more) (take-append-drop bracket.runs runs)
    (brackets_joined marks (suc bracket.mark) end xs ys more
    (subst (λ those. AreBrackets marks (suc bracket.mark) those more) (append-nil xs) lower) h.2)

-- ---- brackets that are dead

without_no_links : (xs : List Inline) → NoBracket xs → map without_links xs ≡ xs
unfolding without_links
without_no_links [] h = refl
without_no_links (Open k ∷ xs) h = absurd h
without_no_links (x ∷ xs) h = ap (λ t. x ∷ t) (without_no_links xs h)

map-reverse : (f : Inline → Inline) (xs : List Inline) → map f (reverse xs) ≡ reverse (map f xs)
map-reverse f [] = refl
map-reverse f (x ∷ xs) =
    ap (map f) (reverse-append (x ∷ []) xs)
    ∙ (map-append f (reverse xs) (x ∷ []) ∙ (ap (λ t. t ++ (f x ∷ [])) (map-reverse f xs) ∙ sym (reverse-append (f x ∷ []) (map f xs))))

without_links_onto : (xs made : List Inline) → NoBracket xs → map without_links (onto xs made) ≡ onto xs (map without_links made)
without_links_onto xs made h =
    map-append without_links (reverse xs) made ∙ ap (λ t. t ++ map without_links made) (map-reverse without_links xs
    ∙ ap reverse (without_no_links xs h))

pub made_dead : (marks : Marks) (end dead new : ℕ) (runs : List Placed) (brackets : List OpenBracket) → AreFinal marks
    → length brackets ≤ new →
    map without_links (made_below marks end dead runs brackets) ≡ made_below marks end new runs brackets
unfolding made_below without_links
made_dead marks end dead new runs [] h l =
    map-reverse without_links (seen marks 0 end runs)
    ∙ ap reverse (without_no_links (seen marks 0 end runs) (no_bracket_seen marks 0 end runs h))
made_dead marks end dead new runs (bracket ∷ more) h l =
    let xs : List Placed = take bracket.runs runs in
    let s : List Inline = seen marks (suc bracket.mark) end (drop bracket.runs runs) in
    let live : (bracket.image || nat_le new (length more)) ≡ bracket.image = ap (λ b. bracket.image || b)
    (lt-leb new (length more) (omega arith)) ∙ or-false bracket.image in
    without_links_onto s (Open (bracket_shown dead (length more) bracket) ∷ made_below marks bracket.mark dead xs more)
    (no_bracket_seen marks (suc bracket.mark) end (drop bracket.runs runs) h)
    ∙ ap₂ (λ b t. onto s (Open (record { image = bracket.image; live = b; behind = bracket.behind }) ∷ t)) (sym live)
    (made_dead marks bracket.mark dead new xs more h (omega arith))

-- to the first brackets it is all one how many of those behind them are dead
pub made_alive : (marks : Marks) (end dead new : ℕ) (runs : List Placed) (brackets : List OpenBracket) → AreFinal marks
    → length brackets ≤ dead → length brackets ≤ new →
    made_below marks end dead runs brackets ≡ made_below marks end new runs brackets
made_alive marks end dead new runs brackets h l g = sym (made_dead marks end dead dead runs brackets h l)
    ∙ made_dead marks end dead new runs brackets h g

-- ---- when all is read

final_text : (image : Bool) → IsFinal (text_of_bracket image)
final_text true = tt
final_text false = tt

opened_text : (bracket : Bracket) → plain_brackets (Open bracket ∷ []) ≡ text_of_bracket bracket.image
unfolding plain_brackets bracket_text
opened_text bracket = append-nil (text_of_bracket bracket.image)

plain_made : (marks : Marks) (end dead : ℕ) (runs : List Placed) (brackets : List OpenBracket) → AreBrackets marks end runs brackets →
    plain_brackets (reverse (made_below marks end dead runs brackets)) ≡ plain_brackets (seen marks 0 end runs)
unfolding made_below
plain_made marks end dead runs [] h = ap plain_brackets (reverse-reverse (seen marks 0 end runs))
plain_made marks end dead runs (bracket ∷ more) h =
    let xs : List Placed = take bracket.runs runs in
    let ys : List Placed = drop bracket.runs runs in
    let s : List Inline = seen marks (suc bracket.mark) end ys in
    let opened : Bracket = bracket_shown dead (length more) bracket in
    let below : List Inline = made_below marks bracket.mark dead xs more in
    let front : List Inline = seen marks 0 bracket.mark xs in
    let lower : ArePlaced marks 0 bracket.mark xs = brackets_placed marks bracket.mark xs more h.3 in
    let upper : ArePlaced marks bracket.mark end ys = placed_joined marks bracket.mark (suc bracket.mark) end [] ys (omega arith) h.2 in
    let whole : seen marks 0 end runs ≡ front ++ (text_of_bracket bracket.image ++ s) =
    ap (seen marks 0 end) (sym (take-append-drop bracket.runs runs))
    ∙ (seen_joined marks 0 bracket.mark end xs ys lower upper
    ∙ ap (λ t. front ++ t) (seen_joined marks bracket.mark (suc bracket.mark) end [] ys (omega arith) h.2
    ∙ ap (λ t. t ++ s) (seen_one marks bracket.mark ∙ h.1))) in
    ap plain_brackets (reverse-append (reverse s) (Open opened ∷ below)
    ∙ ap₂ (λ t u. t ++ u) (reverse-append (Open opened ∷ []) below) (reverse-reverse s))
    ∙ (plain_append (reverse below ++ (Open opened ∷ [])) s
    ∙ (ap (λ t. t ++ plain_brackets s) (plain_append (reverse below) (Open opened ∷ [])
    ∙ ap₂ (λ t u. t ++ u) (plain_made marks bracket.mark dead xs more h.3) (opened_text opened))
    ∙ (append_assoc (plain_brackets front) (text_of_bracket bracket.image) (plain_brackets s)
    ∙ (ap (λ t. plain_brackets front ++ (t ++ plain_brackets s))
    (sym (plain_final (text_of_bracket bracket.image) (final_text bracket.image)))
    ∙ (ap (λ t. plain_brackets front ++ t) (sym (plain_append (text_of_bracket bracket.image) s))
    ∙ (sym (plain_append front (text_of_bracket bracket.image ++ s)) ∙ ap plain_brackets (sym whole)))))))

-- its emphasis is that of what is seen
pub emphasis_of_made : (marks : Marks) (end dead : ℕ) (runs : List Placed) (brackets : List OpenBracket)
    → AreBrackets marks end runs brackets →
    emphasis_of (reverse (made_below marks end dead runs brackets)) ≡ emphasis_of (seen marks 0 end runs)
emphasis_of_made marks end dead runs brackets h =
    sym (brackets_are_text (reverse (made_below marks end dead runs brackets)))
    ∙ (ap emphasis_of (plain_made marks end dead runs brackets h) ∙ brackets_are_text (seen marks 0 end runs))
