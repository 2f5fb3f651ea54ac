-- Hosts: their characters from the end on, and how many there are.
use Rattle.std.proofs.Common.{◌≡◌, ◌≢◌, Bool, true, false, not, ◌&&◌, ◌||◌, ◌==◌, ℕ, zero, suc, ◌+◌, ◌<◌, ◌≤◌, [], ◌∷◌, ◌++◌, length}
use Rattle.std.proofs.Common.{reverse, refl, ap, ap₂, sym, ◌∙◌, subst, Option, Some, None, codes, arith, length-append}
use Rattle.std.specs.List.{list_all}
use Rattle.std.proofs.lemmas.List.{reverse-append, append_cancel_right}
use Rattle.std.proofs.lemmas.List.Folds.{list_all-append}
use Rattle.std.proofs.lemmas.Bool.{ne_eqb, lt-ltb, lt-leb, le-leb}
use Rattle.std.proofs.Math.Bool.{and-false}
use Rattle.doc_rules.specs.Characters.{Text, one_of, first_or, strip_end}
use Rattle.doc_rules.specs.Parsers.{one, at_most, word}
use Rattle.doc_rules.specs.BareLinks.{is_host_char, host_run, dotted, is_host, holds_host, web_scheme, begins_host, is_www, is_web}

-- ---- from the end

pub turned : (text front : Text) (c : ℕ) → text ≡ front ++ (c ∷ []) → reverse text ≡ c ∷ reverse front
turned text front c e = ap reverse e ∙ reverse-append front (c ∷ [])

low_here : (n : ℕ) (rest : Text) → one_of (dotted (suc n) (95 ∷ rest)) 95 ≡ true
unfolding dotted
low_here n rest = refl

pub low_found : (n c : ℕ) (text front : Text) (b : Bool) → text ≡ front ++ (c ∷ []) → c ≡ 95
    → one_of (dotted (suc n) (reverse text)) 95 ≡ true || b
low_found n c text front b e f =
    ap (λ t. one_of (dotted (suc n) t) 95) (turned text front c e ∙ ap (λ d. d ∷ reverse front) f) ∙ low_here n (reverse front)

dot_here : (n : ℕ) (rest : Text) → dotted (suc n) (46 ∷ rest) ≡ dotted n rest
unfolding dotted
dot_here n rest = refl

pub dot_found : (n c : ℕ) (text front : Text) → text ≡ front ++ (c ∷ []) → c ≡ 46
    → one_of (dotted (suc n) (reverse text)) 95 ≡ false || one_of (dotted n (reverse front)) 95
dot_found n c text front e f =
    ap (λ t. one_of (dotted (suc n) t) 95) (turned text front c e ∙ ap (λ d. d ∷ reverse front) f)
    ∙ ap (λ t. one_of t 95) (dot_here n (reverse front))

other_here : (n c : ℕ) (rest : Text) → c ≢ 46 → dotted (suc n) (c ∷ rest) ≡ c ∷ dotted (suc n) rest
unfolding dotted
other_here n c rest h = ap (λ b. elim b as (λ _. Text) [ true ↦ dotted n rest | false ↦ c ∷ dotted (suc n) rest ]) (ne_eqb c 46 h)

pub other_passed : (n c : ℕ) (text front : Text) → text ≡ front ++ (c ∷ []) → c ≢ 95 → c ≢ 46
    → one_of (dotted (suc n) (reverse text)) 95 ≡ one_of (dotted (suc n) (reverse front)) 95
other_passed n c text front e h g =
    ap (λ t. one_of (dotted (suc n) t) 95) (turned text front c e)
    ∙ (ap (λ t. one_of t 95) (other_here n c (reverse front) g)
    ∙ ap (λ b. b || one_of (dotted (suc n) (reverse front)) 95) (ne_eqb 95 c (λ f. h (sym f))))

none_in : (n : ℕ) → one_of (dotted n []) 95 ≡ false
unfolding dotted
none_in zero = refl
none_in (suc n) = refl

pub part_ended : (n : ℕ) (text : Text) → text ≡ []
    → one_of (dotted (suc n) (reverse text)) 95 ≡ false || one_of (dotted n (reverse text)) 95
part_ended n text e =
    ap (λ t. one_of (dotted (suc n) (reverse t)) 95) e ∙ (none_in (suc n)
    ∙ sym (ap (λ t. one_of (dotted n (reverse t)) 95) e ∙ none_in n))

none_at_all : (text : Text) → one_of (dotted 0 text) 95 ≡ false
unfolding dotted
none_at_all text = refl

pub in_first : (a b whole : Bool) → whole ≡ a || b → a ≡ true → true ≡ whole
in_first a b whole e f = sym (e ∙ ap (λ x. x || b) f)

pub in_second : (a b d whole : Bool) (text : Text) → whole ≡ a || b → a ≡ false → b ≡ d || one_of (dotted 0 text) 95 → d ≡ whole
in_second a b d whole text e f g = sym (e ∙ (ap (λ x. x || b) f ∙ (g ∙ by d (none_at_all text))))
  where
    by : (d : Bool) → one_of (dotted 0 text) 95 ≡ false → d || one_of (dotted 0 text) 95 ≡ d
    by true h = refl
    by false h = h

-- ---- marks at the end

and_true_end : (x : Bool) → (x && true) ≡ x
and_true_end true = refl
and_true_end false = refl

all_snoc : (class : ℕ → Bool) (front : Text) (c : ℕ) (b : Bool) → class c ≡ b
    → list_all class (front ++ (c ∷ [])) ≡ list_all class front && b
all_snoc class front c b e =
    list_all-append class front (c ∷ []) ∙ ap (λ x. list_all class front && x) (and_true_end (class c) ∙ e)

pub end_stays : (class : ℕ → Bool) (front : Text) (c : ℕ) → class c ≡ false → strip_end class (front ++ (c ∷ [])) ≡ front ++ (c ∷ [])
unfolding strip_end
end_stays class [] c e = ap (λ b. elim (b && true) as (λ _. Text) [ true ↦ [] | false ↦ c ∷ [] ]) e
end_stays class (d ∷ front) c e =
    ap (λ b. elim b as (λ _. Text) [ true ↦ [] | false ↦ d ∷ strip_end class (front ++ (c ∷ [])) ])
    (all_snoc class (d ∷ front) c false e ∙ and-false (list_all class (d ∷ front)))
    ∙ ap (λ t. d ∷ t) (end_stays class front c e)

pub end_goes : (class : ℕ → Bool) (front : Text) (c : ℕ) → class c ≡ true → strip_end class (front ++ (c ∷ [])) ≡ strip_end class front
unfolding strip_end
end_goes class [] c e = ap (λ b. elim (b && true) as (λ _. Text) [ true ↦ [] | false ↦ c ∷ [] ]) e
end_goes class (d ∷ front) c e =
    ap₂ (λ b t. elim b as (λ _. Text) [ true ↦ [] | false ↦ d ∷ t ])
    (all_snoc class (d ∷ front) c true e ∙ and_true_end (list_all class (d ∷ front))) (end_goes class front c e)

abbrev pub bare : Text → Text
bare text = strip_end (one_of (codes "._")) text

pub mark_goes : (run text front : Text) (c : ℕ) → bare run ≡ bare text → text ≡ front ++ (c ∷ []) → one_of (codes "._") c ≡ true
    → bare run ≡ bare front
mark_goes run text front c h e f = h ∙ (ap bare e ∙ end_goes (one_of (codes "._")) front c f)

pub mark_stays : (run text front : Text) (c : ℕ) → bare run ≡ bare text → text ≡ front ++ (c ∷ []) → one_of (codes "._") c ≡ false
    → text ≡ bare run
mark_stays run text front c h e f = sym (h ∙ (ap bare e ∙ (end_stays (one_of (codes "._")) front c f ∙ sym e)))

pub marks_ended : (run text : Text) → bare run ≡ bare text → text ≡ [] → text ≡ bare run
unfolding strip_end
marks_ended run text h e = e ∙ sym (h ∙ ap bare e)

-- ---- how many there are

-- of so many characters at most the run is no longer, where none follows
record IsShort (n : ℕ) (text rest : Text) : Type 0 where
  pub split : text ≡ host_run text ++ rest
  pub few : length (host_run text) ≤ n

host_at : ℕ → Text → Bool → Text
host_at c rest b = elim b [ true ↦ c ∷ host_run rest | false ↦ [] ]

host_cons : (c : ℕ) (rest : Text) (b : Bool) → is_host_char c ≡ b → host_run (c ∷ rest) ≡ host_at c rest b
unfolding host_run host_at
host_cons c rest b e = ap (host_at c rest) e

none_host : (text : Text) → is_host_char (first_or 32 text) ≡ false → host_run text ≡ []
unfolding host_run host_at
none_host [] e = refl
none_host (c ∷ rest) e = host_cons c rest false e

host_of_space : is_host_char 32 ≡ false
unfolding is_host_char
host_of_space = refl

some_host_run : (text : Text) → is_host_char (first_or 32 text) ≡ true → 0 < length (host_run text)
unfolding host_at
some_host_run [] g = let space : is_host_char 32 ≡ false = host_of_space in absurd cc
some_host_run (c ∷ more) g = subst (λ t. 0 < length t) (sym (host_cons c more true g)) (omega arith)

host_short : (n : ℕ) (text rest : Text) → Some rest ≡ at_most n (one is_host_char) text → is_host_char (first_or 32 rest) ≡ false
    → IsShort n text rest
unfolding at_most host_at
host_short zero text rest e f =
    let same : rest ≡ text = cc in
    let none : host_run text ≡ [] = none_host text (ap (λ t. is_host_char (first_or 32 t)) (sym same) ∙ f) in
    record { split = sym (ap (λ t. t ++ rest) none ∙ same); few = subst (λ t. length t ≤ 0) (sym none) (omega arith) }
host_short (suc n) [] rest e f =
    let same : rest ≡ [] = cc in
    let none : host_run [] ≡ [] = none_host [] host_of_space in
    record { split = sym (ap (λ t. t ++ rest) none ∙ same); few = subst (λ t. length t ≤ suc n) (sym none) (omega arith) }
host_short (suc n) (c ∷ text) rest e f = at (λ h. host_short n text rest h f) (is_host_char c) refl e
  where
    at : (Some rest ≡ at_most n (one is_host_char) text → IsShort n text rest) → (b : Bool) → is_host_char c ≡ b →
        Some rest ≡ (elim (elim b as (λ _. Option Text) [ true ↦ Some text | false ↦ None ]) as (λ _. Option Text) [
          | None ↦ Some (c ∷ text)
          | Some r ↦ at_most n (one is_host_char) r
        ]) → IsShort (suc n) (c ∷ text) rest
    at again true g h =
        let more : IsShort n text rest = again h in
        let few : length (host_run text) ≤ n = more.few in
        let run : host_run (c ∷ text) ≡ c ∷ host_run text = host_cons c text true g in
        record {
          split = sym (ap (λ t. t ++ rest) run ∙ ap (λ t. c ∷ t) (sym more.split));
          few = subst (λ t. length t ≤ suc n) (sym run) (omega arith);
        }
    at again false g h =
        let same : rest ≡ c ∷ text = cc in
        let run : host_run (c ∷ text) ≡ [] = host_cons c text false g in
        record {
          split = sym (ap (λ t. t ++ rest) run ∙ same);
          few = subst (λ t. length t ≤ suc n) (sym run) (omega arith);
        }

host_long : (n : ℕ) (text rest : Text) → Some rest ≡ at_most n (one is_host_char) text → is_host_char (first_or 32 rest) ≡ true
    → n < length (host_run text)
unfolding at_most host_at
host_long zero text rest e f =
    let same : rest ≡ text = cc in
    some_host_run text (ap (λ t. is_host_char (first_or 32 t)) (sym same) ∙ f)
host_long (suc n) [] rest e f =
    let same : rest ≡ [] = cc in
    let here : is_host_char 32 ≡ true = ap (λ t. is_host_char (first_or 32 t)) (sym same) ∙ f in
    let space : is_host_char 32 ≡ false = host_of_space in
    absurd cc
host_long (suc n) (c ∷ text) rest e f = at (λ h. host_long n text rest h f) (is_host_char c) refl e
  where
    at : (Some rest ≡ at_most n (one is_host_char) text → n < length (host_run text)) → (b : Bool) → is_host_char c ≡ b →
        Some rest ≡ (elim (elim b as (λ _. Option Text) [ true ↦ Some text | false ↦ None ]) as (λ _. Option Text) [
          | None ↦ Some (c ∷ text)
          | Some r ↦ at_most n (one is_host_char) r
        ]) → suc n < length (host_run (c ∷ text))
    at again true g h =
        let more : n < length (host_run text) = again h in
        subst (λ t. suc n < length t) (sym (host_cons c text true g)) (omega arith)
    at again false g h =
        let same : rest ≡ c ∷ text = cc in
        let here : is_host_char c ≡ true = ap (λ t. is_host_char (first_or 32 t)) (sym same) ∙ f in
        absurd cc

pub too_long : (text rest : Text) → Some rest ≡ at_most 253 (one is_host_char) text → is_host_char (first_or 32 rest) ≡ true
    → false ≡ holds_host (host_run text)
unfolding holds_host
too_long text rest e f =
    sym (ap (λ b. b && is_host (bare (host_run text))) (lt-leb (length (host_run text)) 253 (host_long 253 text rest e f)))

pub is_run : (text rest run : Text) → Some rest ≡ at_most 253 (one is_host_char) text → is_host_char (first_or 32 rest) ≡ false
    → text ≡ run ++ rest → is_host (bare run) ≡ holds_host (host_run text)
unfolding holds_host
is_run text rest run e f split =
    let short : IsShort 253 text rest = host_short 253 text rest e f in
    let same : run ≡ host_run text = append_cancel_right run (host_run text) rest (sym split ∙ short.split) in
    ap (λ t. is_host (bare t)) same
    ∙ ap (λ b. b && is_host (bare (host_run text))) (sym (le-leb (length (host_run text)) 253 short.few))

-- ---- whether a run is a host

pub no_host : (host : Text) → host ≡ [] → false ≡ is_host host
unfolding is_host
no_host host e = sym (ap is_host e)

pub some_host : (host front : Text) (c : ℕ) (low : Bool) → host ≡ front ++ (c ∷ []) → low ≡ one_of (dotted 2 (reverse host)) 95
    → not low ≡ is_host host
unfolding is_host
some_host host front c low e f =
    let long : length host ≡ length (front ++ (c ∷ [])) = ap length e in
    let more : length (front ++ (c ∷ [])) ≡ length front + length (c ∷ []) = length-append front (c ∷ []) in
    let one_long : length (c ∷ []) ≡ 1 = refl in
    ap₂ (λ a b. a && not b) (sym (lt-ltb 0 (length host) (omega arith))) f

-- ---- where an address begins

pub space_is_no_host : (text : Text) → text ≡ [] → false ≡ is_host_char (first_or 32 text)
unfolding is_host_char
space_is_no_host text e = sym (ap (λ t. is_host_char (first_or 32 t)) e)

pub first_is : (d c : ℕ) (text rest : Text) → text ≡ c ∷ rest → c ≡ first_or d text
first_is d c text rest e = sym (ap (first_or d) e)

www_case : Text → Option Text → Bool
www_case text found = elim found [
  | None ↦ false
  | Some rest ↦ is_host_char (first_or 46 rest) && (not (first_or 46 rest == 46) && holds_host (host_run text))
]

pub no_www : (text : Text) → None ≡ word (codes "www.") text → false ≡ is_www text
unfolding is_www www_case
no_www text e = ap (www_case text) e

pub lone_www : (text rest : Text) → Some rest ≡ word (codes "www.") text → rest ≡ [] → false ≡ is_www text
unfolding is_www www_case is_host_char
lone_www text rest e f =
    sym (ap (λ t. is_host_char (first_or 46 t) && (not (first_or 46 t == 46) && holds_host (host_run text))) f) ∙ ap (www_case text) e

pub whole_www : (text rest more : Text) (c : ℕ) (host first holds : Bool) → Some rest ≡ word (codes "www.") text → rest ≡ c ∷ more
    → host ≡ is_host_char c → first ≡ (c == 46) → holds ≡ holds_host (host_run text)
    → (host && (not first && holds)) ≡ is_www text
unfolding is_www www_case
whole_www text rest more c host first holds e f g h k =
    ap (λ x. x && (not first && holds)) g
    ∙ (ap₂ (λ x y. is_host_char c && (not x && y)) h k
    ∙ (ap (λ t. is_host_char (first_or 46 t) && (not (first_or 46 t == 46) && holds_host (host_run text))) (sym f)
    ∙ ap (www_case text) e))

web_case : Option Text → Bool
web_case found = elim found [ None ↦ false | Some rest ↦ begins_host (codes ".-_") rest ]

pub no_web : (text : Text) → None ≡ web_scheme text → false ≡ is_web text
unfolding is_web web_case
no_web text e = ap web_case e

pub lone_web : (text rest : Text) → Some rest ≡ web_scheme text → rest ≡ [] → false ≡ is_web text
unfolding is_web web_case is_host_char
lone_web text rest e f = sym (ap (begins_host (codes ".-_")) f) ∙ ap web_case e

joined : (a b c : Bool) → (a && (b && c)) ≡ ((a && b) && c)
joined true b c = refl
joined false b c = refl

pub whole_web : (text rest more : Text) (c : ℕ) (host first holds : Bool) → Some rest ≡ web_scheme text → rest ≡ c ∷ more
    → host ≡ is_host_char c → first ≡ one_of (codes ".-_") c → holds ≡ holds_host (host_run rest)
    → (host && (not first && holds)) ≡ is_web text
unfolding is_web web_case
whole_web text rest more c host first holds e f g h k =
    ap (λ x. x && (not first && holds)) g
    ∙ (ap₂ (λ x y. is_host_char c && (not x && y)) h k
    ∙ (ap (λ d. is_host_char d && (not (one_of (codes ".-_") d) && holds_host (host_run rest))) (first_is 32 c rest more f)
    ∙ (joined (is_host_char (first_or 32 rest)) (not (one_of (codes ".-_") (first_or 32 rest))) (holds_host (host_run rest)) ∙ ap web_case e)))
