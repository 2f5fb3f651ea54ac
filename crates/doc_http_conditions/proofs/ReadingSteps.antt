-- Values that are written by the grammar are read as what they are written of.
use Rattle.std.proofs.Common.{◌≡◌, ℕ, ◌-◌, List, [], ◌∷◌, ◌++◌, length, take, drop, Bool, true, false, ◌==◌, map, refl, ap, sym, ◌∙◌, arith}
use Rattle.std.proofs.Common.{append_assoc, append-nil, length-append, bytes_eq, codes, Option, Some, None}
use mathlib.Core.Bool.{◌||◌}
use Rattle.std.specs.Prelude.{reverse, if◌then◌else◌}
use Rattle.std.specs.List.{list_all, prefix_len, suffix_len, onto_first, cons_option, flat_map, join_with_byte}
use Rattle.std.proofs.lemmas.Bool.Decides.{nat_tests}
use Rattle.std.proofs.lemmas.List.{take_at, drop_at, drop_all, reverse-append, length-reverse}
use Rattle.std.proofs.lemmas.List.Folds.{list_all-append}
use Rattle.doc_page_parts.proofs.Bools.{and_first, and_second, and_false, or_true, clash}
use Rattle.doc_page_parts.proofs.LineSteps.{onto_front, onto_front-cons}
use Rattle.doc_page_parts.proofs.Texts.{bytes_eq_true}
use Rattle.doc_page_parts.specs.Lines.{is_blank, is_space_or_tab, stripped}
use Rattle.doc_page_parts.specs.Pages.{is_empty}
use Rattle.doc_http_conditions.specs.EntityTags.{EntityTag, is_tag_byte, is_opaque_tag, is_entity_tag, entity_tag, strong_tag}
use Rattle.doc_http_conditions.specs.FieldValues.{named_by}
use Rattle.doc_http_conditions.specs.Grammar.{Element, IsElement, AreElements, IsOpaqueTag, IsTag}
use Rattle.doc_http_conditions.specs.Grammar.{IsValue, element_text, tag_text, tags_of, text_of}
use Rattle.doc_http_conditions.specs.Lists.{cuts, quoted_behind, elements, is_element, tags_of_element, tags_in}
use Rattle.doc_http_conditions.specs.declared.named.Named.{Named}
use Rattle.doc_http_conditions.specs.declared.named.Named.TheVariants.{Any, OneOf}
use Rattle.doc_http_conditions.proofs.ElementSteps.{elements-cons}
use Rattle.doc_http_conditions.proofs.TagSteps.{all_on}

-- ---- where an element is not cut

onto_front-append : (a b : List ℕ) (ls : List (List ℕ)) → onto_front (a ++ b) ls ≡ onto_front a (onto_front b ls)
onto_front-append [] b ls = refl
onto_front-append (x ∷ a) b ls = ap (onto_first x) (onto_front-append a b ls)

pass_one : (quoted after : Bool) (b : ℕ) (rest : List ℕ) → cuts b quoted ≡ false → quoted_behind b quoted ≡ after
    → elements quoted (b ∷ rest) ≡ onto_first b (elements after rest)
pass_one quoted after b rest uncut same =
    elements-cons quoted b rest ∙ rw uncut (ap (λ q. onto_first b (elements q rest)) same)

no_comma : (b : ℕ) → is_space_or_tab b ≡ true → (b == 44) ≡ false
no_comma b e = grind (arith, nat_tests)

no_quote : (b : ℕ) → is_space_or_tab b ≡ true → (b == 34) ≡ false
no_quote b e = grind (arith, nat_tests)

no_quote_inside : (b : ℕ) → is_tag_byte b ≡ true → (b == 34) ≡ false
no_quote_inside b e = grind (arith, nat_tests)

uncut_by : (b : ℕ) (quoted : Bool) → (b == 44) ≡ false → cuts b quoted ≡ false
uncut_by b quoted e = rw e refl

stays : (b : ℕ) (quoted : Bool) → (b == 34) ≡ false → quoted_behind b quoted ≡ quoted
stays b quoted e = rw e refl

blanks_pass : (bs rest : List ℕ) → is_blank bs ≡ true → elements false (bs ++ rest) ≡ onto_front bs (elements false rest)
blanks_pass [] rest blank = refl
blanks_pass (b ∷ bs) rest blank =
    let first : is_space_or_tab b ≡ true = and_first (is_space_or_tab b) (is_blank bs) blank in
    pass_one false false b (bs ++ rest) (uncut_by b false (no_comma b first)) (stays b false (no_quote b first))
    ∙ ap (onto_first b) (blanks_pass bs rest (and_second (is_space_or_tab b) (is_blank bs) blank))

inside_passes : (bs rest : List ℕ) → list_all is_tag_byte bs ≡ true → elements true (bs ++ rest) ≡ onto_front bs (elements true rest)
inside_passes [] rest good = refl
inside_passes (b ∷ bs) rest good =
    let first : is_tag_byte b ≡ true = and_first (is_tag_byte b) (list_all is_tag_byte bs) good in
    pass_one true true b (bs ++ rest) (and_false (b == 44)) (stays b true (no_quote_inside b first))
    ∙ ap (onto_first b) (inside_passes bs rest (and_second (is_tag_byte b) (list_all is_tag_byte bs) good))

quoted_passes : (inside rest : List ℕ) → list_all is_tag_byte inside ≡ true
    → elements false ((34 ∷ (inside ++ 34 ∷ [])) ++ rest) ≡ onto_front (34 ∷ (inside ++ 34 ∷ [])) (elements false rest)
quoted_passes inside rest good =
    pass_one false true 34 ((inside ++ 34 ∷ []) ++ rest) refl refl
    ∙ ap (onto_first 34) (ap (elements true) (append_assoc inside (34 ∷ []) rest)
    ∙ inside_passes inside (34 ∷ rest) good
    ∙ ap (onto_front inside) (pass_one true false 34 rest refl refl)
    ∙ sym (onto_front-append inside (34 ∷ []) (elements false rest)))

opaque_passes : (opaque rest : List ℕ) → IsOpaqueTag opaque → elements false (opaque ++ rest) ≡ onto_front opaque (elements false rest)
opaque_passes opaque rest h =
    ap (λ o. elements false (o ++ rest)) h.quoted ∙ quoted_passes h.inside rest h.good
    ∙ ap (λ o. onto_front o (elements false rest)) (sym h.quoted)

tag_passes : (weak : Bool) (opaque rest : List ℕ) → IsOpaqueTag opaque
    → elements false (tag_text weak opaque ++ rest) ≡ onto_front (tag_text weak opaque) (elements false rest)
tag_passes false opaque rest h = opaque_passes opaque rest h
tag_passes true opaque rest h =
    pass_one false false 87 (47 ∷ (opaque ++ rest)) refl refl
    ∙ ap (onto_first 87) (pass_one false false 47 (opaque ++ rest) refl refl ∙ ap (onto_first 47) (opaque_passes opaque rest h))

text_passes : (tag : Option EntityTag) (rest : List ℕ) → IsTag tag
    → elements false (text_of tag ++ rest) ≡ onto_front (text_of tag) (elements false rest)
text_passes None rest h = refl
text_passes (Some tag) rest h = tag_passes tag.weak tag.opaque rest h

element_passes : (element : Element) (rest : List ℕ) → IsElement element
    → elements false (element_text element ++ rest) ≡ onto_front (element_text element) (elements false rest)
element_passes element rest h =
    let text = text_of element.tag in
    ap (elements false) (append_assoc element.before (text ++ element.behind) rest)
    ∙ blanks_pass element.before ((text ++ element.behind) ++ rest) h.before
    ∙ ap (onto_front element.before) (ap (elements false) (append_assoc text element.behind rest)
    ∙ text_passes element.tag (element.behind ++ rest) h.tag
    ∙ ap (onto_front text) (blanks_pass element.behind rest h.behind)
    ∙ sym (onto_front-append text element.behind (elements false rest)))
    ∙ sym (onto_front-append element.before (text ++ element.behind) (elements false rest))

no_text_is_one : elements false [] ≡ [] ∷ []
unfolding elements
no_text_is_one = refl

-- a list is cut into the texts of its elements
list_is_cut : (element : Element) (more : List Element) → AreElements (element ∷ more)
    → elements false (join_with_byte 44 (map element_text (element ∷ more))) ≡ map element_text (element ∷ more)
list_is_cut element [] h =
    let text = element_text element in
    ap (elements false) (sym (append-nil text))
    ∙ element_passes element [] h.0
    ∙ ap (onto_front text) no_text_is_one
    ∙ onto_front-cons text [] []
    ∙ ap (λ t. t ∷ []) (append-nil text)
list_is_cut element (next ∷ more) h =
    let text = element_text element in
    let rest = join_with_byte 44 (map element_text (next ∷ more)) in
    element_passes element (44 ∷ rest) h.0
    ∙ ap (onto_front text) (elements-cons false 44 rest)
    ∙ onto_front-cons text [] (elements false rest)
    ∙ ap (λ t. t ∷ elements false rest) (append-nil text)
    ∙ ap (λ l. text ∷ l) (list_is_cut next more h.1)

-- ---- what stripping leaves of an element

prefix_stops : (p : ℕ → Bool) (before : List ℕ) (c : ℕ) (rest : List ℕ) → list_all p before ≡ true → p c ≡ false
    → prefix_len p (before ++ c ∷ rest) ≡ length before
prefix_stops p [] c rest all stop = rw stop refl
prefix_stops p (b ∷ before) c rest all stop =
    let more = prefix_stops p before c rest (and_second (p b) (list_all p before) all) stop in
    rw (and_first (p b) (list_all p before) all) (omega (arith, more))

prefix_all : (p : ℕ → Bool) (xs : List ℕ) → list_all p xs ≡ true → prefix_len p xs ≡ length xs
prefix_all p [] all = refl
prefix_all p (x ∷ xs) all =
    let more = prefix_all p xs (and_second (p x) (list_all p xs) all) in
    rw (and_first (p x) (list_all p xs) all) (omega (arith, more))

pub all_reversed : (p : ℕ → Bool) (xs : List ℕ) → list_all p xs ≡ true → list_all p (reverse xs) ≡ true
all_reversed p [] all = refl
all_reversed p (x ∷ xs) all =
    ap (list_all p) (reverse-append (x ∷ []) xs)
    ∙ list_all-append p (reverse xs) (x ∷ [])
    ∙ rw (all_reversed p xs (and_second (p x) (list_all p xs) all), and_first (p x) (list_all p xs) all) refl

suffix_stops : (p : ℕ → Bool) (before : List ℕ) (c : ℕ) (behind : List ℕ) → list_all p behind ≡ true → p c ≡ false
    → suffix_len p (before ++ c ∷ behind) ≡ length behind
suffix_stops p before c behind all stop =
    ap (prefix_len p) (reverse-append before (c ∷ behind)
    ∙ ap (λ r. r ++ reverse before) (reverse-append (c ∷ []) behind)
    ∙ append_assoc (reverse behind) (c ∷ []) (reverse before))
    ∙ prefix_stops p (reverse behind) c (reverse before) (all_reversed p behind all) stop
    ∙ length-reverse behind

strip_blanks : (text : List ℕ) → is_blank text ≡ true → stripped text ≡ []
unfolding stripped
strip_blanks text blank =
    ap (λ (rest : List ℕ). take (length rest - suffix_len is_space_or_tab rest) rest)
    (ap (λ n. drop n text) (prefix_all is_space_or_tab text blank) ∙ drop_all (length text) text (omega arith))

strip_core : (before core behind rest front : List ℕ) (c d : ℕ) → is_blank before ≡ true → is_blank behind ≡ true → core ≡ c ∷ rest
    → core ≡ front ++ d ∷ [] → is_space_or_tab c ≡ false → is_space_or_tab d ≡ false → stripped (before ++ (core ++ behind)) ≡ core
unfolding stripped
strip_core before core behind rest front c d blank blanks begins ends starts stops =
    let text = before ++ (core ++ behind) in
    let start : prefix_len is_space_or_tab text ≡ length before
    = ap (λ k. prefix_len is_space_or_tab (before ++ (k ++ behind))) begins
    ∙ prefix_stops is_space_or_tab before c (rest ++ behind) blank starts in
    let left : drop (prefix_len is_space_or_tab text) text ≡ core ++ behind
    = ap (λ n. drop n text) start ∙ drop_at before (core ++ behind) (length before) refl in
    let end : suffix_len is_space_or_tab (core ++ behind) ≡ length behind
    = ap (λ k. suffix_len is_space_or_tab (k ++ behind)) ends
    ∙ ap (suffix_len is_space_or_tab) (append_assoc front (d ∷ []) behind)
    ∙ suffix_stops is_space_or_tab front d behind blanks stops in
    ap (λ (r : List ℕ). take (length r - suffix_len is_space_or_tab r) r) left
    ∙ ap (λ k. take (length (core ++ behind) - k) (core ++ behind)) end
    ∙ take_at core behind (length (core ++ behind) - length behind) (omega (arith, length-append core behind))

strip_tag : (weak : Bool) (before opaque behind : List ℕ) → is_blank before ≡ true → is_blank behind ≡ true → IsOpaqueTag opaque
    → stripped (before ++ (tag_text weak opaque ++ behind)) ≡ tag_text weak opaque
strip_tag false before opaque behind blank blanks h =
    strip_core before opaque behind (h.inside ++ 34 ∷ []) (34 ∷ h.inside) 34 34 blank blanks h.quoted h.quoted refl refl
strip_tag true before opaque behind blank blanks h =
    strip_core before (87 ∷ 47 ∷ opaque) behind (47 ∷ opaque) (87 ∷ 47 ∷ 34 ∷ h.inside) 87 34 blank blanks refl
    (ap (λ o. 87 ∷ 47 ∷ o) h.quoted) refl refl

strip_text : (tag : Option EntityTag) (before behind : List ℕ) → is_blank before ≡ true → is_blank behind ≡ true → IsTag tag
    → stripped (before ++ (text_of tag ++ behind)) ≡ text_of tag
strip_text None before behind blank blanks h =
    strip_blanks (before ++ behind) (list_all-append is_space_or_tab before behind ∙ rw (blank, blanks) refl)
strip_text (Some tag) before behind blank blanks h = strip_tag tag.weak before tag.opaque behind blank blanks h

strip_element : (element : Element) → IsElement element → stripped (element_text element) ≡ text_of element.tag
strip_element element h = strip_text element.tag element.before element.behind h.before h.behind h.tag

-- ---- the tag of an element

quoted_is_opaque : (inside : List ℕ) → list_all is_tag_byte inside ≡ true → is_opaque_tag (34 ∷ (inside ++ 34 ∷ [])) ≡ true
quoted_is_opaque inside good =
    ap (λ n. bytes_eq (drop n (inside ++ 34 ∷ [])) (34 ∷ [])) (prefix_stops is_tag_byte inside 34 [] good refl)
    ∙ ap (λ r. bytes_eq r (34 ∷ [])) (drop_at inside (34 ∷ []) (length inside) refl)

reads : (weak : Bool) (opaque : List ℕ) → IsOpaqueTag opaque → is_entity_tag (tag_text weak opaque) ≡ true
reads false opaque h = ap is_entity_tag h.quoted ∙ quoted_is_opaque h.inside h.good
reads true opaque h = ap is_opaque_tag h.quoted ∙ quoted_is_opaque h.inside h.good

tag_back : (weak : Bool) (opaque : List ℕ) → IsOpaqueTag opaque
    → entity_tag (tag_text weak opaque) ≡ record { weak = weak; opaque = opaque }
tag_back false opaque h = ap entity_tag h.quoted ∙ ap strong_tag (sym h.quoted)
tag_back true opaque h = refl

some_text : (weak : Bool) (opaque : List ℕ) → IsOpaqueTag opaque → is_empty (tag_text weak opaque) ≡ false
some_text false opaque h = ap is_empty h.quoted
some_text true opaque h = refl

abbrev pub tags_at : Option EntityTag → List EntityTag
tags_at None = []
tags_at (Some tag) = tag ∷ []

text_is_element : (tag : Option EntityTag) → IsTag tag → (is_empty (text_of tag) || is_entity_tag (text_of tag)) ≡ true
text_is_element None h = refl
text_is_element (Some tag) h =
    ap (λ b. is_empty (tag_text tag.weak tag.opaque) || b) (reads tag.weak tag.opaque h) ∙ or_true (is_empty (tag_text tag.weak tag.opaque))

text_tags : (tag : Option EntityTag) → IsTag tag → (if is_empty (text_of tag) then [] else entity_tag (text_of tag) ∷ []) ≡ tags_at tag
text_tags None h = refl
text_tags (Some tag) h =
    ap (λ b. if b then [] else entity_tag (tag_text tag.weak tag.opaque) ∷ []) (some_text tag.weak tag.opaque h)
    ∙ ap (λ t. t ∷ []) (tag_back tag.weak tag.opaque h)

element_is : (element : Element) → IsElement element → is_element (element_text element) ≡ true
element_is element h = ap (λ s. is_empty s || is_entity_tag s) (strip_element element h) ∙ text_is_element element.tag h.tag

element_tags : (element : Element) → IsElement element → tags_of_element (element_text element) ≡ tags_at element.tag
element_tags element h =
    ap (λ s. if is_empty s then [] else entity_tag s ∷ []) (strip_element element h) ∙ text_tags element.tag h.tag

-- ---- the value

all_are : (es : List Element) → AreElements es → list_all is_element (map element_text es) ≡ true
all_are [] h = refl
all_are (element ∷ es) h = all_on is_element (element_text element) (map element_text es) (element_is element h.0) ∙ all_are es h.1

pub one_more : (tag : Option EntityTag) (tags : List EntityTag) → tags_at tag ++ tags ≡ cons_option tag tags
one_more None tags = refl
one_more (Some tag) tags = refl

all_tags : (es : List Element) → AreElements es → flat_map tags_of_element (map element_text es) ≡ tags_of es
all_tags [] h = refl
all_tags (element ∷ es) h =
    ap (λ l. l ++ flat_map tags_of_element (map element_text es)) (element_tags element h.0)
    ∙ ap (λ l. tags_at element.tag ++ l) (all_tags es h.1)
    ∙ one_more element.tag (tags_of es)

star_is_no_list : list_all is_element (elements false (codes "*")) ≡ false
unfolding elements stripped
star_is_no_list = refl

not_star : (text : List ℕ) (test : Bool) → bytes_eq text (codes "*") ≡ test → list_all is_element (elements false text) ≡ true
    → test ≡ false
not_star text false e all = refl
not_star text true e all =
    absurd (clash (list_all is_element (elements false (codes "*")))
    (ap (λ t. list_all is_element (elements false t)) (sym (bytes_eq_true text (codes "*") e)) ∙ all) star_is_no_list)

pub list_named : (text : List ℕ) → list_all is_element (elements false text) ≡ true → named_by text ≡ Some (OneOf (tags_in text))
unfolding named_by
list_named text all = rw (not_star text (bytes_eq text (codes "*")) refl all, all) refl

no_text : named_by [] ≡ Some (OneOf [])
unfolding named_by elements stripped
no_text = refl

star : named_by (codes "*") ≡ Some Any
unfolding named_by
star = refl

list_reads : (es : List Element) → AreElements es
    → named_by (join_with_byte 44 (map element_text es)) ≡ Some (OneOf (tags_of es))
list_reads [] h = no_text
list_reads (element ∷ es) h =
    let cut = list_is_cut element es h in
    list_named (join_with_byte 44 (map element_text (element ∷ es))) (ap (list_all is_element) cut ∙ all_are (element ∷ es) h)
    ∙ ap (λ l. Some (OneOf (flat_map tags_of_element l))) cut
    ∙ ap (λ t. Some (OneOf t)) (all_tags (element ∷ es) h)

pub value_reads : (text : List ℕ) (named : Named) → IsValue text named → named_by text ≡ Some named
value_reads text Any h = ap named_by h ∙ star
value_reads text (OneOf tags) h = ap named_by h.written ∙ list_reads h.parts h.good ∙ ap (λ t. Some (OneOf t)) (sym h.named)
