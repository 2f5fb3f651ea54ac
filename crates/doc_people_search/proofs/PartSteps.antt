-- The parts of characters, one after another.
use Rattle.std.proofs.Common.{◌≡◌, ℕ, ◌+◌, ◌-◌, ◌<◌, ◌≤◌, List, [], ◌∷◌, ◌++◌, Bool, true, false, cond, if◌then◌else◌, refl, ap, sym, ◌∙◌, ◌==◌, arith}
use Rattle.std.proofs.Common.{◌&&◌, add-zero, append-nil, append_assoc, chars, drop, encode_utf8_all, suc, length, max, take, zero, length-append, length-take, subst}
use Rattle.std.specs.Prelude.{Option, Some, None, option_map, unwrap_or}
use Rattle.std.specs.List.{flat_map, list_any, prefix_len}
use Rattle.std.specs.Str.{IsUtf8}
use Rattle.std.proofs.lemmas.Bool.Decides.{nat_tests}
use Rattle.std.proofs.lemmas.List.{append_cancel_right, take-append-drop}
use Rattle.std.proofs.lemmas.Str.{encodes-chars, length-le-encodes}
use Rattle.std.proofs.Math.Numerals.{one-add}
use Rattle.doc_page_parts.specs.Escaping.{escaped}
use Rattle.doc_words_search.specs.Words.{folded, is_word_char}
use Rattle.doc_people.specs.Snippets.{is_met, is_run, match_at, met_at, parts, parts_behind, run_if, written_part}
use Rattle.doc_people.specs.Terms.{meets}
use Rattle.doc_people.specs.declared.term.Term.{Term}
use Rattle.doc_people_search.specs.Finding.{marked}

-- ---- a text in two

pub front_is : (text front rest : List ℕ) (n : ℕ) → text ≡ front ++ rest → rest ≡ drop n text → front ≡ take n text
front_is text front rest n joins is =
    append_cancel_right front (take n text) rest
    (sym joins ∙ sym (take-append-drop n text) ∙ ap (λ r. take n text ++ r) (sym is))

pub whole_is : (text front rest : List ℕ) (n : ℕ) → front ≡ take n text → rest ≡ drop n text → text ≡ front ++ rest
whole_is text front rest n front_is rest_is =
    sym (take-append-drop n text) ∙ ap (λ f. f ++ drop n text) (sym front_is) ∙ ap (λ r. front ++ r) (sym rest_is)

pub one_dropped : (left c : ℕ) (cs rest : List ℕ) → 0 < left → cs ≡ c ∷ rest → drop left cs ≡ drop (left - 1) rest
one_dropped zero c cs rest some e = absurd (omega arith)
one_dropped (suc n) c cs rest some e = let one : n ≡ suc n - 1 = omega arith in ap (drop (suc n)) e ∙ ap (λ k. drop k rest) one

pub some_chars : (bytes : List ℕ) (test : Bool) → IsUtf8 bytes → test ≡ (length bytes == 0) → test ≡ false → 0 < length (chars bytes)
some_chars bytes test u e h = at (chars bytes) (encodes-chars bytes u)
  where
    at : (cs : List ℕ) → encode_utf8_all cs ≡ bytes → 0 < length cs
    at [] f =
        let none : length bytes ≡ 0 = sym (ap length f) in
        let some : (length bytes == 0) ≡ false = sym e ∙ h in
        absurd (grind (arith, nat_tests))
    at (c ∷ cs) f = omega arith

-- ---- the first part

-- a run goes on to the end of the characters that follow
run_ends : (run cs : List ℕ)
    → parts_behind run cs ≡ run_if (run ++ take (prefix_len is_word_char cs) cs) ++ parts_behind [] (drop (prefix_len is_word_char cs) cs)
run_ends run [] = sym (append-nil (run_if (run ++ [])) ∙ ap run_if (append-nil run))
run_ends run (c ∷ cs) = by (is_word_char c) refl (run_ends (run ++ c ∷ []) cs)
  where
    by : (b : Bool) → is_word_char c ≡ b
        → parts_behind (run ++ c ∷ []) cs
        ≡ run_if ((run ++ c ∷ []) ++ take (prefix_len is_word_char cs) cs) ++ parts_behind [] (drop (prefix_len is_word_char cs) cs)
        → (if b then parts_behind (run ++ c ∷ []) cs else run_if run ++ (c ∷ []) ∷ parts_behind [] cs)
        ≡ run_if (run ++ take (cond b (1 + prefix_len is_word_char cs) 0) (c ∷ cs))
        ++ parts_behind [] (drop (cond b (1 + prefix_len is_word_char cs) 0) (c ∷ cs))
    by true e ih =
        ih ∙ ap (λ r. run_if r ++ parts_behind [] (drop (prefix_len is_word_char cs) cs))
        (append_assoc run (c ∷ []) (take (prefix_len is_word_char cs) cs))
        ∙ ap (λ n. run_if (run ++ take n (c ∷ cs)) ++ parts_behind [] (drop n (c ∷ cs))) (sym (one-add (prefix_len is_word_char cs)))
    by false e ih =
        ap (λ r. run_if r ++ (c ∷ []) ∷ parts_behind [] cs) (sym (append-nil run))
        ∙ ap (λ ps. run_if (run ++ []) ++ ps)
        (sym (ap (λ b. if b then parts_behind (c ∷ []) cs else (c ∷ []) ∷ parts_behind [] cs) e))

-- the first part: a run, or else one character
first_is : (c : ℕ) (cs : List ℕ) (n : ℕ) → n ≡ max (prefix_len is_word_char (c ∷ cs)) 1
    → parts (c ∷ cs) ≡ take n (c ∷ cs) ∷ parts (drop n (c ∷ cs))
unfolding parts
first_is c cs n is = by (is_word_char c) is
  where
    by : (b : Bool) → n ≡ max (cond b (1 + prefix_len is_word_char cs) 0) 1
        → (if b then parts_behind (c ∷ []) cs else (c ∷ []) ∷ parts_behind [] cs)
        ≡ take n (c ∷ cs) ∷ parts_behind [] (drop n (c ∷ cs))
    by true e =
        let more : suc (prefix_len is_word_char cs) ≡ n = omega arith in
        run_ends (c ∷ []) cs ∙ ap (λ m. take m (c ∷ cs) ∷ parts_behind [] (drop m (c ∷ cs))) more
    by false e =
        let one : 1 ≡ n = omega arith in
        ap (λ m. take m (c ∷ cs) ∷ parts_behind [] (drop m (c ∷ cs))) one

pub part_is : (cs front rest : List ℕ) (n : ℕ) → 0 < length cs → n ≡ max (prefix_len is_word_char cs) 1
    → front ≡ take n cs → rest ≡ drop n cs → parts cs ≡ front ∷ parts rest
part_is [] front rest n some is f r = absurd (omega arith)
part_is (c ∷ cs) front rest n some is f r =
    first_is c cs n is ∙ ap (λ p. p ∷ parts (drop n (c ∷ cs))) (sym f) ∙ ap (λ b. front ∷ parts b) (sym r)

pub part_stands : (cs front : List ℕ) (n : ℕ) → 0 < length cs → n ≡ max (prefix_len is_word_char cs) 1 → front ≡ take n cs
    → 0 < length front
part_stands cs front n some is f = let e : length front ≡ length (take n cs) = ap length f in omega (arith, length-take n cs)

-- ---- how many characters were read

pub chars_fit : (bytes : List ℕ) → IsUtf8 bytes → length (chars bytes) ≤ length bytes
chars_fit bytes u = subst (λ bs. length (chars bytes) ≤ length bs) (encodes-chars bytes u) (length-le-encodes (chars bytes))

pub read_fits : (at count : ℕ) (bytes rest part behind : List ℕ) → IsUtf8 bytes → at + length rest ≡ length (chars bytes)
    → rest ≡ part ++ behind → count ≡ length part → at + count ≤ length bytes
read_fits at count bytes rest part behind u read whole is =
    let bound : length (chars bytes) ≤ length bytes = chars_fit bytes u in
    let sum : length rest ≡ length part + length behind = ap length whole ∙ length-append part behind in
    omega arith

-- ---- the first part that is met

no_parts : (cs : List ℕ) → cs ≡ [] → parts cs ≡ []
unfolding parts
no_parts cs e = ap parts e

pub found_at : (terms : List Term) (text rest part behind : List ℕ) (at : ℕ) (met : Bool)
    → met_at terms (parts text) ≡ option_map (λ n. at + n) (met_at terms (parts rest))
    → parts rest ≡ part ∷ parts behind → met ≡ is_met terms part → met ≡ true → at ≡ match_at terms text
found_at terms text rest part behind at met same is m on =
    sym (ap (λ o. unwrap_or o 0) (same ∙ ap (option_map (λ n. at + n)) (ap (met_at terms) is
    ∙ ap (λ b. if b then Some 0 else option_map (λ n. length part + n) (met_at terms (parts behind))) (sym m ∙ on)))
    ∙ add-zero at)

pub found_none : (terms : List Term) (text rest : List ℕ) (at : ℕ)
    → met_at terms (parts text) ≡ option_map (λ n. at + n) (met_at terms (parts rest)) → rest ≡ [] → 0 ≡ match_at terms text
found_none terms text rest at same none =
    sym (ap (λ o. unwrap_or o 0) (same ∙ ap (λ ps. option_map (λ n. at + n) (met_at terms ps)) (no_parts rest none)))

twice : (at k new : ℕ) (o : Option ℕ) → new ≡ at + k → option_map (λ n. at + n) (option_map (λ n. k + n) o) ≡ option_map (λ n. new + n) o
twice at k new None e = refl
twice at k new (Some n) e = let sum : at + (k + n) ≡ new + n = omega arith in ap Some sum

pub found_later : (terms : List Term) (text rest part behind : List ℕ) (at new : ℕ) (met : Bool)
    → met_at terms (parts text) ≡ option_map (λ n. at + n) (met_at terms (parts rest))
    → parts rest ≡ part ∷ parts behind → met ≡ is_met terms part → met ≡ false → new ≡ at + length part
    → met_at terms (parts text) ≡ option_map (λ n. new + n) (met_at terms (parts behind))
found_later terms text rest part behind at new met same is m off e =
    same ∙ ap (option_map (λ n. at + n)) (ap (met_at terms) is
    ∙ ap (λ b. if b then Some 0 else option_map (λ n. length part + n) (met_at terms (parts behind))) (sym m ∙ off))
    ∙ twice at (length part) new (met_at terms (parts behind)) e

-- a run whose word a term meets
pub met_run : (terms : List Term) (part word : List ℕ) (run any : Bool) → run ≡ is_run part → run ≡ true → word ≡ folded part
    → any ≡ list_any (λ term. meets term word) terms → any ≡ is_met terms part
met_run terms part word run any r on w a =
    a ∙ ap (λ v. list_any (λ term. meets term v) terms) w
    ∙ ap (λ b. b && list_any (λ term. meets term (folded part)) terms) (sym on ∙ r)

pub no_run : (terms : List Term) (part : List ℕ) (run : Bool) → run ≡ is_run part → run ≡ false → false ≡ is_met terms part
no_run terms part run r off = ap (λ b. b && list_any (λ term. meets term (folded part)) terms) (sym off ∙ r)

-- ---- what is written of them

pub marked_is : (terms : List Term) (bytes : List ℕ) (met : Bool) → IsUtf8 bytes → met ≡ is_met terms (chars bytes) → met ≡ true
    → marked bytes ≡ written_part terms (chars bytes)
marked_is terms bytes met u m on =
    ap marked (sym (encodes-chars bytes u))
    ∙ ap (λ b. if b then marked (encode_utf8_all (chars bytes)) else escaped (encode_utf8_all (chars bytes))) (sym on ∙ m)

pub unmarked_is : (terms : List Term) (bytes : List ℕ) (met : Bool) → IsUtf8 bytes → met ≡ is_met terms (chars bytes) → met ≡ false
    → escaped bytes ≡ written_part terms (chars bytes)
unmarked_is terms bytes met u m off =
    ap escaped (sym (encodes-chars bytes u))
    ∙ ap (λ b. if b then marked (encode_utf8_all (chars bytes)) else escaped (encode_utf8_all (chars bytes))) (sym off ∙ m)

pub written_more : (write : List ℕ → List ℕ) (old new whole rest part behind : List ℕ)
    → old ++ flat_map write (parts rest) ≡ whole → parts rest ≡ part ∷ parts behind → new ≡ old ++ write part
    → new ++ flat_map write (parts behind) ≡ whole
written_more write old new whole rest part behind same is more =
    ap (λ n. n ++ flat_map write (parts behind)) more ∙ append_assoc old (write part) (flat_map write (parts behind))
    ∙ ap (λ ps. old ++ flat_map write ps) (sym is) ∙ same

pub written_all : (write : List ℕ → List ℕ) (old whole rest : List ℕ) → old ++ flat_map write (parts rest) ≡ whole → rest ≡ [] → old ≡ whole
written_all write old whole rest same none =
    sym (append-nil old) ∙ ap (λ ps. old ++ flat_map write ps) (sym (no_parts rest none)) ∙ same
