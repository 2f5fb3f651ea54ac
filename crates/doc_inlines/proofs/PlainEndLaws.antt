-- Where plain text ends, and which characters are plain.
use Rattle.std.proofs.Common.{◌≡◌, Bool, true, false, not, ◌==◌, nat_eq, ℕ, ◌+◌, ◌≤◌, ◌<◌, List, [], ◌∷◌, ◌++◌, length, take}
use Rattle.std.proofs.Common.{drop, get_or, chars, refl, ap, ap₂, sym, ◌∙◌, subst, arith, append_assoc, length-append, Option, Some, None}
use Rattle.std.proofs.Common.{Result, Ok, Err}
use Rattle.std.specs.Prelude.{OnOk, ◌&&◌, ◌||◌, codes}
use Rattle.std.proofs.Math.Bool.{or-false}
use Rattle.std.specs.List.{list_all}
use Rattle.std.specs.Str.{IsUtf8, IsCharBoundary, encode_utf8_all}
use Rattle.std.proofs.lemmas.List.Folds.{list_all-append}
use Rattle.std.proofs.lemmas.List.{take-append-drop, append_cancel_right}
use Rattle.std.proofs.lemmas.Bool.Decides.{nat_tests}
use Rattle.std.proofs.Math.Seq.{take-append_seam}
use Rattle.std.proofs.lemmas.Bool.{ne_eqb, eqb-true, and_parts, and_from, not_from_false, or_from}
use Rattle.std.proofs.lemmas.Str.{encodes-chars, encodes-append, chars-append, IsCharBoundary-from_take}
use Rattle.doc_rules.specs.Characters.{Text, one_of, last_or}
use Rattle.doc_rules.specs.Rules.{Rules}
use Rattle.doc_rules.specs.Parsers.{before, is}
use Rattle.doc_rules.specs.Rests.{IsRest}
use Rattle.doc_rules.proofs.ParserLaws.{rest_is_shorter, before_rest, is_rest_again}
use Rattle.doc_lines.specs.RestSteps.{IsAsciiClass, IsCutBefore, begins_in}
use Rattle.doc_lines.proofs.Ends.{last_or_end}
use Rattle.doc_inlines.specs.ReadingSteps.{begins_always, begins_by, begins_something, is_plain, breaks, Quiet}
use Rattle.doc_inlines.specs.PlainSteps.{IsPlainEnd, IsPlainStop, IsWithoutSpaces, StandsInFront}
use Rattle.doc_inlines.specs.ReaderSteps.{IsPlainRun}
use Rattle.doc_inlines.proofs.ClassLaws.{agree_below, agree_at}
use Rattle.doc_inlines.proofs.ReadingLaws.{before_is}
use Rattle.doc_inlines.proofs.ReaderLaws.{before_both}
use Rattle.doc_inlines.proofs.PlainLaws.{quiet_without_space, quiet_before, plain_breaks}
use Rattle.doc_inlines.proofs.EscapeLaws.{before_behind}
use Rattle.doc_inlines.proofs.RunLaws.{behind_first}

-- ---- the front of a text, without the spaces at its end

front_is_plain : (rules : Rules) (text rest front : Text) → IsCutBefore (begins_something rules) text rest → text ≡ front ++ rest
    → list_all (is_plain rules) front ≡ true
front_is_plain rules text rest front cut e =
    let same : front ≡ cut.front = append_cancel_right front cut.front rest (sym e ∙ cut.split) in
    ap (list_all (is_plain rules)) same ∙ cut.outside

pub cut_is_rest : (rules : Rules) (text rest : Text) → IsCutBefore (begins_something rules) text rest → IsRest rest text
cut_is_rest rules text rest cut = record { front = cut.front; split = cut.split }

pub plain_until : (rules : Rules) (text rest front words end : Text) → IsCutBefore (begins_something rules) text rest → text ≡ front ++ rest
    → IsWithoutSpaces front words → text ≡ words ++ end → IsPlainEnd rules text end
plain_until rules text rest front words end cut e w f =
    let plain : list_all (is_plain rules) front ≡ true = front_is_plain rules text rest front cut e in
    let parts = and_parts (list_all (is_plain rules) words) (list_all (is_plain rules) w.stands.rest)
    (sym (list_all-append (is_plain rules) words w.stands.rest) ∙ (sym (ap (list_all (is_plain rules)) w.stands.split) ∙ plain)) in
    let passed : before end text ≡ words = ap (before end) f ∙ before_is words end in
    record {
      behind = record { front = words; split = f };
      plain = ap (list_all (is_plain rules)) passed ∙ parts.0;
      last = ap (λ t. last_or 0 t == 32) passed ∙ w.last;
    }

-- ---- where plain text stops

pub stops_before_spaces : (rules : Rules) (text end : Text) → IsPlainEnd rules text end → IsPlainStop rules text end
stops_before_spaces rules text end u = record {
  behind = u.behind;
  plain = u.plain;
  quiet = quiet_without_space rules (before end text) end u.plain
      u.last;
}

space_begins_by : (strikes links : Bool) → begins_by strikes links 32 ≡ true → ⊥
space_begins_by true true e = absurd cc
space_begins_by true false e = absurd cc
space_begins_by false true e = absurd cc
space_begins_by false false e = absurd cc

space_begins_nothing : (rules : Rules) → begins_something rules 32 ≡ true → ⊥
space_begins_nothing rules e = space_begins_by rules.strikethrough rules.bare_links e

no_line : (rest : Text) (b : Bool) → ◌≡◌ {A = Option Text} None (elim b [ true ↦ Some rest | false ↦ None ]) → b ≡ false
no_line rest true f = absurd cc
no_line rest false f = refl

-- a text that begins with a character that begins something, and with no line ending, begins with no break
something_else : (rules : Rules) (rest : Text) → begins_in (begins_something rules) rest ≡ true → None ≡ is 10 rest → breaks rest ≡ false
unfolding breaks
something_else rules [] e f = refl
something_else rules (c ∷ rest) e f = at (32 == c) refl
  where
    at : (b : Bool) → (32 == c) ≡ b → (elim b [ true ↦ breaks rest | false ↦ c == 10 ]) ≡ false
    at true g = let space : 32 ≡ c = eqb-true 32 c g in absurd (space_begins_nothing rules (ap (begins_something rules) space ∙ e))
    at false g = no_line rest (c == 10) f

pub stops_at_something : (rules : Rules) (text rest : Text) → IsCutBefore (begins_something rules) text rest → None ≡ is 10 rest
    → IsPlainStop rules text rest
stops_at_something rules text rest cut e =
    let plain : list_all (is_plain rules) (before rest text) ≡ true = front_is_plain rules text rest (before rest text) cut
    (before_rest rest text (cut_is_rest rules text rest cut)) in
    record {
      behind = cut_is_rest rules text rest cut;
      plain = plain;
      quiet = quiet_before rules (before rest text) rest plain
          (something_else rules rest cut.stop e);
    }

-- ---- a space at the end

pub no_space_at_end : (text : Text) → text ≡ [] → (last_or 0 text == 32) ≡ false
unfolding last_or
no_space_at_end text e = ap (λ t. last_or 0 t == 32) e

pub other_at_end : (text front : Text) (c : ℕ) → text ≡ front ++ (c ∷ []) → (c == 32) ≡ false → (last_or 0 text == 32) ≡ false
other_at_end text front c e f = ap (λ t. last_or 0 t == 32) e ∙ (ap (λ d. d == 32) (last_or_end 0 front c) ∙ f)

-- ---- the bytes behind a front

bytes_join : (text front : List ℕ) (h : StandsInFront (chars front) (chars text)) → IsUtf8 text → IsUtf8 front
    → text ≡ front ++ encode_utf8_all h.rest
bytes_join text front h u v =
    sym (encodes-chars text u) ∙ (ap encode_utf8_all h.split
    ∙ (encodes-append (chars front) h.rest ∙ ap (λ f. f ++ encode_utf8_all h.rest) (encodes-chars front v)))

pub front_is_no_longer : (text front : List ℕ) → StandsInFront (chars front) (chars text) → IsUtf8 text → IsUtf8 front
    → length front ≤ length text
front_is_no_longer text front h u v =
    let e : length text ≡ length front + length (encode_utf8_all h.rest) = ap length (bytes_join text front h u v)
    ∙ length-append front (encode_utf8_all h.rest) in
    omega arith

front_bytes : (text front : List ℕ) → StandsInFront (chars front) (chars text) → IsUtf8 text → IsUtf8 front
    → take (length front) text ≡ front
front_bytes text front h u v = ap (take (length front)) (bytes_join text front h u v) ∙ take-append_seam front (encode_utf8_all h.rest)

pub front_ends_at_boundary : (text front : List ℕ) → StandsInFront (chars front) (chars text) → IsUtf8 text → IsUtf8 front
    → IsCharBoundary text (length front)
front_ends_at_boundary text front h u v =
    IsCharBoundary-from_take text (length front) u (front_is_no_longer text front h u v)
    (subst IsUtf8 (sym (front_bytes text front h u v)) v)

pub joins_behind : (text front behind : List ℕ) → StandsInFront (chars front) (chars text) → IsUtf8 text → IsUtf8 front
    → behind ≡ drop (length front) text → chars text ≡ chars front ++ chars behind
joins_behind text front behind h u v e =
    let whole : text ≡ front ++ behind = sym (take-append-drop (length front) text)
    ∙ ap₂ (λ xs ys. xs ++ ys) (front_bytes text front h u v) (sym e) in
    ap chars whole ∙ chars-append front behind v

-- ---- which characters begin something

pub always_ascii : (c : ℕ) → begins_always c ≡ true → c < 128
always_ascii c e = grind (arith, nat_tests)

pub by_ascii : (strikes links : Bool) (c : ℕ) → (begins_always c || begins_by strikes links c) ≡ true → c < 128
by_ascii true true c f = grind (arith, nat_tests)
by_ascii true false c f = grind (arith, nat_tests)
by_ascii false true c f = grind (arith, nat_tests)
by_ascii false false c f = grind (arith, nat_tests)

pub beginnings_are_ascii : (rules : Rules) → IsAsciiClass (begins_something rules)
beginnings_are_ascii rules c e = by_ascii rules.strikethrough rules.bare_links c e

pub agree_in_table : (table : List ℕ) (b : ℕ) → b < 256 → agree_below (λ k. not (nat_eq (get_or table k 0) 46)) begins_always 256 ≡ true
    → not (nat_eq (get_or table b 0) 46) ≡ begins_always b
agree_in_table table b less h = agree_at (λ k. not (nat_eq (get_or table k 0) 46)) begins_always 256 h b less

pub all_in_table : (table : List ℕ) (b : ℕ) → b < 256
    → agree_below (λ k. not (nat_eq (get_or table k 0) 46)) (λ k. begins_always k || begins_by true true k) 256 ≡ true
    → not (nat_eq (get_or table b 0) 46) ≡ (begins_always b || begins_by true true b)
all_in_table table b less h =
    agree_at (λ k. not (nat_eq (get_or table k 0) 46)) (λ k. begins_always k || begins_by true true k) 256 h b less

-- what begins nothing with all extensions begins nothing with some
pub none_begins : (strikes links : Bool) (c : ℕ) → (begins_always c || begins_by true true c) ≡ false
    → (begins_always c || begins_by strikes links c) ≡ false
none_begins strikes links c e = by (begins_always c) (c == 126) (one_of (codes "whHfF") c) strikes links e
  where
    by : (always tilde letter s l : Bool) → (always || ((true && tilde) || (true && letter))) ≡ false
        → (always || ((s && tilde) || (l && letter))) ≡ false
    by true tilde letter s l e = absurd cc
    by false true letter s l e = absurd cc
    by false false true s l e = absurd cc
    by false false false true true e = refl
    by false false false true false e = refl
    by false false false false true e = refl
    by false false false false false e = refl

-- by what the rules tell
pub begins_told : (rules : Rules) (strikes links : Bool) → strikes ≡ rules.strikethrough → links ≡ rules.bare_links → (c : ℕ)
    → (begins_always c || begins_by strikes links c) ≡ begins_something rules c
begins_told rules strikes links e f c = ap₂ (λ s l. begins_always c || begins_by s l c) e f

pub begins_without : (rules : Rules) (strikes links : Bool) → strikes ≡ rules.strikethrough → links ≡ rules.bare_links
    → (strikes || links) ≡ false → (c : ℕ) → begins_always c ≡ begins_something rules c
begins_without rules strikes links e f none c = by strikes links none ∙ begins_told rules strikes links e f c
  where
    by : (s l : Bool) → (s || l) ≡ false → begins_always c ≡ (begins_always c || begins_by s l c)
    by true l g = absurd cc
    by false true g = absurd cc
    by false false g = sym (or-false (begins_always c))

-- ---- a run of plain characters

true_is_false : true ≡ false → ⊥
true_is_false e = absurd cc

pub plain_run : (rules : Rules) (whole more end : Text) (c : ℕ) → whole ≡ c ∷ more → is_plain rules c ≡ true → (c == 32) ≡ false
    → IsPlainStop rules more end → IsPlainRun rules whole end
plain_run rules whole more end c e p s u =
    let run : before end whole ≡ c ∷ before end more = before_behind c whole more end e u.behind in
    let l : length end ≤ length more = rest_is_shorter end more u.behind in
    let k : length whole ≡ length (c ∷ more) = ap length e in
    record {
      behind = behind_first c more whole end e u.behind;
      plain = ap (list_all (is_plain rules)) run ∙ and_from (is_plain rules c) (list_all (is_plain rules) (before end more)) p u.plain;
      quiet = subst (λ t. Quiet t end) (sym run) (λ f. absurd (true_is_false (sym f ∙ s)), u.quiet);
      shorter = omega arith;
    }

-- ---- spaces, and a run of plain characters behind them

quiet_both : (rules : Rules) (spaces run end : Text) → list_all (is_plain rules) spaces ≡ true → breaks (run ++ end) ≡ false → Quiet run end
    → Quiet (spaces ++ run) end
quiet_both rules [] run end h e q = q
quiet_both rules (c ∷ spaces) run end h e q =
    let more = (and_parts (is_plain rules c) (list_all (is_plain rules) spaces) h).1 in
    (λ _. ap breaks (append_assoc spaces run end) ∙ plain_breaks rules spaces (run ++ end) more e, quiet_both rules spaces run end more e q)

pub run_goes_further : (rules : Rules) (whole rest end : Text) → IsPlainRun rules whole rest → breaks rest ≡ false
    → IsPlainStop rules rest end → IsPlainRun rules whole end
run_goes_further rules whole rest end r e u =
    let both : before end whole ≡ before rest whole ++ before end rest = before_both whole rest end r.behind u.behind in
    let l : length end ≤ length rest = rest_is_shorter end rest u.behind in
    let k : length rest < length whole = r.shorter in
    record {
      behind = is_rest_again whole rest end u.behind r.behind;
      plain = ap (list_all (is_plain rules)) both ∙ (list_all-append (is_plain rules) (before rest whole) (before end rest)
          ∙ and_from (list_all (is_plain rules) (before rest whole)) (list_all (is_plain rules) (before end rest)) r.plain u.plain);
      quiet = subst (λ t. Quiet t end) (sym both) (quiet_both rules (before rest whole) (before end rest) end r.plain
          (sym (ap breaks (before_rest end rest u.behind)) ∙ e) u.quiet);
      shorter = omega arith;
    }

-- ---- which characters are plain

abbrev Is : ℕ → ℕ → Type 0
Is c d = c ≡ d → ⊥

no_always : (c : ℕ) → Is c 10 → Is c 42 → Is c 95 → Is c 91 → Is c 93 → Is c 96 → Is c 60 → Is c 38 → Is c 92 → Is c 33 → Is c 62
    → Is c 34 → begins_always c ≡ false
no_always c a b d e f g h i j k l m =
    (or_from (c == 10) _ (ne_eqb c 10 a) (or_from (c == 42) _ (ne_eqb c 42 b)
    (or_from (c == 95) _ (ne_eqb c 95 d) (or_from (c == 91) _ (ne_eqb c 91 e)
    (or_from (c == 93) _ (ne_eqb c 93 f) (or_from (c == 96) _ (ne_eqb c 96 g)
    (or_from (c == 60) _ (ne_eqb c 60 h) (or_from (c == 38) _ (ne_eqb c 38 i)
    (or_from (c == 92) _ (ne_eqb c 92 j) (or_from (c == 33) _ (ne_eqb c 33 k)
    (or_from (c == 62) _ (ne_eqb c 62 l) (or_from (c == 34) _ (ne_eqb c 34 m) refl))))))))))))

no_letter : (c : ℕ) → Is c 119 → Is c 104 → Is c 72 → Is c 102 → Is c 70 → one_of (codes "whHfF") c ≡ false
no_letter c a b d e f =
    or_from (c == 119) _ (ne_eqb c 119 a) (or_from (c == 104) _ (ne_eqb c 104 b) (or_from (c == 72) _ (ne_eqb c 72 d)
    (or_from (c == 102) _ (ne_eqb c 102 e) (or_from (c == 70) _ (ne_eqb c 70 f) refl))))

and_right_false : (a b : Bool) → b ≡ false → (a && b) ≡ false
and_right_false true b e = e
and_right_false false b e = refl

pub plain_is : (rules : Rules) (c : ℕ) → Is c 10 → Is c 42 → Is c 95 → Is c 91 → Is c 93 → Is c 96 → Is c 60 → Is c 38 → Is c 92 → Is c 33
    → Is c 62 → Is c 34 → Is c 126 → Is c 119 → Is c 104 → Is c 72 → Is c 102 → Is c 70 → is_plain rules c ≡ true
plain_is rules c a b d e f g h i j k l m n o p q r s =
    not_from_false _ (or_from (begins_always c) _ (no_always c a b d e f g h i j k l m)
    (or_from (rules.strikethrough && (c == 126)) _ (and_right_false rules.strikethrough (c == 126) (ne_eqb c 126 n))
    (and_right_false rules.bare_links (one_of (codes "whHfF") c) (no_letter c o p q r s))))

-- a character of an extension that isn't read
pub plain_tilde : (rules : Rules) → rules.strikethrough ≡ false → is_plain rules 126 ≡ true
plain_tilde rules e = by rules.strikethrough rules.bare_links e
  where
    by : (strikes links : Bool) → strikes ≡ false → not (begins_by strikes links 126) ≡ true
    by true links e = absurd cc
    by false true e = refl
    by false false e = refl

-- ---- what is so for all targets

pub all_on_ok : {T E A B : Type 0} (result : Result T E) → (A → B) → OnOk result A → OnOk result B
all_on_ok (Ok x) f h = f h
all_on_ok (Err e) f h = tt
