-- Ends that are sought once, and raw HTML by the character behind its '<'.
use Rattle.std.proofs.Common.{◌≡◌, ℕ, ◌<◌, Bool, true, false, ◌==◌, [], ◌∷◌, refl, ap, sym, ◌∙◌, Option, Some, None, option_and_then, codes}
use Rattle.std.proofs.Common.{arith, ne_eqb}
use Rattle.std.specs.Char.{is_ascii_alphabetic}
use Rattle.doc_rules.specs.Characters.{Text}
use Rattle.doc_rules.specs.Parsers.{Parser, one, is, word, through, spacing, ◌then◌, ◌or◌}
use Rattle.doc_rules.specs.Tags.{tag_name, open_tag, closing_tag, html_tag, comment, instruction, declaration, cdata, raw_html}
use Rattle.doc_rules.specs.Rests.{IsRest}
use Rattle.doc_rules.proofs.ParserLaws.{Leaves, is_rest_again, one_leaves, word_leaves, then_leaves, through_leaves}
use Rattle.doc_lines.proofs.Steps.{no_end_behind, then_is}
use Rattle.doc_inlines_marks.specs.declared.ends.MissingEnds.{MissingEnds}
use Rattle.doc_inlines_marks.specs.ToldSteps.{size}
use Rattle.doc_inlines_marks.specs.EndSteps.{Seeks, Reads}
use Rattle.doc_inlines_marks.proofs.Sizes.{smaller_end}

-- ---- one end

-- it is known to be missing
pub seek_less : (end : Parser) (old left : ℕ) (text : Text) → size text ≡ left → left < old → Seeks end old old text None
seek_less end old left text e l = record {
  value = λ whole missing ends. sym (missing text ends (omega arith));
  told = λ whole missing ends. missing;
  rest = λ behind f. absurd cc;
}

pub seek_found : (end : Parser) (old : ℕ) (text after : Text) → Leaves end → Some after ≡ through end text
    → Seeks end old old text (Some after)
seek_found end old text after leaves e = record {
  value = λ whole missing ends. e;
  told = λ whole missing ends. missing;
  rest = λ behind f. through_leaves end leaves text behind (sym e ∙ f);
}

pub seek_none : (end : Parser) (old left : ℕ) (text : Text) → size text ≡ left → None ≡ through end text → Seeks end old left text None
seek_none end old left text e none = record {
  value = λ whole missing ends. none;
  told = λ whole missing ends rest inner small.
      let nested : IsRest rest text = smaller_end rest text whole inner ends (omega arith) in
      no_end_behind end nested.front rest (ap (through end) (sym nested.split) ∙ sym none);
  rest = λ behind f. absurd cc;
}

-- ---- one after another

pub reads_same : (read : Parser) (known : MissingEnds) (text : Text) (found : Option Text) → Leaves read → found ≡ read text
    → Reads read known known text found
reads_same read known text found leaves e = record {
  value = λ whole told ends. e;
  told = λ whole told ends. told;
  rest = λ behind f. leaves text behind (sym e ∙ f);
}

pub reads_as : (read other : Parser) (old new : MissingEnds) (text : Text) (found : Option Text) → Reads read old new text found
    → read text ≡ other text → Reads other old new text found
reads_as read other old new text found h e = record { value = λ whole told ends. h.value whole told ends ∙ e; told = h.told; rest = h.rest }

-- one that stands there, or another
either : Parser → Text → Option Text → Option Text
either second text found = elim found [ Some rest ↦ Some rest | None ↦ second text ]

pub or_here : (first second : Parser) (text rest : Text) → Some rest ≡ first text → Some rest ≡ (first or second) text
unfolding either
or_here first second text rest e = ap (either second text) e

pub or_there : (first second : Parser) (text : Text) (found : Option Text) → None ≡ first text → found ≡ second text
    → found ≡ (first or second) text
unfolding either
or_there first second text found e f = f ∙ ap (either second text) e

or_nothing : (first second : Parser) (text : Text) → second text ≡ None → (first or second) text ≡ first text
or_nothing first second text e = at (first text)
  where
    at : (found : Option Text) → (elim found [ Some rest ↦ Some rest | None ↦ second text ]) ≡ found
    at (Some rest) = refl
    at None = e

pub reads_first : (first second : Parser) (old new : MissingEnds) (text rest : Text) → Reads first old new text (Some rest)
    → Reads (first or second) old new text (Some rest)
reads_first first second old new text rest h = record {
  value = λ whole told ends. or_here first second text rest
      (h.value whole told ends);
  told = h.told;
  rest = h.rest;
}

pub reads_second : (first second : Parser) (old mid new : MissingEnds) (text : Text) (found : Option Text) → Reads first old mid text None
    → Reads second mid new text found → Reads (first or second) old new text found
reads_second first second old mid new text found h g = record {
  value = λ whole told ends. or_there first second text found (h.value whole told ends) (g.value whole (h.told whole told ends) ends);
  told = λ whole told ends. g.told whole (h.told whole told ends) ends;
  rest = g.rest;
}

-- ---- by the character behind the '<'

after_or : Parser → Text → Option Text → Option Text
after_or second text found = elim found [ Some rest ↦ Some rest | None ↦ second text ]

bang : (more : Text) → (comment or declaration or cdata) (60 ∷ (33 ∷ more)) ≡ raw_html (60 ∷ (33 ∷ more))
unfolding raw_html open_tag closing_tag tag_name word instruction after_or
bang more =
    ap (λ (f : Option Text). after_or cdata (60 ∷ (33 ∷ more)) (after_or declaration (60 ∷ (33 ∷ more)) f))
    (sym (or_nothing comment instruction (60 ∷ (33 ∷ more)) refl))

question : (more : Text) → instruction (60 ∷ (63 ∷ more)) ≡ raw_html (60 ∷ (63 ∷ more))
unfolding raw_html open_tag closing_tag tag_name word comment declaration cdata
question more = sym (or_nothing (instruction or declaration) cdata (60 ∷ (63 ∷ more)) refl
    ∙ or_nothing instruction declaration (60 ∷ (63 ∷ more)) refl)

slash : (more : Text) → closing_tag (60 ∷ (47 ∷ more)) ≡ raw_html (60 ∷ (47 ∷ more))
unfolding raw_html open_tag tag_name word comment instruction declaration cdata
slash more =
    sym
    (or_nothing (closing_tag or comment or instruction or declaration) cdata (60 ∷ (47 ∷ more)) refl
    ∙ (or_nothing (closing_tag or comment or instruction) declaration (60 ∷ (47 ∷ more)) refl
    ∙ (or_nothing (closing_tag or comment) instruction (60 ∷ (47 ∷ more)) refl ∙ or_nothing closing_tag comment (60 ∷ (47 ∷ more)) refl)))

-- another character begins another word
off : (d c : ℕ) (w more : Text) → (d == c) ≡ false → word (60 ∷ (d ∷ w)) (60 ∷ (c ∷ more)) ≡ None
unfolding word
off d c w more e = ap (λ (b : Bool). elim b [ true ↦ word w more | false ↦ None ]) e

then_none : (first second : Parser) (text : Text) → first text ≡ None → (first then second) text ≡ None
then_none first second text e = ap (option_and_then second) e

or_none : (first second : Parser) (text : Text) → first text ≡ None → second text ≡ None → (first or second) text ≡ None
or_none first second text e f = or_nothing first second text f ∙ e

no_closing : (c : ℕ) (more : Text) → (47 == c) ≡ false → closing_tag (60 ∷ (c ∷ more)) ≡ None
unfolding closing_tag
no_closing c more e =
    then_none (word (codes "</") then tag_name then spacing) (is 62) (60 ∷ (c ∷ more))
    (then_none (word (codes "</") then tag_name) spacing (60 ∷ (c ∷ more))
    (then_none (word (codes "</")) tag_name (60 ∷ (c ∷ more)) (off 47 c [] more e)))

no_comment : (c : ℕ) (more : Text) → (33 == c) ≡ false → comment (60 ∷ (c ∷ more)) ≡ None
unfolding comment
no_comment c more e =
    or_none (word (codes "<!-->") or word (codes "<!--->")) (word (codes "<!--") then through (word (codes "-->"))) (60 ∷ (c ∷ more))
    (or_none (word (codes "<!-->")) (word (codes "<!--->")) (60 ∷ (c ∷ more)) (off 33 c (codes "-->") more e)
    (off 33 c (codes "--->") more e))
    (then_none (word (codes "<!--")) (through (word (codes "-->"))) (60 ∷ (c ∷ more)) (off 33 c (codes "--") more e))

no_instruction : (c : ℕ) (more : Text) → (63 == c) ≡ false → instruction (60 ∷ (c ∷ more)) ≡ None
unfolding instruction
no_instruction c more e = then_none (word (codes "<?")) (through (word (codes "?>"))) (60 ∷ (c ∷ more)) (off 63 c [] more e)

no_declaration : (c : ℕ) (more : Text) → (33 == c) ≡ false → declaration (60 ∷ (c ∷ more)) ≡ None
unfolding declaration
no_declaration c more e =
    then_none (word (codes "<!") then one is_ascii_alphabetic) (through (is 62)) (60 ∷ (c ∷ more))
    (then_none (word (codes "<!")) (one is_ascii_alphabetic) (60 ∷ (c ∷ more)) (off 33 c [] more e))

no_cdata : (c : ℕ) (more : Text) → (33 == c) ≡ false → cdata (60 ∷ (c ∷ more)) ≡ None
unfolding cdata
no_cdata c more e = then_none (word (codes "<![CDATA[")) (through (word (codes "]]>"))) (60 ∷ (c ∷ more))
    (off 33 c (codes "[CDATA[") more e)

other : (c : ℕ) (more : Text) → (33 == c) ≡ false → (63 == c) ≡ false → (47 == c) ≡ false
    → open_tag (60 ∷ (c ∷ more)) ≡ raw_html (60 ∷ (c ∷ more))
unfolding raw_html
other c more b q s =
    sym
    (or_nothing (html_tag or comment or instruction or declaration) cdata (60 ∷ (c ∷ more)) (no_cdata c more b)
    ∙ (or_nothing (html_tag or comment or instruction) declaration (60 ∷ (c ∷ more)) (no_declaration c more b)
    ∙ (or_nothing (html_tag or comment) instruction (60 ∷ (c ∷ more)) (no_instruction c more q)
    ∙ (or_nothing html_tag comment (60 ∷ (c ∷ more)) (no_comment c more b)
    ∙ or_nothing open_tag closing_tag (60 ∷ (c ∷ more)) (no_closing c more s)))))

-- ---- as the code reads it

along : (read same : Parser) (text whole : Text) → text ≡ whole → read whole ≡ same whole → read text ≡ same text
along read same text whole e h = ap read e ∙ (h ∙ sym (ap same e))

begins_with : (text inside more : Text) (c d : ℕ) → text ≡ 60 ∷ inside → inside ≡ c ∷ more → c ≡ d → text ≡ 60 ∷ (d ∷ more)
begins_with text inside more c d e f g = e ∙ (ap (λ t. 60 ∷ t) f ∙ ap (λ k. 60 ∷ (k ∷ more)) g)

pub raw_nothing : (text inside : Text) → text ≡ 60 ∷ inside → inside ≡ [] → None ≡ raw_html text
unfolding raw_html open_tag closing_tag tag_name word comment instruction declaration cdata
raw_nothing text inside e f = sym (ap raw_html (e ∙ ap (λ t. 60 ∷ t) f))

pub raw_bang : (text inside more : Text) (c : ℕ) → text ≡ 60 ∷ inside → inside ≡ c ∷ more → c ≡ 33
    → (comment or declaration or cdata) text ≡ raw_html text
raw_bang text inside more c e f g = along (comment or declaration or cdata) raw_html text (60 ∷ (33 ∷ more))
    (begins_with text inside more c 33 e f g) (bang more)

pub raw_question : (text inside more : Text) (c : ℕ) → text ≡ 60 ∷ inside → inside ≡ c ∷ more → c ≡ 63 → instruction text ≡ raw_html text
raw_question text inside more c e f g = along instruction raw_html text (60 ∷ (63 ∷ more)) (begins_with text inside more c 63 e f g)
    (question more)

pub raw_slash : (text inside more : Text) (c : ℕ) → text ≡ 60 ∷ inside → inside ≡ c ∷ more → c ≡ 47 → closing_tag text ≡ raw_html text
raw_slash text inside more c e f g = along closing_tag raw_html text (60 ∷ (47 ∷ more)) (begins_with text inside more c 47 e f g)
    (slash more)

pub raw_other : (text inside more : Text) (c : ℕ) → text ≡ 60 ∷ inside → inside ≡ c ∷ more → (c ≡ 33 → ⊥) → (c ≡ 63 → ⊥) → (c ≡ 47 → ⊥)
    → open_tag text ≡ raw_html text
raw_other text inside more c e f b q s =
    along open_tag raw_html text (60 ∷ (c ∷ more)) (begins_with text inside more c c e f refl)
    (other c more (ne_eqb 33 c (λ h. b (sym h))) (ne_eqb 63 c (λ h. q (sym h))) (ne_eqb 47 c (λ h. s (sym h))))

pub cdata_nothing : (text : Text) → None ≡ word (codes "<![CDATA[") text → None ≡ cdata text
unfolding cdata
cdata_nothing text e = ap (option_and_then (through (word (codes "]]>")))) e

pub instruction_nothing : (text : Text) → None ≡ word (codes "<?") text → None ≡ instruction text
unfolding instruction
instruction_nothing text e = ap (option_and_then (through (word (codes "?>")))) e

pub declaration_nothing : (text : Text) → None ≡ (word (codes "<!") then one is_ascii_alphabetic) text → None ≡ declaration text
unfolding declaration
declaration_nothing text e = ap (option_and_then (through (is 62))) e

pub comment_empty : (text after : Text) → Some after ≡ word (codes "<!-->") text → Some after ≡ comment text
unfolding comment
comment_empty text after e =
    or_here (word (codes "<!-->") or word (codes "<!--->")) (word (codes "<!--") then through (word (codes "-->"))) text after
    (or_here (word (codes "<!-->")) (word (codes "<!--->")) text after e)

pub comment_short : (text after : Text) → None ≡ word (codes "<!-->") text → Some after ≡ word (codes "<!--->") text
    → Some after ≡ comment text
unfolding comment
comment_short text after n e =
    or_here (word (codes "<!-->") or word (codes "<!--->")) (word (codes "<!--") then through (word (codes "-->"))) text after
    (or_there (word (codes "<!-->")) (word (codes "<!--->")) text (Some after) n e)

pub comment_long : (text : Text) (found : Option Text) → None ≡ word (codes "<!-->") text → None ≡ word (codes "<!--->") text
    → found ≡ (word (codes "<!--") then through (word (codes "-->"))) text → found ≡ comment text
unfolding comment
comment_long text found n m e =
    or_there (word (codes "<!-->") or word (codes "<!--->")) (word (codes "<!--") then through (word (codes "-->"))) text found
    (or_there (word (codes "<!-->")) (word (codes "<!--->")) text None n m) e

-- behind its start the end of each is sought
pub read_cdata : (old : MissingEnds) (new : ℕ) (text inside : Text) (found : Option Text) → Some inside ≡ word (codes "<![CDATA[") text
    → Seeks (word (codes "]]>")) old.cdata new inside found →
    Reads cdata old (record { comment = old.comment; instruction = old.instruction; declaration = old.declaration; cdata = new }) text found
unfolding cdata
read_cdata old new text inside found e h =
    let inner : IsRest inside text = word_leaves (codes "<![CDATA[") text inside (sym e) in record {
      value = λ whole told ends. then_is (word (codes "<![CDATA[")) (through (word (codes "]]>"))) text inside found e
          (h.value whole told.cdata (is_rest_again whole text inside inner ends));
      told = λ whole told ends. record {
        comment = told.comment;
        instruction = told.instruction;
        declaration = told.declaration;
        cdata = h.told whole told.cdata (is_rest_again whole text inside inner ends);
      };
      rest = λ behind f. is_rest_again text inside behind (h.rest behind f) inner;
    }

pub read_instruction : (old : MissingEnds) (new : ℕ) (text inside : Text) (found : Option Text) → Some inside ≡ word (codes "<?") text
    → Seeks (word (codes "?>")) old.instruction new inside found →
    Reads instruction old (record { comment = old.comment; instruction = new; declaration = old.declaration; cdata = old.cdata }) text found
unfolding instruction
read_instruction old new text inside found e h =
    let inner : IsRest inside text = word_leaves (codes "<?") text inside (sym e) in record {
      value = λ whole told ends. then_is (word (codes "<?")) (through (word (codes "?>"))) text inside found e
          (h.value whole told.instruction (is_rest_again whole text inside inner ends));
      told = λ whole told ends. record {
        comment = told.comment;
        instruction = h.told whole told.instruction (is_rest_again whole text inside inner ends);
        declaration = told.declaration;
        cdata = told.cdata;
      };
      rest = λ behind f. is_rest_again text inside behind (h.rest behind f) inner;
    }

pub read_declaration : (old : MissingEnds) (new : ℕ) (text inside : Text) (found : Option Text)
    → Some inside ≡ (word (codes "<!") then one is_ascii_alphabetic) text → Seeks (is 62) old.declaration new inside found →
    Reads declaration old (record { comment = old.comment; instruction = old.instruction; declaration = new; cdata = old.cdata }) text found
unfolding declaration
read_declaration old new text inside found e h =
    let inner : IsRest inside text = then_leaves (word (codes "<!")) (one is_ascii_alphabetic) (word_leaves (codes "<!"))
    (one_leaves is_ascii_alphabetic) text inside (sym e) in record {
      value = λ whole told ends. then_is (word (codes "<!") then one is_ascii_alphabetic) (through (is 62)) text inside found e
          (h.value whole told.declaration (is_rest_again whole text inside inner ends));
      told = λ whole told ends. record {
        comment = told.comment;
        instruction = told.instruction;
        declaration = h.told whole told.declaration (is_rest_again whole text inside inner ends);
        cdata = told.cdata;
      };
      rest = λ behind f. is_rest_again text inside behind (h.rest behind f) inner;
    }

pub read_comment : (old : MissingEnds) (new : ℕ) (text inside : Text) (found : Option Text) → None ≡ word (codes "<!-->") text
    → None ≡ word (codes "<!--->") text → Some inside ≡ word (codes "<!--") text → Seeks (word (codes "-->")) old.comment new inside found →
    Reads comment old (record { comment = new; instruction = old.instruction; declaration = old.declaration; cdata = old.cdata }) text found
read_comment old new text inside found n m e h =
    let inner : IsRest inside text = word_leaves (codes "<!--") text inside (sym e) in record {
      value = λ whole told ends.
          comment_long text found n m (then_is (word (codes "<!--")) (through (word (codes "-->"))) text inside found e
          (h.value whole told.comment (is_rest_again whole text inside inner ends)));
      told = λ whole told ends. record {
        comment = h.told whole told.comment (is_rest_again whole text inside inner ends);
        instruction = told.instruction;
        declaration = told.declaration;
        cdata = told.cdata;
      };
      rest = λ behind f. is_rest_again text inside behind (h.rest behind f) inner;
    }
