-- Code spans, autolinks and raw HTML, as a reader reads them.
use Rattle.std.proofs.Common.{◌≡◌, Bool, true, false, ◌&&◌, ◌||◌, ◌==◌, ℕ, zero, suc, ◌-◌, ◌<◌, ◌≤◌, List, [], ◌∷◌, ◌++◌, replicate, length}
use Rattle.std.proofs.Common.{chars, refl, ap, sym, ◌∙◌, subst, Option, Some, None, codes, arith, append_assoc, append-nil}
use denote.Ref.{Bor}
use Rattle.std.specs.Prelude.{IfSome}
use Rattle.std.specs.List.{list_all}
use Rattle.std.specs.Char.{is_ascii_alphabetic}
use Rattle.std.proofs.Math.Bool.{or-true}
use Rattle.doc_rules.specs.Characters.{Text}
use Rattle.doc_rules.specs.Parsers.{one, is, word, many, ◌then◌, ◌or◌, maybe, repeated, through, spacing, before}
use Rattle.doc_rules.specs.Tags.{tag_name, attribute, open_tag, closing_tag, html_tag, comment, instruction, declaration, cdata, raw_html}
use Rattle.doc_rules.specs.Autolinks.{uri, mail}
use Rattle.doc_rules.specs.Rules.{Rules}
use Rattle.doc_rules.specs.Definitions.{Definition}
use Rattle.doc_rules.specs.Inlines.{Inline, Literal, literals, onto}
use Rattle.doc_rules.specs.Inlines as inline
use Rattle.doc_rules.specs.Reading.{address, autolink, autolink_span, kinds, kind_in, item_of_kind, read_item}
use Rattle.doc_rules.specs.Rests.{IsRest}
use Rattle.doc_rules.proofs.ParserLaws.{Takes, is_rest_again, rest_is_shorter, one_leaves, word_leaves, then_leaves, first_takes, or_takes}
use Rattle.doc_rules.proofs.ParserLaws.{maybe_leaves, repeated_leaves, through_leaves, spacing_leaves}
use Rattle.doc_rules.proofs.GrammarLaws.{is_leaves, is_takes, tag_name_leaves, attribute_leaves, raw_html_leaves, uri_leaves, mail_leaves}
use Rattle.doc_refs_parts.specs.Targets.{Targets}
use Rattle.doc_inlines_marks.specs.declared.mark_ref.MarkRef.{MarkRef}
use Rattle.doc_inlines_marks.specs.declared.mark_ref.MarkRef.TheVariants as mark
use Rattle.doc_inlines_marks.specs.declared.mark_ref.SpanRef.{SpanRef}
use Rattle.doc_inlines_marks.specs.Slices.{slice_in, AreSlices, is_cut, AreCut}
use Rattle.doc_inlines_marks.specs.Views.{inlines_in, span_shown}
use Rattle.doc_inlines_marks.specs.declared.backticks.Backticks.{Backticks}
use Rattle.doc_inlines_marks.specs.CodeSpans.{code_span_at, code_found}
use Rattle.doc_inlines_marks.specs.declared.enclosed.Enclosed.{Enclosed}
use Rattle.doc_inlines_marks.specs.declared.enclosed.Enclosed.TheVariants as enclosed
use Rattle.doc_inlines_marks.specs.Enclosed as definition
use Rattle.doc_inlines_marks.specs.Enclosed.{Enclosing, enclosed_behind, enclosed_at}
use Rattle.doc_inlines_marks.specs.FoundSteps.{slice_of, enclosing_of}
use Rattle.doc_inlines_marks.specs.Reads.{code_read, enclosed_read, angle_read}
use Rattle.doc_inlines_marks.specs.PlaceSteps.{StandsBefore}
use Rattle.doc_inlines_marks.specs.ToldSteps.{TellsOfRuns, TellsOfEnds}
use Rattle.doc_inlines_marks.specs.declared.ends.MissingEnds.{MissingEnds}
use Rattle.doc_inlines_marks.proofs.ReadLaws.{code_span_reads, run_is_taken, left_angle_reads}
use Rattle.doc_inlines.specs.declared.reader.Reader.{Reader}
use Rattle.doc_inlines.specs.PieceSteps.{AddsText, IsPiece}
use Rattle.doc_inlines.specs.ReaderSteps.{is_uncut, made_before, outcome, IsReader, GoesOn, MarkStands}
use Rattle.doc_inlines.proofs.MadeLaws.{onto_both}
use Rattle.doc_inlines.proofs.ReadingLaws.{before_is}
use Rattle.doc_inlines.proofs.ReaderLaws.{before_both, literals_onto, nothing_pending, own_slice}
use Rattle.doc_inlines.proofs.SliceLaws.{slices_both, slices_widened, slices_with, cut_both}
use Rattle.doc_inlines.proofs.ItemLaws.{first_behind}
use Rattle.doc_inlines.proofs.RunLaws.{behind_first}

-- ---- where the text behind the first character stands

pub behind_in_whole : (whole plain rest more : Text) (c : ℕ) → IsRest plain whole → IsRest rest plain → rest ≡ c ∷ more → IsRest more whole
behind_in_whole whole plain rest more c h g e = is_rest_again whole rest more (first_behind c more rest e)
    (is_rest_again whole plain rest g h)

-- ---- a reader that learned more of backticks

pub learned_runs : (old : Reader) (learned : Backticks) → IsReader old → TellsOfRuns learned (chars old.text.now)
    → IsReader (record old { backticks = learned })
learned_runs old learned h t = record {
  draft = h.draft;
  plain = h.plain;
  rest = h.rest;
  slices = h.slices;
  cut = h.cut;
  pending = h.pending;
  behind = h.behind;
  backticks = t;
  missing = h.missing;
}

-- ---- a run of backticks is text

-- what a run of backticks is, with the first of them
run_before : (rest more next : Text) → rest ≡ 96 ∷ more → (None, next) ≡ code_span_at more
    → before next rest ≡ replicate (suc (length more - length next)) 96
run_before rest more next e f =
    let split : rest ≡ replicate (suc (length more - length next)) 96 ++ next = e ∙ ap (λ those. 96 ∷ those) (run_is_taken more next f) in
    ap (before next) split ∙ before_is (replicate (suc (length more - length next)) 96) next

uncut_run : (n : ℕ) → list_all is_uncut (replicate n 96) ≡ true
uncut_run zero = refl
uncut_run (suc n) = uncut_run n

pub ticks_uncut : (rest more next : Text) → rest ≡ 96 ∷ more → (None, next) ≡ code_span_at more
    → list_all is_uncut (before next rest) ≡ true
ticks_uncut rest more next e f = ap (list_all is_uncut) (run_before rest more next e f) ∙ uncut_run (suc (length more - length next))

in_front : (n : ℕ) (x : Inline) (made : List Inline) → replicate n x ++ (x ∷ made) ≡ x ∷ (replicate n x ++ made)
in_front zero x made = refl
in_front (suc n) x made = ap (λ those. x ∷ those) (in_front n x made)

pub run_onto : (n c : ℕ) (made : List Inline) → onto (literals (replicate n c)) made ≡ replicate n (Literal c) ++ made
run_onto zero c made = refl
run_onto (suc n) c made = onto_both (Literal c ∷ []) (literals (replicate n c)) made
    ∙ (run_onto n c (Literal c ∷ made) ∙ in_front n (Literal c) made)

pub ticks_made : (rest more next : Text) (made new : List Inline) → rest ≡ 96 ∷ more → (None, next) ≡ code_span_at more
    → new ≡ onto (literals (before next rest)) made →
    new ≡ replicate (suc (length more - length next)) (Literal 96) ++ made
ticks_made rest more next made new e f g =
    g ∙ (ap (λ text. onto (literals text) made) (run_before rest more next e f) ∙ run_onto (suc (length more - length next)) 96 made)

-- ---- what was found behind a backtick

pub span_found : (found : Option (Bor Text)) (next code : Bor Text) (answer : Option Text × Text) → found ≡ Some code
    → code_found (found, next) ≡ answer → (Some (chars code.now), chars next.now) ≡ answer
span_found found next code answer e h = ap (λ f. code_found (f, next)) (sym e) ∙ h

pub span_slice : (found : Option (Bor Text)) (next code : Bor Text) (more : Text) → found ≡ Some code
    → IfSome found (λ content. StandsBefore (chars content.now) (chars next.now) more) → StandsBefore (chars code.now) (chars next.now) more
span_slice found next code more e h = subst (λ f. IfSome f (λ content. StandsBefore (chars content.now) (chars next.now) more)) e h

pub run_found : (found : Option (Bor Text)) (next : Bor Text) (answer : Option Text × Text) → found ≡ None
    → code_found (found, next) ≡ answer → (None, chars next.now) ≡ answer
run_found found next answer e h = ap (λ f. code_found (f, next)) (sym e) ∙ h

-- ---- what the rules make behind a backtick

pub backtick_reads : (rules : Rules) (refs : List Definition) (last : ℕ) (made : List Inline) (more : Text) (found : Option Text × Text)
    → found ≡ code_span_at more →
    read_item rules refs last made 96 more ≡ code_read made more found
unfolding read_item kind_in kinds item_of_kind
backtick_reads rules refs last made more found e = code_span_reads made more ∙ ap (code_read made more) (sym e)

-- ---- a mark whose slice stands in front of the rest

-- a slice that stands behind the first character stands in front of the rest
pub slice_before : (c : ℕ) (rest more next slice : Text) → rest ≡ c ∷ more → StandsBefore slice next more → StandsBefore slice next rest
slice_before c rest more next slice e s = record { front = c ∷ s.front; between = s.between; split = e ∙ ap (λ those. c ∷ those) s.split }

before_slice : (rest next slice : Text) → (s : StandsBefore slice next rest) → before next rest ≡ s.front ++ (slice ++ s.between)
before_slice rest next slice s =
    let whole : rest ≡ (s.front ++ (slice ++ s.between)) ++ next =
    s.split ∙ (ap (λ those. s.front ++ those) (sym (append_assoc slice s.between next))
    ∙ sym (append_assoc s.front (slice ++ s.between) next)) in
    ap (before next) whole ∙ before_is (s.front ++ (slice ++ s.between)) next

pub code_stands : (c : ℕ) (rest more next : Text) (code : Bor Text) → rest ≡ c ∷ more → IsRest next more
    → StandsBefore (chars code.now) next more → MarkStands (mark.Code code) rest next
unfolding slice_in
code_stands c rest more next code e g s =
    let t : StandsBefore (chars code.now) next rest = slice_before c rest more next (chars code.now) e s in
    record {
      behind = behind_first c more rest next e g;
      slices = (t.front, t.between, (before_slice rest next (chars code.now) t, tt));
      cut = tt;
    }

pub code_made : (code : Bor Text) (made new : List Inline) → new ≡ onto (inlines_in (mark.Code code)) made
    → new ≡ inline.Code (chars code.now) ∷ made
unfolding inlines_in
code_made code made new e = e

-- ---- characters that HTML writes as they are

cut_where_uncut : (text : Text) → list_all is_uncut text ≡ true → is_cut text ≡ true
unfolding is_cut
cut_where_uncut text e = ap (λ b. (length text == 1) || b) e ∙ or-true (length text == 1)

many_front : (class : ℕ → Bool) (text rest : Text) → many class text ≡ Some rest
    → (front : Text) × ((text ≡ front ++ rest) × (list_all class front ≡ true))
unfolding many
many_front class [] rest e = let same : [] ≡ rest = cc in ([], (same, refl))
many_front class (c ∷ text) rest e = at (λ f. many_front class text rest f) (class c) refl e
  where
    at : (many class text ≡ Some rest → (front : Text) × ((text ≡ front ++ rest) × (list_all class front ≡ true))) → (b : Bool)
        → class c ≡ b → (elim b [ true ↦ many class text | false ↦ Some (c ∷ text) ]) ≡ Some rest →
        (front : Text) × (((c ∷ text) ≡ front ++ rest) × (list_all class front ≡ true))
    at go true f k = let h : (front : Text) × ((text ≡ front ++ rest) × (list_all class front ≡ true)) = go k in
        (c ∷ h.0, (ap (λ those. c ∷ those) h.1.0, ap (λ b. b && list_all class h.0) f ∙ h.1.1))
    at go false f k = let same : (c ∷ text) ≡ rest = cc in ([], (same, refl))

pub uncut_piece : (c : ℕ) (text more rest : Text) → text ≡ c ∷ more → is_uncut c ≡ true → Some rest ≡ many is_uncut more → IsRest rest more
    → IsPiece text rest
uncut_piece c text more rest e u m g =
    let h : (front : Text) × ((more ≡ front ++ rest) × (list_all is_uncut front ≡ true)) = many_front is_uncut more rest (sym m) in
    let split : text ≡ (c ∷ h.0) ++ rest = e ∙ ap (λ those. c ∷ those) h.1.0 in
    let own : before rest text ≡ c ∷ h.0 = ap (before rest) split ∙ before_is (c ∷ h.0) rest in
    let a : length rest ≤ length more = rest_is_shorter rest more g in
    let b : length text ≡ length (c ∷ more) = ap length e in
    record {
      behind = behind_first c more text rest e g;
      shorter = omega arith;
      cut = cut_where_uncut (before rest text) (ap (list_all is_uncut) own ∙ (ap (λ b. b && list_all is_uncut h.0) u ∙ h.1.1));
    }

pub cut_piece : (c : ℕ) (text more : Text) → text ≡ c ∷ more → IsPiece text more
unfolding is_cut
cut_piece c text more e =
    let b : length text ≡ length (c ∷ more) = ap length e in
    record {
      behind = first_behind c more text e;
      shorter = omega arith;
      cut = ap is_cut (ap (before more) e ∙ before_is (c ∷ []) more);
    }

-- ---- a text that is put into marks piece by piece

pub piece_added : (items mid new : List MarkRef) (text rest next : Text) (own : Bor Text) → IsRest rest text → IsPiece rest next
    → chars own.now ≡ before next rest → AddsText items mid (before rest text) →
    new ≡ mid ++ (mark.Text own ∷ []) → AddsText items new (before next text)
piece_added items mid new text rest next own h p e a f = record {
  added = a.added ++ (mark.Text own ∷ []);
  behind = f ∙ (ap (λ those. those ++ (mark.Text own ∷ [])) a.behind ∙ append_assoc items a.added (mark.Text own ∷ []));
  slices = subst (λ t. AreSlices t (a.added ++ (mark.Text own ∷ []))) (sym (before_both text rest next h p.behind))
      (slices_both (before rest text) (before next rest) a.added (mark.Text own ∷ []) a.slices
      (subst (λ t. AreSlices t (mark.Text own ∷ [])) e (own_slice own)));
  cut = cut_both a.added (mark.Text own ∷ []) a.cut (ap is_cut e ∙ p.cut, tt);
}

pub piece_made : (made mid new : List Inline) (text rest next : Text) (own : Bor Text) → IsRest rest text → IsRest next rest
    → chars own.now ≡ before next rest → mid ≡ onto (literals (before rest text)) made →
    new ≡ onto (inlines_in (mark.Text own)) mid → new ≡ onto (literals (before next text)) made
unfolding inlines_in
piece_made made mid new text rest next own h g e m f =
    f
    ∙ (ap (λ t. onto (literals t) mid) e
    ∙ (ap (onto (literals (before next rest))) m ∙ sym (ap (λ t. onto (literals t) made) (before_both text rest next h g)
    ∙ literals_onto (before rest text) (before next rest) made)))

-- ---- a link over an address

link_slices : (address : Text) (added : List MarkRef) (start end : SpanRef) → AreSlices address added
    → AreSlices address ((mark.Start start ∷ added) ++ (mark.End end ∷ []))
unfolding slice_in
link_slices address added start end h = slices_with address (mark.Start start ∷ added) ((mark.Start start ∷ added) ++ (mark.End end ∷ []))
    (mark.End end) refl refl h

pub link_added : (items one two three : List MarkRef) (address next rest : Text) (start end : SpanRef) → StandsBefore address next rest
    → one ≡ items ++ (mark.Start start ∷ []) → AddsText one two address →
    three ≡ two ++ (mark.End end ∷ []) → AddsText items three (before next rest)
link_added items one two three address next rest start end s e a f =
    let those : List MarkRef = (mark.Start start ∷ a.added) ++ (mark.End end ∷ []) in
    let second : two ≡ items ++ (mark.Start start ∷ a.added) = a.behind
    ∙ (ap (λ front. front ++ a.added) e ∙ append_assoc items (mark.Start start ∷ []) a.added) in
    let wide : AreSlices (address ++ s.between) those =
    subst (λ more. AreSlices (address ++ s.between) more) (append-nil those)
    (slices_both address s.between those [] (link_slices address a.added start end a.slices) tt) in
    record {
      added = those;
      behind = f ∙ (ap (λ front. front ++ (mark.End end ∷ [])) second
          ∙ append_assoc items (mark.Start start ∷ a.added) (mark.End end ∷ []));
      slices = slices_widened (before next rest) s.front (address ++ s.between) those (before_slice rest next address s) wide;
      cut = cut_both (mark.Start start ∷ a.added) (mark.End end ∷ []) (tt, a.cut) (tt, tt);
    }

link_made : (made one two three : List Inline) (dest address : Text) (start end : SpanRef) → one ≡ onto (inlines_in (mark.Start start)) made
    → two ≡ onto (literals address) one → three ≡ onto (inlines_in (mark.End end)) two →
    span_shown start ≡ autolink_span dest → span_shown end ≡ autolink_span dest → three ≡ autolink dest address made
unfolding inlines_in autolink
link_made made one two three dest address start end e f g h k =
    g
    ∙ (ap (λ span. inline.End span ∷ two) k
    ∙ ap (λ those. inline.End (autolink_span dest) ∷ those) (f
    ∙ ap (onto (literals address)) (e ∙ ap (λ span. inline.Start span ∷ made) h)))

pub link_put : (made one two three before_it : List Inline) (dest address plain rest next : Text) (start end : SpanRef) → plain ≡ rest
    → one ≡ onto (inlines_in (mark.Start start)) made → two ≡ onto (literals address) one →
    three ≡ onto (inlines_in (mark.End end)) two → span_shown start ≡ autolink_span dest → span_shown end ≡ autolink_span dest
    → made_before made plain rest ≡ before_it →
    made_before three next next ≡ autolink dest address before_it
link_put made one two three before_it dest address plain rest next start end p e f g h k b =
    nothing_pending three next
    ∙ (link_made made one two three dest address start end e f g h k
    ∙ ap (autolink dest address) (sym (nothing_pending made rest) ∙ (ap (λ t. made_before made t rest) (sym p) ∙ b)))

pub added_slices : (whole plain rest next : Text) (items those : List MarkRef) → IsRest plain whole → plain ≡ rest → IsRest next rest
    → AddsText items those (before next rest) → AreSlices (before plain whole) items →
    AreSlices (before next whole) those
added_slices whole plain rest next items those h e g a s =
    subst (λ x. AreSlices (before next whole) x) (sym a.behind)
    (subst (λ t. AreSlices t (items ++ a.added)) (sym (before_both whole rest next (subst (λ t. IsRest t whole) e h) g))
    (slices_both (before rest whole) (before next rest) items a.added (subst (λ t. AreSlices (before t whole) items) e s) a.slices))

pub added_cut : (text : Text) (items those : List MarkRef) → AddsText items those text → AreCut items → AreCut those
added_cut text items those a h = subst AreCut (sym a.behind) (cut_both items a.added h a.cut)

-- ---- what a '<' encloses

pub raw_stands : (rest next : Text) (found : Enclosed) (html : Bor Text) → found ≡ enclosed.Raw html → IsRest next rest
    → StandsBefore (slice_of found) next rest → MarkStands (mark.Raw html) rest next
unfolding slice_in
raw_stands rest next found html e g s =
    let t : StandsBefore (chars html.now) next rest = subst (λ x. StandsBefore (slice_of x) next rest) e s in
    record { behind = g; slices = (t.front, t.between, (before_slice rest next (chars html.now) t, tt)); cut = tt }

pub raw_made : (found : Enclosed) (html : Bor Text) (made new : List Inline) → found ≡ enclosed.Raw html
    → new ≡ onto (inlines_in (mark.Raw html)) made → new ≡ enclosed_read made (enclosing_of found)
unfolding inlines_in
raw_made found html made new e f = f ∙ ap (λ x. enclosed_read made (enclosing_of x)) (sym e)

pub uri_made : (found : Enclosed) (address : Bor Text) (scheme : Text) (made new : List Inline) → found ≡ enclosed.Uri address
    → scheme ≡ [] → new ≡ autolink (scheme ++ chars address.now) (chars address.now) made →
    new ≡ enclosed_read made (enclosing_of found)
uri_made found address scheme made new e g f = f ∙ (ap (λ t. autolink (t ++ chars address.now) (chars address.now) made) g
    ∙ ap (λ x. enclosed_read made (enclosing_of x)) (sym e))

pub mail_made : (found : Enclosed) (address : Bor Text) (scheme : Text) (made new : List Inline) → found ≡ enclosed.Mail address
    → scheme ≡ codes "mailto:" → new ≡ autolink (scheme ++ chars address.now) (chars address.now) made →
    new ≡ enclosed_read made (enclosing_of found)
mail_made found address scheme made new e g f = f ∙ (ap (λ t. autolink (t ++ chars address.now) (chars address.now) made) g
    ∙ ap (λ x. enclosed_read made (enclosing_of x)) (sym e))

-- ---- something is taken behind the '<'

word_takes : (c : ℕ) (w : Text) → Takes (word (c ∷ w))
unfolding word
word_takes c w [] rest e = absurd cc
word_takes c w (d ∷ text) rest e = at (c == d) e
  where
    at : (b : Bool) → (elim b [ true ↦ word w text | false ↦ None ]) ≡ Some rest → length rest < length (d ∷ text)
    at true f = let l : length rest ≤ length text = rest_is_shorter rest text (word_leaves w text rest f) in omega arith
    at false f = absurd cc

open_tag_takes : Takes open_tag
unfolding open_tag
open_tag_takes =
    first_takes (is 60 then tag_name then repeated attribute then spacing then maybe (is 47)) (is 62)
    (first_takes (is 60 then tag_name then repeated attribute then spacing) (maybe (is 47))
    (first_takes (is 60 then tag_name then repeated attribute) spacing
    (first_takes (is 60 then tag_name) (repeated attribute) (first_takes (is 60) tag_name (is_takes 60) tag_name_leaves)
    (repeated_leaves attribute attribute_leaves)) spacing_leaves)
    (maybe_leaves (is 47) (is_leaves 47)))
    (is_leaves 62)

closing_tag_takes : Takes closing_tag
unfolding closing_tag
closing_tag_takes =
    first_takes (word (codes "</") then tag_name then spacing) (is 62)
    (first_takes (word (codes "</") then tag_name) spacing (first_takes (word (codes "</")) tag_name (word_takes _ _) tag_name_leaves)
    spacing_leaves) (is_leaves 62)

comment_takes : Takes comment
unfolding comment
comment_takes =
    or_takes (word (codes "<!-->") or word (codes "<!--->")) (word (codes "<!--") then through (word (codes "-->")))
    (or_takes (word (codes "<!-->")) (word (codes "<!--->")) (word_takes _ _) (word_takes _ _))
    (first_takes (word (codes "<!--")) (through (word (codes "-->"))) (word_takes _ _)
    (through_leaves (word (codes "-->")) (word_leaves (codes "-->"))))

instruction_takes : Takes instruction
unfolding instruction
instruction_takes = first_takes (word (codes "<?")) (through (word (codes "?>"))) (word_takes _ _)
    (through_leaves (word (codes "?>")) (word_leaves (codes "?>")))

declaration_takes : Takes declaration
unfolding declaration
declaration_takes =
    first_takes (word (codes "<!") then one is_ascii_alphabetic) (through (is 62))
    (first_takes (word (codes "<!")) (one is_ascii_alphabetic) (word_takes _ _) (one_leaves is_ascii_alphabetic))
    (through_leaves (is 62) (is_leaves 62))

cdata_takes : Takes cdata
unfolding cdata
cdata_takes = first_takes (word (codes "<![CDATA[")) (through (word (codes "]]>"))) (word_takes _ _)
    (through_leaves (word (codes "]]>")) (word_leaves (codes "]]>")))

raw_html_takes : Takes raw_html
unfolding raw_html
raw_html_takes =
    or_takes (html_tag or comment or instruction or declaration) cdata
    (or_takes (html_tag or comment or instruction) declaration
    (or_takes (html_tag or comment) instruction (or_takes html_tag comment (or_takes open_tag closing_tag open_tag_takes closing_tag_takes)
    comment_takes) instruction_takes) declaration_takes) cdata_takes

rest_inside : (c : ℕ) (more after : Text) → IsRest after (c ∷ more) → length after < length (c ∷ more) → IsRest after more
rest_inside c more after h l = at h.front h.split
  where
    at : (front : Text) → (c ∷ more) ≡ front ++ after → IsRest after more
    at [] e = let same : length (c ∷ more) ≡ length after = ap length e in absurd (omega (arith, l))
    at (x ∷ front) e = record { front = front; split = cc }

abbrev if_raw : Text → Option Text → Option (Enclosing × Text)
if_raw more found = elim found [ Some a ↦ Some (definition.Raw (before a (60 ∷ more)), a) | None ↦ None ]

abbrev if_mail : Text → Option Text → Option (Enclosing × Text)
if_mail more found = elim found [ Some a ↦ Some (definition.Mail (address a more), a) | None ↦ if_raw more (raw_html (60 ∷ more)) ]

abbrev if_uri : Text → Option Text → Option (Enclosing × Text)
if_uri more found = elim found [ Some a ↦ Some (definition.Uri (address a more), a) | None ↦ if_mail more ((mail then is 62) more) ]

pub enclosed_end : (more after : Text) (those : Enclosing) → Some (those, after) ≡ enclosed_at (60 ∷ more) → IsRest after more
unfolding enclosed_at enclosed_behind
enclosed_end more after those e = at ((uri then is 62) more) refl e
  where
    from : (a : Text) (x : Enclosing) → IsRest a more → ◌≡◌ {A = Option (Enclosing × Text)} (Some (those, after)) (Some (x, a))
        → IsRest after more
    from a x h f =
        let pair : ◌≡◌ {A = Enclosing × Text} (those, after) (x, a) = cc in
        subst (λ t. IsRest t more) (ap (λ (found : Enclosing × Text). found.1) (sym pair)) h

    raw : (found : Option Text) → raw_html (60 ∷ more) ≡ found → Some (those, after) ≡ if_raw more found → IsRest after more
    raw None g f = absurd cc
    raw (Some a) g f = from a (definition.Raw (before a (60 ∷ more)))
        (rest_inside 60 more a (raw_html_leaves (60 ∷ more) a g) (raw_html_takes (60 ∷ more) a g)) f

    either : (found : Option Text) → (mail then is 62) more ≡ found → Some (those, after) ≡ if_mail more found → IsRest after more
    either None g f = raw (raw_html (60 ∷ more)) refl f
    either (Some a) g f = from a (definition.Mail (address a more)) (then_leaves mail (is 62) mail_leaves (is_leaves 62) more a g) f

    at : (found : Option Text) → (uri then is 62) more ≡ found → Some (those, after) ≡ if_uri more found → IsRest after more
    at None g f = either ((mail then is 62) more) refl f
    at (Some a) g f = from a (definition.Uri (address a more)) (then_leaves uri (is 62) uri_leaves (is_leaves 62) more a g) f

-- ---- what the rules make behind a '<'

pub angle_reads : (rules : Rules) (refs : List Definition) (last : ℕ) (made : List Inline) (more : Text)
    (found : Option (Enclosing × Text)) → found ≡ enclosed_at (60 ∷ more) →
    read_item rules refs last made 60 more ≡ angle_read made more found
unfolding read_item kind_in kinds item_of_kind
angle_reads rules refs last made more found e = left_angle_reads made more ∙ ap (angle_read made more) (sym e)

pub learned_ends : (old : Reader) (learned : MissingEnds) → IsReader old → TellsOfEnds learned (chars old.text.now)
    → IsReader (record old { missing = learned })
learned_ends old learned h t = record {
  draft = h.draft;
  plain = h.plain;
  rest = h.rest;
  slices = h.slices;
  cut = h.cut;
  pending = h.pending;
  behind = h.behind;
  backticks = h.backticks;
  missing = t;
}

pub angle_found : (rest more : Text) (found : Option (Enclosing × Text)) → rest ≡ 60 ∷ more → found ≡ enclosed_at rest
    → found ≡ enclosed_at (60 ∷ more)
angle_found rest more found r h = h ∙ ap enclosed_at r

pub moved_on : (rules : Rules) (targets : Targets) (old new : Reader) (learned : MissingEnds)
    → GoesOn rules targets (record old { missing = learned }) new → GoesOn rules targets old new
unfolding outcome
moved_on rules targets old new learned h = record { sound = h.sound; text = h.text; reads = h.reads; shorter = h.shorter }
