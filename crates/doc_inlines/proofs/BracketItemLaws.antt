-- Brackets that open and close while a text is read.
use Rattle.std.proofs.Common.{◌≡◌, Bool, true, false, ◌==◌, chars, ℕ, ◌-◌, List, [], ◌∷◌, ◌++◌, length, refl, ap, sym, ◌∙◌, subst, Option}
use Rattle.std.proofs.Common.{Some, None, MatchOption, arith, append-nil}
use denote.Ref.{Bor}
use Rattle.std.proofs.lemmas.Bool.{eqb-true}
use Rattle.doc_rules.specs.Characters.{Text}
use Rattle.doc_rules.specs.Parsers.{before, is}
use Rattle.doc_rules.specs.Rules.{Rules}
use Rattle.doc_rules.specs.Definitions.{Definition}
use Rattle.doc_rules.specs.Destinations.{Target}
use Rattle.doc_rules.specs.Inlines.{Inline, Literal, Open, literals, onto, bracket_text}
use Rattle.doc_rules.specs.Links.{Tail, LastBracket, link_tail, last_bracket, linked, unlinked, close_bracket}
use Rattle.doc_rules.specs.Reading.{read_item, item_of_kind, kind_in, kinds, bang}
use Rattle.doc_rules.specs.Rests.{IsRest}
use Rattle.doc_rules.proofs.ParserLaws.{is_all}
use Rattle.doc_refs_parts.specs.Targets.{Targets, targets_of}
use Rattle.doc_inlines_emphasis.specs.Marks.{Placed}
use Rattle.doc_inlines_marks.specs.declared.mark_ref.MarkRef.{MarkRef}
use Rattle.doc_inlines_marks.specs.declared.mark_ref.MarkRef.TheVariants as mark
use Rattle.doc_inlines_marks.specs.Slices.{AreSlices, is_cut, IsCut, AreCut}
use Rattle.doc_inlines_emphasis.specs.Views.{marks_shown, items_of}
use Rattle.doc_inlines.specs.declared.bracket.Bracket.{Bracket}
use Rattle.doc_inlines.specs.declared.draft.Draft.{Draft}
use Rattle.doc_inlines.specs.declared.reader.Reader.{Reader}
use Rattle.doc_inlines.specs.MadeSteps.{OpenBracket, made_below}
use Rattle.doc_inlines.specs.DraftSteps.{made_of, made_by, brackets_shown, codes_of_bracket, AddsBracket, IsPopped, last_of}
use Rattle.doc_inlines.specs.ReaderSteps.{AllBehind, made_before, state_made, IsReader, GoesOn}
use Rattle.doc_inlines.specs.ClosingSteps.{tail_where, IsTaken, HasNoBracket}
use Rattle.doc_inlines.proofs.ReadingLaws.{before_is}
use Rattle.doc_inlines.proofs.MadeLaws.{onto_both}
use Rattle.doc_inlines.proofs.LinkLaws.{last_is}
use Rattle.doc_inlines.proofs.DraftLaws.{items_final}
use Rattle.doc_inlines.proofs.ClosingLaws.{shown_length, none_open}
use Rattle.doc_inlines.proofs.SliceLaws.{slices_both}
use Rattle.doc_inlines.proofs.ReaderLaws.{before_both, nothing_pending, own_slice, behind_next}
use Rattle.doc_inlines.proofs.ItemLaws.{goes_on, nothing_taken, all_behind}

-- ---- a bracket that opens

pub behind_codes : (image : Bool) (rest after : Text) → rest ≡ codes_of_bracket image ++ after → IsRest after rest
behind_codes image rest after e = record { front = codes_of_bracket image; split = e }

own_codes : (image : Bool) (rest after : Text) (text : Bor Text) → rest ≡ codes_of_bracket image ++ after
    → chars text.now ≡ before after rest → chars text.now ≡ codes_of_bracket image
own_codes image rest after text e f = f ∙ (ap (before after) e ∙ before_is (codes_of_bracket image) after)

cut_codes : (image : Bool) → is_cut (codes_of_bracket image) ≡ true
unfolding is_cut
cut_codes true = refl
cut_codes false = refl

pub bracket_cut : (image : Bool) (rest after : Text) (text : Bor Text) → rest ≡ codes_of_bracket image ++ after
    → chars text.now ≡ before after rest → IsCut (mark.Text text)
bracket_cut image rest after text e f = ap is_cut (own_codes image rest after text e f) ∙ cut_codes image

pub bracket_slices : (rest after : Text) (text : Bor Text) → chars text.now ≡ before after rest
    → AreSlices (before after rest) (mark.Text text ∷ [])
bracket_slices rest after text f = subst (λ t. AreSlices t (mark.Text text ∷ [])) f (own_slice text)

pub opened_made : (made new before_it : List Inline) (plain rest next : Text) (x : Inline) → plain ≡ rest → new ≡ x ∷ made
    → made_before made plain rest ≡ before_it → made_before new next next ≡ x ∷ before_it
opened_made made new before_it plain rest next x e f g =
    nothing_pending new next ∙ (f ∙ ap (λ t. x ∷ t) (sym (nothing_pending made rest) ∙ (ap (λ t. made_before made t rest) (sym e) ∙ g)))

behind_both : (rest : Text) (brackets : List Bracket) (b : Bracket) → AllBehind rest brackets → IsRest rest (chars b.behind.now)
    → AllBehind rest (brackets ++ (b ∷ []))
behind_both rest [] b h g = (g, tt)
behind_both rest (x ∷ brackets) b h g = (h.0, behind_both rest brackets b h.1 g)

pub opened_behind : (old rest next : Text) (brackets those : List Bracket) → old ≡ rest → IsRest next rest
    → AddsBracket brackets those next → AllBehind old brackets → AllBehind next those
opened_behind old rest next brackets those e g a h =
    subst (λ b. AllBehind next b) (sym a.added)
    (behind_both next brackets a.bracket (behind_next rest next brackets g (subst (λ t. AllBehind t brackets) e h))
    (subst (λ t. IsRest next t) (sym a.same) (is_all next)))

-- ---- what a '[' and a '!' make

left_reads : (rules : Rules) (refs : List Definition) (last : ℕ) (made : List Inline) (more : Text)
    → read_item rules refs last made 91 more ≡ (Open (record { image = false; live = true; behind = more }) ∷ made, 0)
unfolding read_item item_of_kind kind_in kinds
left_reads rules refs last made more = refl

pub left_goes_on : (rules : Rules) (targets : Targets) (old new : Reader) (more : Text) → IsReader old → IsReader new → new.text ≡ old.text
    → chars new.rest.now ≡ more → chars old.rest.now ≡ 91 ∷ more →
    state_made new ≡ Open (record { image = false; live = true; behind = more }) ∷ state_made old → GoesOn rules targets old new
left_goes_on rules targets old new more o n t r e m =
    goes_on rules targets old new 91 more more (Open (record { image = false; live = true; behind = more }) ∷ state_made old) o n t r e
    (all_behind more)
    (λ definitions f. left_reads rules definitions _ (state_made old) more
    ∙ ap (λ k. (Open (record { image = false; live = true; behind = more }) ∷ state_made old, k)) (sym (nothing_taken more))) m

pub is_there : (c : ℕ) (text after : Text) → Some after ≡ is c text → text ≡ c ∷ after
is_there c [] after e = absurd cc
is_there c (d ∷ text) after e = at (d == c) refl e
  where
    at : (b : Bool) → (d == c) ≡ b → Some after ≡ elim b [ true ↦ Some text | false ↦ None ] → d ∷ text ≡ c ∷ after
    at true f g = let same : d ≡ c = eqb-true d c f in cc
    at false f g = absurd cc

bang_reads : (rules : Rules) (refs : List Definition) (last : ℕ) (made : List Inline) (after : Text) →
    read_item rules refs last made 33 (91 ∷ after) ≡ (Open (record { image = true; live = true; behind = after }) ∷ made, 1)
unfolding read_item item_of_kind kind_in kinds bang
bang_reads rules refs last made after = refl

abbrev there : Bool → Text → Option Text
there b text = elim b [ true ↦ Some text | false ↦ None ]

abbrev banged : Bool → List Inline → Text → List Inline × ℕ
banged b made text = elim b [
  | true ↦ (Open (record { image = true; live = true; behind = text }) ∷ made, 1)
  | false ↦
      (Literal 33 ∷ made, 0)
]

bang_alone : (rules : Rules) (refs : List Definition) (last : ℕ) (made : List Inline) (more : Text) → None ≡ is 91 more
    → read_item rules refs last made 33 more ≡ (Literal 33 ∷ made, 0)
unfolding read_item item_of_kind kind_in kinds bang
bang_alone rules refs last made [] e = refl
bang_alone rules refs last made (d ∷ more) e = at (d == 91) e
  where
    at : (b : Bool) → None ≡ there b more → banged b made more ≡ (Literal 33 ∷ made, 0)
    at true f = absurd cc
    at false f = refl

pub bang_first : (rest more after : Text) → rest ≡ 33 ∷ more → Some after ≡ is 91 more → rest ≡ codes_of_bracket true ++ after
bang_first rest more after e f = e ∙ ap (λ t. 33 ∷ t) (is_there 91 more after f)

one_taken : (c : ℕ) (more after : Text) → more ≡ c ∷ after → length more - length after ≡ 1
one_taken c more after e = let n : length more ≡ length (c ∷ after) = ap length e in omega arith

pub bang_goes_on : (rules : Rules) (targets : Targets) (old new : Reader) (more after : Text) → IsReader old → IsReader new
    → new.text ≡ old.text → chars new.rest.now ≡ after → chars old.rest.now ≡ 33 ∷ more →
    Some after ≡ is 91 more → state_made new ≡ Open (record { image = true; live = true; behind = after }) ∷ state_made old
    → GoesOn rules targets old new
bang_goes_on rules targets old new more after o n t r e f m =
    let own : more ≡ 91 ∷ after = is_there 91 more after f in
    goes_on rules targets old new 33 more after (Open (record { image = true; live = true; behind = after }) ∷ state_made old) o n t r e
    (record { front = 91 ∷ []; split = own })
    (λ definitions g.
    ap (read_item rules definitions _ (state_made old) 33) own
    ∙ (bang_reads rules definitions _ (state_made old) after
    ∙ ap (λ k. (Open (record { image = true; live = true; behind = after }) ∷ state_made old, k)) (sym (one_taken 91 more after own)))) m

-- a character that is passed
pub passed_one : (c : ℕ) (more rest : Text) (made new : List Inline) → rest ≡ c ∷ more → new ≡ onto (literals (before more rest)) made
    → new ≡ Literal c ∷ made
passed_one c more rest made new e f = f ∙ ap (λ t. onto (literals t) made) (ap (before more) e ∙ before_is (c ∷ []) more)

pub bang_passed : (rules : Rules) (targets : Targets) (old new : Reader) (more : Text) → IsReader old → IsReader new → new.text ≡ old.text
    → chars new.rest.now ≡ more → chars old.rest.now ≡ 33 ∷ more →
    None ≡ is 91 more → state_made new ≡ onto (literals (before more (chars old.rest.now))) (state_made old) → GoesOn rules targets old new
bang_passed rules targets old new more o n t r e f m =
    goes_on rules targets old new 33 more more (Literal 33 ∷ state_made old) o n t r e (all_behind more)
    (λ definitions g. bang_alone rules definitions _ (state_made old) more f
    ∙ ap (λ k. (Literal 33 ∷ state_made old, k)) (sym (nothing_taken more)))
    (passed_one 33 more (chars old.rest.now) (state_made old) (state_made new) e m)

-- ---- the last bracket behind literals

past_literals : (since : List Inline) (text : Text) (made : List Inline)
    → last_bracket since (onto (literals text) made) ≡ last_bracket (literals text ++ since) made
unfolding last_bracket
past_literals since [] made = refl
past_literals since (c ∷ text) made = ap (last_bracket since) (onto_both (Literal c ∷ []) (literals text) made)
    ∙ past_literals since text (Literal c ∷ made)

anyhow_none : (since other made : List Inline) → last_bracket since made ≡ None → last_bracket other made ≡ None
unfolding last_bracket
anyhow_none since other [] e = refl
anyhow_none since other (Open k ∷ more) e = absurd cc
anyhow_none since other (x ∷ more) e = anyhow_none (x ∷ since) (x ∷ other) more e

none_before : (made : List Inline) (plain rest : Text) → last_bracket [] made ≡ None → last_bracket [] (made_before made plain rest) ≡ None
unfolding made_before
none_before made plain rest e = past_literals [] (before rest plain) made ∙ anyhow_none [] (literals (before rest plain) ++ []) made e

none_in_made : (made : List Inline) (plain rest : Text) → last_bracket [] (made_before made plain rest) ≡ None → last_bracket [] made ≡ None
unfolding made_before
none_in_made made plain rest e = anyhow_none (literals (before rest plain) ++ []) [] made (sym (past_literals [] (before rest plain) made)
    ∙ e)

nothing_long : (brackets : List Bracket) → length brackets ≡ 0 → brackets ≡ []
nothing_long [] e = refl
nothing_long (b ∷ brackets) e = absurd (omega (arith, e))

none_then_nothing : (items : List MarkRef) (runs : List Placed) (brackets : List Bracket) (dead : ℕ)
    → last_bracket [] (made_by items runs brackets dead) ≡ None → brackets ≡ []
unfolding made_by
none_then_nothing items runs brackets dead e = at (brackets_shown brackets) refl e
  where
    at : (shown : List OpenBracket) → brackets_shown brackets ≡ shown
        → last_bracket [] (made_below (marks_shown items) (length items) dead runs shown) ≡ None → brackets ≡ []
    at [] f g = nothing_long brackets (sym (shown_length brackets) ∙ ap length f)
    at (b ∷ more) f g = let h = sym g ∙ last_is (marks_shown items) (length items) dead runs b more (items_final items) in absurd cc

pub nothing_in : (brackets those : List Bracket) (b : Bool) → b ≡ true → b ≡ (length those == 0) → those ≡ brackets → brackets ≡ []
nothing_in brackets those b e f g = nothing_long brackets (ap length (sym g) ∙ eqb-true (length those) 0 (sym f ∙ e))

pub has_none : (reader : Reader) → reader.draft.brackets.items ≡ [] → HasNoBracket reader reader
has_none reader e = record {
  same = refl;
  none = none_before (made_of reader.draft) (chars reader.plain.now) (chars reader.rest.now)
      (none_open _ _ _ _ e);
}

-- ---- the last bracket is taken

abbrev pub with_draft : Reader → Draft → Reader
with_draft reader draft = record {
  arena = reader.arena;
  text = reader.text;
  plain = reader.plain;
  rest = reader.rest;
  draft = draft;
  backticks = reader.backticks;
  missing = reader.missing;
}

-- all text before the rest has a mark
pub record IsFlushed (old new : Reader) : Type 0 where
  pub text : new.text ≡ old.text
  pub rest : new.rest ≡ old.rest
  pub plain : new.plain ≡ old.rest
  pub made : state_made new ≡ state_made old
  pub sound : IsReader new

settled : (made : List Inline) (plain rest : Text) → plain ≡ rest → made_before made plain rest ≡ made
settled made plain rest e = ap (λ t. made_before made t rest) e ∙ nothing_pending made rest

behind_last : (rest : Text) (brackets : List Bracket) (b : Bracket) → AllBehind rest (brackets ++ (b ∷ []))
    → AllBehind rest brackets × IsRest rest (chars b.behind.now)
behind_last rest [] b h = (tt, h.0)
behind_last rest (x ∷ brackets) b h = let g = behind_last rest brackets b h.1 in ((h.0, g.0), g.1)

taken_one : (old flushed : Reader) (next : Draft) (b : Bracket) (live : Bool) → IsFlushed old flushed → IsPopped flushed.draft next b live
    → IsTaken old (with_draft flushed next) b live
taken_one old flushed next b live f h =
    let p : chars flushed.plain.now ≡ chars flushed.rest.now = ap (λ t. chars t.now) (f.plain ∙ sym f.rest) in
    let behind = behind_last (chars flushed.rest.now) next.brackets.items b
    (subst (λ those. AllBehind (chars flushed.rest.now) those) h.brackets f.sound.behind) in
    record {
      text = f.text;
      rest = f.rest;
      plain = f.plain ∙ sym f.rest;
      last = ap (last_bracket []) (sym f.made ∙ settled (made_of flushed.draft) (chars flushed.plain.now) (chars flushed.rest.now) p)
          ∙ h.last;
      made = settled (made_of next) (chars flushed.plain.now) (chars flushed.rest.now) p ∙ h.text;
      behind = behind.1;
      stood = h.stood;
      sound = record {
        draft = h.sound;
        plain = f.sound.plain;
        rest = f.sound.rest;
        slices = subst (λ items. AreSlices (before (chars flushed.plain.now) (chars flushed.text.now)) items) (sym h.items) f.sound.slices;
        cut = subst AreCut (sym h.items) f.sound.cut;
        pending = f.sound.pending;
        behind = behind.0;
        backticks = f.sound.backticks;
        missing = f.sound.missing;
      };
    }

none_flushed : (old flushed : Reader) → IsFlushed old flushed → flushed.draft.brackets.items ≡ [] → old.draft.brackets.items ≡ []
none_flushed old flushed f e =
    none_then_nothing (items_of old.draft.marks) _ old.draft.brackets.items old.draft.dead
    (none_in_made (made_of old.draft) (chars old.plain.now) (chars old.rest.now) (ap (last_bracket []) (sym f.made)
    ∙ (has_none flushed e).none))

no_length : (brackets those : List Bracket) (b : Bool) → b ≡ false → b ≡ (length those == 0) → those ≡ brackets → brackets ≡ [] → ⊥
no_length brackets those b e f g h =
    let n : (length those == 0) ≡ true = ap (λ xs. length xs == 0) (g ∙ h) in
    let both : true ≡ false = sym n ∙ (sym f ∙ e) in
    absurd cc

pub taken : (found : Option (Bracket × Bool)) (old flushed : Reader) (next : Draft) (those : List Bracket) (b : Bool) → b ≡ false
    → b ≡ (length those == 0) → those ≡ old.draft.brackets.items → IsFlushed old flushed →
    MatchOption found (flushed.draft.brackets.items ≡ []) (λ one. IsPopped flushed.draft next one.0 one.1) →
    MatchOption found (HasNoBracket old (with_draft flushed next)) (λ one. IsTaken old (with_draft flushed next) one.0 one.1)
taken None old flushed next those b e f g k h = absurd (no_length old.draft.brackets.items those b e f g (none_flushed old flushed k h))
taken (Some one) old flushed next those b e f g k h = taken_one old flushed next one.0 one.1 k h

-- ---- a link

pub longer_slices : (whole plain rest next : Text) (items those : List MarkRef) → IsRest plain whole → plain ≡ rest → IsRest next rest
    → AreSlices (before plain whole) items →
    ((text : Text) → AreSlices text items → AreSlices text those) → AreSlices (before next whole) those
longer_slices whole plain rest next items those h e g s k =
    subst (λ t. AreSlices t those) (sym (before_both whole rest next (subst (λ t. IsRest t whole) e h) g))
    (subst (λ xs. AreSlices (before rest whole ++ before next rest) xs) (append-nil those)
    (slices_both (before rest whole) (before next rest) those []
    (k (before rest whole) (subst (λ t. AreSlices (before t whole) items) e s)) tt))

-- ---- what a ']' makes

-- a bracket with this tail behind it
abbrev closed_by : Tail → LastBracket → Text → List Inline × ℕ
closed_by None last rest = (unlinked last, 0)
closed_by (Some found) last rest = (linked last found.0, length rest - length found.1)

abbrev closed_at : Rules → List Definition → List Inline → Text → Option LastBracket → List Inline × ℕ
closed_at rules refs made rest None = (Literal 93 ∷ made, 0)
closed_at rules refs made rest (Some last) = closed_by (tail_where last.bracket.live rules refs (before (93 ∷ rest) last.bracket.behind)
    rest) last rest

by_tail : (last : LastBracket) (rest : Text) (live : Bool) (tail : Tail) →
    (elim live [
      | false ↦ (unlinked last, 0)
      | true ↦ elim tail
          [ None ↦ (unlinked last, 0) | Some found ↦ (linked last found.0, length rest - length found.1) ]
    ])
    ≡ closed_by (elim live [ true ↦ tail | false ↦ None ]) last rest
by_tail last rest false tail = refl
by_tail last rest true None = refl
by_tail last rest true (Some found) = refl

closes : (rules : Rules) (refs : List Definition) (made : List Inline) (rest : Text)
    → close_bracket rules refs made rest ≡ closed_at rules refs made rest (last_bracket [] made)
unfolding close_bracket
closes rules refs made rest = at (last_bracket [] made)
  where
    at : (found : Option LastBracket) →
        (elim found [
          | None ↦ (Literal 93 ∷ made, 0)
          | Some last ↦ elim last.bracket.live [
            | false ↦ (unlinked last, 0)
            | true ↦ elim (link_tail rules refs (before (93 ∷ rest) last.bracket.behind) rest)
                [ None ↦ (unlinked last, 0) | Some found ↦ (linked last found.0, length rest - length found.1) ]
          ]
        ])
        ≡ closed_at rules refs made rest found
    at None = refl
    at (Some last) = by_tail last rest last.bracket.live (link_tail rules refs (before (93 ∷ rest) last.bracket.behind) rest)

right_reads : (rules : Rules) (refs : List Definition) (last : ℕ) (made : List Inline) (more : Text) (found : Option LastBracket)
    → last_bracket [] made ≡ found →
    read_item rules refs last made 93 more ≡ closed_at rules refs made more found
unfolding read_item item_of_kind kind_in kinds
right_reads rules refs last made more found e = closes rules refs made more ∙ ap (closed_at rules refs made more) e

pub stray_goes_on : (rules : Rules) (targets : Targets) (old same new : Reader) (more : Text) → HasNoBracket old same → IsReader old
    → IsReader new → new.text ≡ same.text → chars new.rest.now ≡ more → chars old.rest.now ≡ 93 ∷ more →
    state_made new ≡ onto (literals (before more (chars same.rest.now))) (state_made same) → GoesOn rules targets old new
stray_goes_on rules targets old same new more h o n t r e m =
    goes_on rules targets old new 93 more more (Literal 93 ∷ state_made old) o n (t ∙ ap (λ x. x.text) h.same) r e (all_behind more)
    (λ definitions f. right_reads rules definitions _ (state_made old) more None h.none
    ∙ ap (λ k. (Literal 93 ∷ state_made old, k)) (sym (nothing_taken more)))
    (passed_one 93 more (chars old.rest.now) (state_made old) (state_made new) e (m
    ∙ ap (λ x. onto (literals (before more (chars x.rest.now))) (state_made x)) h.same))

-- what the tail is to the rules
tail_at : (rules : Rules) (refs : List Definition) (old taken : Reader) (b : Bracket) (live : Bool) (more : Text) (tail : Tail)
    → IsTaken old taken b live → chars old.rest.now ≡ 93 ∷ more →
    tail ≡ tail_where live rules refs (before (chars taken.rest.now) (chars b.behind.now)) more
    → tail ≡ tail_where live rules refs (before (93 ∷ more) (chars b.behind.now)) more
tail_at rules refs old taken b live more tail h e f =
    f ∙ ap (λ rest. tail_where live rules refs (before rest (chars b.behind.now)) more) (ap (λ t. chars t.now) h.rest ∙ e)

unlinked_made : (old taken : Reader) (b : Bracket) (live : Bool) → IsTaken old taken b live
    → Literal 93 ∷ state_made taken ≡ unlinked (last_of taken.draft b live)
unfolding unlinked bracket_text
unlinked_made old taken b live h = ap (λ t. Literal 93 ∷ t) h.made

pub unlinked_goes_on : (rules : Rules) (targets : Targets) (old taken new : Reader) (b : Bracket) (live : Bool) (more : Text)
    → IsTaken old taken b live → IsReader old → IsReader new → new.text ≡ taken.text →
    chars new.rest.now ≡ more → chars old.rest.now ≡ 93 ∷ more →
    ((definitions : List Definition) → targets ≡ targets_of definitions
    → None ≡ tail_where live rules definitions (before (chars taken.rest.now) (chars b.behind.now)) more) →
    state_made new ≡ onto (literals (before more (chars taken.rest.now))) (state_made taken) → GoesOn rules targets old new
unlinked_goes_on rules targets old taken new b live more h o n t r e tail m =
    goes_on rules targets old new 93 more more (unlinked (last_of taken.draft b live)) o n (t ∙ h.text) r e (all_behind more)
    (λ definitions f.
    right_reads rules definitions _ (state_made old) more (Some (last_of taken.draft b live)) h.last
    ∙ (ap (λ found. closed_by found (last_of taken.draft b live) more)
    (sym (tail_at rules definitions old taken b live more None h e (tail definitions f)))
    ∙ ap (λ k. (unlinked (last_of taken.draft b live), k)) (sym (nothing_taken more))))
    (passed_one 93 more (chars taken.rest.now) (state_made taken) (state_made new) (ap (λ t. chars t.now) h.rest ∙ e) m
    ∙ unlinked_made old taken b live h)

pub linked_goes_on : (rules : Rules) (targets : Targets) (old taken new : Reader) (b : Bracket) (live : Bool) (more after : Text)
    (target : Target) → IsTaken old taken b live → IsReader old → IsReader new → new.text ≡ taken.text →
    chars new.rest.now ≡ after → chars old.rest.now ≡ 93 ∷ more → IsRest after more →
    ((definitions : List Definition) → targets ≡ targets_of definitions
    → Some (target, after) ≡ tail_where live rules definitions (before (chars taken.rest.now) (chars b.behind.now)) more) →
    state_made new ≡ linked (last_of taken.draft b live) target → GoesOn rules targets old new
linked_goes_on rules targets old taken new b live more after target h o n t r e g tail m =
    goes_on rules targets old new 93 more after (linked (last_of taken.draft b live) target) o n (t ∙ h.text) r e g
    (λ definitions f.
    right_reads rules definitions _ (state_made old) more (Some (last_of taken.draft b live)) h.last
    ∙ ap (λ found. closed_by found (last_of taken.draft b live) more)
    (sym (tail_at rules definitions old taken b live more (Some (target, after)) h e (tail definitions f))))
    m

-- what stands in an option

pub none_is : (found : Option (Bracket × Bool)) (old new : Reader) → found ≡ None
    → MatchOption found (HasNoBracket old new) (λ one. IsTaken old new one.0 one.1) → HasNoBracket old new
none_is found old new e h = subst (λ f. MatchOption f (HasNoBracket old new) (λ one. IsTaken old new one.0 one.1)) e h

pub one_is : (found : Option (Bracket × Bool)) (one : Bracket × Bool) (old new : Reader) → found ≡ Some one
    → MatchOption found (HasNoBracket old new) (λ one. IsTaken old new one.0 one.1) → IsTaken old new one.0 one.1
one_is found one old new e h = subst (λ f. MatchOption f (HasNoBracket old new) (λ one. IsTaken old new one.0 one.1)) e h

pub behind_first : (c : ℕ) (more : Text) (old new : Reader) → new.rest ≡ old.rest → chars old.rest.now ≡ c ∷ more
    → IsRest more (chars new.rest.now)
behind_first c more old new e f = record { front = c ∷ []; split = ap (λ t. chars t.now) e ∙ f }
