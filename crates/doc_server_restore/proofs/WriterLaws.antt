-- What a writer has written, line by line and record by record.
use Rattle.std.proofs.Common.{◌≡◌, ℕ, Bool, true, false, List, [], ◌∷◌, ◌++◌, length, cond, not, refl, ap, sym, ◌∙◌, subst, string_bytes}
use Rattle.std.proofs.Common.{◌==◌, arith, drop, get_or, is_some, take}
use Rattle.std.specs.Borrow.{Bor}
use Rattle.doc_store_readers.specs.Groups.{texts_of}
use Rattle.std.specs.Prelude.{◌≤◌, ◌<◌, ◌+◌, ◌-◌, Option, map as mapped, OnOk, Result, Ok, Err}
use Rattle.std.specs.Cmp.Lexicographic.{slice_cmp}
use Rattle.std.specs.FinMap as map
use Rattle.std.specs.FinMap.Entries.{is_some-find}
use Rattle.std.specs.Ordering.{nat_cmp}
use Rattle.std.specs.List.{filter, flat_map}
use Rattle.std.proofs.lemmas.Bool.{eqb-true}
use Rattle.std.proofs.lemmas.List.{append_assoc, append-nil, drop_more, length-append, map-append, take_rest}
use Rattle.std.proofs.lemmas.Grind.{flat_map-append}
use Rattle.doc_store_readers.specs.Maps.{TextMap}
use Rattle.doc_store_readers.specs.Pages.{Page}
use Rattle.doc_store_readers.specs.Sites.{Site}
use Rattle.doc_store.specs.Store.{set_page, remove_page, move_page}
use Rattle.doc_store.specs.declared.site_edit.SiteEdit.{SiteEdit}
use Rattle.doc_store.specs.declared.site_edit.SiteEdit.TheVariants as site_edits
use Rattle.doc_server_journal.specs.Journals.{IsOpen}
use Rattle.doc_server_journal_records.specs.Records.{IsPlain, text_limit}
use Rattle.doc_server_script.specs.Compactions.{made, made_along, moves, same_at}
use Rattle.doc_server_script.specs.PageLines.{line_of, lines_of}
use Rattle.doc_server_restore.specs.Written.{AreLines, IsWritten}
use Rattle.doc_server_script.proofs.PlainLines.{both}
use Rattle.doc_server_script.proofs.MadeSteps.{first_is_in, is_in, later_is_in}
use Rattle.doc_server_script.proofs.Without.{Entries, paths}
use Rattle.doc_server_script.specs.Edits.{put_line, remove_line, move_line}
use Rattle.doc_server_restore.specs.WriterSteps.{HasWritten, IsWriter, Wrote, WroteUpTo, removals, unless_same}
use Rattle.doc_server_restore.specs.declared.writer.EditWriter.{EditWriter}

more_lines : (records : List (List ℕ)) (first others : List SiteEdit) (text : List ℕ) → AreLines records first → text ≡ lines_of others
    → AreLines (records ++ text ∷ []) (first ++ others)
more_lines records first others text are is = record {
  parts = are.parts ++ others ∷ [];
  are = ap (λ r. r ++ text ∷ []) are.are
      ∙ (ap (λ t. mapped lines_of are.parts ++ t ∷ []) is ∙ sym (map-append lines_of are.parts (others ∷ [])));
  all = flat_map-append (λ part. part) are.parts (others ∷ [])
      ∙ (ap (λ edits. edits ++ (others ++ [])) are.all ∙ ap (λ edits. first ++ edits) (append-nil others));
}

none_plain : (text : List ℕ) → text ≡ [] → IsPlain text
none_plain text none = subst IsPlain (sym none) refl

none_within : (text : List ℕ) → text ≡ [] → length text ≤ text_limit
unfolding text_limit
none_within text none = subst (λ t. length t ≤ text_limit) (sym none) (omega arith)

-- each page stands under its path
abbrev pub Stand : TextMap Page → Entries → Type 0
Stand pages entries = (q : List ℕ) → is_in q (paths entries) ≡ true → map.contains_key pages q ≡ true

module _ {D : Type 0} (seen : D → Option (List ℕ)) (may_leave : D → List ℕ → Type 0) (failed : D → Bool) (stale : D → ℕ → Type 0) where
  pub begun : (writer : EditWriter D) → IsOpen seen may_leave failed stale writer.journal [] → string_bytes writer.text ≡ []
      → HasWritten seen may_leave failed stale writer []
  begun writer is none = record {
    records = [];
    first = [];
    others = [];
    is_open = is;
    lines = record { parts = []; are = refl; all = refl };
    text = none;
    within = none_within (string_bytes writer.text) none;
    plain = none_plain (string_bytes writer.text) none;
    all = refl;
  }

  pub added : (old new : EditWriter D) (line : List ℕ) (edit : SiteEdit) → new.journal ≡ old.journal
      → string_bytes new.text ≡ string_bytes old.text ++ line → length (string_bytes old.text) + length line ≤ text_limit
      → IsPlain line → line ≡ line_of edit
      → Wrote seen may_leave failed stale old new (edit ∷ [])
  added old new line edit journal text room plain is = λ edits h. record {
    records = h.records;
    first = h.first;
    others = h.others ++ edit ∷ [];
    is_open = subst (λ j. IsOpen seen may_leave failed stale j h.records) (sym journal) h.is_open;
    lines = h.lines;
    text = text
        ∙ (ap (λ t. t ++ line) h.text
        ∙ (ap (λ t. lines_of h.others ++ t) (is ∙ sym (append-nil (line_of edit)))
        ∙ sym (flat_map-append line_of h.others (edit ∷ []))));
    within = subst (λ t. length t ≤ text_limit) (sym text)
        (subst (λ n. n ≤ text_limit) (sym (length-append (string_bytes old.text) line)) room);
    plain = subst IsPlain (sym text) (both (string_bytes old.text) line h.plain plain);
    all = sym (append_assoc h.first h.others (edit ∷ [])) ∙ ap (λ e. e ++ edit ∷ []) h.all;
  }

  pub ended : (old new : EditWriter D)
      → ((texts : List (List ℕ)) → IsOpen seen may_leave failed stale old.journal texts
      → IsOpen seen may_leave failed stale new.journal (texts ++ string_bytes old.text ∷ []))
      → string_bytes new.text ≡ [] → Wrote seen may_leave failed stale old new []
  ended old new appended none = λ edits h. record {
    records = h.records ++ string_bytes old.text ∷ [];
    first = h.first ++ h.others;
    others = [];
    is_open = appended h.records h.is_open;
    lines = more_lines h.records h.first h.others (string_bytes old.text) h.lines h.text;
    text = none;
    within = none_within (string_bytes new.text) none;
    plain = none_plain (string_bytes new.text) none;
    all = append-nil (h.first ++ h.others) ∙ (h.all ∙ sym (append-nil edits));
  }

  pub none_wrote : (writer : EditWriter D) → Wrote seen may_leave failed stale writer writer []
  none_wrote writer = λ edits h. subst (HasWritten seen may_leave failed stale writer) (sym (append-nil edits)) h

  -- along no names, a page is made by no edits
  pub none_made : (writer : EditWriter D) (page : Page) (names : List (Bor (List ℕ))) → length names < 1
      → Wrote seen may_leave failed stale writer writer (made_along page (texts_of names))
  none_made writer page [] none = none_wrote writer
  none_made writer page (name ∷ names) none = absurd (omega (arith, none))

  pub both_wrote : (a b c : EditWriter D) (x y : List SiteEdit) → Wrote seen may_leave failed stale a b x
      → Wrote seen may_leave failed stale b c y
      → Wrote seen may_leave failed stale a c (x ++ y)
  both_wrote a b c x y first second = λ edits h.
      subst (HasWritten seen may_leave failed stale c) (append_assoc edits x y) (second (edits ++ x) (first edits h))

  pub still_writer : (a b : EditWriter D) (x : List SiteEdit) → IsWriter seen may_leave failed stale a
      → Wrote seen may_leave failed stale a b x
      → IsWriter seen may_leave failed stale b
  still_writer a b x (edits, h) wrote = (edits ++ x, wrote edits h)

  pub then_wrote : {X E : Type 0} (result : Result X E) (a b c : EditWriter D) (x y all : List SiteEdit)
      → Wrote seen may_leave failed stale a b x → OnOk result (Wrote seen may_leave failed stale b c y) → x ++ y ≡ all
      → OnOk result (Wrote seen may_leave failed stale a c all)
  then_wrote (Ok done) a b c x y all first second is = subst (Wrote seen may_leave failed stale a c) is (both_wrote a b c x y first second)
  then_wrote (Err e) a b c x y all first second is = tt

  -- ---- edits one after the other

  pub begins : (writer : EditWriter D) (all left : List SiteEdit) → all ≡ left
      → WroteUpTo seen may_leave failed stale writer writer all left
  begins writer all left is = ([], none_wrote writer, is)

  pub goes_on : (a b c : EditWriter D) (all more left rest : List SiteEdit) → WroteUpTo seen may_leave failed stale a b all left
      → Wrote seen may_leave failed stale b c more → left ≡ more ++ rest → WroteUpTo seen may_leave failed stale a c all rest
  goes_on a b c all more left rest (done, wrote, is) next split =
      (done ++ more, both_wrote a b c done more wrote next, is ∙ (ap (λ l. done ++ l) split ∙ sym (append_assoc done more rest)))

  pub has_all : (a b : EditWriter D) (all left : List SiteEdit) → WroteUpTo seen may_leave failed stale a b all left → left ≡ []
      → Wrote seen may_leave failed stale a b all
  has_all a b all left (done, wrote, is) none =
      subst (Wrote seen may_leave failed stale a b) (sym (is ∙ (ap (λ l. done ++ l) none ∙ append-nil done))) wrote

-- ---- the end

nothing_long : (text : List ℕ) → length text ≡ 0 → text ≡ []
nothing_long [] e = refl
nothing_long (b ∷ text) e = absurd (omega (arith, e))

pub nothing_in : (text : List ℕ) (test : Bool) → test ≡ (length text == 0) → test ≡ true → text ≡ []
nothing_in text test e none = nothing_long text (eqb-true (length text) 0 (sym e ∙ none))

ends : (line more : List ℕ) → (line ++ 10 ∷ []) ++ more ≡ [] → ⊥
ends [] more e = cc
ends (b ∷ line) more e = cc

no_lines : (edits : List SiteEdit) → lines_of edits ≡ [] → edits ≡ []
no_lines [] e = refl
no_lines (site_edits.Put path groups text ∷ edits) e = absurd (ends (put_line path groups text) (lines_of edits) e)
no_lines (site_edits.Remove path ∷ edits) e = absurd (ends (remove_line path) (lines_of edits) e)
no_lines (site_edits.Move from to ∷ edits) e = absurd (ends (move_line from to) (lines_of edits) e)

module _ {D : Type 0} (seen : D → Option (List ℕ)) (may_leave : D → List ℕ → Type 0) (failed : D → Bool) (stale : D → ℕ → Type 0) where
  pub finished : (writer : EditWriter D) (edits : List SiteEdit) → HasWritten seen may_leave failed stale writer edits
      → string_bytes writer.text ≡ [] → IsWritten seen may_leave failed stale writer.journal edits
  finished writer edits h none = record {
    records = h.records;
    is_open = h.is_open;
    lines = subst (AreLines h.records)
        (sym (append-nil h.first) ∙ (ap (λ o. h.first ++ o) (sym (no_lines h.others (sym h.text ∙ none))) ∙ h.all))
        h.lines;
  }

  pub finished_now : (old new : EditWriter D) → Wrote seen may_leave failed stale old new [] → string_bytes new.text ≡ []
      → (edits : List SiteEdit) → HasWritten seen may_leave failed stale old edits → IsWritten seen may_leave failed stale new.journal edits
  finished_now old new wrote none = λ edits h.
      finished new edits (subst (HasWritten seen may_leave failed stale new) (append-nil edits) (wrote edits h)) none

-- ---- names one after the other

pub next_move : (last : List ℕ) (names : List (Bor (List ℕ))) (i : ℕ) (name : Bor (List ℕ)) → i < length names → name ≡ get_or names i name
    → moves last (texts_of (drop i names)) ≡ (move_page last name.now ∷ []) ++ moves name.now (texts_of (drop (i + 1) names))
next_move last names i name within is =
    ap (λ left. moves last (texts_of left)) (drop_more names i name within ∙ ap (λ n. n ∷ drop (i + 1) names) (sym is))

made_by_first : (page : Page) (names : List (Bor (List ℕ))) (first : Bor (List ℕ)) → 1 ≤ length names → first ≡ get_or names 0 first
    → (set_page first.now page ∷ []) ++ moves first.now (texts_of (drop 1 names)) ≡ made_along page (texts_of names)
made_by_first page [] first within is = absurd (omega arith)
made_by_first page (name ∷ names) first within is = ap (λ n. set_page n.now page ∷ moves n.now (texts_of names)) is

pub made_first : (page : Page) (names : List (Bor (List ℕ))) (first : Bor (List ℕ)) → 1 ≤ length names → first ≡ get_or names 0 first
    → (set_page first.now page ∷ []) ++ moves first.now (texts_of (take (length names - 1) (drop 1 names)))
    ≡ made_along page (texts_of names)
made_first page names first within is =
    ap (λ left. (set_page first.now page ∷ []) ++ moves first.now (texts_of left)) (take_rest names 1)
    ∙ made_by_first page names first within is

-- ---- pages that stand

pub all_stand : (pages : TextMap Page) → Stand pages (map.entries pages)
all_stand pages = λ q there. ap is_some (map.get-entries pages q) ∙ (is_some-find (slice_cmp nat_cmp) q (map.entries pages) ∙ there)

pub first_stands : (pages : TextMap Page) (entry : List ℕ × Page) (entries : Entries) → Stand pages (entry ∷ entries)
    → map.contains_key pages entry.0 ≡ true
first_stands pages entry entries stand = stand entry.0 (first_is_in entry.0 (paths entries))

pub others_stand : (pages : TextMap Page) (entry : List ℕ × Page) (entries : Entries) → Stand pages (entry ∷ entries) → Stand pages entries
others_stand pages entry entries stand = λ q there. stand q (later_is_in q entry.0 (paths entries) there)

-- ---- the pages that two sites have otherwise, one after the other

-- the removals of those of some pages that the two sites don't have so
abbrev pub removals_left : Site → Site → Entries → List SiteEdit
removals_left config site entries = removals (filter (λ e. not (same_at config site e.0)) entries)

pub removals_more : (config site : Site) (entry : List ℕ × Page) (entries : Entries)
    → removals_left config site (entry ∷ entries)
    ≡ unless_same config site entry.0 (remove_page entry.0 ∷ []) ++ removals_left config site entries
removals_more config site entry entries = by (same_at config site entry.0)
  where
    rest : List (List ℕ × Page)
    rest = filter (λ e. not (same_at config site e.0)) entries

    by : (b : Bool) → removals (cond (not b) (entry ∷ rest) rest) ≡ cond b [] (remove_page entry.0 ∷ []) ++ removals rest
    by true = refl
    by false = refl

-- the edits that make those of some pages that the two sites don't have so
abbrev pub made_left : Site → Site → Entries → List SiteEdit
made_left config site entries = flat_map (made site) (filter (λ e. not (same_at config site e.0)) entries)

pub made_more : (config site : Site) (entry : List ℕ × Page) (entries : Entries)
    → made_left config site (entry ∷ entries) ≡ unless_same config site entry.0 (made site entry) ++ made_left config site entries
made_more config site entry entries = by (same_at config site entry.0)
  where
    rest : List (List ℕ × Page)
    rest = filter (λ e. not (same_at config site e.0)) entries

    by : (b : Bool) → flat_map (made site) (cond (not b) (entry ∷ rest) rest)
        ≡ cond b [] (made site entry) ++ flat_map (made site) rest
    by true = refl
    by false = refl
