-- The edits of lines, and of a text behind them.
use Rattle.std.proofs.Common.{◌≡◌, ℕ, ◌+◌, ◌==◌, List, [], ◌∷◌, ◌++◌, Bool, true, false, cond, refl, ap, sym, ◌∙◌, append_assoc, append-nil}
use Rattle.std.specs.Prelude.{Option, Some, None, option_and_then, Result, Ok, Err}
use Rattle.std.specs.Result.{result_ok}
use Rattle.std.specs.Str.{is_utf8}
use Rattle.std.proofs.lemmas.Str.{IsUtf8-append, IsUtf8-from_is_utf8, is_utf8-from_IsUtf8}
use Rattle.doc_server_streams.specs.declared.fault.Fault.{Fault}
use Rattle.doc_server_streams.specs.declared.fault.Fault.TheVariants as faults
use Rattle.doc_store.specs.declared.site_edit.SiteEdit.{SiteEdit}
use Rattle.doc_store.specs.declared.site_edit.SiteEdit.TheVariants as site_edits
use Rattle.doc_hub_events.specs.declared.event.Event.{Event}
use Rattle.doc_server_script.specs.Edits.{put_line, remove_line, move_line}
use Rattle.doc_server_script.specs.Lines.{event_of}
use Rattle.doc_server_script.specs.PageLines.{line_of, lines_of}
use Rattle.doc_server_script.specs.Scripts.{events_from, events_of, lines, onto_first}
use Rattle.doc_server_restore.specs.Restores.{edit_in, edits_in, edits_of, in_front}

err_ok : {X E : Type 0} (e : E) (x : X) → ◌≡◌ {A = Result X E} (Err e) (Ok x) → ⊥
err_ok e x is = cc

ok_is : {X E : Type 0} (x y : X) → ◌≡◌ {A = Result X E} (Ok x) (Ok y) → x ≡ y
ok_is x y is = cc

pub none_some : {X : Type 0} (x : X) → None ≡ Some x → ⊥
none_some x is = cc

pub some_is : {X : Type 0} (x y : X) → Some x ≡ Some y → x ≡ y
some_is x y is = cc

-- ---- lines

-- what ends with a line feed has a first line, and what follows it begins a new one
record Ends (xs rest : List ℕ) : Type 0 where
  line : List ℕ
  others : List (List ℕ)
  alone : lines (xs ++ 10 ∷ []) ≡ line ∷ others
  before : lines (xs ++ 10 ∷ rest) ≡ line ∷ (others ++ lines rest)

ends : (xs rest : List ℕ) → Ends xs rest
unfolding lines
ends [] rest = record { line = []; others = []; alone = refl; before = refl }
ends (b ∷ xs) rest = by (ends xs rest) (b == 10) refl
  where
    by : Ends xs rest → (t : Bool) → (b == 10) ≡ t → Ends (b ∷ xs) rest
    by e true is = record {
      line = [];
      others = e.line ∷ e.others;
      alone = ap (λ t. cond t ([] ∷ lines (xs ++ 10 ∷ [])) (onto_first b (lines (xs ++ 10 ∷ [])))) is ∙ ap (λ l. [] ∷ l) e.alone;
      before = ap (λ t. cond t ([] ∷ lines (xs ++ 10 ∷ rest)) (onto_first b (lines (xs ++ 10 ∷ rest)))) is ∙ ap (λ l. [] ∷ l) e.before;
    }
    by e false is = record {
      line = b ∷ e.line;
      others = e.others;
      alone = ap (λ t. cond t ([] ∷ lines (xs ++ 10 ∷ [])) (onto_first b (lines (xs ++ 10 ∷ [])))) is ∙ ap (onto_first b) e.alone;
      before = ap (λ t. cond t ([] ∷ lines (xs ++ 10 ∷ rest)) (onto_first b (lines (xs ++ 10 ∷ rest)))) is ∙ ap (onto_first b) e.before;
    }

behind_one : (xs rest : List ℕ) → lines ((xs ++ 10 ∷ []) ++ rest) ≡ lines (xs ++ 10 ∷ []) ++ lines rest
behind_one xs rest =
    let e = ends xs rest in
    ap lines (append_assoc xs (10 ∷ []) rest) ∙ e.before ∙ ap (λ l. l ++ lines rest) (sym e.alone)

bare : (edit : SiteEdit) → (xs : List ℕ) × (line_of edit ≡ xs ++ 10 ∷ [])
bare (site_edits.Put path groups text) = (put_line path groups text, refl)
bare (site_edits.Remove path) = (remove_line path, refl)
bare (site_edits.Move from to) = (move_line from to, refl)

behind_line : (edit : SiteEdit) (rest : List ℕ) → lines (line_of edit ++ rest) ≡ lines (line_of edit) ++ lines rest
behind_line edit rest =
    let (xs, is) = bare edit in
    ap (λ l. lines (l ++ rest)) is ∙ behind_one xs rest ∙ ap (λ l. lines l ++ lines rest) (sym is)

no_line : lines [] ≡ []
unfolding lines
no_line = refl

behind_lines : (edits : List SiteEdit) (rest : List ℕ) → lines (lines_of edits ++ rest) ≡ lines (lines_of edits) ++ lines rest
behind_lines [] rest = ap (λ l. l ++ lines rest) (sym no_line)
behind_lines (edit ∷ edits) rest =
    ap lines (append_assoc (line_of edit) (lines_of edits) rest)
    ∙ behind_line edit (lines_of edits ++ rest)
    ∙ ap (λ l. lines (line_of edit) ++ l) (behind_lines edits rest)
    ∙ sym (append_assoc (lines (line_of edit)) (lines (lines_of edits)) (lines rest))
    ∙ ap (λ l. l ++ lines rest) (sym (behind_line edit (lines_of edits)))

-- ---- events

-- the events of lines, behind those found before
abbrev onto : List Event → ℕ → List (List ℕ) → Option Event → Result (List Event) Fault
onto found n more None = Err (faults.BadScriptLine n)
onto found n more (Some event) = events_from (found ++ event ∷ []) (n + 1) more

as_onto : (found : List Event) (n : ℕ) (line : List ℕ) (more : List (List ℕ))
    → events_from found n (line ∷ more) ≡ onto found n more (event_of line)
as_onto found n line more = each (event_of line)
  where
    each : (o : Option Event)
        → ◌≡◌ {A = Result (List Event) Fault} (elim o [
          | None ↦ Err (faults.BadScriptLine n)
          | Some event ↦ events_from (found ++ event ∷ []) (n + 1) more
        ]) (onto found n more o)
    each None = refl
    each (Some event) = refl

-- the events of these lines, wherever they stand
record Reads (ls : List (List ℕ)) (found all : List Event) : Type 0 where
  these : List Event
  are : all ≡ found ++ these
  anywhere : (before : List Event) (n : ℕ) (more : List (List ℕ))
      → (m : ℕ) × (events_from before n (ls ++ more) ≡ events_from (before ++ these) m more)

reads : (ls : List (List ℕ)) (found all : List Event) (n : ℕ) → events_from found n ls ≡ Ok all → Reads ls found all
reads [] found all n is = record {
  these = [];
  are = sym (ok_is {E = Fault} found all is) ∙ sym (append-nil found);
  anywhere = λ before k more. (k, ap (λ b. events_from b k more) (sym (append-nil before)));
}
reads (line ∷ ls) found all n is =
    by (event_of line) refl (λ event rest. reads ls (found ++ event ∷ []) all (n + 1) rest) (sym (as_onto found n line ls) ∙ is)
  where
    by : (o : Option Event) → event_of line ≡ o
        → ((event : Event) → events_from (found ++ event ∷ []) (n + 1) ls ≡ Ok all → Reads ls (found ++ event ∷ []) all)
        → onto found n ls o ≡ Ok all → Reads (line ∷ ls) found all
    by None one rest here = absurd (err_ok (faults.BadScriptLine n) all here)
    by (Some event) one rest here =
        let r = rest event here in
        record {
          these = event ∷ r.these;
          are = r.are ∙ append_assoc found (event ∷ []) r.these;
          anywhere = λ before k more.
              let (m, is) = r.anywhere (before ++ event ∷ []) (k + 1) more in (
                m,
                as_onto before k line (ls ++ more) ∙ ap (onto before k (ls ++ more)) one ∙ is
                    ∙ ap (λ b. events_from b m more) (append_assoc before (event ∷ []) r.these),
              );
        }

both_read : (ls ms : List (List ℕ)) (es fs : List Event) → events_from [] 1 ls ≡ Ok es → events_from [] 1 ms ≡ Ok fs
    → events_from [] 1 (ls ++ ms) ≡ Ok (es ++ fs)
both_read ls ms es fs one two =
    let a = reads ls [] es 1 one in
    let b = reads ms [] fs 1 two in
    let (m, first) = a.anywhere [] 1 ms in
    let (k, second) = b.anywhere a.these m [] in
    first ∙ ap (events_from a.these m) (sym (append-nil ms)) ∙ second
    ∙ ap (λ l. Ok (l ++ b.these)) (sym a.are) ∙ ap (λ l. Ok (es ++ l)) (sym b.are)

-- ---- edits

edits_of_both : (es fs : List Event) (xs ys : List SiteEdit) → edits_in es ≡ Some xs → edits_in fs ≡ Some ys
    → edits_in (es ++ fs) ≡ Some (xs ++ ys)
edits_of_both [] fs xs ys one two = two ∙ ap (λ l. Some (l ++ ys)) (some_is [] xs one)
edits_of_both (e ∷ es) fs xs ys one two =
    by (edit_in e) (edits_in es) refl (λ zs is. edits_of_both es fs zs ys is two) one
  where
    by : (o : Option SiteEdit) (p : Option (List SiteEdit)) → edits_in es ≡ p
        → ((zs : List SiteEdit) → edits_in es ≡ Some zs → edits_in (es ++ fs) ≡ Some (zs ++ ys))
        → in_front o p ≡ Some xs → in_front o (edits_in (es ++ fs)) ≡ Some (xs ++ ys)
    by None p is rest all = absurd (none_some xs all)
    by (Some edit) None is rest all = absurd (none_some xs all)
    by (Some edit) (Some zs) is rest all =
        ap (in_front (Some edit)) (rest zs is) ∙ ap (λ l. Some (l ++ ys)) (some_is (edit ∷ zs) xs all)

-- ---- texts

record IsRead (text : List ℕ) (edits : List SiteEdit) : Type 0 where
  utf8 : is_utf8 text ≡ true
  events : List Event
  read : events_of text ≡ Ok events
  are : edits_in events ≡ Some edits

is_read : (text : List ℕ) (edits : List SiteEdit) → edits_of text ≡ Some edits → IsRead text edits
is_read text edits is = by (is_utf8 text) (events_of text) refl refl is
  where
    by : (t : Bool) (r : Result (List Event) Fault) → is_utf8 text ≡ t → events_of text ≡ r
        → cond t (option_and_then edits_in (result_ok r)) None ≡ Some edits → IsRead text edits
    by false r utf8 read all = absurd (none_some edits all)
    by true (Err fault) utf8 read all = absurd (none_some edits all)
    by true (Ok events) utf8 read all = record { utf8 = utf8; events = events; read = read; are = all }

-- a text behind lines of edits
pub edits_behind : (edits xs ys : List SiteEdit) (rest : List ℕ) → edits_of (lines_of edits) ≡ Some xs → edits_of rest ≡ Some ys
    → edits_of (lines_of edits ++ rest) ≡ Some (xs ++ ys)
edits_behind edits xs ys rest one two =
    let a = is_read (lines_of edits) xs one in
    let b = is_read rest ys two in
    let text = lines_of edits ++ rest in
    ap (λ t. cond t (option_and_then edits_in (result_ok (events_of text))) None)
    (is_utf8-from_IsUtf8 text
    (IsUtf8-append (lines_of edits) rest (IsUtf8-from_is_utf8 (lines_of edits) a.utf8) (IsUtf8-from_is_utf8 rest b.utf8)))
    ∙ ap (λ r. option_and_then edits_in (result_ok r))
    (ap (events_from [] 1) (behind_lines edits rest)
    ∙ both_read (lines (lines_of edits)) (lines rest) a.events b.events a.read b.read)
    ∙ edits_of_both a.events b.events xs ys a.are b.are
