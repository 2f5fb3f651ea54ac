-- Records, one after the other.
use Rattle.std.proofs.Common.{◌≡◌, ℕ, ◌+◌, List, [], ◌∷◌, Bool, true, false, ◌&&◌, cond, is_some, refl, ap, sym, subst, ◌∙◌}
use Rattle.std.specs.Prelude.{Option, Some, None, option_and_then, Result, Ok, Err}
use Rattle.std.specs.Option.{ok_or}
use Rattle.std.specs.List.{list_all}
use Rattle.std.specs.Result.{result_ok}
use Rattle.std.specs.Str.{is_utf8}
use Rattle.std.specs.Prelude.{IsUtf8}
use Rattle.std.proofs.Common.{inl, inr}
use Rattle.std.proofs.lemmas.Str.{IsUtf8-from_is_utf8}
use Rattle.doc_media.specs.Media.{Media}
use Rattle.doc_server_script.specs.Scripts.{events_of}
use Rattle.std.proofs.lemmas.Bool.{cases_Bool, true≢false}
use Rattle.doc_server_streams.specs.declared.fault.Fault.{Fault}
use Rattle.doc_store.specs.Store.{StoreState}
use Rattle.doc_store.specs.declared.site_edit.SiteEdit.{SiteEdit}
use Rattle.doc_hub_events.specs.declared.event.Event.{Event}
use Rattle.doc_server_restore.specs.declared.fault.RestoreFault.{RestoreFault}
use Rattle.doc_server_restore.specs.declared.fault.RestoreFault.TheVariants as faults
use Rattle.doc_server_restore.specs.Restores.{after_record, all_made, edit_in, edits_in, edits_of, in_front, refused_from, restored_from}
use Rattle.doc_server_restore.specs.RestoreSteps.{Reads, TellsLine, is_edit, line_refused, made_by, made_of}
use Rattle.doc_server_restore.proofs.Effects.{events_made, lines_refused}

module _ (media : Media) where
  abbrev pub onto : ℕ → List (List ℕ) → Result StoreState RestoreFault → Result StoreState RestoreFault
  onto n texts (Err fault) = Err fault
  onto n texts (Ok next) = restored_from media (n + 1) next texts

  pub as_onto : (n : ℕ) (store : StoreState) (text : List ℕ) (texts : List (List ℕ)) (answer : Result StoreState RestoreFault)
      → after_record media store n (edits_of text) ≡ answer → restored_from media n store (text ∷ texts) ≡ onto n texts answer
  as_onto n store text texts answer is = each (after_record media store n (edits_of text)) ∙ ap (onto n texts) is
    where
      each : (r : Result StoreState RestoreFault)
          → ◌≡◌ {A = Result StoreState RestoreFault} (elim r [
            | Err fault ↦ Err fault
            | Ok next ↦ restored_from media (n + 1) next texts
          ]) (onto n texts r)
      each (Err fault) = refl
      each (Ok next) = refl

  -- a record was restored
  pub next_record : (all : Result StoreState RestoreFault) (n : ℕ) (store next : StoreState) (left texts : List (List ℕ)) (text : List ℕ)
      (here : Media) → here ≡ media
      → all ≡ restored_from media n store left → left ≡ text ∷ texts → after_record here store n (edits_of text) ≡ Ok next
      → all ≡ restored_from media (n + 1) next texts
  next_record all n store next left texts text here same so first is =
      so ∙ ap (restored_from media n store) first
      ∙ as_onto n store text texts (Ok next) (ap (λ m. after_record m store n (edits_of text)) (sym same) ∙ is)

  -- a record wasn't
  pub last_record : (all : Result StoreState RestoreFault) (n : ℕ) (store : StoreState) (left texts : List (List ℕ)) (text : List ℕ)
      (fault : RestoreFault) (here : Media) → here ≡ media → all ≡ restored_from media n store left → left ≡ text ∷ texts
      → after_record here store n (edits_of text) ≡ Err fault → all ≡ Err fault
  last_record all n store left texts text fault here same so first is =
      so ∙ ap (restored_from media n store) first
      ∙ as_onto n store text texts (Err fault) (ap (λ m. after_record m store n (edits_of text)) (sym same) ∙ is)

  -- ---- one record

  -- its edits are made
  pub record_restored : (store next : StoreState) (n : ℕ) (text : List ℕ) (edits : List SiteEdit) → edits_of text ≡ Some edits
      → all_made media store edits ≡ Some next → after_record media store n (edits_of text) ≡ Ok next
  record_restored store next n text edits said is =
      ap (after_record media store n) said ∙ ap (λ o. ok_or o (faults.Refused n (refused_from media 1 store edits))) is

  pub record_made : (store next : StoreState) (n : ℕ) (given : Option (List SiteEdit)) (found events : List Event) → Reads given (Some found)
      → events ≡ found → made_of media store events ≡ Some next → after_record media store n given ≡ Ok next
  record_made store next n given found events (edits, are, said) same is =
      ap (after_record media store n) said
      ∙ ap (λ o. ok_or o (faults.Refused n (refused_from media 1 store edits)))
      (sym (events_made media found edits are store) ∙ ap (made_of media store) (sym same) ∙ is)

  pub record_refused : (store : StoreState) (n line : ℕ) (given : Option (List SiteEdit)) (found events : List Event)
      → Reads given (Some found) → events ≡ found → made_of media store events ≡ None → line ≡ line_refused media 1 store events
      → after_record media store n given ≡ Err (faults.Refused n line)
  record_refused store n line given found events (edits, are, said) same is first =
      ap (after_record media store n) said
      ∙ ap (λ o. ok_or o (faults.Refused n (refused_from media 1 store edits)))
      (sym (events_made media found edits are store) ∙ ap (made_of media store) (sym same) ∙ is)
      ∙ ap (λ l. Err (faults.Refused n l))
      (sym (first ∙ ap (line_refused media 1 store) same ∙ lines_refused media found edits 1 are store))

  -- ---- events

  abbrev behind : List Event → Option StoreState → Option StoreState
  behind events None = None
  behind events (Some next) = made_of media next events

  as_behind : (store : StoreState) (event : Event) (events : List Event) (answer : Option StoreState)
      → made_by media store (edit_in event) ≡ answer → made_of media store (event ∷ events) ≡ behind events answer
  as_behind store event events answer is = each (made_by media store (edit_in event)) ∙ ap (behind events) is
    where
      each : (mid : Option StoreState)
          → ◌≡◌ {A = Option StoreState} (elim mid [ None ↦ None | Some next ↦ made_of media next events ]) (behind events mid)
      each None = refl
      each (Some next) = refl

  pub next_event : (all : Option StoreState) (store : StoreState) (left events : List Event) (event : Event) (answer : Option StoreState)
      (here : Media) → here ≡ media
      → all ≡ made_of media store left → left ≡ event ∷ events → made_by here store (edit_in event) ≡ answer → all ≡ behind events answer
  next_event all store left events event answer here same so first is =
      so ∙ ap (made_of media store) first
      ∙ as_behind store event events answer (ap (λ m. made_by m store (edit_in event)) (sym same) ∙ is)

-- ---- what a script says

there : (event : Event) (events : List Event) (these : List SiteEdit) → is_edit event ≡ true → edits_in events ≡ Some these
    → (edits : List SiteEdit) × (edits_in (event ∷ events) ≡ Some edits)
there event events these is rest = by (edit_in event) is
  where
    by : (found : Option SiteEdit) → is_some found ≡ true → (edits : List SiteEdit) × (in_front found (edits_in events) ≡ Some edits)
    by None never = absurd (true≢false (sym never))
    by (Some edit) fine = (edit ∷ these, ap (in_front (Some edit)) rest)

both : (a b : Bool) → (a && b) ≡ true → (a ≡ true) × (b ≡ true)
both true b is = (refl, is)
both false b is = absurd (true≢false (sym is))

all_there : (events : List Event) → list_all is_edit events ≡ true → (edits : List SiteEdit) × (edits_in events ≡ Some edits)
all_there [] all = ([], refl)
all_there (event ∷ events) all =
    let parts = both (is_edit event) (list_all is_edit events) all in
    let rest = all_there events parts.1 in there event events rest.0 parts.0 rest.1

none_in_front : (found : Option SiteEdit) (rest : Option (List SiteEdit)) → rest ≡ None → in_front found rest ≡ None
none_in_front None rest is = refl
none_in_front (Some edit) rest is = ap (in_front (Some edit)) is

one_is_none : (found : Option SiteEdit) (rest : Option (List SiteEdit)) → is_some found ≡ false → in_front found rest ≡ None
one_is_none None rest is = refl
one_is_none (Some edit) rest is = absurd (true≢false is)

not_by : (event : Event) (events : List Event) (b : Bool) → is_edit event ≡ b → (b && list_all is_edit events) ≡ false
    → (list_all is_edit events ≡ false → edits_in events ≡ None) → edits_in (event ∷ events) ≡ None
not_by event events true is rest behind = none_in_front (edit_in event) (edits_in events) (behind rest)
not_by event events false is rest behind = one_is_none (edit_in event) (edits_in events) is

not_there : (events : List Event) → list_all is_edit events ≡ false → edits_in events ≡ None
not_there [] not_all = absurd (true≢false not_all)
not_there (event ∷ events) not_all = not_by event events (is_edit event) refl not_all (not_there events)

-- the events of a script are its edits
pub script_read : (answer : Result (List Event) Fault) (events : List Event) → answer ≡ Ok events → list_all is_edit events ≡ true
    → Reads (option_and_then edits_in (result_ok answer)) (Some events)
script_read answer events is all =
    let these = all_there events all in
    (these.0, these.1, ap (λ r. option_and_then edits_in (result_ok r)) is ∙ these.1)

-- or one of them is no edit
pub script_bad : (answer : Result (List Event) Fault) (events : List Event) → answer ≡ Ok events → list_all is_edit events ≡ false
    → option_and_then edits_in (result_ok answer) ≡ None
script_bad answer events is other = ap (λ r. option_and_then edits_in (result_ok r)) is ∙ not_there events other

-- the edits of a text in UTF-8 are those of its script
pub text_read : (text script : List ℕ) → is_utf8 text ≡ true → script ≡ text
    → edits_of text ≡ option_and_then edits_in (result_ok (events_of script))
text_read text script utf8 same =
    ap (λ t. cond t (option_and_then edits_in (result_ok (events_of text))) None) utf8
    ∙ ap (λ l. option_and_then edits_in (result_ok (events_of l))) (sym same)

-- one that isn't UTF-8 has none
pub text_bad : (text : List ℕ) → ¬ (IsUtf8 text) → edits_of text ≡ None
text_bad text other = ap (λ t. cond t (option_and_then edits_in (result_ok (events_of text))) None) never
  where
    never : is_utf8 text ≡ false
    never = elim (cases_Bool (is_utf8 text)) [ inl is ↦ absurd (other (IsUtf8-from_is_utf8 text is)) | inr is ↦ is ]

-- ---- what calls tell

pub told_none : (line : Option ℕ) (n : ℕ) (given : Option StoreState) (first : ℕ) (new : StoreState) → TellsLine line given first new
    → line ≡ Some n → (given ≡ None) × (n ≡ first)
told_none line n given first new tells is = subst (λ l. TellsLine l given first new) is tells

pub told_some : (line : Option ℕ) (given : Option StoreState) (first : ℕ) (new : StoreState) → TellsLine line given first new
    → line ≡ None → given ≡ Some new
told_some line given first new tells is = subst (λ l. TellsLine l given first new) is tells
