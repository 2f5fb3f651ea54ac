-- A reload's edits on a hub, one after the other.
use Rattle.std.proofs.Common.{◌≡◌, ◌<◌, ◌+◌, ℕ, List, [], ◌∷◌, Bool, true, false, get_or, drop, length, refl, ap, sym, ◌∙◌, subst}
use Rattle.std.specs.Prelude.{Option, Some, None, option_map, Result, Ok, Err, Contains}
use Rattle.std.proofs.lemmas.List.{drop_more}
use Rattle.std.proofs.lemmas.List.Elements.{All-nil, All-cons, Contains-get_or}
use Rattle.doc_page_parts.specs.Refusals.{IsAnswer}
use Rattle.doc_store_readers.proofs.KeySteps.{not_none, some_is}
use Rattle.doc_store.specs.Store.{StoreState, remove_page}
use Rattle.doc_store.specs.declared.moving.MoveError.{MoveError}
use Rattle.doc_store.specs.declared.moving.MoveError.TheVariants as move_errors
use Rattle.doc_store.specs.declared.site_edit.SiteEdit.{SiteEdit}
use Rattle.doc_store.specs.declared.site_edit.SiteEdit.TheVariants as site_edits
use Rattle.doc_store.specs.declared.store.EditError.{EditError}
use Rattle.doc_store.specs.declared.store.Put.{Put}
use Rattle.doc_store.specs.declared.store.EditError.TheVariants as edit_errors
use Rattle.doc_media.specs.Media.{Media}
use Rattle.doc_hub.specs.Replies.{Renders}
use Rattle.doc_hub_events.specs.Events.{Said, SaidSite, edit_refusal, move_refusal, outcome_of, outcome_of_site}
use Rattle.doc_hub_events.specs.declared.event.Event.{Event}
use Rattle.doc_hub_events.specs.declared.event.Event.TheVariants as events
use Rattle.doc_hub_events.specs.declared.outcome.Outcome.{Outcome}
use Rattle.doc_hub.specs.Runs.{Happened, Happens, HappensSite, Leaves, first, nothing}
use Rattle.doc_hub.specs.Worlds.{World, moved_beside, put_beside, store_of, with_store}
use Rattle.doc_server_script.specs.Replays.{unless_refused}
use Rattle.doc_server_restore.specs.Restores.{all_made, made, unstamped}
use Rattle.doc_server_restore.specs.RestoreSteps.{Tells}
use Rattle.doc_server_reload.specs.Leading.{IsOneOf, LeadsByEdits}
use Rattle.doc_server_reload.specs.LeadSteps.{if_refused, is_accepted}
use Rattle.doc_server_reload.proofs.ReplyLaw.{one_leaves}

-- ---- one edit

-- what the call of an edit leaves and answers, its event leaves
pub leaves_so : (render : Renders) (w : World) (event same : Event) (v : World) (outcome : Outcome) (said : Said same) → event ≡ same
    → Happens render w same v said → outcome ≡ outcome_of same said → Leaves render w event v outcome
leaves_so render w event same v outcome said is happens told = subst (λ e. Leaves render w e v outcome) (sym is) (said, happens, told)

-- the store is what a call that was accepted leaves
accepted_so : {X E : Type 0} (w v : World) (r : StoreState × Result X E) (x : X)
    → ◌≡◌ {A = World × Result X E} (with_store w r.0, r.1) (v, Ok x)
    → option_map unstamped (unless_refused r.0 r.1) ≡ Some (store_of v)
accepted_so w v r x is =
    ap (λ said. option_map unstamped (unless_refused r.0 said)) (ap (λ p. p.1) is) ∙ ap (λ p. Some (store_of p.0)) is

-- a refusal but for want of memory
refused_so : {X E : Type 0} (memory e : E) (store : StoreState) (said : Result X E) → IsAnswer memory said (Err e) → (e ≡ memory → ⊥)
    → option_map unstamped (unless_refused store said) ≡ None
refused_so memory e store (Ok x) is other = absurd (other is)
refused_so memory e store (Err f) is other = refl

tells_so : (told accepted : Bool) (given : Option StoreState) (new : StoreState) → Some told ≡ Some accepted → Tells told given new
    → Tells accepted given new
tells_so told accepted given new same tells = subst (λ b. Tells b given new) (some_is told accepted same) tells

put_refused : (w v : World) (r : StoreState × Result Put EditError) (e : EditError) (accepted : Bool)
    → IsAnswer edit_errors.Memory r.1 (Err e) → if_refused (edit_refusal e) ≡ Some accepted
    → Tells accepted (option_map unstamped (unless_refused r.0 r.1)) (store_of v)
put_refused w v r edit_errors.Taken accepted is told =
    tells_so false accepted _ (store_of v) told (refused_so edit_errors.Memory edit_errors.Taken r.0 r.1 is (λ same. cc))
put_refused w v r edit_errors.TooLong accepted is told =
    tells_so false accepted _ (store_of v) told (refused_so edit_errors.Memory edit_errors.TooLong r.0 r.1 is (λ same. cc))
put_refused w v r edit_errors.StoreFull accepted is told =
    tells_so false accepted _ (store_of v) told (refused_so edit_errors.Memory edit_errors.StoreFull r.0 r.1 is (λ same. cc))
put_refused w v r edit_errors.Memory accepted is told = absurd (not_none accepted told)

move_refused : (w v : World) (r : StoreState × Result (Unit {0}) MoveError) (e : MoveError) (accepted : Bool)
    → IsAnswer move_errors.Memory r.1 (Err e) → if_refused (move_refusal e) ≡ Some accepted
    → Tells accepted (option_map unstamped (unless_refused r.0 r.1)) (store_of v)
move_refused w v r move_errors.NoPage accepted is told =
    tells_so false accepted _ (store_of v) told (refused_so move_errors.Memory move_errors.NoPage r.0 r.1 is (λ same. cc))
move_refused w v r move_errors.Taken accepted is told =
    tells_so false accepted _ (store_of v) told (refused_so move_errors.Memory move_errors.Taken r.0 r.1 is (λ same. cc))
move_refused w v r move_errors.StoreFull accepted is told =
    tells_so false accepted _ (store_of v) told (refused_so move_errors.Memory move_errors.StoreFull r.0 r.1 is (λ same. cc))
move_refused w v r move_errors.Memory accepted is told = absurd (not_none accepted told)

site_tells : (w v : World) (edit : SiteEdit) (said : SaidSite edit) (accepted : Bool) → HappensSite w edit v said
    → is_accepted (outcome_of_site edit said) ≡ Some accepted → Tells accepted (made w.media (store_of w) edit) (store_of v)
site_tells w v (site_edits.Put path groups text) (Ok done) accepted happens told =
    tells_so true accepted _ (store_of v) told (accepted_so w v (put_beside w.media (store_of w) path groups text) done happens)
site_tells w v (site_edits.Put path groups text) (Err e) accepted happens told =
    put_refused w v (put_beside w.media (store_of w) path groups text) e accepted happens.0 told
site_tells w v (site_edits.Remove path) said accepted happens told =
    tells_so true accepted _ (store_of v) told
    (subst (λ (p : World × Bool). made w.media (store_of w) (remove_page path) ≡ Some (store_of p.0)) happens refl)
site_tells w v (site_edits.Move from to) (Ok done) accepted happens told =
    tells_so true accepted _ (store_of v) told (accepted_so w v (moved_beside w.media (store_of w) from to) done happens)
site_tells w v (site_edits.Move from to) (Err e) accepted happens told =
    move_refused w v (moved_beside w.media (store_of w) from to) e accepted happens.0 told

module _ (render drawn : Renders) (same : drawn ≡ render) (edits : List SiteEdit) (i : ℕ) (item : SiteEdit) (less : i < length edits)
    (is : item ≡ get_or edits i item) (w v : World) (outcome : Outcome) (leaves : Leaves drawn w (events.Site item) v outcome) where
  -- what came of an edit tells whether it is made
  pub tells : (accepted : Bool) → is_accepted outcome ≡ Some accepted → Tells accepted (made w.media (store_of w) item) (store_of v)
  tells accepted told = site_tells w v item leaves.0 accepted leaves.1 (ap is_accepted (sym leaves.2) ∙ told)

  pub media_stay : v.media ≡ w.media
  media_stay = ap (λ (x : World). x.media) (one_leaves w v item leaves.0 leaves.1)

  -- ---- a run of them

  -- one edit in front of a run of some
  pub one_more : (u : World) → LeadsByEdits render edits v u → LeadsByEdits render edits w u
  one_more u rest =
      let here : Happened = record { world = w; event = events.Site item; outcome = outcome } in
      record {
        run = here ∷ rest.run;
        runs = first w v u (events.Site item) outcome rest.run
            (subst (λ r. Leaves r w (events.Site item) v outcome) same leaves) rest.runs;
        own = All-cons (λ h. IsOneOf edits h.event) here rest.run (subst (Contains edits) (sym is) (Contains-get_or edits i item less))
            rest.own;
      }

  module _ (all : Option StoreState) (media : Media) (beside : w.media ≡ media)
      (so : all ≡ all_made media (store_of w) (drop i edits)) where
    abbrev behind : Option StoreState → Option StoreState
    behind found = elim found [ None ↦ None | Some next ↦ all_made media next (drop (i + 1) edits) ]

    split : (found : Option StoreState) → made w.media (store_of w) item ≡ found → all ≡ behind found
    split found one =
        so ∙ ap (all_made media (store_of w)) (drop_more edits i item less ∙ ap (λ edit. edit ∷ drop (i + 1) edits) (sym is))
        ∙ ap behind (ap (λ m. made m (store_of w) item) (sym beside) ∙ one)

    -- an edit is made, and the others are left
    pub goes_on : is_accepted outcome ≡ Some true → all ≡ all_made media (store_of v) (drop (i + 1) edits)
    goes_on told = split (Some (store_of v)) (tells true told)

    -- an edit isn't
    pub stops : is_accepted outcome ≡ Some false → all ≡ None
    stops told = split None (tells false told)

pub no_more : (render : Renders) (edits : List SiteEdit) (w : World) → LeadsByEdits render edits w w
no_more render edits w = record { run = []; runs = nothing w; own = All-nil (λ h. IsOneOf edits h.event) }
