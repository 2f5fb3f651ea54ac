-- One edit that is made on a hub, of those of another server.
use Rattle.std.proofs.Common.{◌≡◌, ℕ, List, [], ◌∷◌, Bool, true, false, refl, ap, sym, subst, ◌∙◌}
use Rattle.std.specs.Prelude.{Option, Some, None, IfSome, is_some, option_map, Result, Ok, Err}
use Rattle.std.proofs.lemmas.List.Elements.{All-nil, All-cons}
use Rattle.doc_page_parts.specs.Refusals.{Gives, IsAnswer}
use Rattle.doc_hub.specs.Replies.{Renders}
use Rattle.doc_hub_events.specs.Events.{SaidSite, outcome_of_site}
use Rattle.doc_hub_events.specs.declared.event.Event.TheVariants as events
use Rattle.doc_hub.specs.Runs.{Happened, HappensSite, first, nothing}
use Rattle.doc_hub.specs.Worlds.{World, moved_beside, put_beside, store_of, with_store, world_moved, world_put}
use Rattle.doc_server_network.specs.Followings.{EditsAlone, IsEdited}
use Rattle.doc_server_network.specs.declared.saved_hub.SavedHub.{SavedHub}
use Rattle.doc_server_reload.specs.ReplyLaws.{IsSiteEdit}
use Rattle.doc_server_restore.specs.Restores.{made, unstamped}
use Rattle.doc_server_script.specs.Replays.{unless_refused}
use Rattle.doc_store.specs.Store.{StoreState, move_page, remove_page, set_page}
use Rattle.doc_store.specs.declared.moving.MoveError.{MoveError}
use Rattle.doc_store.specs.declared.moving.MoveError.TheVariants as move_errors
use Rattle.doc_store.specs.declared.site_edit.SiteEdit.{SiteEdit}
use Rattle.doc_store.specs.declared.site_edit.SiteEdit.TheVariants as site_edits
use Rattle.doc_store.specs.declared.store.EditError.{EditError}
use Rattle.doc_store.specs.declared.store.EditError.TheVariants as edit_errors
use Rattle.doc_store.specs.declared.store.Put.{Put}

-- ---- what becomes of the store

accepted_so : {X E : Type 0} (w v : World) (r : StoreState × Result X E) (x : X)
    → ◌≡◌ {A = World × Result X E} (with_store w r.0, r.1) (v, Ok x)
    → option_map unstamped (unless_refused r.0 r.1) ≡ Some (store_of v)
accepted_so w v r x is =
    ap (λ said. option_map unstamped (unless_refused r.0 said)) (ap (λ p. p.1) is) ∙ ap (λ p. Some (store_of p.0)) is

refused_so : {X E : Type 0} (memory e : E) (store : StoreState) (said : Result X E) → IsAnswer memory said (Err e) → (e ≡ memory → ⊥)
    → option_map unstamped (unless_refused store said) ≡ None
refused_so memory e store (Ok x) is short = absurd (short is)
refused_so memory e store (Err f) is short = refl

module _ (w v : World) where
  pub put_made : (path : List ℕ) (groups : List (List ℕ)) (text : List ℕ) (done : Put)
      → HappensSite w (site_edits.Put path groups text) v (Ok done)
      → made w.media (store_of w) (set_page path (record { groups = groups; text = text })) ≡ Some (store_of v)
  put_made path groups text done happens = accepted_so w v (put_beside w.media (store_of w) path groups text) done happens

  pub put_unmade : (path : List ℕ) (groups : List (List ℕ)) (text : List ℕ) (e : EditError) → (e ≡ edit_errors.Memory → ⊥)
      → HappensSite w (site_edits.Put path groups text) v (Err e)
      → made w.media (store_of w) (set_page path (record { groups = groups; text = text })) ≡ None
  put_unmade path groups text e short happens =
      refused_so edit_errors.Memory e (put_beside w.media (store_of w) path groups text).0
      (put_beside w.media (store_of w) path groups text).1 happens.0 short

  pub removal_made : (path : List ℕ) (said : Bool) → HappensSite w (site_edits.Remove path) v said
      → made w.media (store_of w) (remove_page path) ≡ Some (store_of v)
  removal_made path said happens =
      subst (λ (p : World × Bool). made w.media (store_of w) (remove_page path) ≡ Some (store_of p.0)) happens refl

  pub move_made : (from to : List ℕ) (done : Unit {0}) → HappensSite w (site_edits.Move from to) v (Ok done)
      → made w.media (store_of w) (move_page from to) ≡ Some (store_of v)
  move_made from to done happens = accepted_so w v (moved_beside w.media (store_of w) from to) done happens

  pub move_unmade : (from to : List ℕ) (e : MoveError) → (e ≡ move_errors.Memory → ⊥)
      → HappensSite w (site_edits.Move from to) v (Err e) → made w.media (store_of w) (move_page from to) ≡ None
  move_unmade from to e short happens =
      refused_so move_errors.Memory e (moved_beside w.media (store_of w) from to).0
      (moved_beside w.media (store_of w) from to).1 happens.0 short

-- ---- what becomes of the hub

abbrev HasStoreOf : World → World → Type 0
HasStoreOf w v = v ≡ with_store w (store_of v)

by_gives : {X E : Type 0} (memory : E) (w v : World) (given : World × Result X E) (r : Result X E) → HasStoreOf w given.0
    → Gives memory given w v r → HasStoreOf w v
by_gives {X = X} {E = E} memory w v given (Ok x) has gives = subst (λ (q : World × Result X E). HasStoreOf w q.0) gives has
by_gives memory w v given (Err e) has gives = subst (HasStoreOf w) (sym gives.1) refl

one_leaves : (w v : World) (edit : SiteEdit) (said : SaidSite edit) → HappensSite w edit v said → HasStoreOf w v
one_leaves w v (site_edits.Put path groups text) said h = by_gives edit_errors.Memory w v (world_put w path groups text) said refl h
one_leaves w v (site_edits.Remove path) said h = subst (λ (q : World × Bool). HasStoreOf w q.0) h refl
one_leaves w v (site_edits.Move from to) said h = by_gives move_errors.Memory w v (world_moved w from to) said refl h

one_edit : (render : Renders) (w v : World) (edit : SiteEdit) (said : SaidSite edit) → HappensSite w edit v said → EditsAlone render w v
one_edit render w v edit said happens =
    let h : Happened = record { world = w; event = events.Site edit; outcome = outcome_of_site edit said } in
    record {
      run = h ∷ [];
      runs = first w v v (events.Site edit) (outcome_of_site edit said) [] (said, happens, refl) (nothing v);
      own = All-cons IsSiteEdit h [] (edit, refl) (All-nil IsSiteEdit);
    }

pub no_edits : (render : Renders) (w : World) → EditsAlone render w w
no_edits render w = record { run = []; runs = nothing w; own = All-nil IsSiteEdit }

pub edited : {D R : Type 0} (render drawn : Renders) (a b : SavedHub D R) (edit : SiteEdit) (said : SaidSite edit) → drawn ≡ render
    → b.journal ≡ a.journal → b.unsaved ≡ a.unsaved → HappensSite a.hub.1 edit b.hub.1 said → IsEdited render drawn a b
edited render drawn a b edit said same journal unsaved happens = record {
  page = same;
  edits = one_edit render a.hub.1 b.hub.1 edit said happens;
  others = one_leaves a.hub.1 b.hub.1 edit said happens;
  journal = journal;
  unsaved = unsaved;
}

-- ---- where no journal is kept

pub none_stands : {A : Type 0} (x : Option A) (P : A → Type 0) → is_some x ≡ false → IfSome x P
none_stands None P is = tt
none_stands (Some a) P is = cc

pub is_none : {A : Type 0} (x : Option A) → is_some x ≡ false → x ≡ None
is_none None is = refl
is_none (Some a) is = cc

pub not_both : (b : Bool) → b ≡ false → b ≡ true → ⊥
not_both true is was = cc
not_both false is was = cc
