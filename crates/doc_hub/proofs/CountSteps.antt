-- How often texts are rendered, event by event.
use Rattle.std.proofs.Common.{◌≡◌, ◌+◌, ◌++◌, ◌∷◌, [], ℕ, List, Bool, true, false, ap, sym, ◌∙◌, subst, refl, arith}
use Rattle.std.specs.Prelude.{◌||◌, Some, None, Result, Ok, Err, nat_lt, if◌then◌else◌}
use Rattle.std.specs.FinMap as map
use Rattle.std.specs.List.{list_any}
use Rattle.doc_page_parts.specs.Refusals.{Gives}
use Rattle.doc_hub_replies.specs.Shelves.{rendered_for}
use Rattle.doc_store_readers.specs.Pages.{Page}
use Rattle.doc_store.specs.Store.{StoreState, move_page, moved_by, put_by, remove_page, set_page}
use Rattle.doc_store.specs.declared.moving.MoveError.{MoveError}
use Rattle.doc_store.specs.declared.moving.MoveError.TheVariants as move_errors
use Rattle.doc_store.specs.declared.store.EditError.{EditError}
use Rattle.doc_store.specs.declared.store.EditError.TheVariants as edit_errors
use Rattle.doc_store.specs.declared.store.Put.{Put}
use Rattle.doc_store.proofs.StoreSteps.{taken_out}
use Rattle.doc_hub.specs.Counts.{AllTally, Counted, CountedAll, CountsFor, CountsOn, CountsSite, Previews, Tallies, moves_in_edit, ran_out}
use Rattle.doc_hub_replies.specs.Counts.{RendersPuts}
use Rattle.doc_hub.specs.EditLaws.{Makes, made_if}
use Rattle.doc_hub_events.specs.Events.{Said, SaidOn, SaidSite, moving, outcome_of, outcome_of_site, outcome_on, putting}
use Rattle.doc_hub_replies.specs.Replies.{Renders}
use Rattle.doc_hub.specs.Runs.{Happened, Happens, HappensOn, HappensSite, Leaves, nothing}
use Rattle.doc_hub.specs.Worlds.{World, connected, last_id, may_move_beside, may_put, store_of, with_store, world_pushed}
use Rattle.doc_hub_events.specs.declared.event.ConnId.{ConnId}
use Rattle.doc_store.specs.declared.site_edit.SiteEdit.{SiteEdit}
use Rattle.doc_store.specs.declared.site_edit.SiteEdit.TheVariants as site_edits
use Rattle.doc_hub_events.specs.declared.event.ConnectionEvent.{ConnectionEvent}
use Rattle.doc_hub_events.specs.declared.event.ConnectionEvent.TheVariants as calls
use Rattle.doc_hub_events.specs.declared.event.Event.{Event}
use Rattle.doc_hub_events.specs.declared.event.Event.TheVariants as events
use Rattle.doc_hub_events.specs.declared.outcome.Outcome.{Outcome}
use Rattle.doc_hub_events.specs.declared.refusal.ConnectError.TheVariants as connect_errors
use Rattle.doc_hub_events.specs.declared.refusal.PushError.TheVariants as push_errors
use Rattle.doc_hub.proofs.KindSteps.{stand_beside}
use Rattle.doc_hub.proofs.PutCounts.{connected_if}
use Rattle.doc_hub.proofs.RunSteps.{happened, one_more_event}

-- ---- numbers

idle : (rendered rendered' puts puts' : ℕ) → rendered' ≡ rendered → puts' ≡ puts → RendersPuts rendered puts rendered' puts' 0 0
idle rendered rendered' puts puts' same stay = omega arith

one_put : (rendered rendered' puts puts' : ℕ) → rendered' ≡ rendered + 1 → puts' ≡ puts + 1 → RendersPuts rendered puts rendered' puts' 0 0
one_put rendered rendered' puts puts' more put = omega arith

one_move : (rendered rendered' puts puts' : ℕ) → rendered' ≡ rendered → puts' ≡ puts + 1 → RendersPuts rendered puts rendered' puts' 1 0
one_move rendered rendered' puts puts' same moved = omega arith

plus_none : (rendered rendered' n : ℕ) → rendered' ≡ rendered + n → n ≡ 0 → rendered' ≡ rendered
plus_none rendered rendered' n is none = omega arith

-- ---- what calls leave of the number of puts and moves

gives_same : {X E : Type 0} (memory : E) (given : World × Result X E) (w v : World) (r : Result X E) → given.0.puts ≡ w.puts
    → Gives memory given w v r → v.puts ≡ w.puts
gives_same {X = X} {E = E} memory given w v (Ok x) same gives = sym (ap (λ (q : World × Result X E). q.0.puts) gives) ∙ same
gives_same memory given w v (Err e) same gives = ap (λ (x : World). x.puts) gives.1

connect_same : (w : World) (t : Bool) → (connected_if w t).0.puts ≡ w.puts
connect_same w true = refl
connect_same w false = refl

removed_same : (store : StoreState) (path : List ℕ) (stands : Bool) → (if stands then taken_out store path else store).puts ≡ store.puts
removed_same store path true = refl
removed_same store path false = refl

ok_err : {X E : Type 0} (x : X) (e : E) → ◌≡◌ {A = Result X E} (Err e) (Ok x) → ⊥
ok_err x e is = cc

removal_moves : (path : List ℕ) (stood : Bool) → 0 ≡ moves_in_edit (made_if stood (remove_page path))
removal_moves path true = refl
removal_moves path false = refl

abbrev put_on : World → List ℕ → Page → Bool → Result (Unit {0}) EditError → World × Result Put EditError
put_on w path page stands fits = let r = put_by (store_of w) path page stands fits in (with_store w r.0, r.1)

-- ---- each event

module _ (render : Renders) (rendered rendered' : ℕ) (w v : World) where
  abbrev CountedHere : Event → Outcome → Type 0
  CountedHere event outcome = Counted render rendered w rendered' v event outcome

  -- an event that makes no edit, shows nothing, and leaves the number of puts
  pub quiet : (event : Event) (outcome : Outcome) → Makes render w event outcome None → Previews w event outcome 0 → rendered' ≡ rendered
      → v.puts ≡ w.puts → CountedHere event outcome
  quiet event outcome none unseen same stay ran = (
    0,
    0,
    record { edit = None; made = none; moved = refl; shown = unseen },
    idle rendered rendered' w.puts v.puts same stay,
  )

  put_counts : (path : List ℕ) (page : Page) (stands : Bool) (fits : Result (Unit {0}) EditError) (said : Result Put EditError)
      → Gives edit_errors.Memory (put_on w path page stands fits) w v said → rendered' ≡ rendered + rendered_for fits
      → CountedHere (events.Site (set_page path page)) (putting said)
  put_counts path page stands (Ok fine) (Ok done) gives more ran = (
    0,
    0,
    record { edit = Some (set_page path page); made = refl; moved = refl; shown = refl },
    one_put rendered rendered' w.puts v.puts more (sym (ap (λ (q : World × Result Put EditError). q.0.puts) gives)),
  )
  put_counts path page stands (Err f) (Ok done) gives more ran =
      absurd (ok_err done f (ap (λ (q : World × Result Put EditError). q.1) gives))
  put_counts path page stands (Ok fine) (Err e) gives more ran =
      absurd (true_false (sym (ap (λ f. ran_out (putting (Err f))) gives.0) ∙ ran))
    where
      true_false : true ≡ false → ⊥
      true_false is = cc
  put_counts path page stands (Err f) (Err e) gives more ran =
      quiet (events.Site (set_page path page)) (putting (Err e)) refl refl (plus_none rendered rendered' 0 more refl)
      (ap (λ (x : World). x.puts) gives.1) ran

  move_counts : (from to : List ℕ) (may : Result (Unit {0}) MoveError) (said : Result (Unit {0}) MoveError)
      → Gives move_errors.Memory (let r = moved_by (store_of w) from to may in (with_store w r.0, r.1)) w v said → rendered' ≡ rendered
      → CountedHere (events.Site (move_page from to)) (moving said)
  move_counts from to (Ok fine) (Ok done) gives same ran = (
    1,
    0,
    record { edit = Some (move_page from to); made = refl; moved = refl; shown = refl },
    one_move rendered rendered' w.puts v.puts same (sym (ap (λ (q : World × Result (Unit {0}) MoveError). q.0.puts) gives)),
  )
  move_counts from to (Err f) (Ok done) gives same ran =
      absurd (ok_err done f (ap (λ (q : World × Result (Unit {0}) MoveError). q.1) gives))
  move_counts from to may (Err e) gives same ran =
      quiet (events.Site (move_page from to)) (moving (Err e)) refl refl same (ap (λ (x : World). x.puts) gives.1) ran

  removal_counts : (path : List ℕ) (stood : Bool) → HappensSite w (site_edits.Remove path) v stood → rendered' ≡ rendered
      → CountedHere (events.Site (remove_page path)) (outcome_of_site (remove_page path) stood)
  removal_counts path stood h same ran = (
    0,
    0,
    record { edit = made_if stood (remove_page path); made = refl; moved = removal_moves path stood; shown = refl },
    idle rendered rendered' w.puts v.puts same
        (sym (ap (λ (q : World × Bool). q.0.puts) h) ∙ removed_same (store_of w) path (map.contains_key w.site.pages path)),
  )

  on_counts : (id : ConnId) (call : ConnectionEvent) (said : SaidOn call) → HappensOn render w id.0 call v said
      → CountsOn render rendered w rendered' v id call said → CountedHere (events.On id call) (outcome_on call said)
  on_counts id (calls.Push bytes) said h same =
      quiet (events.On id (calls.Push bytes)) (outcome_on (calls.Push bytes) said) refl refl same
      (gives_same push_errors.Memory (world_pushed w id.0 bytes) w v said refl h)
  on_counts id calls.Step said h counts = counts
  on_counts id calls.Disconnect said h same =
      quiet (events.On id calls.Disconnect) (outcome_on calls.Disconnect said) refl refl same
      (sym (ap (λ (q : World × Bool). q.0.puts) h))

  site_counts : (edit : SiteEdit) (said : SaidSite edit) → HappensSite w edit v said → CountsSite rendered w rendered' edit
      → CountedHere (events.Site edit) (outcome_of_site edit said)
  site_counts (site_edits.Put path groups text) said h more =
      put_counts path (record { groups = groups; text = text }) (map.contains_key w.site.pages path)
      (may_put w.media (store_of w) path text) said
      h more
  site_counts (site_edits.Remove path) said h same = removal_counts path said h same
  site_counts (site_edits.Move from to) said h same = move_counts from to (may_move_beside w.media (store_of w) from to) said h same

  event_counts : (event : Event) (said : Said event) → Happens render w event v said → CountsFor render rendered w rendered' v event said
      → CountedHere event (outcome_of event said)
  event_counts events.Connect said h same =
      quiet events.Connect (outcome_of events.Connect said) refl refl same
      (gives_same connect_errors.Memory (connected w) w v said (connect_same w (nat_lt w.given last_id)) h)
  event_counts (events.On id call) said h counts = on_counts id call said h counts
  event_counts (events.Site edit) said h counts = site_counts edit said h counts
  event_counts (events.Reader edit) said h same =
      quiet (events.Reader edit) (outcome_of (events.Reader edit) said) refl refl same
      (stand_beside render w v (events.Reader edit) said tt h).puts
  event_counts (events.TakePuts takes) said h same =
      quiet (events.TakePuts takes) (outcome_of (events.TakePuts takes) said) refl refl same
      (stand_beside render w v (events.TakePuts takes) said tt h).puts
  event_counts (events.SetMedia media) said h same =
      quiet (events.SetMedia media) (outcome_of (events.SetMedia media) said) refl refl same
      (stand_beside render w v (events.SetMedia media) said tt h).puts

  -- the same as a run tells it
  pub counted_same : (event same : Event) (outcome : Outcome) → event ≡ same → CountedHere same outcome → CountedHere event outcome
  counted_same event same outcome is counts = subst (λ e. CountedHere e outcome) (sym is) counts

  pub counted_so : (event same : Event) (outcome : Outcome) (said : Said same) → event ≡ same → Happens render w same v said
      → CountsFor render rendered w rendered' v same said → outcome ≡ outcome_of same said → CountedHere event outcome
  counted_so event same outcome said is h counts told =
      counted_same event same outcome is (subst (CountedHere same) (sym told) (event_counts same said h counts))

-- the same of what is equal
pub counted_by : (first render : Renders) (before rendered rendered' : ℕ) (u w v : World) (event : Event) (outcome : Outcome)
    → first ≡ render → before ≡ rendered → u ≡ w → Counted first before u rendered' v event outcome
    → Counted render rendered w rendered' v event outcome
counted_by first render before rendered rendered' u w v event outcome same also is counts =
    subst (λ r. Counted r rendered w rendered' v event outcome) same
    (subst (λ n. Counted first n w rendered' v event outcome) also
    (subst (λ x. Counted first before x rendered' v event outcome) is counts))

-- ---- runs

or_parts : (a b : Bool) → (a || b) ≡ false → (a ≡ false) × (b ≡ false)
or_parts true b is = absurd (unlike is)
  where
    unlike : true ≡ false → ⊥
    unlike e = cc
or_parts false b is = (refl, is)

any_parts : (told : List Outcome) (last : Outcome) → list_any ran_out (told ++ last ∷ []) ≡ false
    → (list_any ran_out told ≡ false) × (ran_out last ≡ false)
any_parts [] last is = (refl, (or_parts (ran_out last) false is).0)
any_parts (first ∷ told) last is =
    let (here, rest) = or_parts (ran_out first) (list_any ran_out (told ++ last ∷ [])) is in
    let (before, behind) = any_parts told last rest in
    (ap (λ b. b || list_any ran_out told) here ∙ before, behind)

only_one : (m k : ℕ) → k ≡ 0 → k + m ≡ m + 0
only_one m k none = omega arith

added : (all m k n : ℕ) → all ≡ m + k → all + n ≡ m + (k + n)
added all m k n is = omega arith

-- one event more at the end
tally_more : (render : Renders) (run : List Happened) (last : Happened) (moves previews m n : ℕ) → AllTally render run moves previews
    → Tallies render last.world last.event last.outcome m n → AllTally render (run ++ last ∷ []) (moves + m) (previews + n)
tally_more render [] last moves previews m n none here =
    (m, n, 0, 0, here, (refl, refl), only_one m moves none.0, only_one n previews none.1)
tally_more render (h ∷ run) last moves previews m n (a, b, k, l, first, rest, is, also) here =
    (a, b, k + m, l + n, first, tally_more render run last k l m n rest here, added moves a k m is, added previews b l n also)

both : (before so_far after accepted accepted' accepted'' moves previews m n : ℕ)
    → RendersPuts before accepted so_far accepted' moves previews → RendersPuts so_far accepted' after accepted'' m n
    → RendersPuts before accepted after accepted'' (moves + m) (previews + n)
both before so_far after accepted accepted' accepted'' moves previews m n here last = omega arith

-- before the first event
pub no_events : (render : Renders) (rendered : ℕ) (w : World) (told : List Outcome) → told ≡ []
    → CountedAll render [] rendered w rendered w told
no_events render rendered w told none = record {
  all = record { run = []; runs = nothing w; all = refl; told = sym none };
  moves = 0;
  previews = 0;
  tallied = (refl, refl);
  renders = idle rendered rendered w.puts w.puts refl refl;
}

-- one event more
pub run_counts : (render here : Renders) (before so_far after : ℕ) (w u v : World) (events more : List Event) (outcomes told : List Outcome)
    (event : Event) (outcome : Outcome)
    → here ≡ render → (list_any ran_out outcomes ≡ false → CountedAll render events before w so_far u outcomes)
    → Leaves here u event v outcome → Counted here so_far u after v event outcome → more ≡ events ++ event ∷ []
    → told ≡ outcomes ++ outcome ∷ [] → list_any ran_out told ≡ false → CountedAll render more before w after v told
unfolding one_more_event
run_counts render here before so_far after w u v events more outcomes told event outcome same counts leaves last taken is ran =
    let (none, fine) = any_parts outcomes outcome (sym (ap (list_any ran_out) is) ∙ ran) in
    let first = counts none in
    let P : Renders → Type 0 = λ r. Counted r so_far u after v event outcome in
    let (m, n, tallies, renders) = subst P same last fine in
    record {
      all = one_more_event render here w u v events more outcomes told event outcome same first.all leaves taken is;
      moves = first.moves + m;
      previews = first.previews + n;
      tallied = tally_more render first.all.run (happened u event outcome) first.moves first.previews m n first.tallied tallies;
      renders = both before so_far after w.puts u.puts v.puts first.moves first.previews m n first.renders renders;
    }
