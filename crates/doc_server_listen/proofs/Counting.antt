-- How many pages stand behind a run of peers' events, and how long the lines of its edits are.
use Rattle.std.proofs.Common.{◌≡◌, ◌≤◌, ◌+◌, ◌-◌, ◌*◌, ℕ, zero, suc, List, [], ◌∷◌, ◌++◌, length, Bool, true, false, T, cond, refl, ap, sym, ◌∙◌, subst}
use Rattle.std.proofs.Common.{arith, length-append}
use Rattle.std.proofs.lemmas.Bool.Decides.{nat_tests}
use Rattle.std.proofs.lemmas.Cmp.{nat_list_cmp_total}
use Rattle.std.proofs.lemmas.Grind.{flat_map-append}
use Rattle.std.proofs.lemmas.List.Elements.{All-head, All-tail}
use Rattle.std.specs.Prelude.{MatchBool, Option, Some, None, Result, Ok, Err, is_some, nat_le, nat_lt, not, option_to_list, ◌&&◌, ◌||◌}
use Rattle.std.specs.Prelude.{if◌then◌else◌}
use Rattle.std.specs.Cmp.Lexicographic.{slice_cmp}
use Rattle.std.specs.FinMap as map
use Rattle.std.specs.Ordering.{nat_cmp}
use Rattle.doc_page_parts.specs.Refusals.{Gives}
use Rattle.doc_store_readers.specs.Maps.{TextMap}
use Rattle.doc_store_readers.specs.Pages.{Page}
use Rattle.doc_store_readers.specs.Sites.{Site}
use Rattle.doc_store.specs.Store.{fits, page_limit, put_limit, text_limit, with_key_at}
use Rattle.doc_store.specs.declared.site_edit.SiteEdit.{SiteEdit}
use Rattle.doc_store.specs.declared.store.EditError.{EditError}
use Rattle.doc_store.specs.declared.store.EditError.TheVariants.{TooLong, StoreFull}
use Rattle.doc_http.specs.declared.request.Next.{Next}
use Rattle.doc_http.specs.declared.request.Next.TheVariants as nexts
use Rattle.doc_hub.specs.Replies.{Renders}
use Rattle.doc_hub.specs.Edit.{Edit}
use Rattle.doc_hub.specs.Edit.TheVariants as edits
use Rattle.doc_hub_events.specs.Events.{step_on, stepping}
use Rattle.doc_hub_events.specs.declared.event.ConnId.{ConnId}
use Rattle.doc_hub_events.specs.declared.event.ConnectionEvent.TheVariants as calls
use Rattle.doc_hub_events.specs.declared.event.Event.{Event}
use Rattle.doc_hub_events.specs.declared.event.Event.TheVariants as events
use Rattle.doc_hub_events.specs.declared.event.Step.{Step}
use Rattle.doc_hub_events.specs.declared.event.Step.TheVariants as steps
use Rattle.doc_hub_events.specs.declared.outcome.Outcome.{Outcome}
use Rattle.doc_hub_events.specs.declared.refusal.PushError.TheVariants as push_errors
use Rattle.doc_hub_events.specs.declared.refusal.StepError.{StepError}
use Rattle.doc_hub_events.specs.declared.refusal.StepError.TheVariants as step_errors
use Rattle.doc_hub.specs.RunParts.{served_by}
use Rattle.doc_hub.specs.Runs.{Happened, Happens, Leaves, Runs, nothing, first}
use Rattle.doc_hub.specs.StepEdits.{Changes}
use Rattle.doc_hub.specs.Worlds.{World, Answers, Stays, StepsAt, disconnected, stepped_by, world_pushed}
use Rattle.doc_hub.specs.declared.connection.Connection.{Connection}
use Rattle.doc_hub.proofs.ResponsePaths.{AtPaths}
use Rattle.doc_hub.proofs.StepEdits.{steps_change}
use Rattle.doc_hub.proofs.ToldPaths.{told_at_paths}
use Rattle.doc_server_script.specs.PageLines.{line_of, lines_of}
use Rattle.doc_server_listen.specs.Counting.{Counts, EditsAreCounted, IsOfPeer, count_in}
use Rattle.doc_server_listen.specs.Edits.{IsRemoval, MakesIn, accepted, edit_at, left_by, longest_removal}
use Rattle.doc_server_listen.proofs.Removals.{removal_within, tells_removals_alone}

-- ---- how many pages stand

one_back : (m : TextMap Page) (k : List ℕ) (n : ℕ) → map.len m ≡ n → map.contains_key m k ≡ true → n - 1 + 1 ≡ n
one_back m k zero e stands = absurd (subst T (sym stands ∙ ap (λ x. map.contains_key x k) (map.empty_of_len m e)
    ∙ ap is_some (map.get-empty (slice_cmp nat_cmp) k)) tt)
one_back m k (suc n) e stands = omega arith

len_removed : (m : TextMap Page) (k : List ℕ) → map.contains_key m k ≡ true → map.len (map.remove m k) + 1 ≡ map.len m
len_removed m k stands =
    ap (λ n. n + 1) (map.len-remove nat_list_cmp_total m k ∙ ap (λ b. cond b (map.len m - 1) (map.len m)) stands)
    ∙ one_back m k (map.len m) refl stands

few_more : (long few out : Bool) → ◌≡◌ {A = Result (Unit {0}) EditError}
    (if long then Err TooLong else (if few || out then Err StoreFull else Ok tt)) (Ok tt) → few ≡ false
few_more true few out e = absurd (cc)
few_more false true out e = absurd (cc)
few_more false false out e = refl

put_by : (m : TextMap Page) (k : List ℕ) (page : Page) (stands : Bool) → map.contains_key m k ≡ stands
    → (not stands && nat_le page_limit (map.len m)) ≡ false → map.len m ≤ page_limit → map.len (map.insert m k page) ≤ page_limit
put_by m k page true is few le =
    subst (λ n. n ≤ page_limit) (sym (map.len-insert nat_list_cmp_total m k page ∙ ap (λ b. cond b (map.len m) (map.len m + 1)) is)) le
put_by m k page false is few le =
    subst (λ n. n ≤ page_limit) (sym (map.len-insert nat_list_cmp_total m k page ∙ ap (λ b. cond b (map.len m) (map.len m + 1)) is))
    (below (map.len m) page_limit few)
  where
    below : (n m : ℕ) → nat_le m n ≡ false → n + 1 ≤ m
    below n m is = grind (arith, nat_tests)

put_within : (m : TextMap Page) (k text : List ℕ) (page : Page) (puts : ℕ) → fits (map.len m) (map.contains_key m k) puts text ≡ Ok tt
    → map.len m ≤ page_limit → map.len (map.insert m k page) ≤ page_limit
put_within m k text page puts fine = put_by m k page (map.contains_key m k) refl
    (few_more (nat_lt text_limit (length text)) (not (map.contains_key m k) && nat_le page_limit (map.len m)) (nat_le put_limit puts) fine)

moved_within : (m : TextMap Page) (from to : List ℕ) (found : Option Page) → map.contains_key m from ≡ true → map.len m ≤ page_limit
    → map.len (with_key_at m from to found) ≤ page_limit
moved_within m from to None stands le = le
moved_within m from to (Some page) stands le =
    subst (λ n. n ≤ page_limit) (sym (map.len-insert nat_list_cmp_total (map.remove m from) to page))
    (by (map.contains_key (map.remove m from) to))
  where
    by : (t : Bool) → cond t (map.len (map.remove m from)) (map.len (map.remove m from) + 1) ≤ page_limit
    by true = omega (arith, len_removed m from stands, le)
    by false = omega (arith, len_removed m from stands, le)

module _ (w v : World) where
  pages_are : (pages : TextMap Page) → v.site.pages ≡ pages → map.len pages ≤ page_limit → count_in v ≤ page_limit
  pages_are pages is le = subst (λ (m : TextMap Page). map.len m ≤ page_limit) (sym is) le

  limit_by : (told : Option Edit) → Changes w told v → count_in w ≤ page_limit → count_in v ≤ page_limit
  limit_by None changes le = pages_are w.site.pages (ap (λ (s : Site). s.pages) changes) le
  limit_by (Some (edits.Put path groups)) changes le =
      pages_are (map.insert w.site.pages path changes.page) (ap (λ (s : Site). s.pages) changes.site)
      (put_within w.site.pages path changes.page.text changes.page w.puts changes.fits le)
  limit_by (Some (edits.Regroup path groups)) changes le =
      pages_are (map.insert w.site.pages path (record changes.page { groups = groups })) (ap (λ (s : Site). s.pages) changes.site)
      (put_within w.site.pages path changes.page.text (record changes.page { groups = groups }) w.puts changes.fits le)
  limit_by (Some (edits.Move from to)) changes le =
      pages_are (with_key_at w.site.pages from to (map.get w.site.pages from)) (ap (λ (s : Site). s.pages) changes.site)
      (moved_within w.site.pages from to (map.get w.site.pages from) changes.stood le)
  limit_by (Some (edits.Remove path)) changes le =
      pages_are (map.remove w.site.pages path) (ap (λ (s : Site). s.pages) changes.site)
      (omega (arith, len_removed w.site.pages path changes.stood, le))

  removes_by : (told : Option Edit) → Changes w told v → IsRemoval told
      → count_in v + length (option_to_list (edit_at v told)) ≡ count_in w
  removes_by None changes alone = omega (arith, ap (λ (s : Site). map.len s.pages) changes)
  removes_by (Some (edits.Put path groups)) changes alone = absurd alone
  removes_by (Some (edits.Regroup path groups)) changes alone = absurd alone
  removes_by (Some (edits.Move from to)) changes alone = absurd alone
  removes_by (Some (edits.Remove path)) changes alone =
      ap (λ (s : Site). map.len s.pages + 1) changes.site ∙ len_removed w.site.pages path changes.stood

  short_by : (told : Option Edit) → AtPaths told → IsRemoval told
      → length (lines_of (option_to_list (edit_at v told))) ≤ longest_removal * length (option_to_list (edit_at v told))
  short_by None at alone = omega arith
  short_by (Some (edits.Put path groups)) at alone = absurd alone
  short_by (Some (edits.Regroup path groups)) at alone = absurd alone
  short_by (Some (edits.Move from to)) at alone = absurd alone
  short_by (Some (edits.Remove path)) at alone = omega (arith, removal_within v (Some (edits.Remove path)) alone at)

-- ---- an event

by_gives : {X E : Type 0} (P : World → Type 0) (memory : E) (given : World × Result X E) (w v : World) (r : Result X E) → P w
    → P given.0 → Gives memory given w v r → P v
by_gives {X = X} {E = E} P memory given w v (Ok x) before after gives = subst (λ (q : World × Result X E). P q.0) gives after
by_gives P memory given w v (Err e) before after gives = subst P (sym gives.1) before

pub by_equation : {S : Type 0} (P : World → Type 0) (given : World × S) (v : World) (said : S) → P given.0
    → ◌≡◌ {A = World × S} given (v, said) → P v
by_equation {S = S} P given v said after is = subst (λ (q : World × S). P q.0) is after

abbrev Takes : World → World → Type 0
Takes w v = v.takes_puts ≡ w.takes_puts

abbrev Stands : World → World → Type 0
Stands w v = (v.site ≡ w.site) × Takes w v

counts_none : (w v : World) → Stands w v → Counts w v []
counts_none w v (site, taking) = let same = ap (λ (s : Site). map.len s.pages) site in record {
  limit = λ le. subst (λ n. n ≤ page_limit) (sym same) le;
  taking = taking;
  removes = λ off. omega (arith, same);
  short = λ off. omega arith;
}

module _ (render : Renders) (w v : World) (n : ℕ) where
  front_takes : (c : Connection) (next : Next) → Takes w (stepped_by render w n c next).0
  front_takes c nexts.More = refl
  front_takes c (nexts.Fault code bare) = refl
  front_takes c (nexts.Request used request) = refl

  answers_take : (c : Connection) (r : Result Step StepError) → Answers render w n v r c → Takes w v
  answers_take c (Ok said) (next, is, e) = by_equation (Takes w) (stepped_by render w n c next) v (Ok said) (front_takes c next) e
  answers_take c (Err step_errors.NoConnection) (next, is, e) =
      by_equation (Takes w) (stepped_by render w n c next) v (Err step_errors.NoConnection) (front_takes c next) e
  answers_take c (Err step_errors.Memory) h = ap (λ (x : World). x.takes_puts) h.0

  open_takes : (c : Connection) (r : Result Step StepError) (closed : Bool)
      → MatchBool closed (Stays w (Ok steps.Closed) v r) (Answers render w n v r c) → Takes w v
  open_takes c r true h = ap (λ (x : World). x.takes_puts) h.0
  open_takes c r false h = answers_take c r h

  step_takes : (k : Option Connection) (r : Result Step StepError) → StepsAt render w n v r k → Takes w v
  step_takes None r h = ap (λ (x : World). x.takes_puts) h.0
  step_takes (Some c) r h = open_takes c r c.closed h

module _ (render : Renders) (w v : World) where
  step_counts : (id : ConnId) (said : Result Step StepError) (edit : Option SiteEdit) → Happens render w (step_on id) v said
      → MakesIn render w (step_on id) (stepping said) v edit → Counts w v (option_to_list edit)
  step_counts id (Ok said) edit h (told, tells, is) =
      let changes : Changes w told v = steps_change.answered render w v id said told h tells in
      subst (λ (e : Option SiteEdit). Counts w v (option_to_list e)) (sym is) (record {
        limit = limit_by w v told changes;
        taking = step_takes render w v id.0 (map.get w.connections id.0) (Ok said) h;
        removes = λ off. removes_by w v told changes (tells_removals_alone render w id.0 told off tells);
        short = λ off. short_by w v told (told_at_paths render w told (map.get w.connections id.0) tells)
            (tells_removals_alone render w id.0 told off tells);
      })
  step_counts id (Err e) edit h none =
      subst (λ (e : Option SiteEdit). Counts w v (option_to_list e)) (sym none)
      (counts_none w v (steps_change.refused render w v id e h, step_takes render w v id.0 (map.get w.connections id.0) (Err e) h))

  no_peer : (event : Event) → served_by event ≡ None → ((c : ℕ) × (served_by event ≡ Some c)) → ⊥
  no_peer event none (c, is) = none_some c (sym none ∙ is)
    where
      none_some : (c : ℕ) → ◌≡◌ {A = Option ℕ} None (Some c) → ⊥
      none_some c e = cc

  event_counts : (event : Event) (outcome : Outcome) (edit : Option SiteEdit) → (c : ℕ) × (served_by event ≡ Some c)
      → Leaves render w event v outcome → MakesIn render w event outcome v edit → Counts w v (option_to_list edit)
  event_counts (events.On id (calls.Push bytes)) outcome edit peer (said, h, told) none =
      subst (λ (e : Option SiteEdit). Counts w v (option_to_list e)) (sym none)
      (counts_none w v (by_gives (Stands w) push_errors.Memory (world_pushed w id.0 bytes) w v said (refl, refl) (refl, refl) h))
  event_counts (events.On id calls.Step) outcome edit peer (said, h, told) makes =
      step_counts id said edit h (subst (λ o. MakesIn render w (step_on id) o v edit) told makes)
  event_counts (events.On id calls.Disconnect) outcome edit peer (said, h, told) none =
      subst (λ (e : Option SiteEdit). Counts w v (option_to_list e)) (sym none)
      (counts_none w v (by_equation (Stands w) (disconnected w id.0) v said (refl, refl) h))
  event_counts events.Connect outcome edit peer leaves makes = absurd (no_peer events.Connect refl peer)
  event_counts (events.Site asked) outcome edit peer leaves makes = absurd (no_peer (events.Site asked) refl peer)
  event_counts (events.Reader asked) outcome edit peer leaves makes = absurd (no_peer (events.Reader asked) refl peer)
  event_counts (events.TakePuts takes) outcome edit peer leaves makes = absurd (no_peer (events.TakePuts takes) refl peer)
  event_counts (events.SetMedia media) outcome edit peer leaves makes = absurd (no_peer (events.SetMedia media) refl peer)

-- ---- a run

counts_join : (w v u : World) (xs ys : List SiteEdit) → Counts w v xs → Counts v u ys → Counts w u (xs ++ ys)
counts_join w v u xs ys one two = record {
  limit = λ le. two.limit (one.limit le);
  taking = two.taking ∙ one.taking;
  removes = λ off. omega (arith, length-append xs ys, one.removes off, two.removes (one.taking ∙ off));
  short = λ off.
      sum (length (lines_of xs)) (length (lines_of ys)) (length (lines_of (xs ++ ys))) (length xs) (length ys) (length (xs ++ ys))
      longest_removal (ap length (flat_map-append line_of xs ys) ∙ length-append (lines_of xs) (lines_of ys)) (length-append xs ys)
      (one.short off) (two.short (one.taking ∙ off));
}
  where
    sum : (a b c n m k most : ℕ) → c ≡ a + b → k ≡ n + m → a ≤ most * n → b ≤ most * m → c ≤ most * k
    sum a b c n m k most is also one two =
        subst (λ l. c ≤ l) (sym (ap (λ l. most * l) also ∙ distributed most n m)) (omega (arith, is, one, two))
      where
        distributed : (x y z : ℕ) → x * (y + z) ≡ x * y + x * z
        distributed x y z = grind (arith)

-- a run begins in the world that the event before it left
starts : (render : Renders) (v u : World) (ys : List Happened) → Runs render v ys u → left_by ys u ≡ v
starts render v u ys (nothing x) = refl
starts render v u ys (first x y z event outcome rest happens runs) = refl

pub edits_are_counted : EditsAreCounted
edits_are_counted render w v run [] (nothing x) peers made = counts_none w w (refl, refl)
edits_are_counted render w v run (edit ∷ edits) (nothing x) peers made = absurd made
edits_are_counted render w v run [] (first x y z event outcome rest leaves runs) peers made = absurd made
edits_are_counted render w v run (edit ∷ edits) (first x y z event outcome rest leaves runs) peers made =
    let here : Happened = record { world = x; event = event; outcome = outcome } in
    counts_join x y z (option_to_list edit) (accepted edits)
    (event_counts render x y event outcome edit (All-head IsOfPeer here rest peers) leaves
    (subst (λ u. MakesIn render x event outcome u edit) (starts render y z rest runs) made.0))
    (edits_are_counted render y z rest edits runs (All-tail IsOfPeer here rest peers) made.1)
