-- In any run, each reply is that of a fresh server, while puts are taken.
use Rattle.std.proofs.Common.{◌≡◌, ◌≤◌, ◌+◌, ℕ, List, length, suc, Bool, true, cond, refl, ap, sym, ◌∙◌, subst, arith}
use Rattle.std.specs.Prelude.{nat_lt, Option, Some, None, option_and_then, Result, Ok, Err, All}
use Rattle.std.specs.FinMap as map
use Rattle.std.specs.Cmp.{eq_by_cmp_equiv}
use Rattle.std.specs.Ordering.{nat_cmp}
use Rattle.std.proofs.lemmas.Bool.Decides.{nat_tests}
use Rattle.std.proofs.lemmas.Cmp.{nat_cmp_total}
use Rattle.std.proofs.lemmas.List.Elements.{All-nil, All-cons}
use Rattle.doc_store_readers.specs.declared.reader.Reader.{Reader}
use Rattle.doc_store_readers.specs.Readers.{ReaderTable, find_in, no_readers}
use Rattle.doc_store_readers.specs.Sites.{visible_to}
use Rattle.doc_store.specs.Store.{put_limit}
use Rattle.doc_store_readers.proofs.FindLaws.{nobody_found, who_is_set_is_found}
use Rattle.doc_store_readers.proofs.ViewLaw.{view_of_view}
use Rattle.doc_media.specs.Media.{media_visible_to}
use Rattle.doc_media.proofs.MediaLaws.{media_of_media}
use Rattle.doc_http.specs.Passwords.{token_in}
use Rattle.doc_hub_asking.specs.Asking.{asking_by, guest_of, known_by, known_of, login_of, row_of}
use Rattle.doc_http.specs.Requests.{IsNext}
use Rattle.doc_http.specs.declared.request.Request.{Request}
use Rattle.doc_http.specs.declared.request.Next.{Next}
use Rattle.doc_http.specs.declared.request.Next.TheVariants as nexts
use Rattle.doc_http.proofs.LawLemmas.{read_in_one_way}
use Rattle.doc_hub.specs.Connections.{Connections}
use Rattle.doc_hub_replies.specs.Edits.{puts_left, puts_taken}
use Rattle.doc_hub_events.specs.Events.{stepping, step_refusal}
use Rattle.doc_hub.specs.FreshLaws.{LeavesPut, NewRepliesAsFresh, PutsAreLeft, RepliesAsFresh, SendsAsFresh, SendsAsFreshAlways, StepSays}
use Rattle.doc_hub.specs.FreshLaws.{TakesPut, first_connection, fresh, fresh_for, only_reader}
use Rattle.doc_hub_replies.specs.Replies.{Renders}
use Rattle.doc_hub.specs.Runs.{Happened, Leaves, Runs, nothing, first}
use Rattle.doc_hub.specs.StepLaws.{Agree, AgreeOn, connection, is_owners_put, media_seen, open_with, site_seen}
use Rattle.doc_hub.specs.Worlds.{World, Answers, StepsAt, asking_of, new_world, reader_of, stepped_by, token_of}
use Rattle.doc_hub.specs.declared.connection.Connection.{Connection}
use Rattle.doc_hub_events.specs.declared.event.ConnId.{ConnId}
use Rattle.doc_hub_events.specs.declared.event.Event.{Event}
use Rattle.doc_hub_events.specs.declared.event.Step.{Step}
use Rattle.doc_hub_events.specs.declared.outcome.Outcome.{Outcome}
use Rattle.doc_hub_events.specs.declared.outcome.Outcome.TheVariants as outcomes
use Rattle.doc_hub_events.specs.declared.refusal.Refusal.{Refusal}
use Rattle.doc_hub_events.specs.declared.refusal.StepError.{StepError}
use Rattle.doc_hub_events.specs.declared.refusal.StepError.TheVariants as step_errors
use Rattle.doc_hub.proofs.PutCounts.{counted, puts_are_counted}
use Rattle.doc_hub.proofs.StepLaws.{said_alike, said_of}
use Rattle.doc_hub.proofs.Takings.{taking_stands}

-- ---- the fresh server

-- it has the reader's entry under the same token
found_again : (token : List ℕ) (o : Option Reader) → o ≡ find_in (only_reader (Some token) o) token
found_again token None = sym (nobody_found token)
found_again token (Some reader) = sym (who_is_set_is_found no_readers token reader)

reader_again : (readers : ReaderTable) (token : Option (List ℕ))
    → option_and_then (find_in readers) token ≡ option_and_then (find_in (only_reader token (option_and_then (find_in readers) token))) token
reader_again readers None = refl
reader_again readers (Some token) = found_again token (find_in readers token)

-- the entry of a reader who is known is told again
known_again : (o : Option Reader) → o ≡ known_of (known_by o)
known_again None = refl
known_again (Some row) = refl

-- and who asks is the same there
asking_again : (guest : Option (List (List ℕ))) (login : Bool) (readers : ReaderTable) (value : Option (List ℕ))
    → asking_by guest login readers value
    ≡ asking_by guest login (only_reader (token_in login value) (known_of (asking_by guest login readers value))) value
asking_again guest login readers None = refl
asking_again guest login readers (Some value) =
    let token = token_in login (Some value) in
    ap known_by (reader_again readers token
    ∙ ap (λ o. option_and_then (find_in (only_reader token o)) token) (known_again (option_and_then (find_in readers) token)))

-- a world is alike for a request with its fresh server, where both take a put or no owner puts a page
fresh_agrees : (puts : ℕ) (w : World) (request : Request) (unread : List ℕ)
    → (is_owners_put (reader_of w request) request ≡ true → puts_taken w.takes_puts w.puts ≡ true) → puts_left puts ≡ true
    → Agree w
    (fresh puts (site_seen w request) (media_seen w request) (token_of w request) (known_of (asking_of w request)) w.settings unread) request
fresh_agrees puts w request unread room also =
    let v : World =
    fresh puts (site_seen w request) (media_seen w request) (token_of w request) (known_of (asking_of w request)) w.settings unread in
    let asking : asking_of w request ≡ asking_of v request =
    asking_again (guest_of w.settings.browse) (login_of w.settings.browse) w.readers request.authorization in
    record {
      settings = refl;
      asking = asking;
      sites = sym (view_of_view w.site (reader_of w request)) ∙ ap (λ a. visible_to v.site (row_of a)) asking;
      beside = sym (media_of_media w.media (reader_of w request)) ∙ ap (λ a. media_visible_to v.media (row_of a)) asking;
      puts = λ owns. room owns ∙ sym also;
    }

fresh_agrees_on : (puts : ℕ) (w : World) (unread : List ℕ) (next : Next) → LeavesPut w next → puts_left puts ≡ true
    → AgreeOn w (fresh_for puts w unread next) next
fresh_agrees_on puts w unread nexts.More room also = tt
fresh_agrees_on puts w unread (nexts.Fault code bare) room also = tt
fresh_agrees_on puts w unread (nexts.Request used request) room also = fresh_agrees puts w request unread room also

one_stands : (k : Connection) → map.get (map.insert {R = nat_cmp} map.empty 1 k) 1 ≡ Some k
one_stands k =
    let empty : Connections = map.empty in
    map.get-insert nat_cmp_total empty 1 k 1 ∙ ap (λ b. cond b (Some k) (map.get empty 1)) ((eq_by_cmp_equiv nat_cmp_total).refl 1)

fresh_stands : (puts : ℕ) (w : World) (unread : List ℕ) (next : Next)
    → connection 1 (fresh_for puts w unread next) ≡ Some (open_with unread)
fresh_stands puts w unread nexts.More = one_stands (open_with unread)
fresh_stands puts w unread (nexts.Fault code bare) = one_stands (open_with unread)
fresh_stands puts w unread (nexts.Request used request) = one_stands (open_with unread)

-- ---- what a step says

module _ (render : Renders) (w : World) (c : ConnId) (unread : List ℕ) (next : Next) (said : Step)
    (stands : connection c.0 w ≡ Some (open_with unread)) (begins : IsNext unread next)
    (says : (stepped_by render w c.0 (open_with unread) next).1 ≡ Ok said) where
  world_left : World
  world_left = (stepped_by render w c.0 (open_with unread) next).0

  by_definition : (v : World) (other : Result Step StepError) (found : Next) → IsNext unread found
      → ◌≡◌ {A = World × Result Step StepError} (stepped_by render w c.0 (open_with unread) found) (v, other) → other ≡ Ok said
  by_definition v other found is e =
      sym (ap (λ (q : World × Result Step StepError). q.1) e)
      ∙ ap (λ n. (stepped_by render w c.0 (open_with unread) n).1) (read_in_one_way unread found next is begins) ∙ says

  nothing_else : (v : World) (other : Result Step StepError) → ¬ (other ≡ Err step_errors.Memory)
      → Answers render w c.0 v other (open_with unread) → other ≡ Ok said
  nothing_else v (Ok x) enough (found, is, e) = by_definition v (Ok x) found is e
  nothing_else v (Err step_errors.NoConnection) enough (found, is, e) = by_definition v (Err step_errors.NoConnection) found is e
  nothing_else v (Err step_errors.Memory) enough h = absurd (enough refl)

  pub step_says : StepSays render w c said
  unfolding world_left
  step_says =
      let P : World → Result Step StepError → Option Connection → Type 0 = λ v other k. StepsAt render w c.0 v other k in
      record {
        left = world_left;
        happens = subst (P world_left (Ok said)) (sym stands) (next, begins, (λ i. (world_left, says i)));
        alone = λ v other steps enough. nothing_else v other enough (subst (P v other) stands steps);
      }

-- ---- each event of a run

-- a step that is told as this one is this one
stepped_so : (r : Result Step StepError) (said : Step) → stepping r ≡ outcomes.Stepped said → r ≡ Ok said
stepped_so (Ok step) said e = ap Ok (same_step step said e)
  where
    same_step : (x y : Step) → outcomes.Stepped x ≡ outcomes.Stepped y → x ≡ y
    same_step x y h = cc
stepped_so (Err error) said e = absurd (refused (step_refusal error) e)
  where
    refused : (x : Refusal) → outcomes.Refused x ≡ outcomes.Stepped said → ⊥
    refused x h = cc

sends_as_fresh : (render : Renders) (w v : World) (event : Event) (outcome : Outcome) → Leaves render w event v outcome
    → SendsAsFresh render (record { world = w; event = event; outcome = outcome })
sends_as_fresh render w v event outcome leaves unread next said is room puts also =
    let c = is.c in
    let P : Event → Type 0 = λ e. Leaves render w e v outcome in
    let (r, steps, told) = subst P is.event leaves in
    let Q : Result Step StepError → Type 0 = λ x. StepsAt render w c.0 v x (map.get w.connections c.0) in
    let here = said_of render w v c.0 unread next said is.stands is.begins (subst Q (stepped_so r said (sym told ∙ is.told)) steps) in
    let there = said_alike render w (fresh_for puts w unread next) c.0 1 (open_with unread) (open_with unread) next
    (fresh_agrees_on puts w unread next room also) in
    step_says render (fresh_for puts w unread next) first_connection unread next said (fresh_stands puts w unread next) is.begins
    (sym there ∙ here)

pub replies_as_fresh : RepliesAsFresh
replies_as_fresh render w v run (nothing x) = All-nil (SendsAsFresh render)
replies_as_fresh render w v run (first x y z event outcome rest leaves runs) =
    All-cons (SendsAsFresh render) (record { world = x; event = event; outcome = outcome }) rest
    (sends_as_fresh render x y event outcome leaves) (replies_as_fresh render y z rest runs)

-- ---- from a new server

no_less : (a b n : ℕ) → a ≤ b → nat_lt b n ≡ true → nat_lt a n ≡ true
no_less a b n le lt = grind (arith, nat_tests)

taken_where : (takes : Bool) (puts : ℕ) → takes ≡ true → puts_left puts ≡ true → puts_taken takes puts ≡ true
taken_where takes puts is left = ap (λ t. puts_taken t puts) is ∙ left

always_left : (w : World) (next : Next) → puts_left w.puts ≡ true → TakesPut w next → LeavesPut w next
always_left w nexts.More room takes = tt
always_left w (nexts.Fault code bare) room takes = tt
always_left w (nexts.Request used request) room takes = λ owns. taken_where w.takes_puts w.puts (takes owns) room

at_first : (a n : ℕ) → a ≤ a + n
at_first a n = omega arith

then_more : (a b n : ℕ) → b ≤ a + 1 → b + n ≤ a + suc n
then_more a b n le = omega arith

always_as_fresh : (render : Renders) (w v : World) (run : List Happened) → Runs render w run v
    → nat_lt (w.puts + length run) put_limit ≡ true → All (SendsAsFreshAlways render) run
always_as_fresh render w v run (nothing x) few = All-nil (SendsAsFreshAlways render)
always_as_fresh render w v run (first x y z event outcome rest leaves runs) few =
    let n = length rest in
    All-cons (SendsAsFreshAlways render) (record { world = x; event = event; outcome = outcome }) rest
    (λ unread next said is takes. sends_as_fresh render x y event outcome leaves unread next said is
    (always_left x next (no_less x.puts (x.puts + suc n) put_limit (at_first x.puts (suc n)) few) takes))
    (always_as_fresh render y z rest runs (no_less (y.puts + n) (x.puts + suc n) put_limit
    (then_more x.puts y.puts n (counted render x y event outcome leaves)) few))

none_before : (n : ℕ) → 0 + n ≡ n
none_before n = omega arith

pub new_replies_as_fresh : NewRepliesAsFresh
new_replies_as_fresh render readers settings media v run runs few =
    always_as_fresh render (new_world readers settings media) v run runs (ap (λ n. nat_lt n put_limit) (none_before (length run)) ∙ few)

pub puts_are_left : PutsAreLeft
puts_are_left render readers settings media v run runs few =
    let left = no_less v.puts (length run) put_limit
    (subst (λ n. v.puts ≤ n) (none_before (length run)) (puts_are_counted render (new_world readers settings media) v run runs)) few in
    (left, λ others. taken_where v.takes_puts v.puts (taking_stands render (new_world readers settings media) v run runs others) left)
