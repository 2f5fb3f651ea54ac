-- Connections that are made one after another.
use Rattle.std.proofs.Common.{◌≡◌, ◌<◌, ◌≤◌, ℕ, suc, ◌+◌, List, [], ◌∷◌, ◌++◌, Bool, true, false, cond, T, length, refl, sym, ap, ◌∙◌, subst, ◌==◌, arith}
use Rattle.std.specs.Prelude.{Some, Result, Ok, Err, is_ok, nat_lt, if◌then◌else◌}
use Rattle.std.specs.FinMap as fin
use Rattle.std.specs.Cmp.{unsigned_tied}
use Rattle.std.proofs.lemmas.Cmp.{nat_cmp_total}
use Rattle.std.proofs.lemmas.Bool.Decides.{nat_tests}
use Rattle.std.proofs.lemmas.List.{map-append}
use Rattle.std.proofs.lemmas.List.Elements.{All-nil, All-cons, All-append}
use Rattle.doc_page_parts.specs.Refusals.{IsAnswer}
use Rattle.doc_hub.specs.Connections.{new_connection}
use Rattle.doc_hub.specs.Replies.{Renders}
use Rattle.doc_hub.specs.Runs.{Happened, Happens, nothing, first}
use Rattle.doc_hub.specs.StepLaws.{connection}
use Rattle.doc_hub.specs.Worlds.{World, connected, last_id}
use Rattle.doc_hub_events.specs.declared.event.ConnId.{ConnId}
use Rattle.doc_hub_events.specs.declared.event.Event.TheVariants as events
use Rattle.doc_hub_events.specs.declared.outcome.Outcome.TheVariants as outcomes
use Rattle.doc_hub_events.specs.declared.refusal.ConnectError.{ConnectError}
use Rattle.doc_hub_events.specs.declared.refusal.ConnectError.TheVariants as connect_errors
use Rattle.doc_server_rounds.specs.Peers.{Peer}
use Rattle.doc_server_rounds.specs.Rounds.{ids_of}
use Rattle.doc_hub.proofs.RunParts.{runs_join}
use Rattle.doc_server_rounds.specs.Dropped.{is_among}
use Rattle.doc_server_rounds.specs.Faults.{Explains, IsRefusal, fault_of}
use Rattle.doc_server_rounds.specs.Made.{IsNew, Makes, MakesOne, next_numbers}
use Rattle.doc_server_rounds.specs.declared.fault.ServeFault.{ServeFault}
use Rattle.doc_server_rounds.specs.declared.fault.ServeFault.TheVariants as faults
use Rattle.doc_server_rounds.proofs.Among.{out_left, out_right}

-- ---- one connect

abbrev Answer : Type 0
Answer = World × Result ConnId ConnectError

-- the world with one connection more
abbrev with_one : World → World
with_one w = record w { given = w.given + 1; connections = fin.insert w.connections (w.given + 1) new_connection }

abbrev by_room : World → Bool → Answer
by_room w t = if t then (with_one w, Ok (record { 0 = w.given + 1 })) else (w, Err connect_errors.NoIds)

same_ok : (x y : ConnId) → ◌≡◌ {A = Result ConnId ConnectError} (Ok x) (Ok y) → x ≡ y
same_ok x y is = cc

no_error : {X E : Type 0} (x : X) (e : E) → ◌≡◌ {A = Result X E} (Ok x) (Err e) → ⊥
no_error x e is = subst T (ap is_ok is) tt

connects_by : (w v : World) (id : ConnId) (t : Bool) → ◌≡◌ {A = Answer} (by_room w t) (v, Ok id)
    → (v ≡ with_one w) × (id.0 ≡ w.given + 1)
connects_by w v id true is = (
  sym (ap (λ (a : Answer). a.0) is),
  sym (ap (λ (i : ConnId). i.0) (same_ok (record { 0 = w.given + 1 }) id (ap (λ (a : Answer). a.1) is))),
)
connects_by w v id false is = absurd (no_error id connect_errors.NoIds (sym (ap (λ (a : Answer). a.1) is)))

connects : (w v : World) (id : ConnId) → ◌≡◌ {A = Answer} (connected w) (v, Ok id) → (v ≡ with_one w) × (id.0 ≡ w.given + 1)
connects w v id is = connects_by w v id (nat_lt w.given last_id) is

-- a connect that was refused for want of numbers
none_left_by : (w : World) (t : Bool) → IsAnswer connect_errors.Memory (by_room w t).1 (Err connect_errors.NoIds) → t ≡ false
none_left_by w true is = absurd (unlike is)
  where
    unlike : connect_errors.NoIds ≡ connect_errors.Memory → ⊥
    unlike e = cc
none_left_by w false is = refl

not_less : (a b : ℕ) → nat_lt a b ≡ false → b ≤ a
not_less a b is = grind (arith, nat_tests)

pub refused_for : (render : Renders) (w v : World) (e : ConnectError) → Happens render w events.Connect v (Err e) → IsRefusal w (fault_of e)
refused_for render w v connect_errors.NoIds h = not_less w.given last_id (none_left_by w (nat_lt w.given last_id) h.0)
refused_for render w v connect_errors.Memory h = tt

-- ---- one after another

abbrev IsConnect : Happened → Type 0
IsConnect h = h.event ≡ events.Connect

pub none_made : (render : Renders) (w : World) → Makes render w [] w
none_made render w = record {
  run = [];
  runs = nothing w;
  own = All-nil IsConnect;
  new = All-nil IsNew;
  numbers = refl;
  given = omega arith;
  others = λ c out. refl;
  rest = refl;
}

-- one more
longer : (ps : List Peer) (p : Peer) → length (ps ++ p ∷ []) ≡ suc (length ps)
longer [] p = refl
longer (q ∷ ps) p = ap suc (longer ps p)

module _ (render : Renders) (w v u : World) (ps : List Peer) (p : Peer) (m : Makes render w ps v) (new : IsNew p)
    (happens : Happens render v events.Connect u (Ok (record { 0 = p.id }))) where
  abbrev id : ConnId
  id = record { 0 = p.id }

  abbrev h : Happened
  h = record { world = v; event = events.Connect; outcome = outcomes.Conn id }

  leads : (u ≡ with_one v) × (p.id ≡ v.given + 1)
  leads = connects v u id happens

  kept : (c : ℕ) → is_among c (ids_of ps ++ p.id ∷ []) ≡ false → connection c u ≡ connection c w
  kept c out =
      let off : (c == v.given + 1) ≡ false = ap (λ n. c == n) (sym leads.1) ∙ out_right c p.id (ids_of ps) out in
      ap (connection c) leads.0
      ∙ fin.get-insert nat_cmp_total v.connections (v.given + 1) new_connection c
      ∙ ap (λ t. cond t (Some new_connection) (connection c v)) (unsigned_tied c (v.given + 1) ∙ off)
      ∙ m.others c (out_left c (ids_of ps) (p.id ∷ []) out)

  one_behind : Makes render w (ps ++ p ∷ []) u
  one_behind = record {
    run = m.run ++ h ∷ [];
    runs = runs_join render w v u m.run (h ∷ []) m.runs
        (first v u u events.Connect (outcomes.Conn id) [] (Ok id, happens, refl) (nothing u));
    own = All-append IsConnect m.run (h ∷ []) m.own (All-cons IsConnect h [] refl (All-nil IsConnect));
    new = All-append IsNew ps (p ∷ []) m.new (All-cons IsNew p [] new (All-nil IsNew));
    numbers = map-append (λ l. l.id) ps (p ∷ [])
        ∙ ap (λ l. l ++ p.id ∷ []) m.numbers
        ∙ ap (λ n. next_numbers w.given (length ps) ++ n ∷ []) (leads.1 ∙ ap (λ n. n + 1) m.given)
        ∙ sym (ap (next_numbers w.given) (longer ps p));
    given = ap (λ x. x.given) leads.0 ∙ omega (arith, m.given, longer ps p);
    others = λ c out. kept c (subst (λ l. is_among c l ≡ false) (map-append (λ l. l.id) ps (p ∷ [])) out);
    rest = leads.0
        ∙ ap (λ (x : World). record x { given = v.given + 1; connections = (with_one v).connections }) m.rest
        ∙ ap (λ (x : World). record w { given = x.given; connections = x.connections }) (sym leads.0);
  }

pub one_made : (render page : Renders) (w v u : World) (ps qs : List Peer) → page ≡ render → Makes render w ps v → MakesOne page v ps u qs
    → Makes render w qs u
one_made render page w v u ps qs same m one =
    subst (λ l. Makes render w l u) (sym one.behind) (one_behind render w v u ps one.peer m one.new one.connects)

pub one_longer : (render : Renders) (w v : World) (ps qs : List Peer) → MakesOne render w ps v qs → length qs ≡ length ps + 1
one_longer render w v ps qs one =
    let l = ap length one.behind ∙ longer ps one.peer in omega (arith, l)

-- why the next one wasn't made explains why no more were
pub refusal_explains : (w : World) (made count : ℕ) (fault : ServeFault) → made < count → IsRefusal w fault → Explains w made count fault
refusal_explains w made count faults.Accept less why = less
refusal_explains w made count faults.NoIds less why = (less, why)
refusal_explains w made count faults.Memory less why = tt
