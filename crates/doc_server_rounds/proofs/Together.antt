-- Connections that are made, served and dropped.
use Rattle.std.proofs.Common.{◌≡◌, ◌≤◌, ℕ, List, [], ◌++◌, Bool, true, false, cond, length, take, refl, sym, ap, ◌∙◌, subst, arith, inl, inr}
use Rattle.std.specs.Prelude.{◌⊎◌, All, Contains, None, Some, Result, Ok, Err, IfOk, IfErr, OnOk}
use Rattle.std.proofs.Math.Seq.{take-append_seam}
use Rattle.std.proofs.lemmas.List.{length-map}
use Rattle.std.proofs.lemmas.List.Elements.{All-append, All-nil}
use Rattle.doc_hub.specs.Replies.{Renders}
use Rattle.doc_hub.specs.Runs.{Happened, Runs, nothing}
use Rattle.doc_hub.specs.StepLaws.{connection}
use Rattle.doc_hub.specs.Worlds.{World}
use Rattle.doc_server_rounds.specs.Peers.{Peer}
use Rattle.doc_hub.specs.RunParts.{AreOfAny}
use Rattle.doc_server_rounds.specs.Rounds.{AreClosed, ServesAll, fault_places, ids_of}
use Rattle.doc_hub.specs.RunParts.{served_by}
use Rattle.doc_server_rounds.specs.declared.round.Round.{Round}
use Rattle.doc_hub.proofs.Elsewhere.{kept_elsewhere}
use Rattle.doc_hub.proofs.RunParts.{runs_join}
use Rattle.doc_server_rounds.specs.Dropped.{dropped_all, is_among}
use Rattle.doc_server_rounds.specs.Faults.{Explains}
use Rattle.doc_server_rounds.specs.Made.{Makes}
use Rattle.doc_server_rounds.specs.Servings.{Clears, IsOwn, Refuses, Rounds, ServesOn, Stops}
use Rattle.doc_server_rounds.specs.declared.fault.ServeFault.{ServeFault}
use Rattle.doc_server_rounds.specs.declared.fault.ServeFault.TheVariants as faults
use Rattle.doc_server_rounds.proofs.Among.{apart}
use Rattle.doc_server_rounds.proofs.Drops.{connection_after, drops_of, drops_own, drops_run, given_after, rest_after}
use Rattle.doc_server_rounds.proofs.Given.{given_kept}

abbrev IsOfAny : List ℕ → Happened → Type 0
IsOfAny ids h = (c : ℕ) × (served_by h.event ≡ Some c) × Contains ids c

-- what a run of these connections' events does
module _ (render : Renders) (w v : World) (ids : List ℕ) (run : List Happened) (runs : Runs render w run v) (own : AreOfAny ids run) where
  given_in : v.given ≡ w.given
  given_in = given_kept render w v run runs (λ k d within. let e = own k d within in (e.0, e.1))

  others_in : (c : ℕ) → is_among c ids ≡ false → connection c v ≡ connection c w
  others_in c out =
      kept_elsewhere render c w v run runs (λ k d within. let e = own k d within in (e.0, e.1, apart ids c e.0 out e.2))

  own_in : All (IsOwn ids) run
  own_in = λ k d within. inr (own k d within)

-- made, then served by a run, then dropped
module _ (render : Renders) (w t s : World) (ps : List Peer) (m : Makes render w ps t) (run : List Happened) (runs : Runs render t run s)
    (own : AreOfAny (ids_of ps) run) where
  abbrev ids : List ℕ
  ids = ids_of ps

  cleared_by : (c : ℕ) (t : Bool) → is_among c ids ≡ t → connection c (dropped_all s ids) ≡ cond t None (connection c w)
  cleared_by c true is = connection_after c s ids ∙ ap (λ b. cond b None (connection c s)) is
  cleared_by c false is =
      connection_after c s ids
      ∙ ap (λ b. cond b None (connection c s)) is
      ∙ others_in render t s ids run runs own c is
      ∙ m.others c is

  cleared : (c : ℕ) → connection c (dropped_all s ids) ≡ cond (is_among c ids) None (connection c w)
  cleared c = cleared_by c (is_among c ids) refl

  all_own : All (IsOwn ids) (m.run ++ (run ++ drops_of s ids))
  all_own = All-append (IsOwn ids) m.run (run ++ drops_of s ids) (λ k d within. inl (m.own k d within))
      (All-append (IsOwn ids) run (drops_of s ids) (own_in render t s ids run runs own) (drops_own s ids))

  pub clears : Clears render w (length ps) (dropped_all s ids)
  clears = record {
    run = m.run ++ (run ++ drops_of s ids);
    runs = runs_join render w t (dropped_all s ids) m.run (run ++ drops_of s ids) m.runs
        (runs_join render t s (dropped_all s ids) run (drops_of s ids) runs (drops_run render s ids));
    own = subst (λ l. All (IsOwn l) (m.run ++ (run ++ drops_of s ids))) m.numbers all_own;
    given = given_after s ids ∙ given_in render t s ids run runs own ∙ m.given;
    connections = λ c. cleared c ∙ ap (λ l. cond (is_among c l) None (connection c w)) m.numbers;
  }

-- ---- all of so many peers

pub served_clears : (render : Renders) (w s v : World) (count turns : ℕ) (round : Round) (after : List Peer)
    → Rounds render w count turns round s after → v ≡ dropped_all s (ids_of after) → Clears render w count v
served_clears render w s v count turns round after r is =
    let whole = clears render w r.taken s r.before r.makes r.serves.run r.serves.runs r.serves.own in
    subst (Clears render w count) (sym (is ∙ ap (dropped_all s) r.serves.ids))
    (subst (λ n. Clears render w n (dropped_all s (ids_of r.before))) r.all whole)

-- ---- not all

still_explains : (t v : World) (made count : ℕ) (fault : ServeFault) → v.given ≡ t.given → Explains t made count fault
    → Explains v made count fault
still_explains t v made count faults.Accept same why = why
still_explains t v made count faults.NoIds same why = (why.0, omega (arith, same, why.1))
still_explains t v made count faults.Memory same why = why

pub stopped_refuses : (render : Renders) (w t v : World) (count : ℕ) (fault : ServeFault) (ps : List Peer)
    → Stops render w count fault t ps → v ≡ dropped_all t (ids_of ps) → Refuses render w count fault v
stopped_refuses render w t v count fault ps stops is =
    let m = stops.makes in
    subst (Refuses render w count fault) (sym is) (record {
      made = length ps;
      few = stops.few;
      why = still_explains t (dropped_all t (ids_of ps)) (length ps) count fault (given_after t (ids_of ps)) stops.why;
      clears = clears render w t t ps m [] (nothing t) (All-nil (IsOfAny (ids_of ps)));
      rest = rest_after t (ids_of ps)
          ∙ ap (λ (x : World). record x { connections = (dropped_all t (ids_of ps)).connections }) m.rest
          ∙ ap (λ n. record w { given = n; connections = (dropped_all t (ids_of ps)).connections }) (sym (given_after t (ids_of ps)));
    })

-- ---- what the calls answer

pub rounds_of : (render page : Renders) (w t s : World) (count turns : ℕ) (round : Round) (ps qs : List Peer) → page ≡ render
    → Makes render w ps t → length ps ≡ count → ServesAll page t ps s qs → round.faults ≡ fault_places ps qs → round.passes ≤ turns
    → (round.passes ≡ turns) ⊎ AreClosed qs → Rounds render w count turns round s qs
rounds_of render page w t s count turns round ps qs same m all serves faults passes ends = record {
  taken = t;
  before = ps;
  makes = m;
  all = all;
  serves = subst (λ p. ServesAll p t ps s qs) same serves;
  faults = faults;
  passes = passes;
  ends = ends;
}

same_length : (xs ys : List Peer) → ids_of xs ≡ ids_of ys → length xs ≡ length ys
same_length xs ys is = sym (length-map xs (λ p. p.id)) ∙ ap length is ∙ length-map ys (λ p. p.id)

-- the same of links in a vector, which a round is given as a slice
pub rounds_in : (render page : Renders) (w t s : World) (count turns n : ℕ) (round : Round) (ps given qs rest : List Peer) → page ≡ render
    → Makes render w ps t → length ps ≡ count → given ≡ ps → length given ≡ n → ServesAll page t given s qs
    → round.faults ≡ fault_places given qs → round.passes ≤ turns → (round.passes ≡ turns) ⊎ AreClosed qs
    → Rounds render w count turns round s (take n (qs ++ rest))
rounds_in render page w t s count turns n round ps given qs rest same m all is long serves faults passes ends =
    subst (Rounds render w count turns round s)
    (sym (ap (λ k. take k (qs ++ rest)) (sym long ∙ sym (same_length qs given serves.ids)) ∙ take-append_seam qs rest))
    (rounds_of render page w t s count turns round given qs same (subst (λ l. Makes render w l t) (sym is) m) (ap length is ∙ all) serves
    faults passes ends)

module _ (render : Renders) (w s v : World) (count turns : ℕ) (links : List Peer) (is : v ≡ dropped_all s (ids_of links)) where
  pub served_on : (r : Result Round ServeFault) → IfOk r (λ round. Rounds render w count turns round s links)
      → IfOk r (λ round. ServesOn render w count turns round v)
  served_on (Ok round) rounds = record { served = s; after = links; rounds = rounds; drops = is }
  served_on (Err e) rounds = tt

  pub cleared_on : (r : Result Round ServeFault) → IfOk r (λ round. Rounds render w count turns round s links)
      → OnOk r (Clears render w count v)
  cleared_on (Ok round) rounds = served_clears render w s v count turns round links rounds is
  cleared_on (Err e) rounds = tt

  pub refused_on : (r : Result Round ServeFault) → IfErr r (λ fault. Stops render w count fault s links)
      → IfErr r (λ fault. Refuses render w count fault v)
  refused_on (Ok round) stops = tt
  refused_on (Err e) stops = stopped_refuses render w s v count e links stops is
