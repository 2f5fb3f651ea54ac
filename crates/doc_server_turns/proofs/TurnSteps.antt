-- The parts of a turn, one behind the other.
use Rattle.std.proofs.Common.{◌≡◌, ◌++◌, ℕ, List, Bool, true, refl, sym, ap, subst, ◌∙◌}
use Rattle.std.specs.Prelude.{Option, Some, None, Result, Ok, Err, OnErr}
use Rattle.std.specs.FinMap as map
use Rattle.doc_hub.specs.Replies.{Renders}
use Rattle.doc_hub.specs.Runs.{Happened, sent_on, events_on}
use Rattle.doc_hub.specs.RunParts.{pushed_on}
use Rattle.doc_hub.specs.Worlds.{World}
use Rattle.doc_hub.proofs.RunParts.{pushed_of, sent_of}
use Rattle.doc_server_listen.specs.Costs.{Left}
use Rattle.doc_server_network.specs.Networks.{Rests}
use Rattle.doc_server_turns.specs.Servings.{ServedAt, ServesAll}
use Rattle.doc_server_turns.specs.Hearing.{SparesAll}
use Rattle.doc_server_turns.specs.Sharing.{IsModest, SharesTurn}
use Rattle.doc_server_turns.specs.Turns.{IsLeft, Turns}
use Rattle.doc_server_turns.specs.Visits.{AreEither}
use Rattle.doc_server_turns.specs.Wirings.{Peer, Table, Wired, Gives, GivesOne, LingerAll, LingersAt, TakesInAt}
use Rattle.doc_server_turns.proofs.Hearing.{Heard, heard_begun, heard_ended, spares_join}
use Rattle.doc_server_turns.proofs.Modesty.{few_bytes, modest}
use Rattle.doc_server_turns.proofs.TableServing.{AllSharing}
use Rattle.doc_server_turns.proofs.Tables.{some_none}
use Rattle.doc_server_turns.proofs.Wiring.{lingers_takes_in, wired_given, wired_taken}
use Rattle.std.proofs.Common.{[], append-nil}

pub on_err : {X E : Type 0} (P : Type 0) (r : Result X E) → P → OnErr r P
on_err P (Ok x) is = tt
on_err P (Err e) is = is

-- ---- one connection

served_takes : (k : ℕ) (w v : World) (c d : Option (List ℕ)) (ended : Type 0) (run : List Happened) (p q : Option Peer)
    → ServedAt k w v c d ended run p q → TakesInAt c d (pushed_on k run) (sent_on k run) p q
served_takes k w v c d ended run None None s = (s.0, ap pushed_of s.1, ap sent_of s.1)
served_takes k w v c d ended run None (Some q) s = s
served_takes k w v c d ended run (Some p) None s = s
served_takes k w v c d ended run (Some p) (Some q) s = s.takes

pub given_none : (a b : Option (List ℕ)) (ended : Type 0) (p q : Option Peer) → GivesOne a b ended p q → p ≡ None → (b ≡ a) × (q ≡ None)
given_none a b ended None None g e = (g, refl)
given_none a b ended None (Some q) g e = absurd g
given_none a b ended (Some p) None g e = absurd g
given_none a b ended (Some p) (Some q) g e = absurd (some_none p e)

served_none : (k : ℕ) (w v : World) (c d : Option (List ℕ)) (ended : Type 0) (run : List Happened) (p q : Option Peer)
    → ServedAt k w v c d ended run p q → p ≡ None → (d ≡ c) × (events_on k run ≡ []) × (q ≡ None)
served_none k w v c d ended run None None s e = (s.0, s.1, refl)
served_none k w v c d ended run None (Some q) s e = absurd s
served_none k w v c d ended run (Some p) None s e = absurd s
served_none k w v c d ended run (Some p) (Some q) s e = absurd (some_none p e)

lingers_none : (c d : Option (List ℕ)) (p q : Option Peer) → LingersAt c d p q → p ≡ None → (d ≡ c) × (q ≡ None)
lingers_none c d None None l e = (l, refl)
lingers_none c d None (Some q) l e = absurd l
lingers_none c d (Some p) None l e = absurd l
lingers_none c d (Some p) (Some q) l e = absurd (some_none p e)

wired_lingers : (c d g : Option (List ℕ)) (pushed sent : List ℕ) (p q : Option Peer) → LingersAt c d p q → Wired c g pushed sent p
    → Wired d g pushed sent q
wired_lingers c d g pushed sent p q l w =
    subst (λ x. Wired d g x sent q) (append-nil pushed)
    (subst (λ x. Wired d g (pushed ++ []) x q) (append-nil sent) (wired_taken c d g pushed sent [] [] p q (lingers_takes_in c d p q l) w))

pub wired_same : (c d g h : Option (List ℕ)) (pushed sent : List ℕ) (p : Option Peer) → d ≡ c → h ≡ g → Wired c g pushed sent p
    → Wired d h pushed sent p
wired_same c d g h pushed sent p came gone w =
    subst (λ x. Wired x h pushed sent p) (sym came) (subst (λ x. Wired c x pushed sent p) (sym gone) w)

-- ---- what is pending is handed over, and then clients are read and stepped

module _ (render : Renders) (w v : World) (ready : List ℕ) (c0 c1 c2 g0 g1 g2 : ℕ → Option (List ℕ)) (given ended : ℕ → Type 0)
    (t0 t1 t2 : Table) (gives : Gives g0 g1 given t0 t1) (came : Rests c0 c1) (s : ServesAll render w v ready c1 c2 ended t1 t2)
    (gone : Rests g1 g2) where
  pub begun_wired : (k : ℕ) (pushed sent : List ℕ) → Wired (c0 k) (g0 k) pushed sent (map.get t0 k)
      → Wired (c2 k) (g2 k) (pushed ++ pushed_on k s.run) (sent ++ sent_on k s.run) (map.get t2 k)
  begun_wired k pushed sent wired =
      wired_same (c2 k) (c2 k) (g1 k) (g2 k) (pushed ++ pushed_on k s.run) (sent ++ sent_on k s.run) (map.get t2 k) refl (gone k)
      (wired_taken (c1 k) (c2 k) (g1 k) pushed sent (pushed_on k s.run) (sent_on k s.run) (map.get t1 k) (map.get t2 k)
      (served_takes k w v (c1 k) (c2 k) (ended k) s.run (map.get t1 k) (map.get t2 k) (s.each k))
      (wired_same (c0 k) (c1 k) (g1 k) (g1 k) pushed sent (map.get t1 k) (came k) refl
      (wired_given (c0 k) (g0 k) (g1 k) (given k) pushed sent (map.get t0 k) (map.get t1 k) (gives k) wired)))

  pub begun_left : (k : ℕ) → map.get t0 k ≡ None → IsLeft k (c0 k) (c2 k) (g0 k) (g2 k) s.run (map.get t2 k)
  begun_left k none =
      let one = given_none (g0 k) (g1 k) (given k) (map.get t0 k) (map.get t1 k) (gives k) none in
      let two = served_none k w v (c1 k) (c2 k) (ended k) s.run (map.get t1 k) (map.get t2 k) (s.each k) one.1 in
      record { came = two.0 ∙ came k; gone = gone k ∙ one.0; events = two.1; none = two.2 }

  abbrev pub turn_begun : Turns render w v ready c0 c2 g0 g2 t0 t2
  turn_begun = record { run = s.run; runs = s.runs; own = s.own; wired = begun_wired; elsewhere = begun_left }

-- ---- and then the replies are handed over, and each client's part ends

module _ (render : Renders) (w v : World) (ready : List ℕ) (c0 c2 c3 c4 g0 g2 g3 g4 : ℕ → Option (List ℕ)) (given : ℕ → Type 0)
    (t0 t2 t3 t4 : Table) (a : Turns render w v ready c0 c2 g0 g2 t0 t2) (gives : Gives g2 g3 given t2 t3) (came : Rests c2 c3)
    (lingers : LingerAll c3 c4 t3 t4) (gone : Rests g3 g4) where
  pub ended_wired : (k : ℕ) (pushed sent : List ℕ) → Wired (c0 k) (g0 k) pushed sent (map.get t0 k)
      → Wired (c4 k) (g4 k) (pushed ++ pushed_on k a.run) (sent ++ sent_on k a.run) (map.get t4 k)
  ended_wired k pushed sent wired =
      let more = pushed ++ pushed_on k a.run in let replies = sent ++ sent_on k a.run in
      wired_same (c4 k) (c4 k) (g3 k) (g4 k) more replies (map.get t4 k) refl (gone k)
      (wired_lingers (c3 k) (c4 k) (g3 k) more replies (map.get t3 k) (map.get t4 k) (lingers k)
      (wired_same (c2 k) (c3 k) (g3 k) (g3 k) more replies (map.get t3 k) (came k) refl
      (wired_given (c2 k) (g2 k) (g3 k) (given k) more replies (map.get t2 k) (map.get t3 k) (gives k) (a.wired k pushed sent wired))))

  pub ended_left : (k : ℕ) → map.get t0 k ≡ None → IsLeft k (c0 k) (c4 k) (g0 k) (g4 k) a.run (map.get t4 k)
  ended_left k none =
      let left = a.elsewhere k none in
      let one = given_none (g2 k) (g3 k) (given k) (map.get t2 k) (map.get t3 k) (gives k) left.none in
      let two = lingers_none (c3 k) (c4 k) (map.get t3 k) (map.get t4 k) (lingers k) one.1 in
      record {
        came = two.0 ∙ came k ∙ left.came;
        gone = gone k ∙ one.0 ∙ left.gone;
        events = left.events;
        none = two.1;
      }

  abbrev pub turn_ended : Turns render w v ready c0 c4 g0 g4 t0 t4
  turn_ended = record { run = a.run; runs = a.runs; own = a.own; wired = ended_wired; elsewhere = ended_left }

-- ---- with what it costs

abbrev pub TurnsSharing : Renders → World → World → List ℕ → (ℕ → Option (List ℕ)) → (ℕ → Option (List ℕ)) → (ℕ → Option (List ℕ))
    → (ℕ → Option (List ℕ)) → Table → Table → Left → Left → Bool → Type 0
TurnsSharing render w v ready c d g h before after l m follows =
    (s : Turns render w v ready c d g h before after) × SharesTurn ready s.run l m × IsModest ready s.run
    × Heard ready s.run before after × (follows ≡ true → AreEither ready s.run)

pub begun_sharing : (render : Renders) (w v u : World) (ready : List ℕ) (c0 c1 c2 g0 g1 g2 : ℕ → Option (List ℕ)) (given ended : ℕ → Type 0)
    (t0 t1 t2 : Table) (l m : Left) (follows : Bool) → u ≡ v → Gives g0 g1 given t0 t1 → SparesAll t0 t1 → Rests c0 c1
    → AllSharing render w v ready c1 c2 ended t1 t2 l m follows
    → Rests g1 g2 → TurnsSharing render w u ready c0 c2 g0 g2 t0 t2 l m follows
begun_sharing render w v u ready c0 c1 c2 g0 g1 g2 given ended t0 t1 t2 l m follows same gives spares came s gone =
    subst (λ (x : World). TurnsSharing render w x ready c0 c2 g0 g2 t0 t2 l m follows) (sym same) (
      turn_begun render w v ready c0 c1 c2 g0 g1 g2 given ended t0 t1 t2 gives came s.0 gone,
      s.1,
      modest ready s.0.run l m s.1
          (λ k. few_bytes k w v (c1 k) (c2 k) (ended k) s.0.run (map.get t1 k) (map.get t2 k) (s.0.each k)),
      heard_begun ready s.0.run t0 t1 t2 spares s.2,
      s.3,
    )

pub ended_sharing : (render : Renders) (w v : World) (ready : List ℕ) (c0 c2 c3 c4 g0 g2 g3 g4 : ℕ → Option (List ℕ)) (given : ℕ → Type 0)
    (t0 t2 t3 t4 : Table) (l m : Left) (follows : Bool) → TurnsSharing render w v ready c0 c2 g0 g2 t0 t2 l m follows
    → Gives g2 g3 given t2 t3 → Rests c2 c3
    → LingerAll c3 c4 t3 t4 → SparesAll t2 t3 → SparesAll t3 t4 → Rests g3 g4 → TurnsSharing render w v ready c0 c4 g0 g4 t0 t4 l m follows
ended_sharing render w v ready c0 c2 c3 c4 g0 g2 g3 g4 given t0 t2 t3 t4 l m follows a gives came lingers sent ended gone = (
  turn_ended render w v ready c0 c2 c3 c4 g0 g2 g3 g4 given t0 t2 t3 t4 a.0 gives came lingers gone,
  a.1,
  a.2,
  heard_ended ready a.0.run t0 t2 t4 a.3 (spares_join t2 t3 t4 sent ended),
  a.4,
)
