-- Clients that are let go.
use Rattle.std.proofs.Common.{◌≡◌, ◌==◌, ◌++◌, ℕ, List, [], ◌∷◌, Bool, true, false, cond, refl, sym, ap, subst, ◌∙◌, is_some, append-nil, append_assoc}
use Rattle.std.specs.Prelude.{Option, Some, None}
use Rattle.std.specs.FinMap as map
use Rattle.std.specs.Cmp.{unsigned_tied}
use Rattle.std.proofs.lemmas.Bool.{eqb-true}
use Rattle.std.proofs.lemmas.Cmp.{nat_cmp_total}
use Rattle.std.proofs.lemmas.List.Elements.{All-append, All-nil, filter-append}
use Rattle.doc_hub.specs.Replies.{Renders}
use Rattle.doc_hub.specs.Runs.{Happened, Happens, Runs, nothing, events_on, is_on, sent_on}
use Rattle.doc_hub.specs.RunParts.{pushed_on}
use Rattle.doc_hub.specs.Worlds.{World}
use Rattle.doc_hub.proofs.RunParts.{none_on, one_pushes, one_sends, pushed_join, pushed_of, runs_join, sent_join, sent_of}
use Rattle.doc_hub_events.specs.Events.{disconnect_on}
use Rattle.doc_hub_events.specs.declared.event.ConnId.{ConnId}
use Rattle.doc_hub_events.specs.declared.outcome.Outcome.TheVariants as outcomes
use Rattle.doc_server_network.specs.Networks.{Rests, StaysBut}
use Rattle.doc_server_turns.specs.Turns.{IsLeft, Turns}
use Rattle.doc_server_turns.specs.Wirings.{Peer, Table, Wired, AreWoken, WokenAt}
use Rattle.doc_server_turns.proofs.AnswerSteps.{happened, own_one, runs_one}
use Rattle.doc_server_turns.proofs.TableServing.{all_of, all_off, first_among, of_before, of_more, IsOfAny}
use Rattle.doc_server_turns.proofs.Tables.{apart, later}
use Rattle.doc_server_turns.proofs.TurnSteps.{wired_same}
use Rattle.doc_server_turns.proofs.Wiring.{wired_out}

pub get_gone : (t : Table) (id k : ℕ) → map.get (map.remove t id) k ≡ cond (k == id) None (map.get t k)
get_gone t id k = map.get-remove nat_cmp_total t id k ∙ ap (λ b. cond b None (map.get t k)) (unsigned_tied k id)

not_some : (x : Option Peer) → is_some x ≡ true → x ≡ None → ⊥
not_some None is none = absurd (never is)
  where
    never : false ≡ true → ⊥
    never e = cc
not_some (Some p) is none = cc

pub wired_on : (d h : Option (List ℕ)) (pushed sent pushes sends : List ℕ) (p : Option Peer) → pushes ≡ [] → sends ≡ [] → Wired d h pushed sent p
    → Wired d h (pushed ++ pushes) (sent ++ sends) p
wired_on d h pushed sent pushes sends p none also w =
    subst (λ l. Wired d h l (sent ++ sends) p) (sym (ap (λ l. pushed ++ l) none ∙ append-nil pushed))
    (subst (λ l. Wired d h pushed l p) (sym (ap (λ l. sent ++ l) also ∙ append-nil sent)) w)

module _ (render : Renders) (w v : World) (id : ConnId) (dropped : Bool) (c d g h : ℕ → Option (List ℕ)) (t u : Table)
    (stood : is_some (map.get t id.0) ≡ true) (is : u ≡ map.remove t id.0) (drops : Happens render w (disconnect_on id) v dropped)
    (came : Rests c d) (gone : Rests g h) where
  abbrev pub drop : Happened
  drop = happened w (disconnect_on id) (outcomes.Disconnected dropped)

  none_pushed : (k : ℕ) (b : Bool) → (k == id.0) ≡ b → pushed_on k (drop ∷ []) ≡ []
  none_pushed k true e = ap (λ n. pushed_on n (drop ∷ [])) (eqb-true k id.0 e) ∙ one_pushes id.0 drop refl
  none_pushed k false e = ap pushed_of (none_on k (drop ∷ []) (all_off k id.0 (drop ∷ []) e (own_one id.0 drop refl)))

  none_sent : (k : ℕ) (b : Bool) → (k == id.0) ≡ b → sent_on k (drop ∷ []) ≡ []
  none_sent k true e = ap (λ n. sent_on n (drop ∷ [])) (eqb-true k id.0 e) ∙ one_sends id.0 drop refl
  none_sent k false e = ap sent_of (none_on k (drop ∷ []) (all_off k id.0 (drop ∷ []) e (own_one id.0 drop refl)))

  wired_at : (k : ℕ) (pushed sent : List ℕ) (b : Bool) → (k == id.0) ≡ b → Wired (d k) (h k) pushed sent (map.get t k)
      → Wired (d k) (h k) pushed sent (map.get u k)
  wired_at k pushed sent true e wired =
      subst (λ (x : Option Peer). Wired (d k) (h k) pushed sent x)
      (sym (ap (λ m. map.get m k) is ∙ get_gone t id.0 k ∙ ap (λ b. cond b None (map.get t k)) e))
      (wired_out (d k) (h k) pushed sent (map.get t k) wired)
  wired_at k pushed sent false e wired =
      subst (λ (x : Option Peer). Wired (d k) (h k) pushed sent x)
      (sym (ap (λ m. map.get m k) is ∙ get_gone t id.0 k ∙ ap (λ b. cond b None (map.get t k)) e)) wired

  pub leaves_wired : (k : ℕ) (pushed sent : List ℕ) → Wired (c k) (g k) pushed sent (map.get t k)
      → Wired (d k) (h k) (pushed ++ pushed_on k (drop ∷ [])) (sent ++ sent_on k (drop ∷ [])) (map.get u k)
  leaves_wired k pushed sent wired =
      wired_on (d k) (h k) pushed sent (pushed_on k (drop ∷ [])) (sent_on k (drop ∷ [])) (map.get u k) (none_pushed k (k == id.0) refl)
      (none_sent k (k == id.0) refl)
      (wired_at k pushed sent (k == id.0) refl
      (wired_same (c k) (d k) (g k) (h k) pushed sent (map.get t k) (came k) (gone k) wired))

  left_at : (k : ℕ) (b : Bool) → (k == id.0) ≡ b → map.get t k ≡ None → IsLeft k (c k) (d k) (g k) (h k) (drop ∷ []) (map.get u k)
  left_at k true e none = absurd (not_some (map.get t id.0) stood (ap (map.get t) (sym (eqb-true k id.0 e)) ∙ none))
  left_at k false e none = record {
    came = came k;
    gone = gone k;
    events = none_on k (drop ∷ []) (all_off k id.0 (drop ∷ []) e (own_one id.0 drop refl));
    none = ap (λ m. map.get m k) is ∙ get_gone t id.0 k ∙ ap (λ b. cond b None (map.get t k)) e ∙ none;
  }

  pub leaves_left : (k : ℕ) → map.get t k ≡ None → IsLeft k (c k) (d k) (g k) (h k) (drop ∷ []) (map.get u k)
  leaves_left k none = left_at k (k == id.0) refl none

  pub leaves : Turns render w v (id.0 ∷ []) c d g h t u
  leaves = record {
    run = drop ∷ [];
    runs = runs_one render w v (disconnect_on id) (outcomes.Disconnected dropped) (dropped, drops, refl);
    own = all_of (id.0 ∷ []) id.0 (drop ∷ []) (first_among id.0) (own_one id.0 drop refl);
    wired = leaves_wired;
    elsewhere = leaves_left;
  }

-- nobody is let go
pub leaves_nobody : (render : Renders) (w : World) (ready : List ℕ) (c d g h : ℕ → Option (List ℕ)) (t : Table) → Rests c d → Rests g h
    → Turns render w w ready c d g h t t
leaves_nobody render w ready c d g h t came gone = record {
  run = [];
  runs = nothing w;
  own = All-nil (IsOfAny ready);
  wired = λ k pushed sent wired.
      wired_on (d k) (h k) pushed sent [] [] (map.get t k) refl refl
      (wired_same (c k) (d k) (g k) (h k) pushed sent (map.get t k) (came k) (gone k) wired);
  elsewhere = λ k none. record { came = came k; gone = gone k; events = refl; none = none };
}

-- one behind the other
module _ (render page : Renders) (w v u : World) (ready more : List ℕ) (c d e g h i : ℕ → Option (List ℕ)) (r s t : Table)
    (same : page ≡ render) (a : Turns render w v ready c d g h r s) (b : Turns page v u more d e h i s t) where
  joined_wired : (k : ℕ) (pushed sent : List ℕ) → Wired (c k) (g k) pushed sent (map.get r k)
      → Wired (e k) (i k) (pushed ++ pushed_on k (a.run ++ b.run)) (sent ++ sent_on k (a.run ++ b.run)) (map.get t k)
  joined_wired k pushed sent wired =
      subst (λ l. Wired (e k) (i k) l (sent ++ sent_on k (a.run ++ b.run)) (map.get t k))
      (append_assoc pushed (pushed_on k a.run) (pushed_on k b.run) ∙ ap (λ l. pushed ++ l) (sym (pushed_join k a.run b.run)))
      (subst (λ l. Wired (e k) (i k) ((pushed ++ pushed_on k a.run) ++ pushed_on k b.run) l (map.get t k))
      (append_assoc sent (sent_on k a.run) (sent_on k b.run) ∙ ap (λ l. sent ++ l) (sym (sent_join k a.run b.run)))
      (b.wired k (pushed ++ pushed_on k a.run) (sent ++ sent_on k a.run) (a.wired k pushed sent wired)))

  joined_left : (k : ℕ) → map.get r k ≡ None → IsLeft k (c k) (e k) (g k) (i k) (a.run ++ b.run) (map.get t k)
  joined_left k none =
      let one = a.elsewhere k none in let two = b.elsewhere k one.none in record {
        came = two.came ∙ one.came;
        gone = two.gone ∙ one.gone;
        events = filter-append (is_on k) a.run b.run ∙ ap (λ l. l ++ events_on k b.run) one.events ∙ two.events;
        none = two.none;
      }

  pub turns_join : Turns render w u (ready ++ more) c e g i r t
  turns_join = record {
    run = a.run ++ b.run;
    runs = runs_join render w v u a.run b.run a.runs (subst (λ x. Runs x v b.run u) same b.runs);
    own = All-append (IsOfAny (ready ++ more)) a.run b.run (of_more ready more a.run a.own) (of_before ready more b.run b.own);
    wired = joined_wired;
    elsewhere = joined_left;
  }

-- whoever is left is woken still
pub woken_left : (old new : ℕ → Type 0) (t u : Table) (id : ℕ) → u ≡ map.remove t id → StaysBut id old new → AreWoken old t → AreWoken new u
woken_left old new t u id is others w = λ k. by k (k == id) refl
  where
    by : (k : ℕ) (b : Bool) → (k == id) ≡ b → WokenAt (new k) (map.get u k)
    by k true e =
        subst (λ (x : Option Peer). WokenAt (new k) x)
        (sym (ap (λ m. map.get m k) is ∙ get_gone t id k ∙ ap (λ b. cond b None (map.get t k)) e)) tt
    by k false e =
        subst (λ (x : Option Peer). WokenAt (new k) x)
        (sym (ap (λ m. map.get m k) is ∙ get_gone t id k ∙ ap (λ b. cond b None (map.get t k)) e))
        (later (old k) (new k) (map.get t k) (others k (apart k id e)) (w k))
