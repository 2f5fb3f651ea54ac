-- A read of a client's connection, and the push of what came.
use Rattle.std.proofs.Common.{◌≡◌, ℕ, List, [], ◌∷◌, ◌++◌, Bool, true, false, refl, sym, ap, ◌∙◌, inl, inr, append-nil}
use Rattle.std.specs.Prelude.{⊤, Option, Some, Ok, Err}
use Rattle.std.specs.Io.KnownBytes.{append_known}
use Rattle.std.proofs.lemmas.List.Elements.{All-cons}
use Rattle.doc_hub.specs.Replies.{Renders}
use Rattle.doc_hub.specs.Runs.{Happens, first, sent_on}
use Rattle.doc_hub.specs.Worlds.{World}
use Rattle.doc_hub.specs.RunParts.{served_by, pushed_on}
use Rattle.doc_hub.proofs.RunParts.{gave_before, one_pushes, one_sends, pushed_join, sent_join}
use Rattle.doc_hub_events.specs.Events.{disconnect_on, push_on, pushing}
use Rattle.doc_hub_events.specs.declared.event.ConnId.{ConnId}
use Rattle.doc_hub_events.specs.declared.outcome.Outcome.TheVariants as outcomes
use Rattle.doc_hub_events.specs.declared.refusal.PushError.{PushError}
use Rattle.doc_server_listen.specs.Edits.{AreQuiet}
use Rattle.doc_server_network.proofs.Passing.{append_none}
use Rattle.doc_server_turns.specs.Hearing.{WasHeard}
use Rattle.doc_server_turns.specs.Servings.{IsEnding, Serves}
use Rattle.doc_server_turns.specs.Wirings.{Peer}
use Rattle.doc_server_turns.proofs.AnswerSteps.{disconnect_drops, first_of, happened, own_one, runs_one, waits_same}
use Rattle.doc_server_turns.proofs.Hearing.{heard_by}
use Rattle.doc_server_turns.proofs.ServingSteps.{serves_nothing}
use Rattle.doc_server_turns.proofs.Wiring.{not_both}

-- serving without a step
abbrev pub ServesQuietly : Renders → World → World → ℕ → Option (List ℕ) → Option (List ℕ) → Type 0 → Peer → Peer → Type 0
ServesQuietly render w v id c d ended p q =
    (s : Serves render w v id c d ended p q) × AreQuiet s.run × (p.reads ≡ true → WasHeard id s.run q)

module _ (render : Renders) (c d : Option (List ℕ)) (ended : Type 0) (p q : Peer) (opened : p.is_open ≡ true)
    (waits : q.pending ≡ p.pending) where
  -- nothing came
  abbrev pub read_nothing : (w : World) (id : ℕ) → d ≡ append_known c [] → q.is_open ≡ true → (p.reads ≡ true → q.rests ≡ true)
      → ServesQuietly render w w id c d ended p q
  read_nothing w id is stays rests =
      (serves_nothing render w id c d ended p q (is ∙ append_none c) waits (stays ∙ sym opened), tt, λ r. inl (rests r))

  -- what came was pushed
  abbrev pub read_pushed : (w v : World) (id : ConnId) (bytes : List ℕ) → Happens render w (push_on id bytes) v (Ok tt)
      → d ≡ append_known c bytes → q.is_open ≡ true → ServesQuietly render w v id.0 c d ended p q
  read_pushed w v id bytes h is stays =
      let one = happened w (push_on id bytes) outcomes.Pushed in (
        record {
          run = one ∷ [];
          runs = runs_one render w v (push_on id bytes) outcomes.Pushed (Ok tt, h, refl);
          own = own_one id.0 one refl;
          served = record {
            takes = record {
              pending = waits ∙ sym (append-nil p.pending) ∙ ap (λ l. p.pending ++ l) (sym (one_sends id.0 one refl));
              input = (
                [],
                is ∙ ap (append_known c) (sym (append-nil (pushed_on id.0 (one ∷ [])) ∙ one_pushes id.0 one refl)),
                inl refl,
              );
              opens = λ o. opened;
              closed = λ shut. absurd (not_both p.is_open opened shut);
            };
            bound = inl (waits_same p q waits);
            closed = λ shut. absurd (not_both p.is_open opened shut);
            ends = λ o shut. absurd (not_both q.is_open stays shut);
          };
        },
        (tt, tt),
        λ r. heard_by (λ o. ⊤) id.0 (one ∷ []) q (one, first_of id.0 one refl, tt),
      )

  -- the push was refused, and the connection is dropped
  abbrev pub read_refused : (w v u : World) (id : ConnId) (bytes : List ℕ) (why : PushError) (dropped : Bool)
      → Happens render w (push_on id bytes) v (Err why) → Happens render v (disconnect_on id) u dropped
      → d ≡ append_known c bytes → q.is_open ≡ false → ServesQuietly render w u id.0 c d ended p q
  read_refused w v u id bytes why dropped h drops is shut =
      let one = happened w (push_on id bytes) (pushing (Err why)) in
      let drop = happened v (disconnect_on id) (outcomes.Disconnected dropped) in
      let none : pushed_on id.0 (one ∷ drop ∷ []) ≡ [] =
      pushed_join id.0 (one ∷ []) (drop ∷ []) ∙ ap (λ l. l ++ pushed_on id.0 (drop ∷ [])) (one_pushes id.0 one refl)
      ∙ one_pushes id.0 drop refl in
      let silent : sent_on id.0 (one ∷ drop ∷ []) ≡ [] =
      sent_join id.0 (one ∷ []) (drop ∷ []) ∙ ap (λ l. l ++ sent_on id.0 (drop ∷ [])) (one_sends id.0 one refl)
      ∙ one_sends id.0 drop refl in (
        record {
          run = one ∷ drop ∷ [];
          runs = first w v u (push_on id bytes) (pushing (Err why)) (drop ∷ []) (Err why, h, refl)
              (runs_one render v u (disconnect_on id) (outcomes.Disconnected dropped) (dropped, drops, refl));
          own = All-cons (λ x. served_by x.event ≡ Some id.0) one (drop ∷ []) refl (own_one id.0 drop refl);
          served = record {
            takes = record {
              pending = waits ∙ sym (append-nil p.pending) ∙ ap (λ l. p.pending ++ l) (sym silent);
              input = (bytes, is ∙ ap (λ l. append_known c (l ++ bytes)) (sym none), inr shut);
              opens = λ o. opened;
              closed = λ off. absurd (not_both p.is_open opened off);
            };
            bound = inl (waits_same p q waits);
            closed = λ off. absurd (not_both p.is_open opened off);
            ends = λ o off. (
              inl (gave_before IsEnding id.0 (one ∷ []) (drop ∷ []) (one, first_of id.0 one refl, tt)),
              disconnect_drops render v u id dropped drops,
            );
          };
        },
        (tt, (tt, tt)),
        λ r. heard_by IsEnding id.0 (one ∷ drop ∷ []) q
            (gave_before IsEnding id.0 (one ∷ []) (drop ∷ []) (one, first_of id.0 one refl, tt)),
      )

  -- nothing comes any more, or the read failed, and the connection is dropped
  abbrev pub read_ended : (w u : World) (id : ConnId) (dropped : Bool) → Happens render w (disconnect_on id) u dropped
      → d ≡ append_known c [] → q.is_open ≡ false → ended → ServesQuietly render w u id.0 c d ended p q
  read_ended w u id dropped drops is shut why =
      let drop = happened w (disconnect_on id) (outcomes.Disconnected dropped) in (
        record {
          run = drop ∷ [];
          runs = runs_one render w u (disconnect_on id) (outcomes.Disconnected dropped) (dropped, drops, refl);
          own = own_one id.0 drop refl;
          served = record {
            takes = record {
              pending = waits ∙ sym (append-nil p.pending) ∙ ap (λ l. p.pending ++ l) (sym (one_sends id.0 drop refl));
              input = ([], is ∙ ap (λ l. append_known c (l ++ [])) (sym (one_pushes id.0 drop refl)), inl refl);
              opens = λ o. opened;
              closed = λ off. absurd (not_both p.is_open opened off);
            };
            bound = inl (waits_same p q waits);
            closed = λ off. absurd (not_both p.is_open opened off);
            ends = λ o off. (inr why, disconnect_drops render w u id dropped drops);
          };
        },
        (tt, tt),
        λ r. heard_by (λ o. ⊤) id.0 (drop ∷ []) q (drop, first_of id.0 drop refl, tt),
      )
