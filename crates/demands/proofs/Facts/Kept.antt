-- Rounds that were held keep what demand 3 asks: no packet late, the end of the last round is now, and no rival later.
use Rattle.std.specs.Prelude.{◌≡◌, ℕ, ◌+◌, ◌-◌, ◌≤◌, ◌<◌, length}
use Rattle.std.proofs.Common.{sym, ap, subst, ◌∙◌, lt_irrefl, lt_of_lt_of_le, arith}
use Rattle.std.proofs.Math.Path.{subst⁻¹}
use mathlib.Core.List.{List, Mem, mem-map_of_mem}
use Rattle.std.proofs.Math.Decide.{dec_lt}
use Rattle.rules.specs.Streams.{Stream, packet, PacketOf}
use Rattle.rules.specs.Plans.{Round}
use Rattle.rules.specs.Ready.{Fits, IsReadyState}
use Rattle.rules.proofs.Facts.Packets.{packet_advanced, packet_due_after}
use Rattle.rules.proofs.Facts.Fewest.{held_fewest}
use Rattle.state.specs.Content.{Content, slots_of, streams_in, now_of, start_gap_of}
use Rattle.state.specs.Sound.{ContentSound}
use Rattle.state.proofs.Facts.Sound.{all_formed, content_ready}
use Rattle.demands.specs.CallLists.{HeldRound, times_sent, IsSentInTime, end_of, start_of}
use Rattle.demands.specs.Rivals.{IsRivalOf}
use Rattle.demands.proofs.Facts.CallLists.{same_starts, last_is_end}
use Rattle.demands.proofs.Facts.EndlessRounds.{state_of}
use Rattle.demands.proofs.Facts.Held.{sent_in, seen_after, Follows}

module _ (h : Content) (rounds : List HeldRound) (c : Content) (follows : Follows h rounds c) where
  -- where everything fits at x in the end, every packet due by x has been sent in time
  pub sent_unless_later : ContentSound c → (x : ℕ) → Fits (slots_of c) x (streams_in c) → (s : Stream) → Mem s (streams_in h)
      → (m : ℕ) → (packet s m).due ≤ x → IsSentInTime rounds s m
  sent_unless_later sound x fits s there m early = go (dec_lt m (times_sent s.number rounds))
    where
      go : Dec (m < times_sent s.number rounds) → IsSentInTime rounds s m
      go (yes sent) = follows.in_time s there m sent
      go (no waiting) =
          let k = times_sent s.number rounds in
          let rest : k + (m - k) ≡ m = omega arith in
          let waits : PacketOf (streams_in c) (packet s m) =
          subst⁻¹ (λ (ss : List Stream). PacketOf ss (packet s m)) (ap streams_in follows.holds ∙ seen_after h rounds)
          ∣ (sent_in rounds s, mem-map_of_mem (sent_in rounds) there, (m - k, sym (packet_advanced s k (m - k) ∙ ap (packet s) rest))) ∣₁ in
          absurd (lt_irrefl x (lt_of_lt_of_le (packet_due_after (slots_of c) x (streams_in c) (all_formed c sound) fits (packet s m) waits) early))

  -- now is the end of the last round
  pub now_is_end : now_of c ≡ end_of (now_of h) rounds
  now_is_end = ap now_of follows.holds ∙ last_is_end h.last rounds

  -- no rival starts a round later
  pub rival_never_later : ContentSound h → (plan : ℕ → Round) → IsRivalOf h plan → (k : ℕ) → k < length rounds
      → (plan k).start ≤ start_of rounds k
  rival_never_later sound plan rival k below =
      let ready : IsReadyState (slots_of h) (state_of h) = record { ready = content_ready h sound; open_cap = omega arith } in
      let (many, same) = same_starts follows.played rounds follows.starts in
      subst (λ (x : ℕ). (plan k).start ≤ x) (same k)
      (held_fewest (slots_of h) (start_gap_of h) sound.in_range.setting.slots.0 (omega arith) (state_of h) ready plan rival follows.lazy k
      (subst⁻¹ (λ (n : ℕ). k < n) many below))
