-- Soundness can be decided on any value whatever.
use Rattle.std.proofs.Common.{inl, inr, ⊎_elim, arith}
use Rattle.std.proofs.Math.Logic.Dec.{and as Dec-and}
use Rattle.std.specs.Prelude.{ℕ, ◌≤◌, ◌<◌}
use Rattle.std.proofs.Math.Decide.{dec_le, dec_lt, ℕ_discrete, map_dec}
use Rattle.basics.specs.Below.{decide_below, decide_implies}
use Rattle.basics.specs.Limits.{places}
use Rattle.places.specs.Order.{Entry, before}
use Rattle.places.specs.Decide.{decide_places_sound}
use Rattle.queue.specs.Layout.{id_at, key_at, release_at, entry_at, next_at, prev_at, IsNode, bucket_of, Linked, AllLinked, Sound}
use Rattle.queue.specs.Layout.SoundnessFacts.{sound_places, sound_from}
use Rattle.queue.specs.declared.Queue.{Queue}

decide_node : (ids : ℕ → ℕ) (x : ℕ) → Dec (IsNode ids x)
decide_node ids x = go (Dec-and (dec_lt x places) (dec_le 1 (ids x))) (Dec-and (dec_le places x) (dec_lt x 544))
  where
    go : Dec ((x < places) × (1 ≤ ids x)) → Dec ((places ≤ x) × (x < 544)) → Dec (IsNode ids x)
    go (yes place) head = yes (inl place)
    go (no place) (yes head) = yes (inr head)
    go (no place) (no head) = no (⊎_elim place head)

decide_linked : (rows : ℕ → Entry) (next prev : ℕ → ℕ) (x : ℕ) → Dec (Linked rows next prev x)
decide_linked rows next prev x =
    map_dec
    (λ w. record {
      next_is_node = w.0;
      next_in_bucket = w.1.0;
      next_returns = w.1.1.0;
      in_order = w.1.1.1.0;
      prev_is_node = w.1.1.1.1.0;
      prev_returns = w.1.1.1.1.1;
    })
    (λ l. (l.next_is_node, (l.next_in_bucket, (l.next_returns, (l.in_order, (l.prev_is_node, l.prev_returns))))))
    (Dec-and (decide_node (λ i. (rows i).id) (next x))
    (Dec-and (ℕ_discrete (bucket_of (λ i. (rows i).key) (next x)) (bucket_of (λ i. (rows i).key) x))
    (Dec-and (ℕ_discrete (prev (next x)) x)
    (Dec-and (decide_implies (dec_lt x places) (decide_implies (dec_lt (next x) places) (before (rows x) (rows (next x)))))
    (Dec-and (decide_node (λ i. (rows i).id) (prev x)) (ℕ_discrete (next (prev x)) x))))))

decide_all_linked : (q : Queue) → Dec (AllLinked (entry_at q) (next_at q) (prev_at q))
decide_all_linked q =
    map_dec (λ all x node. all x (below x node) node) (λ all x _ node. all x node)
    (decide_below (λ x. IsNode (id_at q) x → Linked (entry_at q) (next_at q) (prev_at q) x)
    (λ x. decide_implies (decide_node (id_at q) x) (decide_linked (entry_at q) (next_at q) (prev_at q) x)) 544)
  where
    below : (x : ℕ) → IsNode (id_at q) x → x < 544
    below x (inl place) = omega (arith, place.0)
    below x (inr head) = head.1

-- whether a queue is sound can be decided, whatever its ids, keys, releases and links
pub decide_sound : (q : Queue) → Dec (Sound q)
decide_sound q =
    map_dec (λ w. sound_from q w.0 w.1) (λ s. (sound_places q s, s.links))
    (Dec-and (decide_places_sound (id_at q) (key_at q) (release_at q)) (decide_all_linked q))
