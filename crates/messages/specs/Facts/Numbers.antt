-- Numbers of both kinds put together; where ids stand in front and messages behind them, the two kinds are these two parts.
use Rattle.std.specs.Prelude.{◌≡◌, ℕ, ◌≤◌}
use Rattle.std.proofs.Common.{ap, ◌∙◌, lt_irrefl, arith}
use mathlib.Core.List.{List, ◌++◌, append-nil, Mem, filter-append, filter-eq_self, mem-filter, eq-nil_iff_forall_not-mem}
use Rattle.std.proofs.Math.Decide.{dec_le, dec_lt}
use Rattle.basics.specs.Limits.{largest_id}
use Rattle.messages.specs.Numbers.{stream_ids, message_numbers}
use Rattle.messages.specs.Waiting.{IsMessage}

-- the ids of two lists put together are those of the one and then those of the other ..
pub stream_ids_append : (xs ys : List ℕ) → stream_ids (xs ++ ys) ≡ stream_ids xs ++ stream_ids ys
stream_ids_append xs ys = filter-append (λ (n : ℕ). dec_le n largest_id) xs ys

-- .. and so are the messages
message_numbers_append : (xs ys : List ℕ) → message_numbers (xs ++ ys) ≡ message_numbers xs ++ message_numbers ys
message_numbers_append xs ys = filter-append (λ (n : ℕ). dec_lt largest_id n) xs ys

-- a number of a list that is at most 32,767 is one of its ids
pub in_stream_ids : {ns : List ℕ} {n : ℕ} → Mem n ns → n ≤ largest_id → Mem n (stream_ids ns)
in_stream_ids m low = (mem-filter (λ (n : ℕ). dec_le n largest_id)).1 (m, low)

module _ (ids ms : List ℕ) (low : (n : ℕ) → Mem n ids → n ≤ largest_id) (each : (n : ℕ) → Mem n ms → IsMessage n) where
  -- among messages there is no id ..
  no_id : (n : ℕ) → Mem n (stream_ids ms) → ⊥
  no_id n m = let w = (mem-filter (λ (n : ℕ). dec_le n largest_id) {l = ms}).0 m in lt_irrefl 0 (omega (arith, each n w.0, w.1))

  -- .. and among ids no message
  no_message : (n : ℕ) → Mem n (message_numbers ids) → ⊥
  no_message n m = let w = (mem-filter (λ (n : ℕ). dec_lt largest_id n) {l = ids}).0 m in lt_irrefl 0 (omega (arith, low n w.0, w.1))

  -- the ids are those in front ..
  pub stream_ids_of : stream_ids (ids ++ ms) ≡ ids
  stream_ids_of =
      stream_ids_append ids ms
      ∙ ap (λ (l : List ℕ). stream_ids ids ++ l) (eq-nil_iff_forall_not-mem.1 no_id)
      ∙ append-nil (stream_ids ids)
      ∙ (filter-eq_self (λ (n : ℕ). dec_le n largest_id)).1 low

  -- .. and the messages those behind them
  pub message_numbers_of : message_numbers (ids ++ ms) ≡ ms
  message_numbers_of =
      message_numbers_append ids ms
      ∙ ap (λ (l : List ℕ). l ++ message_numbers ms) (eq-nil_iff_forall_not-mem.1 no_message)
      ∙ (filter-eq_self (λ (n : ℕ). dec_lt largest_id n)).1 (λ n m. omega (arith, each n m))
