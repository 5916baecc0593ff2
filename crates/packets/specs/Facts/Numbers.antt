-- Stream ids in front and messages behind them: when numbers are good, told place by place.
use Rattle.std.specs.Prelude.{◌≡◌, Bool, ℕ, suc, ◌+◌, ◌-◌, ◌≤◌, ◌<◌, length, get_or, take, drop}
use Rattle.std.proofs.Common.{sym, ap, subst, ◌∙◌, arith, take-append-drop, length-drop, take_all}
use Rattle.std.proofs.Math.Path.{subst⁻¹}
use mathlib.Core.List.{List, [], ◌∷◌, ◌++◌, append-nil, Mem, Nodup, Nodup-append}
use mathlib.Core.List.{Mem-prop, eq-or-mem_of_mem-cons, mem-append_right, mem-cons_self, not-mem-nil}
use Rattle.std.proofs.Math.Logic.Or
use Rattle.std.proofs.Math.Decide.{dec_le, ℕ_discrete}
use Rattle.std.specs.List.{All}
use Rattle.std.proofs.lemmas.List.Elements.{All-get_or, All-from_get_or}
use Rattle.std.proofs.Math.ListN.{get_or-append}
use Rattle.std.proofs.Math.Seq.{split_at, drop-append-add}
use Rattle.basics.specs.Decides.{Decides}
use Rattle.basics.specs.Facts.Decides.{same_as}
use Rattle.basics.specs.Facts.Members.{get_or_mem}
use Rattle.basics.specs.Limits.{largest_id}
use Rattle.basics.specs.OneTo.{OneTo}
use Rattle.messages.specs.Numbers.{stream_ids, message_numbers}
use Rattle.messages.specs.Waiting.{IsMessage}
use Rattle.messages.specs.Facts.Numbers.{stream_ids_append, in_stream_ids, stream_ids_of, message_numbers_of}
use Rattle.packets.specs.Good.{IdsGood, AreMessages, NumbersGood}

-- good stream ids with messages behind them are good
pub numbers_good : {ids ms : List ℕ} → IdsGood ids → AreMessages ms → NumbersGood (ids ++ ms)
numbers_good {ids} {ms} good each =
    let low : (n : ℕ) → Mem n ids → n ≤ largest_id = λ n m. (good.range n m).1 in
    let front = stream_ids_of ids ms low each in
    let rest = message_numbers_of ids ms low each in
    record { ids = subst⁻¹ IdsGood front good; messages = subst⁻¹ AreMessages rest each; behind = λ i. sym front i ++ sym rest i }

-- no messages at all are messages
pub no_messages : AreMessages []
no_messages n m = absurd (not-mem-nil m)

-- good stream ids alone are good
pub ids_alone : (ns : List ℕ) → IdsGood ns → NumbersGood ns
ids_alone ns good = subst NumbersGood (append-nil ns) (numbers_good good no_messages)

-- what holds of the number at each place holds of each number
each_place : (P : ℕ → Type 0) (ns : List ℕ) → ((k : ℕ) → k < length ns → P (get_or ns k 0)) → (n : ℕ) → Mem n ns → P n
each_place P [] each n m = absurd (not-mem-nil m)
each_place P (x ∷ ns) each n m = go (ℕ_discrete n x) (each_place P ns (λ k low. each (suc k) (omega arith)) n)
  where
    go : Dec (n ≡ x) → (Mem n ns → P n) → P n
    go (yes same) later = subst⁻¹ P same (each 0 (omega arith))
    go (no other) later = later (Or.elim Mem-prop (eq-or-mem_of_mem-cons m) (λ same. absurd (other same)) (λ behind. behind))

-- what decides that the number at each place is a message decides whether all are
pub all_tested : (ns : List ℕ) {all : Bool} → Decides all (All IsMessage ns) → Decides all (AreMessages ns)
all_tested ns =
    same_as (λ each. each_place (λ (n : ℕ). IsMessage n) ns (λ k low. All-get_or IsMessage ns k 0 low each))
    (λ each. All-from_get_or IsMessage ns 0 (λ k low. each _ (get_or_mem ns k 0 low)))

module _ (ns : List ℕ) (i : ℕ) (inside : i < length ns) where
  -- no id among good numbers stands at an earlier place too
  pub good_is_new : NumbersGood ns → get_or ns i 0 ≤ largest_id → Mem (get_or ns i 0) (take i ns) → ⊥
  good_is_new good low before =
      let id = get_or ns i 0 in
      let rest = id ∷ drop (suc i) ns in
      let parts : stream_ids ns ≡ stream_ids (take i ns) ++ stream_ids rest
      = ap stream_ids (split_at ns i 0 inside) ∙ stream_ids_append (take i ns) rest in
      (Nodup-append.0 (subst Nodup parts good.ids.once)).2 id (in_stream_ids before low) (in_stream_ids {ns = rest} mem-cons_self low)

  -- from a number on that is no id, good numbers are messages
  messages_from : NumbersGood ns → (OneTo largest_id (get_or ns i 0) → ⊥) → AreMessages (drop i ns)
  messages_from good no_id = go (dec_le (length ids) i)
    where
      ids : List ℕ
      ids = stream_ids ns

      ms : List ℕ
      ms = message_numbers ns

      go : Dec (length ids ≤ i) → AreMessages (drop i ns)
      go (yes past) n m =
          let e : i ≡ length ids + (i - length ids) = omega arith in
          let rest : drop i ns ≡ drop (i - length ids) ms
          = (λ k. drop (e k) (good.behind k)) ∙ drop-append-add ids ms (i - length ids) in
          good.messages n (subst (Mem n) (take-append-drop (i - length ids) ms)
          (mem-append_right (take (i - length ids) ms) (subst (Mem n) rest m)))
      go (no before) n m =
          let within : i < length ids = omega arith in
          let e : get_or ns i 0 ≡ get_or ids i 0 = ap (λ (l : List ℕ). get_or l i 0) good.behind ∙ get_or-append ids ms 0 i within in
          absurd (no_id (subst⁻¹ (λ (n : ℕ). OneTo largest_id n) e (good.ids.range (get_or ids i 0) (get_or_mem ids i 0 within))))

  -- where good ids end, the numbers are good exactly if all from there on are messages
  pub rest_decides : {b : Bool} → IdsGood (take i ns) → (OneTo largest_id (get_or ns i 0) → ⊥)
      → Decides b (AreMessages (take (length ns - i) (drop i ns))) → Decides b (NumbersGood ns)
  rest_decides good no_id =
      same_as (λ each. subst NumbersGood (take-append-drop i ns) (numbers_good good (subst AreMessages whole each)))
      (λ numbers. subst⁻¹ AreMessages whole (messages_from numbers no_id))
    where
      whole : take (length ns - i) (drop i ns) ≡ drop i ns
      whole = take_all (length ns - i) (drop i ns) (simp length-drop (omega arith))
