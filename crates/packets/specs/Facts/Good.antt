-- Whether values, or bytes, are those of a good packet can be decided.
use Rattle.std.specs.Prelude.{◌≡◌, ℕ, length}
use Rattle.std.proofs.Common.{sym, ap, subst, ◌∙◌}
use Rattle.std.proofs.Math.Logic.Dec.{and as Dec-and}
use mathlib.Core.List.{List, ◌++◌, decidable_b_all, nodup_decidable, List-discrete}
use Rattle.std.proofs.Math.Decide.{dec_le, ℕ_discrete, map_dec}
use Rattle.basics.specs.Limits.{last_start, most_slots, largest_id}
use Rattle.basics.specs.OneTo.{decide_one_to}
use Rattle.packet_bytes.specs.Layout.{Values, bytes_of}
use Rattle.messages.specs.Numbers.{stream_ids, message_numbers}
use Rattle.messages.specs.Waiting.{decide_message}
use Rattle.packets.specs.Good.{IdsGood, NumbersGood, IsGood, IsGoodPacket}
use Rattle.packet_bytes.specs.Parts.{values_in}
use Rattle.packet_bytes.specs.Facts.Layout.{values_kept}

decide_ids : (ids : List ℕ) → Dec (IdsGood ids)
decide_ids ids =
    map_dec (λ w. record { range = w.0; once = w.1 }) (λ r. (r.range, r.once))
    (Dec-and (decidable_b_all (decide_one_to largest_id) ids) (nodup_decidable ℕ_discrete ids))

decide_numbers : (ns : List ℕ) → Dec (NumbersGood ns)
decide_numbers ns =
    map_dec (λ w. record { ids = w.0; messages = w.1.0; behind = w.1.1 }) (λ r. (r.ids, (r.messages, r.behind)))
    (Dec-and (decide_ids (stream_ids ns))
    (Dec-and (decidable_b_all decide_message (message_numbers ns)) (List-discrete ℕ_discrete ns (stream_ids ns ++ message_numbers ns))))

-- whether values are good can be decided
pub decide_good : (v : Values) → Dec (IsGood v)
decide_good v =
    map_dec (λ w. record { start = w.0; slots = w.1.0; count = w.1.1.0; ids = w.1.1.1 }) (λ r. (r.start, (r.slots, (r.count, r.ids))))
    (Dec-and (dec_le v.start last_start)
    (Dec-and (decide_one_to most_slots v.slots)
    (Dec-and (dec_le (length v.ids) v.slots) (decide_numbers v.ids))))

-- bytes that are those of some values are those of the values in them
pub values_are_in : {p : List ℕ} (v : Values) → p ≡ bytes_of v → v ≡ values_in p
values_are_in {p} v same = sym (values_kept v) ∙ ap values_in (sym same)

-- the values in the bytes of a good packet are good
pub good_in : {p : List ℕ} → IsGoodPacket p → IsGood (values_in p)
good_in (v, same, good) = subst IsGood (values_are_in v same) good

-- whether a list of numbers is the bytes of a good packet can be decided
pub decide_packet : (p : List ℕ) → Dec (IsGoodPacket p)
decide_packet p =
    map_dec (λ w. (values_in p, w.0, w.1)) (λ is. (is.1 ∙ ap bytes_of (values_are_in is.0 is.1), good_in is))
    (Dec-and (List-discrete ℕ_discrete p (bytes_of (values_in p))) (decide_good (values_in p)))
