-- In good numbers the stream ids are the first.
use Rattle.std.specs.Prelude.{◌≡◌, refl, List, ℕ, ◌+◌, ◌≤◌, length, take, drop}
use Rattle.std.proofs.Common.{sym, ap, ◌∙◌, arith, length-append, take-append-drop, take_at}
use Rattle.std.proofs.lemmas.List.{take-append-le}
use Rattle.messages.specs.Numbers.{stream_ids, message_numbers}
use Rattle.packets.specs.Good.{NumbersGood}

-- in good numbers the ids stand in front of all others
ids_in_front : {ns : List ℕ} → NumbersGood ns → take (length (stream_ids ns)) ns ≡ stream_ids ns
ids_in_front {ns} good = ap (take (length (stream_ids ns))) good.behind ∙ take_at (stream_ids ns) (message_numbers ns) (length (stream_ids ns)) refl

-- .. and so they are the first of all that stand in an array of which the first n are good
pub ids_listed : (numbers : List ℕ) (n m : ℕ) → NumbersGood (take n numbers) → m ≡ length (stream_ids (take n numbers))
    → take m numbers ≡ stream_ids (take n numbers)
ids_listed numbers n m good is =
    let ids = stream_ids (take n numbers) in
    let others = message_numbers (take n numbers) in
    let all : length (take n numbers) ≡ length ids + length others = ap (length {A = ℕ}) good.behind ∙ length-append ids others in
    let within : m ≤ length (take n numbers) = omega arith in
    ap (take m) (sym (take-append-drop n numbers))
    ∙ take-append-le m (take n numbers) (drop n numbers) within
    ∙ ap (λ (k : ℕ). take k (take n numbers)) is
    ∙ ids_in_front good
