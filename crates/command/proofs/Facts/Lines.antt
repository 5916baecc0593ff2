-- What stays true from field to field of a line, and what it says at the end and where reading fails.
use Rattle.std.specs.Prelude.{◌≡◌, refl, ◌⊎◌, None, ℕ, ◌+◌, ◌≤◌, ◌<◌, length, take, drop, get_or, set}
use Rattle.std.proofs.Common.{sym, ap, subst, ◌∙◌, inl, inr, lt_irrefl, add-one, arith, length-append, length-set, drop_of_length-le, take-suc-set, length-take-le}
use Rattle.std.proofs.Math.Logic.Or
use Rattle.std.proofs.Math.Logic.{∥∥₁_elim}
use mathlib.Core.List.Memᴰ
use mathlib.Core.List.{List, [], ◌∷◌, ◌++◌, mem-append, mem-append_right, not-mem-nil, nil≢cons, append-nil, append_assoc}
use Rattle.std.proofs.Math.Bridge.{le_prop}
use Rattle.command.specs.Text.{IsFields, none}
use Rattle.command.specs.Commands.{number_limit}
use Rattle.command.proofs.Facts.Fields.{IsFirst, fields_cases, not_at_end, IsAfter, field_within, field_on, field_back, field_bad}
use Rattle.command.specs.Reads.{IsNumberAtStart, IsReadField, Fit, AreNumbers}

fit_last : {ns : List ℕ} {v : ℕ} → Fit ns → v < number_limit → Fit (ns ++ (v ∷ []))
fit_last {ns = ns} {v = v} fit small n there =
    Or.elim le_prop (mem-append.0 there) (λ before. fit n before) (λ last. ∥∥₁_elim last le_prop (λ d. omega (arith, Memᴰ.eq_of_singleton d)))

-- The fields before place `at` are read: their numbers are the first `count` values, and whatever fields follow are those of the line after them.
pub record IsReadUpTo (line values : List ℕ) (count at : ℕ) : Type 0 where
  pub within : at ≤ length line
  pub counted : count ≤ 4
  pub places : length values ≡ 4
  pub fit : Fit (take count values)
  pub on : (ns : List ℕ) → IsFields (drop at line) ns → IsFields (drop 1 line) (take count values ++ ns)
  pub back : (ns : List ℕ) → IsFields (drop 1 line) ns → IsAfter (drop at line) (take count values) ns

-- at the byte behind its letter no field of a line is read yet
pub at_first : (line values : List ℕ) → 1 ≤ length line → length values ≡ 4 → IsReadUpTo line values 0 1
at_first line values some places =
    record {
      within = some;
      counted = omega arith;
      places = places;
      fit = λ n there. absurd (not-mem-nil there);
      on = λ ns fields. fields;
      back = λ ns fields. record { others = ns; numbers = refl; fields = fields };
    }

module _ {line values : List ℕ} {count at : ℕ} (to : IsReadUpTo line values count at) where
  -- one field more
  pub field_more : at < length line → count < 4 → {v n next : ℕ} → get_or line at 0 ≡ 44 → IsNumberAtStart (drop (at + 1) line) v n
      → at + 1 + n ≡ next → IsReadUpTo line (set values count v) (count + 1) next
  field_more inside room {v = v} {n = n} comma start ends =
      subst (IsReadUpTo line (set values count v) (count + 1)) ends
      (record {
        within = field_within line at inside comma start;
        counted = omega arith;
        places = length-set values count v ∙ to.places;
        fit = rw longer (fit_last to.fit start.fits);
        on = λ ns fields. rw (longer, append_assoc (take count values) (v ∷ []) ns) (to.on (v ∷ ns) (field_on line at inside comma start ns fields));
        back = after;
      })
    where
      longer : take (count + 1) (set values count v) ≡ take count values ++ (v ∷ [])
      longer = rw (add-one count, take-suc-set values count v (omega (arith, to.places)))

      after : (ns : List ℕ) → IsFields (drop 1 line) ns → IsAfter (drop (at + 1 + n) line) (take (count + 1) (set values count v)) ns
      after ns fields =
          let rest = to.back ns fields in
          let next = field_back line at inside comma start rest.others rest.fields in
          record {
            others = next.others;
            numbers = rw (longer, append_assoc (take count values) (v ∷ []) next.others)
                (rest.numbers ∙ ap (λ (l : List ℕ). take count values ++ l) next.numbers);
            fields = next.fields;
          }

  -- at the end of the line all is read
  pub all_read : length line ≤ at → AreNumbers line (take count values)
  all_read past =
      record {
        fit = to.fit;
        fields = rw (append-nil (take count values)) at (to.on [] (rw end none));
        only = λ others fields. only_these others (to.back others fields);
      }
    where
      end : drop at line ≡ []
      end = drop_of_length-le line past

      no_more : {ns : List ℕ} → ((drop at line ≡ []) × (ns ≡ [])) ⊎ IsFirst (drop at line) ns → ns ≡ []
      no_more (inl (_, nothing)) = nothing
      no_more (inr f) = absurd (nil≢cons (sym end ∙ f.split))

      only_these : (others : List ℕ) → IsAfter (drop at line) (take count values) others → others ≡ take count values
      only_these others rest =
          rest.numbers ∙ ap (λ (l : List ℕ). take count values ++ l) (no_more (fields_cases rest.fields)) ∙ append-nil (take count values)

  -- a line with more than four fields is not good
  pub too_many : at < length line → 3 < count → (ns : List ℕ) → length ns ≤ 4 → Fit ns → IsFields (drop 1 line) ns → ⊥
  too_many inside full ns few fit fields = go (fields_cases rest.fields)
    where
      rest : IsAfter (drop at line) (take count values) ns
      rest = to.back ns fields

      four : length (take count values) ≡ count
      four = length-take-le count values (omega (arith, to.places, to.counted))

      go : ((drop at line ≡ []) × (rest.others ≡ [])) ⊎ IsFirst (drop at line) rest.others → ⊥
      go (inl (end, _)) = not_at_end line at inside end
      go (inr f) =
          lt_irrefl 0 (omega (arith, four, ap length rest.numbers, length-append (take count values) rest.others, ap length f.numbers))

  -- nor is one with a field that cannot be read
  pub field_fails : at < length line → IsReadField line at None → (ns : List ℕ) → Fit ns → IsFields (drop 1 line) ns → ⊥
  field_fails inside bad ns fit fields =
      let rest = to.back ns fields in
      field_bad line at inside bad rest.others (λ n there. fit n (rw rest.numbers (mem-append_right (take count values) there))) rest.fields
