-- Rounds that pass one after the other: where they lead, how many there can be, and what stops them.
use Rattle.std.specs.Prelude.{◌≡◌, refl, List, [], ◌∷◌, ◌++◌, ℕ, ◌+◌, ◌≤◌, length}
use Rattle.std.proofs.Common.{sym, ap, ◌∙◌, append_assoc, append-nil, arith}
use Rattle.basics.specs.Limits.{last_start}
use Rattle.packet_bytes.specs.Layout.{Values, bytes_of}
use Rattle.state.specs.Content.{Content}
use Rattle.checker.specs.Plans.{of_packet, of_start, Passes, after_foreign, Passed, none, first, laid_out, Stops, BreaksRule}

-- one round more at the end
pub passed_more : {h c : Content} {rounds : List Values} → Passed h rounds c → (v : Values) → Passes c v → Passed h (rounds ++ (v ∷ [])) (after_foreign c v)
passed_more none v passes = first v passes none
passed_more (first w here rest) v passes = first w here (passed_more rest v passes)

-- one packet more at the end
pub laid_out_more : (rounds : List Values) (v : Values) → laid_out (rounds ++ (v ∷ [])) ≡ laid_out rounds ++ bytes_of v
unfolding laid_out
laid_out_more [] v = append-nil (bytes_of v)
laid_out_more (w ∷ rounds) v =
    ap (λ (l : List ℕ). bytes_of w ++ l) (laid_out_more rounds v) ∙ sym (append_assoc (bytes_of w) (laid_out rounds) (bytes_of v))

-- rounds that pass lead to one content
unfoldable led : Content → List Values → Content
led h [] = h
led h (v ∷ vs) = led (after_foreign h v) vs

leads_to : {h c : Content} {rounds : List Values} → Passed h rounds c → c ≡ led h rounds
unfolding led
leads_to none = refl
leads_to (first v passes rest) = leads_to rest

-- rounds that pass lead to one content
pub lead_to_one : {h c d : Content} {rounds : List Values} → Passed h rounds c → Passed h rounds d → c ≡ d
lead_to_one a b = leads_to a ∙ sym (leads_to b)

-- each start is after the one before, so there are no more rounds than moments
pub passed_rise : {h c : Content} {rounds : List Values} → Passed h rounds c → length rounds + h.last ≤ c.last
passed_rise none = omega arith
passed_rise (first v passes rest) = omega (arith, passes of_start, passed_rise rest)

-- and none starts after the clock's last start
pub passed_by_last : {h c : Content} {rounds : List Values} → Passed h rounds c → h.last ≤ last_start → c.last ≤ last_start
passed_by_last none early = early
passed_by_last (first v passes rest) early = passed_by_last rest (passes of_packet).0.start

-- a round that breaks a rule does not pass
pub rule_stops : {h : Content} {rest : List ℕ} {n : ℕ} → BreaksRule h rest n → Stops h rest
rule_stops broken v more same passes = let it = broken.in_front v more same in it.broken (passes it.rule)
