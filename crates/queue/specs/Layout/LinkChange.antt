-- The links after an entry is put in or taken out.
use Rattle.std.specs.Prelude.{◌≡◌, ℕ, ◌-◌, ◌≤◌, ◌<◌}
use Rattle.std.proofs.Common.{sym, subst, ◌∙◌, inl, inr, lt_irrefl, arith}
use Rattle.std.proofs.Math.Path.{ap, subst⁻¹}
use Rattle.std.proofs.Math.Logic.{ite}
use Rattle.std.proofs.Math.Decide.{dec_lt, ℕ_discrete}
use Rattle.basics.specs.Limits.{places}
use Rattle.places.specs.Changes.{IsSet}
use Rattle.queue.specs.Layout.{IsNode, bucket_of_key, bucket_of}
use Rattle.queue.specs.Layout.Ranks.{low, high, RankLinked, AllRankLinked, low_place, high_place, bucket_place}

-- what is said of a node hangs on its own id and key
module _ (ids ids' keys keys' : ℕ → ℕ) (y : ℕ) (same_id : ids' y ≡ ids y) (same_key : keys' y ≡ keys y) where
  keep_node : IsNode ids y → IsNode ids' y
  keep_node (inl place) = inl (place.0, rw same_id place.1)
  keep_node (inr head) = inr head

  keep_low : low ids' y ≡ low ids y
  unfolding low
  keep_low = ap (λ (v : ℕ). ite (dec_lt y places) v 0) same_id

  keep_high : high ids' y ≡ high ids y
  unfolding high
  keep_high = ap (λ (v : ℕ). ite (dec_lt y places) v 65_536_000_032_768) same_id

  keep_bucket : bucket_of keys' y ≡ bucket_of keys y
  unfolding bucket_of
  keep_bucket = ap (λ (v : ℕ). ite (dec_lt y places) (bucket_of_key v) (y - places)) same_key

-- the two halves of RankLinked: the link to the next node, and the link to the one before
abbrev NextOk : (ids keys next prev : ℕ → ℕ) → ℕ → Type 0
NextOk ids keys next prev y = IsNode ids (next y) × (bucket_of keys (next y) ≡ bucket_of keys y) × (prev (next y) ≡ y) × (low ids y < high ids (next y))

abbrev PrevOk : (ids next prev : ℕ → ℕ) → ℕ → Type 0
PrevOk ids next prev y = IsNode ids (prev y) × (next (prev y) ≡ y)

both_ok : (ids keys next prev : ℕ → ℕ) (y : ℕ) → NextOk ids keys next prev y → PrevOk ids next prev y → RankLinked ids keys next prev y
both_ok ids keys next prev y on back =
    record { next_is_node = on.0; next_in_bucket = on.1; next_returns = on.2; in_order = on.3; prev_is_node = back.0; prev_returns = back.1 }

module _ (ids ids' keys keys' next' prev' : ℕ → ℕ) (y z : ℕ)
    (same_y : (ids' y ≡ ids y) × (keys' y ≡ keys y)) (same_z : (ids' z ≡ ids z) × (keys' z ≡ keys z)) where
  -- a link from y to z between nodes whose ids and keys are as before
  next_kept : IsNode ids z → bucket_of keys z ≡ bucket_of keys y → low ids y < high ids z → next' y ≡ z → prev' z ≡ y → NextOk ids' keys' next' prev' y
  next_kept node bucket order to back =
      let from_bucket = keep_bucket ids ids' keys keys' y same_y.0 same_y.1 in
      let to_bucket = keep_bucket ids ids' keys keys' z same_z.0 same_z.1 in (
        rw to (keep_node ids ids' keys keys' z same_z.0 same_z.1 node),
        ap (bucket_of keys') to ∙ (to_bucket ∙ (bucket ∙ sym from_bucket)),
        ap prev' to ∙ back,
        rw (to, keep_low ids ids' keys keys' y same_y.0 same_y.1, keep_high ids ids' keys keys' z same_z.0 same_z.1) order,
      )

  prev_kept : IsNode ids z → prev' y ≡ z → next' z ≡ y → PrevOk ids' next' prev' y
  prev_kept node to on = (rw to (keep_node ids ids' keys keys' z same_z.0 same_z.1 node), ap next' to ∙ on)

-- the links after an entry is put between a node p and the next one
module _ (ids ids' keys keys' next next' prev prev' : ℕ → ℕ) (x id key p : ℕ)
    (linked : AllRankLinked ids keys next prev) (set_id : IsSet ids x id ids') (set_key : IsSet keys x key keys')
    (inside : x < places) (free : ids x ≡ 0) (some : 1 ≤ id) (p_node : IsNode ids p) (bucket : bucket_of keys p ≡ bucket_of_key key)
    (above : low ids p < id) (below : id < high ids (next p))
    (from_p : next' p ≡ x) (from_x : next' x ≡ next p) (next_else : (y : ℕ) → (y ≡ p → ⊥) → (y ≡ x → ⊥) → next' y ≡ next y)
    (to_n : prev' (next p) ≡ x) (to_x : prev' x ≡ p) (prev_else : (y : ℕ) → (y ≡ next p → ⊥) → (y ≡ x → ⊥) → prev' y ≡ prev y) where
  not_free : (y : ℕ) → IsNode ids y → y ≡ x → ⊥
  not_free y (inl place) e = omega (arith, subst (λ (z : ℕ). 1 ≤ ids z) e place.1)
  not_free y (inr head) e = omega arith

  put_node : (y : ℕ) → IsNode ids' y → (y ≡ x → ⊥) → IsNode ids y
  put_node y (inl place) else = inl (place.0, rw (set_id.elsewhere y else) at place.1)
  put_node y (inr head) else = inr head

  x_node : IsNode ids' x
  x_node = inl (inside, rw set_id.at some)

  n_node : IsNode ids (next p)
  n_node = (linked p p_node).next_is_node

  x_bucket : bucket_of keys' x ≡ bucket_of_key key
  x_bucket = bucket_place keys' x inside ∙ ap bucket_of_key set_key.at

  kept : (y : ℕ) → IsNode ids y → (ids' y ≡ ids y) × (keys' y ≡ keys y)
  kept y node = (set_id.elsewhere y (not_free y node), set_key.elsewhere y (not_free y node))

  at_x : RankLinked ids' keys' next' prev' x
  at_x =
      let n = next p in
      let k = kept n n_node in
      let n_bucket = keep_bucket ids ids' keys keys' n k.0 k.1 in
      record {
        next_is_node = rw from_x (keep_node ids ids' keys keys' n k.0 k.1 n_node);
        next_in_bucket = ap (bucket_of keys') from_x ∙ (n_bucket ∙ ((linked p p_node).next_in_bucket ∙ (bucket ∙ sym x_bucket)));
        next_returns = ap prev' from_x ∙ to_n;
        in_order = rw (from_x, low_place ids' x inside, set_id.at, keep_high ids ids' keys keys' n k.0 k.1) below;
        prev_is_node = rw to_x (keep_node ids ids' keys keys' p (kept p p_node).0 (kept p p_node).1 p_node);
        prev_returns = ap next' to_x ∙ from_p;
      }

  at_p : NextOk ids' keys' next' prev' p
  at_p =
      let k = kept p p_node in (
        rw from_p x_node,
        ap (bucket_of keys') from_p ∙ (x_bucket ∙ (sym bucket ∙ sym (keep_bucket ids ids' keys keys' p k.0 k.1))),
        ap prev' from_p ∙ to_x,
        rw (from_p, keep_low ids ids' keys keys' p k.0 k.1, high_place ids' x inside, set_id.at) above,
      )

  next_elsewhere : (y : ℕ) → IsNode ids y → Dec (y ≡ p) → NextOk ids' keys' next' prev' y
  next_elsewhere y node (yes e) = subst⁻¹ (NextOk ids' keys' next' prev') e at_p
  next_elsewhere y node (no other) =
      let l = linked y node in
      let not_n : next y ≡ next p → ⊥ = λ e. other (sym l.next_returns ∙ (ap prev e ∙ (linked p p_node).next_returns)) in
      next_kept ids ids' keys keys' next' prev' y (next y) (kept y node) (kept (next y) l.next_is_node) l.next_is_node l.next_in_bucket l.in_order
      (next_else y other (not_free y node)) (prev_else (next y) not_n (not_free (next y) l.next_is_node) ∙ l.next_returns)

  prev_elsewhere : (y : ℕ) → IsNode ids y → Dec (y ≡ next p) → PrevOk ids' next' prev' y
  prev_elsewhere y node (yes e) = subst⁻¹ (PrevOk ids' next' prev') e (rw to_n x_node, ap next' to_n ∙ from_x)
  prev_elsewhere y node (no other) =
      let l = linked y node in
      let not_p : prev y ≡ p → ⊥ = λ e. other (sym l.prev_returns ∙ ap next e) in
      prev_kept ids ids' keys keys' next' prev' y (prev y) (kept y node) (kept (prev y) l.prev_is_node) l.prev_is_node
      (prev_else y other (not_free y node)) (next_else (prev y) not_p (not_free (prev y) l.prev_is_node) ∙ l.prev_returns)

  -- every node, the new one too, is linked, and ranks rise along the links
  pub put_linked : AllRankLinked ids' keys' next' prev'
  put_linked y node = go (ℕ_discrete y x)
    where
      go : Dec (y ≡ x) → RankLinked ids' keys' next' prev' y
      go (yes e) = subst⁻¹ (RankLinked ids' keys' next' prev') e at_x
      go (no other) =
          let old = put_node y node other in
          both_ok ids' keys' next' prev' y (next_elsewhere y old (ℕ_discrete y p)) (prev_elsewhere y old (ℕ_discrete y (next p)))

module _ (ranks keys next prev : ℕ → ℕ) (x : ℕ) (linked : RankLinked ranks keys next prev x) (inside : x < places) where
  -- ranks rise past an entry, so it is neither its own next ..
  pub next_differs : next x ≡ x → ⊥
  next_differs e =
      let rises = rw (low_place ranks x inside) at linked.in_order in
      lt_irrefl (ranks x) (subst (λ (z : ℕ). ranks x < z) (ap (high ranks) e ∙ high_place ranks x inside) rises)

  -- .. nor its own previous
  pub prev_differs : prev x ≡ x → ⊥
  prev_differs e = next_differs (sym (ap next e) ∙ linked.prev_returns)

-- the links after an entry x is taken out
module _ (ids ids' keys keys' next next' prev prev' : ℕ → ℕ) (x key : ℕ)
    (linked : AllRankLinked ids keys next prev) (set_id : IsSet ids x 0 ids') (set_key : IsSet keys x key keys')
    (inside : x < places) (holds : 1 ≤ ids x)
    (over : next' (prev x) ≡ next x) (next_rest : (y : ℕ) → (y ≡ prev x → ⊥) → (y ≡ x → ⊥) → next' y ≡ next y)
    (under : prev' (next x) ≡ prev x) (prev_rest : (y : ℕ) → (y ≡ next x → ⊥) → (y ≡ x → ⊥) → prev' y ≡ prev y) where
  gone : RankLinked ids keys next prev x
  gone = linked x (inl (inside, holds))

  before_gone : RankLinked ids keys next prev (prev x)
  before_gone = linked (prev x) gone.prev_is_node

  left_node : (y : ℕ) → IsNode ids' y → (y ≡ x → ⊥) × IsNode ids y
  left_node y (inl place) =
      let other : y ≡ x → ⊥ = λ e. lt_irrefl 0 (omega (arith, subst (λ (z : ℕ). 1 ≤ ids' z) e place.1, set_id.at)) in
      (other, inl (place.0, rw (set_id.elsewhere y other) at place.1))
  left_node y (inr head) = ((λ e. lt_irrefl 0 (omega (arith, e))), inr head)

  stays : (y : ℕ) → (y ≡ x → ⊥) → (ids' y ≡ ids y) × (keys' y ≡ keys y)
  stays y other = (set_id.elsewhere y other, set_key.elsewhere y other)

  next_stays : (ids' (next x) ≡ ids (next x)) × (keys' (next x) ≡ keys (next x))
  next_stays = stays (next x) (next_differs ids keys next prev x gone inside)

  prev_stays : (ids' (prev x) ≡ ids (prev x)) × (keys' (prev x) ≡ keys (prev x))
  prev_stays = stays (prev x) (prev_differs ids keys next prev x gone inside)

  next_left : (y : ℕ) → IsNode ids y → (y ≡ x → ⊥) → Dec (y ≡ prev x) → NextOk ids' keys' next' prev' y
  next_left y node other (yes e) =
      let up_to_x = rw (gone.prev_returns, high_place ids x inside) at before_gone.in_order in
      let on_from_x = rw (low_place ids x inside) at gone.in_order in
      subst⁻¹ (NextOk ids' keys' next' prev') e
      (next_kept ids ids' keys keys' next' prev' (prev x) (next x) prev_stays next_stays gone.next_is_node
      (gone.next_in_bucket ∙ (ap (bucket_of keys) (sym gone.prev_returns) ∙ before_gone.next_in_bucket)) (omega arith) over under)
  next_left y node other (no not_p) =
      let l = linked y node in
      let not_x : next y ≡ x → ⊥ = λ e. not_p (sym l.next_returns ∙ ap prev e) in
      let not_n : next y ≡ next x → ⊥ = λ e. other (sym l.next_returns ∙ (ap prev e ∙ gone.next_returns)) in
      next_kept ids ids' keys keys' next' prev' y (next y) (stays y other) (stays (next y) not_x) l.next_is_node l.next_in_bucket l.in_order
      (next_rest y not_p other) (prev_rest (next y) not_n not_x ∙ l.next_returns)

  prev_left : (y : ℕ) → IsNode ids y → (y ≡ x → ⊥) → Dec (y ≡ next x) → PrevOk ids' next' prev' y
  prev_left y node other (yes e) =
      subst⁻¹ (PrevOk ids' next' prev') e
      (prev_kept ids ids' keys keys' next' prev' (next x) (prev x) next_stays prev_stays gone.prev_is_node under over)
  prev_left y node other (no not_n) =
      let l = linked y node in
      let not_x : prev y ≡ x → ⊥ = λ e. not_n (sym l.prev_returns ∙ ap next e) in
      let not_p : prev y ≡ prev x → ⊥ = λ e. other (sym l.prev_returns ∙ (ap next e ∙ gone.prev_returns)) in
      prev_kept ids ids' keys keys' next' prev' y (prev y) (stays y other) (stays (prev y) not_x) l.prev_is_node
      (prev_rest y not_n other) (next_rest (prev y) not_p not_x ∙ l.prev_returns)

  -- every node that is left is linked, and ranks rise along the links
  pub taken_linked : AllRankLinked ids' keys' next' prev'
  taken_linked y node =
      let old = left_node y node in
      both_ok ids' keys' next' prev' y (next_left y old.1 old.0 (ℕ_discrete y (prev x))) (prev_left y old.1 old.0 (ℕ_discrete y (next x)))
