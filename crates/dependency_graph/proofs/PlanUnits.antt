-- The units of a plan: the rest of a body depends on what it looks at alone; and the tables of head atoms.
use Rattle.dependency_graph.proofs.Prelude.{◌≡◌, ap, ◌∙◌, List, ℕ, ◌<◌, get_or, ◌∪◌, union_in, union_swap, union_in_same, Plan, LooksOnly, reach, own}
use Rattle.dependency_graph.proofs.Prelude.{heads, input_heads, units_of, FilledFirst}
use Rattle.answer_sets.proofs.Bodies.{rest_same}
use Rattle.dependency_graph.proofs.Filled.{filled_same, filled_again}

module _ (p : Plan) where
  pub looks_only : LooksOnly (units_of p)
  unfolding units_of
  looks_only = record { same = rest_same p.rules }

  -- H(u) from the tables of own head atoms and of reach
  heads_at : (owns reached : List ℕ) → ((v : ℕ) → v < p.unit_count → get_or owns v 0 ≡ own (units_of p) v)
      → ((v : ℕ) → v < p.unit_count → get_or reached v 0 ≡ reach (units_of p) v) → (u : ℕ) → u < p.unit_count
      → p.once.given.word ∪ (get_or owns u 0 ∪ union_in p.unit_count (get_or reached u 0) (λ v. get_or owns v 0)) ≡ heads (units_of p) u
  unfolding heads units_of
  heads_at owns reached o t u l =
      rw (o u l, t u l, union_in_same p.unit_count (reach (units_of p) u) (λ v. get_or owns v 0) (own (units_of p)) o)

  pub heads_filled : {zeros zeros' owns reached before unions after : List ℕ} → FilledFirst p.unit_count (own (units_of p)) zeros owns
      → FilledFirst p.unit_count (reach (units_of p)) zeros' reached
      → FilledFirst p.unit_count (λ u. p.once.given.word ∪ union_in p.unit_count (get_or reached u 0) (λ v. get_or owns v 0)) before unions
      → FilledFirst p.unit_count (λ u. get_or owns u 0 ∪ get_or unions u 0) unions after
      → FilledFirst p.unit_count (heads (units_of p)) before after
  heads_filled {owns = owns} {reached = reached} o t j a =
      filled_same (filled_again j a) (heads (units_of p))
      (λ u l. ap (λ (w : ℕ). get_or owns u 0 ∪ w) (j.filled u l)
      ∙ union_swap (get_or owns u 0) p.once.given.word (union_in p.unit_count (get_or reached u 0) (λ v. get_or owns v 0))
      ∙ heads_at owns reached o.filled t.filled u l)

  -- Hp(u) from the table of all H(v)
  pub inputs_filled : {zeros table before after : List ℕ} → FilledFirst p.unit_count (heads (units_of p)) zeros table
      → FilledFirst p.unit_count (λ u. p.once.given.word ∪ union_in p.unit_count (get_or p.predecessors u 0) (λ v. get_or table v 0)) before after
      → FilledFirst p.unit_count (input_heads (units_of p)) before after
  unfolding input_heads units_of
  inputs_filled {table = table} h t =
      filled_same t (input_heads (units_of p))
      (λ u l. ap (λ (w : ℕ). p.once.given.word ∪ w)
      (union_in_same p.unit_count (get_or p.predecessors u 0) (λ v. get_or table v 0) (heads (units_of p)) h.filled))
