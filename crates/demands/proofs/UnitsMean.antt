-- The units of a plan mean what its lists say.
use Rattle.demands.proofs.Prelude.{◌≡◌, sym, subst, ◌↔◌, List, List-as-Memᴰ, ℕ, ◌<◌, ◌^◌, arith, length, Has, has_lt, Plan, UnitPair, Contents, GoodEdge}
use Rattle.demands.proofs.Prelude.{WithinLimits, Holds, Edge, units_of}
use Rattle.reading.proofs.ElementLists.{all_member}
use Rattle.plan_meaning.specs.Meaning.{Number, Means}
use Rattle.plan_meaning.proofs.RecordMeans.{number_lt, number_there, number_listed, record_means}
use Rattle.plan_meaning.proofs.AnswerSetsMean.{read_means}
use Rattle.demands.specs.UnitsMean.{UnitsMean, ListsMean}
use Rattle.demands.proofs.Demand1.{lays_units}

module _ {c : Contents} {p : Plan} (within : WithinLimits c) (m : Means c p) where
  holds_means : (u r : ℕ) → Holds (units_of p) u r ↔ ((word : ℕ) × Number c.units u word × Has word r)
  unfolding units_of
  holds_means u r = (
    λ h.
        let n = number_there c.units u (omega (arith, h.is_unit, m.unit_count_is)) in
        (n.0, n.1, subst (λ (w : ℕ). Has w r) (m.unit u n.0 n.1) h.holds),
    λ k.
        let small = number_listed (λ (w : ℕ). w < 2 ^ length c.rules) within.good_units k.1 in
        record {
          is_unit = omega (arith, number_lt k.1, m.unit_count_is);
          is_rule = omega (arith, has_lt k.0 (length c.rules) small k.2, m.rule_count_is);
          holds = subst (λ (w : ℕ). Has w r) (sym (m.unit u k.0 k.1)) k.2;
        },
  )

  edge_means : (u v : ℕ) → Edge (units_of p) u v ↔ ((e : UnitPair) × List-as-Memᴰ e c.edges × (e.u ≡ u) × (e.v ≡ v))
  unfolding units_of
  edge_means u v = (
    λ h. (m.edge u v (omega (arith, h.is_unit, m.unit_count_is))).0 h.edge,
    λ k.
        let good = all_member (GoodEdge (length c.units)) c.edges k.0 within.good_edges k.1 in
        record {
          is_unit = omega (arith, good.from_there, k.2, m.unit_count_is);
          is_predecessor = omega (arith, good.to_there, k.3, m.unit_count_is);
          edge = (m.edge u v (omega (arith, good.from_there, k.2))).1 k;
        },
  )

  pub units_mean : UnitsMean c (units_of p)
  unfolding units_of
  units_mean = record {
    rule_count_is = m.rule_count_is;
    unit_count_is = m.unit_count_is;
    rule = m.rule;
    looks_at = m.looks_at;
    holds = holds_means;
    edge = edge_means;
    given = m.given;
    shown = m.shown;
  }

-- the units of the lists, and those of what was read, which are the same
pub lists_mean : (bytes : List ℕ) → ListsMean bytes
lists_mean bytes = record {
  record_means = read_means bytes;
  units_mean = λ c l. units_mean l.within (record_means c l.within);
  read_units_mean = λ c l. subst (UnitsMean c) (sym (lays_units l)) (units_mean l.within (record_means c l.within));
}
