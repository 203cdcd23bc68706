-- "every reading fault, a 241st EDGE .. included": behind MAX_EDGES edges, and nothing that comes behind EDGEs, none is new, so a further EDGE is 8, or 2
-- where it is cut short.
use Rattle.reading.proofs.Prelude.{◌≡◌, refl, ap, ◌∙◌, List, ◌∷◌, ◌++◌, true, false, ℕ, ◌≤◌, ◌<◌, arith, dec_lt, length, get_or, lt-ltb, le-ltb}
use Rattle.reading.proofs.Prelude.{decided, decided_true, MAX_EDGES, RefusedBy, single, table, rule, usage, unit, edge, byte_of, kinds, operand_bytes}
use Rattle.reading.proofs.Prelude.{order_of, late, bad_edge, of_kind, command_at, step_of, reading, refused, UnitPair, Contents, commands, record_of}
use Rattle.reading.proofs.Prelude.{GoodEdge, WithinLimits, behind_edges, NoNewEdge, no_such_u, no_such_v, to_itself, repeated, Truncated, BadEdge}
use Rattle.reading.proofs.Prelude.{ReadPlan, Command, Fault as Faulty}
use Rattle.reading.proofs.CommandKinds.{kind_of_byte, count_behind, late_counted}
use Rattle.reading.proofs.Commands.{known_command}
use Rattle.reading.proofs.Walk.{walk_ended}
use Rattle.reading.proofs.Elements.{with, Few, few_so, few_within, Held, few_edges}
use Rattle.reading.proofs.ElementLists.{length-snoc, all_snoc, distinct_snoc}
use Rattle.reading.proofs.FaultRows.{decides_bad}
use Rattle.reading.proofs.RoundTrip.{commands_read}
use Rattle.plan.specs.declared.fault.Fault.{Fault}

module _ (c : Contents) (w : WithinLimits c) (all : length c.edges ≡ MAX_EDGES) (last : behind_edges c ≡ 0) where
  few : Few c
  few = few_within w

  -- one edge more would be one too many
  no_new_edge : (e : UnitPair) → NoNewEdge c e
  no_new_edge e = go (decided (decides_bad c few e))
    where
      below : (n : ℕ) → (length c.units ≤ n → NoNewEdge c e) → ¬ NoNewEdge c e → Dec (n < length c.units) → n < length c.units
      below n absent new (yes l) = l
      below n absent new (no l) = absurd (new (absent (omega arith)))

      good : ¬ NoNewEdge c e → GoodEdge (length c.units) e
      good new =
          record {
            from_there = below e.u no_such_u new (dec_lt _ _);
            to_there = below e.v no_such_v new (dec_lt _ _);
            apart = λ s. new (to_itself s);
          }

      more : ¬ NoNewEdge c e → Contents
      more new = with c edge e

      held : (new : ¬ NoNewEdge c e) → Held (more new)
      held new =
          record {
            few =
                few_so (more new) (λ s. w.under (single s)) (w.under table) (w.under rule) (w.under usage) (w.under unit) w.good_uses;
            no_use_again = w.no_use_again;
            good_edges = all_snoc (GoodEdge (length c.units)) c.edges e w.good_edges (good new);
            no_repeat = distinct_snoc c.edges e w.no_repeat (λ m. new (repeated m));
          }

      go : Dec (NoNewEdge c e) → NoNewEdge c e
      go (yes h) = h
      go (no new) = absurd (omega (arith, few_edges (more new) (held new), length-snoc c.edges e))

  module _ (more : List ℕ) where
    in_time : late (record_of c) (order_of edge) ≡ false
    unfolding record_of
    in_time = late_counted (record_of c) (order_of edge) ∙ le-ltb 0 (count_behind (record_of c) (order_of edge) kinds) (omega (arith, last))

    abbrev at : ℕ
    at = length (commands c)

    refused_there : (f : Fault) → command_at (record_of c) at (byte_of edge ∷ more) ≡ Faulty f
        → reading (commands c ++ (byte_of edge ∷ more)) ≡ refused f
    refused_there f e =
        commands_read c w (byte_of edge ∷ more) ∙ walk_ended (record_of c) at (byte_of edge ∷ more) (refused f) (ap (step_of (record_of c)) e)

    edge_there : (x : Command) → of_kind (record_of c) at edge more ≡ x → command_at (record_of c) at (byte_of edge ∷ more) ≡ x
    edge_there x e = known_command (record_of c) at (byte_of edge) more edge (kind_of_byte edge) ∙ e

    pub edge_refused : operand_bytes edge ≤ length more → RefusedBy (reading (commands c ++ (byte_of edge ∷ more))).outcome 8 at
    unfolding of_kind
    edge_refused long =
        let e : UnitPair = record { u = get_or more 0 0; v = get_or more 1 0 } in
        let bad : bad_edge (record_of c) e.u e.v ≡ true = decided_true (decides_bad c few e) (no_new_edge e) in
        let fault = edge_there (Faulty (BadEdge at)) (simp (in_time, le-ltb _ _ long, bad)) in
        record { fault = BadEdge at; is = ap (λ (r : ReadPlan). r.outcome) (refused_there (BadEdge at) fault); number_is = refl; spot_is = refl }

    pub cut_edge_refused : length more < operand_bytes edge → RefusedBy (reading (commands c ++ (byte_of edge ∷ more))).outcome 2 at
    unfolding of_kind
    cut_edge_refused short =
        let fault = edge_there (Faulty (Truncated at)) (simp (in_time, lt-ltb _ _ short)) in
        record { fault = Truncated at; is = ap (λ (r : ReadPlan). r.outcome) (refused_there (Truncated at) fault); number_is = refl; spot_is = refl }
